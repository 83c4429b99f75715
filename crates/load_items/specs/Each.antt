-- One item as the code takes it: what its fields come to, each read in the scan that finds its end, and what they make together. No promise above
-- this crate names these.
-- Assumes nothing.
use Rattle.std.specs.Prelude.{◌≡◌, cond, List, ℕ, ◌≤◌, ◌<◌, length, get_or, Err, Ok, Result}
use Rattle.store_desk.specs.declared.Desk.{Desk}
use Rattle.text_records.specs.Received.{longest}
use Rattle.text_fields.specs.Places.{end_from, start_at, end_at, word_at}
use Rattle.text_fields.specs.Tables.{chars_at}
use Rattle.value.specs.Integer.{integer_of}
use Rattle.value_level.specs.Level.{is_hex_mark, level_of}
use Rattle.load.specs.declared.Entry.{Entry}
use Rattle.load.specs.declared.Entry.TheVariants.{Level, Patch, Faulty}
use Rattle.load.specs.Condition.{bad_hex, bad_percent, bad_dimmer}
use Rattle.load.specs.Run.{condition_span}
use Rattle.load.specs.Item.{ranged_of, pair_of, triple_of}
use Rattle.load_items.specs.declared.Group.{Group}
use Rattle.load_items.specs.declared.Group.TheVariants.{Pair, Triple}
use Rattle.load_items.specs.declared.Item.{Item}
use Rattle.load_items.specs.declared.Lit.{Lit}
use Rattle.load_items.specs.declared.Read.{Read}
use Rattle.value_level.specs.declared.LevelError.{LevelError}
use Rattle.value_level.specs.declared.LevelError.TheVariants.{NotPercent, NotHex}

-- a place in a record's text where a field starts, or its end
pub record On (text : List ℕ) (place : ℕ) : Type 0 where
  pub within : place ≤ length text
  pub short : length text ≤ longest
  pub starts : start_at text place ≡ place

-- ---- a field from a place on: its value or its condition, and where it ends

abbrev pub wrong_at : List ℕ → ℕ → ℕ → Read
wrong_at text place c = record { value = 0; condition = c; end = end_from text place }

unfoldable pub ranged_read : Result ℕ ℕ → ℕ → Read
ranged_read (Ok n) end = record { value = n; condition = 0; end = end }
ranged_read (Err c) end = record { value = 0; condition = c; end = end }

unfoldable pub lit_by : Result ℕ LevelError → ℕ → Lit
lit_by (Err NotPercent) end = record { level = 0; condition = bad_percent; end = end }
lit_by (Err NotHex) end = record { level = 0; condition = bad_hex; end = end }
lit_by (Ok v) end = record { level = v; condition = 0; end = end }

unfoldable pub ranged_at : ℕ → ℕ → List ℕ → ℕ → Read
ranged_at limit beyond text place = ranged_read (ranged_of limit beyond (integer_of (chars_at text place))) (end_from text place)

unfoldable pub lit_at : List ℕ → ℕ → Lit
lit_at text place = lit_by (level_of (chars_at text place)) (end_from text place)

-- a level from a place on that goes on behind another with what no level has
abbrev pub unlit_at : List ℕ → ℕ → ℕ → Lit
unlit_at text place end = lit_by (cond (is_hex_mark (get_or text place 0)) (Err NotHex) (Err NotPercent)) (end_from text end)

-- a triple's dimmer; a pair has none
unfoldable pub between_at : Desk → Group → List ℕ → ℕ → Read
between_at d Pair text place = record { value = 0; condition = 0; end = place }
between_at d Triple text place = ranged_at d.dimmers bad_dimmer text (start_at text place)

-- ---- an item

unfoldable pub entry_of : Group → ℕ → ℕ → ℕ → Entry
entry_of Pair channel dimmer v = Level channel v
entry_of Triple channel dimmer v = Patch channel dimmer v

-- the item whose first field is the one from a place on, and the place where its last field ends
unfoldable pub item_at : Desk → Group → List ℕ → ℕ → Item
item_at d Pair text place =
    let second = end_at text place in
    record { entry = pair_of d (word_at text place) (word_at text second); end = end_at text second }
item_at d Triple text place =
    let second = end_at text place in
    let third = end_at text second in
    record { entry = triple_of d (word_at text place) (word_at text second) (word_at text third); end = end_at text third }

-- a fault that fits a word
abbrev pub PlaceFits : Entry → Type 0
PlaceFits (Level channel v) = Unit {0}
PlaceFits (Patch channel dimmer v) = Unit {0}
PlaceFits (Faulty f) = (f.place ≤ longest) × (f.condition < condition_span)
