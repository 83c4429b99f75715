-- What holds of an item that is read: an obeyed one names a channel, and a dimmer, that the desk has, and its level is a byte; a fault's
-- condition fits a report. For laws and for private functions; no promise names these.
-- Assumes nothing.
use Rattle.std.specs.Prelude.{Bool, cond, ◌&&◌, List, [], ◌∷◌, ℕ, ◌+◌, ◌*◌, ◌/◌, ◌%◌, ◌≤◌, ◌<◌, max, Result}
use Rattle.store_desk.specs.declared.Desk.{Desk}
use Rattle.store_desk.specs.declared.Kind.{Kind}
use Rattle.store_desk.specs.declared.Kind.TheVariants.{Cue, Group, Sub}
use Rattle.store_desk.specs.Size.{Within}
use Rattle.text_fields.specs.declared.Field.{Field}
use Rattle.text_fields.specs.Words.{Word, head_of, tail_of}
use Rattle.text_fields.specs.Keywords.{item_of}
use Rattle.text_fields.specs.Places.{is_missing}
use Rattle.load.specs.declared.Fault.{Fault}
use Rattle.load.specs.declared.Entry.{Entry}
use Rattle.load.specs.declared.Entry.TheVariants.{Level, Patch, Faulty}
use Rattle.load.specs.declared.Basic.{Basic}
use Rattle.load.specs.declared.Numbers.{Numbers}
use Rattle.load.specs.declared.Outcome.TheVariants.{Obeyed}
use Rattle.load.specs.declared.Secondary.{Secondary}
use Rattle.load.specs.declared.State.{State}
use Rattle.load.specs.Ask.{Ask, rests, named_of, primary_ask, secondary_ask, table_pages, item_ask, basic_ask}
use Rattle.load.specs.Anew.{next_named, anew_primary_ask, asks_link, is_clear, fields_ask_in}
use Rattle.load.specs.Step.{Step, acted}
use Rattle.load.specs.Run.{condition_span}
use Rattle.store_desk.specs.declared.Key.{Key}

-- a field as the code has it is blamed
abbrev pub blame_field : Field → ℕ → Fault
blame_field f c = record { condition = c; place = cond (is_missing f) 0 (f.start + 1) }

abbrev pub EntryFits : Desk → Entry → Type 0
EntryFits d (Level channel v) = Within 1 channel d.channels × (v < 256)
EntryFits d (Patch channel dimmer v) = Within 1 channel d.channels × Within 1 dimmer d.dimmers × (v < 256)
EntryFits d (Faulty f) = f.condition < condition_span

abbrev pub AllFit : Desk → List Entry → Type 0
AllFit d [] = Unit {0}
AllFit d (e ∷ es) = EntryFits d e × AllFit d es

-- a fault in one word of a lent list: its place above the condition's bits; and back
abbrev pub fault_word : Fault → ℕ
fault_word f = f.place * condition_span + f.condition

abbrev pub fault_in : ℕ → Fault
fault_in w = record { condition = w % condition_span; place = w / condition_span }

-- faults whose conditions fit a report
unfoldable pub Small : List Fault → Type 0
Small [] = Unit {0}
Small (f ∷ fs) = (f.condition < condition_span) × Small fs

-- faults whose places are within so many characters
unfoldable pub Near : ℕ → List Fault → Type 0
Near n [] = Unit {0}
Near n (f ∷ fs) = (f.place ≤ n) × Near n fs

-- the highest page that a table has: CLEAR ALL finds a table for a page up to it, and none beyond (law `all_ask_lem`)
unfoldable pub highest_page : Desk → ℕ
highest_page d = max (max (table_pages d Cue) (table_pages d Group)) (max (table_pages d Sub) d.patch_pages)

-- ---- either load, part by part, as the code is cut

-- a record number has 18 bits, so that no load reads more records
abbrev pub most_records : ℕ
most_records = 262143

-- no more of a kind were accepted than there are records
pub record NumbersFit (n : Numbers) : Type 0 where
  pub cues : n.cues ≤ most_records
  pub groups : n.groups ≤ most_records
  pub subs : n.subs ≤ most_records

abbrev pub named_in : Desk → Numbers → Kind → List Word → Result Key Fault
named_in d n k ws = cond n.anew (next_named d n k ws) (named_of d k ws)

abbrev pub primary_ask_in : Desk → Numbers → Kind → Word → List Word → Ask
primary_ask_in d n k w ws = cond n.anew (anew_primary_ask d n k w ws) (primary_ask d k w ws)

abbrev pub secondary_ask_in : Bool → Desk → State → Secondary → Word → List Word → Ask
secondary_ask_in anew d s e w ws = cond (anew && asks_link s.«open» e) (rests Obeyed) (secondary_ask d s.key s.«open» e w ws)

abbrev pub clear_ask_in : Bool → Desk → Word → List Word → Ask
clear_ask_in every d w ws = item_ask d (item_of (head_of ws).chars) w (cond every [] (tail_of ws))

abbrev pub basic_ask_in : Bool → Desk → Basic → Word → List Word → Ask
basic_ask_in anew d b w ws = cond (anew && is_clear b) (item_ask d (item_of (head_of ws).chars) w []) (basic_ask d b w ws)

-- by the fields of a record
abbrev pub text_step : Desk → Numbers → State → List Word → List ℕ → Step
text_step d n s ws t = acted d s t (fields_ask_in d n s ws)
