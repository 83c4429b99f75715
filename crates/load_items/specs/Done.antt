-- Items as the code takes them: pairs or triples, the open memory by its slot, faults as words in a lent list. No promise above the load names
-- these.
-- Assumes nothing.
use Rattle.std.specs.Prelude.{List, [], ◌∷◌, map, ℕ, ◌+◌, set}
use Rattle.cells.specs.Put.{put}
use Rattle.store_desk.specs.declared.Desk.{Desk}
use Rattle.text_fields.specs.Words.{Word}
use Rattle.store.specs.declared.Edit.TheVariants.{Level as SetLevel}
use Rattle.store.specs.Change.{edit_at, patched}
use Rattle.load.specs.declared.Entry.{Entry}
use Rattle.load.specs.declared.Entry.TheVariants.{Level, Patch, Faulty}
use Rattle.load.specs.declared.Fault.{Fault}
use Rattle.load.specs.Item.{pairs_of, triples_of}
use Rattle.load.specs.Fits.{fault_word}
use Rattle.load_items.specs.declared.Aim.{Aim}
use Rattle.load_items.specs.declared.Aim.TheVariants.{Slot, Page}
use Rattle.load_items.specs.declared.Group.{Group}
use Rattle.load_items.specs.declared.Group.TheVariants.{Pair, Triple}

unfoldable pub entries_in : Group → Desk → List Word → List Entry
entries_in Pair d ws = pairs_of d ws
entries_in Triple d ws = triples_of d ws

-- what items do to a store, as `done` and `all_done` have it
unfoldable pub done_at : Desk → Aim → List ℕ → Entry → List ℕ
done_at d (Slot i) t (Level channel v) = edit_at d t i (SetLevel channel v)
done_at d (Slot i) t (Patch channel dimmer v) = t
done_at d (Slot i) t (Faulty f) = t
done_at d (Page p) t (Level channel v) = t
done_at d (Page p) t (Patch channel dimmer v) = patched d t p dimmer channel v
done_at d (Page p) t (Faulty f) = t

unfoldable pub all_done_at : Desk → Aim → List ℕ → List Entry → List ℕ
all_done_at d aim t [] = t
all_done_at d aim t (e ∷ es) = all_done_at d aim (done_at d aim t e) es

-- the lent list with faults at its front
unfoldable pub faults_in : List ℕ → List Fault → List ℕ
faults_in fs xs = put fs 0 (map (λ (f : Fault). fault_word f) xs)

-- an item has two characters at least, so that forty are room enough for a record's faults
abbrev pub most_faults : ℕ
most_faults = 40

-- one more item's fault, if it has one, behind n others
pub record Noted : Type 0 where
  pub count : ℕ
  pub faults : List ℕ

abbrev pub noted : ℕ → List ℕ → Noted
noted n fs = record { count = n; faults = fs }

unfoldable pub noted_in : ℕ → List ℕ → Entry → Noted
noted_in n fs (Level channel v) = noted n fs
noted_in n fs (Patch channel dimmer v) = noted n fs
noted_in n fs (Faulty f) = noted (n + 1) (set fs n (fault_word f))
