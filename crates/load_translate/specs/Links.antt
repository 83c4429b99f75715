-- The links at the end of the load, as the code makes them: from the last bearer that was found for each slot (paper 02, C-13). No promise above
-- this crate names these.
-- Assumes nothing.
use Rattle.std.specs.Prelude.{Bool, true, false, cond, not, ◌&&◌, List, [], ◌∷◌, ℕ, zero, suc, ◌-◌, ◌≤◌, eqb, get_or}
use Rattle.store_desk.specs.declared.Desk.{Desk}
use Rattle.store_desk.specs.declared.Kind.TheVariants.{Cue}
use Rattle.store.specs.declared.Edit.TheVariants.{Link as SetLink}
use Rattle.store.specs.Slots.{head_at, is_used}
use Rattle.store.specs.Change.{edit_at}
use Rattle.load.specs.Condition.{bad_number}
use Rattle.load.specs.Fits.{most_records}
use Rattle.load.specs.Anew.{next_key}
use Rattle.load.specs.Translated.{Linked}
use Rattle.load_tell.specs.declared.Count.{Count}
use Rattle.load_tell.specs.Count.{Told, told, told_as}

-- ---- the counters, the store and the lent list
pub record Links : Type 0 where
  pub told : Told
  pub store : List ℕ

abbrev pub linking : Count → List ℕ → List ℕ → Links
linking n t reps = record { told = told n reps; store = t }

-- a cue that links to no cue is reported
unfoldable pub lead_on : Desk → ℕ → ℕ → Links → Links
lead_on d i bearer z =
    cond (eqb bearer 0) (record { told = told_as z.told bad_number 0; store = z.store })
    (record { told = z.told; store = edit_at d z.store i (SetLink (next_key d Cue (bearer - 1)).whole 0) })

-- slot i, whose cue asked for this number, and 1, if it is used
unfoldable pub link_on : Desk → ℕ → ℕ → ℕ → Links → Links
link_on d i asked bearer z = cond (not (eqb asked 0) && is_used (head_at d z.store i)) (lead_on d i bearer z) z

-- of n cue slots from i on
unfoldable pub links_on : Desk → List ℕ → List ℕ → ℕ → ℕ → Links → Links
links_on d asked found zero i z = z
links_on d asked found (suc n) i z = links_on d asked found n (suc i) (link_on d i (get_or asked i 0) (get_or found i 0) z)

-- ---- the same from the definition: its links to no cue, reported
unfoldable pub lost_told : ℕ → Told → Told
lost_told zero y = y
lost_told (suc n) y = told_as (lost_told n y) bad_number 0

unfoldable pub linked_by : Linked → Told → Links
linked_by x y = record { told = lost_told x.lost y; store = x.store }

-- any number asked for
unfoldable pub any_asked : List ℕ → Bool
any_asked [] = false
any_asked (a ∷ asked) = let r = any_asked asked in cond (eqb a 0) r true

-- counters that can take a report for each cue
pub record Losing (n : Count) : Type 0 where
  pub numbered : n.records ≤ most_records
  pub room : n.reports ≤ most_records
