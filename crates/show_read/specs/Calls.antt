-- What the calls that read a store answer, and their promises by name (paper 01, "The store"): the memories of a kind in the order of the
-- written stream, a slot's head, where its levels begin, a dimmer's patch. Slots and dimmers count from 1; one that the desk lacks is "not
-- kept".
-- Assumes nothing.
use Rattle.std.specs.Prelude.{cond, List, [], ◌∷◌, ◌≡◌, ℕ, ◌-◌, eqb, length, Err, None, Ok, Option, Result, Some}
use Rattle.cells.specs.Note.{noted_from}
use Rattle.cells.specs.Search.{Found, at, nowhere}
use Rattle.store_desk.specs.declared.Desk.{Desk}
use Rattle.store_desk.specs.declared.Kind.{Kind}
use Rattle.store_desk.specs.declared.Kind.TheVariants.{Cue, Group, Sub}
use Rattle.store_desk.specs.Name.{kind_number, has_slot, has_dimmer}
use Rattle.store_desk.specs.Refusal.{Reply, replied, refused}
use Rattle.store_head.specs.Layout.{head_values, patch_values}
use Rattle.store.specs.Slots.{head_at}
use Rattle.store.specs.View.{patched_to}
use Rattle.save.specs.Listed.{slot_numbers}
use Rattle.show.specs.Calls.{lent_admission, admission_of, not_kept, find_reply, placed_at}
use Rattle.store_head.specs.declared.Head.{Head}
use Rattle.store_head.specs.declared.Patch.{Patch}
use Rattle.store_desk.specs.declared.Refusal.{Refusal}

-- ---- memories: R2 to R4c; how many are kept, and their slots in the lent list

pub record ListCall : Type 0 where
  pub reply : Reply
  pub slots : List ℕ

abbrev pub listed_as : Reply → List ℕ → ListCall
listed_as a l = record { reply = a; slots = l }

abbrev pub list_reply : Result (Option ℕ) Refusal → Reply
list_reply (Err r) = refused r
list_reply (Ok None) = not_kept
list_reply (Ok (Some n)) = replied (n ∷ [])

unfoldable pub list_of : Desk → List ℕ → Kind → List ℕ → ListCall
list_of d s k l = listed_as (replied (length (slot_numbers d s k) ∷ [])) (noted_from 0 l (slot_numbers d s k))

-- the kind that a number names; any other number names none
unfoldable pub kind_list : Desk → List ℕ → ℕ → List ℕ → ListCall
kind_list d s n l =
    cond (eqb n (kind_number Cue)) (list_of d s Cue l)
    (cond (eqb n (kind_number Group)) (list_of d s Group l)
    (cond (eqb n (kind_number Sub)) (list_of d s Sub l) (listed_as not_kept l)))

unfoldable pub memories_by : Result Unit Refusal → Desk → List ℕ → ℕ → List ℕ → ListCall
memories_by (Ok _) d s n l = kind_list d s n l
memories_by (Err r) d s n l = listed_as (refused r) l

unfoldable pub memories_call : Desk → List ℕ → ℕ → List ℕ → ListCall
memories_call d s n l = memories_by (admission_of d s) d s n l

-- of its answer, and the lent list afterwards
abbrev pub MemoriesPromise : Desk → List ℕ → ℕ → List ℕ → Result (Option ℕ) Refusal → List ℕ → Type 0
MemoriesPromise d s n l a m = listed_as (list_reply a) m ≡ memories_call d s n l

-- ---- head, levels, patch: R2, R3; the bits as they stand, whatever the store's form

-- the slot that a number names
unfoldable pub slot_named : Desk → ℕ → Found
slot_named d n = cond (has_slot d n) (at (n - 1)) nowhere

-- the values of a slot's head, in the order of its table, the zero bits last
abbrev pub head_reply : Result (Option Head) Refusal → Reply
head_reply (Err r) = refused r
head_reply (Ok None) = not_kept
head_reply (Ok (Some h)) = replied (head_values h)

unfoldable pub head_in : Desk → List ℕ → Found → Reply
head_in d s (at i) = replied (head_values (head_at d s i))
head_in d s nowhere = not_kept

unfoldable pub head_by : Result Unit Refusal → Desk → List ℕ → ℕ → Reply
head_by (Ok _) d s n = head_in d s (slot_named d n)
head_by (Err r) d s n = refused r

unfoldable pub head_call : Desk → List ℕ → ℕ → Reply
head_call d s n = head_by (lent_admission d s) d s n

abbrev pub HeadPromise : Desk → List ℕ → ℕ → Result (Option Head) Refusal → Type 0
HeadPromise d s n a = head_reply a ≡ head_call d s n

-- where a slot's levels begin
unfoldable pub levels_by : Result Unit Refusal → Desk → ℕ → Reply
levels_by (Ok _) d n = placed_at d (slot_named d n)
levels_by (Err r) d n = refused r

unfoldable pub levels_call : Desk → List ℕ → ℕ → Reply
levels_call d s n = levels_by (lent_admission d s) d n

abbrev pub LevelsPromise : Desk → List ℕ → ℕ → Result (Option ℕ) Refusal → Type 0
LevelsPromise d s n a = find_reply a ≡ levels_call d s n

-- a dimmer's channel, 0 where it is unpatched, its level, and the entry's zero bits
abbrev pub patch_reply : Result (Option Patch) Refusal → Reply
patch_reply (Err r) = refused r
patch_reply (Ok None) = not_kept
patch_reply (Ok (Some p)) = replied (patch_values p)

unfoldable pub patch_in : Desk → List ℕ → ℕ → ℕ → Reply
patch_in d s page dimmer = cond (has_dimmer d page dimmer) (replied (patch_values (patched_to d s page dimmer))) not_kept

unfoldable pub patch_by : Result Unit Refusal → Desk → List ℕ → ℕ → ℕ → Reply
patch_by (Ok _) d s page dimmer = patch_in d s page dimmer
patch_by (Err r) d s page dimmer = refused r

unfoldable pub patch_call : Desk → List ℕ → ℕ → ℕ → Reply
patch_call d s page dimmer = patch_by (lent_admission d s) d s page dimmer

abbrev pub PatchPromise : Desk → List ℕ → ℕ → ℕ → Result (Option Patch) Refusal → Type 0
PatchPromise d s page dimmer a = patch_reply a ≡ patch_call d s page dimmer
