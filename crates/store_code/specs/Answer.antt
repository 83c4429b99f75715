-- What the operations answer: where a memory was started and the store after it, and the part of the store that is handed out (paper 01,
-- "The store": "the levels are handed out as the very C bytes in the store").
-- Assumes nothing.
use Rattle.std.specs.Prelude.{◌≡◌, Bool, List, ℕ, ◌+◌, ◌-◌, ◌*◌, eqb, Option}
use Rattle.std.specs.Borrow.{Bor}
use Rattle.store_desk.specs.declared.Desk.{Desk}
use Rattle.store_desk.specs.declared.Key.{Key}
use Rattle.store_desk.specs.declared.Kind.{Kind}
use Rattle.store_desk.specs.Size.{head_length, slot_length}
use Rattle.store_desk.specs.Name.{Name}
use Rattle.store.specs.Slots.{levels_at, place_of}
use Rattle.store.specs.Change.{seat, started}
use Rattle.store.specs.Order.{slot_word}

-- the name that a call gives by its parts
abbrev pub name_of : Kind → Key → Name
name_of kind key = record { kind = kind; key = key }

-- slot i has this word, where the bytes s are the slots from first on
abbrev pub is_word : Desk → List ℕ → ℕ → ℕ → ℕ → Bool
is_word d s first w i = eqb (slot_word d s (i - first)) w

-- a place, and the store
pub record Started : Type 0 where
  pub place : Option ℕ
  pub store : List ℕ

abbrev pub started_as : Option ℕ → List ℕ → Started
started_as p s = record { place = p; store = s }

-- where the memory of a name goes, and the store once it is there
unfoldable pub start_of : Desk → List ℕ → Name → Started
start_of d s n = started_as (place_of (seat d s n)) (started d s n)

-- r is the levels of slot i of the store s: their bytes, and where they lie, in the same block of memory and so many bytes after s begins
pub record LevelsOf (d : Desk) (s : Bor (List ℕ)) (i : ℕ) (r : Bor (List ℕ)) : Type 0 where
  pub bytes : r.now ≡ levels_at d s.now i
  pub block : r.ref_ptr.0 ≡ s.ref_ptr.0
  pub offset : r.ref_ptr.1 ≡ s.ref_ptr.1 + (i * slot_length d + head_length)
