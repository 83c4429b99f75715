-- A walk over a store by the calls that read it, and the show (paper 01, "The store"; "The written stream": "by page and number"): of a store in
-- good form the listed slots are those of the kept memories of the kind, each once and in order, and what the readers tell of a slot is the
-- memory that the store keeps under its name (`memory_of`, of which demands 2 and 3 speak). Law `walked_show`.
-- Assumes nothing.
use Rattle.std.specs.Prelude.{Bool, true, List, [], ◌∷◌, ◌⊎◌, ◌≡◌, ℕ, ◌-◌, take, drop}
use Rattle.store_desk.specs.declared.Desk.{Desk}
use Rattle.store_desk.specs.declared.Key.{Key}
use Rattle.store_desk.specs.declared.Kind.{Kind}
use Rattle.store_desk.specs.Name.{Name, less_key}
use Rattle.store_desk.specs.Refusal.{replied}
use Rattle.store_desk.specs.Size.{levels_length}
use Rattle.store_head.specs.Layout.{head_values}
use Rattle.store.specs.Slots.{head_at, key_of}
use Rattle.store.specs.View.{Memory, kept, memory_of}
use Rattle.save.specs.Listed.{slot_numbers}
use Rattle.show_read.specs.Calls.{head_call, levels_call}

-- x stands in a list
abbrev pub In : ℕ → List ℕ → Type 0
In x [] = ⊥
In x (y ∷ ys) = (x ≡ y) ⊎ In x ys

-- each is less than every one behind it
abbrev pub Ascending : (ℕ → ℕ → Bool) → List ℕ → Type 0
Ascending less [] = Unit
Ascending less (x ∷ xs) = ((y : ℕ) → In y xs → less x y ≡ true) × Ascending less xs

abbrev pub named : Kind → Key → Name
named k key = record { kind = k; key = key }

-- the key in the slot of a number
abbrev pub key_in : Desk → List ℕ → ℕ → Key
key_in d s n = key_of (head_at d s (n - 1))

-- memory m is kept under its name, and the readers tell it of slot number n
pub record Told (d : Desk) (s : List ℕ) (k : Kind) (n : ℕ) (m : Memory) : Type 0 where
  pub held : memory_of d s (named k (key_of m.head)) ≡ kept m
  pub values : head_call d s n ≡ replied (head_values m.head)
  pub place : ℕ
  pub begins : levels_call d s n ≡ replied (place ∷ [])
  pub levels : take (levels_length d) (drop place s) ≡ m.levels

pub record WalkedShow (d : Desk) (s : List ℕ) (k : Kind) : Type 0 where
  -- every listed slot has a memory of the show
  pub listed : (n : ℕ) → In n (slot_numbers d s k) → (m : Memory) × Told d s k n m
  -- every memory of the show is listed
  pub all : (key : Key) (m : Memory) → memory_of d s (named k key) ≡ kept m → (n : ℕ) × In n (slot_numbers d s k) × Told d s k n m
  -- by page and number, so that none is listed twice
  pub order : Ascending (λ a b. less_key (key_in d s a) (key_in d s b)) (slot_numbers d s k)
