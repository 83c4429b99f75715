-- Good form as facts, for the laws: the test `good_form` says yes exactly where they hold (laws `good_sound`, `good_complete`).
-- Assumes nothing.
use Rattle.std.specs.Prelude.{true, false, List, ◌≡◌, ℕ, ◌<◌, ◌≤◌, length}
use Rattle.store_desk.specs.declared.Desk.{Desk}
use Rattle.store_desk.specs.Size.{InRange, slots_of, entries_of, store_length}
use Rattle.store.specs.Form.{slot_fits, shares, entry_fits}

pub record GoodForm (d : Desk) (s : List ℕ) : Type 0 where
  pub slots : (i : ℕ) → i < slots_of d → slot_fits d s i ≡ true
  pub single : (i j : ℕ) → j < i → i < slots_of d → shares d s i j ≡ false
  pub entries : (j : ℕ) → j < entries_of d → entry_fits d s j ≡ true

-- a store that a call answers: the desk is in range (R2), the store is long enough (R3) and in good form (R4)
pub record Ready (d : Desk) (s : List ℕ) : Type 0 where
  pub range : InRange d
  pub long : store_length d ≤ length s
  pub form : GoodForm d s
