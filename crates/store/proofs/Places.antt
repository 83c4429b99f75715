-- Slots and patch entries after one of them is replaced: the same reads back, every other and all bytes past the needed length stay.
-- The only file that knows offsets; by the laws of `put`.
-- Assumes nothing.
use mathlib.Core.Path.{◌≡◌, sym, ap, ◌∙◌}
use mathlib.Core.List.{List}
use Prim.Native.Nat.{ℕ, ◌+◌, ◌*◌, ◌<◌, ◌≤◌}
use native.Mathlib.Omega.{arith}
use lib.ListN.{length, take, drop, length-drop}
use lib.Seq.{length-take-le, drop-drop}
use Rattle.cells.proofs.Arith.{apart}
use Rattle.cells.proofs.Put.{part_of_front, length-put, part_same, part_before, part_after, drop_after, record_same, record_other}
use Rattle.cells.proofs.Split.{by_lt}
use Rattle.store_desk.specs.declared.Desk.{Desk}
use Rattle.store_desk.specs.Size.{head_length, entry_length_of, slot_length, levels_length, slots_of, patch_start, entries_of, store_length}
use Rattle.store.specs.Slots.{slot_at, put_slot, entry_at, put_entry, levels_at}

-- ---- what lies within the needed length
pub slots_end_lem : (d : Desk) → patch_start d ≤ store_length d
unfolding store_length
slots_end_lem d = omega arith

pub slot_end : (d : Desk) (i : ℕ) → i < slots_of d → i * slot_length d + slot_length d ≤ patch_start d
unfolding patch_start
slot_end d i h = apart (slot_length d) h

pub entry_end : (d : Desk) (j : ℕ) → j < entries_of d → patch_start d + j * entry_length_of + entry_length_of ≤ store_length d
unfolding store_length
entry_end d j h = omega arith

-- the levels of a slot in the store's bytes
pub levels_part : (d : Desk) (s : List ℕ) (i : ℕ) → levels_at d s i ≡ take (levels_length d) (drop (i * slot_length d + head_length) s)
unfolding levels_at slot_at slot_length
levels_part d s i =
    sym (part_of_front (drop (i * (head_length + levels_length d)) s) head_length (levels_length d))
    ∙ ap (λ (z : List ℕ). take (levels_length d) z) (drop-drop head_length (i * (head_length + levels_length d)) s)

module _ (d : Desk) (s : List ℕ) (long : store_length d ≤ length s) where
  within : (i : ℕ) → i < slots_of d → i * slot_length d + slot_length d ≤ length s
  within i h =
      let a = slot_end d i h in
      let b = slots_end_lem d in
      omega arith

  pub slot_length_lem : (i : ℕ) → i < slots_of d → length (slot_at d s i) ≡ slot_length d
  unfolding slot_at
  slot_length_lem i h =
      let w = within i h in
      let l = length-drop (i * slot_length d) s in
      length-take-le (slot_length d) (drop (i * slot_length d) s) (omega arith)

  -- it has its head
  pub slot_headed : (i : ℕ) → i < slots_of d → head_length ≤ length (slot_at d s i)
  unfolding slot_length
  slot_headed i h = let e = slot_length_lem i h in omega arith

  pub entry_length : (j : ℕ) → j < entries_of d → length (entry_at d s j) ≡ entry_length_of
  unfolding entry_at
  entry_length j h =
      let w = entry_end d j h in
      let l = length-drop (patch_start d + j * entry_length_of) s in
      length-take-le entry_length_of (drop (patch_start d + j * entry_length_of) s) (omega arith)

  -- ---- a slot replaced
  module _ (i : ℕ) (h : i < slots_of d) (x : List ℕ) (e : length x ≡ slot_length d) where
    pub put_length : length (put_slot d s i x) ≡ length s
    unfolding put_slot
    put_length = let w = within i h in length-put s (i * slot_length d) x (omega arith)

    pub slot_same : slot_at d (put_slot d s i x) i ≡ x
    unfolding slot_at put_slot
    slot_same = record_same s (slot_length d) i x e (within i h)

    pub slot_other : (j : ℕ) → (i ≡ j → ⊥) → slot_at d (put_slot d s i x) j ≡ slot_at d s j
    unfolding slot_at put_slot
    slot_other j ne = record_other s (slot_length d) i j x e (within i h) ne

    -- the entries stay
    pub slot_patch : (j : ℕ) → entry_at d (put_slot d s i x) j ≡ entry_at d s j
    unfolding entry_at put_slot
    slot_patch j =
        let w = slot_end d i h in
        let v = within i h in
        part_after s (i * slot_length d) x (patch_start d + j * entry_length_of) entry_length_of (omega arith) (omega arith)

    pub slot_tail : drop (store_length d) (put_slot d s i x) ≡ drop (store_length d) s
    unfolding put_slot
    slot_tail =
        let w = slot_end d i h in
        let b = slots_end_lem d in
        drop_after s (i * slot_length d) x (store_length d) (omega arith) (omega arith)

  -- ---- an entry replaced
  module _ (i : ℕ) (h : i < entries_of d) (x : List ℕ) (e : length x ≡ entry_length_of) where
    pub entry_put_length : length (put_entry d s i x) ≡ length s
    unfolding put_entry
    entry_put_length = let w = entry_end d i h in length-put s (patch_start d + i * entry_length_of) x (omega arith)

    pub entry_same : entry_at d (put_entry d s i x) i ≡ x
    unfolding entry_at put_entry
    entry_same = let w = entry_end d i h in part_same s (patch_start d + i * entry_length_of) x entry_length_of (omega arith) e

    pub entry_other : (j : ℕ) → (i ≡ j → ⊥) → entry_at d (put_entry d s i x) j ≡ entry_at d s j
    unfolding entry_at put_entry
    entry_other j ne =
        let w = entry_end d i h in
        by_lt i j
        (λ l. part_after s (patch_start d + i * entry_length_of) x (patch_start d + j * entry_length_of) entry_length_of (omega arith) (omega arith))
        (λ l. part_before s (patch_start d + i * entry_length_of) x (patch_start d + j * entry_length_of) entry_length_of (omega arith) (omega arith))

    -- the slots stay
    pub patch_slots : (j : ℕ) → j < slots_of d → slot_at d (put_entry d s i x) j ≡ slot_at d s j
    unfolding slot_at put_entry
    patch_slots j g =
        let w = entry_end d i h in
        let v = slot_end d j g in
        part_before s (patch_start d + i * entry_length_of) x (j * slot_length d) (slot_length d) (omega arith) (omega arith)

    pub entry_tail : drop (store_length d) (put_entry d s i x) ≡ drop (store_length d) s
    unfolding put_entry
    entry_tail =
        let w = entry_end d i h in
        drop_after s (patch_start d + i * entry_length_of) x (store_length d) (omega arith) (omega arith)
