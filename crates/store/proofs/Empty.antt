-- Emptying: every slot and entry zero, nothing kept, good form, the bytes past the needed length as they were. By parts of a run of zeros.
-- Assumes nothing.
use mathlib.Core.Path.{◌≡◌, sym, ap, ◌∙◌, subst}
use mathlib.Core.Bool.{false}
use mathlib.Core.List.{List}
use Prim.Native.Nat.{ℕ, zero, ◌+◌, ◌*◌, ◌<◌, ◌≤◌}
use native.Mathlib.Nat.{zero-add}
use native.Mathlib.Omega.{arith}
use lib.ListN.{length, take, drop, replicate, length-replicate}
use Rattle.cells.specs.Put.{put}
use Rattle.cells.proofs.Put.{length-put, part_inside, drop_after, put_whole}
use Rattle.cells.proofs.Search.{none_is}
use Rattle.cells.proofs.Split.{clash}
use Rattle.store_desk.specs.declared.Desk.{Desk}
use Rattle.store_desk.specs.Size.{Within, InRange, entry_length_of, slot_length, slots_of, patch_start, entries_of, store_length}
use Rattle.store_desk.specs.Name.{Name, first_slot, slot_count, entry_of}
use Rattle.store_desk.proofs.Name.{kind_end, entry_inside}
use Rattle.store.specs.Slots.{slot_at, entry_at, head_at, is_used, holds_at, find}
use Rattle.store.specs.View.{absent, memory_of, patched_to}
use Rattle.store.specs.Change.{patch_entry, emptied}
use Rattle.store.specs.Good.{Ready}
use Rattle.store.proofs.Places.{slots_end_lem, slot_end, entry_end}
use Rattle.store.proofs.Find.{holds_unused}
use Rattle.store.proofs.Form.{single_of}
use Rattle.store.proofs.Start.{absent_at}
use Rattle.store.proofs.Clear.{zero_unused, zero_fits}
use Rattle.store.proofs.Patches.{part_zeros, zero_entry, zero_entry_fits}

module _ (d : Desk) (s : List ℕ) (long : store_length d ≤ length s) where
  zeros_length : length (replicate (store_length d) (zero)) ≡ store_length d
  zeros_length = length-replicate (store_length d) (zero)

  pub empty_length : length (emptied d s) ≡ length s
  unfolding emptied
  empty_length = let z = zeros_length in length-put s 0 (replicate (store_length d) 0) (omega arith)

  pub empty_tail : drop (store_length d) (emptied d s) ≡ drop (store_length d) s
  unfolding emptied
  empty_tail = let z = zeros_length in drop_after s 0 (replicate (store_length d) 0) (store_length d) (omega arith) (omega arith)

  zero_part : (b m : ℕ) → b + m ≤ store_length d → take m (drop b (emptied d s)) ≡ replicate m 0
  unfolding emptied
  zero_part b m h =
      let z = zeros_length in
      ap (λ (k : ℕ). take m (drop k (put s 0 (replicate (store_length d) 0)))) (sym (zero-add b))
      ∙ part_inside s 0 (replicate (store_length d) 0) b m (omega arith) (omega arith)
      ∙ part_zeros m b (store_length d) h

  pub empty_slot : (i : ℕ) → i < slots_of d → slot_at d (emptied d s) i ≡ replicate (slot_length d) 0
  unfolding slot_at
  empty_slot i h =
      let a = slot_end d i h in
      let b = slots_end_lem d in
      zero_part (i * slot_length d) (slot_length d) (omega arith)

  pub empty_entry : (j : ℕ) → j < entries_of d → entry_at d (emptied d s) j ≡ replicate entry_length_of 0
  unfolding entry_at
  empty_entry j h = zero_part (patch_start d + j * entry_length_of) entry_length_of (entry_end d j h)

  unused : (i : ℕ) → i < slots_of d → is_used (head_at d (emptied d s) i) ≡ false
  unused i h = zero_unused d (emptied d s) i (slot_length d) (empty_slot i h)

  pub empty_view : (m : Name) → memory_of d (emptied d s) m ≡ absent
  unfolding find
  empty_view m =
      absent_at d (emptied d s) m
      (none_is (holds_at d (emptied d s) m.key) (slot_count d m.kind) (first_slot d m.kind)
      (λ j h l. let e = kind_end d m.kind in holds_unused d (emptied d s) m.key j (unused j (omega arith))))

  pub empty_patch : (page dimmer : ℕ) → Within 1 page d.patch_pages → Within 1 dimmer d.dimmers → patched_to d (emptied d s) page dimmer ≡ patch_entry 0 0
  unfolding patched_to
  empty_patch page dimmer hp hd =
      zero_entry d (emptied d s) (entry_of d page dimmer) (empty_entry (entry_of d page dimmer) (entry_inside d page dimmer hp hd))

  pub empty_good : InRange d → Ready d (emptied d s)
  empty_good r =
      record {
        range = r;
        long = subst (λ (z : ℕ). store_length d ≤ z) (sym empty_length) long;
        form =
            record {
              slots = λ i h. zero_fits d (emptied d s) i (slot_length d) (empty_slot i h);
              single = single_of d (emptied d s) (λ i h u. clash u (unused i h));
              entries = λ j h. zero_entry_fits d (emptied d s) j (empty_entry j h);
            };
      }

-- zeros of just the length that the desk needs are in good form
pub zeros_ready : (d : Desk) → InRange d → Ready d (replicate (store_length d) 0)
unfolding emptied
zeros_ready d r =
    let e : length (replicate (store_length d) zero) ≡ store_length d = length-replicate (store_length d) zero in
    subst (Ready d) (put_whole (replicate (store_length d) 0) (replicate (store_length d) 0) (omega arith)) (empty_good d (replicate (store_length d) 0) (omega arith) r)
