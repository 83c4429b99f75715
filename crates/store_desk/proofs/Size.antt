-- The ranges of a desk as a test and as facts, and bounds of its lengths: from the test by its parts, of products by the products of the bounds.
-- Assumes nothing.
use mathlib.Core.Path.{◌≡◌, refl}
use mathlib.Core.Bool.{Bool, true, false, true≢false}
use mathlib.Core.List.{List, [], ◌∷◌}
use Prim.Native.Nat.{ℕ, zero, suc, ◌*◌, ◌≤◌}
use native.Mathlib.Nat.{mul-le-mul}
use native.Mathlib.Omega.{arith}
use lib.Dec.{leb}
use lib.ListN.{get_or}
use borrow.Author.Tests.{leb-true, le-leb}
use Rattle.std.specs.Prelude.{Some}
use Rattle.std.specs.Ordering.{nat_cmp, is_le}
use Rattle.std.specs.declared.ops.RangeInclusive.{RangeInclusive}
use Rattle.std.specs.Range.{range_inclusive_start, range_inclusive_end, range_inclusive_exhausted, range_inclusive_contains}
use Rattle.std.proofs.lemmas.Bool.Decides.{nat_tests}
use Rattle.store_desk.specs.declared.Desk.{Desk}
use Rattle.store_desk.specs.Size.{all_of, Within, is_within, InRange, in_range_of, house, level_width, levels_length, slot_length, sub_slots, slots_of, patch_start, entries_of, store_length}
use Rattle.cells.proofs.Split.{and_true, and_left, and_right, and_false_left, and_false_right}

pub within : (lo x hi : ℕ) → is_within lo x hi ≡ true → Within lo x hi
within lo x hi e =
    (leb-true lo x (and_left (leb lo x) (leb x hi) e), leb-true x hi (and_right (leb lo x) (leb x hi) e))

pub within_true : (lo x hi : ℕ) → Within lo x hi → is_within lo x hi ≡ true
within_true lo x hi w = and_true (leb lo x) (leb x hi) (le-leb lo x w.0) (le-leb x hi w.1)

-- `(lo..=hi).contains(&x)`, of a range that is whole
le_cmp : (a b : ℕ) → is_le (nat_cmp a b) ≡ leb a b
le_cmp a b = grind (arith, nat_tests)

pub contained : {lo hi : ℕ} (x : ℕ) {s : RangeInclusive ℕ} → range_inclusive_start s ≡ lo → range_inclusive_end s ≡ hi → range_inclusive_exhausted s ≡ false
    → range_inclusive_contains (λ a b. Some (nat_cmp a b)) s x ≡ is_within lo x hi
contained {lo} {hi} x e f g = simp (e, f, g, le_cmp lo x, le_cmp x hi) refl

-- ---- every test of a list
pub all_at : (bs : List Bool) (i : ℕ) → all_of bs ≡ true → get_or bs i true ≡ true
unfolding all_of
all_at [] i e = refl
all_at (b ∷ bs) zero e = and_left b (all_of bs) e
all_at (b ∷ bs) (suc i) e = all_at bs i (and_right b (all_of bs) e)

pub all_none : all_of [] ≡ true
unfolding all_of
all_none = refl

pub all_more : (b : Bool) (bs : List Bool) → b ≡ true → all_of bs ≡ true → all_of (b ∷ bs) ≡ true
unfolding all_of
all_more b bs e f = and_true b (all_of bs) e f

-- one that fails
pub all_fails : (bs : List Bool) (i : ℕ) → get_or bs i true ≡ false → all_of bs ≡ false
unfolding all_of
all_fails [] i e = absurd (true≢false e)
all_fails (b ∷ bs) zero e = and_false_left b (all_of bs) e
all_fails (b ∷ bs) (suc i) e = and_false_right b (all_of bs) (all_fails bs i e)

-- ---- the test is the facts
module _ (d : Desk) where
  pub in_range : in_range_of d ≡ true → InRange d
  unfolding in_range_of
  in_range e =
      record {
        channels = within 1 _ _ (all_at _ 0 e);
        dimmers = within 1 _ _ (all_at _ 1 e);
        cues = within 1 _ _ (all_at _ 2 e);
        groups = within 0 _ _ (all_at _ 3 e);
        subs = within 0 _ _ (all_at _ 4 e);
        cue_pages_of = within 1 _ _ (all_at _ 5 e);
        group_pages_of = within 1 _ _ (all_at _ 6 e);
        sub_pages_of = within 1 _ _ (all_at _ 7 e);
        patch_pages_of = within 1 _ _ (all_at _ 8 e);
      }

  pub in_range_true : InRange d → in_range_of d ≡ true
  unfolding in_range_of
  in_range_true h =
      all_more _ _ (within_true 1 _ _ h.channels)
      (all_more _ _ (within_true 1 _ _ h.dimmers)
      (all_more _ _ (within_true 1 _ _ h.cues)
      (all_more _ _ (within_true 0 _ _ h.groups)
      (all_more _ _ (within_true 0 _ _ h.subs)
      (all_more _ _ (within_true 1 _ _ h.cue_pages_of)
      (all_more _ _ (within_true 1 _ _ h.group_pages_of)
      (all_more _ _ (within_true 1 _ _ h.sub_pages_of) (all_more _ _ (within_true 1 _ _ h.patch_pages_of) all_none))))))))

-- ---- bounds
product_le : {a b : ℕ} (m n : ℕ) → a ≤ m → b ≤ n → a * b ≤ m * n
product_le m n h g = mul-le-mul h g

pub width_le : (d : Desk) → Within 1 (level_width d) 2
unfolding level_width
width_le d = omega arith

module _ (d : Desk) (h : InRange d) where
  pub levels_le : levels_length d ≤ 1024
  unfolding levels_length
  levels_le = product_le 512 2 h.channels.1 (width_le d).1

  pub slot_le : slot_length d ≤ 1048
  unfolding slot_length
  slot_le = let l : levels_length d ≤ 1024 = levels_le in omega arith

  pub subs_le : sub_slots d ≤ 768
  unfolding sub_slots
  subs_le = product_le 96 8 h.subs.1 h.sub_pages_of.1

  pub slots_le : slots_of d ≤ 1568
  unfolding slots_of
  slots_le = let s : sub_slots d ≤ 768 = subs_le in omega arith

  pub patch_le : patch_start d ≤ 1643264
  unfolding patch_start
  patch_le = product_le 1568 1048 slots_le slot_le

  pub entries_le : entries_of d ≤ 2048
  unfolding entries_of
  entries_le = product_le 512 4 h.dimmers.1 h.patch_pages_of.1

  pub store_le : store_length d ≤ 1649408
  unfolding store_length
  store_le =
      let p : patch_start d ≤ 1643264 = patch_le in
      let e : entries_of d ≤ 2048 = entries_le in
      omega arith

-- ---- by computation: what the house small desk needs
pub house_in_range : in_range_of house ≡ true
unfolding in_range_of all_of
house_in_range = refl

pub house_needs : store_length house ≡ 35136
unfolding store_length patch_start slots_of sub_slots slot_length levels_length level_width entries_of
house_needs = refl
