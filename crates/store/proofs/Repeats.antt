-- A slot repeats an earlier one exactly where it is used and a slot of its kind before it holds its key. By the laws of searches, since slots
-- that share a name are of one kind, and those stand together.
-- Assumes nothing.
use mathlib.Core.Path.{◌≡◌, sym, ap, subst}
use mathlib.Core.Bool.{true, false, not, ◌&&◌}
use mathlib.Core.List.{List}
use Prim.Native.Nat.{ℕ, ◌+◌, ◌-◌, ◌<◌, ◌≤◌}
use native.Mathlib.Omega.{arith}
use borrow.Author.Tests.{not-true}
use Rattle.cells.specs.Search.{all_from}
use Rattle.cells.proofs.Search.{by_first, all_at, all_is}
use Rattle.cells.proofs.Split.{by_bool, same_test, clash, and_true, not_of_true, not_of_false}
use Rattle.store_desk.specs.declared.Desk.{Desk}
use Rattle.store_desk.specs.declared.Kind.{Kind}
use Rattle.store_desk.specs.Size.{slots_of}
use Rattle.store_desk.specs.Name.{Name, first_slot, kind_at, eq_name}
use Rattle.store_desk.proofs.Name.{eq_name-true, kind_at_lem, kind_of}
use Rattle.store.specs.Slots.{head_at, key_of, is_used, holds_at}
use Rattle.store.specs.Form.{name_at, shares, repeats}
use Rattle.store.proofs.Find.{holds_own, holds_true}
use Rattle.store.proofs.Form.{shares_parts}

module _ (d : Desk) (s : List ℕ) (i : ℕ) where
  pub repeats_unused : is_used (head_at d s i) ≡ false → repeats d s i ≡ false
  unfolding repeats
  repeats_unused u =
      not_of_true (all_from (λ j. not (shares d s i j)) i 0)
      (all_is (λ j. not (shares d s i j)) i 0
      (λ j h l. not_of_false (shares d s i j) (by_bool (shares d s i j) (λ e. clash (shares_parts d s i j e).0 u) (λ e. e))))

  -- the earlier slot that it repeats
  pub by_repeats : {X : Type 0} → repeats d s i ≡ true → ((j : ℕ) → j < i → shares d s i j ≡ true → X) → X
  unfolding repeats
  by_repeats r f =
      by_first (shares d s i) i 0
      (λ j e p. let l : j < 0 + i = p.below in f j (omega arith) p.passes)
      (λ e none.
      clash (all_is (λ j. not (shares d s i j)) i 0 (λ j h l. not_of_false (shares d s i j) (none j h l)))
      (not-true (all_from (λ j. not (shares d s i j)) i 0) r))

  -- the first slot of the kind, and whether each slot from there on holds another key
  module _ (h : i < slots_of d) (u : is_used (head_at d s i) ≡ true) where
    share_true : (j : ℕ) → first_slot d (kind_at d i) ≤ j → j < i → holds_at d s (key_of (head_at d s i)) j ≡ true → shares d s i j ≡ true
    unfolding shares
    share_true j a l t =
        let k = kind_at_lem d i h in
        let o = holds_own d s (key_of (head_at d s i)) j t in
        let same : kind_at d j ≡ kind_at d i = kind_of d (kind_at d i) j a (omega (arith, k.1)) in
        let n : name_at d s i ≡ name_at d s j = λ z. record { kind = sym same z; key = sym o.1 z } in
        and_true (is_used (head_at d s i) && is_used (head_at d s j)) (eq_name (name_at d s i) (name_at d s j))
        (and_true (is_used (head_at d s i)) (is_used (head_at d s j)) u o.0) (eq_name-true (name_at d s i) (name_at d s j) n)

    share_holds : (j : ℕ) → j < i → shares d s i j ≡ true
        → (first_slot d (kind_at d i) ≤ j) × (holds_at d s (key_of (head_at d s i)) j ≡ true)
    share_holds j l e =
        let p = shares_parts d s i j e in
        let k : kind_at d j ≡ kind_at d i = ap (λ (n : Name). n.kind) (sym p.2) in (
          subst (λ (z : Kind). first_slot d z ≤ j) k (kind_at_lem d j (omega arith)).0,
          holds_true d s (key_of (head_at d s i)) j p.1 (ap (λ (n : Name). n.key) (sym p.2)),
        )

    pub repeats_found : (a : ℕ) → a ≡ first_slot d (kind_at d i)
        → repeats d s i ≡ not (all_from (λ j. not (holds_at d s (key_of (head_at d s i)) j)) (i - a) a)
    unfolding repeats
    repeats_found a e =
        ap not
        (same_test (all_from (λ j. not (shares d s i j)) i 0) (all_from (λ j. not (holds_at d s (key_of (head_at d s i)) j)) (i - a) a)
        (λ t.
        all_is _ (i - a) a
        (λ j x y.
        not_of_false (holds_at d s (key_of (head_at d s i)) j)
        (by_bool (holds_at d s (key_of (head_at d s i)) j)
        (λ o. clash (share_true j (omega arith) (omega arith) o) (not-true (shares d s i j) (all_at _ i 0 t j (omega arith) (omega arith))))
        (λ o. o))))
        (λ t.
        all_is _ i 0
        (λ j x y.
        not_of_false (shares d s i j)
        (by_bool (shares d s i j)
        (λ o.
        let p = share_holds j (omega arith) o in
        let b = p.0 in
        clash p.1 (not-true (holds_at d s (key_of (head_at d s i)) j) (all_at _ (i - a) a t j (omega arith) (omega arith))))
        (λ o. o)))))
