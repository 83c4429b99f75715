-- What `find` answers over a range of numbers is what the definitions' search of the same places finds. By cases on the answer.
-- Assumes nothing.
use mathlib.Core.Path.{◌≡◌, sym, ap, ◌∙◌}
use mathlib.Core.Bool.{Bool, true, false}
use Prim.Native.Nat.{ℕ, ◌+◌, ◌-◌, ◌≤◌, ◌<◌}
use native.Mathlib.Omega.{arith}
use Rattle.std.specs.Prelude.{Option, Some, None, MatchOption, option_map}
use Rattle.cells.specs.Search.{first_from}
use Rattle.cells.proofs.Search.{none_is, first_is}
use Rattle.store.specs.Slots.{place_of}

-- r is the first of the places from a on, before b, that passes
abbrev pub IsFirstIn : (ℕ → Bool) → ℕ → ℕ → Option ℕ → Type 0
IsFirstIn p a b r =
    MatchOption r ((k : ℕ) → a ≤ k → k < b → p k ≡ false)
    (λ i. (a ≤ i) × (i < b) × (p i ≡ true) × ((k : ℕ) → a ≤ k → k < i → p k ≡ false))

pub range_first : (p : ℕ → Bool) (a b : ℕ) (r : Option ℕ) → IsFirstIn p a b r → r ≡ place_of (first_from p (b - a) a)
unfolding place_of
range_first p a b (Some i) g =
    ap place_of (sym (first_is p (b - a) a i (record { from = g.0; below = omega (arith, g.0, g.1); passes = g.2; before = g.3 })))
range_first p a b None g = ap place_of (sym (none_is p (b - a) a (λ k l m. g k l (omega arith))))

-- the same of places that are counted from the first on
pub shifted_first : (p : ℕ → Bool) (first n : ℕ) (r : Option ℕ) → IsFirstIn p 0 n r
    → option_map (λ i. first + i) r ≡ place_of (first_from (λ (j : ℕ). p (j - first)) n first)
unfolding place_of
shifted_first p first n (Some i) g =
    let b : first + i - first ≡ i = omega arith in
    ap place_of
    (sym
    (first_is _ n first (first + i)
    (record {
      from = omega arith;
      below = omega (arith, g.1);
      passes = ap p b ∙ g.2;
      before = λ k lo hi. g.3 (k - first) (omega arith) (omega arith);
    })))
shifted_first p first n None g = ap place_of (sym (none_is _ n first (λ k lo hi. g (k - first) (omega arith) (omega arith))))
