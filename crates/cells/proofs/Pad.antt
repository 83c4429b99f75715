-- A list padded with zeros: its elements, the list back out of it, and one more element at its end.
-- By the laws of `++` at its seam.
-- Assumes nothing.
use mathlib.Core.Path.{◌≡◌, sym, ap, ◌∙◌, subst}
use mathlib.Core.List.{List, [], ◌∷◌, ◌++◌}
use Prim.Native.Nat.{ℕ, zero, suc, ◌+◌, ◌-◌, ◌<◌, ◌≤◌}
use native.Mathlib.Nat.{sub-zero, zero-sub, suc-sub-suc}
use native.Mathlib.Omega.{arith}
use lib.ListN.{length, get_or, set, drop, replicate, length-append, length-replicate, get_or-append}
use lib.Seq.{set-append_seam, append_snoc}
use Rattle.cells.specs.Pad.{padded}

pub drop-replicate : (k n : ℕ) → drop k (replicate n zero) ≡ replicate (n - k) 0
drop-replicate zero n = ap (λ (j : ℕ). replicate j zero) (sym (sub-zero n))
drop-replicate (suc k) zero = ap (λ (j : ℕ). replicate j zero) (sym (zero-sub (suc k)))
drop-replicate (suc k) (suc n) = drop-replicate k n ∙ ap (λ (j : ℕ). replicate j zero) (sym (suc-sub-suc n k))

pub get_d_padded : (n : ℕ) (xs : List ℕ) (i : ℕ) → i < length xs → get_or (padded n xs) i 0 ≡ get_or xs i 0
unfolding padded
get_d_padded n xs i h = get_or-append xs (replicate (n - length xs) 0) 0 i h

pub length-padded : (n : ℕ) (xs : List ℕ) → length xs ≤ n → length (padded n xs) ≡ n
unfolding padded
length-padded n xs h =
    let e : length (xs ++ replicate (n - length xs) 0) ≡ length xs + length (replicate {A = ℕ} (n - length xs) 0) = length-append xs (replicate (n - length xs) 0) in
    let f : length (replicate {A = ℕ} (n - length xs) 0) ≡ n - length xs = length-replicate (n - length xs) 0 in
    omega arith

-- nothing yet
pub padded_nil : (n : ℕ) → padded n [] ≡ replicate n 0
unfolding padded
padded_nil n = let e : n - 0 ≡ n = omega arith in ap (λ (k : ℕ). replicate k 0) e

-- one more
pub padded_snoc : (n : ℕ) (xs : List ℕ) (v : ℕ) → length xs < n → set (padded n xs) (length xs) v ≡ padded n (xs ++ (v ∷ []))
unfolding padded
padded_snoc n xs v h =
    let e : n - length xs ≡ suc (n - (length xs + 1)) = omega arith in
    let f : n - (length xs + 1) ≡ n - length (xs ++ (v ∷ [])) = ap (λ (k : ℕ). n - k) (sym (length-append xs (v ∷ []))) in
    ap (λ (k : ℕ). set (xs ++ replicate k 0) (length xs) v) e
    ∙ set-append_seam xs 0 (replicate (n - (length xs + 1)) 0) v
    ∙ sym (append_snoc xs v (replicate (n - (length xs + 1)) 0))
    ∙ ap (λ (k : ℕ). (xs ++ (v ∷ [])) ++ replicate k 0) f

-- the same at a place known by an equation, for a loop that has the first i elements
pub padded_push : (n : ℕ) (xs : List ℕ) (i v : ℕ) → i ≡ length xs → i < n → set (padded n xs) i v ≡ padded n (xs ++ (v ∷ []))
padded_push n xs i v e h =
    ap (λ (k : ℕ). set (padded n xs) k v) e ∙ padded_snoc n xs v (subst (λ (k : ℕ). k < n) e h)

-- ---- the same for a loop whose invariant is `z ≡ padded n ..`
pub padded_add : (n : ℕ) (xs : List ℕ) (i v : ℕ) {z : List ℕ} → z ≡ padded n xs → i ≡ length xs → i < n → set z i v ≡ padded n (xs ++ (v ∷ []))
padded_add n xs i v e l h = ap (λ (y : List ℕ). set y i v) e ∙ padded_push n xs i v l h
