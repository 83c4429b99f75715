-- What is read lies in its range: a number is one that a cue or group can have, 0.1 to 999.9, and a time is at most 999:999:999.9. By the bounds
-- on runs of digits; what stands behind a point is one digit.
-- Assumes nothing.
use Rattle.std.specs.Prelude.{Err, None, Ok, Option, Result, Some}
use mathlib.Core.Path.{◌≡◌, refl, sym, ◌∙◌, subst}
use mathlib.Core.Bool.{true, cond}
use mathlib.Core.List.{List, [], ◌∷◌}
use Prim.Native.Nat.{ℕ, ◌+◌, ◌≤◌, ◌<◌}
use native.Mathlib.Omega.{arith}
use lib.Dec.{eqb, ltb}
use lib.ListN.{length}
use borrow.Author.Tests.{lt-ltb, ltb-false, eqb-false}
use Rattle.cells.proofs.Split.{by_test, by_lt, by_le}
use Rattle.store_desk.specs.Name.{ok_number}
use Rattle.store_desk.proofs.Name.{number_low}
use Rattle.value.specs.Integer.{integer_of, AtMost}
use Rattle.value.specs.Parts.{point, cut_at, before, after, decimals_of}
use Rattle.value.specs.Number.{whole_max, fraction_digits, number, numbered_of, number_of}
use Rattle.value.specs.Time.{clock_max, time_max, tenths_digits, join_of, clock_of, time_of}
use Rattle.value.proofs.Digits.{run_below}
use Rattle.value.proofs.Cuts.{decimals_none, decimals_many, decimals_few}
use Rattle.value.proofs.Times.{join_most, clock_most}
use Rattle.value.specs.declared.Number.{Number}
use Rattle.value.specs.declared.NumberError.{NumberError}
use Rattle.value.specs.declared.NumberError.TheVariants.{Malformed as BadNumber, TooLarge}

-- ---- one digit behind a point
one_digit : (s : List ℕ) (i : Option ℕ) → integer_of s ≡ i → length s ≤ 1 → AtMost 9 i
unfolding integer_of
one_digit s None e h = tt
one_digit [] (Some v) e h = let l : v < 1 = run_below 10 [] e in omega arith
one_digit (c ∷ []) (Some v) e h = let l : v < 10 = run_below 10 (c ∷ []) e in omega arith
one_digit (c ∷ (b ∷ s)) (Some v) e h = absurd (omega arith)

decimals_nine : (s : List ℕ) (n : ℕ) → AtMost 9 (decimals_of fraction_digits s n)
decimals_nine s n =
    by_lt n (length s)
    (λ h.
    by_le (length (after n s)) fraction_digits
    (λ g. subst (λ (i : Option ℕ). AtMost 9 i) (sym (decimals_few fraction_digits s n h g)) (one_digit (after n s) _ refl g))
    (λ g. subst (λ (i : Option ℕ). AtMost 9 i) (sym (decimals_many fraction_digits s n h g)) tt))
    (λ h. subst (λ (i : Option ℕ). AtMost 9 i) (sym (decimals_none fraction_digits s n h)) (let z : 0 ≤ 9 = omega arith in z))

-- ---- a cue's number is one that a cue can have
abbrev pub NumberOk : Result Number NumberError → Type 0
NumberOk (Err BadNumber) = Unit {0}
NumberOk (Err TooLarge) = Unit {0}
NumberOk (Ok n) = ok_number n.whole n.fraction ≡ true

numbered_ok : (i j : Option ℕ) → AtMost 9 j → NumberOk (numbered_of i j)
unfolding numbered_of
numbered_ok None j h = tt
numbered_ok (Some w) None h = tt
numbered_ok (Some w) (Some f) h =
    by_test NumberOk (ltb whole_max w) (Err TooLarge) (cond (eqb (w + f) 0) (Err BadNumber) (Ok (number w f)))
    (λ e. tt)
    (λ e.
    by_test NumberOk (eqb (w + f) 0) (Err BadNumber) (Ok (number w f))
    (λ g. tt)
    (λ g.
    let l : w ≤ 999 = ltb-false whole_max w e in
    let z : w + f ≡ 0 → ⊥ = eqb-false (w + f) 0 g in
    sym (number_low w f l h) ∙ lt-ltb 0 (w + f) (omega arith)))

pub number_ok : (s : List ℕ) → NumberOk (number_of s)
unfolding number_of
number_ok s = numbered_ok (integer_of (before (cut_at point s) s)) _ (decimals_nine s (cut_at point s))

-- ---- a time is at most 999:999:999.9
abbrev pub TimeOk : Option ℕ → Type 0
TimeOk None = Unit {0}
TimeOk (Some t) = t ≤ time_max

timed_ok : (i : Option ℕ) → AtMost time_max i → TimeOk i
timed_ok None h = tt
timed_ok (Some t) h = h

pub time_ok : (s : List ℕ) → TimeOk (time_of s)
unfolding time_of
time_ok s =
    let n : ℕ = cut_at point s in
    timed_ok (join_of (clock_of (before n s)) 10 (decimals_of tenths_digits s n))
    (join_most clock_max 9 10 (clock_of (before n s)) (decimals_of tenths_digits s n) (clock_most (before n s)) (decimals_nine s n))
