-- A bit of a byte, as the code shifts it out and sets it. By induction on the bit, and bit by bit.
-- Assumes nothing.
use Rattle.std.proofs.Common.{◌≡◌, ℕ, zero, suc, ◌+◌, ◌*◌, ◌/◌, ◌%◌, ◌^◌, ◌<◌, bit_and, bit_or, refl, sym, ap, ◌∙◌, arith}
use Rattle.std.specs.Int.{bit_at, w8}
use Rattle.std.proofs.lemmas.Nat.Bits.{bit_at_lowest, bit_at-suc, shr_and_one, bit_at_set_same, bit_at_set_other, same_from_bits}
use Rattle.cells.proofs.Split.{by_eq}
use Rattle.load_hear.specs.Marks.{bit_of, with_bit}

-- 0 has none
pub no_bit : (b : ℕ) → bit_of b 0 ≡ 0
unfolding bit_of
no_bit zero = refl
no_bit (suc b) = no_bit b

-- ---- the bit that is set, and the others
pub bit_same : (b c : ℕ) → bit_of b (with_bit b c) ≡ 1
unfolding bit_of with_bit
bit_same zero c = omega arith
bit_same (suc b) c =
    let e : (with_bit b (c / 2) * 2 + c % 2) / 2 ≡ with_bit b (c / 2) = omega arith in
    ap (λ (k : ℕ). bit_of b k) e ∙ bit_same b (c / 2)

pub bit_other : (a b c : ℕ) → (a ≡ b → ⊥) → bit_of a (with_bit b c) ≡ bit_of a c
unfolding bit_of with_bit
bit_other zero zero c n = absurd (n refl)
bit_other zero (suc b) c n = omega arith
bit_other (suc a) zero c n =
    let e : (c / 2 * 2 + 1) / 2 ≡ c / 2 = omega arith in
    ap (λ (k : ℕ). bit_of a k) e
bit_other (suc a) (suc b) c n =
    let e : (with_bit b (c / 2) * 2 + c % 2) / 2 ≡ with_bit b (c / 2) = omega arith in
    ap (λ (k : ℕ). bit_of a k) e ∙ bit_other a b (c / 2) (λ f. n (ap suc f))

-- ---- as the library has them
bit_is : (b c : ℕ) → bit_of b c ≡ bit_at c b
unfolding bit_of
bit_is zero c = sym (bit_at_lowest c)
bit_is (suc b) c = bit_is b (c / 2) ∙ sym (bit_at-suc c b)

pub bit_shifted : (b c : ℕ) → bit_and (c / 2 ^ b) 1 ≡ bit_of b c
bit_shifted b c = shr_and_one c b ∙ sym (bit_is b c)

pub bit_set : (b c : ℕ) → b < 8 → bit_or c (1 * 2 ^ b % 2 ^ 8) ≡ with_bit b c
bit_set b c h =
    same_from_bits _ _
    (λ i.
    by_eq i b
    (λ e.
    ap (bit_at (bit_or c (1 * 2 ^ b % 2 ^ 8))) e
    ∙ bit_at_set_same w8 c b h
    ∙ sym (bit_same b c)
    ∙ bit_is b (with_bit b c)
    ∙ sym (ap (bit_at (with_bit b c)) e))
    (λ n. bit_at_set_other w8 c b h i n ∙ sym (bit_is i c) ∙ sym (bit_other i b c n) ∙ bit_is i (with_bit b c)))
