-- Levels: percentages and hexadecimal bytes case by case, and that a level is a byte; by the tests' facts and the size of digit runs.
-- Assumes nothing.
use Rattle.std.specs.Prelude.{Err, None, Ok, Option, Result, Some}
use mathlib.Core.Path.{◌≡◌, refl, sym, ap, ◌∙◌, subst}
use mathlib.Core.Bool.{true, false}
use mathlib.Core.List.{List}
use Prim.Native.Nat.{ℕ, ◌/◌, ◌^◌, ◌<◌, ◌≤◌, min}
use native.Mathlib.Nat.{pow-le-pow_right, min-le_right}
use native.Mathlib.Omega.{arith}
use lib.Dec.{ltb}
use lib.ListN.{length, get_or, drop}
use borrow.Author.Tests.{lt-ltb, le-ltb, le-leb, lt-leb}
use Rattle.cells.proofs.Split.{by_bool, by_le, cond-true, cond-false}
use Rattle.value.specs.Integer.{run_of, integer_of}
use Rattle.value_level.specs.Level.{percent_byte, percent_max, percent_of, hex_digits, hex_byte_of, hex_of, is_hex_mark, level_of}
use Rattle.value.proofs.Digits.{run_below}
use Rattle.value_level.specs.declared.LevelError.{LevelError}
use Rattle.value_level.specs.declared.LevelError.TheVariants.{NotPercent, NotHex}

-- ---- a percentage
pub percent_malformed : {i : Option ℕ} → i ≡ None → percent_of i ≡ Err NotPercent
unfolding percent_of
percent_malformed e = ap percent_of e

module _ {i : Option ℕ} {p : ℕ} (e : i ≡ Some p) where
  pub percent_large : percent_max < p → percent_of i ≡ Err NotPercent
  unfolding percent_of
  percent_large h = ap percent_of e ∙ rw (lt-ltb percent_max p h)

  pub percent_min : p ≤ percent_max → percent_of i ≡ Ok (percent_byte (min p 100))
  unfolding percent_of
  percent_min h = ap percent_of e ∙ rw (le-ltb percent_max p h)

-- ---- hexadecimal digits
pub hex_long : (s : List ℕ) → hex_digits < length s → hex_of s ≡ Err NotHex
unfolding hex_of
hex_long s h = cond-true (ltb hex_digits (length s)) (Err NotHex) (hex_byte_of (length s) (run_of 16 s)) (lt-ltb hex_digits (length s) h)

pub hex_read : (s : List ℕ) → length s ≤ hex_digits → hex_of s ≡ hex_byte_of (length s) (run_of 16 s)
unfolding hex_of
hex_read s h = cond-false (ltb hex_digits (length s)) (Err NotHex) (hex_byte_of (length s) (run_of 16 s)) (le-ltb hex_digits (length s) h)

pub hex_malformed : (n : ℕ) {i : Option ℕ} → i ≡ None → hex_byte_of n i ≡ Err NotHex
unfolding hex_byte_of
hex_malformed n e = ap (λ (x : Option ℕ). hex_byte_of n x) e

pub hex_byte : (n : ℕ) {i : Option ℕ} {v : ℕ} → i ≡ Some v → n ≤ 2 → hex_byte_of n i ≡ Ok v
unfolding hex_byte_of
hex_byte n {i} {v} e h = ap (λ (x : Option ℕ). hex_byte_of n x) e ∙ rw (le-leb n 2 h)

pub hex_upper : (n : ℕ) {i : Option ℕ} {v : ℕ} → i ≡ Some v → 2 < n → hex_byte_of n i ≡ Ok (v / 256)
unfolding hex_byte_of
hex_upper n {i} {v} e h = ap (λ (x : Option ℕ). hex_byte_of n x) e ∙ rw (lt-leb n 2 h)

-- ---- the two formats
pub level_hex : (s : List ℕ) → is_hex_mark (get_or s 0 0) ≡ true → level_of s ≡ hex_of (drop 1 s)
unfolding level_of
level_hex s e = cond-true (is_hex_mark (get_or s 0 0)) (hex_of (drop 1 s)) (percent_of (integer_of s)) e

pub level_percent : (s : List ℕ) → is_hex_mark (get_or s 0 0) ≡ false → level_of s ≡ percent_of (integer_of s)
unfolding level_of
level_percent s e = cond-false (is_hex_mark (get_or s 0 0)) (hex_of (drop 1 s)) (percent_of (integer_of s)) e

-- ---- digits that fit
pub two_digits : (s : List ℕ) {v : ℕ} → run_of 16 s ≡ Some v → length s ≤ 2 → v < 256
two_digits s {v} e h =
    let b : v < 16 ^ length s = run_below 16 s e in
    let k : 16 ^ length s ≤ 16 ^ 2 = pow-le-pow_right (omega arith) h in
    omega arith

pub four_digits : (s : List ℕ) {v : ℕ} → run_of 16 s ≡ Some v → length s ≤ hex_digits → v / 256 < 256
four_digits s {v} e h =
    let b : v < 16 ^ length s = run_below 16 s e in
    let k : 16 ^ length s ≤ 16 ^ 4 = pow-le-pow_right (omega arith) h in
    omega arith

-- ---- a level is a byte
abbrev pub LevelOk : Result ℕ LevelError → Type 0
LevelOk (Err NotPercent) = Unit {0}
LevelOk (Err NotHex) = Unit {0}
LevelOk (Ok v) = v < 256

ok_of : {a b : Result ℕ LevelError} → a ≡ b → LevelOk b → LevelOk a
ok_of e h = subst LevelOk (sym e) h

pub percent_byte_below : (p : ℕ) → p ≤ 100 → percent_byte p ≤ 255
unfolding percent_byte
percent_byte_below p h = omega arith

percent_ok : (i : Option ℕ) → LevelOk (percent_of i)
percent_ok None = ok_of (percent_malformed refl) tt
percent_ok (Some p) =
    by_le p percent_max
    (λ g.
    let b : percent_byte (min p 100) ≤ 255 = percent_byte_below (min p 100) (min-le_right p 100) in
    ok_of (percent_min refl g) (let k : percent_byte (min p 100) < 256 = omega arith in k))
    (λ g. ok_of (percent_large refl g) tt)

hex_ok : (s : List ℕ) → length s ≤ hex_digits → (i : Option ℕ) → run_of 16 s ≡ i → LevelOk (hex_byte_of (length s) i)
hex_ok s h None e = ok_of (hex_malformed (length s) refl) tt
hex_ok s h (Some v) e =
    by_le (length s) 2
    (λ g. ok_of (hex_byte (length s) refl g) (two_digits s e g))
    (λ g. ok_of (hex_upper (length s) refl g) (four_digits s e h))

pub level_ok : (s : List ℕ) → LevelOk (level_of s)
level_ok s =
    by_bool (is_hex_mark (get_or s 0 0))
    (λ e.
    ok_of (level_hex s e)
    (by_le (length (drop 1 s)) hex_digits
    (λ h. ok_of (hex_read (drop 1 s) h) (hex_ok (drop 1 s) h (run_of 16 (drop 1 s)) refl))
    (λ h. ok_of (hex_long (drop 1 s) h) tt)))
    (λ e. ok_of (level_percent s e) (percent_ok (integer_of s)))
