-- Levels (§7.5; paper 01, "Levels": 0 to 100 by Table C-2, 101 to 999 as 100; with H one to four hexadecimal digits).
-- Assumes nothing.
use Rattle.std.specs.Prelude.{Bool, cond, ◌||◌, List, ℕ, ◌+◌, ◌*◌, ◌/◌, min, eqb, ltb, leb, length, get_or, drop, Err, None, Ok, Option, Result, Some}
use Rattle.value.specs.Integer.{run_of, integer_of}
use Rattle.value_level.specs.declared.LevelError.{LevelError}
use Rattle.value_level.specs.declared.LevelError.TheVariants.{NotPercent, NotHex}

-- Appendix C's Round of n / d: halves up
abbrev pub rounded : ℕ → ℕ → ℕ
rounded n d = (n * 2 + d) / (d * 2)

-- Table C-2
unfoldable pub percent_byte : ℕ → ℕ
percent_byte p = rounded (p * 255) 100

-- Table C-1: the percentage of a level
unfoldable pub byte_percent : ℕ → ℕ
byte_percent l = rounded (l * 100) 255

-- the largest percentage that is taken
abbrev pub percent_max : ℕ
percent_max = 999

-- §7.5.1: 0 to 100 by Table C-2, 101 to 999 as 100
unfoldable pub percent_of : Option ℕ → Result ℕ LevelError
percent_of None = Err NotPercent
percent_of (Some p) = cond (ltb percent_max p) (Err NotPercent) (Ok (percent_byte (min p 100)))

-- the most digits behind the H
abbrev pub hex_digits : ℕ
hex_digits = 4

-- of n digits: one gets a leading zero and is a byte, as two are; three get one and are four, of which the last two are discarded
unfoldable pub hex_byte_of : ℕ → Option ℕ → Result ℕ LevelError
hex_byte_of n None = Err NotHex
hex_byte_of n (Some v) = Ok (cond (leb n 2) v (v / 256))

-- §7.5.2, the digits behind the H
unfoldable pub hex_of : List ℕ → Result ℕ LevelError
hex_of s = cond (ltb hex_digits (length s)) (Err NotHex) (hex_byte_of (length s) (run_of 16 s))

-- H or h
abbrev pub is_hex_mark : ℕ → Bool
is_hex_mark c = eqb c 72 || eqb c 104

unfoldable pub level_of : List ℕ → Result ℕ LevelError
level_of s = cond (is_hex_mark (get_or s 0 0)) (hex_of (drop 1 s)) (percent_of (integer_of s))
