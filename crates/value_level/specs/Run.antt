-- A level as the code reads it: the characters from a place on, up to the first that no level goes on with. The laws say what that makes of a
-- field. No promise above the load names these.
-- Assumes nothing.
use Rattle.std.specs.Prelude.{cond, List, ℕ, suc, ◌+◌, ◌<◌, ◌≤◌, ◌/◌, eqb, ltb, leb, get_or, take, drop, Err, Ok, Result}
use Rattle.cells.specs.Scan.{span}
use Rattle.value.specs.Integer.{integer_of}
use Rattle.value.specs.Digits.{is_digit}
use Rattle.value_level.specs.declared.Leveling.{Leveling}
use Rattle.value_level.specs.Level.{percent_of, hex_digits, hex_of, is_hex_mark, level_of}
use Rattle.value_level.specs.declared.LevelError.{LevelError}
use Rattle.value_level.specs.declared.LevelError.TheVariants.{NotHex}

-- how many characters a level at the front has
abbrev pub decimals : List ℕ → ℕ
decimals s = span (is_digit 10) s

abbrev pub hexes : List ℕ → ℕ
hexes s = span (is_digit 16) s

unfoldable pub level_span : List ℕ → ℕ
level_span s = cond (is_hex_mark (get_or s 0 0)) (suc (hexes (drop 1 s))) (decimals s)

-- n hexadecimal digits of value v; four of them are below 10000 hex, two below 100
pub record HexFits (n v : ℕ) : Type 0 where
  pub four : n ≤ hex_digits → v < 65536
  pub two : n ≤ 2 → v < 256

unfoldable pub hex_by : ℕ → ℕ → Result ℕ LevelError
hex_by n v = cond (eqb n 0) (Err NotHex) (cond (ltb hex_digits n) (Err NotHex) (Ok (cond (leb n 2) v (v / 256))))

unfoldable pub percent_leveling : List ℕ → ℕ → Leveling
percent_leveling text at =
    let s = drop at text in
    record { level = percent_of (integer_of (take (decimals s) s)); end = at + decimals s }

unfoldable pub hex_leveling : List ℕ → ℕ → Leveling
hex_leveling text at =
    let s = drop at text in
    record { level = hex_of (take (hexes s) s); end = at + hexes s }

unfoldable pub leveling_at : List ℕ → ℕ → Leveling
leveling_at text at =
    let s = drop at text in
    record { level = level_of (take (level_span s) s); end = at + level_span s }
