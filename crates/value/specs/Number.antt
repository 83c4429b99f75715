-- Cue, group and link numbers (§7.4; paper 01, "Primaries": 0.1 to 999.9, one fraction digit at most).
-- The format is tested before the size; 0 and 0.0 have no right format.
-- Assumes nothing.
use Rattle.std.specs.Prelude.{cond, List, ℕ, ◌+◌, ◌*◌, eqb, ltb, Err, None, Ok, Option, Result, Some}
use Rattle.value.specs.declared.Number.{Number}
use Rattle.value.specs.Integer.{integer_of}
use Rattle.value.specs.Parts.{point, cut_at, before, decimals_of}
use Rattle.value.specs.declared.NumberError.{NumberError}
use Rattle.value.specs.declared.NumberError.TheVariants.{Malformed as BadNumber, TooLarge}

-- the largest whole part, how many digits may follow the point, and the largest that so many digits write
abbrev pub whole_max : ℕ
whole_max = 999

abbrev pub fraction_digits : ℕ
fraction_digits = 1

abbrev pub fraction_max : ℕ
fraction_max = 9

abbrev pub number : ℕ → ℕ → Number
number w f = record { whole = w; fraction = f }

unfoldable pub numbered_of : Option ℕ → Option ℕ → Result Number NumberError
numbered_of None f = Err BadNumber
numbered_of (Some w) None = Err BadNumber
numbered_of (Some w) (Some f) = cond (ltb whole_max w) (Err TooLarge) (cond (eqb (w + f) 0) (Err BadNumber) (Ok (number w f)))

unfoldable pub number_of : List ℕ → Result Number NumberError
number_of s = numbered_of (integer_of (before (cut_at point s) s)) (decimals_of fraction_digits s (cut_at point s))

-- ---- what a CUE bears and a LINK asks for in a load with translation (paper 02, C-13): a number as §7.4 formats one, whole part 0 to 9999, 0
-- too, whatever the desk could keep; by value, in units of its last digit

abbrev pub borne_max : ℕ
borne_max = 9999

abbrev pub fraction_span : ℕ
fraction_span = fraction_max + 1

-- any other text is no number
abbrev pub no_number : ℕ
no_number = (borne_max + 1) * fraction_span

unfoldable pub borne_by : Option ℕ → Option ℕ → ℕ
borne_by None f = no_number
borne_by (Some w) None = no_number
borne_by (Some w) (Some f) = cond (ltb borne_max w) no_number (w * fraction_span + f)

unfoldable pub borne_of : List ℕ → ℕ
borne_of s = borne_by (integer_of (before (cut_at point s) s)) (decimals_of fraction_digits s (cut_at point s))
