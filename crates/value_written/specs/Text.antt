-- How values are written (paper 01, "The written stream").
-- Assumes nothing.
use Rattle.std.specs.Prelude.{Bool, cond, ◌&&◌, ◌||◌, List, [], ◌∷◌, ◌++◌, ℕ, zero, suc, ◌+◌, ◌-◌, ◌*◌, ◌/◌, ◌%◌, min, max, eqb, ltb, leb}
use Rattle.value.specs.Parts.{point, colon}
use Rattle.value.specs.Number.{fraction_digits}
use Rattle.value.specs.Time.{part_max, tenths_digits}

-- ---- digits
-- a digit's character: capitals
unfoldable pub digit_char : ℕ → ℕ
digit_char d = cond (ltb d 10) (48 + d) (55 + d)

-- the last k digits of n in radix r, leading zeros too, ahead of a rest
unfoldable pub digits_on : ℕ → ℕ → ℕ → List ℕ → List ℕ
digits_on r zero n rest = rest
digits_on r (suc k) n rest = digits_on r k (n / r) (digit_char (n % r) ∷ rest)

abbrev pub digits_text : ℕ → ℕ → ℕ → List ℕ
digits_text r k n = digits_on r k n []

-- how many digits n has, in f + 1 of them at most
unfoldable pub digit_count_from : ℕ → ℕ → ℕ
digit_count_from zero n = 1
digit_count_from (suc f) n = let m = suc (digit_count_from f (n / 10)) in cond (ltb n 10) 1 m

-- a number of 32 bits has ten digits at most
unfoldable pub digit_count : ℕ → ℕ
digit_count n = digit_count_from 9 n

-- ---- values
-- no leading zeros
unfoldable pub integer_text : ℕ → List ℕ
integer_text n = digits_text 10 (digit_count n) n

-- a point and k digits, and nothing for zero
unfoldable pub fraction_text : ℕ → ℕ → List ℕ
fraction_text k f = cond (eqb f 0) [] (point ∷ digits_text 10 k f)

-- `.0` is not written
unfoldable pub number_text : ℕ → ℕ → List ℕ
number_text w f = integer_text w ++ fraction_text fraction_digits f

-- H and two digits
unfoldable pub level_text : ℕ → List ℕ
level_text l = 72 ∷ digits_text 16 2 l

-- at least two digits after a colon
unfoldable pub part_text : ℕ → List ℕ
part_text v = colon ∷ digits_text 10 (max 2 (digit_count v)) v

-- as many whole hours, or minutes, as fit, up to 999 (C-12), and the seconds that they leave
unfoldable pub whole_in : ℕ → ℕ → ℕ
whole_in unit s = min (s / unit) part_max

unfoldable pub left_by : ℕ → ℕ → ℕ
left_by unit s = s - whole_in unit s * unit

-- below one minute seconds alone, below one hour minutes and seconds, otherwise all three parts
unfoldable pub clock_text : ℕ → List ℕ
clock_text s =
    let m = left_by 3600 s in
    cond (ltb s 60) (integer_text s)
    (cond (ltb s 3600) (integer_text (s / 60) ++ part_text (s % 60))
    (integer_text (whole_in 3600 s) ++ (part_text (whole_in 60 m) ++ part_text (left_by 60 m))))

-- tenths only if not zero
unfoldable pub time_text : ℕ → List ℕ
time_text t = clock_text (t / 10) ++ fraction_text tenths_digits (t % 10)

-- an integer behind a mark
unfoldable pub marked_text : List ℕ → ℕ → List ℕ
marked_text mark n = mark ++ integer_text n

-- ---- the characters of a written value: digits, `.`, `:`, and A to H. No delimiter, no `!`, no control character is among them.
unfoldable pub is_plain : ℕ → Bool
is_plain c = eqb c 46 || ((leb 48 c && leb c 58) || (leb 65 c && leb c 72))
