-- Times in tenths of a second (§7.7; paper 01, "Times": `[[h:]m:]s[.t]`; C-12). Hours, minutes and seconds are each 0 to 999, wherever they stand.
-- Assumes nothing.
use Rattle.std.specs.Prelude.{cond, List, ℕ, ◌+◌, ◌*◌, ltb, None, Option, Some}
use Rattle.value.specs.Integer.{integer_of}
use Rattle.value.specs.Parts.{point, colon, cut_at, before, after, within, decimals_of}

abbrev pub part_max : ℕ
part_max = 999

abbrev pub tenths_digits : ℕ
tenths_digits = 1

-- the largest clock in seconds, 999:999:999, and the largest time in tenths, 999:999:999.9
abbrev pub clock_max : ℕ
clock_max = (part_max * 60 + part_max) * 60 + part_max

abbrev pub time_max : ℕ
time_max = clock_max * 10 + 9

-- an integer in its range
unfoldable pub bounded_of : ℕ → Option ℕ → Option ℕ
bounded_of most None = None
bounded_of most (Some v) = cond (ltb most v) None (Some v)

unfoldable pub part_of : List ℕ → Option ℕ
part_of s = bounded_of part_max (integer_of s)

-- two parts, of which the first counts `base` units of the second
unfoldable pub join_of : Option ℕ → ℕ → Option ℕ → Option ℕ
join_of None base l = None
join_of (Some h) base None = None
join_of (Some h) base (Some l) = Some (h * base + l)

-- the one or two parts behind the first colon
unfoldable pub later_of : Option ℕ → List ℕ → Option ℕ
later_of first s =
    let n = cut_at colon s in
    cond (within n s) (join_of (join_of first 60 (part_of (before n s))) 60 (part_of (after n s)))
    (join_of first 60 (part_of s))

-- hours, minutes and seconds, in seconds
unfoldable pub clock_of : List ℕ → Option ℕ
clock_of s =
    let n = cut_at colon s in
    let first = part_of (before n s) in
    cond (within n s) (later_of first (after n s)) first

unfoldable pub time_of : List ℕ → Option ℕ
time_of s = let n = cut_at point s in join_of (clock_of (before n s)) 10 (decimals_of tenths_digits s n)
