-- How long the lines are, so that a caller knows what room is enough: from the lengths of the parts.
-- Assumes nothing.
use mathlib.Core.Path.{◌≡◌, ap, ◌∙◌}
use mathlib.Core.List.{List, [], ◌∷◌, ◌++◌}
use Prim.Native.Nat.{ℕ, ◌+◌, ◌*◌, ◌≤◌, ◌<◌, zero-le}
use native.Mathlib.Omega.{arith}
use lib.ListN.{length, take, length-append, length-take}
use Rattle.cells.specs.Text.{bytes}
use Rattle.value_written.specs.Text.{digits_text, integer_text}
use Rattle.value_written.proofs.Texts.{text_length, integer_short, integer_ten}
use Rattle.text_room.specs.Room.{Room}
use Rattle.load.specs.declared.Totals.{Totals}
use Rattle.load.specs.Run.{number_in, condition_in, column_in}
use Rattle.tidy_printed.specs.Text.{lf, report_text, reports_text, end_text, told_text, needed_text}

-- digits, or an integer, ahead of a rest
fixed_ahead : (k n : ℕ) (rest : List ℕ) → length (digits_text 10 k n ++ rest) ≡ k + length rest
fixed_ahead k n rest = length-append (digits_text 10 k n) rest ∙ ap (λ (x : ℕ). x + length rest) (text_length 10 k n)

integer_ahead : (n : ℕ) (rest : List ℕ) → n < 4294967296 → length (integer_text n ++ rest) ≤ 10 + length rest
integer_ahead n rest h = let a = integer_ten n h in let e : length (integer_text n ++ rest) ≡ length (integer_text n) + length rest = length-append (integer_text n) rest in omega arith

pub digits_room : {t : List ℕ} {a : ℕ} (k n : ℕ) → Room t a (digits_text 10 k n) → a + k ≤ length t
digits_room {t} {a} k n h = let e = text_length 10 k n in let f = h.fits in omega arith

-- a column has seven bits, and so three digits at most
column_short : (w : ℕ) → length (integer_text (column_in w)) ≤ 3
column_short w = integer_short (column_in w) 2 (let g : column_in w < 1000 = omega arith in g)

report_length : (w : ℕ) → length (report_text w) ≤ 17
unfolding report_text
report_length w =
    let c : List ℕ = digits_text 10 4 (condition_in w) ++ lf in
    let k : List ℕ = integer_text (column_in w) ++ (bytes ") " ++ c) in
    let a : length c ≡ 4 + 1 = fixed_ahead 4 (condition_in w) lf in
    let s : length (integer_text (column_in w)) ≤ 3 = column_short w in
    let e : length k ≡ length (integer_text (column_in w)) + length (bytes ") " ++ c) = length-append (integer_text (column_in w)) (bytes ") " ++ c) in
    let b : length (digits_text 10 5 (number_in w) ++ (bytes ":" ++ k)) ≡ 5 + length (bytes ":" ++ k) = fixed_ahead 5 (number_in w) (bytes ":" ++ k) in
    omega arith

reports_length : (ws : List ℕ) → length (reports_text ws) ≤ 17 * length ws
unfolding reports_text
reports_length [] = zero-le
reports_length (w ∷ ws) =
    let h : length (reports_text ws) ≤ 17 * length ws = reports_length ws in
    let a : length (report_text w ++ reports_text ws) ≡ length (report_text w) + length (reports_text ws) = length-append (report_text w) (reports_text ws) in
    let b = report_length w in
    omega arith

-- tallies of 32 bits
pub record Tallies (t : Totals) : Type 0 where
  pub blank : t.blank < 4294967296
  pub obeyed : t.obeyed < 4294967296
  pub passed : t.passed < 4294967296
  pub dropped : t.dropped < 4294967296

pub end_length : (t : Totals) → Tallies t → length (end_text t) ≤ 81
unfolding end_text
end_length t f =
    let d : List ℕ = integer_text t.dropped ++ lf in
    let p : List ℕ = integer_text t.passed ++ (bytes " dropped " ++ d) in
    let o : List ℕ = integer_text t.obeyed ++ (bytes " passed " ++ p) in
    let b : List ℕ = integer_text t.blank ++ (bytes " obeyed " ++ o) in
    let hd : length d ≤ 10 + 1 = integer_ahead t.dropped lf f.dropped in
    let hp : length p ≤ 10 + length (bytes " dropped " ++ d) = integer_ahead t.passed (bytes " dropped " ++ d) f.passed in
    let ho : length o ≤ 10 + length (bytes " passed " ++ p) = integer_ahead t.obeyed (bytes " passed " ++ p) f.obeyed in
    let hb : length b ≤ 10 + length (bytes " obeyed " ++ o) = integer_ahead t.blank (bytes " obeyed " ++ o) f.blank in
    let e : length (digits_text 10 4 t.closing ++ (bytes " blank " ++ b)) ≡ 4 + length (bytes " blank " ++ b) = fixed_ahead 4 t.closing (bytes " blank " ++ b) in
    omega arith

pub told_length : (reports : List ℕ) (t : Totals) → Tallies t → length (told_text reports t) ≤ 17 * length reports + 81
unfolding told_text
told_length reports t f =
    let ws : List ℕ = take t.reports reports in
    let a : length (reports_text ws ++ end_text t) ≡ length (reports_text ws) + length (end_text t) = length-append (reports_text ws) (end_text t) in
    let b = reports_length ws in
    let c = end_length t f in
    let e = length-take t.reports reports in
    omega arith

pub needed_length : (n : ℕ) → n < 4294967296 → length (needed_text n) ≤ 14
unfolding needed_text
needed_length n h = let a : length (integer_text n ++ lf) ≤ 10 + 1 = integer_ahead n lf h in omega arith
