-- The text of each line as the parts that the code writes, one behind the other: by the definitions, and by regrouping.
-- Assumes nothing.
use mathlib.Core.Path.{◌≡◌, refl, sym, ap, ◌∙◌}
use mathlib.Core.List.{List, [], ◌∷◌, ◌++◌, append_assoc}
use Prim.Native.Nat.{ℕ, ◌+◌, ◌≤◌, ◌<◌, min}
use native.Mathlib.Numerals.{add-one}
use native.Mathlib.Omega.{arith}
use lib.ListN.{length, take, drop, get_or, drop_of_length-le}
use lib.Seq.{drop-cons, take_all, take-length, length-take-le}
use Rattle.cells.specs.Text.{bytes}
use Rattle.cells.proofs.Split.{by_lt}
use Rattle.value_written.specs.Text.{digits_text, marked_text}
use Rattle.load.specs.declared.Totals.{Totals}
use Rattle.load.specs.Run.{number_in, condition_in, column_in}
use Rattle.tidy_printed.specs.Text.{lf, report_text, reports_text, end_text, told_text, needed_text}
use Rattle.tidy_printed.specs.Part.{fixed_text, tallies_text}

pub fixed_is : (mark : List ℕ) (count n : ℕ) → mark ++ digits_text 10 count n ≡ fixed_text mark count n
unfolding fixed_text
fixed_is mark count n = refl

pub report_parts : (w : ℕ)
    → fixed_text (bytes "(") 5 (number_in w) ++ (marked_text (bytes ":") (column_in w) ++ (fixed_text (bytes ") ") 4 (condition_in w) ++ lf)) ≡ report_text w
unfolding report_text fixed_text marked_text
report_parts w = refl

pub tallies_parts : (t : Totals)
    → marked_text (bytes " blank ") t.blank
    ++ (marked_text (bytes " obeyed ") t.obeyed ++ (marked_text (bytes " passed ") t.passed ++ marked_text (bytes " dropped ") t.dropped))
    ≡ tallies_text t
unfolding tallies_text
tallies_parts t = refl

end_flat : (t : Totals) → fixed_text (bytes "END ") 4 t.closing
    ++ (marked_text (bytes " blank ") t.blank
    ++ (marked_text (bytes " obeyed ") t.obeyed
    ++ (marked_text (bytes " passed ") t.passed ++ (marked_text (bytes " dropped ") t.dropped ++ lf)))) ≡ end_text t
unfolding end_text fixed_text marked_text
end_flat t = refl

pub end_parts : (t : Totals) → fixed_text (bytes "END ") 4 t.closing ++ (tallies_text t ++ lf) ≡ end_text t
unfolding tallies_text
end_parts t =
    let b : List ℕ = marked_text (bytes " blank ") t.blank in
    let o : List ℕ = marked_text (bytes " obeyed ") t.obeyed in
    let p : List ℕ = marked_text (bytes " passed ") t.passed in
    let d : List ℕ = marked_text (bytes " dropped ") t.dropped in
    ap (λ (z : List ℕ). fixed_text (bytes "END ") 4 t.closing ++ z)
    (append_assoc b (o ++ (p ++ d)) lf
    ∙ ap (λ (z : List ℕ). b ++ z) (append_assoc o (p ++ d) lf ∙ ap (λ (z : List ℕ). o ++ z) (append_assoc p d lf)))
    ∙ end_flat t

told_parts : (reports : List ℕ) (t : Totals) → reports_text (take t.reports reports) ++ end_text t ≡ told_text reports t
unfolding told_text
told_parts reports t = refl

pub needed_parts : (n : ℕ) → marked_text (bytes "R6 ") n ++ lf ≡ needed_text n
unfolding needed_text marked_text
needed_parts n = refl

-- ---- the reports, one after the other
reports_more : (w : ℕ) (ws : List ℕ) → reports_text (w ∷ ws) ≡ report_text w ++ reports_text ws
unfolding reports_text
reports_more w ws = refl

reports_none : reports_text [] ≡ []
unfolding reports_text
reports_none = refl

pub reports_turn : (ws : List ℕ) (i : ℕ) → i < length ws → reports_text (drop i ws) ≡ report_text (get_or ws i 0) ++ reports_text (drop (i + 1) ws)
reports_turn ws i h = rw (add-one, drop-cons ws i 0) (reports_more _ _)

pub reports_end : (ws : List ℕ) (i : ℕ) → length ws ≤ i → reports_text (drop i ws) ≡ []
reports_end ws i h = ap reports_text (drop_of_length-le ws h) ∙ reports_none

-- no more reports are stored than the list has words
take_least : (ws : List ℕ) (count : ℕ) {n : ℕ} → n ≡ min count (length ws) → take n ws ≡ take count ws
take_least ws count {n} e =
    by_lt count (length ws)
    (λ h. let f : n ≡ count = omega arith in ap (λ (k : ℕ). take k ws) f)
    (λ h. let f : n ≡ length ws = omega arith in ap (λ (k : ℕ). take k ws) f ∙ take-length ws ∙ sym (take_all count ws h))

pub length_least : (ws : List ℕ) (count : ℕ) {n : ℕ} → n ≡ min count (length ws) → length (take n ws) ≡ n
length_least ws count {n} e = length-take-le n ws (omega arith)

pub stored_parts : (ws : List ℕ) (t : Totals) {n : ℕ} → n ≡ min t.reports (length ws) → reports_text (take n ws) ++ end_text t ≡ told_text ws t
stored_parts ws t e = ap (λ (z : List ℕ). reports_text z ++ end_text t) (take_least ws t.reports e) ∙ told_parts ws t
