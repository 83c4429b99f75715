-- What a user of the call sees tells whether a load had room: if the count is at most the lent list's length, the list holds every report.
-- By the laws of a list written over another; the condition comes back from a word whose column fits.
-- Assumes nothing.
use mathlib.Core.Path.{◌≡◌, sym, ap, ◌∙◌}
use mathlib.Core.Bool.{true, false≢true}
use mathlib.Core.List.{List, [], ◌∷◌, map}
use Prim.Native.Nat.{ℕ, zero, suc, ◌≤◌, ◌<◌, zero-le, suc-le-suc}
use native.Mathlib.Omega.{arith}
use lib.Dec.{eqb}
use lib.ListN.{length, take, get_or, length-map}
use lib.Seq.{take_all}
use borrow.Author.Tests.{eqb-true}
use Rattle.cells.specs.Put.{put}
use Rattle.cells.proofs.Put.{part_same}
use Rattle.cells.proofs.Split.{by_bool, by_or, cond-true, cond-false, clash}
use Rattle.store_desk.specs.declared.Kind.TheVariants.{Cue, Group}
use Rattle.load.specs.Condition.{full_of}
use Rattle.load.specs.Run.{Run, Report, all_reports, condition_span, column_span, report_word, condition_in, stored_in, totals_of}
use Rattle.theorem_rehearse.specs.Rehearse.{is_full, has_full, HadRoom, stored_full, SawRoom}

small_condition : (c : ℕ) → is_full c ≡ true → c < condition_span
unfolding full_of
small_condition c h =
    by_or (eqb c (full_of Cue)) (eqb c (full_of Group)) h
    (λ e. let z : c ≡ 21 = eqb-true c 21 e in omega arith)
    (λ e. let z : c ≡ 22 = eqb-true c 22 e in omega arith)

word_full : (r : Report) → r.column < column_span → is_full r.condition ≡ true → is_full (condition_in (report_word r)) ≡ true
unfolding report_word
word_full r l h =
    let s : r.condition < condition_span = small_condition r.condition h in
    let e : condition_in (report_word r) ≡ r.condition = omega arith in
    ap is_full e ∙ h

-- each column fits its bits
abbrev pub ColumnsFit : List Report → Report → Type 0
ColumnsFit rs q = (k : ℕ) → k < length rs → (get_or rs k q).column < column_span

words_full : (rs : List Report) (q : Report) → ColumnsFit rs q → has_full rs ≡ true → stored_full (map report_word rs) ≡ true
unfolding has_full stored_full
words_full [] q l h = absurd (false≢true h)
words_full (r ∷ rs) q l h =
    by_bool (is_full (condition_in (report_word r)))
    (λ e. cond-true (is_full (condition_in (report_word r))) true (stored_full (map report_word rs)) e)
    (λ e.
    cond-false (is_full (condition_in (report_word r))) true (stored_full (map report_word rs)) e
    ∙ words_full rs q (λ k g. l (suc k) (suc-le-suc g))
    (by_bool (is_full r.condition)
    (λ f. clash (word_full r (l zero (suc-le-suc zero-le)) f) e)
    (λ f. sym (cond-false (is_full r.condition) true (has_full rs) f) ∙ h)))

-- a list with room for them holds all the reports
stored_all : (lent : List ℕ) (rs : List Report) → length rs ≤ length lent → take (length rs) (stored_in lent rs) ≡ map report_word rs
unfolding stored_in
stored_all lent rs h =
    let n = length-map rs report_word in
    let w : take (length lent) (map report_word rs) ≡ map report_word rs = take_all (length lent) (map report_word rs) (omega arith) in
    ap (λ (ws : List ℕ). take (length rs) (put lent 0 ws)) w ∙ part_same lent 0 (map report_word rs) (length rs) (omega arith) n

pub saw_room : (x : Run) (lent : List ℕ) (q : Report) → ColumnsFit (all_reports x) q → SawRoom x lent → HadRoom x
unfolding totals_of
saw_room x lent q l h =
    by_bool (has_full (all_reports x))
    (λ e. clash (words_full (all_reports x) q l e) (sym (ap stored_full (stored_all lent (all_reports x) h.0)) ∙ h.1))
    (λ e. e)
