-- Lines that are obeyed one after the other, joined, and at last ENDDATA: what the run of them is told as. By induction on the lines.
-- Assumes nothing.
use mathlib.Core.Path.{◌≡◌, refl, ap, ◌∙◌}
use mathlib.Core.Bool.{true, cond}
use mathlib.Core.List.{List, [], ◌∷◌, ◌++◌}
use Prim.Native.Nat.{ℕ, zero, suc, ◌+◌}
use lib.ListN.{length, replicate}
use Rattle.cells.specs.Text.{bytes}
use Rattle.cells.specs.Scan.{span}
use Rattle.store_desk.specs.declared.Desk.{Desk}
use Rattle.text_records.specs.Cleaning.{is_high, is_control, is_mark, has, kept_of}
use Rattle.text_fields.specs.Words.{is_delimiter, words_in, words_of, fields_of}
use Rattle.text_fields.specs.Keywords.{keyword_of, item_of, item_rows, meaning_of, keyword_rows, same_word_of, same_text, upper}
use Rattle.value.specs.Integer.{digit_of, digits_from, run_of, integer_of}
use Rattle.value.specs.Parts.{cut_at}
use Rattle.value.specs.Field.{versioned_of, version_of}
use Rattle.load.specs.declared.State.{State}
use Rattle.load.specs.declared.Fault.{Fault}
use Rattle.load.specs.declared.Outcome.{Outcome}
use Rattle.load.specs.declared.Outcome.TheVariants.{Obeyed, Stopped}
use Rattle.load.specs.Item.{blame_none}
use Rattle.store.specs.Change.{every_page}
use Rattle.load.specs.Ask.{page_at, paged_ask, all_wipes, item_ask, ident_outcome, family_of, basic_ask, family_ask, fields_ask, ask_of}
use Rattle.load.proofs.Tables.{all_ask_lem}
use Rattle.load.specs.Step.{Step, ended, nothing_open, acted, wiped, record_step, settle_by, ignored_in, outcome_faults, reported_of}
use Rattle.load.specs.Run.{reports_at, stops, Run, only, and_then, run_from, all_reports, blank, passed, dropped, obeyed, class_of, eq_class, tally_of, last_of, closing_of, totals_of}
use Rattle.theorem_same_show.proofs.Fair.{is_fair, Fair, AllFair}
use Rattle.theorem_same_show.proofs.Does.{Does}

-- ---- the lines that are always the same
pub ident_does : (d : Desk) (s : State) (t : List ℕ) → Does d s t (bytes "IDENT 3:0") s t
unfolding record_step ask_of acted fields_ask family_ask family_of basic_ask ident_outcome fields_of words_of words_in is_delimiter span has kept_of is_high is_control is_mark keyword_of meaning_of keyword_rows same_word_of same_text upper version_of versioned_of integer_of run_of digits_from digit_of cut_at ignored_in is_fair
ident_does d s t = record { fair = refl; quiet = refl; step = refl }

pub clear_does : (d : Desk) (t : List ℕ) → Does d nothing_open t (bytes "CLEAR ALL") nothing_open (wiped d (all_wipes d every_page) t)
unfolding record_step ask_of acted fields_ask family_ask family_of basic_ask item_ask paged_ask page_at settle_by fields_of words_of words_in is_delimiter span has kept_of is_high is_control is_mark keyword_of meaning_of keyword_rows same_word_of same_text upper item_of item_rows ignored_in is_fair
clear_does d t = record { fair = refl; quiet = refl; step = ap (acted d nothing_open t) (all_ask_lem d []) }

abbrev end_data : Outcome
end_data = Stopped (blame_none 0)

end_step : (d : Desk) (s : State) (t : List ℕ) → record_step d s (bytes "ENDDATA") t ≡ ended s end_data t
unfolding record_step ask_of acted fields_ask family_ask family_of basic_ask fields_of words_of words_in is_delimiter span has kept_of is_high is_control is_mark keyword_of meaning_of keyword_rows same_word_of same_text upper
end_step d s t = refl

end_quiet : (s : State) (t : List ℕ) → reported_of (bytes "ENDDATA") (ended s end_data t) ≡ []
unfolding reported_of outcome_faults ignored_in has is_high is_control
end_quiet s t = refl

end_fair : Fair (bytes "ENDDATA")
unfolding span is_fair
end_fair = refl

-- ---- one after the other
pub data Runs (d : Desk) : State → List ℕ → List (List ℕ) → State → List ℕ → Type 0 where
  done : {s : State} {t : List ℕ} → Runs d s t [] s t
  next : {s s₁ s₂ : State} {t t₁ t₂ l : List ℕ} {ls : List (List ℕ)} → Does d s t l s₁ t₁ → Runs d s₁ t₁ ls s₂ t₂ → Runs d s t (l ∷ ls) s₂ t₂

pub runs_append : {d : Desk} {s s₁ s₂ : State} {t t₁ t₂ : List ℕ} {a b : List (List ℕ)} → Runs d s t a s₁ t₁ → Runs d s₁ t₁ b s₂ t₂ → Runs d s t (a ++ b) s₂ t₂
runs_append done g = g
runs_append (next x f) g = next x (runs_append f g)

pub runs_one : {d : Desk} {s s₁ : State} {t t₁ l : List ℕ} → Does d s t l s₁ t₁ → Runs d s t (l ∷ []) s₁ t₁
runs_one x = next x done

-- every line of it is fair, and so is ENDDATA
pub runs_fair : {d : Desk} {s s₁ : State} {t t₁ : List ℕ} {ls : List (List ℕ)} → Runs d s t ls s₁ t₁ → AllFair (ls ++ (bytes "ENDDATA" ∷ []))
runs_fair done = (end_fair, tt)
runs_fair (next x f) = (x.fair, runs_fair f)

-- ---- what it comes to
unfoldable pub obeyed_run : ℕ → State → List ℕ → Run
obeyed_run n s t = record { state = s; store = t; stopped = true; outcomes = replicate n Obeyed ++ (end_data ∷ []); reports = [] }

end_run : (d : Desk) (n : ℕ) (s : State) (t : List ℕ) → run_from d n s t (bytes "ENDDATA" ∷ []) ≡ obeyed_run 0 s t
unfolding run_from obeyed_run stops
end_run d n s t =
    ap (λ (x : Step). cond (stops x.outcome) (only (n + 1) (bytes "ENDDATA") x) (and_then (n + 1) (bytes "ENDDATA") x (run_from d (n + 1) x.state x.store [])))
    (end_step d s t)
    ∙ ap
    (λ (fs : List Fault). record { state = s; store = t; stopped = true; outcomes = end_data ∷ []; reports = reports_at (n + 1) (bytes "ENDDATA") fs })
    (end_quiet s t)

does_quiet : {d : Desk} {s s₁ : State} {t t₁ l : List ℕ} → Does d s t l s₁ t₁ → reported_of l (ended s₁ Obeyed t₁) ≡ []
unfolding reported_of outcome_faults
does_quiet {d} {s} {s₁} {t} {t₁} {l} x = ap (λ (z : List Fault). z ++ []) x.quiet

pub runs_end : {d : Desk} {s s₁ : State} {t t₁ : List ℕ} {ls : List (List ℕ)} → Runs d s t ls s₁ t₁ → (n : ℕ)
    → run_from d n s t (ls ++ (bytes "ENDDATA" ∷ [])) ≡ obeyed_run (length ls) s₁ t₁
unfolding run_from obeyed_run stops
runs_end {d} (done {s = s} {t = t}) n = end_run d n s t
runs_end {d} (next {s = s} {s₁ = s₁} {s₂ = s₂} {t = t} {t₁ = t₁} {t₂ = t₂} {l = l} {ls = ls} x f) n =
    let rs : List (List ℕ) = ls ++ (bytes "ENDDATA" ∷ []) in
    ap (λ (y : Step). cond (stops y.outcome) (only (n + 1) l y) (and_then (n + 1) l y (run_from d (n + 1) y.state y.store rs))) x.step
    ∙ ap (λ (fs : List Fault). let z = run_from d (n + 1) s₁ t₁ rs in
    record { state = z.state; store = z.store; stopped = z.stopped; outcomes = Obeyed ∷ z.outcomes; reports = reports_at (n + 1) l fs ++ z.reports }) (does_quiet x)
    ∙ ap (λ (z : Run). record { state = z.state; store = z.store; stopped = z.stopped; outcomes = Obeyed ∷ z.outcomes; reports = z.reports }) (runs_end f (n + 1))

-- ---- as it is told
tally_obeyed : (n : ℕ) → tally_of obeyed (replicate n Obeyed ++ (end_data ∷ [])) ≡ suc n
unfolding tally_of eq_class class_of
tally_obeyed zero = refl
tally_obeyed (suc n) = ap suc (tally_obeyed n)

tally_blank : (n : ℕ) → tally_of blank (replicate n Obeyed ++ (end_data ∷ [])) ≡ 0
unfolding tally_of eq_class class_of
tally_blank zero = refl
tally_blank (suc n) = tally_blank n

tally_passed : (n : ℕ) → tally_of passed (replicate n Obeyed ++ (end_data ∷ [])) ≡ 0
unfolding tally_of eq_class class_of
tally_passed zero = refl
tally_passed (suc n) = tally_passed n

tally_dropped : (n : ℕ) → tally_of dropped (replicate n Obeyed ++ (end_data ∷ [])) ≡ 0
unfolding tally_of eq_class class_of
tally_dropped zero = refl
tally_dropped (suc n) = tally_dropped n

module _ (n : ℕ) (s : State) (t : List ℕ) where
  pub run_reports : all_reports (obeyed_run n s t) ≡ []
  unfolding all_reports obeyed_run
  run_reports = refl

  pub run_told : totals_of (obeyed_run n s t) ≡ record { reports = 0; blank = 0; obeyed = suc n; passed = 0; dropped = 0; closing = 0 }
  unfolding totals_of all_reports obeyed_run closing_of last_of
  run_told =
      λ i. record { reports = 0; blank = tally_blank n i; obeyed = tally_obeyed n i; passed = tally_passed n i; dropped = tally_dropped n i; closing = 0 }
