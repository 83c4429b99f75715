-- How many: a record has no more faults than characters, a load no more records than the stream has bytes and no more reports but
-- 0100, and the four tallies sum to the records read; no more links are lost than there are cue slots. An empty record is blank, with no fault; a text has at most forty faults. By
-- induction on the records.
-- Assumes nothing.
use mathlib.Core.Path.{◌≡◌, refl, ap, ◌∙◌, subst}
use mathlib.Core.Bool.{Bool, true, false, cond}
use mathlib.Core.List.{List, [], ◌∷◌, ◌++◌, flatten}
use Prim.Native.Nat.{ℕ, zero, suc, ◌+◌, ◌*◌, ◌≤◌, ◌<◌, zero-le, suc-le-suc}
use native.Mathlib.Omega.{arith}
use lib.Dec.{eqb}
use lib.ListN.{length, get_or, length-append, length-map}
use lib.Seq.{take-nil}
use borrow.Author.Tests.{ltb-true}
use Rattle.cells.specs.Put.{put}
use Rattle.cells.proofs.Put.{put_nil}
use Rattle.cells.proofs.Split.{by_test, by_bool}
use Rattle.store_desk.specs.declared.Desk.{Desk}
use Rattle.text_records.specs.Stream.{records_of}
use Rattle.text_records.specs.Received.{longest}
use Rattle.text_records.specs.Cleaning.{is_high, is_control, has, kept_of}
use Rattle.text_records.proofs.Stream.{records_count}
use Rattle.text_fields.specs.Words.{words_in, words_of, fields_of}
use Rattle.load.specs.declared.Fault.{Fault}
use Rattle.load.specs.declared.Numbers.{Numbers}
use Rattle.load.specs.declared.State.{State}
use Rattle.load.specs.declared.Outcome.{Outcome}
use Rattle.load.specs.declared.Outcome.TheVariants.{Blank}
use Rattle.load.specs.Condition.{no_enddata, ignored_high, ignored_control}
use Rattle.load.specs.Item.{blame_none}
use Rattle.load.specs.Ask.{is_over_long}
use Rattle.load.specs.Anew.{fields_ask_in, ask_in}
use Rattle.load.specs.Step.{nothing_open, ended, acted, reported_of, ignored_in, one_if, outcome_faults}
use Rattle.load.specs.Translated.{as_given, step_in, numbers_after_of, run_in, bearer_of, Linked, link_at, has_asked, links_from, linked}
use Rattle.load.specs.Run.{condition_span, Report, Run, stops, only, and_then, reports_at, load_of, all_reports, Class, blank, passed, dropped, obeyed, class_of, eq_class, tally_of, stored_in, totals_of}
use Rattle.text_records.proofs.Counts.{tell, seen_few, characters_few}
use Rattle.text_fields.proofs.Counts.{words_few, fields_few}
use Rattle.load.specs.Fits.{Small, text_step}
use Rattle.load.proofs.Anew.{run_given}
use Rattle.load.proofs.Steps.{Modest, step_in_few, step_in_said}

-- ---- a record's ignored characters are reported at most once a sort
one_few : (b : Bool) (f : Fault) → length (one_if b f) ≡ tell b
one_few true f = refl
one_few false f = refl

ignored_few : (r : List ℕ) → length (ignored_in r) + length (kept_of r) ≤ length r
unfolding ignored_in
ignored_few r =
    let u : List Fault = one_if (has is_high r) (blame_none ignored_high) in
    let v : List Fault = one_if (has is_control r) (blame_none ignored_control) in
    let a : length u ≡ tell (has is_high r) = one_few (has is_high r) (blame_none ignored_high) in
    let b : length v ≡ tell (has is_control r) = one_few (has is_control r) (blame_none ignored_control) in
    let l : length (u ++ v) ≡ length u + length v = length-append u v in
    let h : tell (has is_high r) + tell (has is_control r) + length (kept_of r) ≤ length r = seen_few r in
    omega arith

-- ---- a fault has a character at least
pub small_join : (fs gs : List Fault) → Small fs → Small gs → Small (fs ++ gs)
unfolding Small
small_join [] gs h g = g
small_join (f ∷ fs) gs h g = (h.0, small_join fs gs h.1 g)

one_small : (b : Bool) (f : Fault) → f.condition < condition_span → Small (one_if b f)
unfolding Small
one_small true f h = (h, tt)
one_small false f h = tt

pub ignored_small : (high control : Bool) → Small (one_if high (blame_none ignored_high) ++ one_if control (blame_none ignored_control))
ignored_small high control =
    small_join (one_if high (blame_none ignored_high)) (one_if control (blame_none ignored_control)) (one_small high (blame_none ignored_high) (omega arith))
    (one_small control (blame_none ignored_control) (omega arith))

said_join : (n k : ℕ) (fs : List Fault) {gs : List Fault} → length fs + n ≤ k → Small fs → Modest n gs → Modest k (fs ++ gs)
said_join n k fs {gs} h g m =
    let l : length (fs ++ gs) ≡ length fs + length gs = length-append fs gs in
    let f : length gs ≤ n = m.few in
    record { few = omega arith; small = small_join fs gs g m.small }

long_said : (d : Desk) (b : Numbers) (s : State) (r t : List ℕ) → is_over_long r ≡ true → Modest (length r) (reported_of r (step_in d b s r t))
unfolding reported_of step_in outcome_faults Small acted ask_in
long_said d b s r t e =
    let l : longest < length r = ltb-true longest (length r) e in
    let h : 1 ≤ length r = omega arith in
    rw e (record { few = h; small = (omega arith, tt) })

pub step_in_record_said : (d : Desk) (b : Numbers) (s : State) (r t : List ℕ) → Modest (length r) (reported_of r (step_in d b s r t))
unfolding reported_of step_in ignored_in ask_in
step_in_record_said d b s r t =
    by_bool (is_over_long r)
    (λ e. long_said d b s r t e)
    (λ e.
    let i : length (ignored_in r) + length (kept_of r) ≤ length r = ignored_few r in
    let f : length (fields_of r) ≤ length (kept_of r) = fields_few r in
    let h : length (ignored_in r) + length (fields_of r) ≤ length r = omega arith in
    rw e (said_join (length (fields_of r)) (length r) (ignored_in r) h (ignored_small (has is_high r) (has is_control r)) (step_in_said d b s (fields_of r) t)))

-- a record with no character is blank, and nothing is reported of it
pub blank_step_in : (d : Desk) (b : Numbers) (s : State) (t : List ℕ) → step_in d b s [] t ≡ ended s Blank t
unfolding step_in ask_in kept_of fields_of words_of words_in fields_ask_in acted
blank_step_in d b s t = refl

pub blank_said : (s : State) (t : List ℕ) → reported_of [] (ended s Blank t) ≡ []
unfolding reported_of ignored_in has outcome_faults
blank_said s t = refl

-- ---- a text of at most 80 characters has at most forty faults
pub text_in_few : (d : Desk) (b : Numbers) (s : State) (text t : List ℕ) → length text ≤ longest → length (text_step d b s (words_of 0 text) t).faults ≤ 40
text_in_few d b s text t h =
    let a : 2 * length (text_step d b s (words_of 0 text) t).faults ≤ length (words_of 0 text) = step_in_few d b s (words_of 0 text) t in
    let w : length (words_of 0 text) ≤ length text = words_few 0 text in
    omega arith

-- ---- a load's records and reports
module _ (d : Desk) where
  pub run_in_records : (n : ℕ) (b : Numbers) (s : State) (t : List ℕ) (rs : List (List ℕ)) → length (run_in d n b s t rs).outcomes ≤ length rs
  unfolding run_in
  run_in_records n b s t [] = zero-le
  run_in_records n b s t (r ∷ rs) =
      let x = step_in d b s r t in
      by_test (λ (y : Run). length y.outcomes ≤ suc (length rs)) (stops x.outcome) (only (n + 1) r x)
      (and_then (n + 1) r x (run_in d (n + 1) (numbers_after_of b r x) x.state x.store rs))
      (λ e. suc-le-suc zero-le)
      (λ e. suc-le-suc (run_in_records (n + 1) (numbers_after_of b r x) x.state x.store rs))

  pub run_in-reports : (n : ℕ) (b : Numbers) (s : State) (t : List ℕ) (rs : List (List ℕ)) → length (run_in d n b s t rs).reports ≤ length (flatten rs)
  unfolding run_in flatten
  run_in-reports n b s t [] = zero-le
  run_in-reports n b s t (r ∷ rs) =
      let x = step_in d b s r t in
      let rest = run_in d (n + 1) (numbers_after_of b r x) x.state x.store rs in
      let more = rest.reports in
      let here : List Report = reports_at (n + 1) r (reported_of r x) in
      let m : length here ≡ length (reported_of r x) = length-map (reported_of r x) _ in
      let f : length (reported_of r x) ≤ length r = (step_in_record_said d b s r t).few in
      let l : length (r ++ flatten rs) ≡ length r + length (flatten rs) = length-append r (flatten rs) in
      let ih : length more ≤ length (flatten rs) = run_in-reports (n + 1) (numbers_after_of b r x) x.state x.store rs in
      let j : length (here ++ more) ≡ length here + length more = length-append here more in
      by_test (λ (y : Run). length y.reports ≤ length (r ++ flatten rs)) (stops x.outcome) (only (n + 1) r x) (and_then (n + 1) r x rest)
      (λ e. let g : length here ≤ length (r ++ flatten rs) = omega arith in g)
      (λ e. let g : length (here ++ more) ≤ length (r ++ flatten rs) = omega arith in g)

  -- no more records than the stream has bytes
  pub stream_records : (b : Numbers) (t s : List ℕ) → length (run_in d 0 b nothing_open t (records_of s)).outcomes ≤ length s
  stream_records b t s =
      let a : length (run_in d 0 b nothing_open t (records_of s)).outcomes ≤ length (records_of s) = run_in_records 0 b nothing_open t (records_of s) in
      let c : length (records_of s) ≤ length s = records_count s in
      omega arith

  -- and no more reports but 0100
  pub stream_reports : (b : Numbers) (t s : List ℕ) → length (run_in d 0 b nothing_open t (records_of s)).reports ≤ length s
  stream_reports b t s =
      let a : length (run_in d 0 b nothing_open t (records_of s)).reports ≤ length (flatten (records_of s)) = run_in-reports 0 b nothing_open t (records_of s) in
      let c : length (flatten (records_of s)) ≤ length s = characters_few s in
      omega arith

pub load_records : (d : Desk) (t s : List ℕ) → length (load_of d t s).outcomes ≤ length s
unfolding load_of
load_records d t s =
    subst (λ (x : Run). length x.outcomes ≤ length s) (run_given d 0 as_given nothing_open t (records_of s) refl) (stream_records d as_given t s)

pub load_reports : (d : Desk) (t s : List ℕ) → length (load_of d t s).reports ≤ length s
unfolding load_of
load_reports d t s =
    subst (λ (x : Run). length x.reports ≤ length s) (run_given d 0 as_given nothing_open t (records_of s) refl) (stream_reports d as_given t s)

all_few : (x : Run) → length (all_reports x) ≤ length x.reports + 1
unfolding all_reports
all_few x =
    by_test (λ (rs : List Report). length rs ≤ length x.reports + 1) x.stopped _ _
    (λ e. let h : length x.reports ≤ length x.reports + 1 = omega arith in h)
    (λ e.
    let r : Report = record { number = length x.outcomes; condition = no_enddata; column = 0 } in
    let l : length (x.reports ++ (r ∷ [])) ≡ length x.reports + 1 = length-append x.reports (r ∷ []) in
    let h : length (x.reports ++ (r ∷ [])) ≤ length x.reports + 1 = omega arith in
    h)

pub load_all_reports : (d : Desk) (t s : List ℕ) → length (all_reports (load_of d t s)) ≤ length s + 1
load_all_reports d t s =
    let a : length (all_reports (load_of d t s)) ≤ length (load_of d t s).reports + 1 = all_few (load_of d t s) in
    let b : length (load_of d t s).reports ≤ length s = load_reports d t s in
    omega arith

-- no report leaves the list as it is
pub stored_none : (reports : List ℕ) → stored_in reports [] ≡ reports
unfolding stored_in
stored_none reports = ap (put reports 0) (take-nil (length reports)) ∙ put_nil reports 0

-- ---- each record read is in one tally
one_class : (k : Class) (a b c e : ℕ)
    → cond (eq_class blank k) (suc a) a + cond (eq_class obeyed k) (suc b) b + cond (eq_class passed k) (suc c) c + cond (eq_class dropped k) (suc e) e
    ≡ suc (a + b + c + e)
unfolding eq_class
one_class blank a b c e = omega arith
one_class passed a b c e = omega arith
one_class dropped a b c e = omega arith
one_class obeyed a b c e = omega arith

pub tallies_sum : (os : List Outcome) → tally_of blank os + tally_of obeyed os + tally_of passed os + tally_of dropped os ≡ length os
unfolding tally_of
tallies_sum [] = refl
tallies_sum (o ∷ os) = one_class (class_of o) (tally_of blank os) (tally_of obeyed os) (tally_of passed os) (tally_of dropped os) ∙ ap suc (tallies_sum os)

-- so that none is above their number
pub tally_few : (k : Class) (os : List Outcome) → tally_of k os ≤ length os
unfolding tally_of
tally_few k [] = zero-le
tally_few k (o ∷ os) =
    let h : tally_of k os ≤ length os = tally_few k os in
    by_test (λ (n : ℕ). n ≤ suc (length os)) (eq_class k (class_of o)) _ _ (λ e. suc-le-suc h) (λ e. omega arith)

pub load_tallies : (d : Desk) (t s : List ℕ)
    → (totals_of (load_of d t s)).blank + (totals_of (load_of d t s)).obeyed + (totals_of (load_of d t s)).passed + (totals_of (load_of d t s)).dropped
    ≡ length (load_of d t s).outcomes
unfolding totals_of
load_tallies d t s = tallies_sum (load_of d t s).outcomes

-- ---- no more links are lost than there are slots
lost_one : (d : Desk) (i bearer : ℕ) (x : Linked) → (link_at d i bearer x).lost ≤ x.lost + 1
unfolding link_at
lost_one d i bearer x =
    by_test (λ (y : Linked). y.lost ≤ x.lost + 1) (eqb bearer 0) _ _ (λ e. omega arith) (λ e. omega arith)

lost_some : (d : Desk) (asked bs : List ℕ) (n i : ℕ) (x : Linked) → (links_from d asked bs n i x).lost ≤ x.lost + n
unfolding links_from
lost_some d asked bs zero i x = omega arith
lost_some d asked bs (suc n) i x =
    let y : Linked = cond (has_asked d asked x.store i) (link_at d i (bearer_of (get_or asked i 0) bs) x) x in
    let h : y.lost ≤ x.lost + 1 =
    by_test (λ (z : Linked). z.lost ≤ x.lost + 1) (has_asked d asked x.store i) _ _
    (λ e. lost_one d i (bearer_of (get_or asked i 0) bs) x) (λ e. omega arith) in
    let g : (links_from d asked bs n (suc i) y).lost ≤ y.lost + n = lost_some d asked bs n (suc i) y in
    omega arith

pub lost_few : (d : Desk) (asked bs t : List ℕ) → (linked d asked bs t).lost ≤ d.cues
unfolding linked
lost_few d asked bs t =
    let h : (links_from d asked bs d.cues 0 (record { store = t; lost = 0 })).lost ≤ 0 + d.cues =
    lost_some d asked bs d.cues 0 (record { store = t; lost = 0 }) in
    omega arith
