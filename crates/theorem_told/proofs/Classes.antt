-- The class of each record is what the paper says of it: by the record's fields, by what its keyword begins, and by what is reported. Ignored
-- characters make no difference. Of a load by induction on the records.
-- Assumes nothing.
use mathlib.Core.Path.{◌≡◌, refl, sym, ap, ◌∙◌, subst}
use mathlib.Core.Bool.{Bool, true, false, cond}
use mathlib.Core.Logic.{◌↔◌}
use mathlib.Core.List.{List, [], ◌∷◌}
use Prim.Native.Nat.{ℕ, zero, suc, ◌+◌, ◌≤◌, ◌<◌}
use native.Mathlib.Nat.{not-suc-le-zero, le_of_suc-le-suc}
use native.Mathlib.Omega.{arith}
use lib.Dec.{eqb, ltb}
use lib.ListN.{length, get_or, take, get_or-map}
use borrow.Author.Tests.{eq-eqb, ne_eqb, ltb-false, lt-ltb, le-ltb}
use Rattle.cells.proofs.Split.{by_test, by_eq, cond-true, cond-false}
use Rattle.store_desk.specs.declared.Desk.{Desk}
use Rattle.text_records.specs.Stream.{records_of}
use Rattle.text_records.specs.Received.{longest}
use Rattle.text_records.specs.Cleaning.{kept_of}
use Rattle.text_records.proofs.Cleaning.{kept_length, kept_again}
use Rattle.text_fields.specs.Words.{Word, words_of, fields_of, head_of}
use Rattle.text_fields.specs.Keywords.{same_text, same_word_of, meaning_of, keyword_rows, keyword_of}
use Rattle.load.specs.declared.Basic.TheVariants.{Unknown}
use Rattle.load.specs.declared.Family.TheVariants.{Basic}
use Rattle.load.specs.declared.Fault.{Fault}
use Rattle.load.specs.declared.Numbers.{Numbers}
use Rattle.load.specs.declared.State.{State}
use Rattle.load.specs.declared.Outcome.{Outcome}
use Rattle.load.specs.declared.Outcome.TheVariants.{Blank, Passed, Dropped, Obeyed, Stopped}
use Rattle.load.specs.Ask.{is_over_long, family_of, family_ask, fields_ask, ask_of}
use Rattle.load.specs.Anew.{ask_in}
use Rattle.load.specs.Step.{Step, record_step, step_of, acted, outcome_faults, reported_of, nothing_open}
use Rattle.load.specs.Run.{Run, Class, blank, passed, dropped, obeyed, class_number, class_of, stops, only, and_then, run_from, load_of}
use Rattle.load.specs.Translated.{as_given, step_in}
use Rattle.load.proofs.Anew.{step_given}
use Rattle.load.proofs.Told.{OutcomeTold, by_family, over_passed, local_passed, skipped_passed, acted_told, acted-faults}
use Rattle.theorem_told.specs.Classes.{classes_of, begins, PassedOver, over, local, skipped, ReportedWhole, ClassSaid, OverLongSaid, CleanedAlike, first_run, AllSaid}

-- ---- a class is no other
abbrev pub Apart : Class → Class → Type 0
Apart a b = a ≡ b → ⊥

pub apart : (a b : Class) → (class_number a ≡ class_number b → ⊥) → Apart a b
apart a b h e = h (ap (λ (k : Class). class_number k) e)

by_class {ℓ} : {X : Type ℓ} (k : Class) → (k ≡ blank → X) → (k ≡ passed → X) → (k ≡ dropped → X) → (k ≡ obeyed → X) → X
by_class blank b p d o = b refl
by_class passed b p d o = p refl
by_class dropped b p d o = d refl
by_class obeyed b p d o = o refl

-- ---- by the outcome
dropped_if : (o : Outcome) → (f : Fault) × (outcome_faults o ≡ f ∷ []) → class_of o ≡ dropped
unfolding outcome_faults class_of
dropped_if Blank e = let z : ◌≡◌ {A = ℕ} 0 1 = ap length e.1 in absurd (omega arith)
dropped_if Passed e = let z : ◌≡◌ {A = ℕ} 0 1 = ap length e.1 in absurd (omega arith)
dropped_if (Dropped f) e = refl
dropped_if Obeyed e = let z : ◌≡◌ {A = ℕ} 0 1 = ap length e.1 in absurd (omega arith)
dropped_if (Stopped f) e =
    by_eq f.condition 0
    (λ h.
    let l : ltb 0 f.condition ≡ false = le-ltb 0 f.condition (omega arith) in
    let n : ◌≡◌ {A = ℕ} 0 1 = ap length (sym (cond-false (ltb 0 f.condition) (f ∷ []) [] l) ∙ e.1) in
    absurd (omega arith))
    (λ h. cond-false _ _ _ (ne_eqb f.condition 0 h))

only_dropped : (o : Outcome) → class_of o ≡ dropped → (f : Fault) × (outcome_faults o ≡ f ∷ [])
unfolding outcome_faults class_of
only_dropped Blank e = absurd (apart (class_of Blank) dropped (λ n. omega arith) e)
only_dropped Passed e = absurd (apart (class_of Passed) dropped (λ n. omega arith) e)
only_dropped (Dropped f) e = (f, refl)
only_dropped Obeyed e = absurd (apart (class_of Obeyed) dropped (λ n. omega arith) e)
only_dropped (Stopped f) e =
    by_eq f.condition 0
    (λ h. absurd (apart obeyed dropped (λ n. omega arith) (sym (cond-true _ _ _ (eq-eqb f.condition 0 h)) ∙ e)))
    (λ h. (f, cond-true _ _ _ (lt-ltb 0 f.condition (omega arith))))

pub told_class : (d : Desk) (fs : List Word) (o : Outcome) → OutcomeTold d fs o → (class_of o ≡ blank → ⊥) × (class_of o ≡ passed → ⊥)
unfolding class_of
told_class d fs Blank h = absurd h
told_class d fs Passed h = absurd h
told_class d fs (Dropped f) h = (apart dropped blank (λ n. omega arith), apart dropped passed (λ n. omega arith))
told_class d fs Obeyed h = (apart obeyed blank (λ n. omega arith), apart obeyed passed (λ n. omega arith))
told_class d fs (Stopped f) h =
    by_test (λ (k : Class). (k ≡ blank → ⊥) × (k ≡ passed → ⊥)) (eqb f.condition 0) obeyed dropped
    (λ e. (apart obeyed blank (λ n. omega arith), apart obeyed passed (λ n. omega arith)))
    (λ e. (apart dropped blank (λ n. omega arith), apart dropped passed (λ n. omega arith)))

-- ---- from the three others, the rest
module _ (s : State) (r : List ℕ) (x : Step) where
  pub the_rest : ((class_of x.outcome ≡ blank) ↔ (fields_of r ≡ [])) → ((class_of x.outcome ≡ passed) ↔ PassedOver s r)
      → ((x.outcome ≡ Obeyed → ⊥) → x.faults ≡ []) → ClassSaid s r x
  unfolding class_of
  the_rest b p f =
      let k : Class = class_of x.outcome in
      let dr : (k ≡ dropped) ↔ ReportedWhole x = (only_dropped x.outcome, dropped_if x.outcome) in
      record {
        blanks = b;
        passes = p;
        drops = dr;
        obeys = (
          (λ e. (
            (λ h. apart obeyed blank (λ n. omega arith) (sym e ∙ b.1 h)),
            (λ h. apart obeyed passed (λ n. omega arith) (sym e ∙ p.1 h)),
            (λ h. apart obeyed dropped (λ n. omega arith) (sym e ∙ dr.1 h)),
          )),
          (λ h. by_class k (λ e. absurd (h.0 (b.0 e))) (λ e. absurd (h.1 (p.0 e))) (λ e. absurd (h.2 (dr.0 e))) (λ e. e)),
        );
        apart = λ h. f (λ e. h (ap class_of e));
      }

-- ---- by the fields
module _ (r : List ℕ) (w : Word) (ws : List Word) (e : fields_of r ≡ w ∷ ws) where
  pub begins_with_lem : begins r ≡ family_of (keyword_of w.chars)
  begins_with_lem = ap (λ (x : List Word). family_of (keyword_of (head_of x).chars)) e

  pub some_field : fields_of r ≡ [] → ⊥
  some_field h = let z : ◌≡◌ {A = ℕ} 0 (suc (length ws)) = ap length (sym h ∙ e) in omega arith

module _ (d : Desk) (s : State) (r t : List ℕ) where
  -- no field, and so no keyword
  no_keyword : fields_of r ≡ [] → begins r ≡ Basic Unknown
  unfolding keyword_of meaning_of keyword_rows same_word_of same_text family_of
  no_keyword e = ap (λ (ws : List Word). family_of (keyword_of (head_of ws).chars)) e

  not_over : fields_of r ≡ [] → PassedOver s r → ⊥
  not_over e (over h) = let b = no_keyword e in let z : ◌≡◌ {A = ℕ} 0 1 = cc in absurd (omega arith)
  not_over e (local h) = let b = no_keyword e in let z : ◌≡◌ {A = ℕ} 0 1 = cc in absurd (omega arith)
  not_over e (skipped y h o) = let b = no_keyword e in let z : ◌≡◌ {A = ℕ} 0 1 = cc in absurd (omega arith)

  module _ (w : Word) (ws : List Word) (e : fields_of r ≡ w ∷ ws) where
    over_is : PassedOver s r → (step_of d s (w ∷ ws) t).outcome ≡ Passed
    unfolding fields_ask
    over_is (over h) = ap (λ (x : Step). x.outcome) (over_passed d s t w ws (sym (begins_with_lem r w ws e) ∙ h))
    over_is (local h) = ap (λ (x : Step). x.outcome) (local_passed d s t w ws (sym (begins_with_lem r w ws e) ∙ h))
    over_is (skipped y h o) = ap (λ (x : Step). x.outcome) (skipped_passed d s t w ws y (sym (begins_with_lem r w ws e) ∙ h) o)

    no_items : ((step_of d s (w ∷ ws) t).outcome ≡ Obeyed → ⊥) → (step_of d s (w ∷ ws) t).faults ≡ []
    no_items = acted-faults d s t (fields_ask d s (w ∷ ws))

    passed_said : PassedOver s r → ClassSaid s r (step_of d s (w ∷ ws) t)
    unfolding class_of
    passed_said h =
        let o : class_of (step_of d s (w ∷ ws) t).outcome ≡ passed = ap class_of (over_is h) in
        the_rest s r _
        ((λ b. absurd (apart passed blank (λ n. omega arith) (sym o ∙ b))), (λ b. absurd (some_field r w ws e b)))
        ((λ p. h), (λ p. o)) no_items

    told_said : OutcomeTold d (w ∷ ws) (step_of d s (w ∷ ws) t).outcome → ClassSaid s r (step_of d s (w ∷ ws) t)
    unfolding class_of
    told_said h =
        let n = told_class d (w ∷ ws) (step_of d s (w ∷ ws) t).outcome h in
        the_rest s r _
        ((λ b. absurd (n.0 b)), (λ b. absurd (some_field r w ws e b)))
        ((λ p. absurd (n.1 p)), (λ p. absurd (n.1 (ap class_of (over_is p))))) no_items

  fields_said : (ws : List Word) → fields_of r ≡ ws → ClassSaid s r (step_of d s ws t)
  unfolding fields_ask acted class_of
  fields_said [] e =
      the_rest s r _ ((λ b. e), (λ b. refl))
      ((λ p. absurd (apart blank passed (λ n. omega arith) p)), (λ p. absurd (not_over e p)))
      (λ h. refl)
  fields_said (w ∷ ws) e =
      let f = family_of (keyword_of w.chars) in
      by_family d w ws s f
      (λ h. passed_said w ws e (over (begins_with_lem r w ws e ∙ h)))
      (λ h. passed_said w ws e (local (begins_with_lem r w ws e ∙ h)))
      (λ y h o. passed_said w ws e (skipped y (begins_with_lem r w ws e ∙ h) o))
      (λ h. told_said w ws e (acted_told d s t (w ∷ ws) (family_ask d s f w ws) h))

  -- the class of a record of at most 80 characters
  pub class_said : is_over_long r ≡ false → ClassSaid s r (record_step d s r t)
  unfolding record_step ask_of
  class_said e = rw e (fields_said (fields_of r) refl)

  -- one that is over-long, in either load
  pub over_long_said : (b : Numbers) → is_over_long r ≡ true → OverLongSaid r (step_in d b s r t)
  unfolding step_in ask_in acted class_of reported_of outcome_faults stops
  over_long_said b e = rw e (record { drops = refl; reported = rw e refl; stopped = refl })

-- ---- ignored characters
pub cleaned_alike : (d : Desk) (s : State) (r t : List ℕ) → CleanedAlike d s r t
unfolding record_step ask_of fields_of
cleaned_alike d s r t e =
    let l : length r ≤ longest = ltb-false longest (length r) e in
    let k : length (kept_of r) ≤ length r = kept_length r in
    let f : is_over_long (kept_of r) ≡ false = le-ltb longest (length (kept_of r)) (omega arith) in
    rw (e, f) (ap (λ (x : List ℕ). acted d s t (fields_ask d s (words_of 0 x))) (sym (kept_again r)))

-- ---- of a load
-- the outcome of record i is that of its own step, after the records before it
module _ (d : Desk) where
  -- behind a record that stops the load none is read
  outcome_on : (b : Bool) (i n : ℕ) (r q : List ℕ) (x : Step) (rest cut : Run)
      → suc i < length (cond b (only n r x) (and_then n r x rest)).outcomes
      → (i < length rest.outcomes → get_or rest.outcomes i Blank ≡ (record_step d cut.state q cut.store).outcome)
      → get_or (cond b (only n r x) (and_then n r x rest)).outcomes (suc i) Blank
      ≡ (record_step d (cond b (only n r x) (and_then n r x cut)).state q (cond b (only n r x) (and_then n r x cut)).store).outcome
  outcome_on true i n r q x rest cut h ih = absurd (not-suc-le-zero (le_of_suc-le-suc h))
  outcome_on false i n r q x rest cut h ih = ih (le_of_suc-le-suc h)

  outcome_at : (i n : ℕ) (s : State) (t : List ℕ) (rs : List (List ℕ)) → i < length (run_from d n s t rs).outcomes
      → get_or (run_from d n s t rs).outcomes i Blank
      ≡ (record_step d (run_from d n s t (take i rs)).state (get_or rs i []) (run_from d n s t (take i rs)).store).outcome
  unfolding run_from
  outcome_at zero n s t [] h = absurd (not-suc-le-zero h)
  outcome_at (suc i) n s t [] h = absurd (not-suc-le-zero h)
  outcome_at zero n s t (r ∷ rs) h =
      let x = record_step d s r t in
      by_test (λ (y : Run). get_or y.outcomes 0 Blank ≡ x.outcome) (stops x.outcome) _ _ (λ e. refl) (λ e. refl)
  outcome_at (suc i) n s t (r ∷ rs) h =
      let x = record_step d s r t in
      outcome_on (stops x.outcome) i (n + 1) r (get_or rs i []) x (run_from d (n + 1) x.state x.store rs)
      (run_from d (n + 1) x.state x.store (take i rs)) h (λ g. outcome_at i (n + 1) x.state x.store rs g)

pub load_said : (d : Desk) (t stream : List ℕ) → AllSaid d t stream
unfolding load_of classes_of class_of
load_said d t stream i h =
    let x = first_run d t stream i in
    let r = get_or (records_of stream) i [] in
    record {
      own = get_or-map class_of (run_from d 0 nothing_open t (records_of stream)).outcomes i Blank
          ∙ ap class_of (outcome_at d i 0 nothing_open t (records_of stream) h);
      short = class_said d x.state r x.store;
      long =
          λ e.
          subst (OverLongSaid r) (step_given d as_given x.state r x.store refl) (over_long_said d x.state r x.store as_given e);
    }
