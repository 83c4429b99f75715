-- The class of each record of a load with translation is what the paper says of it, and a record that is not obeyed changes no byte. Only a
-- primary, a LINK in an open cue and CLEAR ask for anything else than in a normal load; each other record comes to the same. Of a load by
-- induction on the records.
-- Assumes nothing.
use Rattle.std.specs.Prelude.{Err, Ok, Result}
use mathlib.Core.Path.{◌≡◌, refl, sym, ap, ◌∙◌, subst}
use mathlib.Core.Bool.{Bool, true, false, cond}
use mathlib.Core.List.{List, [], ◌∷◌}
use Prim.Native.Nat.{ℕ, zero, suc, ◌+◌, ◌<◌}
use native.Mathlib.Nat.{not-suc-le-zero, le_of_suc-le-suc}
use native.Mathlib.Omega.{arith}
use lib.Dec.{leb}
use lib.ListN.{length, get_or, take, get_or-map}
use Rattle.cells.specs.Search.{Found, at, nowhere}
use Rattle.cells.proofs.Split.{by_test, cond-false, clash, and_left}
use Rattle.store_desk.specs.declared.Desk.{Desk}
use Rattle.store_desk.specs.declared.Key.{Key}
use Rattle.store_desk.specs.declared.Kind.{Kind}
use Rattle.store_desk.specs.Name.{pages_of, supported}
use Rattle.text_records.specs.Stream.{records_of}
use Rattle.text_fields.specs.Words.{Word, fields_of, head_of}
use Rattle.text_fields.specs.Keywords.{keyword_of, item_of}
use Rattle.store.specs.Change.{seat}
use Rattle.load.specs.declared.Basic.{Basic}
use Rattle.load.specs.declared.Basic.TheVariants.{Clear, Passed as PassedBasic, Local}
use Rattle.load.specs.declared.Family.{Family}
use Rattle.load.specs.declared.Family.TheVariants.{Primary, Augments, Basic as Basically}
use Rattle.load.specs.declared.Fault.{Fault}
use Rattle.load.specs.declared.Numbers.{Numbers}
use Rattle.load.specs.declared.Outcome.{Outcome}
use Rattle.load.specs.declared.Outcome.TheVariants.{Blank, Dropped, Obeyed}
use Rattle.load.specs.declared.Secondary.{Secondary}
use Rattle.load.specs.declared.State.{State}
use Rattle.load.specs.Condition.{unsupported_of, full_of}
use Rattle.load.specs.Item.{blame, blame_none}
use Rattle.load.specs.Ask.{Ask, rests, skips, name, named_ask, secondary_ask, item_ask, family_of, basic_ask, family_ask, fields_ask, is_over_long, ask_of}
use Rattle.load.specs.Anew.{next_key, accepted_of, beyond_of, next_named, anew_primary_ask, is_link, links_in, asks_link, is_clear, anew_family_ask, family_ask_in, fields_ask_in, ask_in}
use Rattle.load.specs.Step.{Step, nothing_open, opened_by, acted, record_step}
use Rattle.load.specs.Run.{Run, blank, passed, dropped, obeyed, class_of, stops, only, and_then}
use Rattle.load.specs.Translated.{anew_from_one, step_in, numbers_after_of, run_in, translated_of}
use Rattle.load.proofs.Steps.{step_in_untouched}
use Rattle.load.proofs.Told.{by_family, acted_told, acted-faults}
use Rattle.theorem_told.specs.Classes.{classes_of, begins, PassedOver, over, local, skipped, ClassSaid}
use Rattle.theorem_told.proofs.Classes.{apart, begins_with_lem, some_field, told_class, the_rest, class_said, over_long_said}
use Rattle.theorem_translated.specs.Numbered.{numbers_by, first_run, numbers_at, record_at, AllSaid}

-- ---- what is asked for in another way is neither blank nor passed over
abbrev Neither : Outcome → Type 0
Neither o = (class_of o ≡ blank → ⊥) × (class_of o ≡ passed → ⊥)

dropped_neither : (f : Fault) → Neither (Dropped f)
unfolding class_of
dropped_neither f = (apart dropped blank (λ n. omega arith), apart dropped passed (λ n. omega arith))

obeyed_neither : Neither Obeyed
unfolding class_of
obeyed_neither = (apart obeyed blank (λ n. omega arith), apart obeyed passed (λ n. omega arith))

module _ (d : Desk) (s : State) (t : List ℕ) where
  opened_neither : (k : Kind) (y : Key) (a : Found) → Neither (opened_by d k y a t).outcome
  unfolding opened_by
  opened_neither k y (at i) = obeyed_neither
  opened_neither k y nowhere = dropped_neither (blame_none (full_of k))

  primary_neither : (b : Numbers) (k : Kind) (w : Word) (ws : List Word) → Neither (acted d s t (anew_primary_ask d b k w ws)).outcome
  unfolding anew_primary_ask next_named named_ask acted
  primary_neither b k w ws =
      let y : Key = next_key d k (accepted_of b k) in
      by_test (λ (a : Ask). Neither (acted d s t a).outcome) (supported d k) (named_ask k (next_named d b k ws)) (skips (Dropped (blame w (unsupported_of k))))
      (λ e.
      by_test (λ (x : Result Key Fault). Neither (acted d s t (named_ask k x)).outcome) (leb y.page (pages_of d k)) (Ok y) (Err (beyond_of k (head_of ws)))
      (λ h. opened_neither k y (seat d t (name k y)))
      (λ h. dropped_neither (beyond_of k (head_of ws))))
      (λ e. dropped_neither (blame w (unsupported_of k)))

  -- it is as CLEAR of the item alone in a normal load
  clear_neither : (w v : Word) → Neither (acted d s t (item_ask d (item_of v.chars) w [])).outcome
  unfolding family_ask basic_ask
  clear_neither w v =
      by_family d w (v ∷ []) s (Basically Clear)
      (λ e. let z : ◌≡◌ {A = ℕ} 0 1 = cc in absurd (omega arith))
      (λ e. let z : ◌≡◌ {A = ℕ} 0 1 = cc in absurd (omega arith))
      (λ x e o. let z : ◌≡◌ {A = ℕ} 0 1 = cc in absurd (omega arith))
      (λ h. told_class d (w ∷ v ∷ []) _ (acted_told d s t (w ∷ v ∷ []) (item_ask d (item_of v.chars) w []) h))

-- ---- by the fields
module _ (d : Desk) (b : Numbers) (s : State) (r t : List ℕ) (w : Word) (ws : List Word) (e : fields_of r ≡ w ∷ ws) where
  other_said : (a : Ask) → (PassedOver s r → ⊥) → Neither (acted d s t a).outcome → ClassSaid s r (acted d s t a)
  other_said a p n =
      the_rest s r (acted d s t a) ((λ c. absurd (n.0 c)), (λ h. absurd (some_field r w ws e h))) ((λ c. absurd (n.1 c)), (λ h. absurd (p h))) (acted-faults d s t a)

  primary_not_passed : (k : Kind) → begins r ≡ Primary k → PassedOver s r → ⊥
  primary_not_passed k q (over g) = let z : ◌≡◌ {A = ℕ} 0 1 = cc in omega arith
  primary_not_passed k q (local g) = let z : ◌≡◌ {A = ℕ} 0 1 = cc in omega arith
  primary_not_passed k q (skipped x g o) = let z : ◌≡◌ {A = ℕ} 0 1 = cc in omega arith

  link_not_passed : (x : Secondary) → begins r ≡ Augments x → links_in s.«open» ≡ true → PassedOver s r → ⊥
  unfolding links_in
  link_not_passed x q l (over g) = let z : ◌≡◌ {A = ℕ} 0 1 = cc in omega arith
  link_not_passed x q l (local g) = let z : ◌≡◌ {A = ℕ} 0 1 = cc in omega arith
  link_not_passed x q l (skipped y g o) = clash l (ap links_in o)

  clear_not_passed : (x : Basic) → begins r ≡ Basically x → is_clear x ≡ true → PassedOver s r → ⊥
  unfolding is_clear
  clear_not_passed x q c (over g) = let z : x ≡ PassedBasic = cc in clash c (ap is_clear z)
  clear_not_passed x q c (local g) = let z : x ≡ Local = cc in clash c (ap is_clear z)
  clear_not_passed x q c (skipped y g o) = let z : ◌≡◌ {A = ℕ} 0 1 = cc in omega arith

  anew_said : (f : Family) → begins r ≡ f → ClassSaid s r (acted d s t (family_ask d s f w ws)) → ClassSaid s r (acted d s t (anew_family_ask d b s f w ws))
  unfolding anew_family_ask family_ask
  anew_said (Primary k) q h = other_said (anew_primary_ask d b k w ws) (primary_not_passed k q) (primary_neither d s t b k w ws)
  anew_said (Augments x) q h =
      by_test (λ (a : Ask). ClassSaid s r (acted d s t a)) (asks_link s.«open» x) (rests Obeyed) (secondary_ask d s.key s.«open» x w ws)
      (λ l. other_said (rests Obeyed) (link_not_passed x q (and_left (links_in s.«open») (is_link x) l)) (unfold acted in obeyed_neither))
      (λ l. h)
  anew_said (Basically x) q h =
      by_test (λ (a : Ask). ClassSaid s r (acted d s t a)) (is_clear x) (item_ask d (item_of (head_of ws).chars) w []) (basic_ask d x w ws)
      (λ c. other_said (item_ask d (item_of (head_of ws).chars) w []) (clear_not_passed x q c) (clear_neither d s t w (head_of ws)))
      (λ c. h)

module _ (d : Desk) (b : Numbers) (s : State) (r t : List ℕ) where
  fields_said : (fs : List Word) → fields_of r ≡ fs → ClassSaid s r (acted d s t (fields_ask d s fs)) → ClassSaid s r (acted d s t (fields_ask_in d b s fs))
  unfolding fields_ask_in family_ask_in fields_ask
  fields_said [] e h = h
  fields_said (w ∷ ws) e h =
      let f : Family = family_of (keyword_of w.chars) in
      by_test (λ (a : Ask). ClassSaid s r (acted d s t a)) b.anew (anew_family_ask d b s f w ws) (family_ask d s f w ws)
      (λ c. anew_said d b s r t w ws e f (begins_with_lem r w ws e) h)
      (λ c. h)

  -- the class of a record of at most 80 characters
  class_in_said : is_over_long r ≡ false → ClassSaid s r (step_in d b s r t)
  unfolding step_in ask_in record_step ask_of
  class_in_said e =
      subst (λ (a : Ask). ClassSaid s r (acted d s t a)) (sym (cond-false (is_over_long r) _ _ e))
      (fields_said (fields_of r) refl (subst (λ (a : Ask). ClassSaid s r (acted d s t a)) (cond-false (is_over_long r) _ _ e) (class_said d s r t e)))

-- ---- of a load
-- the outcome of record i is that of its own step, after the records before it
module _ (d : Desk) where
  -- behind a record that stops the load none is read
  outcome_on : (c : Bool) (i n : ℕ) (b : Numbers) (r q : List ℕ) (rs : List (List ℕ)) (x : Step) (rest cut : Run)
      → suc i < length (cond c (only n r x) (and_then n r x rest)).outcomes
      → (i < length rest.outcomes
      → get_or rest.outcomes i Blank ≡ (step_in d (numbers_by (numbers_after_of b r x) rs cut.outcomes) cut.state q cut.store).outcome)
      → get_or (cond c (only n r x) (and_then n r x rest)).outcomes (suc i) Blank
      ≡ (step_in d (numbers_by b (r ∷ rs) (cond c (only n r x) (and_then n r x cut)).outcomes) (cond c (only n r x) (and_then n r x cut)).state q
      (cond c (only n r x) (and_then n r x cut)).store
      ).outcome
  unfolding numbers_by
  outcome_on true i n b r q rs x rest cut h ih = absurd (not-suc-le-zero (le_of_suc-le-suc h))
  outcome_on false i n b r q rs x rest cut h ih = ih (le_of_suc-le-suc h)

  outcome_at : (i n : ℕ) (b : Numbers) (s : State) (t : List ℕ) (rs : List (List ℕ)) → i < length (run_in d n b s t rs).outcomes
      → get_or (run_in d n b s t rs).outcomes i Blank
      ≡ (step_in d (numbers_by b rs (run_in d n b s t (take i rs)).outcomes) (run_in d n b s t (take i rs)).state (get_or rs i [])
      (run_in d n b s t (take i rs)).store
      ).outcome
  unfolding run_in numbers_by
  outcome_at zero n b s t [] h = absurd (not-suc-le-zero h)
  outcome_at (suc i) n b s t [] h = absurd (not-suc-le-zero h)
  outcome_at zero n b s t (r ∷ rs) h =
      let x = step_in d b s r t in
      by_test (λ (y : Run). get_or y.outcomes 0 Blank ≡ x.outcome) (stops x.outcome) (only (n + 1) r x)
      (and_then (n + 1) r x (run_in d (n + 1) (numbers_after_of b r x) x.state x.store rs))
      (λ e. refl)
      (λ e. refl)
  outcome_at (suc i) n b s t (r ∷ rs) h =
      let x = step_in d b s r t in
      let c = numbers_after_of b r x in
      outcome_on (stops x.outcome) i (n + 1) b r (get_or rs i []) rs x (run_in d (n + 1) c x.state x.store rs)
      (run_in d (n + 1) c x.state x.store (take i rs)) h (λ g. outcome_at i (n + 1) c x.state x.store rs g)

pub translated_said : (d : Desk) (t stream : List ℕ) → AllSaid d t stream
unfolding translated_of classes_of class_of
translated_said d t stream i h =
    let x = first_run d t stream i in
    let b = numbers_at d t stream i in
    let r = record_at stream i in
    record {
      own = get_or-map class_of (run_in d 0 anew_from_one nothing_open t (records_of stream)).outcomes i Blank
          ∙ ap class_of (outcome_at d i 0 anew_from_one nothing_open t (records_of stream) h);
      short = class_in_said d b x.state r x.store;
      long = over_long_said d x.state r x.store b;
      untouched = step_in_untouched d b x.state r x.store;
    }
