-- For a stream that numbers its memories as the load with translation would, that load and the normal one come to the same. By induction on the
-- records, of which each comes to the same in both; the links that one load set as it went are those that the other sets when it ends.
-- Assumes nothing.
use Rattle.std.specs.Prelude.{Err, None, Ok, Option, Result, Some}
use mathlib.Core.Path.{◌≡◌, refl, sym, ap, ◌∙◌, subst}
use mathlib.Core.Bool.{Bool, true, false, cond, not, ◌&&◌}
use mathlib.Core.List.{List, [], ◌∷◌, ◌++◌, append-nil}
use Prim.Native.Nat.{ℕ, zero, suc, ◌+◌, ◌-◌, ◌*◌, ◌/◌, ◌%◌, ◌≤◌, ◌<◌, zero-le, suc-le-suc}
use native.Mathlib.Nat.{zero-mul, add-zero, not-suc-le-zero, le_of_suc-le-suc}
use native.Mathlib.Numerals.{add-one}
use native.Mathlib.Omega.{arith}
use lib.Dec.{eqb}
use lib.ListN.{length, get_or, take, drop, replicate, length-replicate, take-append-drop}
use lib.Seq.{drop-drop}
use borrow.Author.Tests.{eqb-true, eqb-false, ne_eqb}
use Rattle.cells.proofs.Search.{count_nothing}
use Rattle.cells.proofs.Arith.{product_next}
use Rattle.cells.proofs.Split.{by_test, by_bool, by_lt, cond-true, cond-false, clash, and_true, and_left, and_right, and_false_right}
use Rattle.store_desk.specs.declared.Desk.{Desk}
use Rattle.store_desk.specs.declared.Key.{Key}
use Rattle.store_desk.specs.declared.Kind.{Kind}
use Rattle.store_desk.specs.declared.Kind.TheVariants.{Cue}
use Rattle.store_desk.specs.Size.{slot_length, slots_of, patch_start, store_length}
use Rattle.store_desk.specs.Name.{eq_kind}
use Rattle.store_desk.proofs.Name.{eq_kind_lem}
use Rattle.store_head.specs.Layout.{decode_head}
use Rattle.text_records.specs.Stream.{records_of}
use Rattle.text_fields.specs.Words.{Word, fields_of, head_of, tail_of}
use Rattle.value.specs.declared.Number.{Number}
use Rattle.value.specs.Number.{whole_max, fraction_span, no_number, number_of, borne_of}
use Rattle.store.specs.declared.Edit.{Edit}
use Rattle.store.specs.declared.Edit.TheVariants.{Link as SetLink}
use Rattle.store.specs.Slots.{slot_at, head_at, is_used}
use Rattle.store.specs.Change.{edit_slot, edit_at}
use Rattle.store.specs.Good.{Ready}
use Rattle.load.specs.declared.Basic.TheVariants.{Clear}
use Rattle.load.specs.declared.Family.{Family}
use Rattle.load.specs.declared.Family.TheVariants.{Primary, Augments, Basic as Basically}
use Rattle.load.specs.declared.Heard.{Heard}
use Rattle.load.specs.declared.Numbers.{Numbers}
use Rattle.load.specs.declared.Outcome.{Outcome}
use Rattle.load.specs.declared.Outcome.TheVariants.{Obeyed}
use Rattle.load.specs.declared.Secondary.TheVariants.{Link}
use Rattle.load.specs.declared.State.{State}
use Rattle.load.specs.Ask.{Ask, numbered_by, numeral_of, named_by, named_of, is_over_long, ask_of}
use Rattle.load.specs.Anew.{next_key, accepted_of, is_obeyed, heard_in, last_number}
use Rattle.load.specs.Step.{Step, nothing_open, slot_of, acted, record_step, ignored_in, outcome_faults, reported_of}
use Rattle.load.specs.Run.{Run, reports_at, stops, only, and_then, run_from, load_of}
use Rattle.load.specs.Translated.{Note, anew_from_one, step_in, numbers_after_of, run_in, note_of, notes_in, most_cues, asked_at, asked_by, is_accepted_cue, borne_in}
use Rattle.load.specs.Translated.{bornes, last_bearer, bearer_of, has_asked, linked, lost_link, translated_of}
use Rattle.load.proofs.Steps.{step_in_ready}
use Rattle.theorem_told.specs.Classes.{begins}
use Rattle.theorem_translated.specs.Numbered.{is_primary, is_accepted}
use Rattle.theorem_translated.specs.Links.{read_of, asked_of, bornes_of, is_lost}
use Rattle.theorem_translated.specs.Alike.{primaries_in, AsNumbered}
use Rattle.theorem_translated.proofs.Numbers.{record_heard, numbered-anew, numbered_more, none_yet}
use Rattle.theorem_translated.proofs.Unlinked.{cue_slot, OpenBare, not_open, step_bare, nothing_asked}
use Rattle.theorem_translated.proofs.Links.{cue_heard, links_keep, link_edit, edit_size, edit_long, slot_there, translated_linked}
use Rattle.theorem_translated.proofs.AlikeSlots.{link_to, linked_by, AskedFits, Alike, slot_past}
use Rattle.theorem_translated.proofs.AlikeSteps.{number_borne, number_most, on_first, next_first, FieldsSaid, StepsAlike, record_alike}
use Rattle.value.specs.declared.NumberError.{NumberError}
use Rattle.value.specs.declared.NumberError.TheVariants.{Malformed as BadNumber, TooLarge}

-- ---- what is said of the records of a normal load, from some on; b are the numbers that the load with translation has got to
record Reads (d : Desk) (n : ℕ) (b : Numbers) (s : State) (v : List ℕ) (rs : List (List ℕ)) : Type 0 where
  named : (k : Kind) (i : ℕ) → i < length (run_from d n s v rs).outcomes → begins (get_or rs i []) ≡ Primary k
      → named_of d k (tail_of (fields_of (get_or rs i []))) ≡ Ok (on_first (accepted_of b k + primaries_in k (take i rs)))
  accepted : (k : Kind) (i : ℕ) → i < length (run_from d n s v rs).outcomes → begins (get_or rs i []) ≡ Primary k
      → (record_step d (run_from d n s v (take i rs)).state (get_or rs i []) (run_from d n s v (take i rs)).store).outcome ≡ Obeyed
  unpaged : (i : ℕ) → i < length (run_from d n s v rs).outcomes → begins (get_or rs i []) ≡ Basically Clear
      → tail_of (tail_of (fields_of (get_or rs i []))) ≡ []
  numbers : (i : ℕ) → i < length (run_from d n s v rs).outcomes → begins (get_or rs i []) ≡ Augments Link
      → (m : Number) × (number_of (head_of (tail_of (fields_of (get_or rs i [])))).chars ≡ Ok m)

module _ (d : Desk) (n : ℕ) (b : Numbers) (s : State) (v r : List ℕ) (rs : List (List ℕ)) (h : Reads d n b s v (r ∷ rs)) where
  -- the first of them
  first_read : 0 < length (run_from d n s v (r ∷ rs)).outcomes
  unfolding run_from
  first_read =
      by_test (λ (y : Run). 0 < length y.outcomes) (stops (record_step d s r v).outcome) _ _
      (λ e. suc-le-suc zero-le)
      (λ e. suc-le-suc zero-le)

  head_said : is_over_long r ≡ false → FieldsSaid d b s v (fields_of r)
  unfolding run_from primaries_in record_step ask_of
  head_said t =
      record {
        named = λ k e. h.named k 0 first_read e ∙ ap (λ (m : ℕ). Ok (on_first m)) (add-zero (accepted_of b k));
        accepted = λ k e. sym (ap (λ (a : Ask). (acted d s v a).outcome) (cond-false (is_over_long r) _ _ t)) ∙ h.accepted k 0 first_read e;
        unpaged = λ e. h.unpaged 0 first_read e;
        numbers = λ e. h.numbers 0 first_read e;
      }

  -- the others
  module _ (go : stops (record_step d s r v).outcome ≡ false) where
    abbrev y : Step
    y = record_step d s r v

    goes_on : (qs : List (List ℕ)) → run_from d n s v (r ∷ qs) ≡ and_then (n + 1) r y (run_from d (n + 1) y.state y.store qs)
    unfolding run_from
    goes_on qs = cond-false (stops y.outcome) (only (n + 1) r y) _ go

    next_read : (i : ℕ) → i < length (run_from d (n + 1) y.state y.store rs).outcomes → suc i < length (run_from d n s v (r ∷ rs)).outcomes
    next_read i l = subst (λ (z : Run). suc i < length z.outcomes) (sym (goes_on rs)) (suc-le-suc l)

    tail_said : (c : Numbers) → ((k : Kind) → accepted_of c k ≡ accepted_of b k + cond (is_primary k (begins r)) 1 0)
        → Reads d (n + 1) c y.state y.store rs
    unfolding primaries_in
    tail_said c e =
        record {
          named =
              λ k i l q.
              h.named k (suc i) (next_read i l) q
              ∙ ap (λ (m : ℕ). Ok (on_first m)) (counted (is_primary k (begins r)) (accepted_of b k) (primaries_in k (take i rs)) (accepted_of c k) (e k));
          accepted =
              λ k i l q.
              sym (ap (λ (z : Run). (record_step d z.state (get_or rs i []) z.store).outcome) (goes_on (take i rs)))
              ∙ h.accepted k (suc i) (next_read i l) q;
          unpaged = λ i l q. h.unpaged (suc i) (next_read i l) q;
          numbers = λ i l q. h.numbers (suc i) (next_read i l) q;
        }
      where
        counted : (a : Bool) (x m z : ℕ) → z ≡ x + cond a 1 0 → x + cond a (suc m) m ≡ z + m
        counted true x m z q = omega arith
        counted false x m z q = omega arith

-- ---- a record that both loads go on from
module _ (d : Desk) (s : State) (v r : List ℕ) where
  not_long : stops (record_step d s r v).outcome ≡ false → is_over_long r ≡ false
  unfolding record_step ask_of acted stops
  not_long go =
      by_bool (is_over_long r)
      (λ t. clash (ap (λ (a : Ask). stops (acted d s v a).outcome) (cond-true (is_over_long r) _ _ t)) go)
      (λ t. t)

-- every primary is accepted
family_accepted : (k : Kind) (o : Outcome) (f : Family) → ((j : Kind) → f ≡ Primary j → o ≡ Obeyed) → (is_obeyed o && is_primary k f) ≡ is_primary k f
unfolding is_primary is_obeyed
family_accepted k o (Primary j) h = ap (λ (z : Outcome). is_obeyed z && eq_kind k j) (h j refl)
family_accepted k o (Augments e) h = and_false_right (is_obeyed o) false refl
family_accepted k o (Basically x) h = and_false_right (is_obeyed o) false refl

one_numbered : (k : Kind) (b : Numbers) → b.anew ≡ true → (r : List ℕ) (x : Step) → is_over_long r ≡ false
    → ((j : Kind) → begins r ≡ Primary j → x.outcome ≡ Obeyed) → accepted_of (numbers_after_of b r x) k ≡ accepted_of b k + cond (is_primary k (begins r)) 1 0
unfolding is_accepted
one_numbered k b anew r x t h =
    numbered_more b k (heard_in b r x.outcome)
    ∙ ap (λ (a : Bool). cond a (accepted_of b k + 1) (accepted_of b k))
    (record_heard k b anew r x.outcome ∙ cond-false (is_over_long r) false _ t ∙ family_accepted k x.outcome (begins r) h)
    ∙ more (is_primary k (begins r)) (accepted_of b k)
  where
    more : (a : Bool) (m : ℕ) → cond a (m + 1) m ≡ m + cond a 1 0
    more true m = refl
    more false m = omega arith

-- ---- what the accepted CUEs bore: the numbers after c, in their order
abbrev Bornes : ℕ → List ℕ → Type 0
Bornes c bs = (l : ℕ) → l < length bs → (get_or bs l 0 ≡ (c + l + 1) * fraction_span) × (c + l + 1 ≤ whole_max)

cue_named : (t : List ℕ) (m : ℕ) (x : Result Number NumberError) → number_of t ≡ x → (w z : Word) (q : Option ℕ) → named_by (numbered_by w x) z q ≡ Ok (on_first m)
    → (borne_of t ≡ (m + 1) * fraction_span) × (m + 1 ≤ whole_max)
unfolding named_by numbered_by
cue_named t m (Err BadNumber) e w z q h = absurd (let i : ◌≡◌ {A = ℕ} 0 1 = cc in omega arith)
cue_named t m (Err TooLarge) e w z q h = absurd (let i : ◌≡◌ {A = ℕ} 0 1 = cc in omega arith)
cue_named t m (Ok n) e w z None h = absurd (let i : ◌≡◌ {A = ℕ} 0 1 = cc in omega arith)
cue_named t m (Ok n) e w z (Some p) h =
    let y : record { page = p; whole = n.whole; fraction = n.fraction } ≡ on_first m = cc in
    let a : n.whole ≡ m + 1 = ap (λ (k : Key). k.whole) y in
    let c : n.fraction ≡ 0 = ap (λ (k : Key). k.fraction) y in
    let g = number_borne t n e in
    let l = number_most t n e in
    (omega arith, omega arith)

bore_named : (d : Desk) (ws : List Word) (m : ℕ) → named_of d Cue ws ≡ Ok (on_first m)
    → (borne_of (head_of ws).chars ≡ (m + 1) * fraction_span) × (m + 1 ≤ whole_max)
unfolding named_of numeral_of
bore_named d ws m h = cue_named (head_of ws).chars m (number_of (head_of ws).chars) refl _ _ _ h

-- an accepted CUE
cue_begins : (f : Family) → is_primary Cue f ≡ true → f ≡ Primary Cue
unfolding is_primary
cue_begins (Primary j) e = ap Primary (sym (eq_kind_lem Cue j e))
cue_begins (Augments x) e = clash e refl
cue_begins (Basically x) e = clash e refl

cue_accepted : (b : Numbers) → b.anew ≡ true → (r : List ℕ) (o : Outcome) → is_accepted_cue (heard_in b r o) ≡ true
    → (is_over_long r ≡ false) × (begins r ≡ Primary Cue)
unfolding is_accepted
cue_accepted b anew r o e =
    let q : is_accepted Cue r o ≡ true = sym (record_heard Cue b anew r o) ∙ sym (cue_heard (heard_in b r o)) ∙ e in
    by_bool (is_over_long r)
    (λ t. clash q (cond-true (is_over_long r) false _ t))
    (λ t.
    (t, cue_begins (begins r) (and_right (is_obeyed o) (is_primary Cue (begins r)) (sym (cond-false (is_over_long r) false _ t) ∙ q))))

bornes_none : (rs : List (List ℕ)) → bornes rs [] ≡ []
unfolding bornes
bornes_none [] = refl
bornes_none (r ∷ rs) = refl

bore_on : (a : Bool) (c m x : ℕ) (bs : List ℕ) → m ≡ cond a (c + 1) c → (a ≡ true → (x ≡ (c + 1) * fraction_span) × (c + 1 ≤ whole_max))
    → Bornes m bs → Bornes c (cond a (x ∷ bs) bs)
bore_on true c m x bs e h f zero l = let g = h refl in (omega arith, omega arith)
bore_on true c m x bs e h f (suc i) l = let g = f i (le_of_suc-le-suc l) in (omega arith, omega arith)
bore_on false c m x bs e h f i l = subst (λ (z : ℕ). (get_or bs i 0 ≡ (z + i + 1) * fraction_span) × (z + i + 1 ≤ whole_max)) e (f i l)

-- ---- the runs: x with translation, y in a normal load
record RunsAlike (d : Desk) (asked : List ℕ) (c : ℕ) (bs : List ℕ) (x y : Run) : Type 0 where
  state : y.state ≡ x.state
  stopped : y.stopped ≡ x.stopped
  outcomes : y.outcomes ≡ x.outcomes
  reports : y.reports ≡ x.reports
  fits : AskedFits d asked
  stores : Alike d asked x.store y.store
  bore : Bornes c bs

module _ (d : Desk) where
  -- what is reported of a record
  reported_alike : (r asked : List ℕ) (x z : Step) → StepsAlike d asked x z → reported_of r z ≡ reported_of r x
  unfolding reported_of
  reported_alike r asked x z g = λ i. cond (is_over_long r) [] (ignored_in r) ++ (outcome_faults (g.outcome i) ++ g.faults i)

  -- a record that stops the load, or one before others
  rest_alike : (a : Bool) (n : ℕ) (r : List ℕ) (rs : List (List ℕ)) (asked : List ℕ) (c m : ℕ) (x z : Step) (more rest : Run) (k : Note)
      (ns : List Note)
      → StepsAlike d asked x z → m ≡ cond (is_accepted_cue k.heard) (c + 1) c
      → (is_accepted_cue k.heard ≡ true → (borne_in r ≡ (c + 1) * fraction_span) × (c + 1 ≤ whole_max))
      → (a ≡ false → RunsAlike d (asked_by asked ns) m (bornes rs ns) more rest)
      → RunsAlike d (asked_by asked (cond a [] ns)) c (bornes (r ∷ rs) (k ∷ cond a [] ns)) (cond a (only n r x) (and_then n r x more))
      (cond a (only n r z) (and_then n r z rest))
  unfolding asked_by bornes
  rest_alike true n r rs asked c m x z more rest k ns g e b ih =
      record {
        state = g.state;
        stopped = refl;
        outcomes = λ i. g.outcome i ∷ [];
        reports = ap (reports_at n r) (reported_alike r asked x z g);
        fits = g.fits;
        stores = g.stores;
        bore =
            bore_on (is_accepted_cue k.heard) c m (borne_in r) (bornes rs []) e b
            (subst (Bornes m) (sym (bornes_none rs)) (λ l h. absurd (not-suc-le-zero h)));
      }
  rest_alike false n r rs asked c m x z more rest k ns g e b ih =
      let j = ih refl in
      record {
        state = j.state;
        stopped = j.stopped;
        outcomes = λ i. g.outcome i ∷ j.outcomes i;
        reports = λ i. reports_at n r (reported_alike r asked x z g i) ++ j.reports i;
        fits = j.fits;
        stores = j.stores;
        bore = bore_on (is_accepted_cue k.heard) c m (borne_in r) (bornes rs ns) e b j.bore;
      }

  run_alike : (n : ℕ) (b : Numbers) → b.anew ≡ true → (s : State) (u v asked : List ℕ) (rs : List (List ℕ)) → Ready d u → OpenBare d s u
      → AskedFits d asked → Alike d asked u v → Reads d n b s v rs
      → RunsAlike d (asked_by asked (notes_in d b s u rs)) (accepted_of b Cue) (bornes rs (notes_in d b s u rs)) (run_in d n b s u rs) (run_from d n s v rs)
  unfolding notes_in run_in run_from asked_by
  run_alike n b anew s u v asked [] ready bare f p h =
      record {
        state = refl;
        stopped = refl;
        outcomes = refl;
        reports = refl;
        fits = f;
        stores = p;
        bore = subst (Bornes (accepted_of b Cue)) (sym (bornes_none [])) (λ l g. absurd (not-suc-le-zero g));
      }
  run_alike n b anew s u v asked (r ∷ rs) ready bare f p h =
      let x = step_in d b s r u in
      let y = record_step d s r v in
      let c = numbers_after_of b r x in
      let heard : Heard = heard_in b r x.outcome in
      let more : List ℕ = asked_at asked (slot_of d x.store x.state) heard in
      let ns : List Note = notes_in d c x.state x.store rs in
      let said = head_said d n b s v r rs h in
      let g : StepsAlike d more x y = record_alike d asked f b anew s u v ready bare p r said in
      let after : Run = run_in d (n + 1) c x.state x.store rs in
      let rest : Run = run_from d (n + 1) y.state y.store rs in
      subst
      (λ (o : Outcome).
      RunsAlike d (asked_by more (cond (stops x.outcome) [] ns)) (accepted_of b Cue)
      (bornes (r ∷ rs) (note_of d b r x ∷ cond (stops x.outcome) [] ns))
      (cond (stops x.outcome) (only (n + 1) r x) (and_then (n + 1) r x after))
      (cond (stops o) (only (n + 1) r y) (and_then (n + 1) r y rest)))
      (sym g.outcome)
      (rest_alike (stops x.outcome) (n + 1) r rs more (accepted_of b Cue) (accepted_of c Cue) x y after rest (note_of d b r x) ns g
      (numbered_more b Cue heard ∙ ap (λ (a : Bool). cond a (accepted_of b Cue + 1) (accepted_of b Cue)) (sym (cue_heard heard)))
      (λ e.
      let q = cue_accepted b anew r x.outcome e in
      bore_named d (tail_of (fields_of r)) (accepted_of b Cue) ((said q.0).named Cue q.1))
      (λ e.
      let go : stops y.outcome ≡ false = ap stops g.outcome ∙ e in
      let t : Reads d (n + 1) c y.state y.store rs =
      tail_said d n b s v r rs h go c
      (λ k.
      one_numbered k b anew r x (not_long d s v r go)
      (λ j q. sym g.outcome ∙ h.accepted j 0 (first_read d n b s v r rs h) q)) in
      subst
      (λ (z : State). RunsAlike d (asked_by more ns) (accepted_of c Cue) (bornes rs ns) after (run_from d (n + 1) z y.store rs))
      (sym g.state)
      (run_alike (n + 1) c (numbered-anew b heard ∙ anew) x.state x.store y.store more rs (step_in_ready d u ready b s r)
      (step_bare d b anew s r u ready bare) g.fits g.stores
      (subst (λ (z : State). Reads d (n + 1) c z y.store rs) g.state t))))

-- ---- the links at the end
-- a number that is borne is that of its bearer
abbrev Bears : ℕ → ℕ → Type 0
Bears m j = (j ≡ 0 → ⊥) → (m ≡ j * fraction_span) × (j ≤ whole_max)

bearer_borne : (m c last : ℕ) (bs : List ℕ) → Bornes c bs → Bears m last → Bears m (last_bearer m (c + 1) last bs)
unfolding last_bearer
bearer_borne m c last [] f h = h
bearer_borne m c last (x ∷ bs) f h =
    bearer_borne m (c + 1) (cond (eqb m x && not (eqb x no_number)) (c + 1) last) bs
    (λ l g. let z = f (suc l) (suc-le-suc g) in (omega arith, omega arith))
    (by_test (Bears m) (eqb m x && not (eqb x no_number)) (c + 1) last
    (λ t ne.
    let q : m ≡ x = eqb-true m x (and_left (eqb m x) (not (eqb x no_number)) t) in
    let z = f 0 (suc-le-suc zero-le) in
    let e : x ≡ (c + 0 + 1) * fraction_span = z.0 in
    (omega arith, omega arith))
    (λ t. h))

cue_number : (d : Desk) (j : ℕ) → (j ≡ 0 → ⊥) → j ≤ whole_max → (next_key d Cue (j - 1)).whole ≡ j
unfolding last_number
cue_number d j ne l = ap (λ (k : Key). k.whole) (next_first d Cue (j - 1) (omega arith)) ∙ (let e : j - 1 + 1 ≡ j = omega arith in e)

-- the slot of a cue that asked, where its link is not lost: the link that it gets is the one asked for
module _ (d : Desk) (bs : List ℕ) (f : Bornes 0 bs) (x : List ℕ) where
  abbrev asking : ℕ → Bool
  asking a = not (eqb a 0) && is_used (decode_head x)

  linked_alike : (a : ℕ) → (asking a && eqb (bearer_of a bs) 0) ≡ false
      → cond (asking a) (cond (eqb (bearer_of a bs) 0) x (edit_slot d (SetLink (next_key d Cue (bearer_of a bs - 1)).whole 0) x)) x ≡ linked_by d a x
  unfolding linked_by
  linked_alike zero h = refl
  linked_alike (suc m) h =
      let j : ℕ = bearer_of (suc m) bs in
      let used : Bool = is_used (decode_head x) in
      let e : Edit = SetLink (next_key d Cue (j - 1)).whole 0 in
      let q : asking (suc m) ≡ used = ap (λ (a : Bool). not a && used) (ne_eqb (suc m) 0 (λ n. omega arith)) in
      by_bool used
      (λ t.
      let z : eqb j 0 ≡ false = by_bool (eqb j 0) (λ g. clash (and_true (asking (suc m)) (eqb j 0) (q ∙ t) g) h) (λ g. g) in
      let ne : j ≡ 0 → ⊥ = eqb-false j 0 z in
      let b = bearer_borne (suc m - 1) 0 0 bs f (λ n. absurd (n refl)) ne in
      let v : suc m - 1 ≡ j * fraction_span = b.0 in
      let w : j ≡ m / fraction_span = omega arith in
      let whole : (next_key d Cue (j - 1)).whole ≡ m / fraction_span = cue_number d j ne b.1 ∙ w in
      let fraction : 0 ≡ m % fraction_span = omega arith in
      cond-true (asking (suc m)) _ x (q ∙ t) ∙ cond-false (eqb j 0) x (edit_slot d e x) z
      ∙ (λ i. edit_slot d (SetLink (whole i) (fraction i)) x)
      ∙ sym (cond-true used (edit_slot d (link_to m) x) x t))
      (λ t. cond-false (asking (suc m)) _ x (q ∙ t) ∙ sym (cond-false used (edit_slot d (link_to m) x) x t))

-- ---- slot by slot the same, and so the same
same_bytes : (s t : List ℕ) (len n : ℕ) → ((i : ℕ) → i < n → take len (drop (i * len) s) ≡ take len (drop (i * len) t))
    → drop (n * len) s ≡ drop (n * len) t → s ≡ t
same_bytes s t len zero f e = subst (λ (k : ℕ). drop k s ≡ drop k t) (zero-mul len) e
same_bytes s t len (suc n) f e = same_bytes s t len n (λ i h. f i (omega arith)) (behind s ∙ (λ z. f n (omega arith) z ++ e z) ∙ sym (behind t))
  where
    behind : (q : List ℕ) → drop (n * len) q ≡ take len (drop (n * len) q) ++ drop (suc n * len) q
    behind q =
        sym (take-append-drop len (drop (n * len) q))
        ∙ ap (λ (z : List ℕ). take len (drop (n * len) q) ++ z)
        (drop-drop len (n * len) q ∙ ap (λ (k : ℕ). drop k q) (sym (product_next n len) ∙ ap (λ (k : ℕ). k * len) (add-one n)))

-- ---- of a load
module _ (d : Desk) (t stream : List ℕ) (ready : Ready d t) (h : AsNumbered d t stream) where
  reads : Reads d 0 anew_from_one nothing_open t (records_of stream)
  unfolding load_of
  reads =
      record {
        named =
            λ k i l e.
            h.named k i l e ∙ ap (λ (m : ℕ). Ok (on_first m)) (sym (none_yet k (primaries_in k (take i (records_of stream)))));
        accepted = h.accepted;
        unpaged = h.unpaged;
        numbers = h.numbers;
      }

  none_asked : AskedFits d (replicate most_cues 0)
  none_asked =
      let c = ready.range.cues.1 in
      let e : length (replicate most_cues (zero)) ≡ most_cues = length-replicate most_cues (zero) in
      record {
        room = omega arith;
        small = λ i. let z : get_or (replicate most_cues (zero)) i 0 ≡ 0 = nothing_asked d most_cues i in omega arith;
        others = λ i l. nothing_asked d most_cues i;
      }

  self_alike : Alike d (replicate most_cues 0) t t
  unfolding linked_by
  self_alike =
      record {
        long = ready.long;
        size = refl;
        slots = λ i l. ap (λ (a : ℕ). linked_by d a (slot_at d t i)) (sym (nothing_asked d most_cues i));
        past = refl;
      }

  both : RunsAlike d (asked_of d t stream) (accepted_of anew_from_one Cue) (bornes_of d t stream) (read_of d t stream) (load_of d t stream)
  unfolding load_of
  both =
      run_alike d 0 anew_from_one refl nothing_open t t (replicate most_cues 0) (records_of stream) ready (not_open d nothing_open t refl) none_asked
      self_alike
      reads

  same_slots : (i : ℕ) → i < slots_of d → slot_at d (translated_of d t stream).store i ≡ slot_at d (load_of d t stream).store i
  unfolding accepted_of has_asked head_at linked_by
  same_slots i l =
      by_lt i d.cues
      (λ c.
      slot_there d t stream ready i c
      ∙ linked_alike d (bornes_of d t stream) both.bore (slot_at d (read_of d t stream).store i) (get_or (asked_of d t stream) i 0) (h.borne i c)
      ∙ sym (both.stores.slots i l))
      (λ c.
      (translated_linked d t stream ready).others i c
      ∙ ap (λ (a : ℕ). linked_by d a (slot_at d (read_of d t stream).store i)) (sym (both.fits.others i c))
      ∙ sym (both.stores.slots i l))

  same_past : drop (patch_start d) (translated_of d t stream).store ≡ drop (patch_start d) (load_of d t stream).store
  unfolding translated_of linked edit_at
  same_past =
      let asked = asked_of d t stream in
      let bs = bornes_of d t stream in
      let read = (read_of d t stream).store in
      (links_keep d asked bs (λ (u : List ℕ). (store_length d ≤ length u) × (drop (patch_start d) u ≡ drop (patch_start d) read)) d.cues 0
      (λ k a b u g e.
      let l : store_length d ≤ length u = g.0 in
      let n = edit_long d asked bs u l k (omega arith) in (
        (let m : store_length d ≤ length (edit_at d u k (link_edit d asked bs k)) = omega arith in m),
        slot_past d u l k (cue_slot d k (omega arith)).0 (edit_slot d (link_edit d asked bs k) (slot_at d u k))
            (edit_size d asked bs u l k (omega arith)) ∙ g.1,
      ))
      (record { store = read; lost = 0 })
      (both.stores.long, refl)
      ).1
      ∙ sym both.stores.past

  same_store : (translated_of d t stream).store ≡ (load_of d t stream).store
  unfolding slot_at patch_start
  same_store = same_bytes _ _ (slot_length d) (slots_of d) same_slots same_past

  same_reports : (translated_of d t stream).reports ≡ (load_of d t stream).reports
  same_reports =
      let x = read_of d t stream in
      (translated_linked d t stream ready).reported
      ∙ ap (λ (n : ℕ). x.reports ++ replicate n (lost_link (length x.outcomes)))
      (count_nothing (is_lost d t stream) d.cues 0 (λ i a b. h.borne i (omega arith)))
      ∙ append-nil x.reports
      ∙ sym both.reports

pub loads_alike : (d : Desk) (t stream : List ℕ) → Ready d t → AsNumbered d t stream → translated_of d t stream ≡ load_of d t stream
unfolding translated_of
loads_alike d t stream ready h =
    let b = both d t stream ready h in
    λ i.
    record {
      state = sym b.state i;
      store = same_store d t stream ready h i;
      stopped = sym b.stopped i;
      outcomes = sym b.outcomes i;
      reports = same_reports d t stream ready h i;
    }
