-- The walk's loop: where it starts, a turn, a turn that stops it, and its end, over the definitions. What is read so far stands in
-- front of the run of what is left, and what was noted of it is in the lent lists; by unfolding one record of the run and of its notes.
-- Assumes nothing.
use mathlib.Core.Path.{◌≡◌, refl, sym, ap, ◌∙◌, subst}
use mathlib.Core.Bool.{Bool, true, false, cond}
use mathlib.Core.List.{List, [], ◌∷◌, ◌++◌, append-nil, append_assoc}
use Prim.Native.Nat.{ℕ, ◌+◌, ◌-◌, ◌≤◌, ◌<◌, zero-le}
use native.Mathlib.Omega.{arith}
use lib.ListN.{length, get_or, take, drop, length-append, length-map}
use Rattle.store_desk.specs.declared.Desk.{Desk}
use Rattle.text_records.specs.Stream.{is_end, records_of, record_end, next_start}
use Rattle.text_records.proofs.Received.{part_length}
use Rattle.text_records.proofs.Stream.{records_at, records_end, start_forward, start_within, end_within}
use Rattle.text_records.proofs.Plain.{end_here}
use Rattle.text_fields.specs.Words.{fields_of}
use Rattle.store_code.specs.Fits.{Fitting}
use Rattle.store_code.proofs.Laws.{fitting_kept}
use Rattle.load.specs.declared.Heard.{Heard}
use Rattle.load.specs.declared.Heard.TheVariants.{Other}
use Rattle.load.specs.declared.Numbers.{Numbers}
use Rattle.load.specs.declared.State.{State}
use Rattle.load.specs.declared.Outcome.{Outcome}
use Rattle.load.specs.Ask.{is_over_long}
use Rattle.load.specs.Anew.{fields_heard, heard_in, numbered}
use Rattle.load.specs.Step.{Step, nothing_open, slot_of, reported_of}
use Rattle.load.specs.Run.{Report, Run, stops, reports_at, stored_in}
use Rattle.load.specs.Translated.{step_in, numbers_after_of, run_in, Note, notes_in}
use Rattle.load.specs.Fits.{most_records}
use Rattle.load.proofs.Counts.{step_in_record_said, stored_none}
use Rattle.load_held.specs.declared.Held.{Held}
use Rattle.load_held.specs.Held.{held_of, HeldReady}
use Rattle.load_hear.specs.Naming.{NamingLaws, heard_by, noted_by}
use Rattle.load_tell.specs.declared.Count.{Count}
use Rattle.load_run.specs.declared.Progress.{Progress}
use Rattle.load_tell.specs.Count.{count_of, tallied, Told, told, told_all, Countable}
use Rattle.load_run.specs.Take.{Took, taken, taken_by, record_taken, record_booked, blank_taken, Taking}
use Rattle.load_run.specs.Loaded.{nothing_begun, walked, walked_by, walk_of}
use Rattle.load_tell.proofs.Counting.{count_record, after as told_after, told_all_lem, count_countable}
use Rattle.load_run.proofs.Kept.{ready_begun, ready_record}
use Rattle.load_run.proofs.Taking.{blank_taken_lem, blank_booked}

-- ---- a run after the outcomes and reports before it
abbrev pub run_after : List Outcome → List Report → Run → Run
run_after os rs y = record { state = y.state; store = y.store; stopped = y.stopped; outcomes = os ++ y.outcomes; reports = rs ++ y.reports }

abbrev pub run_so : State → List ℕ → Bool → List Outcome → List Report → Run
run_so s t b os rs = record { state = s; store = t; stopped = b; outcomes = os; reports = rs }

module _ (d : Desk) (b : Numbers) (s : State) (t r : List ℕ) (rest : List (List ℕ)) where
  abbrev here : Step
  here = step_in d b s r t

  abbrev heard : Heard
  heard = heard_in b r here.outcome

  -- what the rest is noted as
  abbrev notes : List Note
  notes = notes_in d (numbers_after_of b r here) here.state here.store rest

  module _ (e : stops here.outcome ≡ false) where
    run_turn : (n : ℕ) (os : List Outcome) (rs : List Report)
        → run_after os rs (run_in d n b s t (r ∷ rest))
        ≡ run_after (os ++ (here.outcome ∷ [])) (rs ++ reports_at (n + 1) r (reported_of r here))
        (run_in d (n + 1) (numbers_after_of b r here) here.state here.store rest)
    unfolding run_in
    run_turn n os rs =
        let x = step_in d b s r t in
        let y = run_in d (n + 1) (numbers_after_of b r x) x.state x.store rest in
        let cs = reports_at (n + 1) r (reported_of r x) in
        rw e (λ i.
        record {
          state = y.state;
          store = y.store;
          stopped = y.stopped;
          outcomes = sym (append_assoc os (x.outcome ∷ []) y.outcomes) i;
          reports = sym (append_assoc rs cs y.reports) i;
        })

    notes_turn : {S : Type 0} (after : S → Heard → ℕ → S) (k : S)
        → noted_by after k (notes_in d b s t (r ∷ rest)) ≡ noted_by after (after k heard (slot_of d here.store here.state)) notes
    unfolding notes_in noted_by
    notes_turn after k = rw e refl

  module _ (e : stops here.outcome ≡ true) where
    run_stop : (n : ℕ) (os : List Outcome) (rs : List Report)
        → run_after os rs (run_in d n b s t (r ∷ rest))
        ≡ run_so here.state here.store true (os ++ (here.outcome ∷ [])) (rs ++ reports_at (n + 1) r (reported_of r here))
    unfolding run_in
    run_stop n os rs = rw e refl

    notes_stop : {S : Type 0} (after : S → Heard → ℕ → S) (k : S)
        → noted_by after k (notes_in d b s t (r ∷ rest)) ≡ after k heard (slot_of d here.store here.state)
    unfolding notes_in noted_by
    notes_stop after k = rw e refl

module _ (d : Desk) (b : Numbers) (s : State) (t : List ℕ) where
  run_end : (n : ℕ) (os : List Outcome) (rs : List Report) → run_after os rs (run_in d n b s t []) ≡ run_so s t false os rs
  unfolding run_in
  run_end n os rs = λ i. run_so s t false (append-nil os i) (append-nil rs i)

  notes_end : {S : Type 0} (after : S → Heard → ℕ → S) (k : S) → noted_by after k (notes_in d b s t []) ≡ k
  unfolding notes_in noted_by
  notes_end after k = refl

-- ---- the answer, from its parts
walked_as : {S : Type 0} (after : S → Heard → ℕ → S) (x : Run) (ns : List Note) (reps : List ℕ) (k₀ : S) (p : Progress) {t ws : List ℕ} {k : S}
    → told p.count ws ≡ told_after x.outcomes reps x.reports → p.stopped ≡ x.stopped → t ≡ x.store → k ≡ noted_by after k₀ ns
    → walked p t ws k ≡ walked_by after x ns reps k₀
unfolding walked_by
walked_as after x ns reps k₀ p e f g n = λ i. record { count = (e i).count; stopped = f i; store = g i; reports = (e i).list; book = n i }

-- ---- how far the load is: what is read so far stands in front of the run of what is left, and what was noted of it is in the book
pub record SoFar {S : Type 0} (numbers : S → Numbers) (within_at : S → ℕ → Type 0) (after : S → Heard → ℕ → S)
    (d : Desk) (t₀ reps₀ : List ℕ) (k₀ : S) (stream : List ℕ) (p : Progress) (at : ℕ) (t reps : List ℕ) (k : S) : Type 0 where
  pub outcomes : List Outcome
  pub reports : List Report
  pub long : length stream ≤ most_records
  pub within : at ≤ length stream
  pub going : p.stopped ≡ false
  pub same :
      run_in d 0 (numbers k₀) nothing_open t₀ (records_of stream)
      ≡ run_after outcomes reports (run_in d (length outcomes) (numbers k) p.held.state t (records_of (drop at stream)))
  pub noted :
      noted_by after k₀ (notes_in d (numbers k₀) nothing_open t₀ (records_of stream))
      ≡ noted_by after k (notes_in d (numbers k) p.held.state t (records_of (drop at stream)))
  pub count : p.count ≡ count_of outcomes reports
  pub list : reps ≡ stored_in reps₀ reports
  pub records_few : length outcomes ≤ at
  pub reports_few : length reports ≤ at
  pub counts_few : within_at k at
  pub fitting : Fitting d t
  pub ready : HeldReady d t p.held
  pub store_length : length t ≡ length t₀

-- ---- the loop, for a load of either naming
module _ {S : Type 0} {anew : Bool} {numbers : S → Numbers} {within_at : S → ℕ → Type 0} {after : S → Heard → ℕ → S}
    (laws : NamingLaws anew numbers within_at after) where
  begun_far : (d : Desk) (t reps : List ℕ) (k : S) (stream : List ℕ) → Fitting d t → length stream ≤ most_records → within_at k 0
      → SoFar numbers within_at after d t reps k stream nothing_begun 0 t reps k
  unfolding nothing_begun
  begun_far d t reps k stream f h z =
      record {
        outcomes = [];
        reports = [];
        long = h;
        within = zero-le;
        going = refl;
        same = refl;
        noted = refl;
        count = refl;
        list = sym (stored_none reps);
        records_few = zero-le;
        reports_few = zero-le;
        counts_few = z;
        fitting = f;
        ready = ready_begun d t;
        store_length = refl;
      }

  pub loop_start : (d : Desk) (t reps : List ℕ) (k : S) (stream : List ℕ) {p : Progress} → Fitting d t → length stream ≤ most_records → within_at k 0
      → p ≡ nothing_begun → SoFar numbers within_at after d t reps k stream p 0 t reps k
  loop_start d t reps k stream f h z e =
      subst (λ (q : Progress). SoFar numbers within_at after d t reps k stream q 0 t reps k) (sym e) (begun_far d t reps k stream f h z)

  -- ---- one more record
  module _ {d : Desk} {t₀ reps₀ : List ℕ} {k₀ : S} {stream : List ℕ} {p : Progress} {at : ℕ} {t reps : List ℕ} {k : S}
      (w : SoFar numbers within_at after d t₀ reps₀ k₀ stream p at t reps k) {end : ℕ} (h : at < length stream) (e : end ≡ record_end stream at) where
    abbrev now : Numbers
    now = numbers k

    abbrev notes₀ : List Note
    notes₀ = notes_in d (numbers k₀) nothing_open t₀ (records_of stream)

    abbrev chars : List ℕ
    chars = take (end - at) (drop at stream)

    abbrev step : Step
    step = step_in d now p.held.state chars t

    abbrev hears : Heard
    hears = heard_in now chars step.outcome

    pub end_in : (at ≤ end) × (end ≤ length stream)
    end_in =
        let a : record_end stream at ≤ length stream = end_within stream at w.within in
        (omega arith, omega arith)

    chars-length : length chars ≡ end - at
    chars-length =
        let i : (at ≤ end) × (end ≤ length stream) = end_in in
        part_length stream at (end - at) (omega arith)

    reports_counted : p.count.reports ≡ length w.reports
    unfolding count_of
    reports_counted = ap (λ (n : Count). n.reports) w.count

    pub loop_room : Taking d p (end - at) t
    loop_room =
        let i : (at ≤ end) × (end ≤ length stream) = end_in in
        let a : length w.outcomes ≤ at = w.records_few in
        let l : length w.reports ≤ at = w.reports_few in
        let g : length stream ≤ most_records = w.long in
        let m : p.count.reports ≡ length w.reports = reports_counted in
        record {
          fitting = w.fitting;
          ready = w.ready;
          countable = subst Countable (sym w.count) (count_countable w.outcomes w.reports (omega arith));
          room = omega arith;
        }

    pub loop_fit : within_at k most_records
    loop_fit = let g : length stream ≤ most_records = w.long in laws.holds k at most_records w.counts_few (omega arith)

    -- what is heard of it, in either load
    heard_as : hears ≡ heard_by anew (cond (is_over_long chars) Other (fields_heard (fields_of chars) step.outcome))
    unfolding heard_in
    heard_as = ap (λ (a : Bool). heard_by a (cond (is_over_long chars) Other (fields_heard (fields_of chars) step.outcome))) (laws.is_anew k)

    numbers_after : (slot : ℕ) → numbers (after k hears slot) ≡ numbered now hears
    numbers_after slot =
        subst (λ (x : Heard). numbers (after k x slot) ≡ numbered now x) (sym heard_as)
        (laws.counted k (cond (is_over_long chars) Other (fields_heard (fields_of chars) step.outcome)) slot)

    -- what the record leaves
    module _ {q : Progress} {u ws : List ℕ} (f : taken q u ws ≡ record_taken d now p chars t reps) where
      outcomes' : List Outcome
      outcomes' = w.outcomes ++ (step.outcome ∷ [])

      reports' : List Report
      reports' = w.reports ++ reports_at (length w.outcomes + 1) chars (reported_of chars step)

      left_stopped : q.stopped ≡ stops step.outcome
      unfolding taken_by
      left_stopped = ap (λ (x : Took). x.done.stopped) f

      left_held : q.held ≡ held_of d step.store step.state
      unfolding taken_by
      left_held = ap (λ (x : Took). x.done.held) f

      left_state : q.held.state ≡ step.state
      unfolding held_of
      left_state = ap (λ (x : Held). x.state) left_held

      left_slot : q.held.slot ≡ slot_of d step.store step.state
      unfolding held_of
      left_slot = ap (λ (x : Held). x.slot) left_held

      left_store : u ≡ step.store
      unfolding taken_by
      left_store = ap (λ (x : Took). x.store) f

      outcomes-length : length outcomes' ≡ length w.outcomes + 1
      unfolding outcomes'
      outcomes-length = length-append w.outcomes (step.outcome ∷ [])

      left_told : told q.count ws ≡ told_after outcomes' reps₀ reports'
      unfolding taken_by outcomes' reports'
      left_told =
          let os = w.outcomes in
          let rs = w.reports in
          let fs = reported_of chars step in
          ap (λ (x : Took). told x.done.count x.reports) f
          ∙ (λ i. told_all chars (told (tallied (w.count i) step.outcome) (w.list i)) fs)
          ∙ ap (λ (n : Count). told_all chars (told n (stored_in reps₀ rs)) fs) (count_record os rs step.outcome)
          ∙ told_all_lem outcomes' reps₀ chars rs fs
          ∙ ap (λ (n : ℕ). told_after outcomes' reps₀ (rs ++ reports_at n chars fs)) outcomes-length

      -- what is noted of it
      module _ {k' : S} (v : k' ≡ record_booked numbers after d p chars t k q.held.slot) where
        booked : k' ≡ after k hears (slot_of d step.store step.state)
        booked = v ∙ ap (λ (n : ℕ). after k hears n) left_slot

        left_numbers : numbers k' ≡ numbers_after_of now chars step
        left_numbers = ap numbers booked ∙ numbers_after (slot_of d step.store step.state)

        module _ {next : ℕ} (g : next ≡ next_start stream end) where
          left : List (List ℕ)
          left = records_of (drop next stream)

          run_here : run_in d 0 (numbers k₀) nothing_open t₀ (records_of stream)
              ≡ run_after w.outcomes w.reports (run_in d (length w.outcomes) now p.held.state t (chars ∷ left))
          unfolding left
          run_here =
              w.same
              ∙ ap (λ (rs : List (List ℕ)). run_after w.outcomes w.reports (run_in d (length w.outcomes) now p.held.state t rs))
              (records_at stream h e g)

          -- what is noted from here on
          noted_here : noted_by after k₀ notes₀ ≡ noted_by after k (notes_in d now p.held.state t (chars ∷ left))
          unfolding left
          noted_here =
              w.noted
              ∙ ap (λ (rs : List (List ℕ)). noted_by after k (notes_in d now p.held.state t rs)) (records_at stream h e g)

          next_in : (at < next) × (next ≤ length stream)
          next_in =
              let i : (at ≤ end) × (end ≤ length stream) = end_in in
              let a : next_start stream end ≤ length stream = start_within stream end i.1 in
              (start_forward stream h e g, (let n : next ≤ length stream = omega arith in n))

          pub loop_less : length stream - next < length stream - at
          loop_less = let i : (at < next) × (next ≤ length stream) = next_in in omega arith

          reports_length : length reports' ≤ next
          unfolding reports'
          reports_length =
              let fs = reported_of chars step in
              let rs' = reports_at (length w.outcomes + 1) chars fs in
              let a : length (w.reports ++ rs') ≡ length w.reports + length rs' = length-append w.reports rs' in
              let z : length rs' ≡ length fs = length-map fs _ in
              let c : length fs ≤ length chars = (step_in_record_said d now p.held.state chars t).few in
              let n : length chars ≡ end - at = chars-length in
              let l : length w.reports ≤ at = w.reports_few in
              let i : (at ≤ end) × (end ≤ length stream) = end_in in
              let o : (at < next) × (next ≤ length stream) = next_in in
              omega arith

          counts_left : within_at k' next
          counts_left =
              subst (λ (x : S). within_at x next) (sym booked)
              (laws.grows k hears (slot_of d step.store step.state) at next w.counts_few next_in.0)

          -- the load goes on after it
          pub loop_turn : q.stopped ≡ false → length u ≡ length t → SoFar numbers within_at after d t₀ reps₀ k₀ stream q next u ws k'
          unfolding outcomes' reports' left
          loop_turn z y =
              let i : (at < next) × (next ≤ length stream) = next_in in
              let n : length w.outcomes ≤ at = w.records_few in
              let m : length outcomes' ≡ length w.outcomes + 1 = outcomes-length in
              let o : stops step.outcome ≡ false = sym left_stopped ∙ z in
              let s = p.held.state in
              let rest : notes_in d (numbers_after_of now chars step) step.state step.store left ≡ notes_in d (numbers k') q.held.state u left =
              λ j. notes_in d (sym left_numbers j) (sym left_state j) (sym left_store j) left in
              record {
                outcomes = outcomes';
                reports = reports';
                long = w.long;
                within = i.1;
                going = z;
                same =
                    run_here
                    ∙ run_turn d now s t chars left o (length w.outcomes) w.outcomes w.reports
                    ∙ (λ j. run_after outcomes' reports' (run_in d (sym outcomes-length j) (sym left_numbers j) (sym left_state j) (sym left_store j) left));
                noted =
                    noted_here
                    ∙ notes_turn d now s t chars left o after k
                    ∙ (λ j. noted_by after (sym booked j) (rest j));
                count = ap (λ (x : Told). x.count) left_told;
                list = ap (λ (x : Told). x.list) left_told;
                records_few = omega arith;
                reports_few = reports_length;
                counts_few = counts_left;
                fitting = fitting_kept d t u y w.fitting;
                ready =
                    subst (λ (x : Held). HeldReady d u x) (sym left_held)
                    (subst (λ (x : List ℕ). HeldReady d x (held_of d step.store step.state)) (sym left_store)
                    (ready_record d now p.held chars t w.fitting w.ready));
                store_length = y ∙ w.store_length;
              }

        -- the record stops it
        pub loop_stop : q.stopped ≡ true → walked q u ws k' ≡ walk_of numbers after d t₀ stream reps₀ k₀
        unfolding outcomes' reports' left walk_of
        loop_stop z =
            let o : stops step.outcome ≡ true = sym left_stopped ∙ z in
            let s = p.held.state in
            let x : run_in d 0 (numbers k₀) nothing_open t₀ (records_of stream) ≡ run_so step.state step.store true outcomes' reports' =
            run_here refl ∙ run_stop d now s t chars (left refl) o (length w.outcomes) w.outcomes w.reports in
            walked_as after (run_in d 0 (numbers k₀) nothing_open t₀ (records_of stream)) notes₀ reps₀ k₀ q
            (left_told ∙ (λ i. told_after (sym x i).outcomes reps₀ (sym x i).reports))
            (z ∙ ap (λ (y : Run). y.stopped) (sym x))
            (left_store ∙ ap (λ (y : Run). y.store) (sym x))
            (booked ∙ sym (noted_here refl ∙ notes_stop d now s t chars (left refl) o after k))

  -- ---- a record that has no character
  module _ {d : Desk} {t₀ reps₀ : List ℕ} {k₀ : S} {stream : List ℕ} {p : Progress} {at : ℕ} {t reps : List ℕ} {k : S}
      (w : SoFar numbers within_at after d t₀ reps₀ k₀ stream p at t reps k) (h : at < length stream)
      {r : Bool} (e : r ≡ is_end (get_or stream at 0)) (f : r ≡ true) where
    ends_here : at ≡ record_end stream at
    ends_here = sym (end_here stream at h (sym e ∙ f))

    pub blank_room : Countable p.count
    blank_room = (loop_room w h ends_here).countable

    module _ {q : Progress} (g : q ≡ blank_taken p) {next : ℕ} (m : next ≡ next_start stream at) where
      no_chars : take (at - at) (drop at stream) ≡ []
      no_chars =
          let z : at - at ≡ 0 = omega arith in
          ap (λ (n : ℕ). take n (drop at stream)) z

      blank_took : taken q t reps ≡ record_taken d (numbers k) p (take (at - at) (drop at stream)) t reps
      blank_took = blank_taken_lem d p (take (at - at) (drop at stream)) t no_chars (numbers k) reps w.ready g

      blank_noted : k ≡ record_booked numbers after d p (take (at - at) (drop at stream)) t k q.held.slot
      blank_noted = blank_booked laws d p t k q.held.slot (take (at - at) (drop at stream)) no_chars

      pub blank_less : length stream - next < length stream - at
      blank_less = loop_less w h ends_here blank_took blank_noted m

      pub blank_turn : SoFar numbers within_at after d t₀ reps₀ k₀ stream q next t reps k
      blank_turn = loop_turn w h ends_here blank_took blank_noted m (ap (λ (x : Progress). x.stopped) g) refl

  -- ---- the end of the stream
  module _ {d : Desk} {t₀ reps₀ : List ℕ} {k₀ : S} {stream : List ℕ} {p : Progress} {at : ℕ} {t reps : List ℕ} {k : S}
      (w : SoFar numbers within_at after d t₀ reps₀ k₀ stream p at t reps k) where
    pub loop_end : length stream ≤ at → walked p t reps k ≡ walk_of numbers after d t₀ stream reps₀ k₀
    unfolding walk_of
    loop_end h =
        let os = w.outcomes in
        let rs = w.reports in
        let b = numbers k in
        let s = p.held.state in
        let z : records_of (drop at stream) ≡ [] = records_end stream at h in
        let x : run_in d 0 (numbers k₀) nothing_open t₀ (records_of stream) ≡ run_so s t false os rs =
        w.same
        ∙ ap (λ (xs : List (List ℕ)). run_after os rs (run_in d (length os) b s t xs)) z
        ∙ run_end d b s t (length os) os rs in
        walked_as after (run_in d 0 (numbers k₀) nothing_open t₀ (records_of stream)) (notes_in d (numbers k₀) nothing_open t₀ (records_of stream)) reps₀ k₀ p
        ((λ i. told (w.count i) (w.list i)) ∙ (λ i. told_after (sym x i).outcomes reps₀ (sym x i).reports))
        (w.going ∙ ap (λ (y : Run). y.stopped) (sym x))
        (ap (λ (y : Run). y.store) (sym x))
        (sym (w.noted ∙ ap (λ (xs : List (List ℕ)). noted_by after k (notes_in d b s t xs)) z ∙ notes_end d b s t after k))
