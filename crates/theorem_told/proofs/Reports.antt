-- The reports of a load, normal or with translation, come in the order of its records, each fits its 64 bits, and a word is one report and no
-- other. By induction on the records; what is known of a record's conditions is from `load`, and of its columns from `text_records`.
-- Assumes nothing.
use mathlib.Core.Path.{◌≡◌, refl, sym, subst}
use mathlib.Core.List.{List, [], ◌∷◌, ◌++◌, append-nil}
use Prim.Native.Nat.{ℕ, zero, suc, ◌+◌, ◌≤◌, ◌<◌, min, zero-le}
use native.Mathlib.Nat.{le_refl, not-suc-le-zero, le_of_suc-le-suc}
use native.Mathlib.Omega.{arith}
use lib.Dec.{lit<}
use lib.ListN.{length}
use borrow.Author.Tests.{ltb-false}
use Rattle.cells.proofs.Split.{by_test, by_bool}
use Rattle.store_desk.specs.declared.Desk.{Desk}
use Rattle.store_desk.specs.Size.{InRange}
use Rattle.text_records.specs.Stream.{records_of}
use Rattle.text_records.specs.Received.{longest}
use Rattle.text_records.specs.Cleaning.{column_of}
use Rattle.text_records.proofs.Columns.{column_within, column_none}
use Rattle.text_fields.specs.Words.{Word, fields_of}
use Rattle.load.specs.declared.Fault.{Fault}
use Rattle.load.specs.declared.Numbers.{Numbers}
use Rattle.load.specs.declared.State.{State}
use Rattle.load.specs.Ask.{is_over_long}
use Rattle.load.specs.Step.{nothing_open, reported_of}
use Rattle.load.specs.Run.{Run, Report, condition_span, stops, only, and_then, reports_at, load_of, all_reports, report_word}
use Rattle.load.specs.Fits.{Small}
use Rattle.load.specs.Translated.{as_given, step_in, numbers_after_of, run_in}
use Rattle.load.proofs.Anew.{run_given}
use Rattle.load.proofs.Counts.{step_in_record_said, stream_records}
use Rattle.load.proofs.Faulted.{AllBlamed}
use Rattle.load.proofs.Told.{step_in_blamed}
use Rattle.theorem_told.specs.Reports.{report_at, number_span, Fits, WordSaid, Reported}
use Rattle.theorem_told.specs.Cut.{broken_off}
use Rattle.theorem_told.proofs.Classes.{over_long_said}
use Rattle.theorem_told.proofs.Closing.{run_closing}

-- ---- numbers that never fall, from lo to hi
abbrev pub Rising : ℕ → ℕ → List Report → Type 0
Rising lo hi [] = Unit {0}
Rising lo hi (r ∷ rs) = (lo ≤ r.number) × (r.number ≤ hi) × Rising r.number hi rs

rising_from : (low lo hi : ℕ) (rs : List Report) → low ≤ lo → Rising lo hi rs → Rising low hi rs
rising_from low lo hi [] l h = tt
rising_from low lo hi (r ∷ rs) l h = let a = h.0 in ((let g : low ≤ r.number = omega arith in g), h.1, h.2)

-- one record's, and then others
rising_record : (n hi : ℕ) (r : List ℕ) (fs : List Fault) (rs : List Report) → n ≤ hi → Rising n hi rs → Rising n hi (reports_at n r fs ++ rs)
rising_record n hi r [] rs l h = h
rising_record n hi r (f ∷ fs) rs l h = (le_refl n, l, rising_record n hi r fs rs l h)

rising_end : (lo hi : ℕ) (rs : List Report) → lo ≤ hi → Rising lo hi rs → Rising lo hi (rs ++ (broken_off hi ∷ []))
rising_end lo hi [] l h = (l, le_refl hi, tt)
rising_end lo hi (r ∷ rs) l h = (h.0, h.1, rising_end r.number hi rs h.1 h.2)

rising_at : (lo hi : ℕ) (rs : List Report) (k : ℕ) → Rising lo hi rs → k < length rs
    → (lo ≤ (report_at rs k).number) × ((report_at rs k).number ≤ hi)
rising_at lo hi [] k h l = absurd (not-suc-le-zero l)
rising_at lo hi (r ∷ rs) zero h l = (h.0, h.1)
rising_at lo hi (r ∷ rs) (suc k) h l =
    let a : lo ≤ r.number = h.0 in
    let b = rising_at r.number hi rs k h.2 (le_of_suc-le-suc l) in
    let c : r.number ≤ (report_at rs k).number = b.0 in
    ((let g : lo ≤ (report_at rs k).number = omega arith in g), b.1)

rising_order : (lo hi : ℕ) (rs : List Report) (i j : ℕ) → Rising lo hi rs → i ≤ j → j < length rs
    → (report_at rs i).number ≤ (report_at rs j).number
rising_order lo hi [] i j h l g = absurd (not-suc-le-zero g)
rising_order lo hi (r ∷ rs) zero zero h l g = le_refl r.number
rising_order lo hi (r ∷ rs) zero (suc j) h l g = (rising_at r.number hi rs j h.2 (le_of_suc-le-suc g)).0
rising_order lo hi (r ∷ rs) (suc i) zero h l g = absurd (not-suc-le-zero l)
rising_order lo hi (r ∷ rs) (suc i) (suc j) h l g = rising_order r.number hi rs i j h.2 (le_of_suc-le-suc l) (le_of_suc-le-suc g)

-- of the records of either load
run_rising : (d : Desk) (n : ℕ) (b : Numbers) (s : State) (t : List ℕ) (rs : List (List ℕ))
    → Rising (n + 1) (n + length (run_in d n b s t rs).outcomes) (run_in d n b s t rs).reports
unfolding run_in
run_rising d n b s t [] = tt
run_rising d n b s t (r ∷ rs) =
    let x = step_in d b s r t in
    let c = numbers_after_of b r x in
    let y = run_in d (n + 1) c x.state x.store rs in
    let m = n + suc (length y.outcomes) in
    let e : n + 1 + length y.outcomes ≡ m = omega arith in
    let ih : Rising (n + 1 + 1) m y.reports = subst (λ (k : ℕ). Rising (n + 1 + 1) k y.reports) e (run_rising d (n + 1) c x.state x.store rs) in
    by_test (λ (z : Run). Rising (n + 1) (n + length z.outcomes) z.reports) (stops x.outcome) (only (n + 1) r x) (and_then (n + 1) r x y)
    (λ h.
    subst (λ (z : List Report). Rising (n + 1) (n + 1) z) (append-nil (reports_at (n + 1) r (reported_of r x)))
    (rising_record (n + 1) (n + 1) r (reported_of r x) [] (le_refl (n + 1)) tt))
    (λ h. rising_record (n + 1) m r (reported_of r x) y.reports (omega arith) (rising_from (n + 1) (n + 1 + 1) m y.reports (omega arith) ih))

-- of a run whose own reports never fall, 0 only where no record was read: 0100 at the end neither
all_rising : (x : Run) → Rising (min 1 (length x.outcomes)) (length x.outcomes) x.reports
    → Rising (min 1 (length x.outcomes)) (length x.outcomes) (all_reports x)
unfolding all_reports
all_rising x h =
    let n = length x.outcomes in
    by_test (Rising (min 1 n) n) x.stopped _ _ (λ e. h) (λ e. rising_end (min 1 n) n x.reports (omega arith) h)

-- ---- what holds of each report
module _ (P : Report → Type 0) where
  abbrev pub Each : List Report → Type 0
  Each [] = Unit {0}
  Each (q ∷ qs) = P q × Each qs

  pub each_join : (rs qs : List Report) → Each rs → Each qs → Each (rs ++ qs)
  each_join [] qs h g = g
  each_join (r ∷ rs) qs h g = (h.0, each_join rs qs h.1 g)

  pub each_at : (rs : List Report) (k : ℕ) → Each rs → k < length rs → P (report_at rs k)
  each_at [] k h l = absurd (not-suc-le-zero l)
  each_at (r ∷ rs) zero h l = h.0
  each_at (r ∷ rs) (suc k) h l = each_at rs k h.1 (le_of_suc-le-suc l)

  module _ (d : Desk) (own : (n : ℕ) (b : Numbers) (s : State) (r t : List ℕ) → Each (reports_at n r (reported_of r (step_in d b s r t)))) where
    run_each : (n : ℕ) (b : Numbers) (s : State) (t : List ℕ) (rs : List (List ℕ)) → Each (run_in d n b s t rs).reports
    unfolding run_in
    run_each n b s t [] = tt
    run_each n b s t (r ∷ rs) =
        let x = step_in d b s r t in
        let c = numbers_after_of b r x in
        by_test (λ (y : Run). Each y.reports) (stops x.outcome) (only (n + 1) r x) (and_then (n + 1) r x (run_in d (n + 1) c x.state x.store rs))
        (λ e. own (n + 1) b s r t)
        (λ e. each_join (reports_at (n + 1) r (reported_of r x)) _ (own (n + 1) b s r t) (run_each (n + 1) c x.state x.store rs))

  all_each : ((n : ℕ) → P (broken_off n)) → (x : Run) → Each x.reports → Each (all_reports x)
  unfolding all_reports
  all_each h x g = by_test Each x.stopped _ _ (λ e. g) (λ e. each_join x.reports _ g (h (length x.outcomes), tt))

abbrev pub Short : Report → Type 0
Short q = q.condition < condition_span

abbrev pub Some : Report → Type 0
Some q = 0 < q.condition

abbrev pub Near : Report → Type 0
Near q = q.column ≤ longest

short_each : (n : ℕ) (r : List ℕ) (fs : List Fault) → Small fs → Each Short (reports_at n r fs)
unfolding Small
short_each n r [] h = tt
short_each n r (f ∷ fs) h = (h.0, short_each n r fs h.1)

some_each : (n : ℕ) (r : List ℕ) (ws : List Word) (fs : List Fault) → AllBlamed ws fs → Each Some (reports_at n r fs)
unfolding AllBlamed
some_each n r ws [] h = tt
some_each n r ws (f ∷ fs) h = (h.0.above, some_each n r ws fs h.1)

-- no column is past the record, and of an over-long one no field is blamed
near_each : (n : ℕ) (r : List ℕ) (fs : List Fault) → length r ≤ longest → Each Near (reports_at n r fs)
near_each n r [] l = tt
near_each n r (f ∷ fs) l =
    let a : column_of r f.place ≤ length r = column_within r f.place in
    ((let g : column_of r f.place ≤ longest = omega arith in g), near_each n r fs l)

record_near : (d : Desk) (n : ℕ) (b : Numbers) (s : State) (r t : List ℕ) → Each Near (reports_at n r (reported_of r (step_in d b s r t)))
record_near d n b s r t =
    by_bool (is_over_long r)
    (λ e.
    let z : column_of r 0 ≡ 0 = column_none r in
    let g : column_of r 0 ≤ longest = omega arith in
    subst (λ (fs : List Fault). Each Near (reports_at n r fs)) (sym (over_long_said d s r t b e).reported) (g, tt))
    (λ e. near_each n r (reported_of r (step_in d b s r t)) (ltb-false longest (length r) e))

-- and so of the records of either load
run_near : (d : Desk) (n : ℕ) (b : Numbers) (s : State) (t : List ℕ) (rs : List (List ℕ)) → Each Near (run_in d n b s t rs).reports
run_near d = run_each Near d (record_near d)

run_short : (d : Desk) (n : ℕ) (b : Numbers) (s : State) (t : List ℕ) (rs : List (List ℕ)) → Each Short (run_in d n b s t rs).reports
run_short d = run_each Short d (λ n b s r u. short_each n r (reported_of r (step_in d b s r u)) (step_in_record_said d b s r u).small)

run_some : (d : Desk) → InRange d → (n : ℕ) (b : Numbers) (s : State) (t : List ℕ) (rs : List (List ℕ)) → Each Some (run_in d n b s t rs).reports
run_some d h = run_each Some d (λ n b s r u. some_each n r (fields_of r) (reported_of r (step_in d b s r u)) (step_in_blamed d h.cues.0 s u b r))

-- ---- a word
word_only : (r q : Report) → Fits r → Fits q → report_word q ≡ report_word r → q ≡ r
unfolding report_word
word_only r q h g e =
    let n : q.number ≡ r.number = omega arith in
    let c : q.condition ≡ r.condition = omega arith in
    let k : q.column ≡ r.column = omega arith in
    λ i. record { number = n i; condition = c i; column = k i }

pub word_said : (r : Report) → Fits r → WordSaid r
unfolding report_word
word_said r h =
    let a = h.number in
    let b = h.condition in
    let c = h.column in
    record {
      short = omega arith;
      zeros = omega arith;
      number = omega arith;
      condition = omega arith;
      column = omega arith;
      only = λ q g e. word_only r q h g e;
    }

-- ---- of a run whose own reports, each and in their order, are known
pub record Known (d : Desk) (stream : List ℕ) (x : Run) : Type 0 where
  pub few : length x.outcomes ≤ length stream
  pub rising : Rising (min 1 (length x.outcomes)) (length x.outcomes) x.reports
  pub near : Each Near x.reports
  pub short : Each Short x.reports
  pub some : InRange d → Each Some x.reports

module _ (d : Desk) (stream : List ℕ) (x : Run) (known : Known d stream x) where
  abbrev reports : List Report
  reports = all_reports x

  abbrev records : ℕ
  records = length x.outcomes

  rises : Rising (min 1 records) records reports
  rises = all_rising x known.rising

  number_at : (k : ℕ) → k < length reports → (min 1 records ≤ (report_at reports k).number) × ((report_at reports k).number ≤ records)
  number_at k l = rising_at (min 1 records) records reports k rises l

  pub known_near : (k : ℕ) → k < length reports → (report_at reports k).column ≤ longest
  known_near k l = each_at Near reports k (all_each Near (λ n. zero-le) x known.near) l

  known_fits : length stream < number_span → (k : ℕ) → k < length reports → Fits (report_at reports k)
  known_fits h k l =
      let a : (report_at reports k).number ≤ records = (number_at k l).1 in
      let b : records ≤ length stream = known.few in
      let c : (report_at reports k).column ≤ longest = known_near k l in
      record {
        number = omega arith;
        condition = each_at Short reports k (all_each Short (λ n. lit< tt) x known.short) l;
        column = omega arith;
      }

  pub known_reported : Reported d stream x
  known_reported = (
    record {
      order = λ i j l g. rising_order (min 1 records) records reports i j rises l g;
      read = λ k l. (number_at k l).1;
      none = λ k l e. let a : min 1 records ≤ (report_at reports k).number = (number_at k l).0 in omega arith;
      condition = λ h k l. each_at Some reports k (all_each Some (λ n. lit< tt) x (known.some h)) l;
      fits = known_fits;
      words = λ h k l. word_said (report_at reports k) (known_fits h k l);
    },
    run_closing x,
  )

-- ---- the records of a stream, in either load; and so a normal one
pub run_known : (d : Desk) (b : Numbers) (t stream : List ℕ) → Known d stream (run_in d 0 b nothing_open t (records_of stream))
run_known d b t stream =
    let x = run_in d 0 b nothing_open t (records_of stream) in
    let n = length x.outcomes in
    let e : 0 + n ≡ n = omega arith in
    record {
      few = stream_records d b t stream;
      rising =
          rising_from (min 1 n) 1 n x.reports (omega arith)
          (subst (λ (k : ℕ). Rising 1 k x.reports) e (run_rising d 0 b nothing_open t (records_of stream)));
      near = run_near d 0 b nothing_open t (records_of stream);
      short = run_short d 0 b nothing_open t (records_of stream);
      some = λ h. run_some d h 0 b nothing_open t (records_of stream);
    }

module _ (d : Desk) (t stream : List ℕ) where
  load_known : Known d stream (load_of d t stream)
  unfolding load_of
  load_known = subst (Known d stream) (run_given d 0 as_given nothing_open t (records_of stream) refl) (run_known d as_given t stream)

  pub load_near : (k : ℕ) → k < length (all_reports (load_of d t stream)) → (report_at (all_reports (load_of d t stream)) k).column ≤ longest
  load_near = known_near d stream (load_of d t stream) load_known

  pub load_reported : Reported d stream (load_of d t stream)
  load_reported = known_reported d stream (load_of d t stream) load_known
