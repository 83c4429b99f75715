-- The column of each report is that of the first character of the field that is blamed, as the record was received; 0 where none is there. A
-- report is of a record that was read. By induction on the records; which field a fault blames is from `load`, and where a field stands is by
-- the laws of columns of `text_records`.
-- Assumes nothing.
use mathlib.Core.Path.{◌≡◌, refl, sym, ap, ◌∙◌, subst}
use mathlib.Core.Bool.{◌||◌}
use mathlib.Core.List.{List, [], ◌∷◌}
use Prim.Native.Nat.{ℕ, suc, ◌+◌, ◌-◌, ◌<◌, zero-le, suc-le-suc}
use native.Mathlib.Omega.{arith}
use lib.ListN.{length, get_or, drop, get_or-eq_default}
use Rattle.cells.proofs.Split.{by_test}
use Rattle.store_desk.specs.declared.Desk.{Desk}
use Rattle.store_desk.specs.Size.{InRange}
use Rattle.text_records.specs.Stream.{records_of}
use Rattle.text_records.specs.Cleaning.{is_high, is_control, kept_of, column_of}
use Rattle.text_records.proofs.Columns.{Column, column_is, column_none}
use Rattle.text_fields.specs.Words.{Word, missing, fields_of}
use Rattle.load.specs.declared.Fault.{Fault}
use Rattle.load.specs.declared.Numbers.{Numbers}
use Rattle.load.specs.declared.State.{State}
use Rattle.load.specs.Step.{nothing_open, reported_of}
use Rattle.load.specs.Run.{Run, Report, stops, only, and_then, report_of, reports_at, load_of}
use Rattle.load.specs.Translated.{as_given, step_in, numbers_after_of, run_in}
use Rattle.load.proofs.Anew.{run_given}
use Rattle.load.proofs.Faulted.{Blamed, AllBlamed}
use Rattle.load.proofs.Told.{step_in_blamed}
use Rattle.theorem_told.specs.Columns.{FirstThere, ColumnSaid, OfRecord, ColumnsSaid}
use Rattle.theorem_told.specs.Reports.{report_at}
use Rattle.text_fields.proofs.Placed.{Placed, field_placed}
use Rattle.theorem_told.proofs.Reports.{Each, each_join, each_at, load_near}

-- ---- of one fault
-- a field that stands there
there : (r : List ℕ) (w : Word) → Placed 0 (kept_of r) w → FirstThere r w (column_of r w.place)
there r w x =
    let p : w.place ≡ suc x.index = x.place ∙ (let e : 0 + x.index + 1 ≡ suc x.index = omega arith in e) in
    let y : Column r x.index (column_of r (suc x.index)) = column_is r x.index x.within in
    let l : y.index < length r = y.within in
    let c : column_of r w.place ≡ suc y.index = ap (column_of r) p ∙ y.counted in
    let i : column_of r w.place - 1 ≡ y.index = omega arith in
    let j : w.place - 1 ≡ x.index = omega arith in
    record {
      some = omega arith;
      within = omega arith;
      first = ap (λ (k : ℕ). get_or r k 0) i ∙ y.same ∙ sym x.first;
      kept = ap (λ (k : ℕ). is_high (get_or r k 0) || is_control (get_or r k 0)) i ∙ y.kept;
      text =
          ap (λ (k : ℕ). kept_of (drop k r)) i ∙ y.text ∙ ap (λ (k : ℕ). drop k (kept_of r)) (sym j);
    }

fault_said : (n : ℕ) (r : List ℕ) (f : Fault) → Blamed (fields_of r) f → ColumnSaid r (report_of n r f)
fault_said n r f b =
    let none : f.place ≡ 0 → column_of r f.place ≡ 0 = λ z. ap (column_of r) z ∙ column_none r in
    record {
      field = b.index;
      there =
          λ l.
          subst (FirstThere r (get_or (fields_of r) b.index missing)) (ap (column_of r) (sym b.place))
          (there r (get_or (fields_of r) b.index missing) (field_placed r b.index l));
      lacking = λ l. none (b.place ∙ ap (λ (w : Word). w.place) (get_or-eq_default (fields_of r) missing l));
      keyword = b.keyword;
      nothing = λ e. none (b.nothing e);
    }

-- ---- of the records rs after n others, of which m were read
record Among (n m : ℕ) (rs : List (List ℕ)) (q : Report) : Type 0 where
  index : ℕ
  read : index < m
  number : q.number ≡ n + index + 1
  column : ColumnSaid (get_or rs index []) q

-- one record's, and those behind it
own_among : (n m : ℕ) (r : List ℕ) (rs : List (List ℕ)) (fs : List Fault) → AllBlamed (fields_of r) fs
    → Each (Among n (suc m) (r ∷ rs)) (reports_at (n + 1) r fs)
unfolding AllBlamed
own_among n m r rs [] h = tt
own_among n m r rs (f ∷ fs) h = (
  record { index = 0; read = suc-le-suc zero-le; number = omega arith; column = fault_said (n + 1) r f h.0 },
  own_among n m r rs fs h.1,
)

behind_among : (n m : ℕ) (r : List ℕ) (rs : List (List ℕ)) (qs : List Report) → Each (Among (n + 1) m rs) qs → Each (Among n (suc m) (r ∷ rs)) qs
behind_among n m r rs [] h = tt
behind_among n m r rs (q ∷ qs) h =
    let x = h.0 in
    let e : q.number ≡ n + 1 + x.index + 1 = x.number in (
      record { index = suc x.index; read = suc-le-suc x.read; number = omega arith; column = x.column },
      behind_among n m r rs qs h.1,
    )

-- of either load
run_among : (d : Desk) → InRange d → (n : ℕ) (b : Numbers) (s : State) (t : List ℕ) (rs : List (List ℕ))
    → Each (Among n (length (run_in d n b s t rs).outcomes) rs) (run_in d n b s t rs).reports
unfolding run_in
run_among d ok n b s t [] = tt
run_among d ok n b s t (r ∷ rs) =
    let x = step_in d b s r t in
    let y = run_in d (n + 1) (numbers_after_of b r x) x.state x.store rs in
    let f : AllBlamed (fields_of r) (reported_of r x) = step_in_blamed d ok.cues.0 s t b r in
    by_test (λ (z : Run). Each (Among n (length z.outcomes) (r ∷ rs)) z.reports) (stops x.outcome) (only (n + 1) r x) (and_then (n + 1) r x y)
    (λ e. own_among n 0 r rs (reported_of r x) f)
    (λ e.
    each_join (Among n (suc (length y.outcomes)) (r ∷ rs)) (reports_at (n + 1) r (reported_of r x)) y.reports
    (own_among n (length y.outcomes) r rs (reported_of r x) f)
    (behind_among n (length y.outcomes) r rs y.reports (run_among d ok (n + 1) (numbers_after_of b r x) x.state x.store rs)))

-- each report of the records of a stream is of one that was read
abbrev OfRecords : List ℕ → Run → Type 0
OfRecords stream x = (k : ℕ) → k < length x.reports → OfRecord stream (length x.outcomes) (report_at x.reports k)

pub run_columns : (d : Desk) → InRange d → (b : Numbers) (t stream : List ℕ) → OfRecords stream (run_in d 0 b nothing_open t (records_of stream))
run_columns d ok b t stream k l =
    let x = run_in d 0 b nothing_open t (records_of stream) in
    let a = each_at (Among 0 (length x.outcomes) (records_of stream)) x.reports k (run_among d ok 0 b nothing_open t (records_of stream)) l in
    let z : 0 + a.index + 1 ≡ a.index + 1 = omega arith in
    record { index = a.index; read = a.read; number = a.number ∙ z; column = a.column }

-- ---- of a load
pub load_columns : (d : Desk) (t stream : List ℕ) → ColumnsSaid d t stream
unfolding load_of
load_columns d t stream =
    record {
      records = λ ok. subst (OfRecords stream) (run_given d 0 as_given nothing_open t (records_of stream) refl) (run_columns d ok as_given t stream);
      most = load_near d t stream;
    }
