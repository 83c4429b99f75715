-- A stream that breaks off: its load is the load of the records that ended, and then of what there is of the next one; then 0100 under
-- the number of both, unless one of them stopped the load. By the records of a front, and by a run in two parts.
-- Assumes nothing.
use mathlib.Core.Path.{◌≡◌, sym, ap, ◌∙◌}
use mathlib.Core.Bool.{true, false}
use mathlib.Core.List.{List, [], ◌∷◌, ◌++◌}
use Prim.Native.Nat.{ℕ, ◌+◌}
use native.Mathlib.Omega.{arith}
use lib.ListN.{length, take, drop, length-append, take-append-drop}
use lib.Seq.{length-take-le}
use Rattle.cells.proofs.Split.{cond-false}
use Rattle.store_desk.specs.declared.Desk.{Desk}
use Rattle.text_records.specs.Stream.{records_of}
use Rattle.load.specs.Step.{record_step, reported_of, nothing_open}
use Rattle.load.specs.Run.{Run, stops, reports_at, run_from, load_of, all_reports}
use Rattle.theorem_told.specs.Classes.{first_run, runs_joined, gone_on}
use Rattle.theorem_told.specs.Cut.{EndedBefore, cut_record, broken_off, BrokenSaid}
use Rattle.theorem_told.proofs.Runs.{run_append, run_read, alone, run_one, gone_none, gone_stopped, gone_joined}
use Rattle.theorem_told.proofs.Cut.{records_cut, ended_few}

-- ---- 0100
reports_broken : (x : Run) → x.stopped ≡ false → all_reports x ≡ x.reports ++ (broken_off (length x.outcomes) ∷ [])
unfolding all_reports
reports_broken x e = cond-false _ _ _ e

-- a load that did not stop read every record
load_all_read : (d : Desk) (t stream : List ℕ) → (load_of d t stream).stopped ≡ false → length (load_of d t stream).outcomes ≡ length (records_of stream)
unfolding load_of
load_all_read d t stream h = run_read d 0 nothing_open t (records_of stream) h

-- ---- a stream, and its first k bytes, before which n records have ended
module _ (d : Desk) (t stream : List ℕ) (k n : ℕ) (so : EndedBefore stream k n) where
  ended_size : length (take n (records_of stream)) ≡ n
  ended_size = length-take-le n (records_of stream) (ended_few stream k n so)

  pub broken_count : length (records_of (take k stream)) ≡ n + length (cut_record k stream n)
  broken_count =
      ap length (records_cut stream k n so)
      ∙ length-append (take n (records_of stream)) (cut_record k stream n)
      ∙ ap (λ (m : ℕ). m + length (cut_record k stream n)) ended_size

  -- the records that ended, and then others
  ended_then : (more : List (List ℕ))
      → run_from d 0 nothing_open t (take n (records_of stream) ++ more)
      ≡ gone_on d n (first_run d t stream n) more
  ended_then more =
      let e : 0 + length (take n (records_of stream)) ≡ n = omega (arith, ended_size) in
      run_append d 0 nothing_open t (take n (records_of stream)) more
      ∙ ap (λ (m : ℕ). gone_on d m (first_run d t stream n) more) e

  -- both loads start with the records that ended. The whole one goes on with the others, and the broken one with what there is of one
  pub whole_load : load_of d t stream ≡ gone_on d n (first_run d t stream n) (drop n (records_of stream))
  unfolding load_of
  whole_load =
      ap (λ (rs : List (List ℕ)). run_from d 0 nothing_open t rs) (sym (take-append-drop n (records_of stream)))
      ∙ ended_then (drop n (records_of stream))

  pub broken_load : load_of d t (take k stream) ≡ gone_on d n (first_run d t stream n) (cut_record k stream n)
  unfolding load_of
  broken_load =
      ap (λ (rs : List (List ℕ)). run_from d 0 nothing_open t rs) (records_cut stream k n so) ∙ ended_then (cut_record k stream n)

  -- no record under way: nothing but the records that ended
  pub broken_between : cut_record k stream n ≡ [] → load_of d t (take k stream) ≡ first_run d t stream n
  broken_between e =
      broken_load
      ∙ ap (λ (rs : List (List ℕ)). gone_on d n (first_run d t stream n) rs) e
      ∙ gone_none d n (first_run d t stream n)

  -- a record under way: the state after the records that ended, and then that one
  module _ (r : List ℕ) (e : cut_record k stream n ≡ r ∷ []) (h : (first_run d t stream n).stopped ≡ false) where
    broken_joined : load_of d t (take k stream)
        ≡ runs_joined (first_run d t stream n)
        (alone (n + 1) r (record_step d (first_run d t stream n).state r (first_run d t stream n).store))
    broken_joined =
        broken_load
        ∙ ap (λ (rs : List (List ℕ)). gone_on d n (first_run d t stream n) rs) e
        ∙ gone_joined d n (first_run d t stream n) (r ∷ []) h
        ∙ ap (λ (x : Run). runs_joined (first_run d t stream n) x)
        (run_one d n (first_run d t stream n).state (first_run d t stream n).store r)

    pub broken_store : (load_of d t (take k stream)).store
        ≡ (record_step d (first_run d t stream n).state r (first_run d t stream n).store).store
    broken_store = ap (λ (x : Run). x.store) broken_joined

    pub broken_reports : (load_of d t (take k stream)).reports
        ≡ (first_run d t stream n).reports
        ++ reports_at (n + 1) r (reported_of r (record_step d (first_run d t stream n).state r (first_run d t stream n).store))
    broken_reports = ap (λ (x : Run). x.reports) broken_joined

    pub broken_stopped : (load_of d t (take k stream)).stopped
        ≡ stops (record_step d (first_run d t stream n).state r (first_run d t stream n).store).outcome
    broken_stopped = ap (λ (x : Run). x.stopped) broken_joined

  -- one of them stopped the load: where the stream broke off makes no difference
  pub broken_after : (first_run d t stream n).stopped ≡ true → load_of d t (take k stream) ≡ load_of d t stream
  broken_after e =
      broken_load
      ∙ gone_stopped d n (first_run d t stream n) (cut_record k stream n) e
      ∙ sym (gone_stopped d n (first_run d t stream n) (drop n (records_of stream)) e)
      ∙ sym whole_load

  -- else it is told: 0100 comes last, under the number of the records that ended and of the one that was cut
  pub broken_told : (load_of d t (take k stream)).stopped ≡ false
      → all_reports (load_of d t (take k stream))
      ≡ (load_of d t (take k stream)).reports ++ (broken_off (n + length (cut_record k stream n)) ∷ [])
  broken_told h =
      reports_broken (load_of d t (take k stream)) h
      ∙ ap (λ (m : ℕ). (load_of d t (take k stream)).reports ++ (broken_off m ∷ [])) (load_all_read d t (take k stream) h ∙ broken_count)

  pub broken_said : BrokenSaid d t stream k n
  broken_said = record { records = records_cut stream k n so; whole = whole_load; load = broken_load; told = broken_told }
