-- The proved edges are answers of the load call: their desk and its empty store are not turned away, the streams are short, and a lent list
-- of just the length of the reports holds them all.
-- Assumes nothing.
use mathlib.Core.Path.{◌≡◌, refl, sym, ap, ◌∙◌}
use mathlib.Core.Bool.{Bool, true, ◌&&◌}
use mathlib.Core.List.{List, [], ◌∷◌, map}
use Prim.Native.Nat.{ℕ, zero, ◌≤◌}
use native.Mathlib.Omega.{arith}
use lib.Dec.{leb}
use lib.ListN.{length, drop, replicate, get_or, length-map, length-replicate}
use lib.Seq.{take_all}
use borrow.Author.Tests.{leb-true}
use Rattle.cells.specs.Put.{put}
use Rattle.cells.proofs.Split.{and_left, and_right}
use Rattle.store_desk.specs.Size.{InRange, all_of, in_range_of, store_length}
use Rattle.store_desk.proofs.Size.{in_range}
use Rattle.store.specs.View.{memory_of}
use Rattle.load.specs.Run.{Run, totals_of, stored_in, all_reports, report_word}
use Rattle.show.specs.Calls.{most_bytes, LoadCall}
use Rattle.theorem_told.specs.Edges.{Edge, edges, told_by, cue_of, kept_by_of, edge_loaded, answer_of, wanted_of}
use Rattle.theorem_told.proofs.Edges.{edges_hold}
use Rattle.theorem_called.specs.Called.{edge_called, edge_wanted, EdgesCalled}
use Rattle.theorem_called.proofs.Answered.{load_answers}
use Rattle.cells.proofs.Put.{put_whole}
use Rattle.store.proofs.Empty.{zeros_ready}

-- ---- one row

-- a lent list of just the length holds all the reports
stored_whole : (run : Run) (n : ℕ) → length (all_reports run) ≡ n → stored_in (replicate n 0) (all_reports run) ≡ map report_word (all_reports run)
unfolding stored_in
stored_whole run n e =
    let ws = map report_word (all_reports run) in
    let m : length ws ≡ length (all_reports run) = length-map (all_reports run) report_word in
    let k : length (replicate n zero) ≡ n = length-replicate n zero in
    ap (λ (z : List ℕ). put (replicate n 0) 0 z) (take_all (length (replicate n zero)) ws (omega arith))
    ∙ put_whole (replicate n 0) ws (omega arith)

module _ (e : Edge) (r : InRange e.desk) (short : length e.stream ≤ most_bytes) (holds : answer_of e ≡ wanted_of e) where
  row_reports : map report_word (all_reports (edge_loaded e)) ≡ e.reports
  unfolding answer_of
  row_reports = ap (λ (l : List (List ℕ)). get_or l 0 []) holds

  row_told : told_by (totals_of (edge_loaded e)) ≡ e.told
  unfolding answer_of
  row_told = ap (λ (l : List (List ℕ)). get_or l 1 []) holds

  row_kept : kept_by_of (memory_of e.desk (edge_loaded e).store (cue_of e.cue)) ≡ e.kept
  unfolding answer_of
  row_kept = ap (λ (l : List (List ℕ)). get_or l 2 []) holds

  row_count : length (all_reports (edge_loaded e)) ≡ length e.reports
  row_count = sym (length-map (all_reports (edge_loaded e)) report_word) ∙ ap length row_reports

  -- the three lists of an answer
  abbrev shown : LoadCall → List (List ℕ)
  shown x = (x.reply.number ∷ x.reply.told) ∷ x.reports ∷ kept_by_of (memory_of e.desk x.store (cue_of e.cue)) ∷ []

  row_list : stored_in (replicate (length e.reports) 0) (all_reports (edge_loaded e)) ≡ e.reports
  row_list = stored_whole (edge_loaded e) (length e.reports) row_count ∙ row_reports

  row_called : edge_called e ≡ edge_wanted e
  unfolding edge_called edge_loaded totals_of
  row_called =
      ap shown
      (load_answers e.desk (replicate (store_length e.desk) 0) (replicate (length e.reports) 0) e.stream (zeros_ready e.desk r) short)
      ∙ (λ i. (0 ∷ row_count i ∷ row_told i) ∷ row_list i ∷ row_kept i ∷ [])

-- ---- the rows

-- of each row the desk is in range and the stream is short
in_reach : Edge → Bool
in_reach e = in_range_of e.desk && leb (length e.stream) most_bytes

all_reach : List Edge → Bool
all_reach [] = true
all_reach (e ∷ es) = in_reach e && all_reach es

rows_called : (es : List Edge) → all_reach es ≡ true → map answer_of es ≡ map wanted_of es → map edge_called es ≡ map edge_wanted es
unfolding in_reach all_reach
rows_called [] s h = refl
rows_called (e ∷ es) s h =
    let a = and_left (in_reach e) (all_reach es) s in
    let r = and_left (in_range_of e.desk) (leb (length e.stream) most_bytes) a in
    let l = and_right (in_range_of e.desk) (leb (length e.stream) most_bytes) a in
    let f = row_called e (in_range e.desk r) (leb-true _ _ l) (ap (λ (z : List (List (List ℕ))). get_or z 0 []) h) in
    let g = rows_called es (and_right (in_reach e) (all_reach es) s) (ap (λ (z : List (List (List ℕ))). drop 1 z) h) in
    (λ i. f i ∷ g i)

edges_reach : all_reach edges ≡ true
unfolding in_reach all_reach in_range_of all_of
edges_reach = refl

pub edges_called : EdgesCalled
edges_called = rows_called edges edges_reach edges_hold
