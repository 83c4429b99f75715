-- The theorem: what is written reads back as the same show, with no report, and is written again as the same stream. From the run of the lines
-- and from the writer, which sees only the show.
-- Assumes nothing.
use mathlib.Core.Path.{◌≡◌, refl, sym, ap, ◌∙◌, subst}
use mathlib.Core.List.{List}
use Prim.Native.Nat.{ℕ, ◌≤◌}
use lib.ListN.{length}
use Rattle.store_desk.specs.declared.Desk.{Desk}
use Rattle.store_desk.specs.Size.{store_length}
use Rattle.store_head.specs.Pack.{Bytes}
use Rattle.store.specs.Change.{emptied}
use Rattle.store.specs.Good.{Ready}
use Rattle.store.proofs.Empty.{empty_good}
use Rattle.load.specs.Run.{load_of, stored_in}
use Rattle.load.proofs.Counts.{stored_none}
use Rattle.text_records.specs.Stream.{records_of}
use Rattle.save_lines.specs.Line.{joined}
use Rattle.save.specs.Lines.{lines_of, stream_of}
use Rattle.theorem_same_show.specs.Show.{all_obeyed, ReadBack, WrittenReadsBack}
use Rattle.theorem_same_show.proofs.Fair.{records_joined}
use Rattle.theorem_same_show.proofs.Runs.{obeyed_run, run_reports, run_told, runs_fair}
use Rattle.theorem_same_show.proofs.Back.{lines, lines_end, back, load_back, lines_count}
use Rattle.theorem_same_show.proofs.Canonical.{written_alike}

module _ (d : Desk) (s t : List ℕ) (rs : Ready d s) (b : Bytes s) (rt : Ready d t) where
  run_back : ReadBack d s t (obeyed_run (length (lines d s)) (back d s t rs b rt).state (back d s t rs b rt).store)
  unfolding obeyed_run
  run_back =
      let g = back d s t rs b rt in
      let n : ℕ = length (lines d s) in
      record {
        reports = run_reports n g.state g.store;
        list = λ reports. ap (stored_in reports) (run_reports n g.state g.store) ∙ stored_none reports;
        stopped = refl;
        told = run_told n g.state g.store ∙ ap all_obeyed (sym (lines_count d s));
        form = g.ready;
        show = g.show;
        size = g.size;
        past = g.tail;
        again = written_alike d s g.store rs g.ready g.show;
      }

pub written_reads_back : WrittenReadsBack
written_reads_back d s t rs b rt = subst (ReadBack d s t) (sym (load_back d s t rs b rt)) (run_back d s t rs b rt)

-- the records of a written stream are the lines that were written
pub records_written : (d : Desk) (s : List ℕ) → Ready d s → Bytes s → records_of (stream_of d s) ≡ lines_of d s
unfolding stream_of
records_written d s rs b =
    subst (λ (ls : List (List ℕ)). records_of (joined ls) ≡ ls) (sym (lines_end d s)) (records_joined _ (runs_fair (back d s s rs b rs).runs))

-- into an emptied store in particular
pub reads_into_empty : (d : Desk) (s t : List ℕ) → Ready d s → Bytes s → store_length d ≤ length t
    → ReadBack d s (emptied d t) (load_of d (emptied d t) (stream_of d s))
reads_into_empty d s t rs b h = written_reads_back d s (emptied d t) rs b (empty_good d t h rs.range)
