-- `take_text` meets its contract: from what the step and the telling ensure; the faults told are those at the front of the lent list.
use Rattle.load_run.proofs.Taking.{step_room, text_said, text_near, step_taken, step_booked}
use Rattle.load.proofs.Steps.{step_in_small}
use Rattle.load_tell.specs.Count.{ignored_by}
use native.Mathlib.Omega.{arith}
use lib.Seq.{length-take-le}
use mathlib.Core.Path.{sym}
use Rattle.load_run.proofs.take_text.Goals as goal

pub step-s-requires : goal.step-s-requires
step-s-requires g c =
    let t = c.requires.taking in
    record { stepping = record { fitting = t.fitting; short = omega (arith, c.requires.text_of.short, c.requires.text_of.within); ready = t.ready }; counts_fit = c.requires.counts_fit; room = c.requires.room }

pub slice_bounds-tell-end : goal.slice_bounds-tell-end
slice_bounds-tell-end g c = omega (arith, c.step-s.ensures.faults_le_most_faults, c.step-s.auto.faults, c.requires.room)

pub slice_bounds-tell-end-2 : goal.slice_bounds-tell-end-2
slice_bounds-tell-end-2 g c = sym (length-take-le _ _ (omega (arith, c.step-s.ensures.faults_le_most_faults, c.step-s.auto.faults, c.requires.room)))

pub tell-count-requires : goal.tell-count-requires
tell-count-requires g c =
    let t = c.requires.taking in record {
      countable = t.countable;
      tellable = step_room _ _ _ c.step-s.ensures.faults_after (step_in_small _ _ _ _ _) c.step-s.ensures.faults_le_most_faults c.requires.room _ _ _ c.args.high c.args.control t.countable t.room
          c.requires.text_of.short (text_said _ _ _ _ _) (text_near _ _ _ c.args.received.now c.args.text.now _ t.fitting c.requires.text_of.within);
      marred = c.requires.text_of.marred;
    }

pub returns : goal.returns
returns g c =
    record {
      reports_after = step_taken _ _ _ c.step-s.ensures.faults_after (step_in_small _ _ _ _ _) c.step-s.ensures.faults_le_most_faults c.requires.room _ _ _ (ignored_by c.args.high c.args.control)
          c.parted.ensures c.tell-count.ensures c.stops.ensures;
      book_after = step_booked _ _ _ c.step-s.ensures.faults_after g.N.Naming.ANEW g.N.Naming.after _ _ c.parted.ensures c.step-s.ensures.book_after;
    }
