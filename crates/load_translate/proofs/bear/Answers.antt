-- `bear` meets its contract: what was met so far stands in front of what the records that are left bear.
use Rattle.load_translate.proofs.Reading.{bearing_fits}
use Rattle.load_translate.proofs.Walking.{loop_start, loop_countable, loop_turn, loop_end}
use Rattle.load_run.proofs.Taking.{spans_in, first_in, spans_at}
use native.Mathlib.Omega.{arith}
use Rattle.load_translate.proofs.bear.Goals as goal

pub loop-n-init : goal.loop-n-init
loop-n-init c = (c.requires.found_in_bounds, loop_start _ _ _ _ _ c.requires.records_in_bounds c.requires.stream_len_bound)

pub plain_again-first-requires : goal.plain_again-first-requires
plain_again-first-requires c = c.loop-n.invariant.1.within

pub record_end-end-requires : goal.record_end-end-requires
record_end-end-requires c = first_in _ c.loop-n.invariant.1.within c.plain_again-first.ensures

pub bearing_at-b-requires : goal.bearing_at-b-requires
bearing_at-b-requires c = spans_at _ c.loop-n.invariant.1.within c.plain_again-first.ensures c.record_end-end.ensures

pub meet_bearing-seen-requires : goal.meet_bearing-seen-requires
meet_bearing-seen-requires c =
    let w = c.loop-n.invariant in
    let f = w.1.found-length in
    record { found_in_bounds = omega (arith, w.0); bearable = bearing_fits _ c.bearing_at-b.ensures; countable = loop_countable w.1 c.loop-n-test.true }

pub next_start-at-requires : goal.next_start-at-requires
next_start-at-requires c = (spans_in _ _ _ (spans_at _ c.loop-n.invariant.1.within c.plain_again-first.ensures c.record_end-end.ensures)).1

pub loop-n-preserved : goal.loop-n-preserved
loop-n-preserved c =
    let w = c.loop-n.invariant in (
      w.0,
      loop_turn w.1 c.loop-n-test.true (spans_at _ c.loop-n.invariant.1.within c.plain_again-first.ensures c.record_end-end.ensures).ends c.next_start-at.ensures c.bearing_at-b.ensures c.meet_bearing-seen.ensures
          c.meet_bearing-seen.auto.found,
    )

pub returns : goal.returns
returns c = loop_end c.loop-n.invariant.1 c.loop-n-test.false
