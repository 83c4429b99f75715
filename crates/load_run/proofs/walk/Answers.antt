-- `walk` meets its contract: what is read so far stands in front of the run of what is left of the stream, and what was noted of it is in
-- the book. The lent list of faults keeps its length.
use Rattle.load_run.proofs.Turn.{loop_start, end_in, loop_room, loop_fit, loop_less, loop_turn, loop_stop, loop_end}
use Rattle.load_run.proofs.Taking.{first_in, spans_at}
use Rattle.load_run.proofs.Turn.{blank_room, blank_less, blank_turn}
use native.Mathlib.Omega.{arith}
use mathlib.Core.Path.{refl, sym, ◌∙◌}
use Rattle.load_run.proofs.walk.Goals as goal

pub loop-at-init : goal.loop-at-init
loop-at-init g c = (loop_start g.N.Naming.laws _ _ _ _ _ c.requires.fitting c.requires.stream_len_bound c.requires.from_none c.begun-done.ensures, refl)

pub take_blank-done-requires : goal.take_blank-done-requires
take_blank-done-requires g c = blank_room g.N.Naming.laws c.loop-at.invariant.0 c.loop-at-test.true c.is_end.ensures c.if-is_end.true

pub next_start-at-requires : goal.next_start-at-requires
next_start-at-requires g c = c.loop-at.invariant.0.within

pub loop-at-smaller-then-is_end : goal.loop-at-smaller-then-is_end
loop-at-smaller-then-is_end g c = blank_less g.N.Naming.laws c.loop-at.invariant.0 c.loop-at-test.true c.is_end.ensures c.if-is_end.true c.take_blank-done.ensures c.next_start-at.ensures

pub loop-at-preserved-then-is_end : goal.loop-at-preserved-then-is_end
loop-at-preserved-then-is_end g c =
    let w = c.loop-at.invariant in
    (blank_turn g.N.Naming.laws w.0 c.loop-at-test.true c.is_end.ensures c.if-is_end.true c.take_blank-done.ensures c.next_start-at.ensures, w.1)

pub plain_end-first-requires : goal.plain_end-first-requires
plain_end-first-requires g c = c.loop-at.invariant.0.within

pub record_end-end-requires : goal.record_end-end-requires
record_end-end-requires g c = first_in _ c.loop-at.invariant.0.within c.plain_end-first.ensures

pub slice_bounds-take_record-end : goal.slice_bounds-take_record-end
slice_bounds-take_record-end g c = sym c.loop-at.invariant.1

pub take_record-done-requires : goal.take_record-done-requires
take_record-done-requires g c =
    let w = c.loop-at.invariant in
    let m = w.1 in
    let h = c.loop-at-test.true in
    let f = (spans_at _ c.loop-at.invariant.0.within c.plain_end-first.ensures c.record_end-end.ensures).ends in
    record { spans = (spans_at _ c.loop-at.invariant.0.within c.plain_end-first.ensures c.record_end-end.ensures); taking = loop_room g.N.Naming.laws w.0 h f; room = omega arith; counts_fit = loop_fit g.N.Naming.laws w.0 h f }

pub returns-then-done : goal.returns-then-done
returns-then-done g c = loop_stop g.N.Naming.laws c.loop-at.invariant.0 c.loop-at-test.true (spans_at _ c.loop-at.invariant.0.within c.plain_end-first.ensures c.record_end-end.ensures).ends c.take_record-done.ensures.reports_after c.take_record-done.ensures.book_after c.if-done.true

pub next_start-at-requires-in-loop-at : goal.next_start-at-requires-in-loop-at
next_start-at-requires-in-loop-at g c =
    let i = end_in g.N.Naming.laws c.loop-at.invariant.0 c.loop-at-test.true (spans_at _ c.loop-at.invariant.0.within c.plain_end-first.ensures c.record_end-end.ensures).ends in
    omega (arith, i.1)

pub loop-at-smaller : goal.loop-at-smaller
loop-at-smaller g c = loop_less g.N.Naming.laws c.loop-at.invariant.0 c.loop-at-test.true (spans_at _ c.loop-at.invariant.0.within c.plain_end-first.ensures c.record_end-end.ensures).ends c.take_record-done.ensures.reports_after c.take_record-done.ensures.book_after c.next_start-at-in-loop-at.ensures

pub loop-at-preserved : goal.loop-at-preserved
loop-at-preserved g c =
    let w = c.loop-at.invariant in
    let r = c.take_record-done.ensures in
    let k = c.take_record-done.auto in
    let s = spans_at _ c.loop-at.invariant.0.within c.plain_end-first.ensures c.record_end-end.ensures in (
      loop_turn g.N.Naming.laws w.0 c.loop-at-test.true s.ends r.reports_after r.book_after c.next_start-at-in-loop-at.ensures c.if-done.false k.store,
      k.faults ∙ w.1,
    )

pub returns : goal.returns
returns g c = loop_end g.N.Naming.laws c.loop-at.invariant.0 c.loop-at-test.false
