-- `channels_length` meets its contract. The loop's invariant: the total, with the length of what is left of the channels, is the length of the CHAN
-- records. The measure is what is left.
use native.Mathlib.Omega.{arith}
use Rattle.save_chans.proofs.Loops.{adding_start, adding_small, adding_turn, adding_dark, adding_end, adding_end_small}
use Rattle.save_chans.proofs.channels_length.Goals as goal

pub loop-level-init : goal.loop-level-init
loop-level-init c = adding_start _

pub loop-level-preserved-then-level-eq0 : goal.loop-level-preserved-then-level-eq0
loop-level-preserved-then-level-eq0 c =
    let at = c.in-Some.ensures.lookup.3 in
    adding_dark c.loop-level.invariant at.0 (at.1 0) c.if-level-eq0.true c.next_lit-i.ensures

pub overflow_add-total : goal.overflow_add-total
overflow_add-total c =
    let at = c.in-Some.ensures.lookup.3 in
    let s = adding_small c.loop-level.invariant at.0 (at.1 0) c.requires c.channel_length-total.ensures in
    omega arith

pub loop-level-preserved : goal.loop-level-preserved
loop-level-preserved c =
    let at = c.in-Some.ensures.lookup.3 in
    adding_turn c.loop-level.invariant at.0 (at.1 0) c.if-level-eq0.false c.channel_length-total.ensures c.pairs_after-pairs.ensures

pub overflow_add-result : goal.overflow_add-result
overflow_add-result c =
    let s = adding_end_small c.loop-level.invariant c.in_default.ensures.lookup.3 c.last.ensures c.requires in
    omega arith

pub returns : goal.returns
returns c = adding_end c.loop-level.invariant c.in_default.ensures.lookup.3 c.last.ensures
