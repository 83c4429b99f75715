-- `put_channels` meets its contract. The loop's invariant: what is written, with what is left of the channels, is the CHAN records. The measure is
-- what is left.
use Rattle.save_chans.proofs.Loops.{putting_start, putting_room, putting_turn, putting_dark, putting_last, putting_end}
use Rattle.save_chans.proofs.put_channels.Goals as goal

pub loop-level-init : goal.loop-level-init
loop-level-init c = putting_start _ c.requires.room

pub loop-level-preserved-then-level-eq0 : goal.loop-level-preserved-then-level-eq0
loop-level-preserved-then-level-eq0 c =
    let at = c.in-Some.ensures.lookup.3 in
    putting_dark c.loop-level.invariant at.0 (at.1 0) c.if-level-eq0.true c.next_lit-i.ensures

pub put_channel-next-requires-clause-room : goal.put_channel-next-requires-clause-room
put_channel-next-requires-clause-room c = let at = c.in-Some.ensures.lookup.3 in putting_room c.loop-level.invariant at.0 (at.1 0)

pub loop-level-preserved : goal.loop-level-preserved
loop-level-preserved c =
    let at = c.in-Some.ensures.lookup.3 in
    putting_turn c.loop-level.invariant at.0 (at.1 0) c.if-level-eq0.false c.put_channel-next.ensures c.pairs_after-pairs.ensures

pub put_text-requires : goal.put_text-requires
put_text-requires c = putting_last c.loop-level.invariant c.in_default.ensures.lookup.3 c.last.ensures

pub returns : goal.returns
returns c = putting_end c.loop-level.invariant c.in_default.ensures.lookup.3 c.last.ensures c.put_text.ensures
