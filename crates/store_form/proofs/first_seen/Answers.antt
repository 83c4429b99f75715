-- `first_seen` meets its contract: a slot that was seen before is the first, and else the search goes on past it.
use Rattle.store_form.proofs.Keys.{topped_start, topped_turn}
use Rattle.store_code.proofs.Found.{at_place, nowhere_place}
use Rattle.store_form.proofs.Laws.{sub_none}
use Rattle.cells.proofs.Search.{search_hit, search_miss, search_end}
use Rattle.store_form.proofs.first_seen.Goals as goal

pub loop-slot-init : goal.loop-slot-init
loop-slot-init c = record { rest = sub_none _ _; topped = topped_start _ _ }

pub seen_before-requires-clause-topped : goal.seen_before-requires-clause-topped
seen_before-requires-clause-topped c = c.loop-slot.invariant.topped

pub returns-then-seen_before : goal.returns-then-seen_before
returns-then-seen_before c = at_place (search_hit _ _ _ c.loop-slot-test.true c.seen_before.ensures c.if-seen_before.true c.loop-slot.invariant.rest)

pub loop-slot-preserved : goal.loop-slot-preserved
loop-slot-preserved c = record {
  rest = search_miss _ _ _ c.loop-slot-test.true c.seen_before.ensures c.if-seen_before.false c.loop-slot.invariant.rest;
  topped = topped_turn _ _ _ _ c.loop-slot.invariant.topped c.top_of-top.ensures;
}

pub returns : goal.returns
returns c = nowhere_place (search_end _ _ _ c.loop-slot-test.false c.loop-slot.invariant.rest)
