-- `take_items` meets its contract: the faults so far with those from here on are those from the start on, and what is done likewise (`Going`).
-- The measure is what is left of the text.
use Rattle.store_code.proofs.Laws.{fitting_kept}
use Rattle.load_items.proofs.Laws.{item_fits, item_noted, item_ended, item_forward, next_less, loop_start, loop_room, loop_turn, loop_end}
use native.Mathlib.Omega.{arith}
use Rattle.load_items.proofs.take_items.Goals as goal

pub loop-i-init : goal.loop-i-init
loop-i-init c = loop_start _ _ _ _ _ _ _ c.requires.items_ready.room c.requires.items_ready.within c.requires.items_ready.short c.requires.starting

pub item_at-item-requires : goal.item_at-item-requires
item_at-item-requires c = record { within = c.loop-i.invariant.within; short = c.requires.items_ready.short; starts = c.loop-i.invariant.starts }

pub apply-requires : goal.apply-requires
apply-requires c =
    let p = c.requires.items_ready in
    record { fitting = fitting_kept _ _ _ c.loop-i.invariant.long p.fitting; aim_fits = p.aimed; entry_fits = item_fits _ _ _ _ c.item_at-item.ensures }

pub note-n-requires : goal.note-n-requires
note-n-requires c =
    let p = c.requires.items_ready in
    record { n_in_bounds = loop_room _ _ _ _ _ _ _ p.room c.loop-i.invariant c.loop-i-test.true; place_fits = item_noted _ _ _ _ c.item_at-item.ensures p.short }

pub next_field-i-requires : goal.next_field-i-requires
next_field-i-requires c = item_ended _ _ _ _ c.item_at-item.ensures c.loop-i.invariant.within

pub loop-i-smaller : goal.loop-i-smaller
loop-i-smaller c =
    let h = c.loop-i-test.true in
    omega (arith, h, next_less _ _ c.next_field-i.ensures (item_forward _ _ _ _ c.item_at-item.ensures c.loop-i.invariant.starts h) h)

pub loop-i-preserved : goal.loop-i-preserved
loop-i-preserved c = loop_turn _ _ _ _ _ _ _ c.requires.items_ready.room c.loop-i.invariant c.loop-i-test.true c.item_at-item.ensures c.apply.ensures c.apply.auto.store c.note-n.ensures c.next_field-i.ensures

pub returns : goal.returns
returns c = loop_end _ _ _ _ _ _ _ c.requires.items_ready.room c.loop-i.invariant c.loop-i-test.false
