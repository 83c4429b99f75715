-- `clear_kind` meets its contract: a turn clears the next slot, and once none is left the whole clearing is done.
use native.Mathlib.Omega.{arith}
use mathlib.Core.Path.{◌≡◌, ap, ◌∙◌}
use Prim.Native.Nat.{ℕ, ◌+◌, ◌-◌}
use Rattle.std.specs.declared.ops.Range.{Range}
use Rattle.store_desk.proofs.Name.{kind_end}
use Rattle.store.specs.Change.{clear_from}
use Rattle.store_code.proofs.Laws.{fitting_kept, clear_turn, clear_done, clear_all}
use Rattle.store_code.proofs.clear_kind.Goals as goal

pub clear_slot-requires : goal.clear_slot-requires
clear_slot-requires c =
    let i = c.loop-slot.invariant in
    let l = kind_end c.args.desk c.args.kind in
    record {
      fitting = fitting_kept _ _ _ i.long c.requires.fitting;
      slot_bound =
          let e = i.last ∙ ap (λ (r : Range ℕ). r.end) c.into_iter-slot-iterator.ensures.into_iter_gives ∙ c.slots_of_kind-slot-items.ensures.end in
          omega (arith, c.in-Some.ensures.steps);
      page_lt_page_span = c.requires.page_lt_page_span;
    }

pub loop-slot-preserved : goal.loop-slot-preserved
loop-slot-preserved c =
    let i = c.loop-slot.invariant in
    let s = c.in-Some.ensures.steps in
    let slot = c.in-Some.slot in
    let end = c.loop-slot.slot-iterator.end in
    let next = c.next.new.self in
    let t = c.clear_slot.new.store in
    let from = clear_from c.args.desk c.args.page in
    let e : next.start ≡ slot + 1 = omega arith in
    record {
      long = c.clear_slot.auto.store ∙ i.long;
      last = s.0 ∙ i.last;
      rest =
          ap (λ (n : ℕ). from (next.end - n) n t) e
          ∙ ap (λ (n : ℕ). from (n - (slot + 1)) (slot + 1) t) s.0
          ∙ clear_turn _ _ _ _ _ _ _ (omega arith) c.clear_slot.ensures (ap (λ (n : ℕ). from (end - n) n c.loop-slot.store) s.1.1 ∙ i.rest);
    }

pub returns : goal.returns
returns c =
    let i = c.loop-slot.invariant in
    let g = c.into_iter-slot-iterator.ensures.into_iter_gives in
    clear_all _ _ c.args.kind _
    (ap (λ (r : Range ℕ). r.start) g ∙ c.slots_of_kind-slot-items.ensures.start)
    (ap (λ (r : Range ℕ). r.end) g ∙ c.slots_of_kind-slot-items.ensures.end)
    (clear_done _ _ _ _ _ _ (omega (arith, c.in-None.ensures.steps)) i.rest)
