-- `link_all` meets its contract: the slots that are left are linked as they are from the start.
use Rattle.load_translate.proofs.Links.{loop_start, loop_room, loop_turn, loop_end}
use native.Mathlib.Omega.{arith}
use Prim.Native.Nat.{ℕ, ◌≤◌, ◌<◌}
use mathlib.Core.Path.{◌≡◌, refl, ◌∙◌}
use Rattle.load_translate.proofs.link_all.Goals as goal

-- the code's number of cues is the desk's
below : {i n m : ℕ} → i < n → n ≡ m → i < m
below h e = omega arith

over : {i n m : ℕ} → n ≤ i → n ≡ m → m ≤ i
over h e = omega arith

pub loop-slot-init : goal.loop-slot-init
loop-slot-init c =
    (refl, refl, refl, loop_start _ _ _ c.requires.fitting c.requires.losing)

pub bounds-asked-slot : goal.bounds-asked-slot
bounds-asked-slot c =
    let l = c.loop-slot in
    let r = l.invariant.3.fitting.range.cues in
    let p = c.requires.asked_len in
    omega (arith, c.loop-slot-test.true, l.invariant.0)

pub bounds-found-slot : goal.bounds-found-slot
bounds-found-slot c =
    let l = c.loop-slot in
    let r = l.invariant.3.fitting.range.cues in
    let p = c.requires.found_len in
    omega (arith, c.loop-slot-test.true, l.invariant.0)

pub link_slot-n-requires : goal.link_slot-n-requires
link_slot-n-requires c =
    let w = c.loop-slot.invariant in
    let h = below c.loop-slot-test.true w.0 in
    record { fitting = w.3.fitting; slot_lt_cues = h; reportable = loop_room w.3 h }

pub loop-slot-preserved : goal.loop-slot-preserved
loop-slot-preserved c =
    let w = c.loop-slot.invariant in
    let a = c.link_slot-n.auto in
    (w.0, a.store ∙ w.1, a.reports ∙ w.2, loop_turn w.3 (below c.loop-slot-test.true w.0) refl refl c.link_slot-n.ensures a.store)

pub returns : goal.returns
returns c = let w = c.loop-slot.invariant in loop_end w.3 (over c.loop-slot-test.false w.0)
