-- `next_lit` meets its contract. The invariant: the dark channels from here on end where those from the start do. The measure is what is left.
use mathlib.Core.Path.{ap}
use native.Mathlib.Omega.{arith}
use Rattle.std.proofs.lemmas.List.{take_rest}
use Rattle.cells.specs.Scan.{span}
use Rattle.cells.proofs.Scan.{span_within}
use Rattle.save_chans.specs.Chan.{is_dark}
use Rattle.save_chans.proofs.Dark.{eight_turn, eight_stop}
use Rattle.save_chans.proofs.next_lit.Goals as goal

pub returns-then-dark-lt8 : goal.returns-then-dark-lt8
returns-then-dark-lt8 c = eight_stop c.args.levels.now c.loop-eight.i c.in-Some.ensures.cases c.dark_of_eight-dark.ensures c.if-dark-lt8.true c.loop-eight.invariant.1

pub loop-eight-preserved : goal.loop-eight-preserved
loop-eight-preserved c = eight_turn c.args.levels.now c.loop-eight.i c.in-Some.ensures.cases c.dark_of_eight-dark.ensures c.if-dark-lt8.false c.loop-eight.invariant.1

pub overflow_add-result-2 : goal.overflow_add-result-2
overflow_add-result-2 c =
    let w = span_within is_dark c.args.levels.now c.loop-eight.i c.loop-eight.invariant.0 in
    let e = ap (span is_dark) (take_rest c.args.levels.now c.loop-eight.i) in
    omega arith
