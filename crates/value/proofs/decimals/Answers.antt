-- `decimals` meets its contract, case by case.
use mathlib.Core.Path.{sym}
use Rattle.value.proofs.Cuts.{decimals_none, decimals_many_is, decimals_few_is}
use Rattle.value.proofs.decimals.Goals as goal

pub returns-then-s-at : goal.returns-then-s-at
returns-then-s-at c = sym (decimals_none _ _ _ c.if-s-at.true)

pub returns-then-most-rest : goal.returns-then-most-rest
returns-then-most-rest c =
    decimals_many_is _ c.args.s.now c.args.at
    c.if-s-at.false c.if-most-rest.true

pub returns : goal.returns
returns c =
    decimals_few_is c.args.most c.args.s.now
    c.args.at c.if-s-at.false c.if-most-rest.false
    c.read_integer.ensures
