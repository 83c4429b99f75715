-- `run` meets its contract. The invariant: the digits from here on, behind the value so far, are the whole run.
use Rattle.std.proofs.Common.{sym, ◌∙◌, arith}
use borrow.Author.Tests.{eqb-true, eqb-false}
use Rattle.value.proofs.Digits.{run_empty, run_start, run_turn, run_stop, run_end}
use Rattle.value.proofs.run.Goals as goal

pub returns-then-is_empty : goal.returns-then-is_empty
returns-then-is_empty c = sym (run_empty _ _ (eqb-true _ _ (sym c.if-is_empty.ensures)))

pub loop-c-init : goal.loop-c-init
loop-c-init c = (omega arith, run_start _ _ (eqb-false _ _ (sym c.if-is_empty.ensures)))

pub returns-in_err-digit : goal.returns-in_err-digit
returns-in_err-digit c = c.from_residual.ensures ∙ sym (c.loop-c.invariant.1 ∙ run_stop _ _ _ _ c.loop-c-test.true c.in_err-digit.ensures)

pub loop-c-preserved : goal.loop-c-preserved
loop-c-preserved c =
    let counts = c.in_ok-digit.ensures in
    (omega arith, c.loop-c.invariant.1 ∙ run_turn _ _ _ _ _ _ c.requires.radix_nonzero c.loop-c-test.true counts.0 counts.1 c.grown-value.ensures)

pub returns : goal.returns
returns c = sym (c.loop-c.invariant.1 ∙ run_end _ _ _ _ c.loop-c-test.false c.loop-c.invariant.0)
