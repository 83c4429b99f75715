-- `sized` meets its contract, case by case.
use mathlib.Core.Path.{sym, subst}
use native.Mathlib.Omega.{arith}
use Rattle.value.specs.Integer.{cap, AtMost}
use Rattle.value.proofs.Numbers.{whole_malformed, fraction_malformed, whole_large, number_zero, number_good}
use Rattle.value.proofs.sized.Goals as goal

pub returns-in_default-2 : goal.returns-in_default-2
returns-in_default-2 c = sym (whole_malformed _ c.in_default.is-0)

pub returns-in_default : goal.returns-in_default
returns-in_default c = sym (fraction_malformed c.in_default.is-0 c.in_default.is-1)

pub returns-then-w-gt-WHOLE_MAX : goal.returns-then-w-gt-WHOLE_MAX
returns-then-w-gt-WHOLE_MAX c = sym (whole_large c.in-Some-Some.is-0 c.in-Some-Some.is-1 c.if-w-gt-WHOLE_MAX.true)

pub overflow_add-w : goal.overflow_add-w
overflow_add-w c =
    omega
    (arith, subst (AtMost cap) c.in-Some-Some.is-1 c.requires.fraction_capped)

pub returns-then-w-f-eq0 : goal.returns-then-w-f-eq0
returns-then-w-f-eq0 c =
    sym
    (number_zero c.in-Some-Some.is-0 c.in-Some-Some.is-1 c.if-w-gt-WHOLE_MAX.false c.if-w-f-eq0.true)

pub returns : goal.returns
returns c =
    sym
    (number_good c.in-Some-Some.is-0 c.in-Some-Some.is-1 c.if-w-gt-WHOLE_MAX.false c.if-w-f-eq0.false)
