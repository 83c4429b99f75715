-- `borne` meets its contract, case by case.
use mathlib.Core.Path.{sym, subst}
use native.Mathlib.Omega.{arith}
use Rattle.value.specs.Integer.{cap, AtMost}
use Rattle.value.proofs.Numbers.{borne_whole, borne_fraction, borne_large, borne_good}
use Rattle.value.proofs.borne.Goals as goal

pub returns-in_default-2 : goal.returns-in_default-2
returns-in_default-2 c = sym (borne_whole _ c.in_default.is-0)

pub returns-in_default : goal.returns-in_default
returns-in_default c = sym (borne_fraction c.in_default.is-0 c.in_default.is-1)

pub returns-then-w-gt-BORNE_MAX : goal.returns-then-w-gt-BORNE_MAX
returns-then-w-gt-BORNE_MAX c = sym (borne_large c.in-Some-Some.is-0 c.in-Some-Some.is-1 c.if-w-gt-BORNE_MAX.true)

pub overflow_add-result : goal.overflow_add-result
overflow_add-result c =
    omega
    (arith, subst (AtMost cap) c.in-Some-Some.is-1 c.requires)

pub returns : goal.returns
returns c =
    sym
    (borne_good c.in-Some-Some.is-0 c.in-Some-Some.is-1 c.if-w-gt-BORNE_MAX.false)
