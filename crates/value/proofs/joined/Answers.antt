-- `joined` meets its contract: the sum stays far below 32 bits.
use mathlib.Core.Path.{subst}
use native.Mathlib.Omega.{arith}
use Rattle.std.proofs.Common.{rules}
use Rattle.value.specs.Integer.{cap, AtMost}
use Rattle.value.specs.Time.{join_of}
use Rattle.value.proofs.Times.{joined_fits}
use Rattle.value.proofs.joined.Goals as goal

pub returns-in_err-high : goal.returns-in_err-high
unfolding join_of
returns-in_err-high c = search rules

pub returns-in_err-low : goal.returns-in_err-low
unfolding join_of
returns-in_err-low c = search rules

pub overflow_mul-result : goal.overflow_mul-result
overflow_mul-result c =
    let h = joined_fits {l = 0} (subst (AtMost 10000000) c.in_ok-high.was c.requires.high_bound) c.requires.base_bound (omega arith) in
    omega arith

pub overflow_add-result : goal.overflow_add-result
overflow_add-result c =
    omega
    (arith, joined_fits (subst (AtMost 10000000) c.in_ok-high.was c.requires.high_bound) c.requires.base_bound (subst (AtMost cap) c.in_ok-low.was c.requires.low_capped))

pub returns : goal.returns
unfolding join_of
returns c = search rules
