-- `digit_run` meets its contract. The invariant: the digits from here on, behind the value so far, are those from `at` on.
-- What is read and what is added is taken by arithmetic, so that a program which reads or adds something else is refused for its value.
use mathlib.Core.Path.{◌≡◌, ap, subst, ◌∙◌}
use Prim.Native.Nat.{ℕ, ◌+◌, ◌*◌, ◌<◌}
use lib.ListN.{get_or}
use Rattle.std.proofs.Common.{arith, min}
use Rattle.value.specs.Integer.{digit_of, cap}
use Rattle.value.proofs.Runs.{walk_start, walk_turn, walk_stop, walk_end}
use Rattle.value.proofs.digit_run.Goals as goal

pub loop-i-init : goal.loop-i-init
loop-i-init g c = (omega arith, walk_start _ _ _)

pub returns-in_default : goal.returns-in_default
returns-in_default g c =
    walk_stop _ _ _ _ c.loop-i-test.true
    (λ l. c.in_default.ensures (subst (λ (z : ℕ). digit_of z < g.row.RADIX) (let read : get_or c.args.text.now c.loop-i.i 0 ≡ _ = omega arith in read) l))
    c.loop-i.invariant.0 c.loop-i.invariant.1

pub loop-i-preserved : goal.loop-i-preserved
loop-i-preserved g c =
    let counts = c.in-Some.ensures in
    let below : digit_of (get_or c.args.text.now c.loop-i.i 0) < g.row.RADIX = subst (λ (z : ℕ). digit_of z < g.row.RADIX) (let read : _ ≡ get_or c.args.text.now c.loop-i.i 0 = omega arith in read) counts.0 in
    let told : c.in-Some.d ≡ digit_of (get_or c.args.text.now c.loop-i.i 0) = counts.1 ∙ ap digit_of (let read : _ ≡ get_or c.args.text.now c.loop-i.i 0 = omega arith in read) in
    let grows = c.grown-value.ensures ∙ ap (λ (z : ℕ). min (c.loop-i.value * g.row.RADIX + z) cap) (let added : _ ≡ c.in-Some.d = omega arith in added) in
    (omega arith, walk_turn _ _ _ _ _ _ c.requires.radix_nonzero c.loop-i-test.true below told grows c.loop-i.invariant.1)

pub returns : goal.returns
returns g c = walk_end _ _ _ _ (omega arith) c.loop-i.invariant.0 c.loop-i.invariant.1
