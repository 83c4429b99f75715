-- `digit` meets its contract: the constant is the rule's table, computed once, and the rule holds at each place of it.
use Rattle.std.proofs.Common.{◌≡◌, ℕ, ◌<◌, ltb, get_or, Option, SomeIff, ap, ◌∙◌, arith}
use Rattle.std.specs.Bool.{then_some}
use Rattle.cells.specs.Table.{tab}
use Rattle.cells.proofs.Table.{tab_at}
use Rattle.value.specs.Integer.{digit_of}
use Rattle.value.proofs.digit.Goals as goal

then_counts : {o : Option ℕ} {d e : ℕ} (r : ℕ) → o ≡ then_some (ltb d r) d → d ≡ e → SomeIff o (e < r) e
then_counts r p q = grind arith

pub returns : goal.returns
unfolding tab digit_of
returns c =
    then_counts _ c.then_some.ensures
    (c.from-d.ensures ∙ ap (λ (i : ℕ). get_or (tab digit_of 0 256) i 0) c.from.ensures ∙ tab_at digit_of 256 c.args.c 0 (omega arith))
