-- `cut` meets its contract: the place of the first, or the length where there is none.
use Rattle.std.proofs.Common.{ℕ, Option, length, eqb, rules, tests, ◌∙◌, ap}
use Rattle.std.specs.Option.{unwrap_or}
use Rattle.std.proofs.lemmas.Iterator.{YieldsList-from_slice}
use Rattle.std.proofs.lemmas.Iterator.Search.{position_from_yields_List}
use Rattle.value.proofs.Cuts.{cut_position}
use Rattle.value.proofs.cut.Goals as goal

pub returns : goal.returns
returns c =
    let p = position_from_yields_List (λ x. eqb x c.args.b) _ _ c.position.result c.position.ensures.ran (YieldsList-from_slice c.args.s.now cc) (λ x b q k. search (rules, tests)) in
    c.unwrap_or.ensures ∙ ap (λ (o : Option ℕ). unwrap_or o (length c.args.s.now)) p ∙ cut_position c.args.b c.args.s.now
