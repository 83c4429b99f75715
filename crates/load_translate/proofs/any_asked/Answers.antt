-- `any_asked` meets its contract: the chain is the definition.
use Rattle.std.proofs.Common.{ℕ, eqb, not, ◌∙◌, rules, tests}
use Rattle.std.proofs.lemmas.Iterator.{YieldsList-from_slice}
use Rattle.std.proofs.lemmas.Iterator.Search.{any_from_yields_List}
use Rattle.load_translate.proofs.Bearers.{any_is}
use Rattle.load_translate.proofs.any_asked.Goals as goal

pub returns : goal.returns
returns c =
    let xs = c.args.asked.now in
    any_from_yields_List (λ (a : ℕ). not (eqb a 0)) _ _ _ c.any.ensures.ran (YieldsList-from_slice xs cc) (λ x b q k. search (rules, tests))
    ∙ any_is xs
