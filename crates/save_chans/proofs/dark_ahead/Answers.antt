-- `dark_ahead` meets its contract: `position` counts the levels ahead of the first that is not zero.
use Rattle.std.proofs.Common.{rules, tests}
use Rattle.std.proofs.lemmas.Iterator.{YieldsList-from_slice}
use Rattle.std.proofs.lemmas.Iterator.Search.{position_from_yields_List}
use Rattle.save_chans.proofs.Dark.{is_lit, found_lit}
use Rattle.save_chans.proofs.dark_ahead.Goals as goal

pub returns : goal.returns
returns c =
    found_lit _
    (position_from_yields_List is_lit _ _ _ c.position.ensures.ran (YieldsList-from_slice c.args.levels.now cc) (λ x b q k. search (rules, tests)))
    c.unwrap_or.ensures
