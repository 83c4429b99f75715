-- `link` meets its contract: the links from the last bearers that were sought.
use Rattle.load_translate.proofs.Links.{sought_linked}
use Rattle.load_translate.proofs.link.Goals as goal

pub returns : goal.returns
returns c =
    sought_linked _ _ _ _ _ _ c.requires.fitting.range.cues.1 c.seek.ensures c.link_all.ensures
