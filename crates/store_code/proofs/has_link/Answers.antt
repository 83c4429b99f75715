-- `has_link` meets its contract: a cue has them, and no other kind.
use mathlib.Core.Path.{sym, ap}
use Rattle.store.specs.Form.{has_link}
use Rattle.store_code.proofs.has_link.Goals as goal

pub returns-in-Cue : goal.returns-in-Cue
unfolding has_link
returns-in-Cue c = sym (ap has_link c.in-Cue.is)
