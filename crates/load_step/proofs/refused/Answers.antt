-- `refused` meets its contract.
use mathlib.Core.Path.{◌∙◌, ap}
use Rattle.load.specs.declared.Outcome.TheVariants.{Dropped}
use Rattle.load_held.specs.declared.Held.{Held}
use Rattle.load_held.specs.Parts.{ended_as}
use Rattle.load_step.proofs.refused.Goals as goal

pub returns : goal.returns
returns c = c.ended.ensures ∙ ap (λ (h : Held). ended_as h (Dropped c.args.fault)) c.resting.ensures
