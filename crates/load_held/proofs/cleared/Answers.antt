-- `cleared` meets its contract.
use Rattle.load_held.proofs.Answers.{ended_as_lem}
use Rattle.load_held.proofs.cleared.Goals as goal

pub returns : goal.returns
returns c = ended_as_lem _ _ _ _ c.ended.ensures c.settled.ensures
