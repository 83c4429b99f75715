-- `chan` meets its contract.
use Rattle.load_held.proofs.Holding.{open_slot}
use Rattle.load_step.proofs.Secondaries.{chan_did}
use Rattle.load_step.proofs.chan.Goals as goal

pub take_pairs-faults-requires : goal.take_pairs-faults-requires
take_pairs-faults-requires c = record { fitting = c.requires.fitting; within = c.requires.line.within; short = c.requires.line.short; aimed = open_slot _ _ c.requires.held_ready c.requires.fact; room = c.requires.room }

pub returns : goal.returns
returns c = chan_did _ _ c.requires.held_ready c.requires.fact c.requires.fitting _ _ c.take_pairs-faults.ensures
