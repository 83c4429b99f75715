-- `channel_length` meets its contract: the parts' lengths.
use mathlib.Core.Path.{ap}
use lib.ListN.{length}
use Rattle.save_chans.proofs.Channels.{lit_level, channel-length_some}
use Rattle.save_chans.proofs.channel_length.Goals as goal

pub returns : goal.returns
returns c = channel-length_some _ _ _ (ap length c.lead.ensures) c.integer_length.ensures c.level_length.ensures (lit_level c.requires)
