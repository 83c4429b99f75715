-- `obeyed` meets its contract: items, or a change.
use Rattle.load_step.proofs.Secondaries.{times_fit, obeyed_chan, obeyed_change}
use Rattle.load_step.proofs.obeyed.Goals as goal

pub returns-then-has_items : goal.returns-then-has_items
returns-then-has_items c = obeyed_chan _ _ _ _ _ _ _ c.has_items.ensures c.if-has_items.true c.chan.ensures

pub changed-requires : goal.changed-requires
changed-requires c = record { fitting = c.requires.fitting; held_ready = c.requires.held_ready; fact = c.requires.fact; reading_fits = times_fit _ _ _ c.change_at.ensures }

pub returns : goal.returns
returns c = obeyed_change _ _ _ _ _ _ _ c.has_items.ensures c.if-has_items.false c.change_at.ensures c.changed.ensures
