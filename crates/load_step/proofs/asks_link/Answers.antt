-- `asks_link` meets its contract, by what is open.
use Rattle.std.proofs.Common.{inl, inr}
use Rattle.load_step.proofs.Secondaries.{link_nothing, link_skipping, link_none, link_cue}
use Rattle.load_step.proofs.asks_link.Goals as goal

pub returns-then-has_link : goal.returns-then-has_link
returns-then-has_link c = link_cue c.args.e c.in-Memory.is c.has_link.ensures c.if-has_link.true c.is_link.ensures

pub returns-else-has_link : goal.returns-else-has_link
returns-else-has_link c = link_none c.args.e c.in-Memory.is c.has_link.ensures c.if-has_link.false

pub returns-in-Nothing : goal.returns-in-Nothing
returns-in-Nothing c = elim c.in-Nothing.is [ inl e ↦ link_nothing c.args.e e | inr e ↦ link_skipping c.args.e e ]
