-- `settled` meets its contract, by what was open and whether the store keeps it.
use Rattle.std.proofs.Common.{inl, inr}
use Rattle.load_held.proofs.Holding.{settle_nothing, settle_skipping, settle_found, settle_gone}
use Rattle.load_held.proofs.settled.Goals as goal

pub returns-in-Nothing : goal.returns-in-Nothing
returns-in-Nothing c = elim c.in-Nothing.is [ inl e ↦ settle_nothing _ _ _ e | inr e ↦ settle_skipping _ _ _ e ]

pub returns-in-Some : goal.returns-in-Some
returns-in-Some c = settle_found _ _ _ c.in-Memory.is c.find.ensures c.in-Some.is

pub returns-in-None : goal.returns-in-None
returns-in-None c = settle_gone _ _ _ c.in-Memory.is c.find.ensures c.in-None.is c.resting.ensures
