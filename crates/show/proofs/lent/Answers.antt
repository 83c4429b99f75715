-- `lent` meets its contract: each test that fails is the case of `lent_admission` that names its refusal.
use mathlib.Core.Path.{ap}
use mathlib.Core.Bool.{not}
use Rattle.show.proofs.Laws.{away_range, ranged, away_short, fitting, fits_lent}
use Rattle.show.proofs.lent.Goals as goal

pub returns-then-not-in_range : goal.returns-then-not-in_range
returns-then-not-in_range c = away_range _ _ c.in_range.ensures (ap not c.if-not-in_range.true)

pub store_length-requires : goal.store_length-requires
store_length-requires c = ranged _ c.in_range.ensures (ap not c.if-not-in_range.false)

pub returns-then-store-store_length : goal.returns-then-store-store_length
returns-then-store-store_length c = away_short _ _ (ranged _ c.in_range.ensures (ap not c.if-not-in_range.false)) c.store_length.ensures c.if-store-store_length.true

pub returns : goal.returns
returns c = fits_lent _ _ (fitting _ _ (ranged _ c.in_range.ensures (ap not c.if-not-in_range.false)) c.store_length.ensures c.if-store-store_length.false)
