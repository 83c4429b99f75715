-- `versioned` meets its contract: each `?` is a case of the definition.
use Rattle.std.proofs.Common.{rules}
use Rattle.value.specs.Field.{versioned_of}
use Rattle.value.proofs.versioned.Goals as goal

pub returns-in_err-major : goal.returns-in_err-major
unfolding versioned_of
returns-in_err-major c = search rules

pub returns-in_err-minor : goal.returns-in_err-minor
unfolding versioned_of
returns-in_err-minor c = search rules

pub returns : goal.returns
unfolding versioned_of
returns c = search rules
