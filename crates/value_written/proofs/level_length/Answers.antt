-- `level_length` meets its contract.
use mathlib.Core.Path.{sym}
use Rattle.value_written.proofs.Texts.{level_length}
use Rattle.value_written.proofs.level_length.Goals as goal

pub returns : goal.returns
returns c = sym (level_length _)
