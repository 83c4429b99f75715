-- `hex_at` meets its contract: the digits as they were read.
use Rattle.value_level.proofs.Spans.{hex_after, hex_fits, hex_leveling_lem}
use Rattle.value_level.proofs.hex_at.Goals as goal

pub overflow_sub-end : goal.overflow_sub-end
overflow_sub-end c = hex_after _ _ _ c.hex_at-value.ensures

pub hexadecimal-requires : goal.hexadecimal-requires
hexadecimal-requires c = hex_fits _ _ _ c.hex_at-value.ensures

pub returns : goal.returns
returns c = hex_leveling_lem _ _ _ c.hex_at-value.ensures c.hexadecimal.ensures
