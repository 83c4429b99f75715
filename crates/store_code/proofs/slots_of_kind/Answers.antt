-- `slots_of_kind` meets its contract: the kind's slots are among the desk's, so the sum fits.
use native.Mathlib.Omega.{arith}
use Rattle.store_code.proofs.Laws.{kind_small}
use Rattle.store_code.proofs.slots_of_kind.Goals as goal

pub overflow_add-result : goal.overflow_add-result
overflow_add-result c = let h = kind_small c.args.desk c.args.kind c.requires in omega arith
