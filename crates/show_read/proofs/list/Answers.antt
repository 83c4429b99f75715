-- `list` meets its contract: the kind that the number names is listed, or there is none.
use Rattle.std.specs.Prelude.{None, Some, ◌≡◌}
use native.Mathlib.Omega.{arith}
use Rattle.store_desk.specs.Name.{kind_by}
use Rattle.show_read.proofs.Laws.{list_kind, list_no_kind}
use Rattle.show_read.proofs.list.Goals as goal

pub returns-in-Ok : goal.returns-in-Ok
returns-in-Ok c =
    let named : kind_by c.args.kind ≡ Some c.in-Ok.kind = grind arith in
    list_kind _ _ _ _ named c.memory_slots.ensures

pub returns-in-Err : goal.returns-in-Err
returns-in-Err c =
    let named : kind_by c.args.kind ≡ None = grind arith in
    list_no_kind _ _ _ _ named
