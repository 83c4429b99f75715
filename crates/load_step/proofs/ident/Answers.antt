-- `ident` meets its contract: the version that is read, another one, and none.
use Rattle.std.proofs.Common.{ap}
use Rattle.load.specs.declared.Outcome.TheVariants.{Stopped}
use Rattle.load_step.proofs.Basics.{ident_none, ident_major, ident_minor, ident_three}
use Rattle.load_step.proofs.ident.Goals as goal
use Rattle.load_step.proofs.ident.Goals.{in_default-via-in-Some+then-v-eq-MAJOR+else-v-eq-MINOR, in_default-via-in-Some+else-v-eq-MAJOR, in_default-via-in_default}

pub returns-in-Some : goal.returns-in-Some
returns-in-Some c = ident_three _ c.version_at.ensures c.in-Some.is c.if-v-eq-MAJOR.true c.if-v-eq-MINOR.true

pub returns-in_default : goal.returns-in_default
returns-in_default c =
    let v = c.version_at.ensures in
    let s = ap Stopped c.blamed_at.ensures in
    elim c.in_default.branch [
      | in_default-via-in-Some+then-v-eq-MAJOR+else-v-eq-MINOR w ↦ ident_minor _ v w.in-Some.is w.if-v-eq-MINOR.false s
      | in_default-via-in-Some+else-v-eq-MAJOR w ↦ ident_major _ v w.in-Some.is w.if-v-eq-MAJOR.false s
      | in_default-via-in_default w ↦ ident_none _ v w.in_default.not-Some s
    ]
