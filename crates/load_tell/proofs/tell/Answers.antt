-- `tell` meets its contract: four groups of faults, told one after the other, are all of the record's; of a record without ignored characters
-- the first two are empty.
use Rattle.load_tell.proofs.Telling.{tellable_from, tellable_if, groups_length, groups_fit, room_a, room_b, room_c, room_d, told_groups, if_told, unless_told, all_from}
use Rattle.load_tell.specs.declared.Count.{Count}
use Rattle.load_tell.specs.Count.{Told, told, told_all, faults_as, Fit, Tellable}
use Rattle.load.specs.declared.Fault.{Fault}
use Rattle.load.specs.declared.Outcome.{Outcome}
use Rattle.load.specs.Item.{blame_none}
use Rattle.load.specs.Step.{one_if, outcome_faults}
use Rattle.load.specs.Condition.{ignored_high, ignored_control}
use native.Mathlib.Omega.{arith}
use lib.ListN.{length}
use Prim.Native.Nat.{ℕ, ◌+◌}
use mathlib.Core.List.{List, ◌++◌}
use mathlib.Core.Bool.{Bool}
use mathlib.Core.Path.{◌≡◌, ◌∙◌}
use Rattle.load_tell.proofs.tell.Goals as goal

-- the first two groups of faults
abbrev highs : Bool → List Fault
highs high = one_if high (blame_none ignored_high)

abbrev controls : Bool → List Fault
controls control = one_if control (blame_none ignored_control)

-- there is room for all four, and each group fits
module _ (xs : List ℕ) (high control : Bool) (o : Outcome) (ws : List ℕ) where
  abbrev all : List Fault
  all = (highs high ++ controls control) ++ (outcome_faults o ++ faults_as ws)

  long : length all ≡ length (highs high) + length (controls control) + length (outcome_faults o) + length (faults_as ws)
  long = groups_length xs (highs high) (controls control) (outcome_faults o) (faults_as ws)

  module _ {m : Count} (t : Tellable m xs all) where
    fit : Fit xs (highs high) × Fit xs (controls control) × Fit xs (outcome_faults o) × Fit xs (faults_as ws)
    fit = groups_fit xs (highs high) (controls control) (outcome_faults o) (faults_as ws) t.fit

    module _ {n : Count} (e : n ≡ m) where
      room : Tellable n xs all
      room = tellable_from xs e t

      room_high : Tellable n xs (highs high)
      room_high = room_a xs room (omega (arith, long)) fit.0

      module _ (l : List ℕ) {l₁ : List ℕ} {n₁ : Count} (p : told n₁ l₁ ≡ told_all xs (told n l) (highs high)) where
        room_control : Tellable n₁ xs (controls control)
        room_control = room_b xs room l (highs high) p (omega (arith, long)) fit.1

        module _ {l₂ : List ℕ} {n₂ : Count} (q : told n₂ l₂ ≡ told_all xs (told n₁ l₁) (controls control)) where
          room_outcome : Tellable n₂ xs (outcome_faults o)
          room_outcome = room_c xs room l (highs high) (controls control) p q (omega (arith, long)) fit.2

          module _ {l₃ : List ℕ} {n₃ : Count} (r : told n₃ l₃ ≡ told_all xs (told n₂ l₂) (outcome_faults o)) where
            room_drops : Tellable n₃ xs (faults_as ws)
            room_drops = room_d xs room l (highs high) (controls control) p q (outcome_faults o) r (omega (arith, long)) fit.3

            all_told : {x : Told} → x ≡ told_all xs (told n₃ l₃) (faults_as ws) → x ≡ told_all xs (told m l) all
            all_told s = all_from xs l all (told_groups xs n (highs high) (controls control) (outcome_faults o) (faults_as ws) l p q r s) e

pub report_if-c-requires : goal.report_if-c-requires
report_if-c-requires c =
    let a = c.args in
    let p = c.report_if-b.ensures ∙ if_told a.received.now _ a.high ignored_high in
    tellable_if _ (room_control a.received.now a.high a.control a.outcome a.faults.now c.requires.tellable c.tally-a.ensures _ p)

pub report_outcome-d-requires-clause-tellable : goal.report_outcome-d-requires-clause-tellable
report_outcome-d-requires-clause-tellable c =
    let a = c.args in
    let p = c.report_if-b.ensures ∙ if_told a.received.now _ a.high ignored_high in
    let q = c.report_if-c.ensures ∙ if_told a.received.now _ a.control ignored_control in
    room_outcome a.received.now a.high a.control a.outcome a.faults.now c.requires.tellable c.tally-a.ensures _ p q

pub report_faults-requires-clause-tellable : goal.report_faults-requires-clause-tellable
report_faults-requires-clause-tellable c =
    let a = c.args in
    let p = c.report_if-b.ensures ∙ if_told a.received.now _ a.high ignored_high in
    let q = c.report_if-c.ensures ∙ if_told a.received.now _ a.control ignored_control in
    room_drops a.received.now a.high a.control a.outcome a.faults.now c.requires.tellable c.tally-a.ensures _ p q c.report_outcome-d.ensures

pub returns-then-control : goal.returns-then-control
returns-then-control c =
    let a = c.args in
    let p = c.report_if-b.ensures ∙ if_told a.received.now _ a.high ignored_high in
    let q = c.report_if-c.ensures ∙ if_told a.received.now _ a.control ignored_control in
    all_told a.received.now a.high a.control a.outcome a.faults.now c.requires.tellable c.tally-a.ensures _ p q c.report_outcome-d.ensures c.report_faults.ensures

pub report_outcome-d-requires-else-control-clause-tellable : goal.report_outcome-d-requires-else-control-clause-tellable
report_outcome-d-requires-else-control-clause-tellable c =
    let a = c.args in
    let x = told c.tally-a.result a.reports.now in
    let p = unless_told a.received.now x a.high (blame_none ignored_high) c.if-control.false.0 in
    let q = unless_told a.received.now x a.control (blame_none ignored_control) c.if-control.false.1 in
    room_outcome a.received.now a.high a.control a.outcome a.faults.now c.requires.tellable c.tally-a.ensures _ p q

pub report_faults-requires-else-control-clause-tellable : goal.report_faults-requires-else-control-clause-tellable
report_faults-requires-else-control-clause-tellable c =
    let a = c.args in
    let x = told c.tally-a.result a.reports.now in
    let p = unless_told a.received.now x a.high (blame_none ignored_high) c.if-control.false.0 in
    let q = unless_told a.received.now x a.control (blame_none ignored_control) c.if-control.false.1 in
    room_drops a.received.now a.high a.control a.outcome a.faults.now c.requires.tellable c.tally-a.ensures _ p q c.report_outcome-d-else-control.ensures

pub returns-else-control : goal.returns-else-control
returns-else-control c =
    let a = c.args in
    let x = told c.tally-a.result a.reports.now in
    let p = unless_told a.received.now x a.high (blame_none ignored_high) c.if-control.false.0 in
    let q = unless_told a.received.now x a.control (blame_none ignored_control) c.if-control.false.1 in
    all_told a.received.now a.high a.control a.outcome a.faults.now c.requires.tellable c.tally-a.ensures _ p q c.report_outcome-d-else-control.ensures c.report_faults-else-control.ensures
