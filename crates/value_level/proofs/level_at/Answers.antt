-- `level_at` meets its contract: the two formats told apart by the first character, where there is one.
use Rattle.std.proofs.Common.{sym, ap, ◌∙◌, arith}
use Rattle.value_level.specs.Level.{is_hex_mark}
use Rattle.value_level.proofs.Spans.{level_hex_at, level_percent_at}
use Rattle.value_level.proofs.level_at.Goals as goal
use Rattle.value_level.proofs.level_at.Goals.{in_default-via-in-Some+else-hex_mark, in_default-via-in_default}

pub returns-in-Some : goal.returns-in-Some
returns-in-Some c =
    let first = c.in-Some.ensures.lookup.4 (omega arith) 0 in
    level_hex_at _ _ (sym (c.if-hex_mark.ensures ∙ ap is_hex_mark first)) c.hex_at.ensures

pub returns-in_default : goal.returns-in_default
returns-in_default c =
    elim c.in_default.branch [
      | in_default-via-in-Some+else-hex_mark w ↦
          let first = w.in-Some.ensures.lookup.4 (omega arith) 0 in
          level_percent_at _ _ (sym (w.if-hex_mark.ensures ∙ ap is_hex_mark first)) c.percent.ensures
      | in_default-via-in_default w ↦
          level_percent_at _ _ (sym (ap is_hex_mark (w.in_default.ensures.lookup.4 (omega arith) 0))) c.percent.ensures
    ]
