-- `note_all` meets its contract: a turn notes one number more, and at the end none is left.
use Rattle.std.proofs.Common.{rules}
use Rattle.cells.proofs.Noted.{noting_turn, noting_end}
use Rattle.cells.proofs.note_all.Goals as goal

pub loop-i-preserved : goal.loop-i-preserved
loop-i-preserved c = noting_turn c.loop-i.invariant c.loop-i-test.true (search rules) c.note.ensures

pub returns : goal.returns
returns c = noting_end c.loop-i.invariant c.loop-i-test.false
