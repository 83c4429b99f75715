-- `store_word` meets its contract: past the end of a list nothing is set.
use lib.Seq.{set_out}
use mathlib.Core.Path.{sym}
use Rattle.load_tell.proofs.store_word.Goals as goal

pub returns-else-at-reports : goal.returns-else-at-reports
returns-else-at-reports c = sym (set_out c.args.reports.now c.args.at c.args.word c.if-at-reports.false)
