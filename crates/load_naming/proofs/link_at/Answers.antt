-- `link_at` meets its contract: a number, or none.
use Rattle.std.proofs.lemmas.Result.{err_from_is_err_and}
use Rattle.load_naming.proofs.Fields.{field_in}
use Rattle.load_naming.proofs.Times.{link_wrong, link_good}
use Rattle.load_naming.proofs.link_at.Goals as goal

pub cue_number-requires : goal.cue_number-requires
cue_number-requires c = field_in c.requires c.field_at.ensures

pub returns-in_err-n : goal.returns-in_err-n
returns-in_err-n c =
    let p = err_from_is_err_and c.from_residual.result c.from_residual.ensures.1 in rw (p.1, p.2)
    (link_wrong c.requires c.field_at.ensures c.cue_number.ensures c.in_err-n.was)

pub returns : goal.returns
returns c = link_good c.requires c.field_at.ensures c.cue_number.ensures c.in_ok-n.was
