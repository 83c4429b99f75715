-- `records::last_window` meets its contract: the copy stands in front of the zeros.
use Rattle.text_records.proofs.Received.{copied_all}
use Rattle.text_records.proofs.last_window.Goals as goal

pub returns : goal.returns
returns c = copied_all _ _ c.requires c.copy.ensures
