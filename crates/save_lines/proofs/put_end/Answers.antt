-- `put_end` meets its contract: CR and LF are the text.
use Rattle.save_lines.proofs.put_end.Goals as goal

pub put_text-requires : goal.put_text-requires
put_text-requires c = c.requires

pub returns : goal.returns
returns c = c.put_text.ensures
