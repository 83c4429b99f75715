-- `encode` meets its contract: the bytes of the three words are the bytes of the table.
use mathlib.Core.Path.{◌∙◌}
use Rattle.store_head.proofs.Laws.{bytes_encode}
use Rattle.store_head.proofs.encode.Goals as goal

pub returns : goal.returns
returns c =
    rw (c.copy_from_slice.ensures.after ∙ c.to_be_bytes.ensures)
    (rw (c.copy_from_slice-2.ensures.after ∙ c.to_be_bytes-2.ensures)
    (rw (c.copy_from_slice-3.ensures.after ∙ c.to_be_bytes-3.ensures)
    (bytes_encode _ c.requires c.first.ensures c.second.ensures c.third.ensures)))
