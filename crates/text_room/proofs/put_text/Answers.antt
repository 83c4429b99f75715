-- `put_text` meets its contract: the part that is copied to is the text's place.
use Rattle.text_room.proofs.Chain.{text_back}
use Rattle.text_room.proofs.put_text.Goals as goal

pub returns : goal.returns
returns c = text_back _ _ _ _ c.copy.ensures c.requires
