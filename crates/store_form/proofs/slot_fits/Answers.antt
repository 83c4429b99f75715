-- `slot_fits` meets its contract: the part is the slot, which is used or not.
use Rattle.store_code.proofs.Laws.{slot_head}
use Rattle.store_form.proofs.Laws.{used_fits_lem, unused_fits}
use Rattle.store_form.proofs.slot_fits.Goals as goal

pub decode-h-requires : goal.decode-h-requires
decode-h-requires c = slot_head _ _ _ c.requires.fitting c.requires.slot_bound c.slot_bytes-bytes.ensures

pub returns-then-h-eq1 : goal.returns-then-h-eq1
returns-then-h-eq1 c = used_fits_lem _ _ _ c.slot_bytes-bytes.ensures c.decode-h.ensures c.if-h-eq1.true c.used_fits.ensures

pub returns-else-h-eq1 : goal.returns-else-h-eq1
returns-else-h-eq1 c = unused_fits _ _ _ c.slot_bytes-bytes.ensures c.decode-h.ensures c.if-h-eq1.false c.all_zero.ensures
