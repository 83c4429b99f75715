-- `entry_fits` meets its contract: the part is the entry.
use Rattle.store_code.proofs.Laws.{entry_whole}
use Rattle.store_form.proofs.Laws.{entry_fits_lem}
use Rattle.store_form.proofs.entry_fits.Goals as goal

pub decode_patch-requires : goal.decode_patch-requires
decode_patch-requires c = entry_whole _ _ _ c.requires.fitting c.requires.bound c.entry_bytes-bytes.ensures

pub returns : goal.returns
returns c = entry_fits_lem _ _ _ c.entry_bytes-bytes.ensures c.decode_patch.ensures c.patch_fits.ensures
