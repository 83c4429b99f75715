-- `patch_of` meets its contract: decoding the entry is the definition.
use Rattle.store_code.proofs.Laws.{entry_there, entry_whole, patched_is}
use Rattle.store_code.proofs.patch_of.Goals as goal

pub entry_bytes-requires : goal.entry_bytes-requires
entry_bytes-requires c = record { fitting = c.requires.fitting; bound = entry_there _ _ _ c.requires.on_patch c.entry_of-entry.ensures }

pub decode_patch-requires : goal.decode_patch-requires
decode_patch-requires c = entry_whole _ _ _ c.requires.fitting (entry_there _ _ _ c.requires.on_patch c.entry_of-entry.ensures) c.entry_bytes.ensures

pub returns : goal.returns
returns c = patched_is _ _ _ _ c.entry_of-entry.ensures c.entry_bytes.ensures c.decode_patch.ensures
