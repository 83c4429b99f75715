-- `patch_dimmer` meets its contract: the entry's bytes are put where the entry lies.
use mathlib.Core.Path.{sym, ap, ◌∙◌}
use native.Mathlib.Omega.{arith}
use Prim.Native.Nat.{ℕ}
use lib.ListN.{length}
use Rattle.store_head.specs.Layout.{encode_patch}
use Rattle.store_head.proofs.Laws.{length-encode_patch}
use Rattle.store.specs.Change.{patch_entry}
use Rattle.store.proofs.Places.{entry_length}
use Rattle.store_code.proofs.Laws.{entry_room, entry_there, entry_is, patch_back}
use Rattle.store_code.proofs.patch_dimmer.Goals as goal

pub entry_range-requires : goal.entry_range-requires
entry_range-requires c = record { in_range = c.requires.fitting.range; bound = entry_there _ _ _ c.requires.on_patch c.entry_of-entry.ensures }

pub slice_bounds-copy_from_slice-end : goal.slice_bounds-copy_from_slice-end
slice_bounds-copy_from_slice-end c = let h = entry_room _ _ (entry_there _ _ _ c.requires.on_patch c.entry_of-entry.ensures) c.requires.fitting in omega (arith, c.entry_range.ensures.end)

pub copy_from_slice-requires : goal.copy_from_slice-requires
copy_from_slice-requires c =
    ap length (entry_is c.args.desk c.args.store.now _ c.entry_range.ensures.start c.entry_range.ensures.end)
    ∙ entry_length _ _ c.requires.fitting.long _ (entry_there _ _ _ c.requires.on_patch c.entry_of-entry.ensures)
    ∙ sym (ap length c.encode_patch-bytes.ensures ∙ length-encode_patch _)

pub returns : goal.returns
returns c =
    patch_back _ _ _ _ _ _ _ c.entry_of-entry.ensures c.entry_range.ensures.start c.entry_range.ensures.end
    (c.encode_patch-bytes.ensures ∙ ap (λ (z : ℕ). encode_patch (patch_entry c.args.channel z)) c.from.ensures)
    c.copy_from_slice.ensures.after
