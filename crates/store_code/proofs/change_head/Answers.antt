-- `change_head` meets its contract: the head is decoded, changed, encoded and put back at the front.
use mathlib.Core.List.{List, ◌++◌}
use mathlib.Core.Path.{sym, subst, ap, ◌∙◌}
use Prim.Native.Nat.{ℕ}
use lib.ListN.{length, drop}
use lib.Seq.{length-take-le}
use Rattle.cells.proofs.Put.{put_zero}
use Rattle.store_head.specs.Layout.{encode_head, decode_head}
use Rattle.store_head.specs.Fits.{HeadFits}
use Rattle.store_head.proofs.Laws.{length_encode}
use Rattle.store.specs.Change.{edit_head, with_head}
use Rattle.store_code.proofs.change_head.Goals as goal

pub encode-requires : goal.encode-requires
encode-requires c = subst HeadFits (sym (c.changed-h.ensures ∙ ap (edit_head _) c.decode.ensures)) c.requires.head_fits

pub copy_from_slice-requires : goal.copy_from_slice-requires
copy_from_slice-requires c = length-take-le 24 c.args.slot.now c.requires.head_length_in_bounds ∙ sym (ap length c.encode.ensures ∙ length_encode _)

pub returns : goal.returns
unfolding with_head
returns c =
    let e = c.encode.ensures ∙ ap encode_head (c.changed-h.ensures ∙ ap (edit_head _) c.decode.ensures) in
    let h = edit_head c.args.e (decode_head c.args.slot.now) in
    ap (λ (x : List ℕ). x ++ drop 24 c.args.slot.now) (c.copy_from_slice.ensures.after ∙ e)
    ∙ ap (λ (n : ℕ). encode_head h ++ drop n c.args.slot.now) (sym (length_encode h))
    ∙ sym (put_zero c.args.slot.now (encode_head h))
