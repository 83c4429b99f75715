-- `write_afresh` meets its contract: the front becomes the head's bytes, and the rest zeros.
use native.Mathlib.Omega.{arith}
use mathlib.Core.List.{List, ◌++◌}
use mathlib.Core.Path.{◌≡◌, sym, ap, ◌∙◌}
use Prim.Native.Nat.{ℕ, ◌-◌}
use lib.ListN.{length, replicate}
use Rattle.store_head.specs.Layout.{encode_head}
use Rattle.store_head.proofs.Laws.{length_encode}
use Rattle.store_code.proofs.write_afresh.Goals as goal

pub copy_from_slice-requires : goal.copy_from_slice-requires
copy_from_slice-requires c = c.split_at_mut-head.ensures.front_len ∙ sym (ap length c.encode.ensures ∙ length_encode _)

pub returns : goal.returns
returns c =
    let l : length c.split_at_mut-head.result.1.now ≡ length c.args.slot.now - 24 = omega (arith, c.split_at_mut-head.ensures.back_len) in
    ap (λ (x : List ℕ). x ++ c.fill.new.s) (c.copy_from_slice.ensures.after ∙ c.encode.ensures)
    ∙ ap (λ (x : List ℕ). encode_head c.args.h ++ x) (c.fill.ensures ∙ ap (λ (n : ℕ). replicate n 0) l)
