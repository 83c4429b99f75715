-- `all_zero` meets its contract: bytes joined are zero where each is.
use mathlib.Core.Path.{◌≡◌, ap, ◌∙◌}
use Prim.Native.Nat.{ℕ}
use lib.Bits.{bit_or}
use lib.Dec.{eqb}
use Rattle.std.proofs.Common.{rules}
use Rattle.std.specs.List.{fold}
use Rattle.store_form.proofs.Laws.{fold_zero}
use Rattle.store_form.proofs.all_zero.Goals as goal

pub returns : goal.returns
returns c =
    let e : c.fold.result ≡ fold bit_or 0 c.args.s.now = search rules in
    ap (λ (n : ℕ). eqb n 0) e ∙ fold_zero 0 c.args.s.now
