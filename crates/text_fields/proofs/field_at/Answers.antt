-- `text_fields::field_at` meets its contract: the two scans find where the field starts and ends.
use mathlib.Core.Path.{subst, sym}
use Prim.Native.Nat.{ℕ, ◌≤◌}
use lib.ListN.{length}
use Rattle.text_fields.proofs.Words.{start_within, field_is}
use Rattle.text_fields.proofs.field_at.Goals as goal

pub field_end-end-requires : goal.field_end-end-requires
field_end-end-requires c = subst (λ (k : ℕ). k ≤ length c.args.text.now) (sym c.field_start-start.ensures) (start_within c.args.text.now c.args.at c.requires)

pub returns : goal.returns
returns c = field_is _ _ c.field_start-start.ensures c.field_end-end.ensures
