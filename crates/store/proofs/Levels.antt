-- One channel's level: what was put reads back, the level of every other channel is as it was, and in a slot it is one place. By the laws of
-- a list with an element set.
-- Assumes nothing.
use mathlib.Core.Path.{◌≡◌, sym, ap, ◌∙◌}
use mathlib.Core.List.{List, ◌∷◌, ◌++◌}
use Prim.Native.Nat.{ℕ, ◌+◌, ◌-◌, ◌*◌, ◌≤◌, ◌<◌}
use native.Mathlib.Omega.{arith}
use lib.ListN.{length, set, take, drop, take-append-drop}
use lib.Seq.{get_or-set_same, get_or-set_other, take-set-le, drop-set-add, set_at}
use Rattle.cells.proofs.Arith.{apart}
use Rattle.store_desk.specs.declared.Desk.{Desk}
use Rattle.store_desk.specs.Size.{Within, head_length, level_width, levels_length, slot_length}
use Rattle.store_desk.proofs.Size.{width_le}
use Rattle.store.specs.declared.Edit.TheVariants.{Level}
use Rattle.store.specs.Slots.{level_start, level_place, level_at, put_level}
use Rattle.store.specs.Change.{edit_slot}

-- ---- among the levels
level_end : (d : Desk) (c : ℕ) → Within 1 c d.channels → level_start d c + level_width d ≤ levels_length d
unfolding levels_length
level_end d c h = apart (level_width d) (let m : c - 1 < d.channels = omega arith in m)

module _ (d : Desk) (ls : List ℕ) (l : length ls ≡ levels_length d) (c v : ℕ) (h : Within 1 c d.channels) where
  pub level_put : level_at d (put_level d ls c v) c ≡ v
  level_put =
      let e = level_end d c h in
      let w = width_le d in
      get_or-set_same ls (level_start d c) v 0 (omega arith)

  pub level_other : (k : ℕ) → Within 1 k d.channels → (k ≡ c → ⊥) → level_at d (put_level d ls c v) k ≡ level_at d ls k
  unfolding level_width
  level_other k g ne = get_or-set_other ls ((c - 1) * 1) ((k - 1) * 1) v 0 (λ e. ne (omega arith))

-- of the channel behind those in front
pub level_next : (d : Desk) (p : List ℕ) (u : ℕ) (ls : List ℕ) (c v : ℕ) → c ≡ length p + 1 → put_level d (p ++ (u ∷ ls)) c v ≡ p ++ (v ∷ ls)
unfolding level_width
level_next d p u ls c v e = set_at p u ls v ((c - 1) * 1) (omega arith)

-- ---- in a slot
pub level_inside : (d : Desk) (c : ℕ) → Within 1 c d.channels → level_place d c < slot_length d
unfolding level_place slot_length
level_inside d c h = let e = level_end d c h in let w = width_le d in omega arith

pub level_slot : (d : Desk) (c v : ℕ) (x : List ℕ) → set x (level_place d c) v ≡ edit_slot d (Level c v) x
unfolding level_place edit_slot
level_slot d c v x =
    let k = level_start d c in
    let l : head_length ≤ head_length + k = omega arith in
    sym (take-append-drop head_length (set x (head_length + k) v))
    ∙ ap (λ (z : List ℕ). z ++ drop head_length (set x (head_length + k) v)) (take-set-le head_length x (head_length + k) v l)
    ∙ ap (λ (z : List ℕ). take head_length x ++ z) (drop-set-add head_length x k v)
