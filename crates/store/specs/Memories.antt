-- What the operations do to a kept memory, and which values a kind can have (paper 01, "The store"; 001 §6.3, §9, §10).
-- Assumes nothing.
use Rattle.std.specs.Prelude.{Bool, true, cond, List, ℕ, drop, replicate}
use Rattle.store_desk.specs.declared.Desk.{Desk}
use Rattle.store_desk.specs.declared.Key.{Key}
use Rattle.store_desk.specs.declared.Kind.{Kind}
use Rattle.store_desk.specs.Size.{head_length, levels_length}
use Rattle.store_head.specs.Layout.{decode_head}
use Rattle.store.specs.declared.Edit.{Edit}
use Rattle.store.specs.declared.Edit.TheVariants.{Up, Down, Followon, Link, Level}
use Rattle.store.specs.Slots.{head_at, put_level, is_used}
use Rattle.store.specs.View.{Memory, Kept, absent, kept, memory_at}
use Rattle.store.specs.Change.{blank_head, edit_head}
use Rattle.store.specs.Form.{has_times, has_link}

-- the memory that a slot's bytes hold
unfoldable pub memory_in : List ℕ → Memory
memory_in x = record { head = decode_head x; levels = drop head_length x }

-- the memory that a slot keeps
unfoldable pub slot_view : Desk → List ℕ → ℕ → Kept
slot_view d s i = cond (is_used (head_at d s i)) (kept (memory_at d s i)) absent

-- a fresh one: no levels, times or link
unfoldable pub blank_memory : Desk → Key → Memory
blank_memory d key = record { head = blank_head key; levels = replicate (levels_length d) 0 }

-- a changed one
unfoldable pub edit_levels : Desk → Edit → List ℕ → List ℕ
edit_levels d (Up fade delay) ls = ls
edit_levels d (Down fade delay) ls = ls
edit_levels d (Followon time) ls = ls
edit_levels d (Link whole fraction) ls = ls
edit_levels d (Level channel v) ls = put_level d ls channel v

unfoldable pub edit_memory : Desk → Edit → Memory → Memory
edit_memory d e m = record { head = edit_head e m.head; levels = edit_levels d e m.levels }

unfoldable pub map_kept : (Memory → Memory) → Kept → Kept
map_kept f absent = absent
map_kept f (kept m) = kept (f m)

-- ---- 001 §6.3: CUE (§9.1) has CHAN, UP, DOWN, FOLLOWON, LINK; GROUP (§9.2) has CHAN; SUB (§9.3) has CHAN, UP, DOWN
unfoldable pub can_have : Kind → Edit → Bool
can_have k (Up fade delay) = has_times k
can_have k (Down fade delay) = has_times k
can_have k (Followon time) = has_link k
can_have k (Link whole fraction) = has_link k
can_have k (Level channel v) = true
