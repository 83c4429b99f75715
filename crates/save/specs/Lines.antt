-- The written stream as lines in order (paper 01, "The written stream"); each line by itself is in crate `save_lines`.
-- Assumes nothing.
use Rattle.std.specs.Prelude.{List, [], ◌∷◌, ◌++◌, ℕ, zero, suc, ◌+◌}
use Rattle.cells.specs.Text.{bytes}
use Rattle.store_desk.specs.declared.Desk.{Desk}
use Rattle.store_desk.specs.declared.Kind.{Kind}
use Rattle.store_desk.specs.declared.Kind.TheVariants.{Cue, Group, Sub}
use Rattle.store.specs.Slots.{key_of}
use Rattle.store.specs.View.{Memory, memory_at, patched_to}
use Rattle.store.specs.Order.{in_order}
use Rattle.save_lines.specs.Line.{joined, patch_line, primary_text, head_lines, lit_from, chan_lines}

-- ---- one PATCH record per patched dimmer, by page and dimmer

-- of n dimmers from one on
unfoldable pub dimmer_lines : Desk → List ℕ → ℕ → ℕ → ℕ → List (List ℕ)
dimmer_lines d s page zero dimmer = []
dimmer_lines d s page (suc n) dimmer =
    let r = dimmer_lines d s page n (dimmer + 1) in
    patch_line page dimmer (patched_to d s page dimmer) ++ r

-- of n pages from one on
unfoldable pub page_lines : Desk → List ℕ → ℕ → ℕ → List (List ℕ)
page_lines d s zero page = []
page_lines d s (suc n) page = let r = page_lines d s n (page + 1) in dimmer_lines d s page d.dimmers 1 ++ r

abbrev pub patch_lines : Desk → List ℕ → List (List ℕ)
patch_lines d s = page_lines d s d.patch_pages 1

-- ---- a memory: the primary with its page, then UP, DOWN, FOLLOWON, LINK, as present, then the channels

unfoldable pub memory_lines : Kind → Memory → List (List ℕ)
memory_lines k m = primary_text k (key_of m.head) ∷ (head_lines m.head ++ chan_lines (lit_from 1 m.levels))

-- the memories in some slots, one after the other
unfoldable pub slot_lines : Desk → List ℕ → Kind → List ℕ → List (List ℕ)
slot_lines d s k [] = []
slot_lines d s k (i ∷ is) = let r = slot_lines d s k is in memory_lines k (memory_at d s i) ++ r

-- by page and number
abbrev pub kind_lines : Desk → List ℕ → Kind → List (List ℕ)
kind_lines d s k = slot_lines d s k (in_order d s k)

-- ---- the stream

unfoldable pub lines_of : Desk → List ℕ → List (List ℕ)
lines_of d s =
    bytes "IDENT 3:0"
    ∷ (bytes "CLEAR ALL"
    ∷ (patch_lines d s
    ++ (kind_lines d s Cue ++ (kind_lines d s Group ++ (kind_lines d s Sub ++ (bytes "ENDDATA" ∷ []))))))

unfoldable pub stream_of : Desk → List ℕ → List ℕ
stream_of d s = joined (lines_of d s)
