-- Every line of the stream is at most 80 characters long and has only characters that the source rules allow, whatever bytes the store holds:
-- the fields of heads and patch entries are as wide as their bits. With how many lines there can be, this bounds the stream.
-- Assumes nothing.
use mathlib.Core.Path.{◌≡◌, refl}
use mathlib.Core.List.{List, [], ◌∷◌, ◌++◌}
use mathlib.Core.Logic.{inl, inr}
use Prim.Native.Nat.{ℕ, zero, suc, ◌+◌, ◌-◌, ◌*◌, ◌≤◌, ◌<◌}
use native.Mathlib.Omega.{arith}
use lib.ListN.{length, drop, length-append, length-drop}
use Rattle.cells.specs.Text.{bytes}
use Rattle.cells.specs.Scan.{span}
use Rattle.store_desk.specs.declared.Desk.{Desk}
use Rattle.store_desk.specs.declared.Kind.{Kind}
use Rattle.store_desk.specs.declared.Kind.TheVariants.{Cue, Group, Sub}
use Rattle.store_desk.specs.Size.{InRange, head_length, slots_of, store_length}
use Rattle.store_desk.proofs.Size.{slot_le}
use Rattle.store_desk.proofs.Name.{kind_end}
use Rattle.store_head.specs.Fits.{PatchFits}
use Rattle.store_head.proofs.Laws.{decode_patch_fits}
use Rattle.store.specs.Slots.{slot_at, head_at, levels_at, key_of}
use Rattle.store.specs.View.{memory_at, patched_to}
use Rattle.store.specs.Order.{in_order}
use Rattle.store.proofs.Places.{slot_length_lem}
use Rattle.store.proofs.Find.{head_fits}
use Rattle.store.proofs.Ordered.{Among, in_order_used}
use Rattle.save_lines.specs.Line.{joined, patch_line, head_lines, lit_from, chan_lines}
use Rattle.save_lines.specs.Ruled.{is_source, AllRuled}
use Rattle.save_lines.proofs.Rules.{ruled_append, joined_long, patch_ruled, primary_ruled, head_ruled, chan_ruled, patch_count, head_count, chan_count}
use Rattle.save.specs.Lines.{dimmer_lines, page_lines, patch_lines, memory_lines, slot_lines, kind_lines, lines_of}

-- ---- PATCH
pub patched_fits : (d : Desk) (s : List ℕ) (page dimmer : ℕ) → PatchFits (patched_to d s page dimmer)
unfolding patched_to
patched_fits d s page dimmer = decode_patch_fits _

module _ (d : Desk) (s : List ℕ) where
  dimmers_ruled : (page : ℕ) → page < 10000 → (n dimmer : ℕ) → dimmer + n ≤ 10000 → AllRuled (dimmer_lines d s page n dimmer)
  unfolding dimmer_lines
  dimmers_ruled page hp zero dimmer h = tt
  dimmers_ruled page hp (suc n) dimmer h =
      ruled_append (patch_line page dimmer (patched_to d s page dimmer)) (dimmer_lines d s page n (dimmer + 1))
      (patch_ruled page dimmer (patched_to d s page dimmer) hp (omega arith) (patched_fits d s page dimmer))
      (dimmers_ruled page hp n (dimmer + 1) (omega arith))

  dimmers_count : (page n dimmer : ℕ) → length (dimmer_lines d s page n dimmer) ≤ n
  unfolding dimmer_lines
  dimmers_count page zero dimmer = omega arith
  dimmers_count page (suc n) dimmer =
      let a = patch_line page dimmer (patched_to d s page dimmer) in
      let r = dimmer_lines d s page n (dimmer + 1) in
      let ih = dimmers_count page n (dimmer + 1) in
      let c = patch_count page dimmer (patched_to d s page dimmer) in
      let l : length (a ++ r) ≡ length a + length r = length-append a r in
      omega arith

  pub dimmers_long : (page : ℕ) → page < 10000 → (n dimmer : ℕ) → dimmer + n ≤ 10000 → length (joined (dimmer_lines d s page n dimmer)) ≤ 82 * n
  dimmers_long page hp n dimmer h =
      let a = joined_long (dimmer_lines d s page n dimmer) (dimmers_ruled page hp n dimmer h) in
      let c = dimmers_count page n dimmer in
      omega arith

  module _ (g : d.dimmers ≤ 512) where
    pages_ruled : (n page : ℕ) → page + n ≤ 10000 → AllRuled (page_lines d s n page)
    unfolding page_lines
    pages_ruled zero page h = tt
    pages_ruled (suc n) page h =
        ruled_append (dimmer_lines d s page d.dimmers 1) (page_lines d s n (page + 1))
        (dimmers_ruled page (omega arith) d.dimmers 1 (omega arith))
        (pages_ruled n (page + 1) (omega arith))

    pages_count : (n page : ℕ) → length (page_lines d s n page) ≤ 512 * n
    unfolding page_lines
    pages_count zero page = omega arith
    pages_count (suc n) page =
        let a = dimmer_lines d s page d.dimmers 1 in
        let r = page_lines d s n (page + 1) in
        let ih = pages_count n (page + 1) in
        let c = dimmers_count page d.dimmers 1 in
        let l : length (a ++ r) ≡ length a + length r = length-append a r in
        omega arith

    pub pages_long : (n page : ℕ) → page + n ≤ 10000 → length (joined (page_lines d s n page)) ≤ 41984 * n
    pages_long n page h =
        let a = joined_long (page_lines d s n page) (pages_ruled n page h) in
        let c = pages_count n page in
        omega arith

-- ---- memories
module _ (d : Desk) (s : List ℕ) (ir : InRange d) (long : store_length d ≤ length s) where
  pub levels_short : (i : ℕ) → i < slots_of d → length (levels_at d s i) ≤ 1024
  unfolding levels_at
  levels_short i h =
      let a = slot_length_lem d s long i h in
      let b = slot_le d ir in
      let c : length (drop head_length (slot_at d s i)) ≡ length (slot_at d s i) - head_length = length-drop head_length (slot_at d s i) in
      omega arith

  module _ (k : Kind) (i : ℕ) (h : i < slots_of d) where
    memory_ruled : AllRuled (memory_lines k (memory_at d s i))
    unfolding memory_lines memory_at
    memory_ruled =
        let f = head_fits d s i in
        let p = f.page in (
          primary_ruled k (key_of (head_at d s i)) (omega arith) f.whole,
          ruled_append (head_lines (head_at d s i)) (chan_lines (lit_from 1 (levels_at d s i))) (head_ruled (head_at d s i) f)
              (chan_ruled (levels_at d s i) (levels_short i h)),
        )

    memory_count : length (memory_lines k (memory_at d s i)) ≤ 1029
    unfolding memory_lines memory_at
    memory_count =
        let a = head_lines (head_at d s i) in
        let r = chan_lines (lit_from 1 (levels_at d s i)) in
        let b = head_count (head_at d s i) in
        let c = chan_count (levels_at d s i) in
        let e = levels_short i h in
        let l : length (a ++ r) ≡ length a + length r = length-append a r in
        omega arith

    pub memory_long : length (joined (memory_lines k (memory_at d s i))) ≤ 84378
    memory_long = let a = joined_long (memory_lines k (memory_at d s i)) memory_ruled in let c = memory_count in omega arith

  slots_ruled : (k : Kind) (is : List ℕ) → ((x : ℕ) → Among x is → x < slots_of d) → AllRuled (slot_lines d s k is)
  unfolding slot_lines
  slots_ruled k [] f = tt
  slots_ruled k (i ∷ is) f =
      ruled_append (memory_lines k (memory_at d s i)) (slot_lines d s k is) (memory_ruled k i (f i (inl refl))) (slots_ruled k is (λ x h. f x (inr h)))

  pub kind_ruled : (k : Kind) → AllRuled (kind_lines d s k)
  kind_ruled k =
      slots_ruled k (in_order d s k)
      (λ x h. let w = in_order_used d s k x h in let e = kind_end d k in let l = w.1 in omega arith)

  -- ---- every line of the stream
  pub lines_ruled : AllRuled (lines_of d s)
  unfolding lines_of is_source span
  lines_ruled =
      let g = ir.dimmers.1 in
      let p = ir.patch_pages_of.1 in
      let c = kind_lines d s Cue in
      let u = kind_lines d s Group in
      let v = kind_lines d s Sub in
      let last : List (List ℕ) = bytes "ENDDATA" ∷ [] in
      let el : AllRuled last = (record { short = omega arith; source = refl }, tt) in (
        record { short = omega arith; source = refl },
        (
          record { short = omega arith; source = refl },
          ruled_append (patch_lines d s) (c ++ (u ++ (v ++ last))) (pages_ruled d s g d.patch_pages 1 (omega arith))
              (ruled_append c (u ++ (v ++ last)) (kind_ruled Cue) (ruled_append u (v ++ last) (kind_ruled Group) (ruled_append v last (kind_ruled Sub) el))),
        ),
      )
