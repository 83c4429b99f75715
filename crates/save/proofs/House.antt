-- The house small desk's stream has at most 258,847 characters, whatever bytes the store holds, and so is never too long for a call; of a store
-- in good form it has at most 253,087. So many slots and dimmers, each with the most bytes that its lines can take. The bound is stated for
-- every desk in range, by the digits of its highest channel and the characters of its times.
-- Assumes nothing.
use mathlib.Core.Path.{◌≡◌, refl, ap, ◌∙◌}
use mathlib.Core.List.{List, [], ◌∷◌, ◌++◌}
use mathlib.Core.Logic.{inl, inr}
use Prim.Native.Nat.{ℕ, zero, suc, ◌+◌, ◌*◌, ◌/◌, ◌^◌, ◌≤◌, ◌<◌}
use native.Mathlib.Omega.{arith}
use lib.ListN.{length, take, drop, length-append, length-take}
use Rattle.cells.proofs.Arith.{products}
use Rattle.store_desk.specs.declared.Desk.{Desk}
use Rattle.store_desk.specs.declared.Kind.{Kind}
use Rattle.store_desk.specs.declared.Kind.TheVariants.{Cue, Group, Sub}
use Rattle.store_desk.specs.Size.{InRange, house, head_length, level_width, levels_length, slot_length, sub_slots, slots_of, entries_of}
use Rattle.store_desk.specs.Name.{slot_count, kind_at}
use Rattle.store_desk.proofs.Name.{kind_end}
use Rattle.store_desk.proofs.Size.{in_range, house_in_range}
use Rattle.store_head.specs.declared.Head.{Head}
use Rattle.store.specs.Slots.{head_at, levels_at, key_of}
use Rattle.store.specs.View.{memory_at, patched_to}
use Rattle.store.specs.Order.{in_order}
use Rattle.store.specs.Form.{has_times, has_link}
use Rattle.store.specs.Good.{GoodForm}
use Rattle.store.proofs.Places.{levels_part}
use Rattle.store.proofs.Ordered.{Among, in_order_used, in_order-length}
use Rattle.store.proofs.Used.{used_le}
use Rattle.store.proofs.Form.{used_values}
use Rattle.store.proofs.Edits.{Values, values_of, time_in}
use Rattle.save_lines.specs.Line.{joined, patch_line, primary_text}
use Rattle.save_lines.proofs.Parts.{joined_nil, joined_append}
use Rattle.save_lines.proofs.Bounds.{TimesWithin, times_held, times_read, patch_most, primary_most, head_most, chan_most}
use Rattle.save.specs.Lines.{dimmer_lines, page_lines, patch_lines, memory_lines, slot_lines, kind_lines, stream_of}
use Rattle.store.proofs.Find.{head_fits}
use Rattle.save.proofs.Rules.{patched_fits}
use Rattle.save.proofs.Memories.{memory_sum}
use Rattle.save.proofs.Whole.{length_is}

joined_sum : (a b : List (List ℕ)) → length (joined (a ++ b)) ≡ length (joined a) + length (joined b)
joined_sum a b = ap length (joined_append a b) ∙ length-append (joined a) (joined b)

joined_none : length (joined []) ≡ 0
joined_none = ap length joined_nil

-- ---- PATCH
module _ (d : Desk) (s : List ℕ) where
  dimmers_most : (page : ℕ) → page < 10 → (n dimmer : ℕ) → dimmer + n ≤ 1000 → length (joined (dimmer_lines d s page n dimmer)) ≤ 22 * n
  unfolding dimmer_lines
  dimmers_most page hp zero dimmer h = let e = joined_none in omega arith
  dimmers_most page hp (suc n) dimmer h =
      let ih = dimmers_most page hp n (dimmer + 1) (omega arith) in
      let a = patch_most page dimmer (patched_to d s page dimmer) hp (omega arith) (patched_fits d s page dimmer) in
      let e = joined_sum (patch_line page dimmer (patched_to d s page dimmer)) (dimmer_lines d s page n (dimmer + 1)) in
      omega arith

  pages_most : d.dimmers < 1000 → (n page : ℕ) → page + n ≤ 10 → length (joined (page_lines d s n page)) ≤ 22 * (d.dimmers * n)
  unfolding page_lines
  pages_most g zero page h = let e = joined_none in omega arith
  pages_most g (suc n) page h =
      let ih = pages_most g n (page + 1) (omega arith) in
      let a = dimmers_most page (omega arith) d.dimmers 1 (omega arith) in
      let e = joined_sum (dimmer_lines d s page d.dimmers 1) (page_lines d s n (page + 1)) in
      omega arith

-- ---- memories
levels_most : (d : Desk) (s : List ℕ) (i : ℕ) → length (levels_at d s i) ≤ d.channels
unfolding levels_length level_width
levels_most d s i =
    let l : length (levels_at d s i) ≡ length (take (d.channels * 1) (drop (i * slot_length d + head_length) s)) = ap length (levels_part d s i) in
    let m = length-take (d.channels * 1) (drop (i * slot_length d + head_length) s) in
    omega arith

-- the most bytes of one memory, with times of at most n characters and channels of at most k + 1 digits: 17 of the primary, 38 and five times
-- of the head's lines, then its channels
abbrev pub memory_most : Desk → ℕ → ℕ → ℕ
memory_most d n k = 55 + 5 * n + d.channels * (k + 6) + 6 * ((d.channels + 7) / 8)

-- each memory that is written
abbrev pub AllWithin : Desk → List ℕ → ℕ → Type 0
AllWithin d s n = (kind : Kind) (i : ℕ) → Among i (in_order d s kind) → TimesWithin n (head_at d s i)

module _ (d : Desk) (s : List ℕ) (r : InRange d) (n : ℕ) (t : AllWithin d s n) (k : ℕ) (h : d.channels < 10 ^ suc k) where
  memory_most_lem : (kind : Kind) (i : ℕ) → TimesWithin n (head_at d s i) → length (joined (memory_lines kind (memory_at d s i))) ≤ memory_most d n k
  memory_most_lem kind i w =
      let f = head_fits d s i in
      let a = primary_most kind (key_of (head_at d s i)) f.page f.whole in
      let b = head_most n (head_at d s i) w f in
      let c = chan_most k (levels_at d s i) d.channels (levels_most d s i) h in
      let e = memory_sum d s kind i refl refl refl {a = length (joined (primary_text kind (key_of (head_at d s i)) ∷ []))} refl refl refl in
      omega arith

  slots_most : (kind : Kind) (is : List ℕ) → ((i : ℕ) → Among i is → TimesWithin n (head_at d s i))
      → length (joined (slot_lines d s kind is)) ≤ length is * memory_most d n k
  unfolding slot_lines
  slots_most kind [] w = let e = joined_none in omega arith
  slots_most kind (i ∷ is) w =
      let ih = slots_most kind is (λ j a. w j (inr a)) in
      let a = memory_most_lem kind i (w i (inl refl)) in
      let e = joined_sum (memory_lines kind (memory_at d s i)) (slot_lines d s kind is) in
      omega arith

  kind_most : (kind : Kind) → length (joined (kind_lines d s kind)) ≤ slot_count d kind * memory_most d n k
  kind_most kind =
      let a = slots_most kind (in_order d s kind) (t kind) in
      let l = in_order-length d s kind in
      let u = used_le d s kind in
      let b : length (in_order d s kind) * memory_most d n k ≤ slot_count d kind * memory_most d n k = products (memory_most d n k) (omega arith) in
      omega arith

  -- IDENT, CLEAR ALL and ENDDATA take 31
  pub stream_most : length (stream_of d s) ≤ 31 + 22 * entries_of d + slots_of d * memory_most d n k
  unfolding entries_of slots_of slot_count
  stream_most =
      let g = r.dimmers.1 in
      let q = r.patch_pages_of.1 in
      let p = pages_most d s (omega arith) d.patch_pages 1 (omega arith) in
      let a = kind_most Cue in
      let b = kind_most Group in
      let c = kind_most Sub in
      let e = length_is d s {p = length (joined (patch_lines d s))} refl refl refl refl in
      omega arith

-- ---- the times of a store: whatever bytes it holds, and in good form
any_within : (d : Desk) (s : List ℕ) → AllWithin d s 17
any_within d s kind i a = times_held (head_at d s i) (head_fits d s i)

values_within : (k : Kind) (h : Head) → Values k h → TimesWithin 13 h
values_within k h v =
    times_read h
    (time_in (has_times k) h.up h.up_fade v.up_fade_of)
    (time_in (has_times k) h.up h.up_delay v.up_delay_of)
    (time_in (has_times k) h.down h.down_fade v.down_fade_of)
    (time_in (has_times k) h.down h.down_delay v.down_delay_of)
    (time_in (has_link k) h.followon h.followon_time v.followon)

good_within : (d : Desk) (s : List ℕ) → GoodForm d s → AllWithin d s 13
good_within d s g kind i a =
    let u = in_order_used d s kind i a in
    let l : i < slots_of d = omega (arith, u.1, kind_end d kind) in
    values_within (kind_at d i) (head_at d s i) (values_of (kind_at d i) (head_at d s i) (used_values d s g i l u.2))

-- ---- the house small desk: 31, 22 for each of 192 dimmers, 884 for each of 288 slots, and 864 in good form
module _ (s : List ℕ) where
  pub house_most : length (stream_of house s) ≤ 258847
  unfolding entries_of slots_of sub_slots
  house_most = let a = stream_most house s (in_range house house_in_range) 17 (any_within house s) 1 (omega arith) in omega arith

  pub house_good : GoodForm house s → length (stream_of house s) ≤ 253087
  unfolding entries_of slots_of sub_slots
  house_good g = let a = stream_most house s (in_range house house_in_range) 13 (good_within house s g) 1 (omega arith) in omega arith

  pub house_short : length (stream_of house s) ≤ 262143
  house_short = let a = house_most in omega arith
