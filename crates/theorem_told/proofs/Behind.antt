-- The bytes behind the needed length: every operation on a store leaves them, and does the same whatever they are. Each puts bytes in
-- place within the needed length; by the laws of `put`, and by induction on the slots that a clear goes through.
-- Assumes nothing.
use mathlib.Core.Path.{◌≡◌, refl, sym, ap, ◌∙◌, subst}
use mathlib.Core.Bool.{Bool, true, false, cond, not, ◌&&◌}
use mathlib.Core.List.{List, ◌++◌}
use Prim.Native.Nat.{ℕ, zero, suc, ◌+◌, ◌-◌, ◌*◌, ◌≤◌, ◌<◌}
use native.Mathlib.Omega.{arith}
use lib.Dec.{eqb}
use lib.ListN.{length, take, drop, replicate, length-drop, length-replicate}
use lib.Seq.{take-append-le, drop-append-le}
use borrow.Author.Tests.{eqb-false}
use Rattle.cells.specs.Search.{Found, at, nowhere}
use Rattle.cells.specs.Put.{put}
use Rattle.cells.proofs.Arith.{within}
use Rattle.cells.proofs.Search.{first_same}
use Rattle.cells.proofs.Put.{put_left, length-put}
use Rattle.store_desk.specs.declared.Desk.{Desk}
use Rattle.store_desk.specs.declared.Key.{Key}
use Rattle.store_desk.specs.declared.Kind.{Kind}
use Rattle.store_desk.specs.declared.Kind.TheVariants.{Cue, Group, Sub}
use Rattle.store_desk.specs.Size.{Within, entry_length_of, slot_length, slots_of, patch_start, entries_of, store_length}
use Rattle.store_desk.specs.Name.{Name, first_slot, slot_count, slots_end, entry_of, ok_name}
use Rattle.store_desk.proofs.Name.{kind_end, entry_inside}
use Rattle.store_head.specs.declared.Head.{Head}
use Rattle.store_head.specs.Layout.{encode_patch}
use Rattle.store_head.proofs.Laws.{length-encode_patch}
use Rattle.store.specs.declared.Edit.{Edit}
use Rattle.store.specs.Slots.{slot_at, put_slot, put_entry, head_at, is_used, find, on_found}
use Rattle.store.specs.Change.{lowest_unused, new_seat, seat, blank_slot, started, edit_slot, edit_at, edited, patch_entry, patched}
use Rattle.store.specs.Change.{every_page, on_page, hits_at, clear_from, cleared, patch_page_length, cleared_patch}
use Rattle.store.proofs.Places.{slots_end_lem, slot_end, entry_end, slot_length_lem}
use Rattle.store.proofs.Find.{head_same}
use Rattle.store.proofs.Start.{blank_length, seat_inside, found_used}
use Rattle.store.proofs.Edits.{edit_length}
use Rattle.store.proofs.Patches.{same_find}

-- u is a store of the desk, and the other list is the same with q behind it
pub data Before (d : Desk) (q u : List ℕ) : List ℕ → Type 0 where
  behind : store_length d ≤ length u → Before d q u (u ++ q)

module _ (d : Desk) (q t : List ℕ) (l : store_length d ≤ length t) where
  -- ---- reading
  slot_before : (i : ℕ) → i < slots_of d → slot_at d (t ++ q) i ≡ slot_at d t i
  unfolding slot_at
  slot_before i h =
      let a : i * slot_length d + slot_length d ≤ patch_start d = slot_end d i h in
      let b : patch_start d ≤ store_length d = slots_end_lem d in
      let m : length (drop (i * slot_length d) t) ≡ length t - i * slot_length d = length-drop (i * slot_length d) t in
      ap (λ (s : List ℕ). take (slot_length d) s) (drop-append-le (i * slot_length d) t q (omega arith))
      ∙ take-append-le (slot_length d) (drop (i * slot_length d) t) q (omega arith)

  pub head_before : (i : ℕ) → i < slots_of d → head_at d (t ++ q) i ≡ head_at d t i
  head_before i h = head_same d (t ++ q) t i (slot_before i h)

  pub find_before : (n : Name) → find d (t ++ q) n ≡ find d t n
  find_before n = same_find d t (t ++ q) slot_before n

  unused_before : (k : Kind) → lowest_unused d (t ++ q) k ≡ lowest_unused d t k
  unfolding lowest_unused
  unused_before k =
      first_same _ _ (slot_count d k) (first_slot d k)
      (λ i lo hi. let e : slots_end d k ≤ slots_of d = kind_end d k in ap (λ (h : Head). not (is_used h)) (head_before i (omega arith)))

  new_before : (k : Kind) (key : Key) → new_seat d (t ++ q) k key ≡ new_seat d t k key
  unfolding new_seat
  new_before Cue key = unused_before Cue
  new_before Group key = unused_before Group
  new_before Sub key = refl

  pub seat_before : (n : Name) → seat d (t ++ q) n ≡ seat d t n
  unfolding seat
  seat_before n =
      ap (λ (f : Found). on_found f (λ i. at i) (new_seat d (t ++ q) n.kind n.key)) (find_before n)
      ∙ ap (λ (f : Found). on_found (find d t n) (λ i. at i) f) (new_before n.kind n.key)

  -- ---- bytes put in place
  put_before : (a : ℕ) (x : List ℕ) → a + length x ≤ store_length d → Before d q (put t a x) (put (t ++ q) a x)
  put_before a x h =
      let m : length (put t a x) ≡ length t = length-put t a x (omega arith) in
      subst (Before d q (put t a x)) (sym (put_left t q a x (omega arith))) (behind (omega arith))

  slot_put : (i : ℕ) → i < slots_of d → (x : List ℕ) → length x ≡ slot_length d → Before d q (put_slot d t i x) (put_slot d (t ++ q) i x)
  unfolding put_slot
  slot_put i h x e =
      let a : i * slot_length d + slot_length d ≤ patch_start d = slot_end d i h in
      let b : patch_start d ≤ store_length d = slots_end_lem d in
      put_before (i * slot_length d) x (omega arith)

  zeros_put : (a n : ℕ) → a + n ≤ store_length d → Before d q (put t a (replicate n 0)) (put (t ++ q) a (replicate n 0))
  zeros_put a n h = let e : length (replicate n (zero)) ≡ n = length-replicate n 0 in put_before a (replicate n 0) (omega arith)

  -- by what a search finds in both
  found_by_lem : (a : Found) (f g : ℕ → List ℕ) → ((i : ℕ) → a ≡ at i → Before d q (f i) (g i)) → Before d q (on_found a f t) (on_found a g (t ++ q))
  unfolding on_found
  found_by_lem (at i) f g h = h i refl
  found_by_lem nowhere f g h = behind l

  found_before : (a b : Found) → b ≡ a → (f g : ℕ → List ℕ) → ((i : ℕ) → a ≡ at i → Before d q (f i) (g i))
      → Before d q (on_found a f t) (on_found b g (t ++ q))
  found_before a b e f g h = subst (λ (c : Found). Before d q (on_found a f t) (on_found c g (t ++ q))) (sym e) (found_by_lem a f g h)

  -- ---- the operations
  pub start_before : (n : Name) → ok_name d n ≡ true → Before d q (started d t n) (started d (t ++ q) n)
  unfolding started
  start_before n o =
      found_before (seat d t n) (seat d (t ++ q) n) (seat_before n) _ _
      (λ i e.
      let w : i < slots_end d n.kind = (seat_inside d t n o i e).1 in
      let z : slots_end d n.kind ≤ slots_of d = kind_end d n.kind in
      slot_put i (omega arith) (blank_slot d n.key) (blank_length d n.key))

  pub edit_at_before : (i : ℕ) → i < slots_of d → (e : Edit) → Before d q (edit_at d t i e) (edit_at d (t ++ q) i e)
  unfolding edit_at slot_length
  edit_at_before i h e =
      let s : length (slot_at d t i) ≡ slot_length d = slot_length_lem d t l i h in
      let m : length (edit_slot d e (slot_at d t i)) ≡ slot_length d = edit_length d e (slot_at d t i) (omega arith) ∙ s in
      subst (λ (x : List ℕ). Before d q (put_slot d t i (edit_slot d e (slot_at d t i))) (put_slot d (t ++ q) i (edit_slot d e x)))
      (sym (slot_before i h))
      (slot_put i h (edit_slot d e (slot_at d t i)) m)

  pub edit_before : (n : Name) (e : Edit) → Before d q (edited d t n e) (edited d (t ++ q) n e)
  unfolding edited
  edit_before n e =
      found_before (find d t n) (find d (t ++ q) n) (find_before n) _ _ (λ i g. edit_at_before i (found_used d t n i g).0 e)

  pub patch_before : (page dimmer channel level : ℕ) → Within 1 page d.patch_pages → Within 1 dimmer d.dimmers
      → Before d q (patched d t page dimmer channel level) (patched d (t ++ q) page dimmer channel level)
  unfolding patched put_entry
  patch_before page dimmer channel level hp hd =
      let x = encode_patch (patch_entry channel level) in
      let a = patch_start d + entry_of d page dimmer * entry_length_of in
      let w : a + entry_length_of ≤ store_length d = entry_end d (entry_of d page dimmer) (entry_inside d page dimmer hp hd) in
      let e : length x ≡ 3 = length-encode_patch (patch_entry channel level) in
      put_before a x (omega arith)

  -- ---- CLEAR
  either : (b : Bool) (x y v w : List ℕ) → (b ≡ true → Before d q x v) → (b ≡ false → Before d q y w) → Before d q (cond b x y) (cond b v w)
  either true x y v w f g = f refl
  either false x y v w f g = g refl

  wipe_before : (p i : ℕ) → i < slots_of d
      → Before d q (cond (hits_at d t p i) (put_slot d t i (replicate (slot_length d) 0)) t)
      (cond (hits_at d (t ++ q) p i) (put_slot d (t ++ q) i (replicate (slot_length d) 0)) (t ++ q))
  unfolding hits_at
  wipe_before p i h =
      let z : List ℕ = replicate (slot_length d) 0 in
      let hit : Head → Bool = λ x. is_used x && on_page p x.page in
      subst (λ (x : Head). Before d q (cond (hit (head_at d t i)) (put_slot d t i z) t) (cond (hit x) (put_slot d (t ++ q) i z) (t ++ q)))
      (sym (head_before i h))
      (either (hit (head_at d t i)) _ _ _ _ (λ b. slot_put i h z (length-replicate (slot_length d) 0)) (λ b. behind l))

  pub page_end : (p : ℕ) → 1 ≤ p → p ≤ d.patch_pages → patch_start d + (p - 1) * patch_page_length d + patch_page_length d ≤ store_length d
  unfolding patch_page_length store_length entries_of
  page_end p o h =
      let n = d.dimmers * entry_length_of in
      let b : p - 1 < d.patch_pages = omega arith in
      let w : (p - 1) * n + n ≤ d.patch_pages * n = within n b in
      omega arith

  pub clear_patch_before : (p : ℕ) → p ≤ d.patch_pages → Before d q (cleared_patch d t p) (cleared_patch d (t ++ q) p)
  unfolding cleared_patch store_length
  clear_patch_before p h =
      either (eqb p every_page) _ _ _ _ (λ e. zeros_put (patch_start d) (entries_of d * entry_length_of) (omega arith))
      (λ e.
      let ne : p ≡ 0 → ⊥ = eqb-false p 0 e in
      zeros_put (patch_start d + (p - 1) * patch_page_length d) (patch_page_length d) (page_end p (omega arith) h))

from_before : (d : Desk) (q : List ℕ) (p n i : ℕ) → i + n ≤ slots_of d → {u v : List ℕ} → Before d q u v
    → Before d q (clear_from d p n i u) (clear_from d p n i v)
unfolding clear_from
from_before d q p zero i h b = b
from_before d q p (suc n) i h {u} (behind l) = from_before d q p n (suc i) (omega arith) (wipe_before d q u l p i (omega arith))

pub clear_before : (d : Desk) (q t : List ℕ) → store_length d ≤ length t → (k : Kind) (p : ℕ) → Before d q (cleared d t k p) (cleared d (t ++ q) k p)
unfolding cleared
clear_before d q t l k p = from_before d q p (slot_count d k) (first_slot d k) (kind_end d k) (behind l)
