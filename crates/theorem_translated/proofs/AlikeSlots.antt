-- Two stores that differ by links alone, those that the cues of some slots asked for: each memory is in the same slot of both, the same slots are
-- free, and what is done to both of them, unless it is a link, leaves them so. By the laws of heads, and of bytes put in place.
-- Assumes nothing.
use mathlib.Core.Path.{◌≡◌, refl, sym, ap, ◌∙◌, subst}
use mathlib.Core.Bool.{Bool, true, false, cond, not, ◌&&◌}
use mathlib.Core.List.{List, ◌++◌}
use Prim.Native.Nat.{ℕ, zero, suc, ◌+◌, ◌-◌, ◌*◌, ◌/◌, ◌%◌, ◌≤◌, ◌<◌}
use native.Mathlib.Omega.{arith}
use lib.Dec.{eqb}
use lib.ListN.{length, get_or, set, take, drop, replicate, length-replicate, length-set, take-append-drop}
use lib.Seq.{length-take-le, take_at, drop_at, get_or-set_same, get_or-set_other}
use borrow.Author.Tests.{eqb-false}
use Rattle.cells.specs.Put.{put}
use Rattle.cells.specs.Search.{Found, at, nowhere}
use Rattle.cells.proofs.Put.{put_zero, put_part, put_second, length-put, part_before, drop_after}
use Rattle.cells.proofs.Search.{first_same}
use Rattle.cells.proofs.Split.{by_test, by_bool, by_eq, cond-true, cond-false}
use Rattle.store_desk.specs.declared.Desk.{Desk}
use Rattle.store_desk.specs.declared.Key.{Key}
use Rattle.store_desk.specs.declared.Kind.{Kind}
use Rattle.store_desk.specs.declared.Kind.TheVariants.{Cue, Group, Sub}
use Rattle.store_desk.specs.Size.{Within, head_length, entry_length_of, slot_length, slots_of, patch_start, entries_of, store_length}
use Rattle.store_desk.specs.Name.{Name, eq_key, first_slot, slot_count, slots_end, entry_of}
use Rattle.store_desk.proofs.Name.{kind_end, entry_inside}
use Rattle.store_head.specs.declared.Head.{Head}
use Rattle.store_head.specs.Layout.{encode_head, decode_head, encode_patch}
use Rattle.store_head.proofs.Laws.{length_encode, length-encode_patch, decode_zeros}
use Rattle.value.specs.Number.{whole_max, fraction_span}
use Rattle.store.specs.declared.Edit.{Edit}
use Rattle.store.specs.declared.Edit.TheVariants.{Up as SetUp, Down as SetDown, Followon as SetFollowon, Link as SetLink, Level as SetLevel}
use Rattle.store.specs.Slots.{slot_at, put_slot, put_entry, head_at, key_of, is_used, holds_at, put_level, find, on_found}
use Rattle.store.specs.View.{Memory}
use Rattle.store.specs.Change.{lowest_unused, new_seat, seat, edit_head, with_head, edit_slot, edit_at, edited, patch_entry, patched}
use Rattle.store.specs.Change.{every_page, on_page, hits_at, clear_from, cleared, patch_page_length, cleared_patch}
use Rattle.store.specs.Memories.{memory_in, edit_levels, edit_memory}
use Rattle.store.specs.Fits.{EditFits}
use Rattle.store.proofs.Places.{slots_end_lem, slot_end, entry_end, slot_length_lem, slot_headed, slot_same, slot_other, put_length}
use Rattle.store.proofs.Start.{found_used}
use Rattle.store.proofs.Edits.{edit_used, edit_length, edit_memory_lem}
use Rattle.theorem_told.proofs.Behind.{page_end}
use Rattle.theorem_translated.proofs.Unlinked.{cue_slot, NoLink}

-- ---- the bytes of a slot with a link
-- a head put in front
head_put : (h : Head) (x : List ℕ) → put x 0 (encode_head h) ≡ encode_head h ++ drop head_length x
head_put h x = put_zero x (encode_head h) ∙ ap (λ (k : ℕ). encode_head h ++ drop k x) (length_encode h)

module _ (d : Desk) where
  -- a head and levels after a change
  changed_head : (e : Edit) → EditFits e → (x : List ℕ) → head_length ≤ length x → decode_head (edit_slot d e x) ≡ edit_head e (decode_head x)
  unfolding memory_in edit_memory
  changed_head e g x l = ap (λ (m : Memory). m.head) (edit_memory_lem d e x l g)

  changed_levels : (e : Edit) → EditFits e → (x : List ℕ) → head_length ≤ length x
      → drop head_length (edit_slot d e x) ≡ edit_levels d e (drop head_length x)
  unfolding memory_in edit_memory
  changed_levels e g x l = ap (λ (m : Memory). m.levels) (edit_memory_lem d e x l g)

  link_bytes : (w f : ℕ) (x : List ℕ) → edit_slot d (SetLink w f) x ≡ encode_head (edit_head (SetLink w f) (decode_head x)) ++ drop head_length x
  unfolding edit_slot with_head
  link_bytes w f x = head_put (edit_head (SetLink w f) (decode_head x)) x

  module _ (w f : ℕ) (fits : EditFits (SetLink w f)) where
    -- another change, before the link or after it
    link_after : (e : Edit) → EditFits e → (x : List ℕ) → head_length ≤ length x
        → edit_slot d (SetLink w f) (edit_slot d e x)
        ≡ encode_head (edit_head (SetLink w f) (edit_head e (decode_head x))) ++ edit_levels d e (drop head_length x)
    link_after e g x l =
        link_bytes w f (edit_slot d e x)
        ∙ (λ i. encode_head (edit_head (SetLink w f) (changed_head e g x l i)) ++ changed_levels e g x l i)

    heads_swap : (e : Edit) → NoLink d e → (h : Head) → edit_head e (edit_head (SetLink w f) h) ≡ edit_head (SetLink w f) (edit_head e h)
    unfolding edit_head put
    heads_swap (SetUp fade delay) n h = refl
    heads_swap (SetDown fade delay) n h = refl
    heads_swap (SetFollowon time) n h = refl
    heads_swap (SetLink whole fraction) n h = absurd n
    heads_swap (SetLevel channel v) n h = refl

    head_before : (e : Edit) → NoLink d e → (x : List ℕ) → head_length ≤ length x
        → with_head e (edit_slot d (SetLink w f) x) ≡ encode_head (edit_head (SetLink w f) (edit_head e (decode_head x))) ++ drop head_length x
    unfolding with_head edit_levels
    head_before e n x l =
        let y = edit_slot d (SetLink w f) x in
        head_put (edit_head e (decode_head y)) y
        ∙ (λ i. encode_head (edit_head e (changed_head (SetLink w f) fits x l i)) ++ changed_levels (SetLink w f) fits x l i)
        ∙ ap (λ (h : Head). encode_head h ++ drop head_length x) (heads_swap e n (decode_head x))

    link_before : (e : Edit) → NoLink d e → (x : List ℕ) → head_length ≤ length x
        → edit_slot d e (edit_slot d (SetLink w f) x)
        ≡ encode_head (edit_head (SetLink w f) (edit_head e (decode_head x))) ++ edit_levels d e (drop head_length x)
    unfolding edit_slot edit_levels edit_head
    link_before (SetUp fade delay) n x l = head_before (SetUp fade delay) n x l
    link_before (SetDown fade delay) n x l = head_before (SetDown fade delay) n x l
    link_before (SetFollowon time) n x l = head_before (SetFollowon time) n x l
    link_before (SetLink whole fraction) n x l = absurd n
    link_before (SetLevel channel v) n x l =
        let h = edit_head (SetLink w f) (decode_head x) in
        (λ i. take head_length (link_bytes w f x i) ++ put_level d (changed_levels (SetLink w f) fits x l i) channel v)
        ∙ ap (λ (z : List ℕ). z ++ put_level d (drop head_length x) channel v) (take_at (encode_head h) (drop head_length x) head_length (length_encode h))

    link_swaps : (e : Edit) → NoLink d e → EditFits e → (x : List ℕ) → head_length ≤ length x
        → edit_slot d e (edit_slot d (SetLink w f) x) ≡ edit_slot d (SetLink w f) (edit_slot d e x)
    link_swaps e n g x l = link_before e n x l ∙ sym (link_after e g x l)

    -- a link over another
    link_over : (v g : ℕ) (x : List ℕ) → head_length ≤ length x → edit_slot d (SetLink v g) (edit_slot d (SetLink w f) x) ≡ edit_slot d (SetLink v g) x
    unfolding edit_levels edit_head put
    link_over v g x l =
        link_bytes v g (edit_slot d (SetLink w f) x)
        ∙ (λ i. encode_head (edit_head (SetLink v g) (changed_head (SetLink w f) fits x l i)) ++ changed_levels (SetLink w f) fits x l i)
        ∙ sym (link_bytes v g x)

-- the link to a number, by value; and the bytes of a slot whose cue asked for one: 0 stands for nothing, else it is the number and 1
abbrev pub link_to : ℕ → Edit
link_to m = SetLink (m / fraction_span) (m % fraction_span)

unfoldable pub linked_by : Desk → ℕ → List ℕ → List ℕ
linked_by d zero x = x
linked_by d (suc m) x = cond (is_used (decode_head x)) (edit_slot d (link_to m) x) x

abbrev pub most_asked : ℕ
most_asked = (whole_max + 1) * fraction_span

link_fits : (m : ℕ) → suc m ≤ most_asked → EditFits (link_to m)
link_fits m h = omega arith

module _ (d : Desk) where
  linked_length : (a : ℕ) (x : List ℕ) → head_length ≤ length x → length (linked_by d a x) ≡ length x
  unfolding linked_by
  linked_length zero x l = refl
  linked_length (suc m) x l =
      by_test (λ (y : List ℕ). length y ≡ length x) (is_used (decode_head x)) (edit_slot d (link_to m) x) x
      (λ e. edit_length d (link_to m) x l)
      (λ e. refl)

  -- of a head, whatever a link does not change
  abbrev Unlinking : {A : Type 0} → (Head → A) → Type 0
  Unlinking f = (w g : ℕ) (h : Head) → f (edit_head (SetLink w g) h) ≡ f h

  linked_same : {A : Type 0} (f : Head → A) → Unlinking f → (a : ℕ) → a ≤ most_asked → (x : List ℕ) → head_length ≤ length x
      → f (decode_head (linked_by d a x)) ≡ f (decode_head x)
  unfolding linked_by
  linked_same f u zero s x l = refl
  linked_same f u (suc m) s x l =
      by_test (λ (y : List ℕ). f (decode_head y) ≡ f (decode_head x)) (is_used (decode_head x)) (edit_slot d (link_to m) x) x
      (λ e. ap f (changed_head d (link_to m) (link_fits m s) x l) ∙ u (m / fraction_span) (m % fraction_span) (decode_head x))
      (λ e. refl)

  -- a change that is no link
  linked_edit : (e : Edit) → NoLink d e → EditFits e → (a : ℕ) → a ≤ most_asked → (x : List ℕ) → head_length ≤ length x
      → edit_slot d e (linked_by d a x) ≡ linked_by d a (edit_slot d e x)
  unfolding linked_by
  linked_edit e n g zero s x l = refl
  linked_edit e n g (suc m) s x l =
      let y = edit_slot d e x in
      let u : is_used (decode_head y) ≡ is_used (decode_head x) =
      ap is_used (changed_head d e g x l) ∙ ap (λ (k : ℕ). eqb k 1) (edit_used e (decode_head x)) in
      by_bool (is_used (decode_head x))
      (λ t.
      ap (edit_slot d e) (cond-true (is_used (decode_head x)) (edit_slot d (link_to m) x) x t)
      ∙ link_swaps d (m / fraction_span) (m % fraction_span) (link_fits m s) e n g x l
      ∙ sym (cond-true (is_used (decode_head y)) (edit_slot d (link_to m) y) y (u ∙ t)))
      (λ t.
      ap (edit_slot d e) (cond-false (is_used (decode_head x)) (edit_slot d (link_to m) x) x t)
      ∙ sym (cond-false (is_used (decode_head y)) (edit_slot d (link_to m) y) y (u ∙ t)))

  -- a link, which is asked for in its place
  linked_link : (a : ℕ) → a ≤ most_asked → (m : ℕ) (x : List ℕ) → head_length ≤ length x → is_used (decode_head x) ≡ true
      → edit_slot d (link_to m) (linked_by d a x) ≡ linked_by d (suc m) x
  unfolding linked_by
  linked_link zero s m x l t = sym (cond-true (is_used (decode_head x)) (edit_slot d (link_to m) x) x t)
  linked_link (suc k) s m x l t =
      ap (edit_slot d (link_to m)) (cond-true (is_used (decode_head x)) (edit_slot d (link_to k) x) x t)
      ∙ link_over d (k / fraction_span) (k % fraction_span) (link_fits k s) (m / fraction_span) (m % fraction_span) x l
      ∙ sym (cond-true (is_used (decode_head x)) (edit_slot d (link_to m) x) x t)

  linked_zeros : (a n : ℕ) → linked_by d a (replicate n 0) ≡ replicate n 0
  unfolding linked_by
  linked_zeros zero n = refl
  linked_zeros (suc m) n = cond-false _ _ _ (ap is_used (decode_zeros n))

-- ---- the stores
-- what each slot's cue asked for: numbers that a link can have, and of the cues alone
pub record AskedFits (d : Desk) (asked : List ℕ) : Type 0 where
  pub room : d.cues ≤ length asked
  pub small : (i : ℕ) → get_or asked i 0 ≤ most_asked
  pub others : (i : ℕ) → d.cues ≤ i → get_or asked i 0 ≡ 0

pub asked_fits : (d : Desk) (asked : List ℕ) → AskedFits d asked → (i a : ℕ) → i < d.cues → a ≤ most_asked → AskedFits d (set asked i a)
asked_fits d asked f i a l s =
    record {
      room = let e = length-set asked i a in let r = f.room in omega arith;
      small =
          λ j.
          by_eq i j
          (λ q. subst (λ (z : ℕ). get_or (set asked i a) z 0 ≤ most_asked) q
          (let r = f.room in let e : get_or (set asked i a) i 0 ≡ a = get_or-set_same asked i a 0 (omega arith) in omega arith))
          (λ ne. subst (λ (z : ℕ). z ≤ most_asked) (sym (get_or-set_other asked i j a 0 (λ q. ne (sym q)))) (f.small j));
      others = λ j h. get_or-set_other asked i j a 0 (λ q. omega arith) ∙ f.others j h;
    }

-- v is u with those links
pub record Alike (d : Desk) (asked u v : List ℕ) : Type 0 where
  pub long : store_length d ≤ length u
  pub size : length v ≡ length u
  pub slots : (i : ℕ) → i < slots_of d → slot_at d v i ≡ linked_by d (get_or asked i 0) (slot_at d u i)
  pub past : drop (patch_start d) v ≡ drop (patch_start d) u

-- what is behind the slots
module _ (d : Desk) (s : List ℕ) (long : store_length d ≤ length s) where
  pub slot_past : (i : ℕ) → i < slots_of d → (x : List ℕ) → length x ≡ slot_length d → drop (patch_start d) (put_slot d s i x) ≡ drop (patch_start d) s
  unfolding put_slot
  slot_past i h x e =
      let a = slot_end d i h in
      let b = slots_end_lem d in
      drop_after s (i * slot_length d) x (patch_start d) (omega arith) (omega arith)

  put_past : (a : ℕ) (x : List ℕ) → drop (patch_start d) (put s (patch_start d + a) x) ≡ put (drop (patch_start d) s) a x
  put_past a x =
      let n = patch_start d in
      let b = slots_end_lem d in
      let e : length (take n s) ≡ n = length-take-le n s (omega arith) in
      let q : n + a ≡ length (take n s) + a = omega arith in
      ap (λ (z : List ℕ). drop n (put z (n + a) x)) (sym (take-append-drop n s))
      ∙ ap (drop n) (put_second (take n s) (drop n s) (n + a) a x q)
      ∙ drop_at (take n s) (put (drop n s) a x) n e

module _ (d : Desk) (asked u v : List ℕ) (f : AskedFits d asked) (p : Alike d asked u v) where
  v_long : store_length d ≤ length v
  v_long = let l = p.long in let e = p.size in omega arith

  -- ---- what is found, and what is free
  alike_head : {A : Type 0} (g : Head → A) → Unlinking d g → (i : ℕ) → i < slots_of d → g (head_at d v i) ≡ g (head_at d u i)
  unfolding head_at
  alike_head g n i h =
      ap (λ (x : List ℕ). g (decode_head x)) (p.slots i h)
      ∙ linked_same d g n (get_or asked i 0) (f.small i) (slot_at d u i) (slot_headed d u p.long i h)

  pub alike_find : (n : Name) → find d v n ≡ find d u n
  unfolding find holds_at edit_head put
  alike_find n =
      first_same (holds_at d v n.key) (holds_at d u n.key) (slot_count d n.kind) (first_slot d n.kind)
      (λ i a b.
      let e : slots_end d n.kind ≤ slots_of d = kind_end d n.kind in
      alike_head (λ (h : Head). is_used h && eq_key (key_of h) n.key) (λ w g h. refl) i (omega arith))

  lowest_alike : (k : Kind) → lowest_unused d v k ≡ lowest_unused d u k
  unfolding lowest_unused edit_head put
  lowest_alike k =
      first_same _ _ (slot_count d k) (first_slot d k)
      (λ i a b. let e : slots_end d k ≤ slots_of d = kind_end d k in alike_head (λ (h : Head). not (is_used h)) (λ w g h. refl) i (omega arith))

  new_alike : (k : Kind) (y : Key) → new_seat d v k y ≡ new_seat d u k y
  unfolding new_seat
  new_alike Cue y = lowest_alike Cue
  new_alike Group y = lowest_alike Group
  new_alike Sub y = refl

  pub alike_seat : (n : Name) → seat d v n ≡ seat d u n
  unfolding seat
  alike_seat n =
      ap (λ (a : Found). on_found a (λ i. at i) (new_seat d v n.kind n.key)) (alike_find n)
      ∙ ap (λ (a : Found). on_found (find d u n) (λ i. at i) a) (new_alike n.kind n.key)

  -- ---- a slot put in both; what its cue asked for may be another thing then
  pub put_alike : (after : List ℕ) (i : ℕ) → i < slots_of d → (x y : List ℕ) → length x ≡ slot_length d → y ≡ linked_by d (get_or after i 0) x
      → ((j : ℕ) → (i ≡ j → ⊥) → get_or after j 0 ≡ get_or asked j 0) → Alike d after (put_slot d u i x) (put_slot d v i y)
  put_alike after i h x y l e others =
      record {
        long = let a = put_length d u p.long i h x l in let b = p.long in omega arith;
        size = put_length d v v_long i h y m ∙ p.size ∙ sym (put_length d u p.long i h x l);
        slots =
            λ j g.
            by_eq i j
            (λ q.
            subst (λ (z : ℕ). slot_at d (put_slot d v i y) z ≡ linked_by d (get_or after z 0) (slot_at d (put_slot d u i x) z)) q
            (slot_same d v v_long i h y m ∙ e ∙ ap (linked_by d (get_or after i 0)) (sym (slot_same d u p.long i h x l))))
            (λ ne.
            slot_other d v v_long i h y m j ne ∙ p.slots j g
            ∙ (λ z. linked_by d (sym (others j ne) z) (sym (slot_other d u p.long i h x l j ne) z)));
        past = slot_past d v v_long i h y m ∙ p.past ∙ sym (slot_past d u p.long i h x l);
      }
    where
      m : length y ≡ slot_length d
      m = ap length e ∙ linked_length d (get_or after i 0) x (unfold slot_length in (omega arith)) ∙ l

  -- the same change in both
  edit_at_alike : (e : Edit) → NoLink d e → EditFits e → (i : ℕ) → i < slots_of d → Alike d asked (edit_at d u i e) (edit_at d v i e)
  unfolding edit_at
  edit_at_alike e n g i h =
      let x = slot_at d u i in
      let c = slot_headed d u p.long i h in
      put_alike asked i h (edit_slot d e x) (edit_slot d e (slot_at d v i)) (edit_length d e x c ∙ slot_length_lem d u p.long i h)
      (ap (edit_slot d e) (p.slots i h) ∙ linked_edit d e n g (get_or asked i 0) (f.small i) x c)
      (λ j ne. refl)

  pub edit_alike : (m : Name) (e : Edit) → NoLink d e → EditFits e → Alike d asked (edited d u m e) (edited d v m e)
  unfolding edited on_found
  edit_alike m e n g =
      subst (λ (a : Found). Alike d asked (on_found (find d u m) (λ i. edit_at d u i e) u) (on_found a (λ i. edit_at d v i e) v)) (sym (alike_find m))
      (cases (find d u m) refl)
    where
      cases : (a : Found) → find d u m ≡ a → Alike d asked (on_found a (λ i. edit_at d u i e) u) (on_found a (λ i. edit_at d v i e) v)
      cases (at i) q = edit_at_alike e n g i (found_used d u m i q).0
      cases nowhere q = p

  -- a link in v, and asked for in u
  pub link_alike : (i : ℕ) → i < d.cues → is_used (head_at d u i) ≡ true → (m : ℕ) → Alike d (set asked i (suc m)) u (edit_at d v i (link_to m))
  unfolding edit_at head_at
  link_alike i l t m =
      let h = (cue_slot d i l).0 in
      let x = slot_at d u i in
      let c = slot_headed d u p.long i h in
      let r = f.room in
      let a = slot_end d i h in
      let b = slots_end_lem d in
      let q = p.long in
      let same : put_slot d u i x ≡ u = unfold put_slot slot_at in (put_part u (i * slot_length d) (slot_length d) (omega arith)) in
      let own : get_or (set asked i (suc m)) i 0 ≡ suc m = get_or-set_same asked i (suc m) 0 (omega arith) in
      subst (λ (z : List ℕ). Alike d (set asked i (suc m)) z (put_slot d v i (edit_slot d (link_to m) (slot_at d v i)))) same
      (put_alike (set asked i (suc m)) i h x (edit_slot d (link_to m) (slot_at d v i)) (slot_length_lem d u p.long i h)
      (ap (edit_slot d (link_to m)) (p.slots i h) ∙ linked_link d (get_or asked i 0) (f.small i) m x c t ∙ ap (λ (k : ℕ). linked_by d k x) (sym own))
      (λ j ne. get_or-set_other asked i j (suc m) 0 (λ q. ne (sym q))))

  -- ---- bytes put in both behind the slots
  behind_alike : (a : ℕ) (x : List ℕ) → patch_start d + a + length x ≤ store_length d
      → Alike d asked (put u (patch_start d + a) x) (put v (patch_start d + a) x)
  behind_alike a x h =
      let l = p.long in
      let m = v_long in
      let eu = length-put u (patch_start d + a) x (omega arith) in
      let ev = length-put v (patch_start d + a) x (omega arith) in
      record {
        long = omega arith;
        size = ev ∙ p.size ∙ sym eu;
        slots = λ i g. slot_front v m i g ∙ p.slots i g ∙ ap (linked_by d (get_or asked i 0)) (sym (slot_front u l i g));
        past = put_past d v m a x ∙ ap (λ (z : List ℕ). put z a x) p.past ∙ sym (put_past d u l a x);
      }
    where
      slot_front : (s : List ℕ) → store_length d ≤ length s → (i : ℕ) → i < slots_of d → slot_at d (put s (patch_start d + a) x) i ≡ slot_at d s i
      slot_front s long i g =
          let e = slot_end d i g in
          unfold slot_at in (part_before s (patch_start d + a) x (i * slot_length d) (slot_length d) (omega arith) (omega arith))

  pub patch_alike : (page dimmer channel level : ℕ) → Within 1 page d.patch_pages → Within 1 dimmer d.dimmers
      → Alike d asked (patched d u page dimmer channel level) (patched d v page dimmer channel level)
  unfolding patched put_entry
  patch_alike page dimmer channel level hp hd =
      let i = entry_of d page dimmer in
      let w = entry_end d i (entry_inside d page dimmer hp hd) in
      let e : length (encode_patch (patch_entry channel level)) ≡ entry_length_of = length-encode_patch (patch_entry channel level) in
      behind_alike (i * entry_length_of) (encode_patch (patch_entry channel level)) (omega arith)

  zeros_alike : (a n : ℕ) → patch_start d + a + n ≤ store_length d
      → Alike d asked (put u (patch_start d + a) (replicate n 0)) (put v (patch_start d + a) (replicate n 0))
  zeros_alike a n h = let e : length (replicate n (zero)) ≡ n = length-replicate n 0 in behind_alike a (replicate n 0) (omega arith)

  either : (b : Bool) (x y : List ℕ → List ℕ) → (b ≡ true → Alike d asked (x u) (x v)) → (b ≡ false → Alike d asked (y u) (y v))
      → Alike d asked (cond b (x u) (y u)) (cond b (x v) (y v))
  either true x y g h = g refl
  either false x y g h = h refl

  pub clear_patch_alike : (q : ℕ) → q ≤ d.patch_pages → Alike d asked (cleared_patch d u q) (cleared_patch d v q)
  unfolding cleared_patch store_length
  clear_patch_alike q h =
      let z : patch_start d + 0 ≡ patch_start d = omega arith in
      either (eqb q every_page)
      (λ s. put s (patch_start d) (replicate (entries_of d * entry_length_of) 0))
      (λ s. put s (patch_start d + (q - 1) * patch_page_length d) (replicate (patch_page_length d) 0))
      (λ e.
      subst (λ (k : ℕ). Alike d asked (put u k (replicate (entries_of d * entry_length_of) 0)) (put v k (replicate (entries_of d * entry_length_of) 0))) z
      (zeros_alike 0 (entries_of d * entry_length_of) (omega arith)))
      (λ e.
      let ne : q ≡ 0 → ⊥ = eqb-false q 0 e in
      zeros_alike ((q - 1) * patch_page_length d) (patch_page_length d) (page_end d u u p.long q (omega arith) h))

  -- ---- a slot cleared in both
  wipe_alike : (q i : ℕ) → i < slots_of d
      → Alike d asked (cond (hits_at d u q i) (put_slot d u i (replicate (slot_length d) 0)) u)
      (cond (hits_at d v q i) (put_slot d v i (replicate (slot_length d) 0)) v)
  unfolding hits_at edit_head put
  wipe_alike q i h =
      let z : List ℕ = replicate (slot_length d) 0 in
      let e : hits_at d v q i ≡ hits_at d u q i = alike_head (λ (x : Head). is_used x && on_page q x.page) (λ w g x. refl) i h in
      subst (λ (b : Bool). Alike d asked (cond (hits_at d u q i) (put_slot d u i z) u) (cond b (put_slot d v i z) v)) (sym e)
      (either (hits_at d u q i) (λ s. put_slot d s i z) (λ s. s)
      (λ t. put_alike asked i h z z (length-replicate (slot_length d) 0) (sym (linked_zeros d (get_or asked i 0) (slot_length d))) (λ j ne. refl))
      (λ t. p))

module _ (d : Desk) (asked : List ℕ) (f : AskedFits d asked) where
  from_alike : (q n i : ℕ) → i + n ≤ slots_of d → (u v : List ℕ) → Alike d asked u v → Alike d asked (clear_from d q n i u) (clear_from d q n i v)
  unfolding clear_from
  from_alike q zero i h u v p = p
  from_alike q (suc n) i h u v p = from_alike q n (suc i) (omega arith) _ _ (wipe_alike d asked u v f p q i (omega arith))

  pub clear_alike : (k : Kind) (q : ℕ) (u v : List ℕ) → Alike d asked u v → Alike d asked (cleared d u k q) (cleared d v k q)
  unfolding cleared
  clear_alike k q u v p = from_alike q (slot_count d k) (first_slot d k) (kind_end d k) u v p
