-- Changing a memory: its view and good form. By the laws of a slot put at its rightful place, and of heads there and back.
-- Assumes nothing.
use mathlib.Core.Path.{◌≡◌, refl, sym, ap, ◌∙◌, subst}
use mathlib.Core.Bool.{Bool, true, false, cond, ◌&&◌}
use mathlib.Core.List.{List, [], ◌∷◌, ◌++◌}
use Prim.Native.Nat.{ℕ, ◌<◌, ◌≤◌}
use native.Mathlib.Omega.{arith}
use lib.Dec.{eqb, leb}
use lib.ListN.{length, take, drop, length-append, length-drop, length-set}
use lib.Seq.{length-take-le, take_at, drop_at}
use borrow.Author.Tests.{eqb-true, eq-eqb, ne_eqb, le-leb, leb-true}
use Rattle.cells.specs.Put.{put}
use Rattle.cells.specs.Search.{Found, at, nowhere}
use Rattle.cells.proofs.Search.{first_same}
use Rattle.cells.proofs.Put.{put_zero}
use Rattle.cells.proofs.Split.{by_bool, by_eq, cond-true, cond-false, and_true, and_left, and_right}
use Rattle.value.specs.Time.{time_max}
use Rattle.store_desk.specs.declared.Desk.{Desk}
use Rattle.store_desk.specs.declared.Key.{Key}
use Rattle.store_desk.specs.declared.Kind.{Kind}
use Rattle.store_desk.specs.declared.Kind.TheVariants.{Cue, Group, Sub}
use Rattle.store_desk.specs.Size.{head_length, slot_length, slots_of, store_length}
use Rattle.store_desk.specs.Name.{Name, first_slot, slot_count, kind_at, eq_key, eq_name, ok_number}
use Rattle.store_desk.proofs.Name.{eq_name_lem, ok_number_lem}
use Rattle.store_head.specs.declared.Head.{Head}
use Rattle.store_head.specs.Layout.{encode_head, decode_head}
use Rattle.store_head.specs.Fits.{HeadFits}
use Rattle.store_head.proofs.Laws.{decode_encode, length_encode, decode_take, decode_fits}
use Rattle.store.specs.declared.Edit.{Edit}
use Rattle.store.specs.declared.Edit.TheVariants.{Up, Down, Followon, Link, Level}
use Rattle.store.specs.Slots.{slot_at, entry_at, head_at, level_place, put_level, key_of, is_used, holds_at, find, on_found}
use Rattle.store.specs.View.{Memory, Kept, absent, kept, memory_at, memory_of}
use Rattle.store.specs.Change.{edit_head, with_head, edit_slot, edit_at, edited}
use Rattle.store.specs.Form.{has_times, has_link, time_fits, link_fits, values_fit}
use Rattle.store.specs.Memories.{memory_in, edit_levels, edit_memory, map_kept, can_have}
use Rattle.store.specs.Fits.{EditFits, InTime}
use Rattle.store.specs.Good.{Ready}
use Rattle.store.proofs.Places.{slot_length_lem, slot_headed, put_length, slot_same, slot_other, slot_patch, slot_tail}
use Rattle.store.proofs.Levels.{level_slot}
use Rattle.store.proofs.Find.{memory_in_lem, holds_same, Placed, put_view}
use Rattle.store.proofs.Form.{used_values, placed_found, put_good}
use Rattle.store.proofs.Start.{found_used, found_ok, place_found, absent_at}

-- ---- a changed head: it is used as before, under the same key, and fits
pub edit_used : (e : Edit) (h : Head) → (edit_head e h).used ≡ h.used
unfolding edit_head put
edit_used (Up f y) h = refl
edit_used (Down f y) h = refl
edit_used (Followon t) h = refl
edit_used (Link w f) h = refl
edit_used (Level c v) h = refl

pub edit_key : (e : Edit) (h : Head) → key_of (edit_head e h) ≡ key_of h
unfolding edit_head put
edit_key (Up f y) h = refl
edit_key (Down f y) h = refl
edit_key (Followon t) h = refl
edit_key (Link w f) h = refl
edit_key (Level c v) h = refl

pub edit_fits : (e : Edit) (h : Head) → HeadFits h → EditFits e → HeadFits (edit_head e h)
unfolding edit_head put
edit_fits (Up a y) h f g = omega arith
edit_fits (Down a y) h f g = omega arith
edit_fits (Followon t) h f g = omega arith
edit_fits (Link w a) h f g = omega arith
edit_fits (Level c v) h f g = f

-- ---- a changed slot holds the changed memory
with_head_lem : (e : Edit) (x : List ℕ) → with_head e x ≡ encode_head (edit_head e (decode_head x)) ++ drop head_length x
unfolding with_head
with_head_lem e x =
    let h = encode_head (edit_head e (decode_head x)) in
    put_zero x h ∙ ap (λ (k : ℕ). h ++ drop k x) (length_encode (edit_head e (decode_head x)))

with_length : (e : Edit) (x : List ℕ) → head_length ≤ length x → length (with_head e x) ≡ length x
with_length e x l =
    let h = encode_head (edit_head e (decode_head x)) in
    let a : length (with_head e x) ≡ length (h ++ drop head_length x) = ap length (with_head_lem e x) in
    let b = length-append h (drop head_length x) in
    let c = length_encode (edit_head e (decode_head x)) in
    let y = length-drop head_length x in
    omega arith

with_memory : (e : Edit) (x : List ℕ) → EditFits e → memory_in (with_head e x) ≡ record { head = edit_head e (decode_head x); levels = drop head_length x }
unfolding memory_in
with_memory e x g =
    let h = edit_head e (decode_head x) in
    ap memory_in (with_head_lem e x)
    ∙ (λ i.
    record {
      head = decode_encode h (edit_fits e (decode_head x) (decode_fits x) g) (drop head_length x) i;
      levels = drop_at (encode_head h) (drop head_length x) head_length (length_encode h) i;
    })

pub edit_length : (d : Desk) (e : Edit) (x : List ℕ) → head_length ≤ length x → length (edit_slot d e x) ≡ length x
unfolding edit_slot
edit_length d (Up f y) x l = with_length (Up f y) x l
edit_length d (Down f y) x l = with_length (Down f y) x l
edit_length d (Followon t) x l = with_length (Followon t) x l
edit_length d (Link w f) x l = with_length (Link w f) x l
edit_length d (Level c v) x l = ap length (sym (level_slot d c v x)) ∙ length-set x (level_place d c) v

pub edit_memory_lem : (d : Desk) (e : Edit) (x : List ℕ) → head_length ≤ length x → EditFits e → memory_in (edit_slot d e x) ≡ edit_memory d e (memory_in x)
unfolding edit_slot edit_memory edit_levels memory_in edit_head put
edit_memory_lem d (Up f y) x l g = with_memory (Up f y) x g
edit_memory_lem d (Down f y) x l g = with_memory (Down f y) x g
edit_memory_lem d (Followon t) x l g = with_memory (Followon t) x g
edit_memory_lem d (Link w f) x l g = with_memory (Link w f) x g
edit_memory_lem d (Level c v) x l g =
    let h = take head_length x in
    let ls = put_level d (drop head_length x) c v in
    let n : length h ≡ head_length = length-take-le head_length x l in
    let e : decode_head (h ++ ls) ≡ decode_head x =
    sym (decode_take (h ++ ls)) ∙ ap decode_head (take_at h ls head_length n) ∙ decode_take x
    in
    λ i. record { head = e i; levels = drop_at h ls head_length n i }

-- ---- changed in the store
pub edited-at : (d : Desk) (s : List ℕ) (n : Name) (e : Edit) (i : ℕ) → find d s n ≡ at i → edited d s n e ≡ edit_at d s i e
unfolding edited on_found
edited-at d s n e i f = ap (λ (a : Found). on_found a (λ j. edit_at d s j e) s) f

pub edited_absent : (d : Desk) (s : List ℕ) (n : Name) (e : Edit) → find d s n ≡ nowhere → edited d s n e ≡ s
unfolding edited on_found
edited_absent d s n e f = ap (λ (a : Found). on_found a (λ j. edit_at d s j e) s) f

view_at : (d : Desk) (s : List ℕ) (n : Name) (i : ℕ) → find d s n ≡ at i → memory_of d s n ≡ kept (memory_in (slot_at d s i))
unfolding memory_of on_found
view_at d s n i e = ap (λ (a : Found). on_found a (λ j. kept (memory_at d s j)) absent) e ∙ ap kept (memory_in_lem d s i)

module _ (d : Desk) (s : List ℕ) (r : Ready d s) (n : Name) (e : Edit) (g : EditFits e) where
  module _ (i : ℕ) (f : find d s n ≡ at i) where
    x : List ℕ
    x = edit_slot d e (slot_at d s i)

    inside : i < slots_of d
    inside = (found_used d s n i f).0

    length_there : length x ≡ slot_length d
    unfolding x
    length_there = edit_length d e (slot_at d s i) (slot_headed d s r.long i inside) ∙ slot_length_lem d s r.long i inside

    head_there : decode_head x ≡ edit_head e (head_at d s i)
    unfolding x edit_memory memory_in head_at
    head_there = ap (λ (z : Memory). z.head) (edit_memory_lem d e (slot_at d s i) (slot_headed d s r.long i inside) g)

    used_there : is_used (decode_head x) ≡ true
    used_there = ap is_used head_there ∙ ap (λ (z : ℕ). eqb z 1) (edit_used e (head_at d s i)) ∙ (found_used d s n i f).1

    key_there : key_of (decode_head x) ≡ n.key
    key_there = ap key_of head_there ∙ edit_key e (head_at d s i) ∙ ap (λ (z : Name). z.key) (found_used d s n i f).2

    placed : Placed d s n i
    placed = placed_found d s r.form n i f

  edit_at_view : (i : ℕ) → find d s n ≡ at i → (m : Name)
      → memory_of d (edited d s n e) m ≡ cond (eq_name m n) (kept (edit_memory d e (memory_in (slot_at d s i)))) (memory_of d s m)
  unfolding x edit_at
  edit_at_view i f m =
      ap (λ (t : List ℕ). memory_of d t m) (edited-at d s n e i f)
      ∙ put_view d s r.long n i (placed i f) (x i f) (length_there i f) (used_there i f) (key_there i f) m
      ∙ ap (λ (z : Memory). cond (eq_name m n) (kept z) (memory_of d s m)) (edit_memory_lem d e (slot_at d s i) (slot_headed d s r.long i (inside i f)) g)

  pub edit_view : (m : Name) → memory_of d (edited d s n e) m ≡ cond (eq_name m n) (map_kept (edit_memory d e) (memory_of d s n)) (memory_of d s m)
  edit_view m = cases (find d s n) refl
    where
      cases : (a : Found) → find d s n ≡ a
          → memory_of d (edited d s n e) m ≡ cond (eq_name m n) (map_kept (edit_memory d e) (memory_of d s n)) (memory_of d s m)
      cases (at i) f =
          edit_at_view i f m
          ∙ ap (λ (z : Kept). cond (eq_name m n) z (memory_of d s m))
          (sym (ap (map_kept (edit_memory d e)) (view_at d s n i f) ∙ (unfold map_kept in refl)))
      cases nowhere f =
          let a : memory_of d s n ≡ absent = absent_at d s n f in
          let b : map_kept (edit_memory d e) (memory_of d s n) ≡ absent = ap (map_kept (edit_memory d e)) a ∙ (unfold map_kept in refl) in
          ap (λ (t : List ℕ). memory_of d t m) (edited_absent d s n e f)
          ∙ by_bool (eq_name m n)
          (λ t.
          ap (memory_of d s) (eq_name_lem m n t) ∙ a ∙ sym b
          ∙ sym (cond-true (eq_name m n) (map_kept (edit_memory d e) (memory_of d s n)) (memory_of d s m) t))
          (λ t. sym (cond-false (eq_name m n) (map_kept (edit_memory d e) (memory_of d s n)) (memory_of d s m) t))

  -- the patch and the bytes past the needed length stay
  pub edit_patch : (j : ℕ) → entry_at d (edited d s n e) j ≡ entry_at d s j
  unfolding x edit_at
  edit_patch j = cases (find d s n) refl
    where
      cases : (a : Found) → find d s n ≡ a → entry_at d (edited d s n e) j ≡ entry_at d s j
      cases (at i) f =
          ap (λ (t : List ℕ). entry_at d t j) (edited-at d s n e i f) ∙ slot_patch d s r.long i (inside i f) (x i f) (length_there i f) j
      cases nowhere f = ap (λ (t : List ℕ). entry_at d t j) (edited_absent d s n e f)

  pub edit_tail : drop (store_length d) (edited d s n e) ≡ drop (store_length d) s
  unfolding x edit_at
  edit_tail = cases (find d s n) refl
    where
      cases : (a : Found) → find d s n ≡ a → drop (store_length d) (edited d s n e) ≡ drop (store_length d) s
      cases (at i) f = ap (drop (store_length d)) (edited-at d s n e i f) ∙ slot_tail d s r.long i (inside i f) (x i f) (length_there i f)
      cases nowhere f = ap (drop (store_length d)) (edited_absent d s n e f)

-- ---- a change at a slot, in a store of any form: every memory is found where it was
module _ (d : Desk) (s : List ℕ) (long : store_length d ≤ length s) (i : ℕ) (h : i < slots_of d) (e : Edit) (g : EditFits e) where
  pub change_length : length (edit_slot d e (slot_at d s i)) ≡ slot_length d
  change_length = edit_length d e (slot_at d s i) (slot_headed d s long i h) ∙ slot_length_lem d s long i h

  pub edit_at-length : length (edit_at d s i e) ≡ length s
  unfolding edit_at
  edit_at-length = put_length d s long i h (edit_slot d e (slot_at d s i)) change_length

  pub edit_at_head : head_at d (edit_at d s i e) i ≡ edit_head e (head_at d s i)
  unfolding edit_at head_at edit_memory memory_in
  edit_at_head =
      ap decode_head (slot_same d s long i h (edit_slot d e (slot_at d s i)) change_length)
      ∙ ap (λ (z : Memory). z.head) (edit_memory_lem d e (slot_at d s i) (slot_headed d s long i h) g)

  edit_at_holds : (key : Key) (j : ℕ) → holds_at d (edit_at d s i e) key j ≡ holds_at d s key j
  unfolding holds_at
  edit_at_holds key j =
      by_eq i j
      (λ q.
      subst (λ (z : ℕ). holds_at d (edit_at d s i e) key z ≡ holds_at d s key z) q
      (ap (λ (y : Head). is_used y && eq_key (key_of y) key) edit_at_head
      ∙ ap (λ (u : ℕ). eqb u 1 && eq_key (key_of (edit_head e (head_at d s i))) key) (edit_used e (head_at d s i))
      ∙ ap (λ (y : Key). is_used (head_at d s i) && eq_key y key) (edit_key e (head_at d s i))))
      (λ ne. holds_same d (edit_at d s i e) s key j (unfold edit_at in (slot_other d s long i h (edit_slot d e (slot_at d s i)) change_length j ne)))

  pub edit_at-find : (m : Name) → find d (edit_at d s i e) m ≡ find d s m
  unfolding find
  edit_at-find m =
      first_same (holds_at d (edit_at d s i e) m.key) (holds_at d s m.key) (slot_count d m.kind) (first_slot d m.kind)
      (λ j a b. edit_at_holds m.key j)

pub edited-length : (d : Desk) (s : List ℕ) → store_length d ≤ length s → (n : Name) (e : Edit) → EditFits e → length (edited d s n e) ≡ length s
edited-length d s long n e g = cases (find d s n) refl
  where
    cases : (a : Found) → find d s n ≡ a → length (edited d s n e) ≡ length s
    cases (at i) f = ap length (edited-at d s n e i f) ∙ edit_at-length d s long i (found_used d s n i f).0 e g
    cases nowhere f = ap length (edited_absent d s n e f)

-- ---- by computation, 001 §6.3: what CUE, GROUP and SUB can have of UP, DOWN, FOLLOWON, LINK and CHAN
abbrev pub row : Kind → List Bool
row k = can_have k (Up 0 0) ∷ can_have k (Down 0 0) ∷ can_have k (Followon 0) ∷ can_have k (Link 0 0) ∷ can_have k (Level 1 0) ∷ []

pub secondaries : row Cue ++ (row Group ++ row Sub)
    ≡ true ∷ true ∷ true ∷ true ∷ true ∷ false ∷ false ∷ false ∷ false ∷ true ∷ true ∷ true ∷ false ∷ false ∷ true ∷ []
unfolding can_have has_times has_link
secondaries = refl

-- ---- good form
pub in_time_fits : (e : Edit) → InTime e → EditFits e
in_time_fits (Up f y) h = omega arith
in_time_fits (Down f y) h = omega arith
in_time_fits (Followon t) h = omega arith
in_time_fits (Link w f) h = let o = ok_number_lem w f h in omega arith
in_time_fits (Level c v) h = tt

-- the seven tests of a head's values, taken apart and joined
pub record Values (k : Kind) (h : Head) : Type 0 where
  pub up_fade_of : time_fits (has_times k) h.up h.up_fade ≡ true
  pub up_delay_of : time_fits (has_times k) h.up h.up_delay ≡ true
  pub down_fade_of : time_fits (has_times k) h.down h.down_fade ≡ true
  pub down_delay_of : time_fits (has_times k) h.down h.down_delay ≡ true
  pub followon : time_fits (has_link k) h.followon h.followon_time ≡ true
  pub link : link_fits (has_link k) h ≡ true
  pub rest : eqb h.rest 0 ≡ true

seven_apart : (a b c x y z w : Bool) → (a && b && c && x && y && z && w) ≡ true
    → (a ≡ true) × (b ≡ true) × (c ≡ true) × (x ≡ true) × (y ≡ true) × (z ≡ true) × (w ≡ true)
seven_apart a b c x y z w e =
    let f₆ = and_left (a && b && c && x && y && z) w e in
    let f₅ = and_left (a && b && c && x && y) z f₆ in
    let f₄ = and_left (a && b && c && x) y f₅ in
    let f₃ = and_left (a && b && c) x f₄ in
    let f₂ = and_left (a && b) c f₃ in (
      and_left a b f₂,
      and_right a b f₂,
      and_right (a && b) c f₃,
      and_right (a && b && c) x f₄,
      and_right (a && b && c && x) y f₅,
      and_right (a && b && c && x && y) z f₆,
      and_right (a && b && c && x && y && z) w e,
    )

seven_joined : (a b c x y z w : Bool) → a ≡ true → b ≡ true → c ≡ true → x ≡ true → y ≡ true → z ≡ true → w ≡ true → (a && b && c && x && y && z && w) ≡ true
seven_joined a b c x y z w p q r s t u v =
    and_true (a && b && c && x && y && z) w
    (and_true (a && b && c && x && y) z (and_true (a && b && c && x) y (and_true (a && b && c) x (and_true (a && b) c (and_true a b p q) r) s) t) u)
    v

pub values_of : (k : Kind) (h : Head) → values_fit k h ≡ true → Values k h
unfolding values_fit
values_of k h e =
    let t = seven_apart _ _ _ _ _ _ _ e in
    record { up_fade_of = t.0; up_delay_of = t.1; down_fade_of = t.2; down_delay_of = t.3; followon = t.4; link = t.5; rest = t.6 }

pub of_values : (k : Kind) (h : Head) → Values k h → values_fit k h ≡ true
unfolding values_fit
of_values k h v = seven_joined _ _ _ _ _ _ _ v.up_fade_of v.up_delay_of v.down_fade_of v.down_delay_of v.followon v.link v.rest

-- a time in good form, there or not, is in range
pub time_in : (can : Bool) (present time : ℕ) → time_fits can present time ≡ true → time ≤ time_max
time_in can present time e =
    by_eq present 0
    (λ z.
    let f : eqb time 0 ≡ true = sym (cond-true (eqb present 0) (eqb time 0) (can && leb time time_max) (eq-eqb present 0 z)) ∙ e in
    let g : time ≡ 0 = eqb-true time 0 f in
    omega arith)
    (λ ne.
    let f : (can && leb time time_max) ≡ true = sym (cond-false (eqb present 0) (eqb time 0) (can && leb time time_max) (ne_eqb present 0 ne)) ∙ e in
    leb-true time time_max (and_right can (leb time time_max) f))

time_set : (can : Bool) (t : ℕ) → can ≡ true → t ≤ time_max → time_fits can 1 t ≡ true
time_set can t c l = and_true can (leb t time_max) c (le-leb t time_max l)

pub edit_values : (k : Kind) (e : Edit) (h : Head) → values_fit k h ≡ true → can_have k e ≡ true → InTime e → values_fit k (edit_head e h) ≡ true
unfolding can_have edit_head put link_fits
edit_values k (Up f y) h v c t =
    let w = values_of k h v in
    of_values k (edit_head (Up f y) h)
    (record {
      up_fade_of = time_set (has_times k) f c t.0;
      up_delay_of = time_set (has_times k) y c t.1;
      down_fade_of = w.down_fade_of;
      down_delay_of = w.down_delay_of;
      followon = w.followon;
      link = w.link;
      rest = w.rest;
    })
edit_values k (Down f y) h v c t =
    let w = values_of k h v in
    of_values k (edit_head (Down f y) h)
    (record {
      up_fade_of = w.up_fade_of;
      up_delay_of = w.up_delay_of;
      down_fade_of = time_set (has_times k) f c t.0;
      down_delay_of = time_set (has_times k) y c t.1;
      followon = w.followon;
      link = w.link;
      rest = w.rest;
    })
edit_values k (Followon a) h v c t =
    let w = values_of k h v in
    of_values k (edit_head (Followon a) h)
    (record {
      up_fade_of = w.up_fade_of;
      up_delay_of = w.up_delay_of;
      down_fade_of = w.down_fade_of;
      down_delay_of = w.down_delay_of;
      followon = time_set (has_link k) a c t;
      link = w.link;
      rest = w.rest;
    })
edit_values k (Link a f) h v c t =
    let w = values_of k h v in
    of_values k (edit_head (Link a f) h)
    (record {
      up_fade_of = w.up_fade_of;
      up_delay_of = w.up_delay_of;
      down_fade_of = w.down_fade_of;
      down_delay_of = w.down_delay_of;
      followon = w.followon;
      link = and_true (has_link k) (ok_number a f) c t;
      rest = w.rest;
    })
edit_values k (Level a l) h v c t = v

pub edit_good : (d : Desk) (s : List ℕ) → Ready d s → (n : Name) (e : Edit) → can_have n.kind e ≡ true → InTime e → Ready d (edited d s n e)
unfolding x edit_at
edit_good d s r n e c t = cases (find d s n) refl
  where
    cases : (a : Found) → find d s n ≡ a → Ready d (edited d s n e)
    cases nowhere f = subst (Ready d) (sym (edited_absent d s n e f)) r
    cases (at i) f =
        let g = in_time_fits e t in
        let u = found_used d s n i f in
        let k : kind_at d i ≡ n.kind = ap (λ (z : Name). z.kind) u.2 in
        let v : values_fit n.kind (head_at d s i) ≡ true =
        subst (λ (z : Kind). values_fit z (head_at d s i) ≡ true) k (used_values d s r.form i u.0 u.1)
        in
        subst (Ready d) (sym (edited-at d s n e i f))
        (put_good d s r n i (placed d s r n e g i f) (x d s r n e g i f) (length_there d s r n e g i f) (used_there d s r n e g i f) (key_there d s r n e g i f)
        (found_ok d s r.form n i f)
        (place_found d s r.form n i f)
        (ap (values_fit n.kind) (head_there d s r n e g i f) ∙ edit_values n.kind e (head_at d s i) v c t))
