-- Where a memory is found, and the view, after a slot that holds a name is put at its rightful place: one equation over all names.
-- By the laws of slots and of searches.
-- Assumes nothing.
use mathlib.Core.Path.{◌≡◌, refl, sym, ap, ◌∙◌, subst}
use mathlib.Core.Bool.{Bool, true, false, cond, ◌&&◌}
use mathlib.Core.List.{List}
use Prim.Native.Nat.{ℕ, ◌<◌, ◌≤◌}
use native.Mathlib.Omega.{arith}
use lib.ListN.{length}
use Rattle.cells.specs.Search.{Found, at, nowhere, IsFirst}
use Rattle.cells.proofs.Search.{first_is, first_same, first-at}
use Rattle.cells.proofs.Split.{by_bool, by_eq, cond-true, cond-false, clash, and_true, and_left, and_right, and_false_left}
use Rattle.store_desk.specs.declared.Desk.{Desk}
use Rattle.store_desk.specs.declared.Key.{Key}
use Rattle.store_desk.specs.Size.{slot_length, slots_of, store_length}
use Rattle.store_desk.specs.Name.{Name, first_slot, slot_count, slots_end, kind_at, eq_key, eq_name}
use Rattle.store_desk.proofs.Name.{eq_key_lem, eq_key-true, eq_name_lem, eq_name-key, kind_of, kind_end}
use Rattle.store_head.specs.Layout.{decode_head}
use Rattle.store_head.specs.Fits.{HeadFits}
use Rattle.store_head.proofs.Laws.{decode_fits}
use Rattle.store.specs.Slots.{slot_at, put_slot, head_at, levels_at, key_of, is_used, holds_at, find, on_found}
use Rattle.store.specs.View.{Memory, absent, kept, memory_at, memory_of}
use Rattle.store.specs.Memories.{memory_in}
use Rattle.store.proofs.Places.{slot_same, slot_other}

-- ---- what depends on a slot's bytes alone
pub head_same : (d : Desk) (s t : List ℕ) (i : ℕ) → slot_at d s i ≡ slot_at d t i → head_at d s i ≡ head_at d t i
unfolding head_at
head_same d s t i e = ap decode_head e

pub holds_same : (d : Desk) (s t : List ℕ) (key : Key) (i : ℕ) → slot_at d s i ≡ slot_at d t i → holds_at d s key i ≡ holds_at d t key i
unfolding holds_at head_at
holds_same d s t key i e = ap (λ (x : List ℕ). is_used (decode_head x) && eq_key (key_of (decode_head x)) key) e

pub memory_in_lem : (d : Desk) (s : List ℕ) (i : ℕ) → memory_at d s i ≡ memory_in (slot_at d s i)
unfolding memory_at memory_in head_at levels_at
memory_in_lem d s i = refl

pub head_fits : (d : Desk) (s : List ℕ) (i : ℕ) → HeadFits (head_at d s i)
unfolding head_at
head_fits d s i = decode_fits (slot_at d s i)

-- ---- kept, or not
pub kept_inj : {m k : Memory} → kept m ≡ kept k → m ≡ k
kept_inj e = cc

pub kept-absent : {m : Memory} → kept m ≡ absent → ⊥
kept-absent e = let z : ◌≡◌ {A = ℕ} 0 1 = cc in omega arith

-- ---- a used slot holds its own key and no other
pub holds_own : (d : Desk) (s : List ℕ) (key : Key) (i : ℕ) → holds_at d s key i ≡ true → (is_used (head_at d s i) ≡ true) × (key_of (head_at d s i) ≡ key)
unfolding holds_at
holds_own d s key i e =
    let a = is_used (head_at d s i) in
    let b = eq_key (key_of (head_at d s i)) key in
    (and_left a b e, eq_key_lem (key_of (head_at d s i)) key (and_right a b e))

pub holds_true : (d : Desk) (s : List ℕ) (key : Key) (i : ℕ) → is_used (head_at d s i) ≡ true → key_of (head_at d s i) ≡ key → holds_at d s key i ≡ true
unfolding holds_at
holds_true d s key i u k = and_true (is_used (head_at d s i)) (eq_key (key_of (head_at d s i)) key) u (eq_key-true _ key k)

pub holds_unused : (d : Desk) (s : List ℕ) (key : Key) (i : ℕ) → is_used (head_at d s i) ≡ false → holds_at d s key i ≡ false
unfolding holds_at
holds_unused d s key i u = and_false_left (is_used (head_at d s i)) (eq_key (key_of (head_at d s i)) key) u

pub holds_one : (d : Desk) (s : List ℕ) (a b : Key) (i : ℕ) → holds_at d s a i ≡ true → eq_key b a ≡ false → holds_at d s b i ≡ false
holds_one d s a b i e f =
    by_bool (holds_at d s b i)
    (λ t. clash (eq_key-true b a (sym (holds_own d s b i t).1 ∙ (holds_own d s a i e).1)) f)
    (λ t. t)

-- ---- a place of the name's kind; no other slot holds the name, and it holds no other name
pub record Placed (d : Desk) (s : List ℕ) (n : Name) (i : ℕ) : Type 0 where
  pub from : first_slot d n.kind ≤ i
  pub below : i < slots_end d n.kind
  pub only : (j : ℕ) → first_slot d n.kind ≤ j → j < slots_end d n.kind → (i ≡ j → ⊥) → holds_at d s n.key j ≡ false
  pub free : (key : Key) → eq_key key n.key ≡ false → holds_at d s key i ≡ false

pub placed_slot : (d : Desk) (s : List ℕ) (n : Name) (i : ℕ) → Placed d s n i → i < slots_of d
placed_slot d s n i p =
    let a = kind_end d n.kind in
    let b = p.below in
    omega arith

module _ (d : Desk) (s : List ℕ) (long : store_length d ≤ length s) (n : Name) (i : ℕ) (p : Placed d s n i)
    (x : List ℕ) (e : length x ≡ slot_length d) (u : is_used (decode_head x) ≡ true) (k : key_of (decode_head x) ≡ n.key) where
  there : slot_at d (put_slot d s i x) i ≡ x
  there = slot_same d s long i (placed_slot d s n i p) x e

  else_where : (j : ℕ) → (i ≡ j → ⊥) → slot_at d (put_slot d s i x) j ≡ slot_at d s j
  else_where j ne = slot_other d s long i (placed_slot d s n i p) x e j ne

  holds_there : (key : Key) → holds_at d (put_slot d s i x) key i ≡ eq_key n.key key
  unfolding holds_at head_at
  holds_there key =
      ap (λ (z : List ℕ). is_used (decode_head z) && eq_key (key_of (decode_head z)) key) there
      ∙ ap (λ (b : Bool). b && eq_key (key_of (decode_head x)) key) u
      ∙ ap (λ (z : Key). eq_key z key) k

  holds_else : (key : Key) (j : ℕ) → (i ≡ j → ⊥) → holds_at d (put_slot d s i x) key j ≡ holds_at d s key j
  holds_else key j ne = holds_same d (put_slot d s i x) s key j (else_where j ne)

  found_own : find d (put_slot d s i x) n ≡ at i
  unfolding find
  found_own =
      first_is (holds_at d (put_slot d s i x) n.key) (slot_count d n.kind) (first_slot d n.kind) i
      (record {
        from = p.from;
        below = p.below;
        passes = holds_there n.key ∙ eq_key-true n.key n.key refl;
        before =
            λ j h l.
            let b = p.below in
            let ne : i ≡ j → ⊥ = λ q. omega arith in
            holds_else n.key j ne ∙ p.only j h (omega arith) ne;
      })

  -- a name of the same kind that is another has another key
  other_key : (m : Name) → eq_name m n ≡ false → m.kind ≡ n.kind → eq_key m.key n.key ≡ false
  other_key m f q = sym (eq_name-key m n q) ∙ f

  found_other : (m : Name) → eq_name m n ≡ false → find d (put_slot d s i x) m ≡ find d s m
  unfolding find
  found_other m f =
      first_same (holds_at d (put_slot d s i x) m.key) (holds_at d s m.key) (slot_count d m.kind) (first_slot d m.kind)
      (λ j h l.
      by_eq i j
      (λ q.
      let km : m.kind ≡ n.kind =
      sym (kind_of d m.kind i (subst (λ (z : ℕ). first_slot d m.kind ≤ z) (sym q) h) (subst (λ (z : ℕ). z < slots_end d m.kind) (sym q) l))
      ∙ kind_of d n.kind i p.from p.below
      in
      let fk : eq_key m.key n.key ≡ false = other_key m f km in
      let a : holds_at d (put_slot d s i x) m.key i ≡ false =
      holds_there m.key
      ∙ by_bool (eq_key n.key m.key) (λ t. clash (eq_key-true m.key n.key (sym (eq_key_lem n.key m.key t))) fk) (λ t. t)
      in
      subst (λ (z : ℕ). holds_at d (put_slot d s i x) m.key z ≡ holds_at d s m.key z) q (a ∙ sym (p.free m.key fk)))
      (λ ne. holds_else m.key j ne))

  pub put_find : (m : Name) → find d (put_slot d s i x) m ≡ cond (eq_name m n) (at i) (find d s m)
  put_find m =
      by_bool (eq_name m n)
      (λ t. ap (λ (z : Name). find d (put_slot d s i x) z) (eq_name_lem m n t) ∙ found_own ∙ sym (cond-true (eq_name m n) (at i) (find d s m) t))
      (λ f. found_other m f ∙ sym (cond-false (eq_name m n) (at i) (find d s m) f))

  -- the slot that is found for another name is another slot
  not_there : (m : Name) → eq_name m n ≡ false → (j : ℕ) → find d s m ≡ at j → i ≡ j → ⊥
  unfolding find
  not_there m f j g q =
      let r : IsFirst (holds_at d s m.key) (slot_count d m.kind) (first_slot d m.kind) j = first-at _ _ _ j g in
      let km : m.kind ≡ n.kind =
      sym (kind_of d m.kind j r.from r.below) ∙ ap (λ (z : ℕ). kind_at d z) (sym q) ∙ kind_of d n.kind i p.from p.below
      in
      let a : holds_at d s m.key i ≡ true = ap (λ (z : ℕ). holds_at d s m.key z) q ∙ r.passes in
      clash a (p.free m.key (other_key m f km))

  view_other : (m : Name) → eq_name m n ≡ false → memory_of d (put_slot d s i x) m ≡ memory_of d s m
  unfolding memory_of on_found
  view_other m f = ap (λ (z : Found). on_found z (λ j. kept (memory_at d (put_slot d s i x) j)) absent) (found_other m f) ∙ cases (find d s m) refl
    where
      cases : (a : Found) → find d s m ≡ a → on_found a (λ j. kept (memory_at d (put_slot d s i x) j)) absent ≡ on_found a (λ j. kept (memory_at d s j)) absent
      cases (at j) g =
          ap kept
          (memory_in_lem d (put_slot d s i x) j ∙ ap memory_in (else_where j (not_there m f j g)) ∙ sym (memory_in_lem d s j))
      cases nowhere g = refl

  view_own : memory_of d (put_slot d s i x) n ≡ kept (memory_in x)
  unfolding memory_of on_found
  view_own =
      ap (λ (z : Found). on_found z (λ j. kept (memory_at d (put_slot d s i x) j)) absent) found_own
      ∙ ap kept (memory_in_lem d (put_slot d s i x) i ∙ ap memory_in there)

  pub put_view : (m : Name) → memory_of d (put_slot d s i x) m ≡ cond (eq_name m n) (kept (memory_in x)) (memory_of d s m)
  put_view m =
      by_bool (eq_name m n)
      (λ t. ap (λ (z : Name). memory_of d (put_slot d s i x) z) (eq_name_lem m n t) ∙ view_own ∙ sym (cond-true (eq_name m n) (kept (memory_in x)) (memory_of d s m) t))
      (λ f. view_other m f ∙ sym (cond-false (eq_name m n) (kept (memory_in x)) (memory_of d s m) f))
