-- There is room for what was kept: a store all of whose memories of a kind another store keeps too has a place for one more of those that the
-- other keeps. By counting distinct kept names.
-- Assumes nothing.
use mathlib.Core.Path.{◌≡◌, refl, sym, ap, ◌∙◌}
use mathlib.Core.Bool.{false}
use mathlib.Core.List.{List, [], ◌∷◌, map}
use mathlib.Core.Logic.{◌⊎◌, inl, inr, ⊎_elim}
use Prim.Native.Nat.{ℕ, ◌<◌, ◌≤◌}
use native.Mathlib.Omega.{arith}
use lib.ListN.{length, length-map}
use Rattle.cells.specs.Search.{Found, at, nowhere}
use Rattle.cells.proofs.Search.{at-nowhere}
use Rattle.cells.proofs.Split.{by_bool}
use Rattle.store_desk.specs.declared.Desk.{Desk}
use Rattle.store_desk.specs.Name.{Name, eq_name, slot_count}
use Rattle.store_desk.proofs.Name.{eq_name_lem, kind_of}
use Rattle.store.specs.Slots.{find}
use Rattle.store.specs.View.{absent, kept, memory_at, memory_of}
use Rattle.store.specs.Change.{seat}
use Rattle.store.specs.Form.{name_at}
use Rattle.store.specs.Order.{in_order}
use Rattle.store.specs.Good.{Ready}
use Rattle.store.specs.Fits.{used_count}
use Rattle.store.proofs.Form.{found_self}
use Rattle.store.proofs.Find.{kept-absent}
use Rattle.store.proofs.Start.{kept_memory, absent_at, kept_room}
use Rattle.store.proofs.Used.{used_le, room_left, Apart, Distinct, AllKept, kept_used}
use Rattle.store.proofs.Ordered.{key_word, Among, Rising, in_order_used, in_order-length}
use Rattle.theorem_same_show.proofs.Keys.{slot_key, Here, here_slot, order_rising}

pub by_found {ℓ} : {X : Type ℓ} (f : Found) → ((i : ℕ) → f ≡ at i → X) → (f ≡ nowhere → X) → X
by_found (at i) a b = a i refl
by_found nowhere a b = b refl

-- every memory that t keeps is one of s's
abbrev pub Under : Desk → List ℕ → List ℕ → Type 0
Under d s t = (m : Name) → (memory_of d t m ≡ memory_of d s m) ⊎ (memory_of d t m ≡ absent)

pub under_found : (d : Desk) (s t : List ℕ) → Under d s t → (m : Name) (i : ℕ) → find d t m ≡ at i → (j : ℕ) × (find d s m ≡ at j)
under_found d s t u m i e =
    let k : memory_of d t m ≡ kept (memory_at d t i) = kept_memory d t m i e in
    ⊎_elim
    (λ q.
    by_found (find d s m)
    (λ j f. (j, f))
    (λ f. absurd (kept-absent (sym k ∙ q ∙ absent_at d s m f))))
    (λ q. absurd (kept-absent (sym k ∙ q)))
    (u m)

-- ---- room
module _ (d : Desk) (s t : List ℕ) (rs : Ready d s) (rt : Ready d t) (u : Under d s t) (n : Name) where
  abbrev names : List ℕ → List Name
  names is = map (name_at d t) is

  all_kept : (is : List ℕ) → ((x : ℕ) → Among x is → Here d t n.kind x) → AllKept d s n.kind (names is)
  all_kept [] f = tt
  all_kept (i ∷ is) f =
      let h = f i (inl refl) in (
        kind_of d n.kind i h.from h.below,
        under_found d s t u (name_at d t i) i (found_self d t rt.form i (here_slot h) h.used),
        all_kept is (λ x g. f x (inr g)),
      )

  differ : (a b : Name) → (a ≡ b → ⊥) → eq_name a b ≡ false
  differ a b f = by_bool (eq_name a b) (λ t. absurd (f (eq_name_lem a b t))) (λ t. t)

  apart : (m : Name) (is : List ℕ) → ((x : ℕ) → Among x is → m ≡ name_at d t x → ⊥) → Apart m (names is)
  apart m [] f = tt
  apart m (i ∷ is) f = (differ m (name_at d t i) (f i (inl refl)), apart m is (λ x g. f x (inr g)))

  distinct : (is : List ℕ) → Rising (slot_key d t) is → Distinct (names is)
  distinct [] r = tt
  distinct (i ∷ is) r = (
    apart (name_at d t i) is
        (λ x g e.
        let l : slot_key d t i < slot_key d t x = r.0 x g in
        let z : slot_key d t i ≡ slot_key d t x = ap (λ (m : Name). key_word m.key) e in
        omega arith),
    distinct is r.1,
  )

  pub room : (j : ℕ) → find d s n ≡ at j → seat d t n ≡ nowhere → ⊥
  room j e z =
      by_found (find d t n)
      (λ i f. at-nowhere (sym (kept_room d t n i f) ∙ z))
      (λ f.
      let is = in_order d t n.kind in
      let here : (x : ℕ) → Among x is → Here d t n.kind x =
      λ x g. let w = in_order_used d t n.kind x g in record { from = w.0; below = w.1; used = w.2 }
      in
      let c : length (n ∷ names is) ≤ used_count d s n.kind =
      kept_used d s rs.form n.kind (n ∷ names is) (
        apart n is
            (λ x g q.
            let h = here x g in
            at-nowhere (sym (found_self d t rt.form x (here_slot h) h.used) ∙ ap (find d t) (sym q) ∙ f)),
        distinct is (order_rising d t rt n.kind),
      )
      (refl, (j, e), all_kept is here)
      in
      let l : length (names is) ≡ length is = length-map is (name_at d t) in
      let m : length is ≡ used_count d t n.kind = in_order-length d t n.kind in
      let b : used_count d s n.kind ≤ slot_count d n.kind = used_le d s n.kind in
      let less : used_count d t n.kind < slot_count d n.kind = omega arith in
      room_left d t n less z)
