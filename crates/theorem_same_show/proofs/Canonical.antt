-- Stores that hold the same show are written alike: the writer's order lists the same memories, since two lists that rise by key and have the
-- same members are one. By induction on the two lists.
-- Assumes nothing.
use mathlib.Core.Path.{◌≡◌, refl, sym, ap, ◌∙◌, subst}
use mathlib.Core.List.{List, [], ◌∷◌, ◌++◌, map}
use mathlib.Core.Logic.{◌⊎◌, inl, inr, ⊎_elim}
use Prim.Native.Nat.{ℕ, zero, suc, ◌+◌, ◌<◌, ◌≤◌}
use native.Mathlib.Omega.{arith}
use Rattle.cells.specs.Text.{bytes}
use Rattle.store_desk.specs.declared.Desk.{Desk}
use Rattle.store_desk.specs.declared.Kind.{Kind}
use Rattle.store_desk.specs.declared.Kind.TheVariants.{Cue, Group, Sub}
use Rattle.store_desk.specs.Size.{Within}
use Rattle.store_desk.specs.Name.{Name}
use Rattle.store.specs.Slots.{key_of, find}
use Rattle.store.specs.View.{Memory, kept, memory_at, memory_of}
use Rattle.store.specs.Order.{in_order}
use Rattle.store.specs.Good.{Ready}
use Rattle.store.proofs.Find.{kept_inj, kept-absent}
use Rattle.store.proofs.Start.{kept_memory, absent_at}
use Rattle.store.proofs.Ordered.{key_word, Among, Rising}
use Rattle.save_lines.specs.Line.{patch_line, joined}
use Rattle.save.specs.Lines.{dimmer_lines, page_lines, patch_lines, memory_lines, slot_lines, kind_lines, lines_of, stream_of}
use Rattle.theorem_same_show.specs.Show.{SameShow}
use Rattle.theorem_same_show.proofs.Keys.{slot_key, order_rising}
use Rattle.theorem_same_show.proofs.Room.{by_found}
use Rattle.theorem_same_show.proofs.Loaded.{own, own-kept, in_order_here, found_in_order}

-- ---- lists that rise by a number, and their members
abbrev In : Memory → List Memory → Type 0
In m [] = ⊥
In m (n ∷ ns) = (m ≡ n) ⊎ In m ns

abbrev Rises : (Memory → ℕ) → List Memory → Type 0
Rises f [] = Unit {0}
Rises f (m ∷ ms) = ((n : Memory) → In n ms → f m < f n) × Rises f ms

-- of two that have the same members, the first ones are the same
module _ (f : Memory → ℕ) (a b : Memory) (xs ys : List Memory) (ra : Rises f (a ∷ xs)) (rb : Rises f (b ∷ ys)) where
  first_same : In a (b ∷ ys) → In b (a ∷ xs) → a ≡ b
  first_same p q =
      ⊎_elim (λ e. e)
      (λ u. ⊎_elim (λ e. sym e) (λ v. let x = rb.0 a u in let y = ra.0 b v in absurd (omega arith)) q)
      p

  -- and so the others
  rest_same : a ≡ b → ((m : Memory) → In m (a ∷ xs) → In m (b ∷ ys)) → (m : Memory) → In m xs → In m ys
  rest_same e g m h =
      ⊎_elim
      (λ q. absurd (let x : f a < f m = ra.0 m h in let y : f m ≡ f a = ap f (q ∙ sym e) in omega arith))
      (λ u. u)
      (g m (inr h))

sorted_same : (f : Memory → ℕ) (xs ys : List Memory) → Rises f xs → Rises f ys → ((m : Memory) → In m xs → In m ys) → ((m : Memory) → In m ys → In m xs) → xs ≡ ys
sorted_same f [] [] ra rb g h = refl
sorted_same f [] (b ∷ ys) ra rb g h = absurd (h b (inl refl))
sorted_same f (a ∷ xs) [] ra rb g h = absurd (g a (inl refl))
sorted_same f (a ∷ xs) (b ∷ ys) ra rb g h =
    let e : a ≡ b = first_same f a b xs ys ra rb (g a (inl refl)) (h b (inl refl)) in
    let ih : xs ≡ ys =
    sorted_same f xs ys ra.1 rb.1 (rest_same f a b xs ys ra rb e g) (rest_same f b a ys xs rb ra (sym e) h)
    in
    λ i. e i ∷ ih i

-- ---- the memories of a kind in order
abbrev memory_key : Memory → ℕ
memory_key m = key_word (key_of m.head)

in_map : (g : ℕ → Memory) (is : List ℕ) (i : ℕ) → Among i is → In (g i) (map g is)
in_map g [] i h = h
in_map g (j ∷ is) i h = ⊎_elim (λ e. inl (ap g e)) (λ a. inr (in_map g is i a)) h

map_in : (g : ℕ → Memory) (is : List ℕ) (m : Memory) → In m (map g is) → (i : ℕ) × Among i is × (m ≡ g i)
map_in g [] m h = absurd h
map_in g (j ∷ is) m h = ⊎_elim (λ e. (j, inl refl, e)) (λ a. let w = map_in g is m a in (w.0, inr w.1, w.2)) h

rises_map : (d : Desk) (s is : List ℕ) → Rising (slot_key d s) is → Rises memory_key (map (memory_at d s) is)
unfolding memory_at
rises_map d s [] r = tt
rises_map d s (i ∷ is) r = (
  (λ n h.
      let w = map_in (memory_at d s) is n h in
      subst (λ (m : Memory). slot_key d s i < memory_key m) (sym w.2) (r.0 w.0 w.1)),
  rises_map d s is r.1,
)

-- a memory that one store keeps, the other keeps too
module _ (d : Desk) (s t : List ℕ) (rs : Ready d s) (rt : Ready d t) (same : (n : Name) → memory_of d t n ≡ memory_of d s n) (k : Kind) where
  there_too : (m : Memory) → In m (map (memory_at d s) (in_order d s k)) → In m (map (memory_at d t) (in_order d t k))
  there_too m h =
      let w = map_in (memory_at d s) (in_order d s k) m h in
      let i = w.0 in
      let hi = in_order_here d s rs k i w.1 in
      let n : Name = own d s rs k i hi in
      let q : memory_of d t n ≡ kept (memory_at d s i) = same n ∙ own-kept d s rs k i hi in
      by_found (find d t n)
      (λ j e.
      let z : kept (memory_at d t j) ≡ kept (memory_at d s i) = sym (kept_memory d t n j e) ∙ q in
      let y : m ≡ memory_at d t j = w.2 ∙ sym (kept_inj z) in
      subst (λ (x : Memory). In x (map (memory_at d t) (in_order d t k))) (sym y)
      (in_map (memory_at d t) (in_order d t k) j (found_in_order d t rt k n refl j e)))
      (λ e. absurd (kept-absent (sym q ∙ absent_at d t n e)))

-- ---- lines
lines_on : Kind → List Memory → List (List ℕ)
lines_on k [] = []
lines_on k (m ∷ ms) = memory_lines k m ++ lines_on k ms

lines_on_lem : (d : Desk) (s : List ℕ) (k : Kind) (is : List ℕ) → slot_lines d s k is ≡ lines_on k (map (memory_at d s) is)
unfolding slot_lines lines_on
lines_on_lem d s k [] = refl
lines_on_lem d s k (i ∷ is) = ap (λ (ls : List (List ℕ)). memory_lines k (memory_at d s i) ++ ls) (lines_on_lem d s k is)

module _ (d : Desk) (s t : List ℕ) (rs : Ready d s) (rt : Ready d t) (same : SameShow d s t) where
  kind_same : (k : Kind) → kind_lines d t k ≡ kind_lines d s k
  kind_same k =
      lines_on_lem d t k (in_order d t k)
      ∙ ap (lines_on k)
      (sorted_same memory_key (map (memory_at d t) (in_order d t k)) (map (memory_at d s) (in_order d s k))
      (rises_map d t (in_order d t k) (order_rising d t rt k))
      (rises_map d s (in_order d s k) (order_rising d s rs k))
      (there_too d t s rt rs (λ n. sym (same.memories n)) k)
      (there_too d s t rs rt same.memories k))
      ∙ sym (lines_on_lem d s k (in_order d s k))

  dimmers_same : (p : ℕ) → Within 1 p d.patch_pages → (n q : ℕ) → 1 ≤ q → q + n ≡ d.dimmers + 1 → dimmer_lines d t p n q ≡ dimmer_lines d s p n q
  unfolding dimmer_lines
  dimmers_same p hp zero q l e = refl
  dimmers_same p hp (suc n) q l e =
      let hq : Within 1 q d.dimmers = omega arith in
      let ih : dimmer_lines d t p n (q + 1) ≡ dimmer_lines d s p n (q + 1) = dimmers_same p hp n (q + 1) (omega arith) (omega arith) in
      λ i. patch_line p q (same.patch p q hp hq i) ++ ih i

  pages_same : (n p : ℕ) → 1 ≤ p → p + n ≡ d.patch_pages + 1 → page_lines d t n p ≡ page_lines d s n p
  unfolding page_lines
  pages_same zero p l e = refl
  pages_same (suc n) p l e =
      let hp : Within 1 p d.patch_pages = omega arith in
      let a : dimmer_lines d t p d.dimmers 1 ≡ dimmer_lines d s p d.dimmers 1 = dimmers_same p hp d.dimmers 1 (omega arith) (omega arith) in
      let ih : page_lines d t n (p + 1) ≡ page_lines d s n (p + 1) = pages_same n (p + 1) (omega arith) (omega arith) in
      λ i. a i ++ ih i

  pub written_alike : stream_of d t ≡ stream_of d s
  unfolding stream_of lines_of
  written_alike =
      let a : patch_lines d t ≡ patch_lines d s = pages_same d.patch_pages 1 (omega arith) (omega arith) in
      λ i.
      joined
      (bytes "IDENT 3:0"
      ∷ (bytes "CLEAR ALL"
      ∷ (a i ++ (kind_same Cue i ++ (kind_same Group i ++ (kind_same Sub i ++ (bytes "ENDDATA" ∷ [])))))))
