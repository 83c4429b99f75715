-- The patch of a store read back, dimmer by dimmer: those before a place are as they were, those from it on are still unpatched. By induction
-- on the dimmers and on the pages.
-- Assumes nothing.
use mathlib.Core.Path.{◌≡◌, refl, sym, ap, ◌∙◌, subst}
use mathlib.Core.Bool.{true, cond, ◌&&◌}
use mathlib.Core.List.{List, [], ◌∷◌, ◌++◌}
use Prim.Native.Nat.{ℕ, zero, suc, ◌+◌, ◌-◌, ◌*◌, ◌<◌, ◌≤◌}
use native.Mathlib.Nat.{mul_comm}
use native.Mathlib.Omega.{arith}
use lib.Dec.{eqb, leb}
use lib.ListN.{length, drop}
use borrow.Author.Tests.{eqb-true, eq-eqb, ne_eqb, leb-true}
use Rattle.cells.proofs.Arith.{product_next}
use Rattle.cells.proofs.Split.{by_bool, by_eq, cond-true, cond-false, and_true, and_left, and_right}
use Rattle.store_desk.specs.declared.Desk.{Desk}
use Rattle.store_desk.specs.Size.{Within, entries_of, store_length}
use Rattle.store_desk.specs.Name.{Name, entry_of}
use Rattle.store_desk.proofs.Name.{entry_inside, entry_same}
use Rattle.store_head.specs.declared.Patch.{Patch}
use Rattle.store_head.proofs.Laws.{decode_patch_fits}
use Rattle.store.specs.Slots.{entry_at}
use Rattle.store.specs.View.{absent, memory_of, patched_to}
use Rattle.store.specs.Change.{patch_entry, patched}
use Rattle.store.specs.Form.{patch_fits, entry_fits}
use Rattle.store.specs.Good.{Ready}
use Rattle.store.proofs.Patches.{patch_view, patch_memory, patch_tail, patch_length, patch_good}
use Rattle.load.specs.declared.State.{State}
use Rattle.save_lines.specs.Line.{patch_text, patch_line}
use Rattle.save.specs.Lines.{dimmer_lines, page_lines, patch_lines}
use Rattle.theorem_same_show.proofs.Does.{patch_does}
use Rattle.theorem_same_show.proofs.Runs.{Runs, done, runs_one, runs_append}

-- ---- places of entries, one after the other
entry_next : (d : Desk) (page dimmer : ℕ) → 1 ≤ dimmer → entry_of d page (dimmer + 1) ≡ entry_of d page dimmer + 1
unfolding entry_of
entry_next d page dimmer h =
    let a : ℕ = (page - 1) * d.dimmers in
    let z : dimmer + 1 - 1 ≡ dimmer - 1 + 1 = omega arith in
    ap (λ (n : ℕ). a + n) z ∙ (let y : a + (dimmer - 1 + 1) ≡ a + (dimmer - 1) + 1 = omega arith in y)

entry_page : (d : Desk) (page : ℕ) → 1 ≤ page → entry_of d (page + 1) 1 ≡ entry_of d page (d.dimmers + 1)
unfolding entry_of
entry_page d page h =
    let z : page + 1 - 1 ≡ page - 1 + 1 = omega arith in
    let w : d.dimmers ≡ d.dimmers + 1 - 1 = omega arith in
    let y : (page - 1) * d.dimmers + d.dimmers + 0 ≡ (page - 1) * d.dimmers + d.dimmers = omega arith in
    ap (λ (n : ℕ). n * d.dimmers + 0) z
    ∙ ap (λ (n : ℕ). n + 0) (product_next (page - 1) d.dimmers)
    ∙ y
    ∙ ap (λ (n : ℕ). (page - 1) * d.dimmers + n) w

entry_first : (d : Desk) → entry_of d 1 1 ≡ 0
unfolding entry_of
entry_first d = let z : 0 * d.dimmers + 0 ≡ 0 = omega arith in z

entry_last : (d : Desk) → entry_of d (d.patch_pages + 1) 1 ≡ entries_of d
unfolding entry_of entries_of
entry_last d =
    let z : d.patch_pages + 1 - 1 ≡ d.patch_pages = omega arith in
    let y : d.patch_pages * d.dimmers + 0 ≡ d.patch_pages * d.dimmers = omega arith in
    ap (λ (n : ℕ). n * d.dimmers + 0) z ∙ y ∙ mul_comm d.patch_pages d.dimmers

-- ---- an entry of a good store
module _ (d : Desk) (s : List ℕ) (r : Ready d s) (p q : ℕ) (hp : Within 1 p d.patch_pages) (hq : Within 1 q d.dimmers) where
  abbrev own : Patch
  own = patched_to d s p q

  own_fits : patch_fits d own ≡ true
  unfolding patched_to entry_fits
  own_fits = r.form.entries (entry_of d p q) (entry_inside d p q hp hq)

  own-level : own.level < 256
  unfolding patched_to
  own-level = (decode_patch_fits (entry_at d s (entry_of d p q))).level

  own-rest : own.rest ≡ 0
  unfolding patch_fits
  own-rest = eqb-true own.rest 0 (and_left (eqb own.rest 0) _ own_fits)

  own_values : cond (eqb own.channel 0) (eqb own.level 0) (leb own.channel d.channels) ≡ true
  unfolding patch_fits
  own_values = and_right (eqb own.rest 0) (cond (eqb own.channel 0) (eqb own.level 0) (leb own.channel d.channels)) own_fits

  own_absent : own.channel ≡ 0 → own ≡ patch_entry 0 0
  own_absent z =
      let l : own.level ≡ 0 =
      eqb-true own.level 0 (sym (cond-true (eqb own.channel 0) (eqb own.level 0) (leb own.channel d.channels) (eq-eqb own.channel 0 z)) ∙ own_values)
      in
      λ i. record { channel = z i; level = l i; rest = own-rest i }

  own-channel : (own.channel ≡ 0 → ⊥) → Within 1 own.channel d.channels
  own-channel ne =
      let l : own.channel ≤ d.channels =
      leb-true own.channel d.channels
      (sym (cond-false (eqb own.channel 0) (eqb own.level 0) (leb own.channel d.channels) (ne_eqb own.channel 0 ne)) ∙ own_values)
      in
      omega arith

  own_entry : patch_entry own.channel own.level ≡ own
  own_entry = λ i. record { channel = own.channel; level = own.level; rest = sym own-rest i }

-- ---- the patch read as far as entry j, from an emptied store t₀
pub record Patching (d : Desk) (s t₀ t : List ℕ) (j : ℕ) : Type 0 where
  pub ready : Ready d t
  pub bare : (m : Name) → memory_of d t m ≡ absent
  pub before : (p q : ℕ) → Within 1 p d.patch_pages → Within 1 q d.dimmers → entry_of d p q < j → patched_to d t p q ≡ patched_to d s p q
  pub later : (p q : ℕ) → Within 1 p d.patch_pages → Within 1 q d.dimmers → j ≤ entry_of d p q → patched_to d t p q ≡ patch_entry 0 0
  pub size : length t ≡ length t₀
  pub tail : drop (store_length d) t ≡ drop (store_length d) t₀

pub record Patched (d : Desk) (s t₀ : List ℕ) (st : State) (t : List ℕ) (ls : List (List ℕ)) (j : ℕ) : Type 0 where
  pub store : List ℕ
  pub runs : Runs d st t ls st store
  pub patching : Patching d s t₀ store j

module _ (d : Desk) (s : List ℕ) (r : Ready d s) (t₀ : List ℕ) (st : State) where
  -- one dimmer
  module _ (p q : ℕ) (hp : Within 1 p d.patch_pages) (hq : Within 1 q d.dimmers) (t : List ℕ) (g : Patching d s t₀ t (entry_of d p q)) where
    abbrev x : Patch
    x = patched_to d s p q

    abbrev there : ℕ
    there = entry_of d p q

    turn : (u : List ℕ) → Ready d u → ((m : Name) → memory_of d u m ≡ memory_of d t m) → patched_to d u p q ≡ x
        → ((p₂ q₂ : ℕ) → Within 1 p₂ d.patch_pages → Within 1 q₂ d.dimmers → (there ≡ entry_of d p₂ q₂ → ⊥) → patched_to d u p₂ q₂ ≡ patched_to d t p₂ q₂)
        → length u ≡ length t → drop (store_length d) u ≡ drop (store_length d) t → Patching d s t₀ u (there + 1)
    turn u ru mem own others size tail =
        record {
          ready = ru;
          bare = λ m. mem m ∙ g.bare m;
          before =
              λ p₂ q₂ a b l.
              by_eq there (entry_of d p₂ q₂)
              (λ e.
              let w = entry_same d p q p₂ q₂ hp.0 a.0 hq b e in
              sym (λ i. patched_to d u (w.0 i) (w.1 i)) ∙ own ∙ (λ i. patched_to d s (w.0 i) (w.1 i)))
              (λ ne. others p₂ q₂ a b ne ∙ g.before p₂ q₂ a b (omega arith));
          later = λ p₂ q₂ a b l. others p₂ q₂ a b (λ (e : there ≡ entry_of d p₂ q₂). omega arith) ∙ g.later p₂ q₂ a b (omega arith);
          size = size ∙ g.size;
          tail = tail ∙ g.tail;
        }

    -- an unpatched dimmer has no line
    turn_absent : x.channel ≡ 0 → Patching d s t₀ t (there + 1)
    turn_absent z =
        turn t g.ready (λ m. refl) (g.later p q hp hq (omega arith) ∙ sym (own_absent d s r p q hp hq z)) (λ p₂ q₂ a b ne. refl) refl refl

    turn_patched : (x.channel ≡ 0 → ⊥) → Patching d s t₀ (patched d t p q x.channel x.level) (there + 1)
    turn_patched ne =
        let long = g.ready.long in
        let range = g.ready.range in
        let c = x.channel in
        let v = x.level in
        let hc = own-channel d s r p q hp hq ne in
        let hv = own-level d s r p q hp hq in
        turn (patched d t p q c v)
        (patch_good d t long range p q c v hp hq hc hv g.ready)
        (patch_memory d t long range p q c v hp hq hc hv)
        (patch_view d t long range p q c v hp hq hc hv p q hp hq
        ∙ cond-true (eqb p p && eqb q q) (patch_entry c v) (patched_to d t p q) (and_true (eqb p p) (eqb q q) (eq-eqb p p refl) (eq-eqb q q refl))
        ∙ own_entry d s r p q hp hq)
        (λ p₂ q₂ a b other.
        patch_view d t long range p q c v hp hq hc hv p₂ q₂ a b
        ∙ by_bool (eqb p p₂ && eqb q q₂)
        (λ e.
        let ep : p ≡ p₂ = eqb-true p p₂ (and_left (eqb p p₂) (eqb q q₂) e) in
        let eq : q ≡ q₂ = eqb-true q q₂ (and_right (eqb p p₂) (eqb q q₂) e) in
        absurd (other (λ i. entry_of d (ep i) (eq i))))
        (λ e. cond-false (eqb p p₂ && eqb q q₂) (patch_entry c v) (patched_to d t p₂ q₂) e))
        (patch_length d t long range p q c v hp hq hc hv)
        (patch_tail d t long range p q c v hp hq hc hv)

    dimmer_read : Patched d s t₀ st t (patch_line p q x) (there + 1)
    unfolding patch_line
    dimmer_read =
        by_eq x.channel 0
        (λ z.
        subst (λ (ls : List (List ℕ)). Patched d s t₀ st t ls (there + 1)) (sym (cond-true (eqb x.channel 0) [] (patch_text p q x ∷ []) (eq-eqb x.channel 0 z)))
        (record { store = t; runs = done; patching = turn_absent z }))
        (λ ne.
        subst (λ (ls : List (List ℕ)). Patched d s t₀ st t ls (there + 1)) (sym (cond-false (eqb x.channel 0) [] (patch_text p q x ∷ []) (ne_eqb x.channel 0 ne)))
        (record {
          store = patched d t p q x.channel x.level;
          runs = runs_one (patch_does d r.range st t p q x hp hq (own-channel d s r p q hp hq ne) (own-level d s r p q hp hq));
          patching = turn_patched ne;
        }))

  -- one after the other
  then_read : {t : List ℕ} {a b : List (List ℕ)} {j k : ℕ} → (f : Patched d s t₀ st t a j)
      → ((u : List ℕ) → Patching d s t₀ u j → Patched d s t₀ st u b k) → Patched d s t₀ st t (a ++ b) k
  then_read f g =
      let h = g f.store f.patching in
      record { store = h.store; runs = runs_append f.runs h.runs; patching = h.patching }

  at_place : {t : List ℕ} {ls : List (List ℕ)} {j k : ℕ} → j ≡ k → Patched d s t₀ st t ls j → Patched d s t₀ st t ls k
  at_place {t} {ls} e f = subst (Patched d s t₀ st t ls) e f

  dimmers_read : (p : ℕ) → Within 1 p d.patch_pages → (n q : ℕ) → 1 ≤ q → q + n ≡ d.dimmers + 1 → (t : List ℕ) → Patching d s t₀ t (entry_of d p q)
      → Patched d s t₀ st t (dimmer_lines d s p n q) (entry_of d p (d.dimmers + 1))
  unfolding dimmer_lines
  dimmers_read p hp zero q l e t g =
      at_place (ap (entry_of d p) (let z : q ≡ d.dimmers + 1 = omega arith in z)) (record { store = t; runs = done; patching = g })
  dimmers_read p hp (suc n) q l e t g =
      let hq : Within 1 q d.dimmers = omega arith in
      then_read (dimmer_read p q hp hq t g)
      (λ u h.
      dimmers_read p hp n (q + 1) (omega arith) (omega arith) u (subst (Patching d s t₀ u) (sym (entry_next d p q l)) h))

  pages_read : (n p : ℕ) → 1 ≤ p → p + n ≡ d.patch_pages + 1 → (t : List ℕ) → Patching d s t₀ t (entry_of d p 1)
      → Patched d s t₀ st t (page_lines d s n p) (entry_of d (d.patch_pages + 1) 1)
  unfolding page_lines
  pages_read zero p l e t g =
      at_place (ap (λ (n : ℕ). entry_of d n 1) (let z : p ≡ d.patch_pages + 1 = omega arith in z)) (record { store = t; runs = done; patching = g })
  pages_read (suc n) p l e t g =
      let hp : Within 1 p d.patch_pages = omega arith in
      then_read (dimmers_read p hp d.dimmers 1 (omega arith) (omega arith) t g)
      (λ u h.
      pages_read n (p + 1) (omega arith) (omega arith) u (subst (Patching d s t₀ u) (sym (entry_page d p l)) h))

  -- the whole patch
  pub patch_read : (t : List ℕ) → Patching d s t₀ t 0 → Patched d s t₀ st t (patch_lines d s) (entries_of d)
  patch_read t g =
      at_place (entry_last d)
      (pages_read d.patch_pages 1 (omega arith) (omega arith) t (subst (Patching d s t₀ t) (sym (entry_first d)) g))
