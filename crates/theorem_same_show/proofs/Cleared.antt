-- After CLEAR ALL nothing is kept and nothing is patched. By the laws of clearing, kind by kind.
-- Assumes nothing.
use mathlib.Core.Path.{◌≡◌, refl, sym, ap, ◌∙◌, subst}
use mathlib.Core.Bool.{true}
use mathlib.Core.List.{List, [], ◌∷◌, ◌++◌}
use Prim.Native.Nat.{ℕ, ◌≤◌}
use native.Mathlib.Omega.{arith}
use Rattle.cells.proofs.Split.{by_bool, cond-true, cond-false, and_true}
use Rattle.store_desk.specs.declared.Desk.{Desk}
use Rattle.store_desk.specs.declared.Kind.{Kind}
use Rattle.store_desk.specs.declared.Kind.TheVariants.{Cue, Group, Sub}
use Rattle.store_desk.specs.Name.{Name, eq_kind}
use Rattle.store_desk.proofs.Name.{eq_kind-true}
use Rattle.store.specs.View.{absent, memory_of}
use Rattle.store.specs.Change.{every_page, hits, cleared, cleared_patch}
use Rattle.store.specs.Good.{Ready}
use Rattle.store.proofs.Clear.{clear_length, clear_patch, clear_tail, clear_view, clear_good}
use Rattle.store.proofs.Patches.{same_patch, clear_patch_view, clear_patch_length, clear_patch_tail, clear_patch_good}
use Rattle.load.specs.Ask.{Wipe, table, dimmers, kind_wipes, all_wipes}
use Rattle.load.specs.Step.{wiped}
use Rattle.load.proofs.Tables.{kind_has, dimmers_have}
use Rattle.theorem_same_show.proofs.Changed.{Beside, beside_next}
use Rattle.theorem_same_show.proofs.Patching.{Patching}

-- ---- a kind
hits-kind : (k : Kind) (m : Name) → m.kind ≡ k → hits k 0 m ≡ true
unfolding hits
hits-kind k m e = and_true (eq_kind k m.kind) true (eq_kind-true k m.kind (sym e)) refl

module _ (d : Desk) (t : List ℕ) (r : Ready d t) (k : Kind) where
  kind_view : (m : Name) → m.kind ≡ k → memory_of d (cleared d t k 0) m ≡ absent
  kind_view m e = clear_view d t r.long k 0 m ∙ cond-true (hits k 0 m) absent (memory_of d t m) (hits-kind k m e)

  kind_absent : (m : Name) → memory_of d t m ≡ absent → memory_of d (cleared d t k 0) m ≡ absent
  kind_absent m z =
      clear_view d t r.long k 0 m
      ∙ by_bool (hits k 0 m)
      (λ e. cond-true (hits k 0 m) absent (memory_of d t m) e)
      (λ e. cond-false (hits k 0 m) absent (memory_of d t m) e ∙ z)

  kind_beside : Beside d t (cleared d t k 0)
  kind_beside =
      record {
        patch = same_patch d t (cleared d t k 0) (clear_patch d t r.long k 0);
        size = clear_length d t r.long k 0;
        tail = clear_tail d t r.long k 0;
      }

-- ---- all of it
all_wipes_lem : (d : Desk) → all_wipes d every_page ≡ dimmers every_page ∷ (table Cue every_page ∷ (table Group every_page ∷ (table Sub every_page ∷ [])))
unfolding all_wipes
all_wipes_lem d =
    let kind : (k : Kind) → kind_wipes d every_page k ≡ table k every_page ∷ [] = λ k. kind_has d every_page k (omega arith) in
    λ i. dimmers_have d every_page (omega arith) i ++ (kind Cue i ++ (kind Group i ++ kind Sub i))

module _ (d : Desk) (t : List ℕ) (r : Ready d t) where
  abbrev bare₀ : List ℕ
  bare₀ = cleared_patch d t 0

  abbrev bare₁ : List ℕ
  bare₁ = cleared d bare₀ Cue 0

  abbrev bare₂ : List ℕ
  bare₂ = cleared d bare₁ Group 0

  abbrev bare₃ : List ℕ
  bare₃ = cleared d bare₂ Sub 0

  tables : wiped d (all_wipes d every_page) t ≡ bare₃
  unfolding wiped
  tables = ap (λ (ws : List Wipe). wiped d ws t) (all_wipes_lem d)

  no_page : 0 ≤ d.patch_pages
  no_page = omega arith

  r₀ : Ready d bare₀
  r₀ = clear_patch_good d t r.long 0 no_page r

  r₁ : Ready d bare₁
  r₁ = clear_good d bare₀ r₀ Cue 0

  r₂ : Ready d bare₂
  r₂ = clear_good d bare₁ r₁ Group 0

  none_by : (m : Name) (k : Kind) → m.kind ≡ k → memory_of d bare₃ m ≡ absent
  none_by m Cue e = kind_absent d bare₂ r₂ Sub m (kind_absent d bare₁ r₁ Group m (kind_view d bare₀ r₀ Cue m e))
  none_by m Group e = kind_absent d bare₂ r₂ Sub m (kind_view d bare₁ r₁ Group m e)
  none_by m Sub e = kind_view d bare₂ r₂ Sub m e

  kinds : Beside d bare₀ bare₃
  kinds = beside_next {u = bare₂} (beside_next {u = bare₁} (kind_beside d bare₀ r₀ Cue) (kind_beside d bare₁ r₁ Group)) (kind_beside d bare₂ r₂ Sub)

  pub clear_read : (s : List ℕ) → Patching d s t (wiped d (all_wipes d every_page) t) 0
  clear_read s =
      subst (λ (u : List ℕ). Patching d s t u 0) (sym tables)
      (record {
        ready = clear_good d bare₂ r₂ Sub 0;
        bare = λ m. none_by m m.kind refl;
        before = λ p q a b l. absurd (omega (arith, l));
        later = λ p q a b l. kinds.patch p q ∙ clear_patch_view d t r.long 0 no_page p q a b;
        size = kinds.size ∙ clear_patch_length d t r.long 0 no_page;
        tail = kinds.tail ∙ clear_patch_tail d t r.long 0 no_page;
      })
