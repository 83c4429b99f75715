-- What is open on two desks: nothing on both; the same memory, which the smaller keeps; or the smaller skips, and what the larger has open,
-- if anything, the smaller does not keep. CLEAR keeps this. By cases on what is open.
-- Assumes nothing.
use mathlib.Core.Path.{◌≡◌, refl, sym, ◌∙◌, subst, subst₂}
use mathlib.Core.Bool.{Bool, true, false, cond}
use mathlib.Core.List.{List}
use Prim.Native.Nat.{ℕ}
use Rattle.cells.specs.Search.{Found, at, nowhere}
use Rattle.cells.proofs.Split.{by_test, cond-true, clash}
use Rattle.store_desk.specs.declared.Desk.{Desk}
use Rattle.store_desk.specs.declared.Key.{Key}
use Rattle.store_desk.specs.declared.Kind.{Kind}
use Rattle.store_desk.specs.Name.{Name}
use Rattle.store.specs.Slots.{find, on_found}
use Rattle.store.specs.View.{Memory as Kept-memory, absent, kept, memory_at, memory_of}
use Rattle.load.specs.declared.Open.{Open}
use Rattle.load.specs.declared.Open.TheVariants.{Nothing, Skipping, Memory}
use Rattle.load.specs.declared.State.{State}
use Rattle.load.specs.Ask.{name}
use Rattle.load.specs.Step.{no_key, nothing_open, settle_by, settle}
use Rattle.theorem_rehearse.specs.Rehearse.{Larger, is_kept}
use Rattle.theorem_rehearse.proofs.Fields.{by_tests}
use Rattle.theorem_rehearse.proofs.Views.{keeps}
use Rattle.theorem_rehearse.proofs.Clears.{Cleared}

abbrev pub state : Open → Key → State
state o y = record { «open» = o; key = y }

-- b says what the smaller keeps
pub data Opens (b : Name → Bool) : State → State → Type 0 where
  nothing_open_lem : (y Y : Key) → Opens b (state Nothing y) (state Nothing Y)
  skips_nothing : (y Y : Key) → Opens b (state Skipping y) (state Nothing Y)
  skips_both : (y Y : Key) → Opens b (state Skipping y) (state Skipping Y)
  skips_other : (y : Key) (k : Kind) (Y : Key) → b (name k Y) ≡ false → Opens b (state Skipping y) (state (Memory k) Y)
  same_open : (k : Kind) (y : Key) → b (name k y) ≡ true → Opens b (state (Memory k) y) (state (Memory k) y)

-- the smaller keeps what it kept
pub opens_same : (b c : Name → Bool) → ((m : Name) → c m ≡ b m) → {s S : State} → Opens b s S → Opens c s S
opens_same b c e (nothing_open_lem y Y) = nothing_open_lem y Y
opens_same b c e (skips_nothing y Y) = skips_nothing y Y
opens_same b c e (skips_both y Y) = skips_both y Y
opens_same b c e (skips_other y k Y h) = skips_other y k Y (e (name k Y) ∙ h)
opens_same b c e (same_open k y h) = same_open k y (e (name k y) ∙ h)

-- ---- settling: what is open stays open while it is kept
found_by_lem : {A : Type 0} (a : Found) (f : ℕ → Kept-memory) (x y : A) → on_found a (λ i. x) y ≡ cond (is_kept (on_found a (λ i. kept (f i)) absent)) x y
unfolding on_found is_kept
found_by_lem (at i) f x y = refl
found_by_lem nowhere f x y = refl

settle_by_lem : (d : Desk) (t : List ℕ) (k : Kind) (y : Key)
    → settle d (state (Memory k) y) t ≡ cond (keeps d t (name k y)) (state (Memory k) y) nothing_open
unfolding settle_by memory_of
settle_by_lem d t k y = found_by_lem (find d t (name k y)) (memory_at d t) (state (Memory k) y) nothing_open

-- where nothing was removed the smaller's state stays
pub settled : (d : Desk) (t : List ℕ) {s S : State} → Opens (keeps d t) s S → settle d s t ≡ s
unfolding settle_by
settled d t (nothing_open_lem y Y) = refl
settled d t (skips_nothing y Y) = refl
settled d t (skips_both y Y) = refl
settled d t (skips_other y k Y h) = refl
settled d t (same_open k y h) = settle_by_lem d t k y ∙ cond-true _ _ _ h

module _ (d D : Desk) (l : Larger d D) (Lost : Name → Type 0) (t T u U : List ℕ) (c : Cleared d D l Lost t T u U) where
  pub opens_clear : {s S : State} → Opens (keeps d t) s S → Opens (keeps d u) (settle d s u) (settle D S U)
  unfolding settle_by
  opens_clear (nothing_open_lem y Y) = nothing_open_lem y Y
  opens_clear (skips_nothing y Y) = skips_nothing y Y
  opens_clear (skips_both y Y) = skips_both y Y
  opens_clear (skips_other y k Y h) =
      subst (Opens (keeps d u) (state Skipping y)) (sym (settle_by_lem D U k Y))
      (by_test (Opens (keeps d u) (state Skipping y)) (keeps D U (name k Y)) (state (Memory k) Y) nothing_open
      (λ e. skips_other y k Y (c.gone (name k Y) h))
      (λ e. skips_nothing y no_key))
  opens_clear (same_open k y h) =
      let n = name k y in
      subst₂ (Opens (keeps d u)) (sym (settle_by_lem d u k y)) (sym (settle_by_lem D U k y))
      (by_tests (Opens (keeps d u)) (keeps d u n) (keeps D U n) (λ e. c.alike n h ∙ e)
      (state (Memory k) y) nothing_open (state (Memory k) y) nothing_open
      (λ e. same_open k y e)
      (λ e E. clash E (c.alike n h ∙ e))
      (λ E. nothing_open_lem no_key no_key))
