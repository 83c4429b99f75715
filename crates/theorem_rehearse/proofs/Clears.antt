-- CLEAR on two desks: it removes alike what the smaller keeps, and what it removes on the larger alone the smaller cannot keep. By what is
-- seen after a CLEAR and the ranges of the names that a store in good form keeps.
-- Assumes nothing.
use mathlib.Core.Path.{◌≡◌, refl, sym, ap, ◌∙◌}
use mathlib.Core.Bool.{Bool, true, false, cond}
use mathlib.Core.List.{List}
use Prim.Native.Nat.{ℕ}
use Rattle.cells.proofs.Split.{by_bool, cond_same, clash}
use Rattle.store_desk.specs.declared.Desk.{Desk}
use Rattle.store_desk.specs.Name.{Name, ok_name}
use Rattle.store.specs.View.{Kept, absent, memory_of}
use Rattle.store.specs.Good.{Ready}
use Rattle.store.proofs.Start.{bad_absent}
use Rattle.load.specs.Ask.{Wipe}
use Rattle.load.specs.Step.{wiped}
use Rattle.load.proofs.Deed.{WipesFit}
use Rattle.theorem_rehearse.specs.Rehearse.{Larger, is_kept}
use Rattle.theorem_rehearse.specs.Frame.{wipes_memory}
use Rattle.theorem_rehearse.proofs.Frame.{wiped_seen}
use Rattle.theorem_rehearse.proofs.Wipes.{Wipes, memories_alike}
use Rattle.theorem_rehearse.proofs.Views.{keeps, beside_none, beside_same, beside_cond, beside_gone, beside_kept, Views}

-- ---- what is kept has a name in range
pub absent_gone : (d : Desk) (t : List ℕ) (m : Name) → memory_of d t m ≡ absent → keeps d t m ≡ false
unfolding is_kept
absent_gone d t m e = ap is_kept e

pub keeps_ok : (d : Desk) (t : List ℕ) → Ready d t → (m : Name) → keeps d t m ≡ true → ok_name d m ≡ true
keeps_ok d t r m h = by_bool (ok_name d m) (λ e. e) (λ e. clash h (absent_gone d t m (bad_absent d t r.form m e)))

-- ---- after a CLEAR
cond_gone : (b : Bool) (k : Kept) → is_kept k ≡ false → is_kept (cond b absent k) ≡ false
unfolding is_kept
cond_gone true k h = refl
cond_gone false k h = h

cond_alike : (b : Bool) (k K : Kept) → is_kept K ≡ is_kept k → is_kept (cond b absent K) ≡ is_kept (cond b absent k)
cond_alike true k K h = refl
cond_alike false k K h = h

module _ (d D : Desk) (l : Larger d D) (Lost : Name → Type 0) where
  -- the views stay side by side, nothing comes to be kept, and of what the smaller kept both keep the same
  pub record Cleared (t T u U : List ℕ) : Type 0 where
    pub views : Views d D l Lost u U
    pub gone : (m : Name) → keeps d t m ≡ false → keeps d u m ≡ false
    pub alike : (m : Name) → keeps d t m ≡ true → keeps D U m ≡ keeps d u m

  module _ (t T : List ℕ) (r : Ready d t) (R : Ready D T) (v : Views d D l Lost t T)
      {xs XS : List Wipe} (w : Wipes d xs XS) (f : WipesFit d xs) (F : WipesFit D XS) where
    -- of a name that the smaller can have
    seen_right : (m : Name) → ok_name d m ≡ true → memory_of D (wiped D XS T) m ≡ cond (wipes_memory xs m) absent (memory_of D T m)
    seen_right m o = (wiped_seen D XS F T R).memories m ∙ sym (ap (λ (b : Bool). cond b absent (memory_of D T m)) (memories_alike d w m o))

    views_after : Views d D l Lost (wiped d xs t) (wiped D XS T)
    views_after m =
        by_bool (ok_name d m)
        (λ o.
        beside_same d (Lost m) ((wiped_seen d xs f t r).memories m) (seen_right m o)
        (beside_cond d (Lost m) (wipes_memory xs m) absent (memory_of d t m) absent (memory_of D T m) (beside_none d (Lost m)) (v m)))
        (λ o.
        let e : memory_of d t m ≡ absent = bad_absent d t r.form m o in
        beside_same d (Lost m)
        ((wiped_seen d xs f t r).memories m ∙ ap (cond (wipes_memory xs m) absent) e ∙ cond_same (wipes_memory xs m) absent ∙ sym e)
        ((wiped_seen D XS F T R).memories m)
        (beside_gone d (Lost m) (wipes_memory XS m) (memory_of d t m) (memory_of D T m) e (v m)))

    pub cleared : Cleared t T (wiped d xs t) (wiped D XS T)
    cleared =
        record {
          views = views_after;
          gone = λ m h. ap is_kept ((wiped_seen d xs f t r).memories m) ∙ cond_gone (wipes_memory xs m) (memory_of d t m) h;
          alike =
              λ m h.
              ap is_kept (seen_right m (keeps_ok d t r m h))
              ∙ cond_alike (wipes_memory xs m) (memory_of d t m) (memory_of D T m)
              (beside_kept d (Lost m) (memory_of d t m) (memory_of D T m) (v m) h ∙ sym h)
              ∙ sym (ap is_kept ((wiped_seen d xs f t r).memories m));
        }
