-- One record on two desks, under what it reports: the larger is not full, and what the smaller has no room for is lost. The views stay side
-- by side, and what is open stays related. By the cases of one record on two desks.
-- Assumes nothing.
use mathlib.Core.Path.{◌≡◌, refl, ap, subst}
use mathlib.Core.Bool.{true, false}
use mathlib.Core.List.{List}
use Prim.Native.Nat.{ℕ}
use Rattle.cells.specs.Search.{Found, at, nowhere}
use Rattle.store_desk.specs.declared.Desk.{Desk}
use Rattle.store_desk.specs.declared.Key.{Key}
use Rattle.store_desk.specs.declared.Kind.{Kind}
use Rattle.store_desk.specs.declared.Kind.TheVariants.{Cue, Group, Sub}
use Rattle.store_desk.specs.Name.{Name, ok_name}
use Rattle.store.specs.View.{memory_of}
use Rattle.store.specs.Change.{seat, edited}
use Rattle.store.specs.Good.{Ready}
use Rattle.store.proofs.Start.{bad_absent, sub_room, full}
use Rattle.store.proofs.Edits.{in_time_fits}
use Rattle.load.specs.declared.State.{State}
use Rattle.load.specs.declared.Fault.{Fault}
use Rattle.load.specs.declared.Outcome.TheVariants.{Dropped}
use Rattle.load.specs.Condition.{full_of}
use Rattle.load.specs.Item.{blame_none, memory, page, all_done}
use Rattle.load.specs.Ask.{Ask, rests, items, name}
use Rattle.load.specs.Step.{Step, no_key, settle, wiped, opened_by, acted, record_step}
use Rattle.theorem_rehearse.specs.Rehearse.{Larger, is_full, is_kept}
use Rattle.theorem_rehearse.proofs.Frame.{changes_memory, targets_memory, changes_dimmer, targets_dimmer}
use Rattle.theorem_rehearse.proofs.Frame.{AskFits, ask_fits, edit_framed, ask_framed}
use Rattle.theorem_rehearse.proofs.Views.{keeps, Views, beside_same}
use Rattle.theorem_rehearse.proofs.Views.{start_both, start_right, start_keeps, change_agrees}
use Rattle.theorem_rehearse.proofs.Views.{edit_both, edit_keeps, levels_both, levels_keep, skipped}
use Rattle.theorem_rehearse.proofs.Clears.{absent_gone, cleared}
use Rattle.theorem_rehearse.proofs.Opens.{Opens, skips_both, skips_other, same_open, opens_same, opens_clear, settled}
use Rattle.theorem_rehearse.proofs.Both.{Second, no_change, same_change, same_levels, other_change, other_levels}
use Rattle.theorem_rehearse.proofs.Both.{Both, resting, skipping, opening, opening_beyond, patching, patching_beyond}
use Rattle.theorem_rehearse.proofs.Both.{clearing, clearing_beyond, augmenting, record_both}

-- no room is 0021 or 0022: a submaster has a slot of its own
full_condition : (d : Desk) (t : List ℕ) (k : Kind) (y : Key) → seat d t (name k y) ≡ nowhere → is_full (full_of k) ≡ true
unfolding full_of
full_condition d t Cue y e = refl
full_condition d t Group y e = refl
full_condition d t Sub y e = absurd (sub_room d t (name Sub y) refl e)

module _ (d D : Desk) (l : Larger d D) (Lost : Name → Type 0) (out : (n : Name) → ok_name d n ≡ false → Lost n) where
  abbrev pub Held : State → List ℕ → State → List ℕ → Type 0
  Held s t S T = Views d D l Lost t T × Opens (keeps d t) s S

  abbrev After : Step → Step → Type 0
  After x X = Held x.state x.store X.state X.store

  -- the larger had room; what the smaller had no room for is lost
  abbrev pub Roomy : Step → Type 0
  Roomy X = (f : Fault) → X.outcome ≡ Dropped f → is_full f.condition ≡ true → ⊥

  abbrev pub Tells : Step → Type 0
  Tells x = (f : Fault) → x.outcome ≡ Dropped f → is_full f.condition ≡ true → (n : Name) → Lost n

  module _ (t T : List ℕ) (r : Ready d t) (R : Ready D T) (v : Views d D l Lost t T) where
    -- ---- primaries: the larger alone has a place, or both have one
    seat_right : (k : Kind) (y : Key) → ok_name D (name k y) ≡ true → keeps d t (name k y) ≡ false → Lost (name k y)
        → (A : Found) → seat D T (name k y) ≡ A → Roomy (opened_by D k y A T) → After (opened_by d k y nowhere t) (opened_by D k y A T)
    unfolding opened_by
    seat_right k y O g x (at I) E h = (start_right d D l Lost t T r R v (name k y) O I E g x, skips_other no_key k y g)
    seat_right k y O g x nowhere E h = absurd (h (blame_none (full_of k)) refl (full_condition D T k y E))

    seat_both : (k : Kind) (y : Key) → ok_name d (name k y) ≡ true → ok_name D (name k y) ≡ true → (a A : Found) → seat d t (name k y) ≡ a
        → seat D T (name k y) ≡ A → Tells (opened_by d k y a t) → Roomy (opened_by D k y A T) → After (opened_by d k y a t) (opened_by D k y A T)
    unfolding opened_by
    seat_both k y o O (at i) (at I) e E q h =
        (start_both d D l Lost t T r R v (name k y) o O i I e E, same_open k y (start_keeps d t r (name k y) o i e))
    seat_both k y o O (at i) nowhere e E q h = absurd (h (blame_none (full_of k)) refl (full_condition D T k y E))
    seat_both k y o O nowhere A e E q h =
        seat_right k y O (absent_gone d t (name k y) (full d t (name k y) e).0) (q (blame_none (full_of k)) refl (full_condition d t k y e) (name k y)) A E h

    module _ (s S : State) (h : Opens (keeps d t) s S) where
      -- ---- secondaries
      second_after : {a A : Ask} → Second d D (keeps d t) a A → AskFits d s a → AskFits D S A → After (acted d s t a) (acted D S T A)
      unfolding acted changes_memory targets_memory changes_dimmer targets_dimmer
      second_after (no_change o O) f F = (v, h)
      second_after (same_change n e) f F =
          let g = in_time_fits e f.1.1 in (
            edit_both d D l Lost t T r R v n e g (change_agrees d D l e f.1.2),
            opens_same (keeps d t) (keeps d (edited d t n e)) (edit_keeps d t r n e g) h,
          )
      second_after (same_levels n {es = es} x) f F =
          (levels_both d D l Lost n x f.1 t T r R v, opens_same (keeps d t) (keeps d (all_done d (memory n) t es)) (levels_keep d n es t r) h)
      second_after (other_change o n k e) f F =
          let g = in_time_fits e F.1.1 in
          (skipped d D l Lost t T r R v n (edited D T n e) (edit_framed D T R n e g) (edit_keeps D T R n e g n) k, h)
      second_after (other_levels o n k es) f F =
          (skipped d D l Lost t T r R v n (all_done D (memory n) T es) (ask_framed D T R S (items (memory n) es) F) (levels_keep D n es T R n) k, h)

      -- ---- what leaves the memories as they are
      same_after : (a A : Ask) → AskFits d s a → AskFits D S A → ((m : Name) → changes_memory a m ≡ false) → ((m : Name) → changes_memory A m ≡ false)
          → Held s (acted d s t a).store S (acted D S T A).store
      same_after a A f F g G =
          let e : (m : Name) → memory_of d (acted d s t a).store m ≡ memory_of d t m = λ m. (ask_framed d t r s a f).memories m (g m) in (
            λ m. beside_same d (Lost m) (e m) ((ask_framed D T R S A F).memories m (G m)) (v m),
            opens_same (keeps d t) (keeps d (acted d s t a).store) (λ m. ap is_kept (e m)) h,
          )

      -- ---- every record
      after : {a A : Ask} → Both d D (keeps d t) s S a A → AskFits d s a → AskFits D S A → Tells (acted d s t a) → Roomy (acted D S T A)
          → After (acted d s t a) (acted D S T A)
      unfolding acted opened_by wiped changes_memory targets_memory
      after (resting o O e) f F q g = (v, h)
      after (skipping o O e) f F q g = (v, skips_both no_key no_key)
      after (opening k y) f F q g = seat_both k y (f r.range) (F R.range) (seat d t (name k y)) (seat D T (name k y)) refl refl q g
      after (opening_beyond o e k y n) f F q g =
          seat_right k y (F R.range) (absent_gone d t (name k y) (bad_absent d t r.form (name k y) n)) (out (name k y) n)
          (seat D T (name k y)) refl g
      after (patching p {es} {ES} x) f F q g = same_after (items (page p) es) (items (page p) ES) f F (λ m. refl) (λ m. refl)
      after (patching_beyond o e p b es) f F q g = same_after (rests o) (items (page p) es) f F (λ m. refl) (λ m. refl)
      after (clearing {xs} {XS} w) f F q g =
          let c = cleared d D l Lost t T r R v w f F in (c.views, opens_clear d D l Lost t T (wiped d xs t) (wiped D XS T) c h)
      after (clearing_beyond o e {XS} w) f F q g =
          let c = cleared d D l Lost t T r R v w tt F in (
            c.views,
            subst (λ (x : State). Opens (keeps d t) x (settle D S (wiped D XS T))) (settled d t h) (opens_clear d D l Lost t T t (wiped D XS T) c h),
          )
      after (augmenting c C x) f F q g = second_after (x h) f F

      pub record_after : (x : List ℕ) → Tells (record_step d s x t) → Roomy (record_step D S x T) → After (record_step d s x t) (record_step D S x T)
      unfolding record_step
      record_after x = after (record_both d D l (keeps d t) s S x) (ask_fits d s x) (ask_fits D S x)
