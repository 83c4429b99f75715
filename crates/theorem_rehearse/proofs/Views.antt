-- The views of two stores, name by name: what the smaller keeps, the larger keeps and agrees; what the larger alone keeps is lost to the
-- smaller, where `lost` says which names may be. The relation is closed under what the store's operations do to a view, on both
-- desks or on the larger alone. By the view laws of the store and cases on what is kept.
-- Assumes nothing.
use mathlib.Core.Path.{◌≡◌, refl, sym, ap, ◌∙◌, subst, subst₂}
use mathlib.Core.Bool.{Bool, true, false, cond, true≢false, false≢true}
use mathlib.Core.List.{List, [], ◌∷◌}
use Prim.Native.Nat.{ℕ, ◌-◌, ◌*◌, ◌≤◌, ◌<◌}
use native.Mathlib.Omega.{arith}
use lib.ListN.{set}
use lib.Seq.{take-set-lt, take-set-le}
use Rattle.cells.specs.Search.{at}
use Rattle.cells.proofs.Split.{by_bool, cond-true}
use Rattle.store_desk.specs.declared.Desk.{Desk}
use Rattle.store_desk.specs.declared.Key.{Key}
use Rattle.store_desk.specs.Size.{Within, level_width, levels_length}
use Rattle.store_desk.specs.Name.{Name, eq_name, ok_name}
use Rattle.store_desk.proofs.Name.{eq_name_lem, eq_name_refl}
use Rattle.store.specs.declared.Edit.{Edit}
use Rattle.store.specs.declared.Edit.TheVariants.{Up, Down, Followon, Link, Level}
use Rattle.store.specs.View.{Memory, Kept, absent, kept, memory_of}
use Rattle.store.specs.Change.{seat, started, edited, edit_head}
use Rattle.store.specs.Memories.{blank_memory, edit_levels, edit_memory, map_kept}
use Rattle.store.specs.Fits.{EditFits}
use Rattle.store.specs.Good.{Ready}
use Rattle.store.proofs.Start.{start_view}
use Rattle.store.proofs.Edits.{edit_view}
use Rattle.store.proofs.Patches.{part_zeros}
use Rattle.load.specs.declared.Entry.{Entry}
use Rattle.load.specs.declared.Entry.TheVariants.{Level as LevelItem, Patch as PatchItem, Faulty}
use Rattle.load.specs.Item.{memory, done, all_done}
use Rattle.load.specs.Fits.{AllFit}
use Rattle.load.proofs.Read.{NoLevel}
use Rattle.load.proofs.Steps.{level_ready}
use Rattle.theorem_rehearse.specs.Rehearse.{Larger, is_kept, Agrees}
use Rattle.theorem_rehearse.specs.Frame.{OnlyMemory}
use Rattle.theorem_rehearse.proofs.Items.{Pairs, pair_faults, beyond_channel, same_level, Each, none, next}
use Rattle.theorem_rehearse.proofs.Frame.{framed_same, start_framed, edit_framed}

abbrev pub keeps : Desk → List ℕ → Name → Bool
keeps d t n = is_kept (memory_of d t n)

-- ---- memories that agree
module _ (d D : Desk) (l : Larger d D) where
  abbrev pub EditAgrees : Edit → Type 0
  EditAgrees e = (m M : Memory) → Agrees d m M → Agrees d (edit_memory d e m) (edit_memory D e M)

  blank_agrees : (key : Key) → Agrees d (blank_memory d key) (blank_memory D key)
  unfolding blank_memory levels_length level_width
  blank_agrees key =
      (refl, part_zeros (d.channels * 1) 0 (D.channels * 1) (let m = l.channels in omega arith))

  pub change_agrees : (e : Edit) → NoLevel e → EditAgrees e
  unfolding edit_memory edit_levels
  change_agrees (Up fade delay) h m M a = (ap (edit_head (Up fade delay)) a.0, a.1)
  change_agrees (Down fade delay) h m M a = (ap (edit_head (Down fade delay)) a.0, a.1)
  change_agrees (Followon time) h m M a = (ap (edit_head (Followon time)) a.0, a.1)
  change_agrees (Link whole fraction) h m M a = (ap (edit_head (Link whole fraction)) a.0, a.1)
  change_agrees (Level channel v) h m M a = absurd h

  level_agrees : (channel v : ℕ) → Within 1 channel d.channels → EditAgrees (Level channel v)
  unfolding edit_memory edit_levels
  level_agrees channel v c m M a = (
    ap (edit_head (Level channel v)) a.0,
    take-set-lt (levels_length d) M.levels ((channel - 1) * level_width D) v inside
        ∙ ap (λ (x : List ℕ). set x ((channel - 1) * level_width D) v) a.1
        ∙ ap (λ (i : ℕ). set m.levels i v) (unfold level_width in refl),
  )
    where
      inside : (channel - 1) * level_width D < levels_length d
      inside = unfold level_width levels_length in (omega arith)

  beyond_agrees : (channel v : ℕ) → d.channels < channel → (m M : Memory) → Agrees d m M → Agrees d m (edit_memory D (Level channel v) M)
  unfolding edit_memory edit_levels edit_head
  beyond_agrees channel v h m M a =
      (a.0, take-set-le (levels_length d) M.levels ((channel - 1) * level_width D) v outside ∙ a.1)
    where
      outside : levels_length d ≤ (channel - 1) * level_width D
      outside = unfold level_width levels_length in (omega arith)

-- ---- the relation, for one name
unfoldable pub Beside : Desk → Type 0 → Kept → Kept → Type 0
Beside d lost absent absent = Unit {0}
Beside d lost absent (kept M) = lost
Beside d lost (kept m) absent = ⊥
Beside d lost (kept m) (kept M) = Agrees d m M

module _ (d : Desk) (lost : Type 0) where
  pub beside_none : Beside d lost absent absent
  unfolding Beside
  beside_none = tt

  pub beside_same : {k k₂ K K₂ : Kept} → k₂ ≡ k → K₂ ≡ K → Beside d lost k K → Beside d lost k₂ K₂
  beside_same e E h = subst₂ (λ a b. Beside d lost a b) (sym e) (sym E) h

  pub beside_cond : (b : Bool) (k k₂ K K₂ : Kept) → Beside d lost k K → Beside d lost k₂ K₂ → Beside d lost (cond b k k₂) (cond b K K₂)
  beside_cond true k k₂ K K₂ h g = h
  beside_cond false k k₂ K K₂ h g = g

  beside_map : (f F : Memory → Memory) → ((m M : Memory) → Agrees d m M → Agrees d (f m) (F M))
      → (k K : Kept) → Beside d lost k K → Beside d lost (map_kept f k) (map_kept F K)
  unfolding Beside map_kept
  beside_map f F a absent absent h = h
  beside_map f F a absent (kept M) h = h
  beside_map f F a (kept m) absent h = h
  beside_map f F a (kept m) (kept M) h = a m M h

  beside_right : (F : Memory → Memory) → ((m M : Memory) → Agrees d m M → Agrees d m (F M))
      → (k K : Kept) → Beside d lost k K → Beside d lost k (map_kept F K)
  unfolding Beside map_kept
  beside_right F a absent absent h = h
  beside_right F a absent (kept M) h = h
  beside_right F a (kept m) absent h = h
  beside_right F a (kept m) (kept M) h = a m M h

  -- what the larger alone keeps, changed
  beside_alone : (k K K₂ : Kept) → is_kept k ≡ false → is_kept K₂ ≡ is_kept K → Beside d lost k K → Beside d lost k K₂
  unfolding Beside is_kept
  beside_alone (kept m) K K₂ e q h = absurd (true≢false e)
  beside_alone absent K absent e q h = tt
  beside_alone absent absent (kept M) e q h = absurd (true≢false q)
  beside_alone absent (kept N) (kept M) e q h = h

  beside_lost : (k : Kept) (M : Memory) → is_kept k ≡ false → lost → Beside d lost k (kept M)
  unfolding Beside is_kept
  beside_lost absent M e h = h
  beside_lost (kept m) M e h = absurd (true≢false e)

  -- what is removed on the larger alone, the smaller does not keep
  pub beside_gone : (b : Bool) (k K : Kept) → k ≡ absent → Beside d lost k K → Beside d lost k (cond b absent K)
  beside_gone true k K e h = beside_same e refl beside_none
  beside_gone false k K e h = h

  pub beside_kept : (k K : Kept) → Beside d lost k K → is_kept k ≡ true → is_kept K ≡ true
  unfolding Beside is_kept
  beside_kept absent K h e = absurd (false≢true e)
  beside_kept (kept m) absent h e = absurd h
  beside_kept (kept m) (kept M) h e = refl

  pub beside_agrees : (m : Memory) (K : Kept) → Beside d lost (kept m) K → (M : Memory) × (K ≡ kept M) × Agrees d m M
  unfolding Beside
  beside_agrees m absent h = absurd h
  beside_agrees m (kept M) h = (M, refl, h)

  pub beside_back : (k K : Kept) → Beside d lost k K → is_kept K ≡ true → (lost → is_kept k ≡ true) → is_kept k ≡ true
  unfolding Beside is_kept
  beside_back absent absent h e g = absurd (false≢true e)
  beside_back absent (kept M) h e g = g h
  beside_back (kept m) K h e g = refl

-- ---- the memory that is started or changed
map_keeps : (f : Memory → Memory) (k : Kept) → is_kept (map_kept f k) ≡ is_kept k
unfolding map_kept is_kept
map_keeps f absent = refl
map_keeps f (kept m) = refl

module _ (d : Desk) (t : List ℕ) (r : Ready d t) (n : Name) where
  start_here : ok_name d n ≡ true → (i : ℕ) → seat d t n ≡ at i → memory_of d (started d t n) n ≡ kept (blank_memory d n.key)
  start_here o i e = start_view d t r n o i e n ∙ cond-true (eq_name n n) (kept (blank_memory d n.key)) (memory_of d t n) (eq_name_refl n)

  edit_here : (e : Edit) → EditFits e → memory_of d (edited d t n e) n ≡ map_kept (edit_memory d e) (memory_of d t n)
  edit_here e g = edit_view d t r n e g n ∙ cond-true (eq_name n n) (map_kept (edit_memory d e) (memory_of d t n)) (memory_of d t n) (eq_name_refl n)

  pub start_keeps : ok_name d n ≡ true → (i : ℕ) → seat d t n ≡ at i → keeps d (started d t n) n ≡ true
  unfolding is_kept
  start_keeps o i e = ap is_kept (start_here o i e)

  -- a change keeps what is kept
  pub edit_keeps : (e : Edit) → EditFits e → (m : Name) → keeps d (edited d t n e) m ≡ keeps d t m
  edit_keeps e g m =
      by_bool (eq_name m n)
      (λ z.
      subst (λ (a : Name). keeps d (edited d t n e) a ≡ keeps d t a) (sym (eq_name_lem m n z))
      (ap is_kept (edit_here e g) ∙ map_keeps (edit_memory d e) (memory_of d t n)))
      (λ z. ap is_kept ((edit_framed d t r n e g).memories m z))

pub levels_keep : (d : Desk) (n : Name) (es : List Entry) (t : List ℕ) → Ready d t → (m : Name) → keeps d (all_done d (memory n) t es) m ≡ keeps d t m
unfolding all_done done
levels_keep d n [] t r m = refl
levels_keep d n (LevelItem channel v ∷ es) t r m =
    levels_keep d n es (edited d t n (Level channel v)) (level_ready d t r n channel v) m ∙ edit_keeps d t r n (Level channel v) tt m
levels_keep d n (PatchItem channel dimmer v ∷ es) t r m = levels_keep d n es t r m
levels_keep d n (Faulty x ∷ es) t r m = levels_keep d n es t r m

-- ---- the relation, for all names, and the operations
module _ (d D : Desk) (l : Larger d D) (Lost : Name → Type 0) where
  abbrev pub Views : List ℕ → List ℕ → Type 0
  Views t T = (m : Name) → Beside d (Lost m) (memory_of d t m) (memory_of D T m)

  module _ (t T : List ℕ) (r : Ready d t) (R : Ready D T) (v : Views t T) (n : Name) where
    -- where only the memory of one name changes
    views_at : (u U : List ℕ) → OnlyMemory d t u n → OnlyMemory D T U n
        → Beside d (Lost n) (memory_of d u n) (memory_of D U n) → Views u U
    views_at u U f F h m =
        by_bool (eq_name m n)
        (λ z. subst (λ (a : Name). Beside d (Lost a) (memory_of d u a) (memory_of D U a)) (sym (eq_name_lem m n z)) h)
        (λ z. beside_same d (Lost m) (f.memories m z) (F.memories m z) (v m))

    pub start_both : ok_name d n ≡ true → ok_name D n ≡ true → (i I : ℕ) → seat d t n ≡ at i → seat D T n ≡ at I
        → Views (started d t n) (started D T n)
    unfolding Beside
    start_both o O i I e E =
        views_at (started d t n) (started D T n) (start_framed d t r n o i e) (start_framed D T R n O I E)
        (beside_same d (Lost n) (start_here d t r n o i e) (start_here D T R n O I E) (blank_agrees d D l n.key))

    -- the larger alone starts a memory that the smaller does not keep
    pub start_right : ok_name D n ≡ true → (I : ℕ) → seat D T n ≡ at I → keeps d t n ≡ false → Lost n → Views t (started D T n)
    start_right O I E g x =
        views_at t (started D T n) (framed_same d t) (start_framed D T R n O I E)
        (beside_same d (Lost n) refl (start_here D T R n O I E) (beside_lost d (Lost n) (memory_of d t n) (blank_memory D n.key) g x))

    pub edit_both : (e : Edit) → EditFits e → EditAgrees d D l e → Views (edited d t n e) (edited D T n e)
    edit_both e g c =
        views_at (edited d t n e) (edited D T n e) (edit_framed d t r n e g) (edit_framed D T R n e g)
        (beside_same d (Lost n) (edit_here d t r n e g) (edit_here D T R n e g)
        (beside_map d (Lost n) (edit_memory d e) (edit_memory D e) c (memory_of d t n) (memory_of D T n) (v n)))

    -- the larger alone changes a level beyond the smaller's channels
    edit_beyond : (channel w : ℕ) → d.channels < channel → Views t (edited D T n (Level channel w))
    edit_beyond channel w h =
        views_at t (edited D T n (Level channel w)) (framed_same d t) (edit_framed D T R n (Level channel w) tt)
        (beside_same d (Lost n) refl (edit_here D T R n (Level channel w) tt)
        (beside_right d (Lost n) (edit_memory D (Level channel w)) (beyond_agrees d D l channel w h) (memory_of d t n) (memory_of D T n) (v n)))

    -- or a memory that the smaller does not keep
    pub skipped : (U : List ℕ) → OnlyMemory D T U n → keeps D U n ≡ keeps D T n → keeps d t n ≡ false → Views t U
    skipped U F e k = views_at t U (framed_same d t) F (beside_alone d (Lost n) (memory_of d t n) (memory_of D T n) (memory_of D U n) k e (v n))

  pub levels_both : (n : Name) {es ES : List Entry} → Each (Pairs d D) es ES → AllFit d es → (t T : List ℕ) → Ready d t → Ready D T → Views t T
      → Views (all_done d (memory n) t es) (all_done D (memory n) T ES)
  unfolding all_done done
  levels_both n none f t T r R v = v
  levels_both n (next pair_faults h) f t T r R v = levels_both n h f.1 t T r R v
  levels_both n (next (beyond_channel k w b) h) f t T r R v =
      levels_both n h f.1 t (edited D T n (Level k w)) r (level_ready D T R n k w) (edit_beyond t T r R v n k w b)
  levels_both n (next (same_level k w) h) f t T r R v =
      levels_both n h f.1 (edited d t n (Level k w)) (edited D T n (Level k w)) (level_ready d t r n k w) (level_ready D T R n k w)
      (edit_both t T r R v n (Level k w) tt (level_agrees d D l k w f.0.0))
