-- A record's items done to the memory of a name and done at its slot come to the same. They leave every memory where it is found and
-- keep the store's length. By induction on the items, from the store's laws of one change.
-- Assumes nothing.
use mathlib.Core.Path.{◌≡◌, refl, ap, ◌∙◌}
use mathlib.Core.List.{List, [], ◌∷◌}
use Prim.Native.Nat.{ℕ}
use lib.ListN.{length}
use Rattle.cells.specs.Search.{at}
use Rattle.store_desk.specs.declared.Desk.{Desk}
use Rattle.store_desk.specs.Size.{Within}
use Rattle.store_desk.specs.Name.{Name}
use Rattle.store.specs.declared.Edit.TheVariants.{Level as SetLevel}
use Rattle.store.specs.Slots.{find}
use Rattle.store.proofs.Edits.{edited-at, edit_at-length, edit_at-find}
use Rattle.store.proofs.Patches.{patch_length, patch_find}
use Rattle.store.proofs.Start.{found_used}
use Rattle.store_code.specs.Fits.{Fitting}
use Rattle.store_code.proofs.Laws.{fitting_kept}
use Rattle.load.specs.declared.Entry.{Entry}
use Rattle.load.specs.declared.Entry.TheVariants.{Level, Patch, Faulty}
use Rattle.load_items.specs.declared.Aim.{Aim}
use Rattle.load_items.specs.declared.Aim.TheVariants.{Slot, Page}
use Rattle.load.specs.Item.{memory, page, done, all_done}
use Rattle.load_items.specs.Done.{done_at, all_done_at}
use Rattle.load_items.specs.Take.{AimFits}
use Rattle.load.specs.Fits.{EntryFits, AllFit}

-- ---- one item
one_length : (d : Desk) (aim : Aim) (e : Entry) (s : List ℕ) → Fitting d s → AimFits d aim → EntryFits d e → length (done_at d aim s e) ≡ length s
unfolding done_at
one_length d (Slot i) (Level n v) s f a h = edit_at-length d s f.long i a (SetLevel n v) tt
one_length d (Slot i) (Patch n k v) s f a h = refl
one_length d (Slot i) (Faulty x) s f a h = refl
one_length d (Page p) (Level n v) s f a h = refl
one_length d (Page p) (Patch n k v) s f a h = patch_length d s f.long f.range p k n v a h.1 h.0 h.2
one_length d (Page p) (Faulty x) s f a h = refl

one_find : (d : Desk) (aim : Aim) (e : Entry) (s : List ℕ) → Fitting d s → AimFits d aim → EntryFits d e
    → (m : Name) → find d (done_at d aim s e) m ≡ find d s m
unfolding done_at
one_find d (Slot i) (Level n v) s f a h m = edit_at-find d s f.long i a (SetLevel n v) tt m
one_find d (Slot i) (Patch n k v) s f a h m = refl
one_find d (Slot i) (Faulty x) s f a h m = refl
one_find d (Page p) (Level n v) s f a h m = refl
one_find d (Page p) (Patch n k v) s f a h m = patch_find d s f.long f.range p k n v a h.1 h.0 h.2 m
one_find d (Page p) (Faulty x) s f a h m = refl

one_slot : (d : Desk) (n : Name) (i : ℕ) (e : Entry) (s : List ℕ) → find d s n ≡ at i → done d (memory n) s e ≡ done_at d (Slot i) s e
unfolding done done_at
one_slot d n i (Level c v) s f = edited-at d s n (SetLevel c v) i f
one_slot d n i (Patch c k v) s f = refl
one_slot d n i (Faulty x) s f = refl

one_page : (d : Desk) (p : ℕ) (e : Entry) (s : List ℕ) → done d (page p) s e ≡ done_at d (Page p) s e
unfolding done done_at
one_page d p (Level c v) s = refl
one_page d p (Patch c k v) s = refl
one_page d p (Faulty x) s = refl

-- ---- one after the other
one_fitting : (d : Desk) (aim : Aim) (e : Entry) (s : List ℕ) → Fitting d s → AimFits d aim → EntryFits d e → Fitting d (done_at d aim s e)
one_fitting d aim e s f a h = fitting_kept d s (done_at d aim s e) (one_length d aim e s f a h) f

pub done_length : (d : Desk) (aim : Aim) (es : List Entry) (s : List ℕ) → Fitting d s → AimFits d aim → AllFit d es
    → length (all_done_at d aim s es) ≡ length s
unfolding all_done_at
done_length d aim [] s f a h = refl
done_length d aim (e ∷ es) s f a h =
    done_length d aim es (done_at d aim s e) (one_fitting d aim e s f a h.0) a h.1 ∙ one_length d aim e s f a h.0

pub done_find : (d : Desk) (aim : Aim) (es : List Entry) (s : List ℕ) → Fitting d s → AimFits d aim → AllFit d es
    → (m : Name) → find d (all_done_at d aim s es) m ≡ find d s m
unfolding all_done_at
done_find d aim [] s f a h m = refl
done_find d aim (e ∷ es) s f a h m =
    done_find d aim es (done_at d aim s e) (one_fitting d aim e s f a h.0) a h.1 m ∙ one_find d aim e s f a h.0 m

pub found_aim : (d : Desk) (s : List ℕ) (n : Name) (i : ℕ) → find d s n ≡ at i → AimFits d (Slot i)
found_aim d s n i f = (found_used d s n i f).0

pub done_slot : (d : Desk) (n : Name) (i : ℕ) (es : List Entry) (s : List ℕ) → Fitting d s → AllFit d es → find d s n ≡ at i
    → all_done d (memory n) s es ≡ all_done_at d (Slot i) s es
unfolding all_done all_done_at
done_slot d n i [] s f h g = refl
done_slot d n i (e ∷ es) s f h g =
    let a = found_aim d s n i g in
    ap (λ (t : List ℕ). all_done d (memory n) t es) (one_slot d n i e s g)
    ∙ done_slot d n i es (done_at d (Slot i) s e) (one_fitting d (Slot i) e s f a h.0) h.1 (one_find d (Slot i) e s f a h.0 n ∙ g)

pub done_page : (d : Desk) (p : ℕ) (es : List Entry) (s : List ℕ) → all_done d (page p) s es ≡ all_done_at d (Page p) s es
unfolding all_done all_done_at
done_page d p [] s = refl
done_page d p (e ∷ es) s = ap (λ (t : List ℕ). all_done d (page p) t es) (one_page d p e s) ∙ done_page d p es (done_at d (Page p) s e)

-- ---- the same for a record's items: CHAN's in the open memory, PATCH's on a page
module _ (d : Desk) (s : List ℕ) (f : Fitting d s) (n : Name) (i : ℕ) (g : find d s n ≡ at i) (es : List Entry) (h : AllFit d es) where
  pub slot_find : (m : Name) → find d (all_done d (memory n) s es) m ≡ find d s m
  slot_find m = ap (λ (t : List ℕ). find d t m) (done_slot d n i es s f h g) ∙ done_find d (Slot i) es s f (found_aim d s n i g) h m

  pub slot_length_lem : length (all_done d (memory n) s es) ≡ length s
  slot_length_lem = ap length (done_slot d n i es s f h g) ∙ done_length d (Slot i) es s f (found_aim d s n i g) h

module _ (d : Desk) (s : List ℕ) (f : Fitting d s) (p : ℕ) (a : Within 1 p d.patch_pages) (es : List Entry) (h : AllFit d es) where
  pub page-find : (m : Name) → find d (all_done d (page p) s es) m ≡ find d s m
  page-find m = ap (λ (t : List ℕ). find d t m) (done_page d p es s) ∙ done_find d (Page p) es s f a h m

  pub page-length : length (all_done d (page p) s es) ≡ length s
  page-length = ap length (done_page d p es s) ∙ done_length d (Page p) es s f a h
