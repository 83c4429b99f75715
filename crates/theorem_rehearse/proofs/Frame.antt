-- The frame: a record changes what it asks for, and nothing else; a change and levels are of the open memory. By the forms of an ask, with
-- what holds of each, and the view, patch and tail laws of the store's operations.
-- Assumes nothing.
use mathlib.Core.Path.{◌≡◌, refl, ap, ◌∙◌, subst}
use mathlib.Core.Bool.{Bool, true, false, cond, ◌&&◌, ◌||◌, true≢false}
use mathlib.Core.List.{List, [], ◌∷◌}
use Prim.Native.Nat.{ℕ}
use lib.Dec.{eqb}
use lib.ListN.{drop}
use Rattle.cells.specs.Search.{Found, at, nowhere}
use Rattle.cells.proofs.Split.{cond-false, cond_same}
use Rattle.store_desk.specs.declared.Desk.{Desk}
use Rattle.store_desk.specs.declared.Key.{Key}
use Rattle.store_desk.specs.declared.Kind.{Kind}
use Rattle.store_desk.specs.Size.{InRange, Within, store_length}
use Rattle.store_desk.specs.Name.{Name, eq_name, ok_name}
use Rattle.store.specs.declared.Edit.{Edit}
use Rattle.store.specs.declared.Edit.TheVariants.{Level as SetLevel}
use Rattle.store.specs.View.{absent, kept, memory_of, patched_to}
use Rattle.store.specs.Change.{seat, started, edited, on_page, hits, patch_entry, patched, cleared, cleared_patch}
use Rattle.store.specs.Memories.{blank_memory, edit_memory, map_kept}
use Rattle.store.specs.Fits.{EditFits}
use Rattle.store.specs.Good.{Ready}
use Rattle.store.proofs.Start.{start_view, start_patch, start_tail}
use Rattle.store.proofs.Edits.{edit_view, edit_patch, edit_tail, in_time_fits}
use Rattle.store.proofs.Clear.{clear_view, clear_patch, clear_tail, clear_good}
use Rattle.store.proofs.Patches.{patch_view, patch_memory, patch_tail, patch_good, same_patch}
use Rattle.store.proofs.Patches.{clear_patch_view, clear_patch_memory, clear_patch_tail, clear_patch_good}
use Rattle.load.specs.declared.Entry.{Entry}
use Rattle.load.specs.declared.Entry.TheVariants.{Level, Patch, Faulty}
use Rattle.load.specs.declared.Numbers.{Numbers}
use Rattle.load.specs.declared.State.{State}
use Rattle.load.specs.Item.{Target, memory, page, done, all_done}
use Rattle.load.specs.Ask.{Wipe, table, dimmers, Ask, rests, skips, opens, edits, items, clears, name, ask_of}
use Rattle.load.specs.Step.{wiped, opened_by, acted}
use Rattle.load.specs.Fits.{AllFit}
use Rattle.load.proofs.Read.{ChangeOk}
use Rattle.load.proofs.Deed.{WipesFit, Deed, resting, skipping, opening, editing, setting, patching, clearing, record_deed}
use Rattle.load.proofs.Anew.{anew_record_deed}
use Rattle.load.proofs.Steps.{level_ready}
use Rattle.theorem_rehearse.specs.Frame.{wipes_memory, wipes_dimmers, patches_dimmer, Framed, OnlyMemory, OnlyDimmers, NamesOpen, Framing, Frame, FrameIn}

-- ---- what an ask may change, for all forms at once
unfoldable pub targets_memory : Target → Name → Bool
targets_memory (memory n) m = eq_name m n
targets_memory (page p) m = false

unfoldable pub changes_memory : Ask → Name → Bool
changes_memory (rests o) m = false
changes_memory (skips o) m = false
changes_memory (opens k key) m = eq_name m (name k key)
changes_memory (edits n e) m = eq_name m n
changes_memory (items target es) m = targets_memory target m
changes_memory (clears ws) m = wipes_memory ws m

unfoldable pub targets_dimmer : Target → List Entry → ℕ → ℕ → Bool
targets_dimmer (memory n) es p q = false
targets_dimmer (page on) es p q = eqb on p && patches_dimmer es q

unfoldable pub changes_dimmer : Ask → ℕ → ℕ → Bool
changes_dimmer (rests o) p q = false
changes_dimmer (skips o) p q = false
changes_dimmer (opens k key) p q = false
changes_dimmer (edits n e) p q = false
changes_dimmer (items target es) p q = targets_dimmer target es p q
changes_dimmer (clears ws) p q = wipes_dimmers ws p

-- ---- what holds of an ask, by its form
abbrev pub AskFits : Desk → State → Ask → Type 0
AskFits d s (rests o) = Unit {0}
AskFits d s (skips o) = Unit {0}
AskFits d s (opens k y) = InRange d → ok_name d (name k y) ≡ true
AskFits d s (edits n e) = NamesOpen s n × ChangeOk n.kind e
AskFits d s (items (memory n) es) = NamesOpen s n × AllFit d es
AskFits d s (items (page p) es) = Within 1 p d.patch_pages × AllFit d es
AskFits d s (clears xs) = WipesFit d xs

deed_fits : {d : Desk} {s : State} {n : ℕ} {a : Ask} → Deed d s n a → AskFits d s a
deed_fits (resting o f) = tt
deed_fits (skipping o f i) = tt
deed_fits (opening k y o) = o
deed_fits (editing k h e c) = ((h, refl), c)
deed_fits (setting k h es f l) = ((h, refl), f)
deed_fits (patching p w es f l) = (w, f)
deed_fits (clearing xs f) = f

pub ask_fits : (d : Desk) (s : State) (r : List ℕ) → AskFits d s (ask_of d s r)
ask_fits d s r = deed_fits (record_deed d s r)

-- ---- joined tests that fail
or_fails_left : (a b c : Bool) → (a && (b || c)) ≡ false → (a && b) ≡ false
or_fails_left true true c e = e
or_fails_left true false c e = refl
or_fails_left false b c e = refl

or_fails_right : (a b c : Bool) → (a && (b || c)) ≡ false → (a && c) ≡ false
or_fails_right true true c e = absurd (true≢false e)
or_fails_right true false c e = e
or_fails_right false b c e = refl

cond_or : {A : Type 0} (a b : Bool) (x y : A) → cond b x (cond a x y) ≡ cond (a || b) x y
cond_or true b x y = cond_same b x
cond_or false b x y = refl

module _ (d : Desk) where
  pub framed_same : (t : List ℕ) {f : Name → Bool} {g : ℕ → ℕ → Bool} → Framed d t t f g
  framed_same t = record { memories = λ m e. refl; dimmers = λ p q wp wq e. refl; beyond = refl }

  -- ---- a primary, a change, levels
  module _ (t : List ℕ) (r : Ready d t) where
    pub start_framed : (n : Name) → ok_name d n ≡ true → (i : ℕ) → seat d t n ≡ at i → OnlyMemory d t (started d t n) n
    start_framed n o i e =
        record {
          memories = λ m f. start_view d t r n o i e m ∙ cond-false (eq_name m n) (kept (blank_memory d n.key)) (memory_of d t m) f;
          dimmers = λ p q wp wq f. same_patch d t (started d t n) (start_patch d t r n o) p q;
          beyond = start_tail d t r n o;
        }

    opened_framed : (k : Kind) (y : Key) → ok_name d (name k y) ≡ true → (a : Found) → seat d t (name k y) ≡ a
        → OnlyMemory d t (opened_by d k y a t).store (name k y)
    unfolding opened_by
    opened_framed k y o (at i) e = start_framed (name k y) o i e
    opened_framed k y o nowhere e = framed_same t

    pub edit_framed : (n : Name) (e : Edit) → EditFits e → OnlyMemory d t (edited d t n e) n
    edit_framed n e g =
        record {
          memories =
              λ m f. edit_view d t r n e g m ∙ cond-false (eq_name m n) (map_kept (edit_memory d e) (memory_of d t n)) (memory_of d t m) f;
          dimmers = λ p q wp wq f. same_patch d t (edited d t n e) (edit_patch d t r n e g) p q;
          beyond = edit_tail d t r n e g;
        }

  levels_framed : (n : Name) (es : List Entry) (t : List ℕ) → Ready d t → OnlyMemory d t (all_done d (memory n) t es) n
  unfolding all_done done
  levels_framed n [] t r = framed_same t
  levels_framed n (Level c v ∷ es) t r =
      let a = edit_framed t r n (SetLevel c v) tt in
      let b = levels_framed n es (edited d t n (SetLevel c v)) (level_ready d t r n c v) in
      record {
        memories = λ m e. b.memories m e ∙ a.memories m e;
        dimmers = λ p q wp wq e. b.dimmers p q wp wq e ∙ a.dimmers p q wp wq e;
        beyond = b.beyond ∙ a.beyond;
      }
  levels_framed n (Patch c k v ∷ es) t r = levels_framed n es t r
  levels_framed n (Faulty x ∷ es) t r = levels_framed n es t r

  -- ---- PATCH
  triples_framed : (p : ℕ) → Within 1 p d.patch_pages → (es : List Entry) → AllFit d es → (t : List ℕ) → Ready d t
      → OnlyDimmers d t (all_done d (page p) t es) p (patches_dimmer es)
  unfolding all_done done patches_dimmer
  triples_framed p w [] f t r = framed_same t
  triples_framed p w (Level n v ∷ es) f t r = triples_framed p w es f.1 t r
  triples_framed p w (Patch n k v ∷ es) f t r =
      let g = f.0 in
      let b = triples_framed p w es f.1 (patched d t p k n v) (patch_good d t r.long r.range p k n v w g.1 g.0 g.2 r) in
      record {
        memories = λ m e. b.memories m e ∙ patch_memory d t r.long r.range p k n v w g.1 g.0 g.2 m;
        dimmers =
            λ x y wx wy e.
            b.dimmers x y wx wy (or_fails_right (eqb p x) (eqb k y) (patches_dimmer es y) e)
            ∙ patch_view d t r.long r.range p k n v w g.1 g.0 g.2 x y wx wy
            ∙ cond-false (eqb p x && eqb k y) (patch_entry n v) (patched_to d t x y) (or_fails_left (eqb p x) (eqb k y) (patches_dimmer es y) e);
        beyond = b.beyond ∙ patch_tail d t r.long r.range p k n v w g.1 g.0 g.2;
      }
  triples_framed p w (Faulty x ∷ es) f t r = triples_framed p w es f.1 t r

  -- ---- CLEAR: what is seen after it
  pub record Wiped (xs : List Wipe) (t : List ℕ) : Type 0 where
    pub memories : (m : Name) → memory_of d (wiped d xs t) m ≡ cond (wipes_memory xs m) absent (memory_of d t m)
    pub dimmers : (p q : ℕ) → Within 1 p d.patch_pages → Within 1 q d.dimmers
        → patched_to d (wiped d xs t) p q ≡ cond (wipes_dimmers xs p) (patch_entry 0 0) (patched_to d t p q)
    pub beyond : drop (store_length d) (wiped d xs t) ≡ drop (store_length d) t

  pub wiped_seen : (xs : List Wipe) → WipesFit d xs → (t : List ℕ) → Ready d t → Wiped xs t
  unfolding wiped wipes_memory wipes_dimmers
  wiped_seen [] f t r = record { memories = λ m. refl; dimmers = λ p q wp wq. refl; beyond = refl }
  wiped_seen (table k p ∷ xs) f t r =
      let b = wiped_seen xs f.1 (cleared d t k p) (clear_good d t r k p) in
      record {
        memories =
            λ m.
            b.memories m ∙ ap (cond (wipes_memory xs m) absent) (clear_view d t r.long k p m)
            ∙ cond_or (hits k p m) (wipes_memory xs m) absent (memory_of d t m);
        dimmers =
            λ x y wx wy.
            b.dimmers x y wx wy
            ∙ ap (cond (wipes_dimmers xs x) (patch_entry 0 0)) (same_patch d t (cleared d t k p) (clear_patch d t r.long k p) x y);
        beyond = b.beyond ∙ clear_tail d t r.long k p;
      }
  wiped_seen (dimmers p ∷ xs) f t r =
      let b = wiped_seen xs f.1 (cleared_patch d t p) (clear_patch_good d t r.long p f.0 r) in
      record {
        memories = λ m. b.memories m ∙ ap (cond (wipes_memory xs m) absent) (clear_patch_memory d t r.long p f.0 m);
        dimmers =
            λ x y wx wy.
            b.dimmers x y wx wy ∙ ap (cond (wipes_dimmers xs x) (patch_entry 0 0)) (clear_patch_view d t r.long p f.0 x y wx wy)
            ∙ cond_or (on_page p x) (wipes_dimmers xs x) (patch_entry 0 0) (patched_to d t x y);
        beyond = b.beyond ∙ clear_patch_tail d t r.long p f.0;
      }

  wipes_framed : (xs : List Wipe) (t : List ℕ) → Wiped xs t → Framed d t (wiped d xs t) (wipes_memory xs) (λ p q. wipes_dimmers xs p)
  wipes_framed xs t h =
      record {
        memories = λ m e. h.memories m ∙ cond-false (wipes_memory xs m) absent (memory_of d t m) e;
        dimmers = λ p q wp wq e. h.dimmers p q wp wq ∙ cond-false (wipes_dimmers xs p) (patch_entry 0 0) (patched_to d t p q) e;
        beyond = h.beyond;
      }

  -- ---- every record
  pub ask_framed : (t : List ℕ) → Ready d t → (s : State) (a : Ask) → AskFits d s a
      → Framed d t (acted d s t a).store (changes_memory a) (changes_dimmer a)
  unfolding acted changes_memory targets_memory changes_dimmer targets_dimmer
  ask_framed t r s (rests o) f = framed_same t
  ask_framed t r s (skips o) f = framed_same t
  ask_framed t r s (opens k y) f = opened_framed t r k y (f r.range) (seat d t (name k y)) refl
  ask_framed t r s (edits n e) f = edit_framed t r n e (in_time_fits e f.1.1)
  ask_framed t r s (items (memory n) es) f = levels_framed n es t r
  ask_framed t r s (items (page p) es) f = triples_framed p f.0 es f.1 t r
  ask_framed t r s (clears xs) f = wipes_framed xs t (wiped_seen xs f t r)

module _ (d : Desk) (t : List ℕ) (s : State) {n : ℕ} {x : Ask} (deed : Deed d s n x) where
  abbrev Given : Ask → Type 0
  Given a = AskFits d s a × (Ready d t → Framed d t (acted d s t x).store (changes_memory a) (changes_dimmer a))

  given : (a : Ask) → x ≡ a → Given a
  given a h = subst Given h (deed_fits deed, λ r. ask_framed d t r s x (deed_fits deed))

  deed_framing : Framing d t s x
  unfolding acted changes_memory targets_memory changes_dimmer targets_dimmer
  deed_framing =
      record {
        opens = λ k y h. (given (opens k y) h).1;
        edits = λ n e h. ((given (edits n e) h).0.0, (given (edits n e) h).1);
        pairs = λ n es h. ((given (items (memory n) es) h).0.0, (given (items (memory n) es) h).1);
        triples = λ p es h. (given (items (page p) es) h).1;
        clears = λ ws h. (given (clears ws) h).1;
        rests = λ o h. ap (λ (a : Ask). (acted d s t a).store) h;
        skips = λ o h. ap (λ (a : Ask). (acted d s t a).store) h;
      }

module _ (d : Desk) (t : List ℕ) where
  pub framed : (s : State) (r : List ℕ) → Frame d t s r
  framed s r = deed_framing d t s (record_deed d s r)

  pub framed_in : (b : Numbers) (s : State) (r : List ℕ) → FrameIn d t b s r
  framed_in b s r = deed_framing d t s (anew_record_deed d b s r)
