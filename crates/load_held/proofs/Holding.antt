-- What is open, with its slot: a slot that stays where the store finds each memory as before, and what is left open after CLEAR. By cases on
-- what is open.
-- Assumes nothing.
use Rattle.std.specs.Prelude.{None, Option, Some}
use mathlib.Core.Path.{◌≡◌, refl, sym, ap, ◌∙◌, subst}
use mathlib.Core.List.{List}
use Prim.Native.Nat.{ℕ, ◌<◌}
use native.Mathlib.Omega.{arith}
use lib.ListN.{length}
use Rattle.cells.specs.Search.{Found, at, nowhere}
use Rattle.store_desk.specs.declared.Desk.{Desk}
use Rattle.store_desk.specs.declared.Key.{Key}
use Rattle.store_desk.specs.declared.Kind.{Kind}
use Rattle.store_desk.specs.Size.{slots_of}
use Rattle.store_desk.specs.Name.{Name, KeyFits}
use Rattle.store.specs.declared.Edit.{Edit}
use Rattle.store.specs.Slots.{find, on_found, place_of}
use Rattle.store.specs.Change.{edited}
use Rattle.store.specs.Fits.{EditFits}
use Rattle.store.proofs.Edits.{edited-at, edit_at-find, edit_at-length}
use Rattle.store.proofs.Start.{found_used}
use Rattle.store_code.specs.Fits.{Fitting}
use Rattle.store_code.proofs.Found.{place_at, place_nowhere}
use Rattle.load.specs.declared.State.{State}
use Rattle.load.specs.declared.Open.{Open}
use Rattle.load.specs.declared.Open.TheVariants.{Nothing, Skipping, Memory}
use Rattle.load.specs.Ask.{name}
use Rattle.load.specs.Step.{no_key, nothing_open, skipping, settle_by, settle, slot_by, slot_of}
use Rattle.load_held.specs.declared.Held.{Held}
use Rattle.load_held.specs.Held.{held_of, IsKept, Settled, HeldReady}
use Rattle.load_held.specs.Parts.{kind_in, open_name, IsOpen, resting}

-- ---- the open memory is in its slot
open_kept : (d : Desk) (t : List ℕ) (key : Key) (o : Open) → IsOpen o → IsKept d t key o → find d t (name (kind_in o) key) ≡ at (slot_by d t key o)
unfolding kind_in
open_kept d t key Nothing h e = absurd h
open_kept d t key Skipping h e = absurd h
open_kept d t key (Memory k) h e = e

pub settled_found : (d : Desk) (t : List ℕ) {s : State} → Settled d t s → IsOpen s.«open» → find d t (open_name s) ≡ at (slot_of d t s)
settled_found d t {s} g o = open_kept d t s.key s.«open» o g.kept

module _ (d : Desk) (t : List ℕ) {h : Held} (g : HeldReady d t h) (o : IsOpen h.state.«open») where
  pub open_found : find d t (open_name h.state) ≡ at h.slot
  unfolding held_of
  open_found = settled_found d t g.settled o ∙ ap at (sym (ap (λ (x : Held). x.slot) g.same))

  pub open_slot : h.slot < slots_of d
  open_slot = (found_used d t (open_name h.state) h.slot open_found).0

-- ---- a change leaves every memory where it is found
module _ (d : Desk) (t : List ℕ) (f : Fitting d t) (n : Name) (i : ℕ) (g : find d t n ≡ at i) (e : Edit) (m : EditFits e) where
  pub edited-find : (y : Name) → find d (edited d t n e) y ≡ find d t y
  edited-find y =
      ap (λ (v : List ℕ). find d v y) (edited-at d t n e i g) ∙ edit_at-find d t f.long i (found_used d t n i g).0 e m y

  pub edited-length : length (edited d t n e) ≡ length t
  edited-length = ap length (edited-at d t n e i g) ∙ edit_at-length d t f.long i (found_used d t n i g).0 e m

-- ---- where every memory is found as before
module _ (d : Desk) (t u : List ℕ) (f : (m : Name) → find d u m ≡ find d t m) where
  slot_stays : (key : Key) (o : Open) → slot_by d t key o ≡ slot_by d u key o
  unfolding slot_by
  slot_stays key Nothing = refl
  slot_stays key Skipping = refl
  slot_stays key (Memory k) = ap (λ (a : Found). on_found a (λ i. i) 0) (sym (f (name k key)))

  pub held_stays : {h : Held} → h ≡ held_of d t h.state → h ≡ held_of d u h.state
  unfolding held_of
  held_stays {h} e = e ∙ (λ i. record { state = h.state; slot = slot_stays h.state.key h.state.«open» i })

  kept_stays : (key : Key) (o : Open) → IsKept d t key o → IsKept d u key o
  kept_stays key Nothing e = tt
  kept_stays key Skipping e = tt
  kept_stays key (Memory k) e = f (name k key) ∙ e ∙ ap at (slot_stays key (Memory k))

  pub settled_stays : {s : State} → Settled d t s → Settled d u s
  settled_stays {s} g = record { fits = g.fits; kept = kept_stays s.key s.«open» g.kept }

-- ---- what is left open
module _ (d : Desk) (t : List ℕ) (s : State) where
  pub settle_nothing : s.«open» ≡ Nothing → ◌≡◌ {A = Held} (record { state = s; slot = 0 }) (held_of d t (settle d s t))
  unfolding held_of settle_by slot_by
  settle_nothing e =
      sym (ap (λ (o : Open). held_of d t (settle_by d s o t)) e ∙ (λ i. record { state = s; slot = slot_by d t s.key (e i) }))

  pub settle_skipping : s.«open» ≡ Skipping → ◌≡◌ {A = Held} (record { state = s; slot = 0 }) (held_of d t (settle d s t))
  unfolding held_of settle_by slot_by
  settle_skipping e =
      sym (ap (λ (o : Open). held_of d t (settle_by d s o t)) e ∙ (λ i. record { state = s; slot = slot_by d t s.key (e i) }))

  module _ {k : Kind} (e : s.«open» ≡ Memory k) {p : Option ℕ} (g : p ≡ place_of (find d t (name k s.key))) where
    pub settle_found : {i : ℕ} → p ≡ Some i → ◌≡◌ {A = Held} (record { state = s; slot = i }) (held_of d t (settle d s t))
    unfolding held_of settle_by slot_by on_found
    settle_found {i} h =
        let f : find d t (name k s.key) ≡ at i = place_at g h in
        sym (ap (λ (o : Open). held_of d t (settle_by d s o t)) e
        ∙ ap (λ (a : Found). held_of d t (on_found a (λ j. s) nothing_open)) f
        ∙ (λ j. record { state = s; slot = slot_by d t s.key (e j) })
        ∙ (λ j. record { state = s; slot = on_found (f j) (λ x. x) 0 }))

    pub settle_gone : p ≡ None → {h : Held} → h ≡ resting Nothing → h ≡ held_of d t (settle d s t)
    unfolding held_of settle_by slot_by on_found
    settle_gone h q =
        let f : find d t (name k s.key) ≡ nowhere = place_nowhere g h in
        q ∙ sym (ap (λ (o : Open). held_of d t (settle_by d s o t)) e ∙ ap (λ (a : Found). held_of d t (on_found a (λ j. s) nothing_open)) f)

-- ---- and that is settled
no_key_fits : KeyFits no_key
no_key_fits = record { page = omega arith; whole = omega arith; fraction = omega arith }

pub nothing_settled : (d : Desk) (t : List ℕ) → Settled d t nothing_open
nothing_settled d t = record { fits = no_key_fits; kept = tt }

pub skipping_settled : (d : Desk) (t : List ℕ) → Settled d t skipping
skipping_settled d t = record { fits = no_key_fits; kept = tt }

pub nothing_ready : (d : Desk) (t : List ℕ) {h : Held} → h ≡ resting Nothing → HeldReady d t h
unfolding held_of slot_by
nothing_ready d t e =
    subst (λ (h : Held). HeldReady d t h) (sym e) (record { same = refl; settled = nothing_settled d t })

found_settled : (d : Desk) (t : List ℕ) (s : State) (k : Kind) → KeyFits s.key → s.«open» ≡ Memory k
    → (i : ℕ) → find d t (name k s.key) ≡ at i → Settled d t s
unfolding slot_by on_found
found_settled d t s k f o i e =
    record {
      fits = f;
      kept =
          subst (λ (x : Open). IsKept d t s.key x) (sym o) (e ∙ ap (λ (a : Found). at (on_found a (λ j. j) 0)) (sym e));
    }

pub memory_settled : (d : Desk) (t : List ℕ) (k : Kind) (key : Key) → KeyFits key → (i : ℕ) → find d t (name k key) ≡ at i
    → Settled d t (record { «open» = Memory k; key = key })
memory_settled d t k key f i e = found_settled d t (record { «open» = Memory k; key = key }) k f refl i e

pub settle_settled : (d : Desk) (t : List ℕ) (s : State) → KeyFits s.key → Settled d t (settle d s t)
unfolding settle_by on_found
settle_settled d t s f = cases s.«open» refl
  where
    found : (k : Kind) → s.«open» ≡ Memory k → (a : Found) → find d t (name k s.key) ≡ a → Settled d t (on_found a (λ j. s) nothing_open)
    found k e (at i) g = found_settled d t s k f e i g
    found k e nowhere g = nothing_settled d t

    cases : (o : Open) → s.«open» ≡ o → Settled d t (settle_by d s o t)
    cases Nothing e = record { fits = f; kept = subst (λ (x : Open). IsKept d t s.key x) (sym e) tt }
    cases Skipping e = record { fits = f; kept = subst (λ (x : Open). IsKept d t s.key x) (sym e) tt }
    cases (Memory k) e = found k e (find d t (name k s.key)) refl
