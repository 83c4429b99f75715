-- A secondary: the change that it asks for can be written, and is made in the slot of the open memory; CHAN's pairs; what does not apply; a
-- LINK that is only heard.
-- By cases on what the fields ask for and on what is open.
-- Assumes nothing.
use Rattle.std.specs.Prelude.{Err, Ok, Result}
use mathlib.Core.Path.{◌≡◌, refl, sym, ap, ◌∙◌, subst}
use mathlib.Core.Bool.{Bool, true, false, ◌&&◌, false≢true}
use mathlib.Core.List.{List, []}
use Prim.Native.Nat.{ℕ}
use Rattle.cells.specs.Search.{at}
use Rattle.cells.proofs.Split.{by_test, cond-true, cond-false, and_false_left, and_then}
use Rattle.store_desk.specs.declared.Desk.{Desk}
use Rattle.store_desk.specs.declared.Kind.{Kind}
use Rattle.store_desk.specs.declared.Kind.TheVariants.{Cue}
use Rattle.store_desk.specs.Name.{Name}
use Rattle.text_fields.specs.Words.{Word}
use Rattle.store.specs.declared.Edit.{Edit}
use Rattle.store.specs.declared.Edit.TheVariants.{Up as SetUp, Down as SetDown, Followon as SetFollowon, Link as SetLink, Level as SetLevel}
use Rattle.store.specs.Slots.{find}
use Rattle.store.specs.Change.{edited, edit_at}
use Rattle.store.specs.Form.{has_times, has_link}
use Rattle.store.proofs.Edits.{edited-at, in_time_fits}
use Rattle.store_code.specs.Fits.{Fitting, OnDesk, Editing}
use Rattle.load.specs.declared.Entry.{Entry}
use Rattle.load.specs.declared.Fault.{Fault}
use Rattle.load.specs.declared.State.{State}
use Rattle.load.specs.declared.Open.{Open}
use Rattle.load.specs.declared.Open.TheVariants.{Nothing, Skipping, Memory}
use Rattle.load.specs.declared.Outcome.{Outcome}
use Rattle.load.specs.declared.Outcome.TheVariants.{Passed, Dropped, Obeyed}
use Rattle.load.specs.declared.Secondary.{Secondary}
use Rattle.load.specs.declared.Secondary.TheVariants.{Chan, Up, Down, Followon, Link}
use Rattle.load.specs.Condition.{wrong_secondary}
use Rattle.load.specs.Item.{blame, pairs_of, memory, all_done}
use Rattle.load.specs.Ask.{Ask, rests, edits, name, augments, times_of, change_ask, obeyed_ask, secondary_ask}
use Rattle.load.specs.Anew.{is_link, links_in, asks_link}
use Rattle.load.specs.Fits.{secondary_ask_in}
use Rattle.load.specs.Step.{slot_by, acted}
use Rattle.load.proofs.Entries.{pairs_fit}
use Rattle.load.proofs.Read.{NoLevel, ChangeOk, ReadingOk, reading_ok}
use Rattle.load_items.specs.declared.Aim.TheVariants.{Slot}
use Rattle.load_items.specs.Take.{Taken, taken_as, taken_of}
use Rattle.load_items.proofs.Done.{done_slot, slot_find}
use Rattle.load_held.specs.declared.Did.{Did}
use Rattle.load_held.specs.declared.Held.{Held}
use Rattle.load_held.specs.Held.{held_of, IsKept, HeldReady}
use Rattle.load_held.specs.Parts.{kind_in, open_name, IsOpen, did_as, doing, did_of, DeedsAll, doing_all, did_all}
use Rattle.load_step.specs.Parts.{has_items, ReadingFits}
use Rattle.load_held.proofs.Holding.{open_found, held_stays, edited-find}
use Rattle.load_held.proofs.Answers.{did_all_lem, asked_did_all}

-- ---- a change that is asked for can be written
change_editing : (d : Desk) (k : Kind) (e : Edit) → ChangeOk k e → Editing d e
change_editing d k e c = record { fits = in_time_fits e c.1; channel = on_desk e c.2 }
  where
    on_desk : (x : Edit) → NoLevel x → OnDesk d x
    on_desk (SetUp fade delay) h = tt
    on_desk (SetDown fade delay) h = tt
    on_desk (SetFollowon time) h = tt
    on_desk (SetLink whole fraction) h = tt
    on_desk (SetLevel channel v) h = absurd h

reading_fits : (d : Desk) (k : Kind) (x : Result Edit Fault) → ReadingOk k x → ReadingFits d x
reading_fits d k (Err c) h = tt
reading_fits d k (Ok e) h = change_editing d k e h

-- a cue has them all
cue_has : (e : Secondary) → augments Cue e ≡ true
unfolding augments has_times has_link
cue_has Chan = refl
cue_has Up = refl
cue_has Down = refl
cue_has Followon = refl
cue_has Link = refl

pub times_fit : (d : Desk) (e : Secondary) (ws : List Word) {x : Result Edit Fault} → x ≡ times_of e ws → ReadingFits d x
times_fit d e ws g = subst (λ (y : Result Edit Fault). ReadingFits d y) (sym g) (reading_fits d Cue (times_of e ws) (reading_ok Cue e (cue_has e) ws))

pub change_fits : (d : Desk) {x : Result Edit Fault} {e : Edit} → ReadingFits d x → x ≡ Ok e → Editing d e
change_fits d f g = subst (λ (y : Result Edit Fault). ReadingFits d y) g f

-- ---- UP, DOWN, FOLLOWON, LINK: what is asked
pub change_wrong : (n : Name) {x : Result Edit Fault} {f : Fault} → x ≡ Err f → rests (Dropped f) ≡ change_ask n x
unfolding change_ask
change_wrong n e = sym (ap (λ (y : Result Edit Fault). change_ask n y) e)

pub change_edits : (n : Name) {x : Result Edit Fault} {e : Edit} → x ≡ Ok e → edits n e ≡ change_ask n x
unfolding change_ask
change_edits n e = sym (ap (λ (y : Result Edit Fault). change_ask n y) e)

change_faults : (d : Desk) (s : State) (t : List ℕ) (n : Name) (x : Result Edit Fault) → (acted d s t (change_ask n x)).faults ≡ []
unfolding change_ask acted
change_faults d s t n (Err f) = refl
change_faults d s t n (Ok e) = refl

-- CHAN has items, the others a change
items_chan : (d : Desk) (n : Name) (e : Secondary) (ws : List Word) → has_items e ≡ true → obeyed_ask d n Chan ws ≡ obeyed_ask d n e ws
unfolding has_items
items_chan d n Chan ws h = refl
items_chan d n Up ws h = absurd (false≢true h)
items_chan d n Down ws h = absurd (false≢true h)
items_chan d n Followon ws h = absurd (false≢true h)
items_chan d n Link ws h = absurd (false≢true h)

no_items : (d : Desk) (n : Name) (e : Secondary) (ws : List Word) → has_items e ≡ false → change_ask n (times_of e ws) ≡ obeyed_ask d n e ws
unfolding has_items obeyed_ask
no_items d n Chan ws h = absurd (false≢true (sym h))
no_items d n Up ws h = refl
no_items d n Down ws h = refl
no_items d n Followon ws h = refl
no_items d n Link ws h = refl

module _ (d : Desk) (s : State) (t : List ℕ) (n : Name) (e : Secondary) (ws : List Word) (fs : List ℕ) {b : Bool} (h : b ≡ has_items e) where
  pub obeyed_chan : b ≡ true → {q : DeedsAll} → q ≡ did_all (acted d s t (obeyed_ask d n Chan ws)) fs → q ≡ did_all (acted d s t (obeyed_ask d n e ws)) fs
  obeyed_chan w z = asked_did_all d s t fs (items_chan d n e ws (sym h ∙ w)) z

  pub obeyed_change : b ≡ false → {x : Result Edit Fault} {r : Did} {u : List ℕ} → x ≡ times_of e ws → doing r u ≡ did_of (acted d s t (change_ask n x))
      → doing_all r u fs ≡ did_all (acted d s t (obeyed_ask d n e ws)) fs
  obeyed_change w {x} g z =
      asked_did_all d s t fs (ap (λ (y : Result Edit Fault). change_ask n y) g ∙ no_items d n e ws (sym h ∙ w))
      (did_all_lem (acted d s t (change_ask n x)) fs (change_faults d s t n x) z)

-- ---- what the store does in the open memory's slot
module _ (d : Desk) (t : List ℕ) {h : Held} (g : HeldReady d t h) (o : IsOpen h.state.«open») where
  pub edits_did : (e : Edit) {u : List ℕ} {r : Did} → u ≡ edit_at d t h.slot e → r ≡ did_as Obeyed
      → doing r u ≡ did_of (acted d h.state t (edits (open_name h.state) e))
  unfolding acted did_of
  edits_did e {u} q z =
      let ed : u ≡ edited d t (open_name h.state) e = q ∙ sym (edited-at d t (open_name h.state) e h.slot (open_found d t g o)) in
      λ i. doing (z i) (ed i)

  pub chan_did : Fitting d t → (ws : List Word) (fs : List ℕ) {n : ℕ} {u us : List ℕ}
      → taken_as n u us ≡ taken_of d (Slot h.slot) t fs (pairs_of d ws)
      → doing_all (record { outcome = Obeyed; faults = n }) u us ≡ did_all (acted d h.state t (obeyed_ask d (open_name h.state) Chan ws)) fs
  unfolding acted obeyed_ask did_all did_of taken_of
  chan_did f ws fs {n} {u} {us} q =
      let es : List Entry = pairs_of d ws in
      let a : u ≡ all_done d (memory (open_name h.state)) t es =
      ap (λ (y : Taken). y.store) q ∙ sym (done_slot d (open_name h.state) h.slot es t f (pairs_fit d ws) (open_found d t g o)) in
      λ i. doing_all (record { outcome = Obeyed; faults = (q i).count }) (a i) (q i).faults

-- ---- by what is open
pub none_open : (o : Open) → ((k : Kind) → o ≡ Memory k → ⊥) → (o ≡ Skipping → ⊥) → o ≡ Nothing
none_open Nothing m s = refl
none_open Skipping m s = absurd (s refl)
none_open (Memory k) m s = absurd (m k refl)

pub is_open : {o : Open} {k : Kind} → o ≡ Memory k → IsOpen o
is_open e = subst (λ (x : Open). IsOpen x) (sym e) tt

module _ (d : Desk) (s : State) (e : Secondary) (w : Word) (ws : List Word) where
  abbrev Asked : Open → Ask
  Asked o = secondary_ask d s.key o e w ws

  pub secondary_nothing : s.«open» ≡ Nothing → {f : Fault} → f ≡ blame w wrong_secondary → rests (Dropped f) ≡ Asked s.«open»
  unfolding secondary_ask
  secondary_nothing q g = ap (λ (x : Fault). rests (Dropped x)) g ∙ ap Asked (sym q)

  pub secondary_skipping : s.«open» ≡ Skipping → rests Passed ≡ Asked s.«open»
  unfolding secondary_ask
  secondary_skipping q = ap Asked (sym q)

  module _ {k : Kind} (o : s.«open» ≡ Memory k) {b : Bool} (a : b ≡ augments k e) where
    pub secondary_wrong : b ≡ false → {f : Fault} → f ≡ blame w wrong_secondary → rests (Dropped f) ≡ Asked s.«open»
    unfolding secondary_ask
    secondary_wrong z g =
        ap (λ (x : Fault). rests (Dropped x)) g ∙ sym (cond-false (augments k e) _ _ (sym a ∙ z)) ∙ ap Asked (sym o)

    pub secondary_obeyed : b ≡ true → obeyed_ask d (open_name s) e ws ≡ Asked s.«open»
    unfolding secondary_ask kind_in
    secondary_obeyed z =
        ap (λ (x : Open). obeyed_ask d (name (kind_in x) s.key) e ws) o ∙ sym (cond-true (augments k e) _ _ (sym a ∙ z)) ∙ ap Asked (sym o)

-- ---- a LINK of an open cue
never_links : (e : Secondary) (o : Open) → links_in o ≡ false → false ≡ asks_link o e
never_links e o q = sym (and_false_left (links_in o) (is_link e) q)

module _ (e : Secondary) {o : Open} where
  pub link_nothing : o ≡ Nothing → false ≡ asks_link o e
  unfolding links_in
  link_nothing q = never_links e o (ap links_in q)

  pub link_skipping : o ≡ Skipping → false ≡ asks_link o e
  unfolding links_in
  link_skipping q = never_links e o (ap links_in q)

  module _ {k : Kind} (q : o ≡ Memory k) {b : Bool} (h : b ≡ has_link k) where
    pub link_none : b ≡ false → b ≡ asks_link o e
    unfolding links_in
    link_none f = f ∙ never_links e o (ap links_in q ∙ sym h ∙ f)

    pub link_cue : b ≡ true → {r : Bool} → r ≡ is_link e → r ≡ asks_link o e
    unfolding links_in
    link_cue t z = z ∙ and_then (links_in o) (is_link e) (ap links_in q ∙ sym h ∙ t)

-- it is heard, and asks for nothing
module _ (d : Desk) (s : State) (anew : Bool) (e : Secondary) (w : Word) (ws : List Word) {b : Bool} (h : b ≡ (anew && asks_link s.«open» e)) where
  pub augment_heard : b ≡ true → rests Obeyed ≡ secondary_ask_in anew d s e w ws
  augment_heard t = sym (cond-true (anew && asks_link s.«open» e) (rests Obeyed) (secondary_ask d s.key s.«open» e w ws) (sym h ∙ t))

  pub augment_obeyed : b ≡ false → secondary_ask d s.key s.«open» e w ws ≡ secondary_ask_in anew d s e w ws
  augment_obeyed f = sym (cond-false (anew && asks_link s.«open» e) (rests Obeyed) (secondary_ask d s.key s.«open» e w ws) (sym h ∙ f))

-- ---- what is open stays open, in its slot
module _ (d : Desk) (t : List ℕ) {h : Held} (g : HeldReady d t h) (f : Fitting d t) where
  abbrev Stays : Ask → Type 0
  Stays a = h ≡ held_of d (acted d h.state t a).store (acted d h.state t a).state

  rests_stay : (o : Outcome) → Stays (rests o)
  unfolding acted
  rests_stay o = g.same

  module _ (k : Kind) (o : h.state.«open» ≡ Memory k) where
    abbrev memory_name : Name
    memory_name = name k h.state.key

    abbrev memory_slot : ℕ
    memory_slot = slot_by d t h.state.key (Memory k)

    memory_found : find d t memory_name ≡ at memory_slot
    memory_found = subst (λ (x : Open). IsKept d t h.state.key x) o g.settled.kept

    change_stays : (x : Result Edit Fault) → ReadingOk k x → Stays (change_ask memory_name x)
    unfolding change_ask acted
    change_stays (Err c) r = g.same
    change_stays (Ok e) r =
        held_stays d t (edited d t memory_name e) (edited-find d t f memory_name memory_slot memory_found e (in_time_fits e r.1)) g.same

    obeyed_stays : (e : Secondary) → augments k e ≡ true → (ws : List Word) → Stays (obeyed_ask d memory_name e ws)
    unfolding obeyed_ask acted
    obeyed_stays Chan a ws =
        held_stays d t (all_done d (memory memory_name) t (pairs_of d ws))
        (slot_find d t f memory_name memory_slot memory_found (pairs_of d ws) (pairs_fit d ws)) g.same
    obeyed_stays Up a ws = change_stays (times_of Up ws) (reading_ok k Up a ws)
    obeyed_stays Down a ws = change_stays (times_of Down ws) (reading_ok k Down a ws)
    obeyed_stays Followon a ws = change_stays (times_of Followon ws) (reading_ok k Followon a ws)
    obeyed_stays Link a ws = change_stays (times_of Link ws) (reading_ok k Link a ws)

  open_stays : (e : Secondary) (w : Word) (ws : List Word) (o : Open) → h.state.«open» ≡ o → Stays (secondary_ask d h.state.key o e w ws)
  unfolding secondary_ask
  open_stays e w ws Nothing q = rests_stay (Dropped (blame w wrong_secondary))
  open_stays e w ws Skipping q = rests_stay Passed
  open_stays e w ws (Memory k) q =
      by_test Stays (augments k e) (obeyed_ask d (name k h.state.key) e ws) (rests (Dropped (blame w wrong_secondary)))
      (λ a. obeyed_stays k q e a ws)
      (λ a. rests_stay (Dropped (blame w wrong_secondary)))

  pub secondary_stays : (anew : Bool) (e : Secondary) (w : Word) (ws : List Word) → Stays (secondary_ask_in anew d h.state e w ws)
  secondary_stays anew e w ws =
      by_test Stays (anew && asks_link h.state.«open» e) (rests Obeyed) (secondary_ask d h.state.key h.state.«open» e w ws)
      (λ a. rests_stay Obeyed)
      (λ a. open_stays e w ws h.state.«open» refl)
