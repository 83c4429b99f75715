-- What every step keeps to, by the seven cases of what a record asks for: a record that is not obeyed changes no byte of the store; good
-- form is kept; a fault has two fields, so that a record with no items has none; its reports, one for the record or one for each item that is
-- dropped, are no more than its fields, and fit their bits.
-- Assumes nothing.
use mathlib.Core.Path.{◌≡◌, refl, subst}
use mathlib.Core.Bool.{true}
use mathlib.Core.List.{List, [], ◌∷◌, ◌++◌}
use Prim.Native.Nat.{ℕ, suc, ◌+◌, ◌*◌, ◌≤◌, ◌<◌}
use native.Mathlib.Omega.{arith}
use lib.Dec.{ltb}
use lib.ListN.{length}
use Rattle.cells.specs.Search.{Found, at, nowhere}
use Rattle.cells.proofs.Split.{by_test}
use Rattle.store_desk.specs.declared.Desk.{Desk}
use Rattle.store_desk.specs.declared.Key.{Key}
use Rattle.store_desk.specs.declared.Kind.{Kind}
use Rattle.store_desk.specs.Size.{Within}
use Rattle.store_desk.specs.Name.{Name, ok_name}
use Rattle.text_records.specs.Stream.{records_of}
use Rattle.text_fields.specs.declared.Item.{Item}
use Rattle.text_fields.specs.Words.{Word, fields_of, tail_of}
use Rattle.store.specs.declared.Edit.TheVariants.{Level as SetLevel}
use Rattle.store.specs.Change.{seat, edited, cleared, cleared_patch}
use Rattle.store.specs.Memories.{can_have}
use Rattle.store.specs.Good.{Ready}
use Rattle.store.proofs.Start.{start_good}
use Rattle.store.proofs.Edits.{edit_good}
use Rattle.store.proofs.Clear.{clear_good}
use Rattle.store.proofs.Patches.{patch_good, clear_patch_good}
use Rattle.load.specs.declared.Fault.{Fault}
use Rattle.load.specs.declared.Entry.{Entry}
use Rattle.load.specs.declared.Entry.TheVariants.{Level, Patch, Faulty}
use Rattle.load.specs.declared.Numbers.{Numbers}
use Rattle.load.specs.declared.State.{State}
use Rattle.load.specs.declared.Outcome.{Outcome}
use Rattle.load.specs.declared.Outcome.TheVariants.{Blank, Passed, Obeyed, Dropped, Stopped}
use Rattle.load.specs.Condition.{full_of}
use Rattle.load.specs.Item.{blame_none, faults_of, memory, page, done, all_done}
use Rattle.load.specs.Ask.{Wipe, table, dimmers, Ask, name, item_ask}
use Rattle.load.specs.Anew.{fields_ask_in}
use Rattle.load.specs.Step.{Step, nothing_open, wiped, opened_by, acted, record_step, outcome_faults}
use Rattle.load.specs.Translated.{as_given, step_in, numbers_after_of, run_in}
use Rattle.load.specs.Fits.{AllFit, Small, primary_ask_in, text_step}
use Rattle.load.specs.Run.{condition_span, Run, stops, load_of}
use Rattle.load.proofs.Entries.{faults_few}
use Rattle.load.proofs.Deed.{OutcomeFits, WipesFit, Deed, resting, skipping, opening, editing, setting, patching, clearing, full_fits}
use Rattle.load.proofs.Deed.{item_deed}
use Rattle.load.proofs.Anew.{primary_in_deed, anew_fields_deed, anew_record_deed, step_given, run_given}

-- ---- not obeyed, not touched
module _ (d : Desk) (s : State) (n : ℕ) (t : List ℕ) where
  abbrev Still : Step → Type 0
  Still x = (x.outcome ≡ Obeyed → ⊥) → x.store ≡ t

  opened_still : (k : Kind) (y : Key) (a : Found) → Still (opened_by d k y a t)
  unfolding opened_by
  opened_still k y (at i) h = absurd (h refl)
  opened_still k y nowhere h = refl

  deed_still : {a : Ask} → Deed d s n a → Still (acted d s t a)
  unfolding acted
  deed_still (resting o f) h = refl
  deed_still (skipping o f i) h = refl
  deed_still (opening k y o) h = opened_still k y (seat d t (name k y)) h
  deed_still (editing k o e c) h = absurd (h refl)
  deed_still (setting k o es f l) h = absurd (h refl)
  deed_still (patching p w es f l) h = absurd (h refl)
  deed_still (clearing xs f) h = absurd (h refl)

pub step_in_untouched : (d : Desk) (b : Numbers) (s : State) (r t : List ℕ) → ((step_in d b s r t).outcome ≡ Obeyed → ⊥) → (step_in d b s r t).store ≡ t
unfolding step_in
step_in_untouched d b s r t = deed_still d s (length (tail_of (fields_of r))) t (anew_record_deed d b s r)

pub untouched : (d : Desk) (s : State) (r t : List ℕ) → ((record_step d s r t).outcome ≡ Obeyed → ⊥) → (record_step d s r t).store ≡ t
untouched d s r t = subst (λ (x : Step). (x.outcome ≡ Obeyed → ⊥) → x.store ≡ t) (step_given d as_given s r t refl) (step_in_untouched d as_given s r t)

-- ---- good form is kept
pub level_ready : (d : Desk) (t : List ℕ) → Ready d t → (n : Name) (channel v : ℕ) → Ready d (edited d t n (SetLevel channel v))
level_ready d t r n channel v = edit_good d t r n (SetLevel channel v) (unfold can_have in refl) tt

memory_ready : (d : Desk) (n : Name) (es : List Entry) (t : List ℕ) → Ready d t → Ready d (all_done d (memory n) t es)
unfolding all_done done
memory_ready d n [] t r = r
memory_ready d n (Level channel v ∷ es) t r = memory_ready d n es (edited d t n (SetLevel channel v)) (level_ready d t r n channel v)
memory_ready d n (Patch channel dimmer v ∷ es) t r = memory_ready d n es t r
memory_ready d n (Faulty x ∷ es) t r = memory_ready d n es t r

page_ready : (d : Desk) (p : ℕ) → Within 1 p d.patch_pages → (es : List Entry) → AllFit d es → (t : List ℕ) → Ready d t
    → Ready d (all_done d (page p) t es)
unfolding all_done done
page_ready d p w [] f t r = r
page_ready d p w (Level channel v ∷ es) f t r = page_ready d p w es f.1 t r
page_ready d p w (Patch channel dimmer v ∷ es) f t r =
    page_ready d p w es f.1 _ (patch_good d t r.long r.range p dimmer channel v w f.0.1 f.0.0 f.0.2 r)
page_ready d p w (Faulty x ∷ es) f t r = page_ready d p w es f.1 t r

wiped_ready : (d : Desk) (xs : List Wipe) → WipesFit d xs → (t : List ℕ) → Ready d t → Ready d (wiped d xs t)
unfolding wiped
wiped_ready d [] f t r = r
wiped_ready d (table k p ∷ xs) f t r = wiped_ready d xs f.1 (cleared d t k p) (clear_good d t r k p)
wiped_ready d (dimmers p ∷ xs) f t r = wiped_ready d xs f.1 (cleared_patch d t p) (clear_patch_good d t r.long p f.0 r)

module _ (d : Desk) (s : State) (n : ℕ) (t : List ℕ) (r : Ready d t) where
  opened_ready : (k : Kind) (y : Key) → ok_name d (name k y) ≡ true → (a : Found) → Ready d (opened_by d k y a t).store
  unfolding opened_by
  opened_ready k y o (at i) = start_good d t r (name k y) o
  opened_ready k y o nowhere = r

  pub deed_ready : {a : Ask} → Deed d s n a → Ready d (acted d s t a).store
  unfolding acted
  deed_ready (resting o f) = r
  deed_ready (skipping o f i) = r
  deed_ready (opening k y o) = opened_ready k y (o r.range) (seat d t (name k y))
  deed_ready (editing k o e c) = edit_good d t r (name k s.key) e c.0 c.1
  deed_ready (setting k o es f l) = memory_ready d (name k s.key) es t r
  deed_ready (patching p w es f l) = page_ready d p w es f t r
  deed_ready (clearing xs f) = wiped_ready d xs f t r

pub step_in_ready : (d : Desk) (t : List ℕ) → Ready d t → (b : Numbers) (s : State) (x : List ℕ) → Ready d (step_in d b s x t).store
unfolding step_in
step_in_ready d t r b s x = deed_ready d s (length (tail_of (fields_of x))) t r (anew_record_deed d b s x)

pub record_ready : (d : Desk) (t : List ℕ) → Ready d t → (s : State) (x : List ℕ) → Ready d (record_step d s x t).store
record_ready d t r s x = subst (λ (y : Step). Ready d y.store) (step_given d as_given s x t refl) (step_in_ready d t r as_given s x)

-- and so of the records one after the other, and of a load
pub run_in_ready : (d : Desk) (n : ℕ) (b : Numbers) (s : State) (t : List ℕ) (rs : List (List ℕ)) → Ready d t → Ready d (run_in d n b s t rs).store
unfolding run_in
run_in_ready d n b s t [] h = h
run_in_ready d n b s t (r ∷ rs) h =
    let x : Step = step_in d b s r t in
    let g : Ready d x.store = step_in_ready d t h b s r in
    by_test (λ (z : Run). Ready d z.store) (stops x.outcome) _ _
    (λ e. g)
    (λ e. run_in_ready d (n + 1) (numbers_after_of b r x) x.state x.store rs g)

pub load_ready : (d : Desk) (t stream : List ℕ) → Ready d t → Ready d (load_of d t stream).store
unfolding load_of
load_ready d t stream h =
    subst (λ (x : Run). Ready d x.store) (run_given d 0 as_given nothing_open t (records_of stream) refl)
    (run_in_ready d 0 as_given nothing_open t (records_of stream) h)

-- ---- a fault has two fields, but for the last
module _ (d : Desk) (s : State) (n : ℕ) (t : List ℕ) where
  abbrev Few : Step → Type 0
  Few x = 2 * length x.faults ≤ n + 1

  opened_few : (k : Kind) (y : Key) (a : Found) → Few (opened_by d k y a t)
  unfolding opened_by
  opened_few k y (at i) = omega arith
  opened_few k y nowhere = omega arith

  items_few : (es : List Entry) → 2 * length es ≤ n + 1 → 2 * length (faults_of es) ≤ n + 1
  items_few es l = let h = faults_few es in omega arith

  pub deed_few : {a : Ask} → Deed d s n a → Few (acted d s t a)
  unfolding acted
  deed_few (resting o f) = omega arith
  deed_few (skipping o f i) = omega arith
  deed_few (opening k y o) = opened_few k y (seat d t (name k y))
  deed_few (editing k o e c) = omega arith
  deed_few (setting k o es f l) = items_few es l
  deed_few (patching p w es f l) = items_few es l
  deed_few (clearing xs f) = omega arith

pub step_in_few : (d : Desk) (b : Numbers) (s : State) (ws : List Word) (t : List ℕ) → 2 * length (text_step d b s ws t).faults ≤ length ws
unfolding fields_ask_in acted
step_in_few d b s [] t = omega arith
step_in_few d b s (w ∷ ws) t =
    let h : 2 * length (text_step d b s (w ∷ ws) t).faults ≤ length ws + 1 = deed_few d s (length ws) t (anew_fields_deed d b s (w ∷ ws)) in
    let g : 2 * length (text_step d b s (w ∷ ws) t).faults ≤ suc (length ws) = omega arith in
    g

-- where no field behind the keyword counts there are no items, and so no faults: a primary, and CLEAR
faultless : (fs : List Fault) → 2 * length fs ≤ 1 → fs ≡ []
faultless [] h = refl
faultless (f ∷ fs) h = absurd (omega arith)

module _ (d : Desk) (s : State) (t : List ℕ) where
  pub primary_in_faults : (b : Numbers) (k : Kind) (w : Word) (ws : List Word) → (acted d s t (primary_ask_in d b k w ws)).faults ≡ []
  primary_in_faults b k w ws = faultless _ (deed_few d s 0 t (primary_in_deed d b s 0 k w ws))

  pub item_faults : (i : Item) (w : Word) (ws : List Word) → (acted d s t (item_ask d i w ws)).faults ≡ []
  item_faults i w ws = faultless _ (deed_few d s 0 t (item_deed d s 0 i w ws))

-- ---- what is reported of a step
abbrev pub said_by : Step → List Fault
said_by x = outcome_faults x.outcome ++ x.faults

-- faults with small conditions, and at most so many
pub record Modest (n : ℕ) (fs : List Fault) : Type 0 where
  pub few : length fs ≤ n
  pub small : Small fs

faults_small : (d : Desk) (es : List Entry) → AllFit d es → Small (faults_of es)
unfolding faults_of Small
faults_small d [] f = tt
faults_small d (Level n v ∷ es) f = faults_small d es f.1
faults_small d (Patch n k v ∷ es) f = faults_small d es f.1
faults_small d (Faulty x ∷ es) f = (f.0, faults_small d es f.1)

module _ (d : Desk) (s : State) (n : ℕ) (t : List ℕ) where
  none_said : (m : ℕ) → Modest m []
  unfolding Small
  none_said m = record { few = omega arith; small = tt }

  one_said : (x : Fault) → x.condition < condition_span → Modest (suc n) (x ∷ [])
  unfolding Small
  one_said x h = record { few = omega arith; small = (h, tt) }

  outcome_said : (o : Outcome) → OutcomeFits o → Modest (suc n) (outcome_faults o ++ [])
  unfolding outcome_faults
  outcome_said Blank f = none_said (suc n)
  outcome_said Passed f = none_said (suc n)
  outcome_said (Dropped x) f = one_said x f
  outcome_said Obeyed f = none_said (suc n)
  outcome_said (Stopped x) f =
      by_test (λ (l : List Fault). Modest (suc n) (l ++ [])) (ltb 0 x.condition) (x ∷ []) [] (λ e. one_said x f) (λ e. none_said (suc n))

  items_said : (es : List Entry) → AllFit d es → 2 * length es ≤ n + 1 → Modest (suc n) (outcome_faults Obeyed ++ faults_of es)
  unfolding outcome_faults
  items_said es f l =
      let h = faults_few es in
      record { few = omega arith; small = faults_small d es f }

  opened_said : (k : Kind) (y : Key) (a : Found) → Modest (suc n) (said_by (opened_by d k y a t))
  unfolding opened_by
  opened_said k y (at i) = outcome_said Obeyed tt
  opened_said k y nowhere = outcome_said (Dropped (blame_none (full_of k))) (full_fits k)

  deed_said : {a : Ask} → Deed d s n a → Modest (suc n) (said_by (acted d s t a))
  unfolding acted
  deed_said (resting o f) = outcome_said o f
  deed_said (skipping o f i) = outcome_said o f
  deed_said (opening k y o) = opened_said k y (seat d t (name k y))
  deed_said (editing k o e c) = outcome_said Obeyed tt
  deed_said (setting k o es f l) = items_said es f l
  deed_said (patching p w es f l) = items_said es f l
  deed_said (clearing xs f) = outcome_said Obeyed tt

-- the faults among them
small_behind : (fs gs : List Fault) → Small (fs ++ gs) → Small gs
unfolding Small
small_behind [] gs h = h
small_behind (f ∷ fs) gs h = small_behind fs gs h.1

deed_small : (d : Desk) (s : State) (n : ℕ) (t : List ℕ) {a : Ask} → Deed d s n a → Small (acted d s t a).faults
deed_small d s n t {a} x =
    let y : Step = acted d s t a in
    small_behind (outcome_faults y.outcome) y.faults (deed_said d s n t x).small

pub step_in_small : (d : Desk) (b : Numbers) (s : State) (ws : List Word) (t : List ℕ) → Small (text_step d b s ws t).faults
step_in_small d b s ws t = deed_small d s (length (tail_of ws)) t (anew_fields_deed d b s ws)

-- a record with no field has none
pub step_in_said : (d : Desk) (b : Numbers) (s : State) (ws : List Word) (t : List ℕ) → Modest (length ws) (said_by (text_step d b s ws t))
unfolding fields_ask_in acted outcome_faults
step_in_said d b s [] t = none_said d s 0 t 0
step_in_said d b s (w ∷ ws) t = deed_said d s (length ws) t (anew_fields_deed d b s (w ∷ ws))
