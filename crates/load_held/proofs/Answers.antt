-- Answers to an ask: with no faults, so that the lent list of them stays as it was; that leave open what was open; to an equal ask. By what an
-- answer is made of.
-- Assumes nothing.
use mathlib.Core.Path.{◌≡◌, refl, sym, ap, ◌∙◌}
use mathlib.Core.List.{List, []}
use Prim.Native.Nat.{ℕ}
use Rattle.cells.specs.Put.{put}
use Rattle.store_desk.specs.declared.Desk.{Desk}
use Rattle.load.specs.declared.Fault.{Fault}
use Rattle.load.specs.declared.State.{State}
use Rattle.load.specs.declared.Open.TheVariants.{Skipping}
use Rattle.load.specs.declared.Outcome.{Outcome}
use Rattle.load.specs.Ask.{Ask, rests, skips}
use Rattle.load.specs.Step.{Step, ended, skipping, slot_by, acted}
use Rattle.load_items.specs.Done.{faults_in}
use Rattle.load_held.specs.declared.Did.{Did}
use Rattle.load_held.specs.declared.Held.{Held}
use Rattle.load_held.specs.declared.Stepped.{Stepped}
use Rattle.load_held.specs.Held.{held_of, HeldReady, Res, stepping, stepped_of, ResAll, stepping_all, stepped_all}
use Rattle.load_held.specs.Parts.{resting, ended_as, did_as, with_held, Deeds, doing, did_of, DeedsAll, doing_all, did_all}

-- ---- with no faults
pub ended_as_lem : (d : Desk) (t : List ℕ) (s : State) (o : Outcome) {h : Held} {r : Stepped}
    → r ≡ ended_as h o → h ≡ held_of d t s → stepping r t ≡ stepped_of d (ended s o t)
unfolding stepped_of
ended_as_lem d t s o e g = (λ i. stepping (e i) t) ∙ (λ i. stepping (ended_as (g i) o) t)

-- the lent list stays
module _ (x : Step) (fs : List ℕ) (n : x.faults ≡ []) where
  none_in : fs ≡ faults_in fs x.faults
  unfolding faults_in put
  none_in = ap (λ (ys : List Fault). faults_in fs ys) (sym n)

  pub step_all : (d : Desk) {r : Stepped} {u : List ℕ} → stepping r u ≡ stepped_of d x → stepping_all r u fs ≡ stepped_all d x fs
  unfolding stepped_all
  step_all d e = λ i. record { res = e i; faults = none_in i }

  pub did_all_lem : {r : Did} {u : List ℕ} → doing r u ≡ did_of x → doing_all r u fs ≡ did_all x fs
  unfolding did_all
  did_all_lem e = λ i. record { deeds = e i; faults = none_in i }

-- ---- to an equal ask
module _ (d : Desk) (s : State) (t : List ℕ) {a b : Ask} where
  pub asked_as : {q : Res} → a ≡ b → q ≡ stepped_of d (acted d s t a) → q ≡ stepped_of d (acted d s t b)
  asked_as e z = z ∙ ap (λ (x : Ask). stepped_of d (acted d s t x)) e

  pub asked_did : {q : Deeds} → a ≡ b → q ≡ did_of (acted d s t a) → q ≡ did_of (acted d s t b)
  asked_did e z = z ∙ ap (λ (x : Ask). did_of (acted d s t x)) e

  pub asked_all : (fs : List ℕ) {q : ResAll} → a ≡ b → q ≡ stepped_all d (acted d s t a) fs → q ≡ stepped_all d (acted d s t b) fs
  asked_all fs e z = z ∙ ap (λ (x : Ask). stepped_all d (acted d s t x) fs) e

  pub asked_did_all : (fs : List ℕ) {q : DeedsAll} → a ≡ b → q ≡ did_all (acted d s t a) fs → q ≡ did_all (acted d s t b) fs
  asked_did_all fs e z = z ∙ ap (λ (x : Ask). did_all (acted d s t x) fs) e

-- ---- that leave what is open as it was
rests-faults : (d : Desk) (s : State) (t : List ℕ) (o : Outcome) → (acted d s t (rests o)).faults ≡ []
unfolding acted
rests-faults d s t o = refl

module _ (d : Desk) (t : List ℕ) (o : Outcome) {h : Held} {r : Stepped} (g : HeldReady d t h) (e : r ≡ ended_as h o) where
  pub rests_as : stepping r t ≡ stepped_of d (acted d h.state t (rests o))
  unfolding acted
  rests_as = ended_as_lem d t h.state o e g.same

  pub rests_all : (fs : List ℕ) → stepping_all r t fs ≡ stepped_all d (acted d h.state t (rests o)) fs
  rests_all fs = step_all (acted d h.state t (rests o)) fs (rests-faults d h.state t o) d rests_as

module _ (d : Desk) (s : State) (t : List ℕ) (o : Outcome) {r : Did} (e : r ≡ did_as o) where
  pub rests_did : doing r t ≡ did_of (acted d s t (rests o))
  unfolding acted did_of
  rests_did = λ i. doing (e i) t

  pub rests-did_all : (fs : List ℕ) → doing_all r t fs ≡ did_all (acted d s t (rests o)) fs
  rests-did_all fs = did_all_lem (acted d s t (rests o)) fs (rests-faults d s t o) rests_did

-- ---- that skip what follows: that is in no slot
skipping_held : (d : Desk) (t : List ℕ) → resting Skipping ≡ held_of d t skipping
unfolding held_of slot_by
skipping_held d t = refl

skips-faults : (d : Desk) (s : State) (t : List ℕ) (o : Outcome) → (acted d s t (skips o)).faults ≡ []
unfolding acted
skips-faults d s t o = refl

module _ (d : Desk) (s : State) (t : List ℕ) (o : Outcome) {r : Stepped} (e : r ≡ ended_as (resting Skipping) o) where
  pub skips_as : stepping r t ≡ stepped_of d (acted d s t (skips o))
  unfolding acted
  skips_as = ended_as_lem d t skipping o e (skipping_held d t)

  pub skips_all : (fs : List ℕ) → stepping_all r t fs ≡ stepped_all d (acted d s t (skips o)) fs
  skips_all fs = step_all (acted d s t (skips o)) fs (skips-faults d s t o) d skips_as

-- ---- joined with what was open
pub held_with : (d : Desk) (x : Step) (fs : List ℕ) {h : Held} {r : Did} {q : Stepped} {u us : List ℕ} → h ≡ held_of d x.store x.state
    → doing_all r u us ≡ did_all x fs → q ≡ with_held h r → stepping_all q u us ≡ stepped_all d x fs
unfolding stepped_all stepped_of did_all did_of
held_with d x fs {h} {r} {q} {u} {us} g e z =
    (λ i. stepping_all (z i) u us)
    ∙ (λ i.
    record {
      res =
          record {
            stepped = record { held = g i; outcome = (e i).deeds.did.outcome; faults = (e i).deeds.did.faults };
            store = (e i).deeds.store;
          };
      faults = (e i).faults;
    })
