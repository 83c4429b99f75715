-- A primary in either load: its name; its memory started at a seat, no room; refused, not supported; what was open plays no part. By cases on the
-- seat and the name.
-- Assumes nothing.
use Rattle.std.specs.Prelude.{Err, None, Ok, Option, Result, Some}
use mathlib.Core.Path.{◌≡◌, refl, sym, ap, ◌∙◌, subst}
use mathlib.Core.Bool.{Bool, true, false, cond}
use mathlib.Core.List.{List}
use Prim.Native.Nat.{ℕ}
use Rattle.cells.specs.Search.{Found, at, nowhere}
use Rattle.cells.proofs.Split.{by_test, by_bool, cond-true, cond-false, cond_ap}
use Rattle.store_desk.specs.declared.Desk.{Desk}
use Rattle.store_desk.specs.declared.Key.{Key}
use Rattle.store_desk.specs.declared.Kind.{Kind}
use Rattle.store_desk.specs.Size.{InRange}
use Rattle.store_desk.specs.Name.{Name, supported, ok_name}
use Rattle.text_fields.specs.Words.{Word}
use Rattle.store.specs.Slots.{find, on_found, place_of}
use Rattle.store.specs.Change.{seat, started}
use Rattle.store.proofs.Start.{started_full, start_own}
use Rattle.store_code.specs.Fits.{Fitting}
use Rattle.store_code.specs.Answer.{Started, started_as, start_of}
use Rattle.store_code.proofs.Found.{place_at, place_nowhere}
use Rattle.load.specs.declared.Fault.{Fault}
use Rattle.load.specs.declared.Numbers.{Numbers}
use Rattle.load.specs.declared.State.{State}
use Rattle.load.specs.declared.Open.TheVariants.{Skipping}
use Rattle.load.specs.declared.Outcome.TheVariants.{Dropped, Obeyed}
use Rattle.load.specs.Condition.{full_of, unsupported_of}
use Rattle.load.specs.Item.{blame, blame_none}
use Rattle.load.specs.Ask.{Ask, skips, opens, name, named_of, named_ask, primary_ask}
use Rattle.load.specs.Anew.{next_named, anew_primary_ask}
use Rattle.load.specs.Fits.{named_in, primary_ask_in}
use Rattle.load.specs.Step.{Step, ended, nothing_open, skipping, opened, slot_by, opened_by, acted}
use Rattle.load.proofs.Read.{NamedOk, accepted_ok}
use Rattle.load.proofs.Anew.{next_named_ok}
use Rattle.load.proofs.Steps.{primary_in_faults}
use Rattle.load_held.specs.declared.Held.{Held}
use Rattle.load_held.specs.declared.Stepped.{Stepped}
use Rattle.load_held.specs.Held.{held_of, stepping, stepped_of, stepping_all, stepped_all}
use Rattle.load_held.specs.Parts.{resting, ended_as}
use Rattle.load_held.proofs.Answers.{ended_as_lem, step_all, skips_as}

-- ---- an accepted one
module _ (d : Desk) (k : Kind) (key : Key) (t : List ℕ) {p : Option ℕ} {u : List ℕ} (s : started_as p u ≡ start_of d t (name k key)) where
  seat_is : p ≡ place_of (seat d t (name k key))
  unfolding start_of
  seat_is = ap (λ (x : Started). x.place) s

  store_is : u ≡ started d t (name k key)
  unfolding start_of
  store_is = ap (λ (x : Started). x.store) s

  opened_by_lem : {a : Found} → seat d t (name k key) ≡ a → opened_by d k key a t ≡ acted d nothing_open t (opens k key)
  unfolding acted
  opened_by_lem e = sym (ap (λ (x : Found). opened_by d k key x t) e)

  pub opened_at : Fitting d t → ok_name d (name k key) ≡ true → {i : ℕ} {r : Stepped} → p ≡ Some i
      → r ≡ ended_as (record { state = opened k key; slot = i }) Obeyed → stepping r u ≡ stepped_of d (acted d nothing_open t (opens k key))
  unfolding opened_by on_found held_of slot_by
  opened_at f o {i} {r} h e =
      let n : Name = name k key in
      let a : seat d t n ≡ at i = place_at seat_is h in
      let g : find d (started d t n) n ≡ at i = start_own d t f.long n f.range o i a in
      let q : ◌≡◌ {A = Held} (record { state = opened k key; slot = i }) (held_of d (started d t n) (opened k key)) =
      λ j. record { state = opened k key; slot = on_found (sym g j) (λ x. x) 0 } in
      ap (λ (x : List ℕ). stepping r x) store_is
      ∙ ended_as_lem d (started d t n) (opened k key) Obeyed e q
      ∙ ap (λ (x : Step). stepped_of d x) (opened_by_lem a)

  pub opened_full : {c : ℕ} {f : Fault} {r : Stepped} → p ≡ None → c ≡ full_of k → f ≡ blame_none c
      → r ≡ ended_as (resting Skipping) (Dropped f) → stepping r u ≡ stepped_of d (acted d nothing_open t (opens k key))
  unfolding opened_by acted
  opened_full {c} {f} {r} h g b e =
      let a : seat d t (name k key) ≡ nowhere = place_nowhere seat_is h in
      ap (λ (x : List ℕ). stepping r x) (store_is ∙ started_full d t (name k key) a)
      ∙ skips_as d nothing_open t (Dropped f) e
      ∙ ap (λ (x : Fault). stepped_of d (ended skipping (Dropped x) t)) (b ∙ ap (λ (x : ℕ). blame_none x) g)
      ∙ ap (λ (x : Step). stepped_of d x) (opened_by_lem a)

-- ---- support, then the name, in either load
module _ (d : Desk) (m : Numbers) (k : Kind) (w : Word) (ws : List Word) where
  abbrev by_name : Result Key Fault → Ask
  by_name n = cond (supported d k) (named_ask k n) (skips (Dropped (blame w (unsupported_of k))))

  primary_is : by_name (named_in d m k ws) ≡ primary_ask_in d m k w ws
  unfolding anew_primary_ask primary_ask
  primary_is = cond_ap by_name m.anew (next_named d m k ws) (named_of d k ws)

  module _ {b : Bool} (s : b ≡ supported d k) where
    pub primary_unsupported : b ≡ false → {c : ℕ} {f : Fault} → c ≡ unsupported_of k → f ≡ blame w c → skips (Dropped f) ≡ primary_ask_in d m k w ws
    primary_unsupported h g e =
        ap (λ (x : Fault). skips (Dropped x)) (e ∙ ap (λ (x : ℕ). blame w x) g) ∙ sym (cond-false (supported d k) _ _ (sym s ∙ h)) ∙ primary_is

    module _ (h : b ≡ true) {n : Result Key Fault} (g : n ≡ named_in d m k ws) where
      named_by : {x : Result Key Fault} → n ≡ x → named_ask k x ≡ primary_ask_in d m k w ws
      named_by e = ap (λ (x : Result Key Fault). named_ask k x) (sym e ∙ g) ∙ sym (cond-true (supported d k) _ _ (sym s ∙ h)) ∙ primary_is

      pub primary_refused : {f : Fault} → n ≡ Err f → skips (Dropped f) ≡ primary_ask_in d m k w ws
      unfolding named_ask
      primary_refused {f} e = named_by {x = Err f} e

      pub primary_opened : {key : Key} → n ≡ Ok key → opens k key ≡ primary_ask_in d m k w ws
      unfolding named_ask
      primary_opened {key} e = named_by {x = Ok key} e

-- an accepted name is one that the desk can have
module _ (d : Desk) (m : Numbers) (k : Kind) (ws : List Word) {b : Bool} (s : b ≡ supported d k) (h : b ≡ true) {n : Result Key Fault}
    (g : n ≡ named_in d m k ws) where
  pub primary_ok : InRange d → {key : Key} → n ≡ Ok key → ok_name d (name k key) ≡ true
  primary_ok r {key} e =
      let q : named_in d m k ws ≡ Ok key = sym g ∙ e in
      by_bool m.anew
      (λ a. subst (λ (x : Result Key Fault). NamedOk d k x) (sym (cond-true m.anew _ _ a) ∙ q) (next_named_ok d k (sym s ∙ h) m ws) r)
      (λ a. accepted_ok d k r (sym s ∙ h) ws (sym (cond-false m.anew _ _ a) ∙ q))

-- ---- what was open plays no part
module _ (d : Desk) (s : State) (t : List ℕ) (m : Numbers) (k : Kind) where
  abbrev Alike : Ask → Type 0
  Alike a = acted d nothing_open t a ≡ acted d s t a

  named_alike : (n : Result Key Fault) → Alike (named_ask k n)
  unfolding named_ask acted
  named_alike (Err f) = refl
  named_alike (Ok key) = refl

  by_name_alike : (w : Word) (ws : List Word) (n : Result Key Fault) → Alike (by_name d m k w ws n)
  unfolding acted
  by_name_alike w ws n =
      by_test Alike (supported d k) (named_ask k n) (skips (Dropped (blame w (unsupported_of k)))) (λ e. named_alike n) (λ e. refl)

  primary_alike : (w : Word) (ws : List Word) → Alike (primary_ask_in d m k w ws)
  primary_alike w ws = subst Alike (primary_is d m k w ws) (by_name_alike w ws (named_in d m k ws))

  -- with the lent list of faults
  pub primary_all : (w : Word) (ws : List Word) (fs : List ℕ) {r : Stepped} {u : List ℕ}
      → stepping r u ≡ stepped_of d (acted d nothing_open t (primary_ask_in d m k w ws))
      → stepping_all r u fs ≡ stepped_all d (acted d s t (primary_ask_in d m k w ws)) fs
  primary_all w ws fs z =
      step_all (acted d s t (primary_ask_in d m k w ws)) fs (primary_in_faults d s t m k w ws) d (z ∙ ap (λ (x : Step). stepped_of d x) (primary_alike w ws))
