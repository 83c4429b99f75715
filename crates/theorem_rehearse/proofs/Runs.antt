-- Two loads of one stream go in step: the same record stops both, the stores stay in good form, and a relation that each record keeps,
-- under what it reports, holds after both. By the cases of one record on two desks, and induction on the records.
-- Assumes nothing.
use mathlib.Core.Path.{◌≡◌, refl, sym, ◌∙◌}
use mathlib.Core.Bool.{false}
use mathlib.Core.List.{List, [], ◌∷◌, ◌++◌}
use Prim.Native.Nat.{ℕ, ◌+◌}
use Rattle.cells.specs.Search.{Found, at, nowhere}
use Rattle.cells.proofs.Split.{clash}
use Rattle.store_desk.specs.declared.Desk.{Desk}
use Rattle.store_desk.specs.declared.Key.{Key}
use Rattle.store_desk.specs.declared.Kind.{Kind}
use Rattle.text_records.specs.Stream.{records_of}
use Rattle.store.specs.Change.{seat}
use Rattle.store.specs.Good.{Ready}
use Rattle.load.specs.declared.State.{State}
use Rattle.load.specs.Ask.{Ask, rests, skips, opens, edits, items, clears, name, ask_of}
use Rattle.load.specs.Step.{nothing_open, opened_by, acted, record_step, reported_of}
use Rattle.load.specs.Run.{Report, Run, reports_at, stops, only, and_then, run_from, load_of}
use Rattle.load.proofs.Steps.{record_ready}
use Rattle.theorem_rehearse.specs.Rehearse.{Larger}
use Rattle.theorem_rehearse.proofs.Fields.{by_tests}
use Rattle.theorem_rehearse.proofs.Both.{stopping, Both, resting, skipping, opening, opening_beyond, patching, patching_beyond}
use Rattle.theorem_rehearse.proofs.Both.{clearing, clearing_beyond, augmenting, record_both}

-- ---- the same record stops both
opened_goes : (d : Desk) (k : Kind) (y : Key) (a : Found) (t : List ℕ) → stops (opened_by d k y a t).outcome ≡ false
unfolding opened_by stops
opened_goes d k y (at i) t = refl
opened_goes d k y nowhere t = refl

acted-stops : (d : Desk) (s : State) (t : List ℕ) (a : Ask) → stops (acted d s t a).outcome ≡ stopping a
unfolding acted stops
acted-stops d s t (rests o) = refl
acted-stops d s t (skips o) = refl
acted-stops d s t (opens k y) = opened_goes d k y (seat d t (name k y)) t
acted-stops d s t (edits n e) = refl
acted-stops d s t (items target es) = refl
acted-stops d s t (clears xs) = refl

module _ (d D : Desk) (l : Larger d D) where
  both_stop : {s S : State} {a A : Ask} → Both d D (λ n. false) s S a A → stopping a ≡ stopping A
  both_stop (resting o O e) = e
  both_stop (skipping o O e) = e
  both_stop (opening k y) = refl
  both_stop (opening_beyond o e k y n) = e
  both_stop (patching p x) = refl
  both_stop (patching_beyond o e p b es) = e
  both_stop (clearing w) = refl
  both_stop (clearing_beyond o e w) = e
  both_stop (augmenting c C x) = c.1 ∙ sym C.1

  record_stops : (s S : State) (t T r : List ℕ) → stops (record_step d s r t).outcome ≡ stops (record_step D S r T).outcome
  unfolding record_step
  record_stops s S t T r =
      acted-stops d s t (ask_of d s r) ∙ both_stop (record_both d D l (λ n. false) s S r) ∙ sym (acted-stops D S T (ask_of D S r))

-- ---- two runs
-- what holds of two states and stores, and of two lists of reports
abbrev pub Stores : Type 1
Stores = State → List ℕ → State → List ℕ → Type 0

abbrev pub Told : Type 1
Told = List Report → List Report → Type 0

abbrev pub Steps : Desk → Desk → Stores → Told → Type 0
Steps d D R P =
    (n : ℕ) (r : List ℕ) (s : State) (t : List ℕ) (S : State) (T : List ℕ) → Ready d t → Ready D T → R s t S T
    → P (reports_at n r (reported_of r (record_step d s r t))) (reports_at n r (reported_of r (record_step D S r T)))
    → R (record_step d s r t).state (record_step d s r t).store (record_step D S r T).state (record_step D S r T).store

module _ (d D : Desk) (l : Larger d D) (R : Stores) (P : Told) (apart : (a b A B : List Report) → P (a ++ b) (A ++ B) → P a A × P b B)
    (step : Steps d D R P) where
  abbrev After : Run → Run → Type 0
  After x X = P x.reports X.reports → Ready d x.store × Ready D X.store × R x.state x.store X.state X.store

  runs : (rs : List (List ℕ)) (n : ℕ) (s : State) (t : List ℕ) (S : State) (T : List ℕ) → Ready d t → Ready D T → R s t S T
      → After (run_from d n s t rs) (run_from D n S T rs)
  unfolding run_from
  runs [] n s t S T g G h = λ p. (g, G, h)
  runs (r ∷ rs) n s t S T g G h =
      let x = record_step d s r t in
      let X = record_step D S r T in
      let e = record_stops d D l s S t T r in
      let f = record_ready d t g s r in
      let F = record_ready D T G S r in
      by_tests After (stops x.outcome) (stops X.outcome) (λ y. sym e ∙ y)
      (only (n + 1) r x)
      (and_then (n + 1) r x (run_from d (n + 1) x.state x.store rs))
      (only (n + 1) r X)
      (and_then (n + 1) r X (run_from D (n + 1) X.state X.store rs))
      (λ y p. (f, F, step (n + 1) r s t S T g G h p))
      (λ y Y. clash Y (sym e ∙ y))
      (λ Y p.
      let q = apart (reports_at (n + 1) r (reported_of r x)) _ (reports_at (n + 1) r (reported_of r X)) _ p in
      runs rs (n + 1) x.state x.store X.state X.store f F (step (n + 1) r s t S T g G h q.0) q.1)

  pub loads : (t T : List ℕ) → Ready d t → Ready D T → R nothing_open t nothing_open T → (stream : List ℕ)
      → After (load_of d t stream) (load_of D T stream)
  unfolding load_of
  loads t T g G h stream = runs (records_of stream) 0 nothing_open t nothing_open T g G h
