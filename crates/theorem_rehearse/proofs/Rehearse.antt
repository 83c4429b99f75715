-- Demand 3: rehearse on the small desk, ship the big one. The one-step laws along two loads of one stream, from emptied stores; the premise on
-- reports is split record by record.
-- Assumes nothing.
use mathlib.Core.Path.{◌≡◌, refl, sym, ap, ◌∙◌, subst}
use mathlib.Core.Bool.{Bool, true, false, cond, ◌&&◌, ◌||◌}
use mathlib.Core.List.{List, [], ◌∷◌, ◌++◌}
use Prim.Native.Nat.{ℕ}
use lib.ListN.{length}
use Rattle.cells.proofs.Split.{by_test, cond-true, cond_same, clash, or_left, or_right, or_true_left, or_true_right}
use Rattle.cells.proofs.Split.{same_test, and_true, and_left, and_right}
use Rattle.store_desk.specs.declared.Desk.{Desk}
use Rattle.store_desk.specs.Name.{Name, ok_name}
use Rattle.store.specs.View.{Kept, memory_of}
use Rattle.store.specs.Change.{emptied}
use Rattle.store.specs.Good.{Ready}
use Rattle.store.proofs.Empty.{empty_view, empty_patch, empty_good}
use Rattle.load.specs.declared.Outcome.{Outcome}
use Rattle.load.specs.declared.Outcome.TheVariants.{Dropped}
use Rattle.load.specs.declared.Fault.{Fault}
use Rattle.load.specs.Condition.{no_enddata}
use Rattle.load.specs.Ask.{is_over_long}
use Rattle.load.specs.Step.{Step, no_key, nothing_open, ignored_in, outcome_faults, reported_of, record_step}
use Rattle.load.specs.Run.{Report, Run, reports_at, all_reports}
use Rattle.theorem_rehearse.specs.Rehearse.{Rehearsal, loaded, is_full, has_full, HadRoom, Ships, Complete, PatchedAlike, SamePatch, Rehearsed}
use Rattle.theorem_rehearse.proofs.Runs.{Steps, loads}
use Rattle.theorem_rehearse.proofs.Dimmers.{wide_page, wide_dimmer, record_alike}
use Rattle.theorem_rehearse.proofs.Views.{keeps, Views, Beside, beside_none, beside_same, beside_kept, beside_agrees, beside_back}
use Rattle.theorem_rehearse.proofs.Clears.{keeps_ok}
use Rattle.theorem_rehearse.proofs.Opens.{nothing_open_lem}
use Rattle.theorem_rehearse.proofs.Steps.{Held, record_after}

-- ---- reports of 0021 and 0022 in a joined list
full_next : (b x y : Bool) → cond b true (x || y) ≡ (cond b true x || y)
full_next true x y = refl
full_next false x y = refl

full_join : (a b : List Report) → has_full (a ++ b) ≡ (has_full a || has_full b)
unfolding has_full
full_join [] b = refl
full_join (r ∷ a) b = ap (cond (is_full r.condition) true) (full_join a b) ∙ full_next (is_full r.condition) (has_full a) (has_full b)

-- a record that is dropped for want of room reports it
full_at : (n : ℕ) (r : List ℕ) (xs : List Fault) (f : Fault) (ys : List Fault) → is_full f.condition ≡ true
    → has_full (reports_at n r (xs ++ (f ∷ ys))) ≡ true
unfolding has_full
full_at n r [] f ys h = cond-true (is_full f.condition) true (has_full (reports_at n r ys)) h
full_at n r (x ∷ xs) f ys h = ap (cond (is_full x.condition) true) (full_at n r xs f ys h) ∙ cond_same (is_full x.condition) true

dropped_full : (n : ℕ) (r : List ℕ) (x : Step) (f : Fault) → x.outcome ≡ Dropped f → is_full f.condition ≡ true
    → has_full (reports_at n r (reported_of r x)) ≡ true
unfolding reported_of outcome_faults
dropped_full n r x f e h =
    let ig : List Fault = cond (is_over_long r) [] (ignored_in r) in
    subst (λ (o : Outcome). has_full (reports_at n r (ig ++ (outcome_faults o ++ x.faults))) ≡ true) (sym e)
    (full_at n r ig f x.faults h)

-- all reports of a load
had_room : (x : Run) → HadRoom x → has_full x.reports ≡ false
unfolding all_reports
had_room x =
    by_test (λ (rs : List Report). has_full rs ≡ false → has_full x.reports ≡ false) x.stopped x.reports
    (x.reports ++ (record { number = length x.outcomes; condition = no_enddata; column = 0 } ∷ []))
    (λ e h. h)
    (λ e h. or_left (has_full x.reports) _ (sym (full_join x.reports _) ∙ h))

-- ---- parts one and two
module _ (d D : Desk) (s S : List ℕ) (h : Rehearsal d D s S) where
  small_ready : Ready d (emptied d s)
  small_ready = empty_good d s h.long h.small

  large_ready : Ready D (emptied D S)
  large_ready = empty_good D S h.longer h.large

  module _ (Lost : Name → Type 0) (out : (n : Name) → ok_name d n ≡ false → Lost n) where
    -- the larger had room, and what the smaller had no room for is lost
    abbrev Told : List Report → List Report → Type 0
    Told xs XS = (has_full XS ≡ false) × (has_full xs ≡ true → (n : Name) → Lost n)

    apart : (a b A B : List Report) → Told (a ++ b) (A ++ B) → Told a A × Told b B
    apart a b A B p =
        let e : (has_full A || has_full B) ≡ false = sym (full_join A B) ∙ p.0 in (
          (or_left (has_full A) (has_full B) e, λ g. p.1 (full_join a b ∙ or_true_left (has_full a) (has_full b) g)),
          (or_right (has_full A) (has_full B) e, λ g. p.1 (full_join a b ∙ or_true_right (has_full a) (has_full b) g)),
        )

    step : Steps d D (Held d D h.larger Lost out) Told
    step n r a t A T g G i p =
        record_after d D h.larger Lost out t T g G i.0 a A i.1 r
        (λ x e f. p.1 (dropped_full n r (record_step d a r t) x e f))
        (λ x e f. clash (dropped_full n r (record_step D A r T) x e f) p.0)

    start : Held d D h.larger Lost out nothing_open (emptied d s) nothing_open (emptied D S)
    start =
        (λ m. beside_same d (Lost m) (empty_view d s h.long m) (empty_view D S h.longer m) (beside_none d (Lost m)), nothing_open_lem no_key no_key)

    views : (stream : List ℕ) → HadRoom (loaded D S stream) → (has_full (loaded d s stream).reports ≡ true → (n : Name) → Lost n)
        → Ready d (loaded d s stream).store × Views d D h.larger Lost (loaded d s stream).store (loaded D S stream).store
    views stream g q =
        let w =
        loads d D h.larger (Held d D h.larger Lost out) Told apart step (emptied d s) (emptied D S) small_ready large_ready start stream
        (had_room (loaded D S stream) g, q)
        in
        (w.0, w.2.0)

  module _ (stream : List ℕ) where
    pub ships : Ships d D (loaded d s stream) (loaded D S stream)
    ships g n m e =
        let w = views (λ n. Unit {0}) (λ n z. tt) stream g (λ z n. tt) in
        beside_agrees d (Unit {0}) m (memory_of D (loaded D S stream).store n)
        (subst (λ (k : Kept). Beside d (Unit {0}) k (memory_of D (loaded D S stream).store n)) e (w.1 n))

    pub complete : Complete d D (loaded d s stream) (loaded D S stream)
    complete g q n =
        let w = views (λ m. ok_name d m ≡ false) (λ m z. z) stream g (λ z. clash z (had_room (loaded d s stream) q)) in
        let t = (loaded d s stream).store in
        let T = (loaded D S stream).store in
        same_test (keeps d t n) (ok_name d n && keeps D T n)
        (λ e.
        and_true (ok_name d n) (keeps D T n) (keeps_ok d t w.0 n e)
        (beside_kept d (ok_name d n ≡ false) (memory_of d t n) (memory_of D T n) (w.1 n) e))
        (λ e.
        beside_back d (ok_name d n ≡ false) (memory_of d t n) (memory_of D T n) (w.1 n) (and_right (ok_name d n) (keeps D T n) e)
        (λ z. clash (and_left (ok_name d n) (keeps D T n) e) z))

    -- ---- part three
    pub same_patches : SamePatch d D (loaded d s stream) (loaded D S stream)
    same_patches c =
        (loads d D h.larger (λ a t A T. PatchedAlike d D t T) (λ xs XS. Unit {0}) (λ a b A B p. (tt, tt))
        (λ n r a t A T g G i p. record_alike d D h.larger c t T g G i a A r)
        (emptied d s) (emptied D S) small_ready large_ready
        (λ p q wp wq.
        empty_patch d s h.long p q wp wq
        ∙ sym (empty_patch D S h.longer p q (wide_page d D h.larger c p wp) (wide_dimmer d D h.larger c q wq)))
        stream tt
        ).2

pub rehearsed : (d D : Desk) (s S : List ℕ) → Rehearsed d D s S
rehearsed d D s S h stream = (ships d D s S h stream, complete d D s S h stream, same_patches d D s S h stream)
