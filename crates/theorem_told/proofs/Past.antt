-- The records of a load, normal or with translation, do not look at the bytes past the needed length, and leave them: with others behind the
-- store they come to the same, and those are behind it still. By the seven cases of what a record asks for, each by what its operation does, and
-- by induction on the records.
-- Assumes nothing.
use mathlib.Core.Path.{◌≡◌, refl, sym, ap, ◌∙◌, subst}
use mathlib.Core.Bool.{true, cond}
use mathlib.Core.List.{List, [], ◌∷◌, ◌++◌}
use Prim.Native.Nat.{ℕ, ◌+◌, ◌≤◌}
use native.Mathlib.Omega.{arith}
use lib.ListN.{length, take, drop, take-append-drop}
use lib.Seq.{length-take-le}
use Rattle.cells.specs.Search.{Found, at, nowhere}
use Rattle.cells.proofs.Split.{cond_ap}
use Rattle.store_desk.specs.declared.Desk.{Desk}
use Rattle.store_desk.specs.declared.Key.{Key}
use Rattle.store_desk.specs.declared.Kind.{Kind}
use Rattle.store_desk.specs.Size.{Within, InRange, store_length}
use Rattle.store_desk.specs.Name.{Name, ok_name}
use Rattle.text_records.specs.Stream.{records_of}
use Rattle.store.specs.declared.Edit.TheVariants.{Level as SetLevel}
use Rattle.store.specs.Slots.{on_found}
use Rattle.store.specs.Change.{seat}
use Rattle.load.specs.declared.Fault.{Fault}
use Rattle.load.specs.declared.Entry.{Entry}
use Rattle.load.specs.declared.Entry.TheVariants.{Level, Patch, Faulty}
use Rattle.load.specs.declared.Open.{Open}
use Rattle.load.specs.declared.Open.TheVariants.{Nothing, Skipping, Memory}
use Rattle.load.specs.declared.Numbers.{Numbers}
use Rattle.load.specs.declared.State.{State}
use Rattle.load.specs.declared.Outcome.TheVariants.{Obeyed}
use Rattle.load.specs.Item.{faults_of, memory, page, done, all_done}
use Rattle.load.specs.Ask.{Wipe, table, dimmers, Ask, name}
use Rattle.load.specs.Step.{Step, ended, nothing_open, settle_by, settle, wiped, opened_by, acted, reported_of}
use Rattle.load.specs.Fits.{AllFit}
use Rattle.load.specs.Run.{Run, stops, only, and_then, load_of, all_reports, totals_of}
use Rattle.load.specs.Translated.{as_given, step_in, numbers_after_of, run_in}
use Rattle.load.proofs.Anew.{anew_record_deed, run_given}
use Rattle.load.proofs.Deed.{WipesFit, Deed, resting, skipping, opening, editing, setting, patching, clearing}
use Rattle.theorem_told.specs.Classes.{with_behind}
use Rattle.theorem_told.proofs.Behind.{Before, behind, find_before, seat_before}
use Rattle.theorem_told.proofs.Behind.{start_before, edit_before, patch_before, clear_before, clear_patch_before}

-- ---- items, and what CLEAR removes
module _ (d : Desk) (q : List ℕ) where
  memory_before : (n : Name) (es : List Entry) {u v : List ℕ} → Before d q u v → Before d q (all_done d (memory n) u es) (all_done d (memory n) v es)
  unfolding all_done done
  memory_before n [] b = b
  memory_before n (Level channel x ∷ es) {u} (behind l) = memory_before n es (edit_before d q u l n (SetLevel channel x))
  memory_before n (Patch channel dimmer x ∷ es) b = memory_before n es b
  memory_before n (Faulty x ∷ es) b = memory_before n es b

  page_before : (p : ℕ) → Within 1 p d.patch_pages → (es : List Entry) → AllFit d es → {u v : List ℕ} → Before d q u v
      → Before d q (all_done d (page p) u es) (all_done d (page p) v es)
  unfolding all_done done
  page_before p w [] f b = b
  page_before p w (Level channel x ∷ es) f b = page_before p w es f.1 b
  page_before p w (Patch channel dimmer x ∷ es) f {u} (behind l) = page_before p w es f.1 (patch_before d q u l p dimmer channel x w f.0.1)
  page_before p w (Faulty x ∷ es) f b = page_before p w es f.1 b

  wiped_before : (xs : List Wipe) → WipesFit d xs → {u v : List ℕ} → Before d q u v → Before d q (wiped d xs u) (wiped d xs v)
  unfolding wiped
  wiped_before [] f b = b
  wiped_before (table k p ∷ xs) f {u} (behind l) = wiped_before xs f.1 (clear_before d q u l k p)
  wiped_before (dimmers p ∷ xs) f {u} (behind l) = wiped_before xs f.1 (clear_patch_before d q u l p f.0)

-- ---- steps
abbrev pub behind_step : List ℕ → Step → Step
behind_step q x = record { state = x.state; outcome = x.outcome; faults = x.faults; store = x.store ++ q }

pub record Beside (d : Desk) (q : List ℕ) (x y : Step) : Type 0 where
  pub same : y ≡ behind_step q x
  pub long : store_length d ≤ length x.store

module _ (d : Desk) (q : List ℕ) where
  stored : (s : State) (faults : List Fault) {u v : List ℕ} → Before d q u v
      → Beside d q (record { state = s; outcome = Obeyed; faults = faults; store = u })
      (record { state = s; outcome = Obeyed; faults = faults; store = v })
  stored s faults (behind l) = record { same = refl; long = l }

  settle_before : (s : State) (o : Open) (u : List ℕ) → store_length d ≤ length u → settle_by d s o (u ++ q) ≡ settle_by d s o u
  unfolding settle_by
  settle_before s Nothing u l = refl
  settle_before s Skipping u l = refl
  settle_before s (Memory k) u l = ap (λ (f : Found). on_found f (λ i. s) nothing_open) (find_before d q u l (name k s.key))

  settled : (s : State) {u v : List ℕ} → Before d q u v → Beside d q (ended (settle d s u) Obeyed u) (ended (settle d s v) Obeyed v)
  settled s {u} (behind l) = record { same = ap (λ (x : State). ended x Obeyed (u ++ q)) (settle_before s s.«open» u l); long = l }

  module _ (t : List ℕ) (l : store_length d ≤ length t) where
    opened_beside : (k : Kind) (y : Key) → ok_name d (name k y) ≡ true → (a : Found) → Beside d q (opened_by d k y a t) (opened_by d k y a (t ++ q))
    unfolding opened_by
    opened_beside k y o (at i) = stored _ [] (start_before d q t l (name k y) o)
    opened_beside k y o nowhere = record { same = refl; long = l }

    deed_beside : InRange d → {s : State} {n : ℕ} {a : Ask} → Deed d s n a → Beside d q (acted d s t a) (acted d s (t ++ q) a)
    unfolding acted
    deed_beside r (resting o f) = record { same = refl; long = l }
    deed_beside r (skipping o f i) = record { same = refl; long = l }
    deed_beside r (opening k y o) =
        subst (λ (a : Found). Beside d q (opened_by d k y (seat d t (name k y)) t) (opened_by d k y a (t ++ q))) (sym (seat_before d q t l (name k y)))
        (opened_beside k y (o r) (seat d t (name k y)))
    deed_beside r {s} (editing k o e c) = stored s [] (edit_before d q t l (name k s.key) e)
    deed_beside r {s} (setting k o es f m) = stored s (faults_of es) (memory_before d q (name k s.key) es (behind l))
    deed_beside r {s} (patching p w es f m) = stored s (faults_of es) (page_before d q p w es f (behind l))
    deed_beside r {s} (clearing xs f) = settled s (wiped_before d q xs f (behind l))

  -- ---- the run, in either load
  module _ (ok : InRange d) where
    pub step_beside : (b : Numbers) (s : State) (r t : List ℕ) → store_length d ≤ length t → Beside d q (step_in d b s r t) (step_in d b s r (t ++ q))
    unfolding step_in
    step_beside b s r t l = deed_beside t l ok (anew_record_deed d b s r)

    pub run_behind : (n : ℕ) (b : Numbers) (s : State) (t : List ℕ) → store_length d ≤ length t → (rs : List (List ℕ))
        → run_in d n b s (t ++ q) rs ≡ with_behind q (run_in d n b s t rs)
    unfolding run_in reported_of
    run_behind n b s t l [] = refl
    run_behind n b s t l (r ∷ rs) =
        let x = step_in d b s r t in
        let c = numbers_after_of b r x in
        let h : Beside d q x (step_in d b s r (t ++ q)) = step_beside b s r t l in
        ap
        (λ (z : Step). cond (stops z.outcome) (only (n + 1) r z) (and_then (n + 1) r z (run_in d (n + 1) (numbers_after_of b r z) z.state z.store rs)))
        h.same
        ∙ ap (λ (y : Run). cond (stops x.outcome) (only (n + 1) r (behind_step q x)) (and_then (n + 1) r (behind_step q x) y))
        (run_behind (n + 1) c x.state x.store h.long rs)
        ∙ sym (cond_ap (λ (y : Run). with_behind q y) (stops x.outcome) _ _)

-- bytes past the needed length: the load is the same without them, and they are as they were
pub past_apart : (d : Desk) → InRange d → (t past stream : List ℕ) → store_length d ≤ length t
    → load_of d (t ++ past) stream ≡ with_behind past (load_of d t stream)
unfolding load_of
past_apart d ok t past stream l =
    let rs = records_of stream in
    sym (run_given d 0 as_given nothing_open (t ++ past) rs refl) ∙ run_behind d past ok 0 as_given nothing_open t l rs
    ∙ ap (λ (x : Run). with_behind past x) (run_given d 0 as_given nothing_open t rs refl)

-- so that a load goes by the needed bytes alone
module _ (d : Desk) (ok : InRange d) (t stream : List ℕ) (l : store_length d ≤ length t) where
  needed_load : load_of d t stream ≡ with_behind (drop (store_length d) t) (load_of d (take (store_length d) t) stream)
  needed_load =
      let e : length (take (store_length d) t) ≡ store_length d = length-take-le (store_length d) t l in
      ap (λ (u : List ℕ). load_of d u stream) (sym (take-append-drop (store_length d) t))
      ∙ past_apart d ok (take (store_length d) t) (drop (store_length d) t) stream (omega arith)

  pub needed_store : (load_of d t stream).store ≡ (load_of d (take (store_length d) t) stream).store ++ drop (store_length d) t
  needed_store = ap (λ (x : Run). x.store) needed_load

  pub needed_outcomes : (load_of d t stream).outcomes ≡ (load_of d (take (store_length d) t) stream).outcomes
  needed_outcomes = ap (λ (x : Run). x.outcomes) needed_load

  pub needed_reports : all_reports (load_of d t stream) ≡ all_reports (load_of d (take (store_length d) t) stream)
  unfolding all_reports
  needed_reports = ap all_reports needed_load

  pub needed_totals : totals_of (load_of d t stream) ≡ totals_of (load_of d (take (store_length d) t) stream)
  unfolding totals_of all_reports
  needed_totals = ap totals_of needed_load
