-- A load with translation does not look at the bytes past the needed length, and leaves them: with others behind the store it comes to the same,
-- and they are behind it still. By induction on the records, for what is noted of them, and on the cue slots.
-- Assumes nothing.
use mathlib.Core.Path.{◌≡◌, refl, sym, ap, ◌∙◌}
use mathlib.Core.Bool.{cond, not, ◌&&◌}
use mathlib.Core.List.{List, [], ◌∷◌, ◌++◌}
use Prim.Native.Nat.{ℕ, zero, suc, ◌+◌, ◌-◌, ◌≤◌, ◌<◌}
use native.Mathlib.Omega.{arith}
use lib.Dec.{eqb}
use lib.ListN.{length, get_or, replicate}
use Rattle.cells.specs.Search.{Found}
use Rattle.cells.proofs.Split.{by_test, cond_ap}
use Rattle.store_desk.specs.declared.Desk.{Desk}
use Rattle.store_desk.specs.declared.Key.{Key}
use Rattle.store_desk.specs.declared.Kind.TheVariants.{Cue}
use Rattle.store_desk.specs.Size.{InRange, store_length}
use Rattle.store_head.specs.declared.Head.{Head}
use Rattle.text_records.specs.Stream.{records_of}
use Rattle.store.specs.declared.Edit.{Edit}
use Rattle.store.specs.declared.Edit.TheVariants.{Link as SetLink}
use Rattle.store.specs.Slots.{is_used, on_found}
use Rattle.store.specs.Change.{edit_at}
use Rattle.load.specs.declared.Numbers.{Numbers}
use Rattle.load.specs.declared.Open.{Open}
use Rattle.load.specs.declared.Open.TheVariants.{Nothing, Skipping, Memory}
use Rattle.load.specs.declared.State.{State}
use Rattle.load.specs.Ask.{name}
use Rattle.load.specs.Anew.{next_key, heard_in}
use Rattle.load.specs.Step.{Step, nothing_open, slot_by, slot_of}
use Rattle.load.specs.Run.{Run, stops, only, and_then}
use Rattle.load.specs.Translated.{Note, anew_from_one, step_in, numbers_after_of, run_in, note_of, notes_in, most_cues, asked_by, bornes, bearer_of, Linked, link_at, has_asked, links_from, linked, with_links, translated_of}
use Rattle.theorem_told.specs.Classes.{with_behind}
use Rattle.theorem_told.proofs.Behind.{Before, behind, head_before, find_before, edit_at_before}
use Rattle.theorem_told.proofs.Past.{Beside, step_beside, run_behind}
use Rattle.theorem_translated.specs.Links.{read_of, asked_of, bornes_of}
use Rattle.theorem_translated.proofs.Unlinked.{cue_slot}
use Rattle.theorem_translated.proofs.Links.{turn, turn_long}

module _ (d : Desk) (q : List ℕ) where
  -- ---- what is noted
  slot_behind : (key : Key) (o : Open) (u : List ℕ) → store_length d ≤ length u → slot_by d (u ++ q) key o ≡ slot_by d u key o
  unfolding slot_by
  slot_behind key Nothing u l = refl
  slot_behind key Skipping u l = refl
  slot_behind key (Memory k) u l = ap (λ (f : Found). on_found f (λ i. i) 0) (find_before d q u l (name k key))

  notes_behind : InRange d → (b : Numbers) (s : State) (t : List ℕ) → store_length d ≤ length t → (rs : List (List ℕ))
      → notes_in d b s (t ++ q) rs ≡ notes_in d b s t rs
  unfolding notes_in
  notes_behind ok b s t l [] = refl
  notes_behind ok b s t l (r ∷ rs) =
      let x = step_in d b s r t in
      let c = numbers_after_of b r x in
      let h : Beside d q x (step_in d b s r (t ++ q)) = step_beside d q ok b s r t l in
      let e : slot_of d (x.store ++ q) x.state ≡ slot_of d x.store x.state = slot_behind x.state.key x.state.«open» x.store h.long in
      let rest : notes_in d c x.state (x.store ++ q) rs ≡ notes_in d c x.state x.store rs = notes_behind ok c x.state x.store h.long rs in
      ap (λ (z : Step). note_of d b r z ∷ cond (stops z.outcome) [] (notes_in d (numbers_after_of b r z) z.state z.store rs)) h.same
      ∙ (λ i. record { heard = heard_in b r x.outcome; slot = e i } ∷ cond (stops x.outcome) [] (rest i))

  -- ---- the links
  abbrev behind_links : Linked → Linked
  behind_links x = record { store = x.store ++ q; lost = x.lost }

  before_same : {u v : List ℕ} → Before d q u v → v ≡ u ++ q
  before_same (behind l) = refl

  module _ (asked bs : List ℕ) where
    link_behind : (i : ℕ) → i < d.cues → (bearer : ℕ) (x : Linked) → store_length d ≤ length x.store
        → link_at d i bearer (behind_links x) ≡ behind_links (link_at d i bearer x)
    unfolding link_at
    link_behind i l bearer x h =
        let e : Edit = SetLink (next_key d Cue (bearer - 1)).whole 0 in
        ap
        (λ (u : List ℕ).
        cond (eqb bearer 0) (record { store = x.store ++ q; lost = x.lost + 1 }) (record { store = u; lost = x.lost }))
        (before_same (edit_at_before d q x.store h i (cue_slot d i l).0 e))
        ∙ sym
        (cond_ap (λ (y : Linked). behind_links y) (eqb bearer 0) (record { store = x.store; lost = x.lost + 1 })
        (record { store = edit_at d x.store i e; lost = x.lost }))

    turn_behind : (i : ℕ) → i < d.cues → (x : Linked) → store_length d ≤ length x.store → turn d asked bs i (behind_links x) ≡ behind_links (turn d asked bs i x)
    unfolding has_asked
    turn_behind i l x h =
        let a : ℕ = get_or asked i 0 in
        ap (λ (y : Head). cond (not (eqb a 0) && is_used y) (link_at d i (bearer_of a bs) (behind_links x)) (behind_links x))
        (head_before d q x.store h i (cue_slot d i l).0)
        ∙ ap (λ (y : Linked). cond (has_asked d asked x.store i) y (behind_links x)) (link_behind i l (bearer_of a bs) x h)
        ∙ sym (cond_ap (λ (y : Linked). behind_links y) (has_asked d asked x.store i) _ _)

    links_behind : (n i : ℕ) → i + n ≤ d.cues → (x : Linked) → store_length d ≤ length x.store
        → links_from d asked bs n i (behind_links x) ≡ behind_links (links_from d asked bs n i x)
    unfolding links_from
    links_behind zero i c x h = refl
    links_behind (suc n) i c x h =
        ap (links_from d asked bs n (suc i)) (turn_behind i (omega arith) x h)
        ∙ links_behind n (suc i) (omega arith) (turn d asked bs i x) (turn_long d asked bs i (omega arith) x h)

-- a store stays as long as is needed
run_long : (d : Desk) → InRange d → (n : ℕ) (b : Numbers) (s : State) (t : List ℕ) → store_length d ≤ length t → (rs : List (List ℕ))
    → store_length d ≤ length (run_in d n b s t rs).store
unfolding run_in
run_long d ok n b s t l [] = l
run_long d ok n b s t l (r ∷ rs) =
    let x = step_in d b s r t in
    let c = numbers_after_of b r x in
    let h : store_length d ≤ length x.store = (step_beside d [] ok b s r t l).long in
    by_test (λ (y : Run). store_length d ≤ length y.store) (stops x.outcome) (only (n + 1) r x)
    (and_then (n + 1) r x (run_in d (n + 1) c x.state x.store rs))
    (λ e. h)
    (λ e. run_long d ok (n + 1) c x.state x.store h rs)

-- bytes past the needed length: the load is the same without them, and they are as they were
pub translated_past : (d : Desk) → InRange d → (t past stream : List ℕ) → store_length d ≤ length t
    → translated_of d (t ++ past) stream ≡ with_behind past (translated_of d t stream)
unfolding translated_of linked
translated_past d ok t past stream l =
    let rs = records_of stream in
    let x = read_of d t stream in
    let y = read_of d (t ++ past) stream in
    let asked = asked_of d t stream in
    let bs = bornes_of d t stream in
    let long : store_length d ≤ length x.store = run_long d ok 0 anew_from_one nothing_open t l rs in
    ap (λ (ns : List Note). with_links y (linked d (asked_by (replicate most_cues 0) ns) (bornes rs ns) y.store))
    (notes_behind d past ok anew_from_one nothing_open t l rs)
    ∙ ap (λ (z : Run). with_links z (linked d asked bs z.store)) (run_behind d past ok 0 anew_from_one nothing_open t l rs)
    ∙ ap (λ (z : Linked). with_links (with_behind past x) z) (links_behind d past asked bs d.cues 0 (omega arith) (record { store = x.store; lost = 0 }) long)
