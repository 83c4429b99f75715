-- A load with translation keeps good form: each record does (law `run_in_ready` of `load`), and a link is a change of a kept cue that a cue can
-- have.
-- Assumes nothing.
use mathlib.Core.Path.{◌≡◌, ap, subst}
use mathlib.Core.Bool.{true, not}
use mathlib.Core.List.{List}
use Prim.Native.Nat.{ℕ, ◌-◌, ◌<◌}
use native.Mathlib.Omega.{arith}
use lib.Dec.{eqb}
use lib.ListN.{get_or}
use Rattle.cells.proofs.Split.{and_right}
use Rattle.store_desk.specs.declared.Desk.{Desk}
use Rattle.text_records.specs.Stream.{records_of}
use Rattle.store.specs.Slots.{head_at, is_used}
use Rattle.store.specs.Change.{edit_at}
use Rattle.store.specs.Form.{has_link, name_at}
use Rattle.store.specs.Memories.{can_have}
use Rattle.store.specs.Good.{Ready}
use Rattle.store.proofs.Form.{found_self}
use Rattle.store.proofs.Edits.{edited-at, edit_good}
use Rattle.load.specs.Step.{nothing_open}
use Rattle.load.specs.Translated.{anew_from_one, bearer_of, has_asked, linked, translated_of}
use Rattle.load.proofs.Steps.{run_in_ready}
use Rattle.theorem_translated.specs.Links.{read_of, asked_of, bornes_of}
use Rattle.theorem_translated.proofs.Unlinked.{cue_slot}
use Rattle.theorem_translated.proofs.Links.{link_number, link_edit, links_keep}

link_ready : (d : Desk) (asked bs : List ℕ) (i : ℕ) → i < d.cues → (t : List ℕ) → Ready d t → has_asked d asked t i ≡ true
    → Ready d (edit_at d t i (link_edit d asked bs i))
unfolding can_have has_link has_asked
link_ready d asked bs i l t r h =
    let c = cue_slot d i l in
    let u : is_used (head_at d t i) ≡ true = and_right (not (eqb (get_or asked i 0) 0)) (is_used (head_at d t i)) h in
    let e = link_edit d asked bs i in
    subst (Ready d) (edited-at d t (name_at d t i) e i (found_self d t r.form i c.0 u))
    (edit_good d t r (name_at d t i) e (ap has_link c.1) (link_number d (bearer_of (get_or asked i 0) bs - 1)))

pub translated_ready : (d : Desk) (t stream : List ℕ) → Ready d t → Ready d (translated_of d t stream).store
unfolding translated_of linked
translated_ready d t stream r =
    let asked = asked_of d t stream in
    let bs = bornes_of d t stream in
    links_keep d asked bs (Ready d) d.cues 0 (λ k a b u h e. link_ready d asked bs k (omega arith) u h e)
    (record { store = (read_of d t stream).store; lost = 0 })
    (run_in_ready d 0 anew_from_one nothing_open t (records_of stream) r)
