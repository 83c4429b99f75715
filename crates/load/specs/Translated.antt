-- The load with translation: one step a record, as in a normal load; then, when the load ends, the links that were asked for (paper 02, C-13;
-- §6.4).
-- Assumes nothing.
use Rattle.std.specs.Prelude.{Bool, true, false, cond, not, ◌&&◌, List, [], ◌∷◌, ◌++◌, ℕ, zero, suc, ◌+◌, ◌-◌, eqb, length, get_or, set, replicate}
use Rattle.store_desk.specs.declared.Desk.{Desk}
use Rattle.store_desk.specs.declared.Kind.TheVariants.{Cue, Group, Sub}
use Rattle.text_records.specs.Stream.{records_of}
use Rattle.text_fields.specs.Words.{fields_of, head_of, tail_of}
use Rattle.value.specs.Number.{borne_of, no_number}
use Rattle.store.specs.declared.Edit.TheVariants.{Link as SetLink}
use Rattle.store.specs.Slots.{head_at, is_used}
use Rattle.store.specs.Change.{edit_at}
use Rattle.load.specs.declared.Heard.{Heard}
use Rattle.load.specs.declared.Heard.TheVariants.{Other, Accepted, Refused, Link as Asked}
use Rattle.load.specs.declared.Numbers.{Numbers}
use Rattle.load.specs.declared.State.{State}
use Rattle.load.specs.Condition.{bad_number}
use Rattle.load.specs.Anew.{next_key, ask_in, heard_in, numbered}
use Rattle.load.specs.Step.{Step, nothing_open, slot_of, acted}
use Rattle.load.specs.Run.{Report, Run, stops, none, only, and_then}

-- ---- either load, record after record

abbrev pub as_given : Numbers
as_given = record { anew = false; cues = 0; groups = 0; subs = 0 }

abbrev pub anew_from_one : Numbers
anew_from_one = record { anew = true; cues = 0; groups = 0; subs = 0 }

unfoldable pub step_in : Desk → Numbers → State → List ℕ → List ℕ → Step
step_in d b s r t = acted d s t (ask_in d b s r)

-- the numbers after a record
abbrev pub numbers_after_of : Numbers → List ℕ → Step → Numbers
numbers_after_of b r x = numbered b (heard_in b r x.outcome)

-- records after n others; a normal load is `run_from` of `Run` (law `run_given`)
unfoldable pub run_in : Desk → ℕ → Numbers → State → List ℕ → List (List ℕ) → Run
run_in d n b s t [] = none s t
run_in d n b s t (r ∷ rs) =
    let x = step_in d b s r t in
    let rest = run_in d (n + 1) (numbers_after_of b r x) x.state x.store rs in
    cond (stops x.outcome) (only (n + 1) r x) (and_then (n + 1) r x rest)

-- what was heard of each record that was read, with the slot of the memory that is open after it
pub record Note : Type 0 where
  pub heard : Heard
  pub slot : ℕ

abbrev pub note_of : Desk → Numbers → List ℕ → Step → Note
note_of d b r x = record { heard = heard_in b r x.outcome; slot = slot_of d x.store x.state }

unfoldable pub notes_in : Desk → Numbers → State → List ℕ → List (List ℕ) → List Note
notes_in d b s t [] = []
notes_in d b s t (r ∷ rs) =
    let x = step_in d b s r t in
    let rest = notes_in d (numbers_after_of b r x) x.state x.store rs in
    note_of d b r x ∷ cond (stops x.outcome) [] rest

-- ---- the links that were asked for

-- no desk has more cue memories
abbrev pub most_cues : ℕ
most_cues = 600

-- of each slot the number that its cue's last LINK asked for, and 1; 0 where it asked for nothing. A cue that starts afresh has asked for
-- nothing, whatever its slot held before
unfoldable pub asked_at : List ℕ → ℕ → Heard → List ℕ
asked_at asked i Other = asked
asked_at asked i (Accepted Cue) = set asked i 0
asked_at asked i (Accepted Group) = asked
asked_at asked i (Accepted Sub) = asked
asked_at asked i (Refused k) = asked
asked_at asked i (Asked m) = set asked i (m + 1)

unfoldable pub asked_by : List ℕ → List Note → List ℕ
asked_by asked [] = asked
asked_by asked (n ∷ ns) = asked_by (asked_at asked n.slot n.heard) ns

-- what the accepted CUEs bore, in their order: also one that was cleared later
unfoldable pub is_accepted_cue : Heard → Bool
is_accepted_cue Other = false
is_accepted_cue (Accepted Cue) = true
is_accepted_cue (Accepted Group) = false
is_accepted_cue (Accepted Sub) = false
is_accepted_cue (Refused k) = false
is_accepted_cue (Asked m) = false

abbrev pub borne_in : List ℕ → ℕ
borne_in r = borne_of (head_of (tail_of (fields_of r))).chars

unfoldable pub bornes : List (List ℕ) → List Note → List ℕ
bornes [] ns = []
bornes (r ∷ rs) [] = []
bornes (r ∷ rs) (n ∷ ns) = let rest = bornes rs ns in cond (is_accepted_cue n.heard) (borne_in r ∷ rest) rest

-- the last of them that bore the number m, counted from 1; 0 where none did. No number is borne by none
unfoldable pub last_bearer : ℕ → ℕ → ℕ → List ℕ → ℕ
last_bearer m k last [] = last
last_bearer m k last (b ∷ bs) = last_bearer m (k + 1) (cond (eqb m b && not (eqb b no_number)) k last) bs

abbrev pub bearer_of : ℕ → List ℕ → ℕ
bearer_of asked bs = last_bearer (asked - 1) 1 0 bs

-- ---- the end of the load

-- the store, and how many links to no cue there were
pub record Linked : Type 0 where
  pub store : List ℕ
  pub lost : ℕ

-- a kept cue that asked: it links to the last bearer's new number; or it has no link, and that is reported
unfoldable pub link_at : Desk → ℕ → ℕ → Linked → Linked
link_at d i bearer x =
    cond (eqb bearer 0) (record { store = x.store; lost = x.lost + 1 })
    (record { store = edit_at d x.store i (SetLink (next_key d Cue (bearer - 1)).whole 0); lost = x.lost })

unfoldable pub has_asked : Desk → List ℕ → List ℕ → ℕ → Bool
has_asked d asked t i = not (eqb (get_or asked i 0) 0) && is_used (head_at d t i)

-- of n cue slots from i on
unfoldable pub links_from : Desk → List ℕ → List ℕ → ℕ → ℕ → Linked → Linked
links_from d asked bs zero i x = x
links_from d asked bs (suc n) i x =
    links_from d asked bs n (suc i) (cond (has_asked d asked x.store i) (link_at d i (bearer_of (get_or asked i 0) bs) x) x)

unfoldable pub linked : Desk → List ℕ → List ℕ → List ℕ → Linked
linked d asked bs t = links_from d asked bs d.cues 0 (record { store = t; lost = 0 })

-- reported as malformed (§7.4), under the number of records read, column 0, ahead of 0100
abbrev pub lost_link : ℕ → Report
lost_link n = record { number = n; condition = bad_number; column = 0 }

abbrev pub with_links : Run → Linked → Run
with_links x l =
    record {
      state = x.state;
      store = l.store;
      stopped = x.stopped;
      outcomes = x.outcomes;
      reports = x.reports ++ replicate l.lost (lost_link (length x.outcomes));
    }

unfoldable pub translated_of : Desk → List ℕ → List ℕ → Run
translated_of d t stream =
    let rs = records_of stream in
    let x = run_in d 0 anew_from_one nothing_open t rs in
    let ns = notes_in d anew_from_one nothing_open t rs in
    with_links x (linked d (asked_by (replicate most_cues 0) ns) (bornes rs ns) x.store)
