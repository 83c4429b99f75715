-- One record's step: what it asks for, done to the store (paper 01, "Keywords and conditions"; "The store").
-- Assumes nothing.
use Rattle.std.specs.Prelude.{Bool, cond, List, [], ◌∷◌, ◌++◌, ℕ, ltb}
use Rattle.store_desk.specs.declared.Desk.{Desk}
use Rattle.store_desk.specs.declared.Key.{Key}
use Rattle.store_desk.specs.declared.Kind.{Kind}
use Rattle.text_records.specs.Cleaning.{is_high, is_control, has}
use Rattle.text_fields.specs.Words.{Word}
use Rattle.store.specs.Slots.{find, on_found}
use Rattle.store.specs.Change.{seat, started, edited, cleared, cleared_patch}
use Rattle.load.specs.Item.{blame_none, faults_of, all_done}
use Rattle.load.specs.declared.Open.{Open}
use Rattle.load.specs.declared.Open.TheVariants.{Nothing, Skipping, Memory}
use Rattle.load.specs.declared.Fault.{Fault}
use Rattle.load.specs.declared.State.{State}
use Rattle.load.specs.declared.Outcome.{Outcome}
use Rattle.load.specs.declared.Outcome.TheVariants.{Blank, Passed, Dropped, Obeyed, Stopped}
use Rattle.load.specs.Condition.{full_of}
use Rattle.load.specs.Condition.{ignored_high, ignored_control}
use Rattle.cells.specs.Search.{Found, at, nowhere}
use Rattle.load.specs.Ask.{Wipe, table, dimmers, Ask, rests, skips, opens, edits, items, clears, name, fields_ask, is_over_long, ask_of}

-- ---- what a step gives

-- the state and the store after it, the record's outcome, and the faults of the items that it dropped
pub record Step : Type 0 where
  pub state : State
  pub outcome : Outcome
  pub faults : List Fault
  pub store : List ℕ

abbrev pub ended : State → Outcome → List ℕ → Step
ended s o t = record { state = s; outcome = o; faults = []; store = t }

abbrev pub no_key : Key
no_key = record { page = 0; whole = 0; fraction = 0 }

abbrev pub nothing_open : State
nothing_open = record { «open» = Nothing; key = no_key }

abbrev pub skipping : State
skipping = record { «open» = Skipping; key = no_key }

abbrev pub opened : Kind → Key → State
opened k key = record { «open» = Memory k; key = key }

-- ---- what the store does with an ask

-- an open memory that the store does not keep is closed
unfoldable pub settle_by : Desk → State → Open → List ℕ → State
settle_by d s Nothing t = s
settle_by d s Skipping t = s
settle_by d s (Memory k) t = on_found (find d t (name k s.key)) (λ i. s) nothing_open

abbrev pub settle : Desk → State → List ℕ → State
settle d s t = settle_by d s s.«open» t

-- the slot that keeps the open memory; 0 where none is open
unfoldable pub slot_by : Desk → List ℕ → Key → Open → ℕ
slot_by d t key Nothing = 0
slot_by d t key Skipping = 0
slot_by d t key (Memory k) = on_found (find d t (name k key)) (λ i. i) 0

abbrev pub slot_of : Desk → List ℕ → State → ℕ
slot_of d t s = slot_by d t s.key s.«open»

-- what CLEAR removes, one after the other
unfoldable pub wiped : Desk → List Wipe → List ℕ → List ℕ
wiped d [] t = t
wiped d (table k p ∷ ws) t = wiped d ws (cleared d t k p)
wiped d (dimmers p ∷ ws) t = wiped d ws (cleared_patch d t p)

-- an accepted primary starts its memory afresh, if there is room; one that finds none starts skipping and changes nothing
unfoldable pub opened_by : Desk → Kind → Key → Found → List ℕ → Step
opened_by d k key (at i) t = ended (opened k key) Obeyed (started d t (name k key))
opened_by d k key nowhere t = ended skipping (Dropped (blame_none (full_of k))) t

unfoldable pub acted : Desk → State → List ℕ → Ask → Step
acted d s t (rests o) = ended s o t
acted d s t (skips o) = ended skipping o t
acted d s t (opens k key) = opened_by d k key (seat d t (name k key)) t
acted d s t (edits n e) = ended s Obeyed (edited d t n e)
acted d s t (items target es) = record { state = s; outcome = Obeyed; faults = faults_of es; store = all_done d target t es }
acted d s t (clears ws) = ended (settle d s (wiped d ws t)) Obeyed (wiped d ws t)

-- by the fields of a record, and by the record as it was received
abbrev pub step_of : Desk → State → List Word → List ℕ → Step
step_of d s ws t = acted d s t (fields_ask d s ws)

unfoldable pub record_step : Desk → State → List ℕ → List ℕ → Step
record_step d s r t = acted d s t (ask_of d s r)

-- ---- what is reported of it

-- ignored characters are reported at most once a record, 0701 first; an over-long record's are not. No field is blamed for them
abbrev pub one_if : Bool → Fault → List Fault
one_if b f = cond b (f ∷ []) []

unfoldable pub ignored_in : List ℕ → List Fault
ignored_in r = one_if (has is_high r) (blame_none ignored_high) ++ one_if (has is_control r) (blame_none ignored_control)

-- ENDDATA stops a load with nothing to report
unfoldable pub outcome_faults : Outcome → List Fault
outcome_faults Blank = []
outcome_faults Passed = []
outcome_faults (Dropped f) = f ∷ []
outcome_faults Obeyed = []
outcome_faults (Stopped f) = one_if (ltb 0 f.condition) f

-- the faults of a record, in the order in which they are reported
unfoldable pub reported_of : List ℕ → Step → List Fault
reported_of r x = cond (is_over_long r) [] (ignored_in r) ++ (outcome_faults x.outcome ++ x.faults)
