-- One record taken into the load: its step done, its outcome tallied, its conditions told (paper 01, "Reports, tallies, closing number").
-- Assumes nothing.
use Rattle.std.specs.Prelude.{Bool, false, ◌||◌, ◌≡◌, List, ◌++◌, ℕ, ◌+◌, ◌≤◌, eqb, length}
use Rattle.store_desk.specs.declared.Desk.{Desk}
use Rattle.text_records.specs.Received.{longest}
use Rattle.text_records.specs.Stream.{record_end}
use Rattle.text_records.specs.Window.{plain_end}
use Rattle.text_fields.specs.Words.{words_of}
use Rattle.store_code.specs.Fits.{Fitting}
use Rattle.load.specs.Step.{Step, outcome_faults, reported_of}
use Rattle.load.specs.Anew.{fields_heard, heard_in}
use Rattle.load.specs.Translated.{step_in}
use Rattle.load.specs.declared.Numbers.{Numbers}
use Rattle.load.specs.declared.Fault.{Fault}
use Rattle.load.specs.declared.Heard.{Heard}
use Rattle.load.specs.declared.Outcome.TheVariants.{Blank}
use Rattle.load.specs.Run.{stops}
use Rattle.load_hear.specs.Naming.{heard_by}
use Rattle.load_held.specs.Held.{held_of, HeldReady}
use Rattle.load_tell.specs.declared.Count.{Count}
use Rattle.load_run.specs.declared.Progress.{Progress}
use Rattle.load_tell.specs.Count.{told, told_all, tallied, ignored_by, Marred, Countable}
use Rattle.load.specs.Fits.{most_records, text_step}

-- how far a load is, the store and the lent list
pub record Took : Type 0 where
  pub done : Progress
  pub store : List ℕ
  pub reports : List ℕ

abbrev pub taken : Progress → List ℕ → List ℕ → Took
taken p t reps = record { done = p; store = t; reports = reps }

-- after a step of the record with the characters r, and its faults
unfoldable pub taken_by : Desk → Count → List ℕ → List ℕ → Step → List Fault → Took
taken_by d n r reps x fs =
    let y = told_all r (told (tallied n x.outcome) reps) fs in
    taken (record { held = held_of d x.store x.state; count = y.count; stopped = stops x.outcome }) x.store y.list

-- after the record with the characters r
abbrev pub record_taken : Desk → Numbers → Progress → List ℕ → List ℕ → List ℕ → Took
record_taken d b p r t reps = let x = step_in d b p.held.state r t in taken_by d p.count r reps x (reported_of r x)

-- after a record that is not over-long, from its text and the sorts of ignored characters in it
abbrev pub text_taken : Desk → Numbers → Progress → List ℕ → List ℕ → Bool → Bool → List ℕ → List ℕ → Took
text_taken d b p r text high control t reps =
    let x = text_step d b p.held.state (words_of 0 text) t in
    taken_by d p.count r reps x (ignored_by high control ++ (outcome_faults x.outcome ++ x.faults))

-- what is noted beside it, with the slot of the memory that is open after it
abbrev pub record_booked : {S : Type 0} → (S → Numbers) → (S → Heard → ℕ → S) → Desk → Progress → List ℕ → List ℕ → S → ℕ → S
record_booked numbers after d p r t s slot =
    let b = numbers s in
    after s (heard_in b r (step_in d b p.held.state r t).outcome) slot

abbrev pub text_booked : {S : Type 0} → Bool → (S → Numbers) → (S → Heard → ℕ → S) → Desk → Progress → List ℕ → List ℕ → S → ℕ → S
text_booked anew numbers after d p text t s slot =
    after s (heard_by anew (fields_heard (words_of 0 text) (text_step d (numbers s) p.held.state (words_of 0 text) t).outcome)) slot

-- after a record with no character
abbrev pub blank_taken : Progress → Progress
blank_taken p = record { held = p.held; count = tallied p.count Blank; stopped = false }

-- a text of a record with the characters r that is not over-long, and whether r has ignored characters of each sort
pub record TextOf (r text : List ℕ) (high control : Bool) : Type 0 where
  pub short : length r ≤ longest
  pub within : length text ≤ length r
  pub marred : Marred (high || control) r

-- a record of a stream, and whether it is plain
pub record Spans (s : List ℕ) (at end : ℕ) (plain : Bool) : Type 0 where
  pub ends : end ≡ record_end s at
  pub within : at ≤ length s
  pub told : plain ≡ eqb (plain_end s at) end

-- a load that can take one more record of so many characters
pub record Taking (d : Desk) (p : Progress) (size : ℕ) (t : List ℕ) : Type 0 where
  pub fitting : Fitting d t
  pub ready : HeldReady d t p.held
  pub countable : Countable p.count
  pub room : p.count.reports + size ≤ most_records
