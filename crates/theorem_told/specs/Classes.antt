-- The class of each record that is read, told from the record and from what is reported of it, and the records of a load taken in two parts
-- (paper 01, "Reports, tallies, closing number").
-- Assumes nothing.
use Rattle.std.specs.Prelude.{◌≡◌, true, false, cond, ◌↔◌, List, [], ◌∷◌, ◌++◌, map, ℕ, suc, ◌<◌, length, get_or, take}
use Rattle.store_desk.specs.declared.Desk.{Desk}
use Rattle.text_records.specs.Stream.{records_of}
use Rattle.text_records.specs.Cleaning.{kept_of}
use Rattle.text_fields.specs.Words.{fields_of, head_of}
use Rattle.text_fields.specs.Keywords.{keyword_of}
use Rattle.load.specs.declared.Basic.TheVariants.{Passed, Local}
use Rattle.load.specs.declared.Family.{Family}
use Rattle.load.specs.declared.Fault.{Fault}
use Rattle.load.specs.declared.Family.TheVariants.{Augments, Basic}
use Rattle.load.specs.declared.Open.TheVariants.{Skipping}
use Rattle.load.specs.declared.Secondary.{Secondary}
use Rattle.load.specs.declared.State.{State}
use Rattle.load.specs.Condition.{over_long_record}
use Rattle.load.specs.Item.{blame_none}
use Rattle.load.specs.Ask.{family_of, is_over_long}
use Rattle.load.specs.Step.{Step, nothing_open, record_step, outcome_faults, reported_of}
use Rattle.load.specs.Run.{Run, Class, blank, passed, dropped, obeyed, class_of, eq_class, stops, run_from, load_of}

-- ---- each record read is in one tally

-- one class for each record read
unfoldable pub classes_of : Run → List Class
classes_of x = map class_of x.outcomes

-- how many of them are of class k
unfoldable pub how_many : Class → List Class → ℕ
how_many k [] = 0
how_many k (c ∷ cs) = let n = how_many k cs in cond (eq_class k c) (suc n) n

-- ---- blank (no field), passed (passed over or skipped), dropped (whole record reported), obeyed (the rest)

-- what the first field of a record begins, as a keyword
abbrev pub begins : List ℕ → Family
begins r = family_of (keyword_of (head_of (fields_of r)).chars)

-- a keyword that is passed over, or one with a single `$`; or a secondary while skipping
pub data PassedOver (s : State) (r : List ℕ) : Type 0 where
  over : begins r ≡ Basic Passed → PassedOver s r
  local : begins r ≡ Basic Local → PassedOver s r
  skipped : (e : Secondary) → begins r ≡ Augments e → s.«open» ≡ Skipping → PassedOver s r

-- one condition is reported of the record as a whole, whether it stopped the load or not
abbrev pub ReportedWhole : Step → Type 0
ReportedWhole x = (f : Fault) × (outcome_faults x.outcome ≡ f ∷ [])

-- of a record r of at most 80 characters, in state s, that came to x. Only an obeyed one has items that are dropped, and so reported, apart
pub record ClassSaid (s : State) (r : List ℕ) (x : Step) : Type 0 where
  pub blanks : (class_of x.outcome ≡ blank) ↔ (fields_of r ≡ [])
  pub passes : (class_of x.outcome ≡ passed) ↔ PassedOver s r
  pub drops : (class_of x.outcome ≡ dropped) ↔ ReportedWhole x
  pub obeys : (class_of x.outcome ≡ obeyed) ↔ ((fields_of r ≡ [] → ⊥) × (PassedOver s r → ⊥) × (ReportedWhole x → ⊥))
  pub apart : (class_of x.outcome ≡ obeyed → ⊥) → x.faults ≡ []

-- of a longer one: 0091 and nothing else is reported, and the load stops
pub record OverLongSaid (r : List ℕ) (x : Step) : Type 0 where
  pub drops : class_of x.outcome ≡ dropped
  pub reported : reported_of r x ≡ blame_none over_long_record ∷ []
  pub stopped : stops x.outcome ≡ true

-- 0701 and 0702 change none of it: without its ignored characters, and its comment, the record comes to the same
abbrev pub CleanedAlike : Desk → State → List ℕ → List ℕ → Type 0
CleanedAlike d s r t = is_over_long r ≡ false → record_step d s r t ≡ record_step d s (kept_of r) t

-- ---- of a load

-- the run of the first n records
abbrev pub first_run : Desk → List ℕ → List ℕ → ℕ → Run
first_run d t stream n = run_from d 0 nothing_open t (take n (records_of stream))

-- record i, counted from 0, taken where those before it ended
abbrev pub step_at : Desk → List ℕ → List ℕ → ℕ → Step
step_at d t stream i = let x = first_run d t stream i in record_step d x.state (get_or (records_of stream) i []) x.store

-- the class of record i is that of its own step, of which the above holds
pub record ReadSaid (d : Desk) (t stream : List ℕ) (i : ℕ) : Type 0 where
  pub own : get_or (classes_of (load_of d t stream)) i blank ≡ class_of (step_at d t stream i).outcome
  pub short : is_over_long (get_or (records_of stream) i []) ≡ false
      → ClassSaid (first_run d t stream i).state (get_or (records_of stream) i []) (step_at d t stream i)
  pub long : is_over_long (get_or (records_of stream) i []) ≡ true → OverLongSaid (get_or (records_of stream) i []) (step_at d t stream i)

-- of each record that is read
abbrev pub AllSaid : Desk → List ℕ → List ℕ → Type 0
AllSaid d t stream = (i : ℕ) → i < length (load_of d t stream).outcomes → ReadSaid d t stream i

-- ---- records taken in two parts

-- a run, and another that took over where it ended
abbrev pub runs_joined : Run → Run → Run
runs_joined x y =
    record {
      state = y.state;
      store = y.store;
      stopped = y.stopped;
      outcomes = x.outcomes ++ y.outcomes;
      reports = x.reports ++ y.reports;
    }

-- a run that has read n records goes on with others, unless it stopped
unfoldable pub gone_on : Desk → ℕ → Run → List (List ℕ) → Run
gone_on d n x rs = let y = run_from d n x.state x.store rs in cond x.stopped x (runs_joined x y)

-- the same run, in a store that has more bytes behind it
abbrev pub with_behind : List ℕ → Run → Run
with_behind past x =
    record { state = x.state; store = x.store ++ past; stopped = x.stopped; outcomes = x.outcomes; reports = x.reports }
