-- A record's step as the code takes it: what is open goes with the slot where the store keeps it, so that a secondary does not search
-- for it; faults go into a lent list (paper 01, "Keywords and conditions").
-- Assumes nothing.
use Rattle.std.specs.Prelude.{◌≡◌, List, ℕ, ◌≤◌, length}
use Rattle.cells.specs.Search.{at}
use Rattle.store_desk.specs.declared.Desk.{Desk}
use Rattle.store_desk.specs.declared.Key.{Key}
use Rattle.store_desk.specs.Name.{KeyFits}
use Rattle.text_records.specs.Received.{longest}
use Rattle.store.specs.Slots.{find}
use Rattle.store_code.specs.Fits.{Fitting}
use Rattle.load.specs.declared.State.{State}
use Rattle.load.specs.declared.Open.{Open}
use Rattle.load.specs.declared.Open.TheVariants.{Nothing, Skipping, Memory}
use Rattle.load_items.specs.Done.{faults_in, most_faults}
use Rattle.load.specs.Ask.{name}
use Rattle.load.specs.Step.{Step, slot_by, slot_of}
use Rattle.load_held.specs.declared.Held.{Held}
use Rattle.load_held.specs.declared.Stepped.{Stepped}

-- ---- what is open, with its slot

unfoldable pub held_of : Desk → List ℕ → State → Held
held_of d t s = record { state = s; slot = slot_of d t s }

-- ---- what holds between records

-- the open memory is found in the store
abbrev pub IsKept : Desk → List ℕ → Key → Open → Type 0
IsKept d t key Nothing = Unit {0}
IsKept d t key Skipping = Unit {0}
IsKept d t key (Memory k) = find d t (name k key) ≡ at (slot_by d t key (Memory k))

-- an open memory is kept, and its key fits the head's bits
pub record Settled (d : Desk) (t : List ℕ) (s : State) : Type 0 where
  pub fits : KeyFits s.key
  pub kept : IsKept d t s.key s.«open»

pub record HeldReady (d : Desk) (t : List ℕ) (h : Held) : Type 0 where
  pub same : h ≡ held_of d t h.state
  pub settled : Settled d t h.state

-- what a step is asked with: a store that fits the desk, a record's text of at most 80 characters, and what is open
pub record Stepping (d : Desk) (h : Held) (text t : List ℕ) : Type 0 where
  pub fitting : Fitting d t
  pub short : length text ≤ longest
  pub ready : HeldReady d t h

-- a list that has room for a record's faults
abbrev pub Room : List ℕ → Type 0
Room faults = most_faults ≤ length faults

-- ---- what it answers

-- the answer, and the store
pub record Res : Type 0 where
  pub stepped : Stepped
  pub store : List ℕ

abbrev pub stepping : Stepped → List ℕ → Res
stepping r t = record { stepped = r; store = t }

-- a step of the definitions as the code answers it
unfoldable pub stepped_of : Desk → Step → Res
stepped_of d x = stepping (record { held = held_of d x.store x.state; outcome = x.outcome; faults = length x.faults }) x.store

-- with the lent list of faults
pub record ResAll : Type 0 where
  pub res : Res
  pub faults : List ℕ

abbrev pub stepping_all : Stepped → List ℕ → List ℕ → ResAll
stepping_all r t fs = record { res = stepping r t; faults = fs }

unfoldable pub stepped_all : Desk → Step → List ℕ → ResAll
stepped_all d x fs = record { res = stepped_of d x; faults = faults_in fs x.faults }
