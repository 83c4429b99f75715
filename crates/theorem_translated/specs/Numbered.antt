-- A load with translation, record by record: the class of each record, what a record leaves alone, and the number of each memory that is
-- accepted (paper 02, C-13; paper 01, "Reports, tallies, closing number").
-- Assumes nothing.
use Rattle.std.specs.Prelude.{Bool, false, true, cond, ◌&&◌, ◌≡◌, List, [], ◌∷◌, ℕ, suc, ◌≤◌, ◌<◌, length, get_or, take}
use Rattle.cells.specs.Search.{at, nowhere}
use Rattle.store_desk.specs.declared.Desk.{Desk}
use Rattle.store_desk.specs.declared.Key.{Key}
use Rattle.store_desk.specs.declared.Kind.{Kind}
use Rattle.store_desk.specs.Name.{pages_of, supported, eq_kind}
use Rattle.text_records.specs.Stream.{records_of}
use Rattle.text_fields.specs.Words.{fields_of, head_of, tail_of}
use Rattle.store.specs.Change.{seat}
use Rattle.store.specs.View.{kept, memory_of}
use Rattle.store.specs.Memories.{blank_memory}
use Rattle.load.specs.declared.Family.{Family}
use Rattle.load.specs.declared.Family.TheVariants.{Primary, Augments, Basic as Basically}
use Rattle.load.specs.declared.Numbers.{Numbers}
use Rattle.load.specs.declared.Outcome.{Outcome}
use Rattle.load.specs.declared.Outcome.TheVariants.{Dropped, Obeyed}
use Rattle.load.specs.Condition.{full_of, unsupported_of}
use Rattle.load.specs.Item.{blame, blame_none}
use Rattle.load.specs.Ask.{name, is_over_long}
use Rattle.load.specs.Anew.{next_key, beyond_of, is_obeyed, heard_in, numbered}
use Rattle.load.specs.Step.{Step, nothing_open, opened}
use Rattle.load.specs.Run.{Run, blank, class_of}
use Rattle.load.specs.Translated.{anew_from_one, step_in, run_in, translated_of}
use Rattle.theorem_told.specs.Classes.{classes_of, begins, ClassSaid, OverLongSaid}

-- ---- record i, counted from 0, taken where those before it ended

abbrev pub first_run : Desk → List ℕ → List ℕ → ℕ → Run
first_run d t stream i = run_in d 0 anew_from_one nothing_open t (take i (records_of stream))

-- the numbers after records with these outcomes
unfoldable pub numbers_by : Numbers → List (List ℕ) → List Outcome → Numbers
numbers_by b [] os = b
numbers_by b (r ∷ rs) [] = b
numbers_by b (r ∷ rs) (o ∷ os) = numbers_by (numbered b (heard_in b r o)) rs os

abbrev pub numbers_at : Desk → List ℕ → List ℕ → ℕ → Numbers
numbers_at d t stream i = numbers_by anew_from_one (records_of stream) (first_run d t stream i).outcomes

abbrev pub record_at : List ℕ → ℕ → List ℕ
record_at stream i = get_or (records_of stream) i []

abbrev pub step_at : Desk → List ℕ → List ℕ → ℕ → Step
step_at d t stream i = let x = first_run d t stream i in step_in d (numbers_at d t stream i) x.state (record_at stream i) x.store

-- ---- the class of record i is that of its own step, told as in a normal load; and one that is not obeyed touches nothing
pub record ReadSaid (d : Desk) (t stream : List ℕ) (i : ℕ) : Type 0 where
  pub own : get_or (classes_of (translated_of d t stream)) i blank ≡ class_of (step_at d t stream i).outcome
  pub short : is_over_long (record_at stream i) ≡ false → ClassSaid (first_run d t stream i).state (record_at stream i) (step_at d t stream i)
  pub long : is_over_long (record_at stream i) ≡ true → OverLongSaid (record_at stream i) (step_at d t stream i)
  pub untouched : ((step_at d t stream i).outcome ≡ Obeyed → ⊥) → (step_at d t stream i).store ≡ (first_run d t stream i).store

-- of each record that is read
abbrev pub AllSaid : Desk → List ℕ → List ℕ → Type 0
AllSaid d t stream = (i : ℕ) → i < length (translated_of d t stream).outcomes → ReadSaid d t stream i

-- ---- the numbers that are given

-- a record of at most 80 characters that begins a memory of the kind and is obeyed: an accepted primary
unfoldable pub is_primary : Kind → Family → Bool
is_primary k (Primary j) = eq_kind k j
is_primary k (Augments e) = false
is_primary k (Basically b) = false

unfoldable pub is_accepted : Kind → List ℕ → Outcome → Bool
is_accepted k r o = cond (is_over_long r) false (is_obeyed o && is_primary k (begins r))

-- how many there are among records with these outcomes
unfoldable pub accepted_in : Kind → List (List ℕ) → List Outcome → ℕ
accepted_in k [] os = 0
accepted_in k (r ∷ rs) [] = 0
accepted_in k (r ∷ rs) (o ∷ os) = let n = accepted_in k rs os in cond (is_accepted k r o) (suc n) n

-- the number of one that comes after as many as were accepted among the first i records: numbers are given without gaps
abbrev pub key_at : Desk → List ℕ → List ℕ → Kind → ℕ → Key
key_at d t stream k i = next_key d k (accepted_in k (records_of stream) (first_run d t stream i).outcomes)

-- an accepted primary opens the memory of that number, whatever its fields say, and starts it afresh
pub record NumberSaid (d : Desk) (t stream : List ℕ) (k : Kind) (i : ℕ) : Type 0 where
  pub named : (step_at d t stream i).state ≡ opened k (key_at d t stream k i)
  pub afresh : memory_of d (step_at d t stream i).store (name k (key_at d t stream k i)) ≡ kept (blank_memory d (key_at d t stream k i))

abbrev pub AllNumbered : Desk → List ℕ → List ℕ → Type 0
AllNumbered d t stream =
    (k : Kind) (i : ℕ) → begins (record_at stream i) ≡ Primary k → (step_at d t stream i).outcome ≡ Obeyed → NumberSaid d t stream k i

-- what a primary of at most 80 characters comes to is told from its kind alone; no field of it refuses it
pub record PrimarySaid (d : Desk) (t stream : List ℕ) (k : Kind) (i : ℕ) : Type 0 where
  pub unsupported : supported d k ≡ false → (step_at d t stream i).outcome ≡ Dropped (blame (head_of (fields_of (record_at stream i))) (unsupported_of k))
  pub beyond : supported d k ≡ true → pages_of d k < (key_at d t stream k i).page
      → (step_at d t stream i).outcome ≡ Dropped (beyond_of k (head_of (tail_of (fields_of (record_at stream i)))))
  pub full : supported d k ≡ true → (key_at d t stream k i).page ≤ pages_of d k
      → seat d (first_run d t stream i).store (name k (key_at d t stream k i)) ≡ nowhere → (step_at d t stream i).outcome ≡ Dropped (blame_none (full_of k))
  pub accepted : supported d k ≡ true → (key_at d t stream k i).page ≤ pages_of d k
      → (j : ℕ) → seat d (first_run d t stream i).store (name k (key_at d t stream k i)) ≡ at j → (step_at d t stream i).outcome ≡ Obeyed

abbrev pub AllPrimaries : Desk → List ℕ → List ℕ → Type 0
AllPrimaries d t stream =
    (k : Kind) (i : ℕ) → is_over_long (record_at stream i) ≡ false → begins (record_at stream i) ≡ Primary k → PrimarySaid d t stream k i

-- no number of a kind is given twice
abbrev pub NotTwice : Desk → Kind → Type 0
NotTwice d k = (i j : ℕ) → next_key d k i ≡ next_key d k j → i ≡ j
