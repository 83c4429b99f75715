-- When both loads come to the same (paper 02, C-13; §6.4): a stream that numbers its memories as the load with translation would.
-- Assumes nothing.
use Rattle.std.specs.Prelude.{false, cond, ◌≡◌, List, [], ◌∷◌, ℕ, suc, ◌+◌, ◌<◌, length, take, Ok}
use Rattle.store_desk.specs.declared.Desk.{Desk}
use Rattle.store_desk.specs.declared.Kind.{Kind}
use Rattle.text_records.specs.Stream.{records_of}
use Rattle.text_fields.specs.Words.{fields_of, head_of, tail_of}
use Rattle.value.specs.declared.Number.{Number}
use Rattle.value.specs.Number.{number_of}
use Rattle.load.specs.declared.Basic.TheVariants.{Clear}
use Rattle.load.specs.declared.Family.TheVariants.{Primary, Augments, Basic as Basically}
use Rattle.load.specs.declared.Outcome.TheVariants.{Obeyed}
use Rattle.load.specs.declared.Secondary.TheVariants.{Link}
use Rattle.load.specs.Ask.{named_of}
use Rattle.load.specs.Run.{load_of}
use Rattle.theorem_told.specs.Classes.{begins, step_at}
use Rattle.theorem_translated.specs.Numbered.{record_at, is_primary}
use Rattle.theorem_translated.specs.Links.{is_lost}

-- how many of these records begin a memory of kind k
unfoldable pub primaries_in : Kind → List (List ℕ) → ℕ
primaries_in k [] = 0
primaries_in k (r ∷ rs) = let n = primaries_in k rs in cond (is_primary k (begins r)) (suc n) n

-- of the records that a normal load reads: each primary is accepted, and the n-th of its kind bears n on page 1; no CLEAR has a page; each LINK has
-- a number. And of the load with translation: no kept cue's last LINK asked for a number that no CUE bore
pub record AsNumbered (d : Desk) (t stream : List ℕ) : Type 0 where
  pub named : (k : Kind) (i : ℕ) → i < length (load_of d t stream).outcomes → begins (record_at stream i) ≡ Primary k
      → named_of d k (tail_of (fields_of (record_at stream i)))
      ≡ Ok (record { page = 1; whole = primaries_in k (take i (records_of stream)) + 1; fraction = 0 })
  pub accepted : (k : Kind) (i : ℕ) → i < length (load_of d t stream).outcomes → begins (record_at stream i) ≡ Primary k
      → (step_at d t stream i).outcome ≡ Obeyed
  pub unpaged : (i : ℕ) → i < length (load_of d t stream).outcomes → begins (record_at stream i) ≡ Basically Clear
      → tail_of (tail_of (fields_of (record_at stream i))) ≡ []
  pub numbers : (i : ℕ) → i < length (load_of d t stream).outcomes → begins (record_at stream i) ≡ Augments Link
      → (n : Number) × (number_of (head_of (tail_of (fields_of (record_at stream i)))).chars ≡ Ok n)
  pub borne : (i : ℕ) → i < d.cues → is_lost d t stream i ≡ false
