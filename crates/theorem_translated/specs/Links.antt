-- The links at the end of a load with translation: each is to the last cue accepted in the load that bore the number asked for (paper 02, C-13).
-- Assumes nothing.
use Rattle.std.specs.Prelude.{Bool, true, false, cond, ◌&&◌, ◌≡◌, ◌↔◌, List, [], ◌∷◌, ◌++◌, ℕ, ◌+◌, ◌<◌, ◌≤◌, eqb, length, get_or, replicate}
use Rattle.cells.specs.Search.{count_from}
use Rattle.store_desk.specs.declared.Desk.{Desk}
use Rattle.store_desk.specs.declared.Kind.TheVariants.{Cue}
use Rattle.text_records.specs.Stream.{records_of}
use Rattle.value.specs.Number.{no_number}
use Rattle.store.specs.declared.Edit.TheVariants.{Link as SetLink}
use Rattle.store.specs.Slots.{slot_at, entry_at, head_at, levels_at, is_used}
use Rattle.store.specs.Change.{edit_head}
use Rattle.load.specs.declared.Outcome.{Outcome}
use Rattle.load.specs.Anew.{next_key}
use Rattle.load.specs.Step.{nothing_open}
use Rattle.load.specs.Run.{Run}
use Rattle.load.specs.Translated.{Note, anew_from_one, run_in, notes_in, most_cues, asked_by, borne_in, bornes, bearer_of, has_asked, lost_link, translated_of}
use Rattle.theorem_translated.specs.Numbered.{is_accepted}

-- when the last record was read: the run, what the cue of each slot asked for, and what the accepted CUEs bore, in their order
abbrev pub read_of : Desk → List ℕ → List ℕ → Run
read_of d t stream = run_in d 0 anew_from_one nothing_open t (records_of stream)

abbrev pub notes_of : Desk → List ℕ → List ℕ → List Note
notes_of d t stream = notes_in d anew_from_one nothing_open t (records_of stream)

abbrev pub asked_of : Desk → List ℕ → List ℕ → List ℕ
asked_of d t stream = asked_by (replicate most_cues 0) (notes_of d t stream)

abbrev pub bornes_of : Desk → List ℕ → List ℕ → List ℕ
bornes_of d t stream = bornes (records_of stream) (notes_of d t stream)

-- the same, told from the records and their outcomes: as the numbers are given, so that the j-th of them has the number that comes after j others
unfoldable pub borne_among : List (List ℕ) → List Outcome → List ℕ
borne_among [] os = []
borne_among (r ∷ rs) [] = []
borne_among (r ∷ rs) (o ∷ os) = let bs = borne_among rs os in cond (is_accepted Cue r o) (borne_in r ∷ bs) bs

-- the j-th of them, counted from 0, is the last that bore the number m; and none did
pub record LastBearer (bs : List ℕ) (m j : ℕ) : Type 0 where
  pub given : j < length bs
  pub bore : get_or bs j 0 ≡ m
  pub number : m ≡ no_number → ⊥
  pub later : (l : ℕ) → j < l → l < length bs → get_or bs l 0 ≡ m → ⊥

abbrev pub Unborne : List ℕ → ℕ → Type 0
Unborne bs m = (l : ℕ) → l < length bs → get_or bs l 0 ≡ m → m ≡ no_number

-- cue slot i: where it is unused, its cue asked for nothing, or none bore the number m that it asked for, its bytes are as the records left them,
-- which set no link: a cue that asked has none; else it has the link to the number that the last that bore it was given. Levels stay in any case
pub record LinkSaid (d : Desk) (t stream : List ℕ) (i : ℕ) : Type 0 where
  pub unused : is_used (head_at d (read_of d t stream).store i) ≡ false → slot_at d (translated_of d t stream).store i ≡ slot_at d (read_of d t stream).store i
  pub silent : get_or (asked_of d t stream) i 0 ≡ 0 → slot_at d (translated_of d t stream).store i ≡ slot_at d (read_of d t stream).store i
  pub lost : (m : ℕ) → get_or (asked_of d t stream) i 0 ≡ m + 1 → Unborne (bornes_of d t stream) m
      → slot_at d (translated_of d t stream).store i ≡ slot_at d (read_of d t stream).store i
  pub bare : (m : ℕ) → is_used (head_at d (read_of d t stream).store i) ≡ true → get_or (asked_of d t stream) i 0 ≡ m + 1
      → (head_at d (read_of d t stream).store i).link ≡ 0
  pub linked : (m j : ℕ) → is_used (head_at d (read_of d t stream).store i) ≡ true → get_or (asked_of d t stream) i 0 ≡ m + 1
      → LastBearer (bornes_of d t stream) m j
      → head_at d (translated_of d t stream).store i ≡ edit_head (SetLink (next_key d Cue j).whole 0) (head_at d (read_of d t stream).store i)
  pub levels : levels_at d (translated_of d t stream).store i ≡ levels_at d (read_of d t stream).store i

-- a kept cue whose link is lost
abbrev pub is_lost : Desk → List ℕ → List ℕ → ℕ → Bool
is_lost d t stream i =
    has_asked d (asked_of d t stream) (read_of d t stream).store i && eqb (bearer_of (get_or (asked_of d t stream) i 0) (bornes_of d t stream)) 0

-- of a load: what the accepted CUEs bore is as above. Every other slot and the patch are as the records left them. Each lost link, and no other, is
-- reported behind what was reported of the records
pub record AllLinked (d : Desk) (t stream : List ℕ) : Type 0 where
  pub borne : bornes_of d t stream ≡ borne_among (records_of stream) (translated_of d t stream).outcomes
  pub lost : (m : ℕ) → (bearer_of (m + 1) (bornes_of d t stream) ≡ 0) ↔ Unborne (bornes_of d t stream) m
  pub cues : (i : ℕ) → i < d.cues → LinkSaid d t stream i
  pub others : (i : ℕ) → d.cues ≤ i → slot_at d (translated_of d t stream).store i ≡ slot_at d (read_of d t stream).store i
  pub patch : (j : ℕ) → entry_at d (translated_of d t stream).store j ≡ entry_at d (read_of d t stream).store j
  pub reported : (translated_of d t stream).reports
      ≡ (read_of d t stream).reports ++ replicate (count_from (is_lost d t stream) d.cues 0) (lost_link (length (read_of d t stream).outcomes))
