-- Which calls are turned away, with which number, and which place is told (paper 01, "Calls turned away"; paper 02, C-11): for each call the
-- lines of the paper's table that it tests, in their order. The promises of `Calls` meet them (laws `load_refused`, `write_refused`,
-- `translate_refused`, `empty_refused`, `needed_refused`, `find_refused`, `look_refused`; of the place `load_place`, `translate_place`, `write_place`, `find_place`, `look_place`;
-- of a word `word_told`).
-- Assumes nothing.
use Rattle.std.specs.Prelude.{Bool, true, false, not, List, [], ◌∷◌, ◌↔◌, ◌⊎◌, ◌≡◌, ℕ, ◌+◌, ◌/◌, ◌%◌, ◌≤◌, ◌<◌, length}
use Rattle.store_desk.specs.declared.Desk.{Desk}
use Rattle.cells.specs.Search.{IsFirst}
use Rattle.store_desk.specs.Size.{InRange, slots_of, entries_of, store_length}
use Rattle.store_desk.specs.Refusal.{Reply, place_unit, reply_word, most_places}
use Rattle.store.specs.Form.{slot_fits, shares, repeats, entry_fits}
use Rattle.store.specs.View.{absent}
use Rattle.save.specs.Lines.{stream_of}
use Rattle.show.specs.Calls.{most_bytes, not_kept_word}
use Rattle.show.specs.Looked.{cue_memory}

-- a line of the table: its number, and when
pub record Line : Type 1 where
  pub number : ℕ
  pub when : Type 0

abbrev pub line : ℕ → Type 0 → Line
line n w = record { number = n; when = w }

-- tested in this order: a line's number is the answer exactly where the line holds; where it does not, the lines after it decide, and 0
-- is the answer where none holds
unfoldable pub Told : List Line → ℕ → Type 0
Told [] n = n ≡ 0
Told (l ∷ ls) n = ((n ≡ l.number) ↔ l.when) × ((l.when → ⊥) → Told ls n)

-- ---- the lines, in the paper's words

-- stream longer than 262,143 bytes
abbrev pub r1 : List ℕ → Line
r1 stream = line 1 (most_bytes < length stream)

-- a desk limit outside its range
abbrev pub r2 : Desk → Line
r2 d = line 2 (InRange d → ⊥)

-- store shorter than the desk needs
abbrev pub r3 : Desk → List ℕ → Line
r3 d s = line 3 (length s < store_length d)

-- slot out of form
pub record SlotUnfit (d : Desk) (s : List ℕ) : Type 0 where
  pub slot : ℕ
  pub within : slot < slots_of d
  pub unfit : slot_fits d s slot ≡ false

abbrev pub r4a : Desk → List ℕ → Line
r4a d s = line 0x4A (SlotUnfit d s)

-- slot used twice for one memory
pub record SlotTwice (d : Desk) (s : List ℕ) : Type 0 where
  pub slot : ℕ
  pub earlier : ℕ
  pub before : earlier < slot
  pub within : slot < slots_of d
  pub shared : shares d s slot earlier ≡ true

abbrev pub r4b : Desk → List ℕ → Line
r4b d s = line 0x4B (SlotTwice d s)

-- patch entry out of form
pub record EntryUnfit (d : Desk) (s : List ℕ) : Type 0 where
  pub entry : ℕ
  pub within : entry < entries_of d
  pub unfit : entry_fits d s entry ≡ false

abbrev pub r4c : Desk → List ℕ → Line
r4c d s = line 0x4C (EntryUnfit d s)

-- writing: the whole stream would exceed 262,143 bytes
abbrev pub r5 : Desk → List ℕ → Line
r5 d s = line 5 (most_bytes < length (stream_of d s))

-- writing: the whole stream exceeds the output given
abbrev pub r6 : Desk → List ℕ → List ℕ → Line
r6 d s out = line 6 (length out < length (stream_of d s))

-- with translation: the desk has no groups or no submasters
abbrev pub r7 : Desk → Line
r7 d = line 7 ((d.groups ≡ 0) ⊎ (d.subs ≡ 0))

-- and of a look-up: no cue of that name is kept
abbrev pub lacking : Desk → List ℕ → ℕ → ℕ → ℕ → Line
lacking d s page whole tenths = line not_kept_word (cue_memory d s page whole tenths ≡ absent)

-- ---- the place that is told, from 1: of the first slot or patch entry that is so; 0 with every other answer

pub record FirstPlace (test : ℕ → Bool) (count place : ℕ) : Type 0 where
  pub index : ℕ
  pub counted : place ≡ index + 1
  pub first : IsFirst test count 0 index

-- n is the answer's number, p its place
pub record PlaceTold (d : Desk) (s : List ℕ) (n p : ℕ) : Type 0 where
  pub unfit : n ≡ 0x4A → FirstPlace (λ i. not (slot_fits d s i)) (slots_of d) p
  pub twice : n ≡ 0x4B → FirstPlace (repeats d s) (slots_of d) p
  pub entry : n ≡ 0x4C → FirstPlace (λ i. not (entry_fits d s i)) (entries_of d) p
  pub other : (n ≡ 0x4A → ⊥) → (n ≡ 0x4B → ⊥) → (n ≡ 0x4C → ⊥) → p ≡ 0
  pub most : p ≤ most_places

-- a word says number and place
pub record WordTold (a : Reply) : Type 0 where
  pub number : reply_word a % place_unit ≡ a.number
  pub place : reply_word a / place_unit ≡ a.place

-- ---- the calls: n is the answer's number

abbrev pub LoadRefused : Desk → List ℕ → List ℕ → ℕ → Type 0
LoadRefused d s stream n = Told (r1 stream ∷ r2 d ∷ r3 d s ∷ r4a d s ∷ r4b d s ∷ r4c d s ∷ []) n

abbrev pub TranslateRefused : Desk → List ℕ → List ℕ → ℕ → Type 0
TranslateRefused d s stream n = Told (r1 stream ∷ r2 d ∷ r3 d s ∷ r4a d s ∷ r4b d s ∷ r4c d s ∷ r7 d ∷ []) n

abbrev pub WriteRefused : Desk → List ℕ → List ℕ → ℕ → Type 0
WriteRefused d s out n = Told (r2 d ∷ r3 d s ∷ r4a d s ∷ r4b d s ∷ r4c d s ∷ r5 d s ∷ r6 d s out ∷ []) n

-- good form is not tested
abbrev pub EmptyRefused : Desk → List ℕ → ℕ → Type 0
EmptyRefused d s n = Told (r2 d ∷ r3 d s ∷ []) n

abbrev pub NeededRefused : Desk → ℕ → Type 0
NeededRefused d n = Told (r2 d ∷ []) n

-- `find` and `look_up`
abbrev pub FindRefused : Desk → List ℕ → ℕ → ℕ → ℕ → ℕ → Type 0
FindRefused d s page whole tenths n = Told (r2 d ∷ r3 d s ∷ r4a d s ∷ r4b d s ∷ r4c d s ∷ lacking d s page whole tenths ∷ []) n
