-- What people read beside a show: the standard's text for a condition and the letter of its severity (Appendix B), and the promise of a text
-- in a lent output. Where the appendix puts the record's own field or keyword between two words, the text has the words alone.
-- Assumes nothing.
use Rattle.std.specs.Prelude.{cond, List, [], ◌∷◌, ◌≡◌, ℕ, ◌<◌, eqb, length, Result}
use Rattle.cells.specs.Text.{bytes}
use Rattle.load.specs.Condition.{is_error}
use Rattle.show.specs.Calls.{write_reply, written_as, put_call}
use Rattle.show.specs.Refusals.{Line, line, Told}
use Rattle.store_desk.specs.declared.Refusal.{Refusal}

-- E, W, and I of the closing number 0
unfoldable pub severity_of : ℕ → ℕ
severity_of c = cond (eqb c 0) 73 (cond (is_error c) 69 87)

-- ---- the conditions that a load can report, and the closing number 0

pub record Row : Type 0 where
  pub number : ℕ
  pub text : List ℕ

-- the text of a number, nothing where it has none
unfoldable pub text_in : List Row → ℕ → List ℕ
text_in [] c = []
text_in (r ∷ rs) c = let t = text_in rs c in cond (eqb c r.number) r.text t

unfoldable pub warning_rows : List Row
warning_rows =
    record { number = 151; text = bytes "Undefined standard keyword" }
    ∷ record { number = 152; text = bytes "Wrong secondary keyword" }
    ∷ record { number = 171; text = bytes "Invalid integer" }
    ∷ record { number = 172; text = bytes "Invalid hexadecimal value" }
    ∷ record { number = 201; text = bytes "Channel out of range" }
    ∷ record { number = 203; text = bytes "Dimmer out of range" }
    ∷ record { number = 221; text = bytes "Invalid level" }
    ∷ record { number = 231; text = bytes "Patch page skipped" }
    ∷ record { number = 241; text = bytes "Invalid time" }
    ∷ record { number = 701; text = bytes "Ignored character with high-bit set" }
    ∷ record { number = 702; text = bytes "Ignored non-printing character" }
    ∷ []

unfoldable pub condition_rows : List Row
condition_rows =
    record { number = 0; text = bytes "Data stream successfully processed" }
    ∷ record { number = 21; text = bytes "Cue memory exhausted" }
    ∷ record { number = 22; text = bytes "Group memory exhausted" }
    ∷ record { number = 41; text = bytes "Invalid cue or group number" }
    ∷ record { number = 42; text = bytes "Cue or group number too large" }
    ∷ record { number = 43; text = bytes "Page out of range" }
    ∷ record { number = 44; text = bytes "Submaster number out of range" }
    ∷ record { number = 51; text = bytes "Groups not supported" }
    ∷ record { number = 52; text = bytes "Submasters not supported" }
    ∷ record { number = 91; text = bytes "Encountered record longer than 80 characters" }
    ∷ record { number = 99; text = bytes "Ident mismatch prohibits processing" }
    ∷ record { number = 100; text = bytes "Data stream terminated without ENDDATA" }
    ∷ warning_rows

unfoldable pub condition_text : ℕ → List ℕ
condition_text c = text_in condition_rows c

-- ---- a text in a lent output: R6 with the length needed, or the text at its front and its length
abbrev pub TextPromise : List ℕ → List ℕ → Result ℕ Refusal → List ℕ → Type 0
TextPromise text out a o = written_as (write_reply a) o ≡ put_call text out

-- R6, the text exceeds the output given; no other
abbrev pub short : List ℕ → List ℕ → List Line
short text out = line 6 (length out < length text) ∷ []

abbrev pub TextRefused : List ℕ → List ℕ → ℕ → Type 0
TextRefused text out n = Told (short text out) n
