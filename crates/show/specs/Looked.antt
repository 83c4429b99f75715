-- A look-up and the show (paper 01, "The store": for a kept cue the levels are handed out as the very C bytes in the store): what is handed
-- out are the levels of the memory that the store keeps under the cue's name (`memory_of`, of which demands 2 and 3 speak), and the
-- place that `find` tells is where they begin. Laws `looked_show`, `found_part`.
-- Assumes nothing.
use Rattle.std.specs.Prelude.{List, ◌↔◌, ◌≡◌, ℕ, ◌+◌, Ok, Option, Result, Some}
use Rattle.std.specs.Borrow.{Bor}
use Rattle.store_desk.specs.declared.Desk.{Desk}
use Rattle.store_desk.specs.Refusal.{reply_word}
use Rattle.store.specs.Good.{Ready}
use Rattle.store.specs.View.{Memory, Kept, absent, kept, memory_of}
use Rattle.show.specs.Calls.{kept_word, not_kept_word, cue_name, cue_key, find_reply}
use Rattle.store_desk.specs.declared.Refusal.{Refusal}

-- the memory that is kept under a cue's name
abbrev pub cue_memory : Desk → List ℕ → ℕ → ℕ → ℕ → Kept
cue_memory d s page whole tenths = memory_of d s (cue_name (cue_key page whole tenths))

-- a cue is kept, with these levels
pub record KeptLevels (x : Kept) (levels : List ℕ) : Type 0 where
  pub memory : Memory
  pub held : x ≡ kept memory
  pub same : memory.levels ≡ levels

-- the part r and the answer word of a look-up: 0 with the levels of the kept cue; 255 exactly where the call is not turned away and no
-- such cue is kept
pub record LookedShow (d : Desk) (s : List ℕ) (page whole tenths : ℕ) (r : List ℕ) (answer : ℕ) : Type 0 where
  pub levels : answer ≡ kept_word → KeptLevels (cue_memory d s page whole tenths) r
  pub none : (answer ≡ not_kept_word) ↔ (Ready d s × (cue_memory d s page whole tenths ≡ absent))

-- what `find` answers beside it: the same word, and the place where the part r of the store s begins
pub record FoundPart (s r : Bor (List ℕ)) (answer : ℕ) (a : Result (Option ℕ) Refusal) : Type 0 where
  pub word : reply_word (find_reply a) ≡ answer
  pub place : (n : ℕ) → a ≡ Ok (Some n) → (r.ref_ptr.0 ≡ s.ref_ptr.0) × (r.ref_ptr.1 ≡ s.ref_ptr.1 + n)
