-- How a load names its memories, whatever it notes: what holds of the numbers and of what is noted, record after record (paper 02, C-13). No promise
-- above the load names these.
-- Assumes nothing.
use Rattle.std.specs.Prelude.{◌≡◌, Bool, cond, List, [], ◌∷◌, ℕ, ◌≤◌, ◌<◌}
use Rattle.load.specs.declared.Heard.{Heard}
use Rattle.load.specs.declared.Heard.TheVariants.{Other}
use Rattle.load.specs.declared.Numbers.{Numbers}
use Rattle.load.specs.Anew.{numbered}
use Rattle.load.specs.Fits.{most_records, NumbersFit}
use Rattle.load.specs.Translated.{Note}

-- a load under the stream's own numbers hears nothing
abbrev pub heard_by : Bool → Heard → Heard
heard_by anew h = cond anew h Other

pub record NamingLaws {S : Type 0} (anew : Bool) (numbers : S → Numbers) (within : S → ℕ → Type 0) (after : S → Heard → ℕ → S) : Type 0 where
  -- whether the load is one with translation
  pub is_anew : (s : S) → (numbers s).anew ≡ anew
  -- of a record of which nothing is heard nothing is noted
  pub unheard : (s : S) (slot : ℕ) → after s Other slot ≡ s
  -- the numbers after a record are those of the definition
  pub counted : (s : S) (h : Heard) (slot : ℕ) → numbers (after s (heard_by anew h) slot) ≡ numbered (numbers s) (heard_by anew h)
  -- a record counts for at most one of each
  pub grows : (s : S) (h : Heard) (slot m n : ℕ) → within s m → m < n → within (after s h slot) n
  pub holds : (s : S) (m n : ℕ) → within s m → m ≤ n → within s n
  pub fits : (s : S) → within s most_records → NumbersFit (numbers s)

-- what is noted after all the records that were read
unfoldable pub noted_by : {S : Type 0} → (S → Heard → ℕ → S) → S → List Note → S
noted_by after s [] = s
noted_by after s (n ∷ ns) = noted_by after (after s n.heard n.slot) ns
