-- What the functions of a step speak of: the keyword's word, the name of the open memory, answers with no faults, answers that leave open what
-- was open. No promise above the step names these.
-- Assumes nothing.
use Rattle.std.specs.Prelude.{List, ℕ, length}
use Rattle.store_desk.specs.declared.Kind.{Kind}
use Rattle.store_desk.specs.declared.Kind.TheVariants.{Cue}
use Rattle.store_desk.specs.Name.{Name}
use Rattle.text_fields.specs.Words.{Word, head_of}
use Rattle.text_fields.specs.Places.{words_from}
use Rattle.load.specs.declared.State.{State}
use Rattle.load.specs.declared.Open.{Open}
use Rattle.load.specs.declared.Open.TheVariants.{Nothing, Skipping, Memory}
use Rattle.load.specs.declared.Outcome.{Outcome}
use Rattle.load.specs.Ask.{name}
use Rattle.load.specs.Step.{Step, no_key}
use Rattle.load_items.specs.Done.{faults_in}
use Rattle.load_held.specs.declared.Did.{Did}
use Rattle.load_held.specs.declared.Held.{Held}
use Rattle.load_held.specs.declared.Stepped.{Stepped}

-- the keyword: the first field of the text
abbrev pub keyword_in : List ℕ → Word
keyword_in text = head_of (words_from text 0)

-- the name of the open memory; where none is open, no step asks for it
unfoldable pub kind_in : Open → Kind
kind_in Nothing = Cue
kind_in Skipping = Cue
kind_in (Memory k) = k

abbrev pub open_name : State → Name
open_name s = name (kind_in s.«open») s.key

abbrev pub IsOpen : Open → Type 0
IsOpen Nothing = ⊥
IsOpen Skipping = ⊥
IsOpen (Memory k) = Unit {0}

-- no memory open, so in no slot
abbrev pub resting : Open → Held
resting o = record { state = record { «open» = o; key = no_key }; slot = 0 }

-- answers with no faults
abbrev pub ended_as : Held → Outcome → Stepped
ended_as h o = record { held = h; outcome = o; faults = 0 }

abbrev pub did_as : Outcome → Did
did_as o = record { outcome = o; faults = 0 }

-- ---- answers that leave open what was open

abbrev pub with_held : Held → Did → Stepped
with_held h x = record { held = h; outcome = x.outcome; faults = x.faults }

pub record Deeds : Type 0 where
  pub did : Did
  pub store : List ℕ

abbrev pub doing : Did → List ℕ → Deeds
doing r t = record { did = r; store = t }

unfoldable pub did_of : Step → Deeds
did_of x = doing (record { outcome = x.outcome; faults = length x.faults }) x.store

pub record DeedsAll : Type 0 where
  pub deeds : Deeds
  pub faults : List ℕ

abbrev pub doing_all : Did → List ℕ → List ℕ → DeedsAll
doing_all r t fs = record { deeds = doing r t; faults = fs }

unfoldable pub did_all : Step → List ℕ → DeedsAll
did_all x fs = record { deeds = did_of x; faults = faults_in fs x.faults }
