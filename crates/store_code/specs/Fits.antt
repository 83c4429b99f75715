-- What a call brings: a store that is long enough for a desk in range, a change that can be written, a patch entry that there is (paper 01,
-- "The store").
-- Assumes nothing.
use Rattle.std.specs.Prelude.{List, ℕ, ◌≤◌, length}
use Rattle.store_desk.specs.declared.Desk.{Desk}
use Rattle.store_desk.specs.Size.{Within, InRange, store_length}
use Rattle.store.specs.declared.Edit.{Edit}
use Rattle.store.specs.declared.Edit.TheVariants.{Up, Down, Followon, Link, Level}
use Rattle.store.specs.Fits.{EditFits}

-- every limit is in its range, and the store has the needed length
pub record Fitting (d : Desk) (s : List ℕ) : Type 0 where
  pub range : InRange d
  pub long : store_length d ≤ length s

-- the channel of a level is one that the desk has
abbrev pub OnDesk : Desk → Edit → Type 0
OnDesk d (Up fade delay) = Unit
OnDesk d (Down fade delay) = Unit
OnDesk d (Followon time) = Unit
OnDesk d (Link whole fraction) = Unit
OnDesk d (Level channel v) = Within 1 channel d.channels

-- a change that can be written: its values fit their bits, and its channel is the desk's
pub record Editing (d : Desk) (e : Edit) : Type 0 where
  pub fits : EditFits e
  pub channel : OnDesk d e

-- a patch entry that the desk has
pub record OnPatch (d : Desk) (page dimmer : ℕ) : Type 0 where
  pub on_page : Within 1 page d.patch_pages
  pub on_dimmer : Within 1 dimmer d.dimmers
