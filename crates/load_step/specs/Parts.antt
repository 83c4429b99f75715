-- What the private functions speak of: which secondary has items, and that a change which is asked for can be written. No promise above this
-- crate names these.
-- Assumes nothing.
use Rattle.std.specs.Prelude.{Bool, true, false, Err, Ok, Result}
use Rattle.store_desk.specs.declared.Desk.{Desk}
use Rattle.store_code.specs.Fits.{Editing}
use Rattle.load.specs.declared.Secondary.{Secondary}
use Rattle.load.specs.declared.Secondary.TheVariants.{Chan, Up, Down, Followon, Link}
use Rattle.store.specs.declared.Edit.{Edit}
use Rattle.load.specs.declared.Fault.{Fault}

-- CHAN has items
unfoldable pub has_items : Secondary → Bool
has_items Chan = true
has_items Up = false
has_items Down = false
has_items Followon = false
has_items Link = false

-- a change that is asked for can be written
abbrev pub ReadingFits : Desk → Result Edit Fault → Type 0
ReadingFits d (Err f) = Unit {0}
ReadingFits d (Ok e) = Editing d e
