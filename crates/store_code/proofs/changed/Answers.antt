-- `changed` meets its contract, edit by edit.
use mathlib.Core.Path.{refl}
use Rattle.cells.specs.Put.{put}
use Rattle.store.specs.Change.{edit_head}
use Rattle.store_code.proofs.changed.Goals as goal

pub returns-in-Up : goal.returns-in-Up
unfolding edit_head put
returns-in-Up c = rw c.in-Up.is refl

pub returns-in-Down : goal.returns-in-Down
unfolding edit_head put
returns-in-Down c = rw c.in-Down.is refl

pub returns-in-Followon : goal.returns-in-Followon
unfolding edit_head put
returns-in-Followon c = rw c.in-Followon.is refl

pub returns-in-Link : goal.returns-in-Link
unfolding edit_head put
returns-in-Link c = rw c.in-Link.is refl

pub returns-in-Level : goal.returns-in-Level
unfolding edit_head put
returns-in-Level c = rw c.in-Level.is refl
