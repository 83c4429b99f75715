-- `cue_slot` meets its contract: a name that the desk can't have is kept in no store in good form.
use Rattle.store_desk.proofs.Name.{ok_fits}
use Rattle.show.proofs.Laws.{unnamed}
use mathlib.Core.Path.{sym, ◌∙◌}
use Rattle.show.proofs.cue_slot.Goals as goal

pub find-requires : goal.find-requires
find-requires c = record { fitting = c.requires.fitting; key_fits = ok_fits _ _ c.requires.fitting.range (sym c.ok_name.ensures ∙ c.if-ok_name.true) }

pub returns : goal.returns
returns c = unnamed _ _ _ c.requires.good_form c.ok_name.ensures c.if-ok_name.false
