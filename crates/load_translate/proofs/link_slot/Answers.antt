-- `link_slot` meets its contract: a cue that did not ask, one whose number none bore, and one that links.
use mathlib.Core.Bool.{not}
use mathlib.Core.Path.{ap}
use Rattle.load_translate.proofs.Links.{slot_still, slot_lost, slot_linked, cue_slot, cue_supported, link_fits}
use native.Mathlib.Omega.{arith}
use Rattle.load_translate.proofs.link_slot.Goals as goal

pub has_asked-requires : goal.has_asked-requires
has_asked-requires c = record { fitting = c.requires.fitting; slot_bound = cue_slot _ _ c.requires.slot_lt_cues }

pub returns-then-not-has_asked : goal.returns-then-not-has_asked
returns-then-not-has_asked c = slot_still _ _ _ _ _ _ _ c.has_asked.ensures (ap not c.if-not-has_asked.true)

pub returns-then-bearer-eq0 : goal.returns-then-bearer-eq0
returns-then-bearer-eq0 c = slot_lost _ _ _ _ _ _ _ c.has_asked.ensures (ap not c.if-not-has_asked.false) c.if-bearer-eq0.true c.report.ensures

pub next_key-key-requires : goal.next_key-key-requires
next_key-key-requires c = record { kind_value = cue_supported _ _ c.requires.slot_lt_cues; n_bound = let f = c.ranges in omega arith }

pub set_link-requires : goal.set_link-requires
set_link-requires c = record { fitting = c.requires.fitting; slot_bound = cue_slot _ _ c.requires.slot_lt_cues; editing = link_fits _ _ c.next_key-key.ensures }

pub returns : goal.returns
returns c = slot_linked _ _ _ _ _ _ _ c.has_asked.ensures (ap not c.if-not-has_asked.false) c.if-bearer-eq0.false c.next_key-key.ensures c.set_link.ensures
