-- `repeated_slot` meets its contract: what is found among the words is the first slot that repeats, by law `repeated_is`.
use Rattle.store.specs.Slots.{place_of}
use mathlib.Core.Path.{refl, ap, ◌∙◌}
use Rattle.store_form.proofs.Keys.{most_keys_lem, repeated_is}
use native.Mathlib.Omega.{arith}
use Rattle.store_form.proofs.repeated_slot.Goals as goal

pub first_seen-requires : goal.first_seen-requires
first_seen-requires c = let m = most_keys_lem _ c.requires.fitting.range in omega (arith, c.first_slot-n.ensures)

pub returns : goal.returns
returns c = c.first_seen.ensures ∙ ap place_of (repeated_is _ _ c.requires.fitting (λ i. (c.type_inv.store i).fits) c.requires.store_value c.first_slot-cues.ensures c.first_slot-n.ensures c.key_words-words.ensures refl)
