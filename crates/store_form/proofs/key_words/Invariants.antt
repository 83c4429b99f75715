-- The invariant of the loop: the words of the slots so far stand in front, zeros after them.
use Rattle.store.specs.Order.{slot_word}
use Rattle.store_form.specs.Keys.{most_keys}
use Rattle.cells.specs.Table.{tab}
use Rattle.cells.specs.Pad.{padded}
use mathlib.Core.Path.{◌≡◌}
use Rattle.store_form.proofs.key_words.Given as goal

abbrev pub invariant-loop-slot : goal.invariant-loop-slot
invariant-loop-slot l = l.words ≡ padded most_keys (tab (slot_word l.desk l.store) 0 l.slot)
