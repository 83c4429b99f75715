-- `key_words` meets its contract: a turn puts the next slot's word behind those that stand there.
use Rattle.store_form.proofs.Keys.{keys_inside, words_none, words_turn, words_end, most_keys_lem}
use native.Mathlib.Omega.{arith}
use Rattle.store_form.proofs.key_words.Goals as goal

pub loop-slot-init : goal.loop-slot-init
loop-slot-init c = words_none _ _

pub word_at-requires-clause-slot_bound : goal.word_at-requires-clause-slot_bound
word_at-requires-clause-slot_bound c = let l = keys_inside c.args.desk in omega (arith, c.first_slot-slot-end.ensures)

pub offset_bounds-words-slot : goal.offset_bounds-words-slot
offset_bounds-words-slot c = let m = most_keys_lem _ c.requires.range in omega (arith, c.first_slot-slot-end.ensures)

pub bounds-words-slot : goal.bounds-words-slot
bounds-words-slot c = let m = most_keys_lem _ c.requires.range in omega (arith, c.first_slot-slot-end.ensures)

pub loop-slot-preserved : goal.loop-slot-preserved
loop-slot-preserved c = words_turn _ _ _ _ c.loop-slot.invariant (let m = most_keys_lem _ c.requires.range in omega (arith, c.first_slot-slot-end.ensures)) c.word_at.ensures

pub returns : goal.returns
returns c = words_end _ _ _ _ c.loop-slot.invariant (omega arith) c.loop-slot-test.false c.first_slot-slot-end.ensures
