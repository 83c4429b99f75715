-- `item_at` meets its contract: each field starts where the one before it ends, and the first at fault is blamed.
use Rattle.load_items.proofs.Laws.{fields_read, start_fits, second_ended, third_ended, item_channel, item_middle, item_level, item_obeyed}
use native.Mathlib.Omega.{arith}
use Rattle.load_items.proofs.item_at.Goals as goal

pub between-m-requires : goal.between-m-requires
between-m-requires c = second_ended _ _ _ _ c.requires.starts c.requires.within c.ranged-c.ensures

pub next_field-requires : goal.next_field-requires
next_field-requires c = third_ended _ _ _ _ c.requires.starts c.requires.within c.ranged-c.ensures _ _ c.between-m.ensures

pub level-l-requires : goal.level-l-requires
level-l-requires c = start_fits _ _ c.next_field.ensures (third_ended _ _ _ _ c.requires.starts c.requires.within c.ranged-c.ensures _ _ c.between-m.ensures).within

pub returns-then-c-ne0 : goal.returns-then-c-ne0
returns-then-c-ne0 c = item_channel _ _ _ _ (fields_read c.args.desk _ _ _ c.requires.starts c.ranged-c.ensures c.between-m.ensures c.next_field.ensures c.level-l.ensures) c.if-c-ne0.true c.blamed_at.ensures

pub blamed_at-requires-then-m-ne0 : goal.blamed_at-requires-then-m-ne0
blamed_at-requires-then-m-ne0 c = omega (arith, (second_ended _ _ _ _ c.requires.starts c.requires.within c.ranged-c.ensures).within, (third_ended _ _ _ _ c.requires.starts c.requires.within c.ranged-c.ensures _ _ c.between-m.ensures).within)

pub returns-then-m-ne0 : goal.returns-then-m-ne0
returns-then-m-ne0 c = item_middle _ _ _ _ (fields_read c.args.desk _ _ _ c.requires.starts c.ranged-c.ensures c.between-m.ensures c.next_field.ensures c.level-l.ensures) c.if-c-ne0.false c.if-m-ne0.true c.blamed_at-then-m-ne0.ensures

pub blamed_at-requires-then-l-ne0 : goal.blamed_at-requires-then-l-ne0
blamed_at-requires-then-l-ne0 c = (third_ended _ _ _ _ c.requires.starts c.requires.within c.ranged-c.ensures _ _ c.between-m.ensures).within

pub returns-then-l-ne0 : goal.returns-then-l-ne0
returns-then-l-ne0 c = item_level _ _ _ _ (fields_read c.args.desk _ _ _ c.requires.starts c.ranged-c.ensures c.between-m.ensures c.next_field.ensures c.level-l.ensures) c.if-c-ne0.false c.if-m-ne0.false c.if-l-ne0.true c.blamed_at-then-l-ne0.ensures

pub returns : goal.returns
returns c = item_obeyed _ _ _ _ (fields_read c.args.desk _ _ _ c.requires.starts c.ranged-c.ensures c.between-m.ensures c.next_field.ensures c.level-l.ensures) c.if-c-ne0.false c.if-m-ne0.false c.if-l-ne0.false c.entry.ensures
