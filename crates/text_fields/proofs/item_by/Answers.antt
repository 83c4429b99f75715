-- `text_fields::item_by` meets its contract: the number of each name is computed, and the rows are asked in order.
use Rattle.std.proofs.Common.{◌≡◌, arith}
use Rattle.text_fields.specs.Keywords.{upper, item_rows}
use Rattle.text_fields.specs.Tables.{letter_of, field_key, meaning_by}
use Rattle.text_fields.proofs.Keys.{row_miss, row_none}
use Rattle.text_fields.proofs.item_by.Goals as goal

pub returns-in-12673 : goal.returns-in-12673
unfolding item_rows field_key letter_of upper meaning_by
returns-in-12673 c = rw c.in-12673.is

pub returns-in-628387 : goal.returns-in-628387
unfolding item_rows field_key letter_of upper meaning_by
returns-in-628387 c = rw c.in-628387.is

pub returns-in-655015495 : goal.returns-in-655015495
unfolding item_rows field_key letter_of upper meaning_by
returns-in-655015495 c = rw c.in-655015495.is

pub returns-in-8507440 : goal.returns-in-8507440
unfolding item_rows field_key letter_of upper meaning_by
returns-in-8507440 c = rw c.in-8507440.is

pub returns-in-688488191527603 : goal.returns-in-688488191527603
unfolding item_rows field_key letter_of upper meaning_by
returns-in-688488191527603 c = rw c.in-688488191527603.is

pub returns-in_default : goal.returns-in_default
unfolding item_rows field_key letter_of upper
returns-in_default c = row_miss _ _ _ _ (λ (e : c.args.k ≡ 12673). omega arith) (row_miss _ _ _ _ (λ (e : c.args.k ≡ 628387). omega arith) (row_miss _ _ _ _ (λ (e : c.args.k ≡ 655015495). omega arith) (row_miss _ _ _ _ (λ (e : c.args.k ≡ 8507440). omega arith) (row_miss _ _ _ _ (λ (e : c.args.k ≡ 688488191527603). omega arith) (row_none _ _)))))
