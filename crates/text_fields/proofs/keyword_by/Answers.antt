-- `text_fields::keyword_by` meets its contract: the number of each name is computed, and the rows are asked in order.
use Rattle.std.proofs.Common.{◌≡◌, arith}
use Rattle.text_fields.specs.Keywords.{upper, keyword_rows}
use Rattle.text_fields.specs.Tables.{letter_of, field_key, meaning_by}
use Rattle.text_fields.proofs.Keys.{row_miss, row_none}
use Rattle.text_fields.proofs.keyword_by.Goals as goal

pub returns-in-21435529 : goal.returns-in-21435529
unfolding keyword_rows field_key letter_of upper meaning_by
returns-in-21435529 c = rw c.in-21435529.is

pub returns-in-18912643 : goal.returns-in-18912643
unfolding keyword_rows field_key letter_of upper meaning_by
returns-in-18912643 c = rw c.in-18912643.is

pub returns-in-8507440 : goal.returns-in-8507440
unfolding keyword_rows field_key letter_of upper meaning_by
returns-in-8507440 c = rw c.in-8507440.is

pub returns-in-5795 : goal.returns-in-5795
unfolding keyword_rows field_key letter_of upper meaning_by
returns-in-5795 c = rw c.in-5795.is

pub returns-in-17481287 : goal.returns-in-17481287
unfolding keyword_rows field_key letter_of upper meaning_by
returns-in-17481287 c = rw c.in-17481287.is

pub returns-in-2739 : goal.returns-in-2739
unfolding keyword_rows field_key letter_of upper meaning_by
returns-in-2739 c = rw c.in-2739.is

pub returns-in-460035 : goal.returns-in-460035
unfolding keyword_rows field_key letter_of upper meaning_by
returns-in-460035 c = rw c.in-460035.is

pub returns-in-533 : goal.returns-in-533
unfolding keyword_rows field_key letter_of upper meaning_by
returns-in-533 c = rw c.in-533.is

pub returns-in-482788 : goal.returns-in-482788
unfolding keyword_rows field_key letter_of upper meaning_by
returns-in-482788 c = rw c.in-482788.is

pub returns-in-497930351078 : goal.returns-in-497930351078
unfolding keyword_rows field_key letter_of upper meaning_by
returns-in-497930351078 c = rw c.in-497930351078.is

pub returns-in-375084 : goal.returns-in-375084
unfolding keyword_rows field_key letter_of upper meaning_by
returns-in-375084 c = rw c.in-375084.is

pub returns-in-1746014661 : goal.returns-in-1746014661
unfolding keyword_rows field_key letter_of upper meaning_by
returns-in-1746014661 c = rw c.in-1746014661.is

pub returns-in-657098898323501 : goal.returns-in-657098898323501
unfolding keyword_rows field_key letter_of upper meaning_by
returns-in-657098898323501 c = rw c.in-657098898323501.is

pub returns-in-5787728355 : goal.returns-in-5787728355
unfolding keyword_rows field_key letter_of upper meaning_by
returns-in-5787728355 c = rw c.in-5787728355.is

pub returns-in-20659 : goal.returns-in-20659
unfolding keyword_rows field_key letter_of upper meaning_by
returns-in-20659 c = rw c.in-20659.is

pub returns-in-680116 : goal.returns-in-680116
unfolding keyword_rows field_key letter_of upper meaning_by
returns-in-680116 c = rw c.in-680116.is

pub returns-in-673840 : goal.returns-in-673840
unfolding keyword_rows field_key letter_of upper meaning_by
returns-in-673840 c = rw c.in-673840.is

pub returns-in_default : goal.returns-in_default
unfolding keyword_rows field_key letter_of upper
returns-in_default c = row_miss _ _ _ _ (λ (e : c.args.k ≡ 21435529). omega arith) (row_miss _ _ _ _ (λ (e : c.args.k ≡ 18912643). omega arith) (row_miss _ _ _ _ (λ (e : c.args.k ≡ 8507440). omega arith) (row_miss _ _ _ _ (λ (e : c.args.k ≡ 5795). omega arith) (row_miss _ _ _ _ (λ (e : c.args.k ≡ 17481287). omega arith) (row_miss _ _ _ _ (λ (e : c.args.k ≡ 2739). omega arith) (row_miss _ _ _ _ (λ (e : c.args.k ≡ 460035). omega arith) (row_miss _ _ _ _ (λ (e : c.args.k ≡ 533). omega arith) (row_miss _ _ _ _ (λ (e : c.args.k ≡ 482788). omega arith) (row_miss _ _ _ _ (λ (e : c.args.k ≡ 497930351078). omega arith) (row_miss _ _ _ _ (λ (e : c.args.k ≡ 375084). omega arith) (row_miss _ _ _ _ (λ (e : c.args.k ≡ 1746014661). omega arith) (row_miss _ _ _ _ (λ (e : c.args.k ≡ 657098898323501). omega arith) (row_miss _ _ _ _ (λ (e : c.args.k ≡ 5787728355). omega arith) (row_miss _ _ _ _ (λ (e : c.args.k ≡ 20659). omega arith) (row_miss _ _ _ _ (λ (e : c.args.k ≡ 680116). omega arith) (row_miss _ _ _ _ (λ (e : c.args.k ≡ 673840). omega arith) (row_none _ _)))))))))))))))))
