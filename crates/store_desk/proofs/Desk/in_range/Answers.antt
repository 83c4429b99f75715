-- `in_range` meets its contract: the rows that pass are the list of tests.
use Rattle.std.proofs.Common.{rules, tests}
use mathlib.Core.Path.{◌∙◌}
use mathlib.Core.Bool.{◌&&◌, true}
use mathlib.Core.List.{List, [], ◌∷◌}
use Rattle.std.specs.Prelude.{Some, ℕ}
use Rattle.std.specs.Ordering.{nat_cmp}
use Rattle.std.specs.Range.{range_inclusive_contains}
use Rattle.std.specs.declared.ops.RangeInclusive.{RangeInclusive}
use Rattle.std.proofs.lemmas.Iterator.{YieldsList-from_slice}
use Rattle.std.proofs.lemmas.Iterator.Search.{all_from_yields_List}
use Rattle.store_desk.specs.Size.{in_range_of, all_of}
use Rattle.store_desk.proofs.Size.{contained}
use Rattle.store_desk.proofs.Desk.in_range.Goals as goal

pub returns : goal.returns
unfolding in_range_of all_of
returns c =
    let d = c.args.self in
    let rows : List (RangeInclusive ℕ × ℕ) =
    (c.new.result, d.channels) ∷ (c.new-2.result, d.dimmers) ∷ (c.new-3.result, d.cues) ∷ (c.new-4.result, d.groups) ∷ (c.new-5.result, d.subs) ∷ (c.new-6.result, d.cue_pages) ∷ (c.new-7.result, d.group_pages) ∷ (c.new-8.result, d.sub_pages) ∷ (c.new-9.result, d.patch_pages) ∷ []
    in
    all_from_yields_List (λ (p : RangeInclusive ℕ × ℕ). range_inclusive_contains (λ a b. Some (nat_cmp a b)) p.0 p.1) _ _ _ c.all.ensures.ran (YieldsList-from_slice rows cc) (λ x b q k. search (rules, tests))
    ∙ (λ i.
    contained d.channels c.new.ensures.start c.new.ensures.end c.new.ensures.exhausted i &&
    (contained d.dimmers c.new-2.ensures.start c.new-2.ensures.end c.new-2.ensures.exhausted i &&
    (contained d.cues c.new-3.ensures.start c.new-3.ensures.end c.new-3.ensures.exhausted i &&
    (contained d.groups c.new-4.ensures.start c.new-4.ensures.end c.new-4.ensures.exhausted i &&
    (contained d.subs c.new-5.ensures.start c.new-5.ensures.end c.new-5.ensures.exhausted i &&
    (contained d.cue_pages c.new-6.ensures.start c.new-6.ensures.end c.new-6.ensures.exhausted i &&
    (contained d.group_pages c.new-7.ensures.start c.new-7.ensures.end c.new-7.ensures.exhausted i &&
    (contained d.sub_pages c.new-8.ensures.start c.new-8.ensures.end c.new-8.ensures.exhausted i &&
    (contained d.patch_pages c.new-9.ensures.start c.new-9.ensures.end c.new-9.ensures.exhausted i && true)))))))))
