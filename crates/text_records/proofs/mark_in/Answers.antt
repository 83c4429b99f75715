-- `mark_in` meets its contract: the first place that passes is where the scan of the others ends.
use Rattle.std.proofs.Common.{◌≡◌, eqb, ap, ◌∙◌, length, rules, tests}
use Rattle.std.specs.List.{position}
use Rattle.std.specs.Option.{unwrap_or}
use Rattle.std.proofs.lemmas.Iterator.{YieldsList-from_slice}
use Rattle.std.proofs.lemmas.Iterator.Search.{position_from_yields_List}
use Rattle.text_records.proofs.Cleaning.{mark_found}
use Rattle.text_records.proofs.mark_in.Goals as goal

pub returns : goal.returns
returns c =
    let s = c.args.s.now in
    let e : c.position.result ≡ position (λ x. eqb x 33) s =
    position_from_yields_List (λ x. eqb x 33) _ _ _ c.position.ensures.ran (YieldsList-from_slice s cc) (λ x b q k. search (rules, tests)) in
    c.unwrap_or.ensures ∙ ap (λ r. unwrap_or r (length s)) e ∙ mark_found s
