-- `is_plain` meets its contract: the fold finds whether a character is not plain.
use Rattle.std.proofs.Common.{◌≡◌, ◌||◌, false, ◌∙◌, arith}
use Rattle.std.proofs.lemmas.Grind.{common_steps}
use Rattle.std.specs.List.{fold}
use Rattle.text_records.specs.Window.{is_special}
use Rattle.text_records.proofs.Cleaning.{has_folded}
use Rattle.text_records.proofs.Plain.{plain_all}
use Rattle.text_records.proofs.is_plain.Goals as goal

pub returns : goal.returns
returns c =
    let e : c.fold.result ≡ fold (λ other x. other || is_special x) false c.args.s.now = grind (arith, common_steps) in
    plain_all _ (e ∙ has_folded is_special false _)
