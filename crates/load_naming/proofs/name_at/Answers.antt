-- `name_at` meets its contract: the number, then the page.
use mathlib.Core.Path.{refl}
use Rattle.std.proofs.lemmas.Result.{err_from_is_err_and}
use Rattle.load_naming.proofs.Fields.{field_in, line_next}
use Rattle.load_naming.proofs.Names.{named_is, named_wrong, named_bad, named_good}
use Rattle.load_naming.proofs.name_at.Goals as goal

pub number_in-requires : goal.number_in-requires
number_in-requires c = field_in c.requires c.field_at-f.ensures

pub page_at-requires : goal.page_at-requires
page_at-requires c = line_next c.requires c.field_at-f.ensures

pub blamed_at-requires : goal.blamed_at-requires
blamed_at-requires c = (line_next c.requires c.field_at-f.ensures).within

pub returns-in_err-number : goal.returns-in_err-number
returns-in_err-number c =
    let p = err_from_is_err_and c.from_residual.result c.from_residual.ensures.1 in rw (p.1, p.2)
    (named_is _ _ c.requires c.field_at-f.ensures c.number_in.ensures refl refl (named_wrong _ _ c.in_err-number.was))

pub returns-in_default : goal.returns-in_default
returns-in_default c =
    named_is _ _ c.requires c.field_at-f.ensures c.number_in.ensures c.pages.ensures c.page_at.ensures
    (named_bad _ c.in_ok-number.was c.in_default.is c.blamed_at.ensures)

pub returns : goal.returns
returns c =
    named_is _ _ c.requires c.field_at-f.ensures c.number_in.ensures c.pages.ensures c.page_at.ensures
    (named_good _ c.in_ok-number.was c.in-Some.is)
