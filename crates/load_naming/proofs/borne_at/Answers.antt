-- `borne_at` meets its contract.
use mathlib.Core.Path.{◌∙◌, sym, ap}
use Rattle.text_fields.specs.Words.{Word}
use Rattle.value.specs.Number.{borne_of}
use Rattle.load_naming.proofs.Fields.{field_in, field_lent, head_at}
use Rattle.load_naming.proofs.borne_at.Goals as goal

pub word-requires : goal.word-requires
word-requires c = field_lent (field_in c.requires c.field_at-f.ensures)

pub returns : goal.returns
returns c = c.read_borne.ensures ∙ ap borne_of c.word.ensures ∙ sym (ap (λ (w : Word). borne_of w.chars) (head_at c.requires c.field_at-f.ensures))
