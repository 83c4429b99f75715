-- `has_asked` meets its contract: the number of a slot's key tells whether it is used.
use Rattle.store_code.proofs.Word.{unused_test}
use Rattle.load_translate.proofs.Links.{is_asked, used_test}
use Rattle.store_head.specs.Fits.{used_word}
use mathlib.Core.Path.{◌∙◌}
use Rattle.load_translate.proofs.has_asked.Goals as goal

pub returns-then-asked-ne0 : goal.returns-then-asked-ne0
returns-then-asked-ne0 c =
    used_test c.word_at.result used_word (unused_test _ _ _ c.requires.fitting c.requires.slot_bound (λ j. let f = c.type_inv.store j in f.fits) c.word_at.ensures)
    ∙ is_asked _ _ c.if-asked-ne0.true
