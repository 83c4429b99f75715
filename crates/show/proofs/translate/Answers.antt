-- `translate` meets its contract: a refusal is the record built from the lists at entry, and an answered call is what the run promises.
use Rattle.std.proofs.lemmas.Result.{err_from_is_err_and}
use Rattle.std.specs.Prelude.{Err}
use Rattle.show.proofs.Laws.{translate_taken, translate_long, translate_by, translate_done}
use Rattle.show.specs.Calls.{load_by}
use mathlib.Core.Path.{sym, ◌∙◌}
use Rattle.show.proofs.translate.Goals as goal

pub returns-then-stream-gt-MOST_BYTES : goal.returns-then-stream-gt-MOST_BYTES
returns-then-stream-gt-MOST_BYTES c = translate_long _ _ _ _ c.if-stream-gt-MOST_BYTES.true

pub run-requires : goal.run-requires
run-requires c = record { fitting = translate_taken _ _ (sym c.in_ok-untranslated.was ∙ c.untranslated.ensures); stream_len_bound = c.if-stream-gt-MOST_BYTES.false }

pub returns-in_err-untranslated : goal.returns-in_err-untranslated
unfolding load_by
returns-in_err-untranslated c =
    let p = err_from_is_err_and c.from_residual.result c.from_residual.ensures.1 in rw (p.1, p.2)
    (translate_by _ _ _ _ (Err _) (sym c.in_err-untranslated.was ∙ c.untranslated.ensures) c.if-stream-gt-MOST_BYTES.false)

pub returns : goal.returns
returns c = translate_done _ _ _ _ (sym c.in_ok-untranslated.was ∙ c.untranslated.ensures) c.if-stream-gt-MOST_BYTES.false c.run.ensures
