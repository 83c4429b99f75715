-- `load` meets its contract: a refusal is the record built from the lists at entry, and an answered call is what the run promises.
use Rattle.std.proofs.lemmas.Result.{err_from_is_err_and}
use Rattle.std.specs.Prelude.{Err}
use Rattle.show.proofs.Laws.{taken, load_long, load_by_lem, load_done_lem}
use Rattle.show.specs.Calls.{load_by}
use mathlib.Core.Path.{sym, ◌∙◌}
use Rattle.show.proofs.load.Goals as goal

pub returns-then-stream-gt-MOST_BYTES : goal.returns-then-stream-gt-MOST_BYTES
returns-then-stream-gt-MOST_BYTES c = load_long _ _ _ _ c.if-stream-gt-MOST_BYTES.true

pub run-requires : goal.run-requires
run-requires c = record { fitting = (taken _ _ (sym c.in_ok-turned_away.was ∙ c.turned_away.ensures)).0; stream_len_bound = c.if-stream-gt-MOST_BYTES.false }

pub returns-in_err-turned_away : goal.returns-in_err-turned_away
unfolding load_by
returns-in_err-turned_away c =
    let p = err_from_is_err_and c.from_residual.result c.from_residual.ensures.1 in rw (p.1, p.2)
    (load_by_lem _ _ _ _ (Err _) (sym c.in_err-turned_away.was ∙ c.turned_away.ensures) c.if-stream-gt-MOST_BYTES.false)

pub returns : goal.returns
returns c = load_done_lem _ _ _ _ (sym c.in_ok-turned_away.was ∙ c.turned_away.ensures) c.if-stream-gt-MOST_BYTES.false c.run.ensures
