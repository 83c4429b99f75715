-- `put_load` meets its contract: the load is answered, and its text is what is told of it and the show that it leaves.
use Rattle.tidy_session.proofs.Told.{never_away, loaded_ready, answer_is}
use Rattle.text_room.proofs.Writes.{wrote_as}
use Rattle.std.proofs.Common.{rules}
use Rattle.tidy_session.proofs.put_load.Goals as goal

pub put_answer-requires : goal.put_answer-requires
put_answer-requires c = record { ready = loaded_ready _ c.requires.stream_len_bound c.load.ensures; reports_len_bound = search rules; in_bounds = search rules }

pub returns-in-Ok : goal.returns-in-Ok
returns-in-Ok c = wrote_as _ _ (answer_is _ c.requires.stream_len_bound c.load.ensures c.in-Ok.is) c.put_answer.ensures

pub returns-in-Err : goal.returns-in-Err
returns-in-Err c = never_away _ c.requires.stream_len_bound c.load.ensures c.in-Err.is
