-- `receive` meets its contract: 80 bytes from `at` on are all that the record by value has of the stream.
use Rattle.text_records.proofs.Received.{whole_all, window_rest}
use Rattle.text_records.proofs.receive.Goals as goal

pub returns-in-Some : goal.returns-in-Some
returns-in-Some c = window_rest c.args.stream.now c.args.at _ (whole_all _ _ c.in-Some.ensures.cases.enough c.in-Some.ensures.cases.same)
