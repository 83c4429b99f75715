-- `run` meets its contract: the walk, the links, the end.
use Rattle.store_code.proofs.Laws.{fitting_kept}
use Rattle.load_translate.proofs.Whole.{walked_new, new_within, walk_losing, walk_records, close_room, translated_loaded}
use Rattle.load_translate.proofs.run.Goals as goal

pub walk-done-requires : goal.walk-done-requires
walk-done-requires c =
    record {
      fitting = c.requires.fitting;
      stream_len_bound = c.requires.stream_len_bound;
      from_none = new_within c.new-book.ensures;
    }

pub link-count-requires : goal.link-count-requires
link-count-requires c =
    let w = walked_new _ _ _ _ c.new-book.ensures c.walk-done.ensures in
    let h = c.walk-done.auto in record { fitting = fitting_kept _ _ _ h.store c.requires.fitting; stream_len_bound = c.requires.stream_len_bound; losing = walk_losing _ _ _ _ c.requires.stream_len_bound c.walk-done.result w; records_in_bounds = walk_records _ _ _ _ c.requires.stream_len_bound c.walk-done.result w }

pub close-requires : goal.close-requires
close-requires c =
    close_room _ _ _ _ c.requires.stream_len_bound c.walk-done.result (walked_new _ _ _ _ c.new-book.ensures c.walk-done.ensures) c.link-count.ensures c.requires.fitting.range.cues.1

pub returns : goal.returns
returns c = translated_loaded _ _ _ _ c.requires.stream_len_bound c.walk-done.result (walked_new _ _ _ _ c.new-book.ensures c.walk-done.ensures) c.link-count.ensures c.close.ensures
