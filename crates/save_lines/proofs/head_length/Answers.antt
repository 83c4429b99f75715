-- `head_length` meets its contract: the lengths of the four lines.
use native.Mathlib.Omega.{arith}
use Rattle.cells.specs.Text.{bytes}
use Rattle.save_lines.proofs.Lengths.{time_line_long, link_long, head_length_is}
use Rattle.save_lines.proofs.head_length.Goals as goal

pub overflow_add-result : goal.overflow_add-result
overflow_add-result c = omega (arith, c.time_line_length-up.ensures, c.time_line_length-down.ensures, time_line_long (bytes "UP ") c.args.h.up c.args.h.up_fade c.args.h.up_delay (omega arith) (omega arith) (omega arith), time_line_long (bytes "DOWN ") c.args.h.down c.args.h.down_fade c.args.h.down_delay (omega arith) (omega arith) (omega arith))

pub overflow_add-result-2 : goal.overflow_add-result-2
overflow_add-result-2 c = omega (arith, c.time_line_length-up.ensures, c.time_line_length-down.ensures, time_line_long (bytes "UP ") c.args.h.up c.args.h.up_fade c.args.h.up_delay (omega arith) (omega arith) (omega arith), time_line_long (bytes "DOWN ") c.args.h.down c.args.h.down_fade c.args.h.down_delay (omega arith) (omega arith) (omega arith), c.time_line_length-followon.ensures, time_line_long (bytes "FOLLOWON ") c.args.h.followon c.args.h.followon_time 0 (omega arith) (omega arith) (omega arith))

pub overflow_add-result-3 : goal.overflow_add-result-3
overflow_add-result-3 c = omega (arith, c.time_line_length-up.ensures, c.time_line_length-down.ensures, time_line_long (bytes "UP ") c.args.h.up c.args.h.up_fade c.args.h.up_delay (omega arith) (omega arith) (omega arith), time_line_long (bytes "DOWN ") c.args.h.down c.args.h.down_fade c.args.h.down_delay (omega arith) (omega arith) (omega arith), c.time_line_length-followon.ensures, time_line_long (bytes "FOLLOWON ") c.args.h.followon c.args.h.followon_time 0 (omega arith) (omega arith) (omega arith), c.link_length.ensures, link_long c.args.h (omega arith))

pub returns : goal.returns
returns c = head_length_is _ c.time_line_length-up.ensures c.time_line_length-down.ensures c.time_line_length-followon.ensures c.link_length.ensures
