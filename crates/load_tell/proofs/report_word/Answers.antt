-- `report_word` meets its contract: 18 bits, 14 and 7 fit 64 with 25 below them, so that no shift loses a bit and each `|` is a sum.
use mathlib.Core.Path.{◌≡◌}
use Prim.Native.Nat.{ℕ, ◌+◌, ◌*◌, ◌%◌, ◌^◌, ◌≤◌, ◌<◌}
use native.Mathlib.Omega.{arith}
use lib.Bits.{bit_or}
use Rattle.std.proofs.lemmas.Nat.{shl_whole, or_shifted}
use Rattle.text_records.specs.Received.{longest}
use Rattle.load.specs.Fits.{most_records}
use Rattle.load.specs.Run.{condition_span, column_span, zero_span, report_word}
use Rattle.load_tell.proofs.report_word.Goals as goal

packed : (n c k : ℕ) → n ≤ most_records → c < condition_span → k ≤ longest
    → bit_or (bit_or (n * 2 ^ 14 % 2 ^ 64) c * 2 ^ 7 % 2 ^ 64) k * 2 ^ 25 % 2 ^ 64 ≡ ((n * condition_span + c) * column_span + k) * zero_span
packed n c k h g l =
    rw (shl_whole n 18 14 64 (omega arith) (omega arith), or_shifted n 14 c g)
    (rw (shl_whole (n * 2 ^ 14 + c) 32 7 64 (omega arith) (omega arith), or_shifted (n * 2 ^ 14 + c) 7 k (omega arith))
    (rw (shl_whole ((n * 2 ^ 14 + c) * 2 ^ 7 + k) 39 25 64 (omega arith) (omega arith))))

pub returns : goal.returns
unfolding report_word
returns c =
    let h = c.requires in
    rw (c.from-number.ensures, c.from-condition.ensures) (packed c.args.number c.args.condition c.args.column h.0 h.1 h.2)
