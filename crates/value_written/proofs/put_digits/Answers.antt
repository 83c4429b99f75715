-- `put_digits` meets its contract. The invariant: to put what digits are left is to put all of them into the output as it came.
use Rattle.std.proofs.Common.{◌≡◌, ℕ, ◌+◌, ◌-◌, sym, ap, ◌∙◌, arith}
use Rattle.cells.specs.Put.{put}
use Rattle.text_room.proofs.Writes.{wrote_count}
use Rattle.value_written.specs.Text.{digits_text}
use Rattle.value_written.proofs.Texts.{text_length, digits_turn, digits_done}
use Rattle.value_written.proofs.put_digits.Goals as goal

pub loop-i-init : goal.loop-i-init
loop-i-init c =
    (omega arith, ap (λ (k : ℕ). put c.args.out.now c.args.at (digits_text c.args.radix k c.args.n)) (let e : c.args.count ≡ c.args.at + c.args.count - c.args.at = omega arith in e))

pub loop-i-preserved : goal.loop-i-preserved
loop-i-preserved c =
    (omega arith, c.loop-i.invariant.1 ∙ digits_turn _ _ _ _ _ _ c.loop-i-test.true (omega arith) c.digit_char.ensures)

pub returns : goal.returns
returns c = wrote_count _ _ _ _ (text_length _ _ _) (sym (c.loop-i.invariant.1 ∙ digits_done _ _ _ _ _ c.loop-i-test.false))
