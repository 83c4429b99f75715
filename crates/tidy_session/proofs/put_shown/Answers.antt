-- `put_shown` meets its contract: the written stream, or the line with the length needed; `write` gives no other answer.
use Rattle.tidy_session.proofs.Shown.{never_other, done_most, done_shown, needed_most, needed_room, needed_shown}
use native.Mathlib.Omega.{arith}
use Rattle.tidy_session.proofs.put_shown.Goals as goal

pub overflow_add-result : goal.overflow_add-result
overflow_add-result c = omega (arith, done_most _ _ _ c.requires.ready c.requires.at_in_bounds c.write.ensures c.in-Ok.is)

pub overflow_cast-n : goal.overflow_cast-n
overflow_cast-n c = omega (arith, needed_most _ _ _ c.requires.ready c.requires.at_in_bounds c.write.ensures c.in-Err.is c.in-R6.is)

pub put_needed-requires : goal.put_needed-requires
put_needed-requires c = needed_room _ _ _ c.requires.ready c.requires.at_in_bounds c.write.ensures c.in-Err.is c.in-R6.is

pub returns-in-Ok : goal.returns-in-Ok
returns-in-Ok c = done_shown _ _ _ c.requires.ready c.requires.at_in_bounds c.write.ensures c.in-Ok.is

pub returns-in-R6 : goal.returns-in-R6
returns-in-R6 c = needed_shown _ _ _ c.requires.ready c.requires.at_in_bounds c.write.ensures c.in-Err.is c.in-R6.is c.put_needed.ensures

pub returns-in-R1 : goal.returns-in-R1
returns-in-R1 c = never_other _ _ _ c.requires.ready c.requires.at_in_bounds c.write.ensures c.in-Err.is c.in-R1.is (λ e. omega arith)

pub returns-in-R2 : goal.returns-in-R2
returns-in-R2 c = never_other _ _ _ c.requires.ready c.requires.at_in_bounds c.write.ensures c.in-Err.is c.in-R2.is (λ e. omega arith)

pub returns-in-R3 : goal.returns-in-R3
returns-in-R3 c = never_other _ _ _ c.requires.ready c.requires.at_in_bounds c.write.ensures c.in-Err.is c.in-R3.is (λ e. omega arith)

pub returns-in-R4a : goal.returns-in-R4a
returns-in-R4a c = never_other _ _ _ c.requires.ready c.requires.at_in_bounds c.write.ensures c.in-Err.is c.in-R4a.is (λ e. omega arith)

pub returns-in-R4b : goal.returns-in-R4b
returns-in-R4b c = never_other _ _ _ c.requires.ready c.requires.at_in_bounds c.write.ensures c.in-Err.is c.in-R4b.is (λ e. omega arith)

pub returns-in-R4c : goal.returns-in-R4c
returns-in-R4c c = never_other _ _ _ c.requires.ready c.requires.at_in_bounds c.write.ensures c.in-Err.is c.in-R4c.is (λ e. omega arith)

pub returns-in-R5 : goal.returns-in-R5
returns-in-R5 c = never_other _ _ _ c.requires.ready c.requires.at_in_bounds c.write.ensures c.in-Err.is c.in-R5.is (λ e. omega arith)

pub returns-in-R7 : goal.returns-in-R7
returns-in-R7 c = never_other _ _ _ c.requires.ready c.requires.at_in_bounds c.write.ensures c.in-Err.is c.in-R7.is (λ e. omega arith)
