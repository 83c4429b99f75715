-- `text_fields::letter` meets its contract: the arm that was taken decides the tests of the definition.
use mathlib.Core.Path.{◌≡◌}
use Prim.Native.Nat.{◌-◌}
use native.Mathlib.Omega.{arith}
use borrow.Author.Tests.{le-leb, lt-leb}
use Rattle.text_fields.specs.Keywords.{upper}
use Rattle.text_fields.specs.Tables.{letter_of}
use Rattle.text_fields.proofs.letter.Goals as goal

pub returns-in-65-to-90 : goal.returns-in-65-to-90
unfolding letter_of upper
returns-in-65-to-90 c = let x = c.args.c in let e = c.from.ensures in simp (lt-leb 97 x (omega arith), le-leb 65 x (omega arith), le-leb x 90 (omega arith)) (let z : c.from.result ≡ x - 64 = omega arith in z)

pub returns-in-97-to-122 : goal.returns-in-97-to-122
unfolding letter_of upper
returns-in-97-to-122 c = let x = c.args.c in let e = c.from-in-97-to-122.ensures in simp (le-leb 97 x (omega arith), le-leb x 122 (omega arith), le-leb 65 (x - 32) (omega arith), le-leb (x - 32) 90 (omega arith)) (let z : c.from-in-97-to-122.result ≡ x - 32 - 64 = omega arith in z)

pub returns-in_default : goal.returns-in_default
unfolding letter_of upper
returns-in_default c = let x = c.args.c in simp (lt-leb 97 x (omega arith), lt-leb 65 x (omega arith))

pub returns-in_default-2 : goal.returns-in_default-2
unfolding letter_of upper
returns-in_default-2 c = let x = c.args.c in simp (lt-leb 97 x (omega arith), lt-leb x 90 (omega arith), le-leb 65 x (omega arith))

pub returns-in_default-3 : goal.returns-in_default-3
unfolding letter_of upper
returns-in_default-3 c = let x = c.args.c in simp (lt-leb x 122 (omega arith), le-leb 65 x (omega arith), le-leb 97 x (omega arith), lt-leb x 90 (omega arith))
