-- `count_word` meets its contract: ones are added, of which there are few enough.
use native.Mathlib.Omega.{arith}
use mathlib.Core.Bool.{cond}
use mathlib.Core.Path.{refl}
use Prim.Native.Nat.{ℕ}
use lib.Dec.{eqb}
use Rattle.std.proofs.Common.{rules}
use Rattle.std.proofs.lemmas.Iterator.{YieldsList-from_slice, YieldsList-from_map}
use Rattle.std.proofs.lemmas.Iterator.Consumers.{fits_by_from_yields_list}
use Rattle.std.proofs.lemmas.List.Sums.{count_by-le-length}
use Rattle.store_form.proofs.count_word.Goals as goal

pub sum-requires-clause-fits : goal.sum-requires-clause-fits
sum-requires-clause-fits c =
    let one : ℕ → ℕ = λ x. cond (eqb x c.args.word) 1 0 in
    let l = count_by-le-length (λ x. eqb x c.args.word) c.args.words.now in
    fits_by_from_yields_list one c.args.words.now _ _ (YieldsList-from_map _ one (YieldsList-from_slice c.args.words.now cc) refl (λ x r q k. search rules)) (omega arith)
