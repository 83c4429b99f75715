-- `first` meets its contract: the fields side by side are the packed row.
use mathlib.Core.Path.{◌≡◌, ◌∙◌}
use Prim.Native.Nat.{◌*◌, ◌%◌, ◌^◌}
use native.Mathlib.Omega.{arith}
use Rattle.store_head.specs.Words.{first_word}
use Rattle.store_head.specs.Pack.{packed, total}
use Rattle.store_head.proofs.Laws.{or_sum, or_field}
use Rattle.store_head.proofs.first.Goals as goal

pub returns : goal.returns
unfolding first_word packed total
returns c =
    let f = c.requires in
    let e₁ : c.from.result * 2 ^ 63 % 2 ^ 64 ≡ c.args.h.used * 2 ^ 63 = omega (arith, c.from.ensures, f.used) in
    let e₂ = or_field 63 57 e₁ c.from-2.ensures (omega arith) (omega (arith, f.page)) (omega arith) in
    let e₃ = or_field 57 47 e₂ c.from-3.ensures (omega arith) (omega (arith, f.whole)) (omega arith) in
    let e₄ = or_field 47 43 e₃ c.from-4.ensures (omega arith) (omega (arith, f.fraction)) (omega arith) in
    let e₅ = or_field 43 42 e₄ c.from-5.ensures (omega arith) (omega (arith, f.link)) (omega arith) in
    let e₆ = or_field 42 32 e₅ c.from-6.ensures (omega arith) (omega (arith, f.link_whole_of)) (omega arith) in
    let e₇ = or_field 32 28 e₆ c.from-7.ensures (omega arith) (omega (arith, f.link_fraction_of)) (omega arith) in
    let e₈ = or_field 28 27 e₇ c.from-8.ensures (omega arith) (omega (arith, f.up)) (omega arith) in
    let e₉ = or_field 27 1 e₈ c.from-9.ensures (omega arith) (omega (arith, f.up_fade_of)) (omega arith) in
    or_sum 1 e₉ c.from-10.ensures (omega arith) (omega (arith, f.up_delay_of)) ∙ omega arith
