-- `lowest_unused` meets its contract: below the least number of a used slot are the unused, and the first of them is found.
use native.Mathlib.Omega.{arith}
use mathlib.Core.Bool.{Bool, true, false}
use mathlib.Core.Path.{◌≡◌, ap, ◌∙◌}
use Prim.Native.Nat.{ℕ, ◌+◌, ◌-◌, ◌<◌}
use Rattle.std.proofs.Common.{rules, tests, option_map}
use Rattle.std.proofs.lemmas.Iterator.{first_from_Range, serves_from_Range}
use Rattle.cells.proofs.Search.{first_same}
use Rattle.store_desk.specs.Size.{slots_of}
use Rattle.store_desk.proofs.Name.{kind_end}
use Rattle.store_head.specs.Fits.{used_word}
use Rattle.store.specs.Slots.{place_of}
use Rattle.store_code.proofs.Ranged.{IsFirstIn, shifted_first}
use Rattle.store_code.proofs.Word.{is_below, unused_words}
use Rattle.store_code.proofs.lowest_unused.Goals as goal

pub find-requires-clause-callable : goal.find-requires-clause-callable
find-requires-clause-callable c =
    serves_from_Range (λ x q k. search (rules, tests))
    (λ x low high.
    let l = kind_end c.args.desk c.args.kind in
    let h : c.slots_of_kind-slots.result.start + x < slots_of c.args.desk = omega (arith, c.slots_of_kind-slots.ensures.end) in
    search rules)

pub returns : goal.returns
returns c =
    let k = c.slots_of_kind-slots.ensures in
    let first = c.slots_of_kind-slots.result.start in
    let n = c.slots_of_kind-slots.result.end - first in
    let below = is_below c.args.desk c.args.store.now used_word in
    let p : ℕ → Bool = λ i. below (first + i) in
    let r : IsFirstIn p 0 n c.find.result =
    first_from_Range _ _ _ _ (λ i. p i ≡ true) (λ i. p i ≡ false) c.find.ensures.ran
    (λ x q k. search (rules, tests))
    (λ x q k. (search rules, search (rules, tests)))
    in
    let m : c.map.result ≡ option_map (λ i. first + i) c.find.result = search rules in
    m
    ∙ shifted_first p first n _ r
    ∙ ap place_of (first_same (λ j. p (j - first)) below n first (λ j h l. ap below (let e : first + (j - first) ≡ j = omega arith in e)))
    ∙ ap place_of (unused_words _ _ c.args.kind c.requires (λ j. (c.type_inv.store j).fits) k.start k.end)
