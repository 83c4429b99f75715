-- `find` meets its contract: the words of the kind's slots, which lie by themselves, tell which keeps the memory.
use native.Mathlib.Omega.{arith}
use mathlib.Core.Bool.{Bool, true, false}
use mathlib.Core.Path.{◌≡◌, ap, ◌∙◌}
use Prim.Native.Nat.{ℕ, ◌+◌, ◌-◌, ◌*◌, ◌≤◌, ◌<◌}
use lib.Dec.{eqb}
use lib.ListN.{length, take, drop}
use Rattle.std.proofs.Common.{rules, tests, option_map}
use Rattle.std.proofs.lemmas.Iterator.{first_from_Range, serves_from_Range}
use Rattle.cells.proofs.Arith.{apart}
use Rattle.store_desk.specs.Size.{slot_length, slots_of}
use Rattle.store_desk.proofs.Name.{kind_end}
use Rattle.store_desk.proofs.Size.{patch_le}
use Rattle.store.specs.Order.{slot_word}
use Rattle.store.specs.Slots.{place_of}
use Rattle.store_code.proofs.Laws.{kind_bytes, kind_room, kind_order}
use Rattle.store_code.proofs.Ranged.{IsFirstIn, shifted_first}
use Rattle.store_code.proofs.Word.{find_words, part_length}
use Rattle.store_code.proofs.find.Goals as goal

pub overflow_mul-part : goal.overflow_mul-part
overflow_mul-part c =
    let k = c.slots_of_kind-slots.ensures in
    let b = kind_bytes c.args.desk c.args.kind k.start k.end c.slot_length-length.ensures in
    let o = kind_order c.args.desk c.args.kind k.start k.end c.slot_length-length.ensures in
    let p = patch_le c.args.desk c.requires.fitting.range in
    omega arith

pub overflow_mul-part-2 : goal.overflow_mul-part-2
overflow_mul-part-2 c =
    let k = c.slots_of_kind-slots.ensures in
    let b = kind_bytes c.args.desk c.args.kind k.start k.end c.slot_length-length.ensures in
    let p = patch_le c.args.desk c.requires.fitting.range in
    omega arith

pub slice_bounds-part-end : goal.slice_bounds-part-end
slice_bounds-part-end c =
    kind_room _ c.args.kind c.slots_of_kind-slots.ensures.start c.slots_of_kind-slots.ensures.end c.slot_length-length.ensures c.requires.fitting

pub find-requires-clause-callable : goal.find-requires-clause-callable
find-requires-clause-callable c =
    serves_from_Range (λ x q k. search (rules, tests))
    (λ x low high.
    let k = c.slots_of_kind-slots.ensures in
    let l = c.slot_length-length.ensures in
    let e = kind_end c.args.desk c.args.kind in
    let first = c.slots_of_kind-slots.result.start in
    let end = c.slots_of_kind-slots.result.end in
    let ef = ap (λ (z : ℕ). first * z) l in
    let et = ap (λ (z : ℕ). end * z) l in
    let part = take (end * c.slot_length-length.result - first * c.slot_length-length.result) (drop (first * c.slot_length-length.result) c.args.store.now) in
    let h : x < slots_of c.args.desk = omega (arith, k.end) in
    let m = part_length c.args.desk c.args.store.now ef et (omega arith) (kind_room _ c.args.kind k.start k.end l c.requires.fitting) in
    let b : x * slot_length c.args.desk + slot_length c.args.desk ≤ length part =
    let p : x * slot_length c.args.desk + slot_length c.args.desk ≤ (end - first) * slot_length c.args.desk = apart (slot_length c.args.desk) high in omega arith
    in
    let r = c.requires.fitting.range in
    search rules)

pub returns : goal.returns
returns c =
    let k = c.slots_of_kind-slots.ensures in
    let l = c.slot_length-length.ensures in
    let first = c.slots_of_kind-slots.result.start in
    let end = c.slots_of_kind-slots.result.end in
    let ef = ap (λ (z : ℕ). first * z) l in
    let et = ap (λ (z : ℕ). end * z) l in
    let part = take (end * c.slot_length-length.result - first * c.slot_length-length.result) (drop (first * c.slot_length-length.result) c.args.store.now) in
    let p : ℕ → Bool = λ i. eqb (slot_word c.args.desk part i) c.quick_key-wanted.result in
    let r : IsFirstIn p 0 (end - first) c.find.result =
    first_from_Range _ _ _ _ (λ i. p i ≡ true) (λ i. p i ≡ false) c.find.ensures.ran
    (λ x q k. search (rules, tests))
    (λ x q k. (search rules, search (rules, tests)))
    in
    let m : c.map.result ≡ option_map (λ i. first + i) c.find.result = search rules in
    m
    ∙ shifted_first p first (end - first) _ r
    ∙ ap place_of (find_words _ _ c.args.kind c.requires.fitting (λ j. (c.type_inv.store j).fits) k.start k.end _ c.requires.key_fits _ c.quick_key-wanted.ensures ef et)
