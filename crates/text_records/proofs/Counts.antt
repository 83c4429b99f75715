-- How many: the characters of the records are no more than the bytes of the stream, and of a record the kept characters and the sorts of
-- ignored ones are no more than its characters. By induction on the characters and the records.
-- Assumes nothing.
use mathlib.Core.Path.{◌≡◌, refl, subst}
use mathlib.Core.Bool.{Bool, true, false, cond, ◌||◌}
use mathlib.Core.List.{List, [], ◌∷◌, ◌++◌, map, flatten}
use Prim.Native.Nat.{ℕ, suc, ◌+◌, ◌≤◌, zero-le}
use native.Mathlib.Omega.{arith}
use lib.ListN.{length, length-append, length-take}
use Rattle.cells.specs.Scan.{span}
use Rattle.cells.proofs.Split.{clash}
use Rattle.text_records.specs.Stream.{is_text, pieces_of, bare, records_of}
use Rattle.text_records.specs.Cleaning.{is_high, is_control, is_mark, has, kept_of}
use Rattle.text_records.proofs.Stream.{pieces_join}
use Rattle.text_records.proofs.Cleaning.{high_control, mark_plain, mark_text}

-- how many sorts
abbrev pub tell : Bool → ℕ
tell b = cond b 1 0

seen_by : (a b m : Bool) (p q : Bool) (n : ℕ) (c : ℕ) (ks : List ℕ) → (a ≡ true → b ≡ false) → (m ≡ true → a ≡ false) → (m ≡ true → b ≡ false)
    → tell p + tell q + length ks ≤ n → tell (a || p) + tell (b || q) + length (cond m [] (cond (a || b) ks (c ∷ ks))) ≤ suc n
seen_by true true m p q n c ks e f g h = clash refl (e refl)
seen_by true false true p q n c ks e f g h = clash refl (f refl)
seen_by false true true p q n c ks e f g h = clash refl (g refl)
seen_by true false false p q n c ks e f g h = omega arith
seen_by false true false p q n c ks e f g h = omega arith
seen_by false false true p q n c ks e f g h = omega arith
seen_by false false false p q n c ks e f g h = omega arith

pub seen_few : (r : List ℕ) → tell (has is_high r) + tell (has is_control r) + length (kept_of r) ≤ length r
unfolding has kept_of
seen_few [] = zero-le
seen_few (c ∷ r) =
    seen_by (is_high c) (is_control c) (is_mark c) (has is_high r) (has is_control r) (length r) c (kept_of r)
    (high_control c) (mark_plain c) (mark_text c) (seen_few r)

-- the records without their terminators
bare_few : (p : List ℕ) → length (bare p) ≤ length p
unfolding bare
bare_few p = omega (arith, length-take (span is_text p) p)

bares_few : (ps : List (List ℕ)) → length (flatten (map bare ps)) ≤ length (flatten ps)
unfolding flatten
bares_few [] = zero-le
bares_few (p ∷ ps) =
    let a : length (bare p ++ flatten (map bare ps)) ≡ length (bare p) + length (flatten (map bare ps)) = length-append (bare p) (flatten (map bare ps)) in
    let b : length (p ++ flatten ps) ≡ length p + length (flatten ps) = length-append p (flatten ps) in
    let c : length (bare p) ≤ length p = bare_few p in
    let e : length (flatten (map bare ps)) ≤ length (flatten ps) = bares_few ps in
    omega arith

pub characters_few : (s : List ℕ) → length (flatten (records_of s)) ≤ length s
unfolding records_of
characters_few s = subst (λ (z : List ℕ). length (flatten (map bare (pieces_of s))) ≤ length z) (pieces_join s) (bares_few (pieces_of s))
