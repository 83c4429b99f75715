-- A refusal's number is 1 to 4C in hexadecimal; its number, its place and what it tells beside them tell it from every other. So no second
-- answer of `needed` fits its promise, and its refusal tells nothing but the number. By the cases of a refusal.
-- Assumes nothing.
use Rattle.std.specs.Prelude.{Err, Ok, Result}
use mathlib.Core.Path.{◌≡◌, refl, sym, ap, ◌∙◌}
use mathlib.Core.Bool.{cond}
use mathlib.Core.List.{List, [], ◌∷◌}
use Prim.Native.Nat.{ℕ, ◌≤◌}
use native.Mathlib.Omega.{arith}
use lib.Dec.{eqb}
use lib.ListN.{get_or}
use Rattle.store_desk.specs.declared.Desk.{Desk}
use Rattle.store_desk.specs.declared.Refusal.{Refusal}
use Rattle.store_desk.specs.declared.Refusal.TheVariants.{R1, R2, R3, R4a, R4b, R4c, R5, R6, R7}
use Rattle.store_desk.specs.Refusal.{refusal_number, Reply, replied, refused, needed_reply, needed_call, NeededPromise}
use Rattle.store_desk.specs.Size.{in_range_of}
use Rattle.cells.proofs.Split.{by_test}

pub refusal_some : (r : Refusal) → 1 ≤ refusal_number r
refusal_some R1 = omega arith
refusal_some R2 = omega arith
refusal_some R3 = omega arith
refusal_some (R4a p) = omega arith
refusal_some (R4b p) = omega arith
refusal_some (R4c p) = omega arith
refusal_some R5 = omega arith
refusal_some (R6 n) = omega arith
refusal_some R7 = omega arith

-- the highest is R4c's
pub refusal_most : (r : Refusal) → refusal_number r ≤ 0x4C
refusal_most R1 = omega arith
refusal_most R2 = omega arith
refusal_most R3 = omega arith
refusal_most (R4a p) = omega arith
refusal_most (R4b p) = omega arith
refusal_most (R4c p) = omega arith
refusal_most R5 = omega arith
refusal_most (R6 n) = omega arith
refusal_most R7 = omega arith

-- the refusal of a number, a place and what is told beside them
named : Reply → Refusal
named a =
    cond (eqb a.number 0x4A) (R4a a.place)
    (cond (eqb a.number 0x4B) (R4b a.place)
    (cond (eqb a.number 0x4C) (R4c a.place)
    (get_or (R1 ∷ R1 ∷ R2 ∷ R3 ∷ R1 ∷ R5 ∷ R6 (get_or a.told 0 0) ∷ R7 ∷ []) a.number R1)))

named_again : (r : Refusal) → named (refused r) ≡ r
unfolding named
named_again R1 = refl
named_again R2 = refl
named_again R3 = refl
named_again (R4a p) = refl
named_again (R4b p) = refl
named_again (R4c p) = refl
named_again R5 = refl
named_again (R6 n) = refl
named_again R7 = refl

pub refused_apart : {r q : Refusal} → refused r ≡ refused q → r ≡ q
refused_apart {r} {q} e = sym (named_again r) ∙ ap named e ∙ named_again q

pub refused_no_reply : {X : Type 0} (r : Refusal) {l : List ℕ} → refused r ≡ replied l → X
refused_no_reply r e =
    let f : refusal_number r ≡ 0 = ap (λ (x : Reply). x.number) e in
    let l = refusal_some r in
    absurd (let z : ⊥ = omega arith in z)

-- ---- needed

needed_apart : (a b : Result ℕ Refusal) → needed_reply a ≡ needed_reply b → a ≡ b
needed_apart (Err r) (Err q) e = ap (λ (x : Refusal). Err x) (refused_apart e)
needed_apart (Err r) (Ok n) e = refused_no_reply r e
needed_apart (Ok n) (Err q) e = refused_no_reply q (sym e)
needed_apart (Ok n) (Ok m) e = ap (λ (x : Reply). Ok (get_or x.told 0 0)) e

pub one_needed : (d : Desk) {a b : Result ℕ Refusal} → NeededPromise d a → NeededPromise d b → a ≡ b
one_needed d e f = needed_apart _ _ (e ∙ sym f)

-- R2 tells nothing beside its number
pub needed_mute : (d : Desk) → ((needed_call d).number ≡ 0 → ⊥) → (needed_call d).told ≡ []
unfolding needed_call
needed_mute d =
    by_test (λ (x : Reply). (x.number ≡ 0 → ⊥) → x.told ≡ []) (in_range_of d) _ _ (λ e h. absurd (h refl)) (λ e h. refl)
