-- The first place that passes: one step, what the answer says, when two searches agree; and the same of all places and of their
-- number. By induction on the number of places.
-- Assumes nothing.
use mathlib.Core.Path.{◌≡◌, refl, sym, ap, ◌∙◌}
use mathlib.Core.Bool.{Bool, true, false}
use Prim.Native.Nat.{ℕ, zero, suc, ◌+◌, ◌-◌, ◌<◌, ◌≤◌}
use native.Mathlib.Nat.{add-zero, zero-add, suc-add}
use native.Mathlib.Numerals.{add-one}
use native.Mathlib.Omega.{arith}
use Rattle.cells.specs.Search.{Found, at, nowhere, first_from, all_from, count_from, IsFirst}
use Rattle.cells.proofs.Split.{by_bool, by_eq, cond-true, cond-false, clash}

-- ---- one step, at a count that is not 0, with the test b as the code has it
pub first_hit : (p : ℕ → Bool) (n i : ℕ) {b : Bool} → 0 < n → b ≡ p i → b ≡ true → first_from p n i ≡ at i
unfolding first_from
first_hit p zero i h e t = absurd (omega arith)
first_hit p (suc n) i h e t = cond-true (p i) (at i) (first_from p n (suc i)) (sym e ∙ t)

first_miss_suc : (p : ℕ → Bool) (n i : ℕ) → p i ≡ false → first_from p (suc n) i ≡ first_from p n (suc i)
unfolding first_from
first_miss_suc p n i t = cond-false (p i) (at i) (first_from p n (suc i)) t

pub first_miss : (p : ℕ → Bool) (n i : ℕ) {b : Bool} → 0 < n → b ≡ p i → b ≡ false → first_from p n i ≡ first_from p (n - 1) (i + 1)
first_miss p zero i h e t = absurd (omega arith)
first_miss p (suc n) i h e t =
    let m : n ≡ suc n - 1 = omega arith in
    first_miss_suc p n i (sym e ∙ t) ∙ ap (λ (k : ℕ). first_from p k (suc i)) m ∙ ap (λ (k : ℕ). first_from p (suc n - 1) k) (sym (add-one i))

pub first_none : (p : ℕ → Bool) (i : ℕ) → first_from p 0 i ≡ nowhere
unfolding first_from
first_none p i = refl

-- ---- the same for a loop from i up to n, with the invariant `first_from p (n - i) i ≡ a`
pub search_hit : (p : ℕ → Bool) (n i : ℕ) {b : Bool} {a : Found} → i < n → b ≡ p i → b ≡ true → first_from p (n - i) i ≡ a → at i ≡ a
search_hit p n i h e t g = let l : 0 < n - i = omega arith in sym (first_hit p (n - i) i l e t) ∙ g

pub search_miss : (p : ℕ → Bool) (n i : ℕ) {b : Bool} {a : Found}
    → i < n → b ≡ p i → b ≡ false → first_from p (n - i) i ≡ a → first_from p (n - (i + 1)) (i + 1) ≡ a
search_miss p n i h e t g =
    let l : 0 < n - i = omega arith in
    let m : n - (i + 1) ≡ n - i - 1 = omega arith in
    ap (λ (k : ℕ). first_from p k (i + 1)) m ∙ sym (first_miss p (n - i) i l e t) ∙ g

pub search_end : (p : ℕ → Bool) (n i : ℕ) {a : Found} → n ≤ i → first_from p (n - i) i ≡ a → nowhere ≡ a
search_end p n i h g =
    let m : n - i ≡ 0 = omega arith in
    sym (first_none p i) ∙ ap (λ (k : ℕ). first_from p k i) (sym m) ∙ g

-- ---- what the answer says
first_more : (p : ℕ → Bool) (n i j : ℕ) → p i ≡ false → IsFirst p n (suc i) j → IsFirst p (suc n) i j
first_more p n i j f r = record {
  from = omega arith;
  below = omega arith;
  passes = r.passes;
  before = λ k h l. by_eq k i (λ e. ap p e ∙ f) (λ ne. r.before k (omega arith) l);
}

pub at_inj : {i j : ℕ} → at i ≡ at j → i ≡ j
at_inj e = cc

pub at-nowhere : {i : ℕ} → at i ≡ nowhere → ⊥
at-nowhere e = let z : ◌≡◌ {A = ℕ} 0 1 = cc in omega arith

pub first-at : (p : ℕ → Bool) (n i j : ℕ) → first_from p n i ≡ at j → IsFirst p n i j
first-at p zero i j e = absurd (at-nowhere (sym e ∙ first_none p i))
first-at p (suc n) i j e =
    by_bool (p i)
    (λ t.
    let q : i ≡ j = at_inj (sym (first_hit p (suc n) i (omega arith) refl t) ∙ e) in
    record { from = omega arith; below = omega arith; passes = ap p (sym q) ∙ t; before = λ k h l. absurd (omega arith) })
    (λ f. first_more p n i j f (first-at p n (suc i) j (sym (first_miss_suc p n i f) ∙ e)))

pub first_nowhere : (p : ℕ → Bool) (n i : ℕ) → first_from p n i ≡ nowhere → (k : ℕ) → i ≤ k → k < i + n → p k ≡ false
first_nowhere p zero i e k h l = absurd (omega arith)
first_nowhere p (suc n) i e k h l =
    by_bool (p i)
    (λ t. absurd (at-nowhere (sym (first_hit p (suc n) i (omega arith) refl t) ∙ e)))
    (λ f. by_eq k i (λ q. ap p q ∙ f) (λ ne. first_nowhere p n (suc i) (sym (first_miss_suc p n i f) ∙ e) k (omega arith) (omega arith)))

-- ---- and the answer from what is known
pub none_is : (p : ℕ → Bool) (n i : ℕ) → ((k : ℕ) → i ≤ k → k < i + n → p k ≡ false) → first_from p n i ≡ nowhere
none_is p zero i f = first_none p i
none_is p (suc n) i f =
    first_miss_suc p n i (f i (omega arith) (omega arith)) ∙ none_is p n (suc i) (λ k h l. f k (omega arith) (omega arith))

pub first_is : (p : ℕ → Bool) (n i j : ℕ) → IsFirst p n i j → first_from p n i ≡ at j
first_is p zero i j r = absurd (let h : i ≤ j = r.from in let l : j < i + 0 = r.below in omega arith)
first_is p (suc n) i j r =
    let h : i ≤ j = r.from in
    let l : j < i + suc n = r.below in
    by_eq i j
    (λ e. first_hit p (suc n) i (omega arith) refl (ap p e ∙ r.passes) ∙ ap at e)
    (λ ne.
    first_miss_suc p n i (r.before i (omega arith) (omega arith))
    ∙ first_is p n (suc i) j
    (record { from = omega arith; below = omega arith; passes = r.passes; before = λ k g m. r.before k (omega arith) m }))

pub by_first {ℓ} : {X : Type ℓ} (p : ℕ → Bool) (n i : ℕ)
    → ((j : ℕ) → first_from p n i ≡ at j → IsFirst p n i j → X)
    → (first_from p n i ≡ nowhere → ((k : ℕ) → i ≤ k → k < i + n → p k ≡ false) → X) → X
by_first {X} p n i f g = cases (first_from p n i) refl
  where
    cases : (a : Found) → first_from p n i ≡ a → X
    cases (at j) e = f j e (first-at p n i j e)
    cases nowhere e = g e (first_nowhere p n i e)

-- ---- tests that agree on the places give one answer
pub first_same : (p q : ℕ → Bool) (n i : ℕ) → ((k : ℕ) → i ≤ k → k < i + n → p k ≡ q k) → first_from p n i ≡ first_from q n i
first_same p q zero i f = first_none p i ∙ sym (first_none q i)
first_same p q (suc n) i f =
    let e : p i ≡ q i = f i (omega arith) (omega arith) in
    by_bool (p i)
    (λ t. first_hit p (suc n) i (omega arith) refl t ∙ sym (first_hit q (suc n) i (omega arith) e t))
    (λ t.
    first_miss_suc p n i t ∙ first_same p q n (suc i) (λ k h l. f k (omega arith) (omega arith))
    ∙ sym (first_miss_suc q n i (sym e ∙ t)))

-- places that do not pass are passed over, and a place found is found among more
pub first_skip : (p : ℕ → Bool) (n m i : ℕ) → ((k : ℕ) → i ≤ k → k < i + n → p k ≡ false) → first_from p (n + m) i ≡ first_from p m (i + n)
first_skip p zero m i f = ap (λ (k : ℕ). first_from p k i) (zero-add m) ∙ ap (λ (k : ℕ). first_from p m k) (sym (add-zero i))
first_skip p (suc n) m i f =
    let e : suc i + n ≡ i + suc n = omega arith in
    ap (λ (k : ℕ). first_from p k i) (suc-add n m) ∙ first_miss_suc p (n + m) i (f i (omega arith) (omega arith))
    ∙ first_skip p n m (suc i) (λ k h l. f k (omega arith) (omega arith)) ∙ ap (λ (k : ℕ). first_from p m k) e

pub first_front : (p : ℕ → Bool) (n m i j : ℕ) → first_from p n i ≡ at j → first_from p (n + m) i ≡ at j
first_front p n m i j e =
    let r : IsFirst p n i j = first-at p n i j e in
    let l : j < i + n = r.below in
    first_is p (n + m) i j (record { from = r.from; below = omega arith; passes = r.passes; before = r.before })

-- ---- all places
pub all_stop : (p : ℕ → Bool) (n i : ℕ) {b : Bool} → 0 < n → b ≡ p i → b ≡ false → all_from p n i ≡ false
unfolding all_from
all_stop p zero i h e t = absurd (omega arith)
all_stop p (suc n) i h e t = cond-false (p i) (all_from p n (suc i)) false (sym e ∙ t)

pub all_none : (p : ℕ → Bool) (i : ℕ) → all_from p 0 i ≡ true
unfolding all_from
all_none p i = refl

all_suc : (p : ℕ → Bool) (n i : ℕ) → p i ≡ true → all_from p (suc n) i ≡ all_from p n (suc i)
unfolding all_from
all_suc p n i t = cond-true (p i) (all_from p n (suc i)) false t

pub all_at : (p : ℕ → Bool) (n i : ℕ) → all_from p n i ≡ true → (k : ℕ) → i ≤ k → k < i + n → p k ≡ true
all_at p zero i e k h l = absurd (omega arith)
all_at p (suc n) i e k h l =
    by_bool (p i)
    (λ t. by_eq k i (λ q. ap p q ∙ t) (λ ne. all_at p n (suc i) (sym (all_suc p n i t) ∙ e) k (omega arith) (omega arith)))
    (λ f. clash e (all_stop p (suc n) i (omega arith) refl f))

pub all_is : (p : ℕ → Bool) (n i : ℕ) → ((k : ℕ) → i ≤ k → k < i + n → p k ≡ true) → all_from p n i ≡ true
all_is p zero i f = all_none p i
all_is p (suc n) i f = all_suc p n i (f i (omega arith) (omega arith)) ∙ all_is p n (suc i) (λ k h l. f k (omega arith) (omega arith))

-- ---- how many
pub count_none : (p : ℕ → Bool) (i : ℕ) → count_from p 0 i ≡ 0
unfolding count_from
count_none p i = refl

count_suc : (p : ℕ → Bool) (n i : ℕ) → p i ≡ true → count_from p (suc n) i ≡ suc (count_from p n (suc i))
unfolding count_from
count_suc p n i t = cond-true (p i) (suc (count_from p n (suc i))) (count_from p n (suc i)) t

count_pass : (p : ℕ → Bool) (n i : ℕ) → p i ≡ false → count_from p (suc n) i ≡ count_from p n (suc i)
unfolding count_from
count_pass p n i t = cond-false (p i) (suc (count_from p n (suc i))) (count_from p n (suc i)) t

-- of tests of which none passes
pub count_nothing : (p : ℕ → Bool) (n i : ℕ) → ((k : ℕ) → i ≤ k → k < i + n → p k ≡ false) → count_from p n i ≡ 0
count_nothing p zero i f = count_none p i
count_nothing p (suc n) i f =
    count_pass p n i (f i (omega arith) (omega arith)) ∙ count_nothing p n (suc i) (λ k h l. f k (omega arith) (omega arith))

pub count_hit : (p : ℕ → Bool) (n i : ℕ) {b : Bool} → 0 < n → b ≡ p i → b ≡ true → count_from p n i ≡ suc (count_from p (n - 1) (i + 1))
count_hit p zero i h e t = absurd (omega arith)
count_hit p (suc n) i h e t =
    let m : n ≡ suc n - 1 = omega arith in
    count_suc p n i (sym e ∙ t) ∙ ap (λ (k : ℕ). suc (count_from p k (suc i))) m ∙ ap (λ (k : ℕ). suc (count_from p (suc n - 1) k)) (sym (add-one i))

pub count_miss : (p : ℕ → Bool) (n i : ℕ) {b : Bool} → 0 < n → b ≡ p i → b ≡ false → count_from p n i ≡ count_from p (n - 1) (i + 1)
count_miss p zero i h e t = absurd (omega arith)
count_miss p (suc n) i h e t =
    let m : n ≡ suc n - 1 = omega arith in
    count_pass p n i (sym e ∙ t) ∙ ap (λ (k : ℕ). count_from p k (suc i)) m ∙ ap (λ (k : ℕ). count_from p (suc n - 1) k) (sym (add-one i))

-- a loop from i up to n that has counted c, with the invariant `c + count_from p (n - i) i ≡ a`
pub count_turn : (p : ℕ → Bool) (n i c : ℕ) {b : Bool} {a : ℕ}
    → i < n → b ≡ p i → b ≡ true → c + count_from p (n - i) i ≡ a → c + 1 + count_from p (n - (i + 1)) (i + 1) ≡ a
count_turn p n i c h e t g =
    let l : 0 < n - i = omega arith in
    let m : n - (i + 1) ≡ n - i - 1 = omega arith in
    let r : count_from p (n - i) i ≡ suc (count_from p (n - (i + 1)) (i + 1)) = count_hit p (n - i) i l e t ∙ ap (λ (k : ℕ). suc (count_from p k (i + 1))) (sym m) in
    omega arith

pub count_skip : (p : ℕ → Bool) (n i c : ℕ) {b : Bool} {a : ℕ}
    → i < n → b ≡ p i → b ≡ false → c + count_from p (n - i) i ≡ a → c + count_from p (n - (i + 1)) (i + 1) ≡ a
count_skip p n i c h e t g =
    let l : 0 < n - i = omega arith in
    let m : n - (i + 1) ≡ n - i - 1 = omega arith in
    let r : count_from p (n - i) i ≡ count_from p (n - (i + 1)) (i + 1) = count_miss p (n - i) i l e t ∙ ap (λ (k : ℕ). count_from p k (i + 1)) (sym m) in
    omega arith

pub count_end : (p : ℕ → Bool) (n i c : ℕ) {a : ℕ} → n ≤ i → c + count_from p (n - i) i ≡ a → c ≡ a
count_end p n i c h g =
    let m : n - i ≡ 0 = omega arith in
    let r : count_from p (n - i) i ≡ 0 = ap (λ (k : ℕ). count_from p k i) m ∙ count_none p i in
    omega arith

pub count_le : (p : ℕ → Bool) (n i : ℕ) → count_from p n i ≤ n
count_le p zero i = let e : count_from p 0 i ≡ 0 = count_none p i in omega arith
count_le p (suc n) i =
    let h : count_from p n (suc i) ≤ n = count_le p n (suc i) in
    by_bool (p i)
    (λ t. let e : count_from p (suc n) i ≡ suc (count_from p n (suc i)) = count_suc p n i t in omega arith)
    (λ t. let e : count_from p (suc n) i ≡ count_from p n (suc i) = count_pass p n i t in omega arith)

pub count_same : (p q : ℕ → Bool) (n i : ℕ) → ((k : ℕ) → i ≤ k → k < i + n → p k ≡ q k) → count_from p n i ≡ count_from q n i
count_same p q zero i f = count_none p i ∙ sym (count_none q i)
count_same p q (suc n) i f =
    let e : p i ≡ q i = f i (omega arith) (omega arith) in
    let r : count_from p n (suc i) ≡ count_from q n (suc i) = count_same p q n (suc i) (λ k h l. f k (omega arith) (omega arith)) in
    by_bool (p i)
    (λ t. count_suc p n i t ∙ ap suc r ∙ sym (count_suc q n i (sym e ∙ t)))
    (λ t. count_pass p n i t ∙ r ∙ sym (count_pass q n i (sym e ∙ t)))

-- one place more passes
pub count_more : (p q : ℕ → Bool) (n i j : ℕ) → i ≤ j → j < i + n → p j ≡ false → q j ≡ true
    → ((k : ℕ) → i ≤ k → k < i + n → (k ≡ j → ⊥) → p k ≡ q k) → count_from q n i ≡ suc (count_from p n i)
count_more p q zero i j h l pf qt f = absurd (omega arith)
count_more p q (suc n) i j h l pf qt f =
    by_eq i j
    (λ e.
    count_suc q n i (ap q e ∙ qt)
    ∙ ap suc (count_same q p n (suc i) (λ k g m. sym (f k (omega arith) (omega arith) (λ z. omega arith))) ∙ sym (count_pass p n i (ap p e ∙ pf))))
    (λ ne.
    let r : count_from q n (suc i) ≡ suc (count_from p n (suc i)) = count_more p q n (suc i) j (omega arith) (omega arith) pf qt (λ k g m z. f k (omega arith) (omega arith) z) in
    let e : p i ≡ q i = f i (omega arith) (omega arith) ne in
    by_bool (p i)
    (λ t. count_suc q n i (sym e ∙ t) ∙ ap suc (r ∙ sym (count_suc p n i t)))
    (λ t. count_pass q n i (sym e ∙ t) ∙ r ∙ ap suc (sym (count_pass p n i t))))
