-- How far a scan reaches: at a place, over parts, and what is known of the elements that it passed and of the one where it stopped;
-- by induction on the list.
-- Assumes nothing.
use mathlib.Core.Path.{◌≡◌, refl, sym, ap, ◌∙◌}
use mathlib.Core.Bool.{Bool, true, false, cond, not}
use mathlib.Core.List.{List, [], ◌∷◌, ◌++◌}
use Prim.Native.Nat.{ℕ, zero, suc, ◌+◌, ◌-◌, ◌<◌, ◌≤◌, suc-le-suc}
use native.Mathlib.Nat.{le_refl, zero-add, suc-add}
use native.Mathlib.Numerals.{add-one}
use native.Mathlib.Omega.{arith}
use lib.ListN.{length, get_or, take, drop, length-drop, length-append, drop_of_length-le}
use lib.Seq.{drop-cons, get_or-drop}
use borrow.Author.Tests.{lt-ltb, le-ltb}
use Rattle.std.specs.List.{position, position_or_len}
use Rattle.std.specs.Option.{unwrap_or}
use Rattle.std.proofs.lemmas.List.Recursion.{is_position_or_len}
use Rattle.cells.specs.Scan.{span}
use Rattle.cells.proofs.Split.{cond-true, cond-false, by_bool, by_eq, by_lt, clash}

-- ---- the first element decides
pub span_hit : (p : ℕ → Bool) (c : ℕ) (s : List ℕ) → p c ≡ true → span p (c ∷ s) ≡ suc (span p s)
unfolding span
span_hit p c s e = cond-true (p c) (suc (span p s)) zero e

pub span_miss : (p : ℕ → Bool) (c : ℕ) (s : List ℕ) → p c ≡ false → span p (c ∷ s) ≡ 0
unfolding span
span_miss p c s e = cond-false (p c) (suc (span p s)) zero e

pub span_nil : (p : ℕ → Bool) → span p [] ≡ 0
unfolding span
span_nil p = refl

-- ---- at place i, with the test b as the code has it
pub span_more : (p : ℕ → Bool) (s : List ℕ) (i : ℕ) {b : Bool}
    → i < length s → b ≡ p (get_or s i 0) → b ≡ true → span p (drop i s) ≡ suc (span p (drop (i + 1) s))
span_more p s i h e t =
    ap (λ (l : List ℕ). span p l) (drop-cons s i 0 h) ∙ span_hit p (get_or s i 0) (drop (suc i) s) (sym e ∙ t)
    ∙ ap (λ (k : ℕ). suc (span p (drop k s))) (sym (add-one i))

pub span_stop : (p : ℕ → Bool) (s : List ℕ) (i : ℕ) {b : Bool} → i < length s → b ≡ p (get_or s i 0) → b ≡ false → span p (drop i s) ≡ 0
span_stop p s i h e t = ap (λ (l : List ℕ). span p l) (drop-cons s i 0 h) ∙ span_miss p (get_or s i 0) (drop (suc i) s) (sym e ∙ t)

pub span_end : (p : ℕ → Bool) (s : List ℕ) (i : ℕ) → length s ≤ i → span p (drop i s) ≡ 0
span_end p s i h = ap (λ (l : List ℕ). span p l) (drop_of_length-le s h) ∙ span_nil p

-- the same for a loop whose invariant is `i + span p (drop i s) ≡ e`: after a turn, where the test fails, and at the end
pub scan_turn : (p : ℕ → Bool) (s : List ℕ) (i : ℕ) {b : Bool} {e : ℕ}
    → i < length s → b ≡ p (get_or s i 0) → b ≡ true → i + span p (drop i s) ≡ e → i + 1 + span p (drop (i + 1) s) ≡ e
scan_turn p s i h q t g = let m : span p (drop i s) ≡ suc (span p (drop (i + 1) s)) = span_more p s i h q t in omega arith

pub scan_stop : (p : ℕ → Bool) (s : List ℕ) (i : ℕ) {b : Bool} {e : ℕ}
    → i < length s → b ≡ p (get_or s i 0) → b ≡ false → i + span p (drop i s) ≡ e → i ≡ e
scan_stop p s i h q t g = let m : span p (drop i s) ≡ 0 = span_stop p s i h q t in omega arith

pub scan_end : (p : ℕ → Bool) (s : List ℕ) (i : ℕ) {e : ℕ} → length s ≤ i → i + span p (drop i s) ≡ e → i ≡ e
scan_end p s i h g = let m : span p (drop i s) ≡ 0 = span_end p s i h in omega arith

-- ---- bounds
pub span_le : (p : ℕ → Bool) (s : List ℕ) → span p s ≤ length s
span_le p [] = let e : span p [] ≡ 0 = span_nil p in omega arith
span_le p (c ∷ s) =
    let h : span p s ≤ length s = span_le p s in
    by_bool (p c)
    (λ t. let e : span p (c ∷ s) ≡ suc (span p s) = span_hit p c s t in omega arith)
    (λ f. let e : span p (c ∷ s) ≡ 0 = span_miss p c s f in omega arith)

pub span_within : (p : ℕ → Bool) (s : List ℕ) (i : ℕ) → i ≤ length s → i + span p (drop i s) ≤ length s
span_within p s i h =
    let l : span p (drop i s) ≤ length (drop i s) = span_le p (drop i s) in
    let d : length (drop i s) ≡ length s - i = length-drop i s in
    omega arith

-- ---- the elements: each that was passed passes, and the one where it stopped does not
pub span_below : (p : ℕ → Bool) (s : List ℕ) (k : ℕ) → k < span p s → p (get_or s k 0) ≡ true
span_below p [] k h = absurd (let e : span p [] ≡ 0 = span_nil p in omega arith)
span_below p (c ∷ s) zero h =
    by_bool (p c) (λ t. t) (λ f. absurd (let e : span p (c ∷ s) ≡ 0 = span_miss p c s f in omega arith))
span_below p (c ∷ s) (suc k) h =
    by_bool (p c)
    (λ t. span_below p s k (let e : span p (c ∷ s) ≡ suc (span p s) = span_hit p c s t in omega arith))
    (λ f. absurd (let e : span p (c ∷ s) ≡ 0 = span_miss p c s f in omega arith))

pub span_at : (p : ℕ → Bool) (s : List ℕ) → span p s < length s → p (get_or s (span p s) 0) ≡ false
span_at p [] h = absurd (omega arith)
span_at p (c ∷ s) h =
    by_bool (p c)
    (λ t.
    let e : span p (c ∷ s) ≡ suc (span p s) = span_hit p c s t in
    ap (λ (k : ℕ). p (get_or (c ∷ s) k 0)) e ∙ span_at p s (omega arith))
    (λ f. ap (λ (k : ℕ). p (get_or (c ∷ s) k 0)) (span_miss p c s f) ∙ f)

pub span_at_from : (p : ℕ → Bool) (s : List ℕ) (i : ℕ) → i + span p (drop i s) < length s → p (get_or s (i + span p (drop i s)) 0) ≡ false
span_at_from p s i h =
    let d : length (drop i s) ≡ length s - i = length-drop i s in
    ap p (sym (get_or-drop i s (span p (drop i s)) 0)) ∙ span_at p (drop i s) (omega arith)

-- and no other number says as much
pub span_is : (p : ℕ → Bool) (s : List ℕ) (n : ℕ) → n ≤ length s → ((k : ℕ) → k < n → p (get_or s k 0) ≡ true)
    → (n < length s → p (get_or s n 0) ≡ false) → span p s ≡ n
span_is p s n h f g =
    by_lt (span p s) n
    (λ l. clash (f (span p s) l) (span_at p s (omega arith)))
    (λ l. by_eq (span p s) n (λ e. e) (λ ne.
    let b : span p s ≤ length s = span_le p s in
    let m : n < span p s = omega arith in
    clash (span_below p s n m) (g (omega arith))))

-- ---- a list that passes as a whole, `span p s ≡ length s`
pub span_all : (p : ℕ → Bool) (s : List ℕ) → ((k : ℕ) → k < length s → p (get_or s k 0) ≡ true) → span p s ≡ length s
span_all p s f = span_is p s (length s) (le_refl (length s)) f (λ l. absurd (omega arith))

pub all_below : (p : ℕ → Bool) (s : List ℕ) → span p s ≡ length s → (k : ℕ) → k < length s → p (get_or s k 0) ≡ true
all_below p s e k h = span_below p s k (omega arith)

pub span_append : (p : ℕ → Bool) (a b : List ℕ) → span p a ≡ length a → span p (a ++ b) ≡ length a + span p b
span_append p [] b e = sym (zero-add (span p b))
span_append p (c ∷ a) b e =
    by_bool (p c)
    (λ t.
    let h : span p (c ∷ a) ≡ suc (span p a) = span_hit p c a t in
    let g : span p a ≡ length a = omega arith in
    span_hit p c (a ++ b) t ∙ ap suc (span_append p a b g) ∙ sym (suc-add (length a) (span p b)))
    (λ f. absurd (let h : span p (c ∷ a) ≡ 0 = span_miss p c a f in omega arith))

pub span_upto : (p : ℕ → Bool) (a : List ℕ) (c : ℕ) (b : List ℕ) → span p a ≡ length a → p c ≡ false → span p (a ++ (c ∷ b)) ≡ length a
span_upto p a c b e f =
    let h : span p (a ++ (c ∷ b)) ≡ length a + span p (c ∷ b) = span_append p a (c ∷ b) e in
    let g : span p (c ∷ b) ≡ 0 = span_miss p c b f in
    omega arith

pub all_append : (p : ℕ → Bool) (a b : List ℕ) → span p a ≡ length a → span p b ≡ length b → span p (a ++ b) ≡ length (a ++ b)
all_append p a b e f = span_append p a b e ∙ ap (λ (k : ℕ). length a + k) f ∙ sym (length-append a b)

pub all_cons : (p : ℕ → Bool) (c : ℕ) (s : List ℕ) → p c ≡ true → span p s ≡ length s → span p (c ∷ s) ≡ length (c ∷ s)
all_cons p c s t e = span_hit p c s t ∙ ap suc e

-- ---- tests that agree on the elements give one answer
pub span_same : (p q : ℕ → Bool) (s : List ℕ) → ((k : ℕ) → k < length s → p (get_or s k 0) ≡ q (get_or s k 0)) → span p s ≡ span q s
span_same p q [] f = span_nil p ∙ sym (span_nil q)
span_same p q (c ∷ s) f =
    let e : p c ≡ q c = f zero (omega arith) in
    by_bool (p c)
    (λ t. span_hit p c s t ∙ ap suc (span_same p q s (λ k h. f (suc k) (suc-le-suc h))) ∙ sym (span_hit q c s (sym e ∙ t)))
    (λ t. span_miss p c s t ∙ sym (span_miss q c s (sym e ∙ t)))

-- what a scan passes within a front
pub span-take : (p : ℕ → Bool) (n : ℕ) (s : List ℕ) → span p s ≤ n → span p (take n s) ≡ span p s
unfolding span
span-take p zero s h = omega (arith, h)
span-take p (suc n) [] h = refl
span-take p (suc n) (c ∷ s) h =
    by_bool (p c)
    (λ e.
    let a : span p (c ∷ s) ≡ suc (span p s) = span_hit p c s e in
    let l : span p s ≤ n = omega arith in
    span_hit p c (take n s) e ∙ ap suc (span-take p n s l) ∙ sym a)
    (λ e. span_miss p c (take n s) e ∙ sym (span_miss p c s e))

-- ---- past n elements that pass
pub span_past : (p : ℕ → Bool) (s : List ℕ) (n : ℕ) → n ≤ length s → ((k : ℕ) → k < n → p (get_or s k 0) ≡ true) → span p s ≡ n + span p (drop n s)
span_past p s zero h f = sym (zero-add (span p s))
span_past p [] (suc n) h f = absurd (omega arith)
span_past p (c ∷ s) (suc n) h f =
    span_hit p c s (f 0 (omega arith))
    ∙ ap suc (span_past p s n (omega arith) (λ k l. f (suc k) (omega arith)))
    ∙ sym (suc-add n (span p (drop n s)))

-- ---- as the library's `position` has it: the first place that passes p, or the end
position_span : (p : ℕ → Bool) (s : List ℕ) → span (λ (c : ℕ). not (p c)) s ≡ position_or_len p s
unfolding span
position_span p s =
    is_position_or_len (span (λ (c : ℕ). not (p c))) p refl
    (λ c cs. by_bool (p c) (λ t. rw t refl) (λ t. rw t (let e : suc (span (λ (c : ℕ). not (p c)) cs) ≡ 1 + span (λ (c : ℕ). not (p c)) cs = omega arith in e)))
    s

pub span_position : (p : ℕ → Bool) (s : List ℕ) → unwrap_or (position p s) (length s) ≡ span (λ (c : ℕ). not (p c)) s
span_position p s =
    let n : ℕ = position_or_len p s in
    let e : span (λ (c : ℕ). not (p c)) s ≡ n = position_span p s in
    let h : span (λ (c : ℕ). not (p c)) s ≤ length s = span_le (λ (c : ℕ). not (p c)) s in
    by_lt n (length s)
    (λ l. rw (lt-ltb n (length s) l) (sym e))
    (λ l. rw (le-ltb n (length s) l) (let f : length s ≡ span (λ (c : ℕ). not (p c)) s = omega arith in f))
