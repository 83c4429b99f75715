-- Eight levels as a word: its lowest zero digits, eight to a level, are the dark channels ahead of the first lit one. By halving the word, and by
-- induction on the levels. Then the turns of the scan that goes eight levels at a step.
-- Assumes nothing.
use mathlib.Core.Path.{◌≡◌, refl, sym, ap, ◌∙◌, subst}
use mathlib.Core.Bool.{Bool, true, false, not, cond}
use mathlib.Core.List.{List, [], ◌∷◌, ◌++◌}
use Prim.Native.Nat.{ℕ, zero, suc, ◌+◌, ◌-◌, ◌*◌, ◌/◌, ◌%◌, ◌≤◌, ◌<◌}
use native.Mathlib.Numerals.{add-one, one-add}
use native.Mathlib.Omega.{arith}
use lib.Count.{under, count_trailing_zeros, trailing_of_zero}
use lib.Dec.{eqb, ltb}
use lib.ListN.{length, get_or, take, drop, length-drop, take-append-drop, drop_of_length-le}
use lib.Seq.{drop-cons, drop-drop, length-take-le}
use borrow.Author.Tests.{eq-eqb, ne_eqb, lt-ltb, le-ltb}
use Rattle.std.proofs.Common.{Option, Some, None}
use Rattle.std.specs.Array.{IsFirstChunk}
use Rattle.std.specs.Int.{from_le_bytes, w64}
use Rattle.std.specs.List.{position_or_len}
use Rattle.std.specs.Option.{unwrap_or}
use Rattle.std.proofs.lemmas.List.{take_rest}
use Rattle.std.proofs.lemmas.List.Recursion.{is_position_or_len}
use Rattle.cells.specs.Scan.{span}
use Rattle.cells.proofs.Scan.{span_nil, span_hit, span_miss, span_le, span_append}
use Rattle.cells.proofs.Split.{by_bool, by_eq, by_lt, cond-true, cond-false}
use Rattle.save_chans.specs.Chan.{is_dark, weighed}

pub dark_of : (level : ℕ) → level ≡ 0 → is_dark level ≡ true
unfolding is_dark
dark_of level e = eq-eqb level 0 e

pub lit_of : (level : ℕ) → (level ≡ 0 → ⊥) → is_dark level ≡ false
unfolding is_dark
lit_of level e = ne_eqb level 0 e

-- ---- the dark channels ahead of the first lit one, as `position` finds them
abbrev pub is_lit : ℕ → Bool
is_lit level = not (eqb level 0)

span_found : (vs : List ℕ) → span is_dark vs ≡ position_or_len is_lit vs
unfolding is_dark
span_found vs =
    is_position_or_len (span is_dark) is_lit (span_nil is_dark)
    (λ v rest.
    by_bool (eqb v 0)
    (λ t. span_hit is_dark v rest t ∙ sym (one-add (span is_dark rest)) ∙ sym (cond-false (is_lit v) 0 (1 + span is_dark rest) (ap not t)))
    (λ f. span_miss is_dark v rest f ∙ sym (cond-true (is_lit v) 0 (1 + span is_dark rest) (ap not f))))
    vs

pub found_lit : (vs : List ℕ) {found : Option ℕ} {n : ℕ}
    → found ≡ cond (ltb (position_or_len is_lit vs) (length vs)) (Some (position_or_len is_lit vs)) None
    → n ≡ unwrap_or found (length vs) → n ≡ span is_dark vs
found_lit vs e f =
    let s = span_found vs in
    let l = span_le is_dark vs in
    let g = ap (λ (o : Option ℕ). unwrap_or o (length vs)) e in
    f ∙ g ∙ by_lt (position_or_len is_lit vs) (length vs)
    (λ h. ap (λ (o : Option ℕ). unwrap_or o (length vs)) (cond-true (ltb (position_or_len is_lit vs) (length vs)) (Some (position_or_len is_lit vs)) None (lt-ltb _ _ h)) ∙ sym s)
    (λ h. ap (λ (o : Option ℕ). unwrap_or o (length vs)) (cond-false (ltb (position_or_len is_lit vs) (length vs)) (Some (position_or_len is_lit vs)) None (le-ltb _ _ h)) ∙ (let k : length vs ≡ span is_dark vs = omega arith in k))

-- ---- levels as a number
weighed_at : (s : List ℕ) (i j : ℕ) → i < length s → j ≡ i + 1 → weighed (drop i s) ≡ get_or s i 0 + 256 * weighed (drop j s)
unfolding weighed
weighed_at s i j h e =
    ap weighed (drop-cons s i 0 h) ∙ ap (λ (k : ℕ). get_or s i 0 + 256 * weighed (drop k s)) (sym (e ∙ add-one i))

-- eight of them as a word's bytes
weighed_word : (s : List ℕ) → length s ≡ 8 → from_le_bytes w64 s ≡ weighed s
unfolding weighed
weighed_word s h =
    let p₀ : weighed s ≡ get_or s 0 0 + 256 * weighed (drop 1 s) = weighed_at s 0 1 (omega arith) (omega arith) in
    let p₁ = weighed_at s 1 2 (omega arith) refl in
    let p₂ = weighed_at s 2 3 (omega arith) refl in
    let p₃ = weighed_at s 3 4 (omega arith) refl in
    let p₄ = weighed_at s 4 5 (omega arith) refl in
    let p₅ = weighed_at s 5 6 (omega arith) refl in
    let p₆ = weighed_at s 6 7 (omega arith) refl in
    let p₇ = weighed_at s 7 8 (omega arith) refl in
    let p₈ : weighed (drop 8 s) ≡ 0 = ap weighed (drop_of_length-le s {i = 8} (omega arith)) in
    omega arith

-- ---- the lowest zero digits of a number
-- k and j more, doubled j times: by recursion on j
further : ℕ → ℕ → ℕ
further zero k = k
further (suc j) k = suc (further j k)

doubled : ℕ → ℕ → ℕ
doubled zero m = m
doubled (suc j) m = 2 * doubled j m

zeros_even : (k n : ℕ) → n % 2 ≡ 0 → count_trailing_zeros (suc k) n ≡ suc (count_trailing_zeros k (n / 2))
unfolding count_trailing_zeros
zeros_even k n e = ap (λ (d : ℕ). under d (count_trailing_zeros k (n / 2))) e

zeros_odd : (k n : ℕ) → n % 2 ≡ 1 → count_trailing_zeros (suc k) n ≡ 0
unfolding count_trailing_zeros
zeros_odd k n e = ap (λ (d : ℕ). under d (count_trailing_zeros k (n / 2))) e

zeros_doubled : (j k m : ℕ) → count_trailing_zeros (further j k) (doubled j m) ≡ further j (count_trailing_zeros k m)
unfolding further doubled
zeros_doubled zero k m = refl
zeros_doubled (suc j) k m =
    let e : 2 * doubled j m / 2 ≡ doubled j m = omega arith in
    zeros_even (further j k) (2 * doubled j m) (omega arith)
    ∙ ap (λ (n : ℕ). suc (count_trailing_zeros (further j k) n)) e
    ∙ ap suc (zeros_doubled j k m)

-- a number has fewer than j of them, or is doubled j times
zeros_by {ℓ} : {X : Type ℓ} (j k n : ℕ) → (count_trailing_zeros (further j k) n < j → X) → ((m : ℕ) → n ≡ doubled j m → X) → X
unfolding further doubled
zeros_by zero k n f g = g n refl
zeros_by (suc j) k n f g =
    by_eq (n % 2) 0
    (λ e.
    let z : count_trailing_zeros (suc (further j k)) n ≡ suc (count_trailing_zeros (further j k) (n / 2)) = zeros_even (further j k) n e in
    zeros_by j k (n / 2) (λ l. f (omega arith)) (λ m d. g m (omega arith)))
    (λ e.
    let o : n % 2 ≡ 1 = omega arith in
    let z : count_trailing_zeros (suc (further j k)) n ≡ 0 = zeros_odd (further j k) n o in
    f (omega arith))

-- ---- eight digits to a level
digits : List ℕ → ℕ
digits [] = 0
digits (v ∷ vs) = further 8 (digits vs)

digits-length : (vs : List ℕ) → digits vs ≡ 8 * length vs
unfolding digits further
digits-length [] = refl
digits-length (v ∷ vs) = let ih = digits-length vs in omega arith

zeros_dark : (vs : List ℕ) → ((k : ℕ) → get_or vs k 0 < 256) → count_trailing_zeros (digits vs) (weighed vs) / 8 ≡ span is_dark vs
unfolding digits further doubled weighed count_trailing_zeros
zeros_dark [] f = sym (span_nil is_dark)
zeros_dark (v ∷ vs) f =
    let b : v < 256 = f 0 in
    let w = weighed vs in
    let ih = zeros_dark vs (λ k. f (suc k)) in
    by_eq v 0
    (λ e.
    let d : v + 256 * w ≡ doubled 8 w = omega arith in
    let z : count_trailing_zeros (further 8 (digits vs)) (v + 256 * w) ≡ further 8 (count_trailing_zeros (digits vs) w) =
    ap (count_trailing_zeros (further 8 (digits vs))) d ∙ zeros_doubled 8 (digits vs) w
    in
    let m : span is_dark (v ∷ vs) ≡ suc (span is_dark vs) = span_hit is_dark v vs (dark_of v e) in
    omega arith)
    (λ ne.
    let m : span is_dark (v ∷ vs) ≡ 0 = span_miss is_dark v vs (lit_of v ne) in
    let z : count_trailing_zeros (further 8 (digits vs)) (v + 256 * w) < 8 =
    zeros_by 8 (digits vs) (v + 256 * w) (λ l. l) (λ n e. absurd (ne (omega arith)))
    in
    omega arith)

-- a word of eight levels, which are bytes
module _ (s : List ℕ) (h : length s ≡ 8) (f : (k : ℕ) → get_or s k 0 < 256) {w : ℕ} (e : w ≡ from_le_bytes w64 s) where
  pub eight_dark : count_trailing_zeros 64 w / 8 ≡ span is_dark s
  eight_dark =
      let d : digits s ≡ 64 = digits-length s ∙ ap (λ (n : ℕ). 8 * n) h in
      ap (λ (n : ℕ). count_trailing_zeros 64 n / 8) (e ∙ weighed_word s h)
      ∙ ap (λ (k : ℕ). count_trailing_zeros k (weighed s) / 8) (sym d)
      ∙ zeros_dark s f

  pub eight_none : w ≡ 0 → 8 ≡ span is_dark s
  eight_none z =
      let t : count_trailing_zeros 64 w ≡ 64 = ap (count_trailing_zeros 64) z ∙ trailing_of_zero 64 in
      let d = eight_dark in
      omega arith

-- ---- a scan that goes eight levels at a step
span_short : (p : ℕ → Bool) (a b : List ℕ) → span p a < length a → span p (a ++ b) ≡ span p a
span_short p [] b h = absurd (omega arith)
span_short p (c ∷ a) b h =
    by_bool (p c)
    (λ t.
    let m : span p (c ∷ a) ≡ suc (span p a) = span_hit p c a t in
    span_hit p c (a ++ b) t ∙ ap suc (span_short p a b (omega arith)) ∙ sym m)
    (λ f. span_miss p c (a ++ b) f ∙ sym (span_miss p c a f))

module _ (s : List ℕ) (i : ℕ) {xs : List ℕ} (p : IsFirstChunk (take (length s - i) (drop i s)) xs 8) where
  first : IsFirstChunk (drop i s) xs 8
  first = subst (λ (l : List ℕ). IsFirstChunk l xs 8) (take_rest s i) p

  within : i + 8 ≤ length s
  within = let d : length (drop i s) ≡ length s - i = length-drop i s in let e = first.enough in omega arith

  eight_length : length xs ≡ 8
  eight_length = ap length first.same ∙ length-take-le 8 (drop i s) first.enough

  eight_parts : span is_dark (xs ++ drop (i + 8) s) ≡ span is_dark (drop i s)
  eight_parts =
      ap (λ (l : List ℕ). span is_dark (l ++ drop (i + 8) s)) first.same
      ∙ ap (λ (l : List ℕ). span is_dark (take 8 (drop i s) ++ l)) (sym (drop-drop 8 i s))
      ∙ ap (span is_dark) (take-append-drop 8 (drop i s))

  -- with the invariant `i + span is_dark (drop i s) ≡ e`: after eight dark ones, and at a lit one
  pub eight_turn : {d e : ℕ} → d ≡ span is_dark xs → 8 ≤ d → i + span is_dark (drop i s) ≡ e
      → (i + 8 ≤ length s) × (i + 8 + span is_dark (drop (i + 8) s) ≡ e)
  eight_turn q m g =
      let l = eight_length in
      let t = span_le is_dark xs in
      let a : span is_dark xs ≡ length xs = omega arith in
      let n = span_append is_dark xs (drop (i + 8) s) a in
      let o = eight_parts in
      (within, omega arith)

  pub eight_stop : {d e : ℕ} → d ≡ span is_dark xs → d < 8 → i + span is_dark (drop i s) ≡ e → i + d ≡ e
  eight_stop q m g =
      let l = eight_length in
      let n = span_short is_dark xs (drop (i + 8) s) (omega arith) in
      let o = eight_parts in
      omega arith
