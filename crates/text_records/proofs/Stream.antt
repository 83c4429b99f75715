-- The records of a stream taken one by one, at a place: where one ends, where the next starts, and that this goes forward and stays
-- within the stream. By cases on the first character, and by induction on the number of records.
-- Assumes nothing.
use mathlib.Core.Path.{◌≡◌, refl, sym, ap, ◌∙◌, subst}
use mathlib.Core.Bool.{Bool, true, false, ◌||◌}
use mathlib.Core.List.{List, [], ◌∷◌, ◌++◌, map, flatten}
use Prim.Native.Nat.{ℕ, zero, suc, ◌+◌, ◌-◌, ◌≤◌, ◌<◌, zero-le, suc-le-suc}
use native.Mathlib.Nat.{not-suc-le-zero, le_refl, le_of_suc-le-suc}
use native.Mathlib.Omega.{arith}
use lib.Dec.{eqb}
use lib.ListN.{length, get_or, take, drop, length-drop, length-map, drop_of_length-le, take-append-drop}
use lib.Seq.{drop-cons, drop-drop, take-take, get_or-drop}
use borrow.Author.Tests.{eqb-true, eqb-false, eq-eqb, ne_eqb}
use Rattle.cells.specs.Scan.{span}
use Rattle.cells.proofs.Scan.{span_hit, span_miss, span_within, span-take}
use Rattle.cells.proofs.Split.{by_test, by_bool, by_or, clash, or_left, or_right, not_of_true, not_of_false}
use Rattle.text_records.specs.Stream.{CR, LF, is_end, is_text, terminated, terminator_of, record_end, next_start, piece_length, pieces_in, pieces_of, bare, records_of}

-- ---- how long a record and its terminator are
pub terminated_two : (c d : ℕ) → terminated c d ≤ 2
unfolding terminated
terminated_two c d =
    by_test (λ (k : ℕ). k ≤ 2) (eqb c CR) _ _
    (λ e. by_test (λ (k : ℕ). k ≤ 2) (eqb d LF) _ _ (λ f. omega arith) (λ f. omega arith))
    (λ e. by_test (λ (k : ℕ). k ≤ 2) (eqb c LF) _ _
    (λ f. by_test (λ (k : ℕ). k ≤ 2) (eqb d CR) _ _ (λ g. omega arith) (λ g. omega arith))
    (λ f. omega arith))

terminated_one : (c : ℕ) → terminated c 0 ≤ 1
unfolding terminated
terminated_one c =
    by_test (λ (k : ℕ). k ≤ 1) (eqb c CR) _ _ (λ e. omega arith)
    (λ e. by_test (λ (k : ℕ). k ≤ 1) (eqb c LF) _ _ (λ f. omega arith) (λ f. omega arith))

terminator_le : (s : List ℕ) → terminator_of s ≤ length s
unfolding terminated
terminator_le [] = zero-le
terminator_le (c ∷ []) = terminated_one c
terminator_le (c ∷ d ∷ s) = let h : terminated c d ≤ 2 = terminated_two c d in omega arith

pub terminated_some : (c d : ℕ) → is_end c ≡ true → 0 < terminated c d
unfolding terminated is_end
terminated_some c d e =
    by_test (λ (k : ℕ). 0 < k) (eqb c CR) _ _
    (λ f. by_test (λ (k : ℕ). 0 < k) (eqb d LF) _ _ (λ g. omega arith) (λ g. omega arith))
    (λ f. by_test (λ (k : ℕ). 0 < k) (eqb c LF) _ _
    (λ g. by_test (λ (k : ℕ). 0 < k) (eqb d CR) _ _ (λ h. omega arith) (λ h. omega arith))
    (λ g. by_or (eqb c CR) (eqb c LF) e (λ h. clash h f) (λ h. clash h g)))

-- ---- one record and its terminator take a character at least
piece_some : (c : ℕ) (s : List ℕ) → 0 < piece_length (c ∷ s)
piece_some c s =
    by_bool (is_end c)
    (λ e.
    let z : span is_text (c ∷ s) ≡ 0 = span_miss is_text c s (not_of_true (is_end c) e) in
    let t : 0 < terminator_of (drop (span is_text (c ∷ s)) (c ∷ s)) =
    subst (λ (k : ℕ). 0 < terminator_of (drop k (c ∷ s))) (sym z) (terminated_some c (get_or s 0 0) e) in
    omega arith)
    (λ e.
    let z : span is_text (c ∷ s) ≡ suc (span is_text s) = span_hit is_text c s (not_of_false (is_end c) e) in
    omega arith)

pub piece_shorter : (c : ℕ) (s : List ℕ) {n : ℕ} → length s ≤ n → length (drop (piece_length (c ∷ s)) (c ∷ s)) ≤ n
piece_shorter c s {n} h =
    let f : length (drop (piece_length (c ∷ s)) (c ∷ s)) ≡ length (c ∷ s) - piece_length (c ∷ s) = length-drop (piece_length (c ∷ s)) (c ∷ s) in
    let g : 0 < piece_length (c ∷ s) = piece_some c s in
    omega arith

-- ---- one by one
pieces_nil : (n : ℕ) → pieces_in n [] ≡ []
unfolding pieces_in
pieces_nil zero = refl
pieces_nil (suc n) = refl

pieces_fuel : (n m : ℕ) (s : List ℕ) → length s ≤ n → length s ≤ m → pieces_in n s ≡ pieces_in m s
unfolding pieces_in
pieces_fuel zero m [] h g = sym (pieces_nil m)
pieces_fuel zero m (c ∷ s) h g = absurd (not-suc-le-zero h)
pieces_fuel (suc n) m [] h g = sym (pieces_nil m)
pieces_fuel (suc n) zero (c ∷ s) h g = absurd (not-suc-le-zero g)
pieces_fuel (suc n) (suc m) (c ∷ s) h g =
    ap (λ (r : List (List ℕ)). take (piece_length (c ∷ s)) (c ∷ s) ∷ r)
    (pieces_fuel n m (drop (piece_length (c ∷ s)) (c ∷ s)) (piece_shorter c s (le_of_suc-le-suc h)) (piece_shorter c s (le_of_suc-le-suc g)))

pub pieces_none : pieces_of [] ≡ []
unfolding pieces_of pieces_in
pieces_none = refl

pub pieces_some : (s : List ℕ) → 0 < length s → pieces_of s ≡ take (piece_length s) s ∷ pieces_of (drop (piece_length s) s)
unfolding pieces_in pieces_of
pieces_some [] h = absurd (not-suc-le-zero h)
pieces_some (c ∷ s) h =
    ap (λ (r : List (List ℕ)). take (piece_length (c ∷ s)) (c ∷ s) ∷ r)
    (pieces_fuel (length s) (length (drop (piece_length (c ∷ s)) (c ∷ s))) (drop (piece_length (c ∷ s)) (c ∷ s))
    (piece_shorter c s (le_refl (length s))) (le_refl (length (drop (piece_length (c ∷ s)) (c ∷ s)))))

-- the pieces joined are the stream
join_in : (n : ℕ) (s : List ℕ) → length s ≤ n → flatten (pieces_in n s) ≡ s
unfolding pieces_in flatten
join_in zero [] h = refl
join_in zero (c ∷ s) h = absurd (not-suc-le-zero h)
join_in (suc n) [] h = refl
join_in (suc n) (c ∷ s) h =
    ap (λ (r : List ℕ). take (piece_length (c ∷ s)) (c ∷ s) ++ r)
    (join_in n (drop (piece_length (c ∷ s)) (c ∷ s)) (piece_shorter c s (le_of_suc-le-suc h)))
    ∙ take-append-drop (piece_length (c ∷ s)) (c ∷ s)

pub pieces_join : (s : List ℕ) → flatten (pieces_of s) ≡ s
unfolding pieces_of
pieces_join s = join_in (length s) s (le_refl (length s))

-- there are no more records than bytes
pieces_few : (n : ℕ) (s : List ℕ) → length (pieces_in n s) ≤ n
unfolding pieces_in
pieces_few zero s = zero-le
pieces_few (suc n) [] = zero-le
pieces_few (suc n) (c ∷ s) = suc-le-suc (pieces_few n (drop (piece_length (c ∷ s)) (c ∷ s)))

pub records_count : (s : List ℕ) → length (records_of s) ≤ length s
unfolding records_of pieces_of
records_count s =
    subst (λ (k : ℕ). k ≤ length s) (sym (length-map (pieces_in (length s) s) bare)) (pieces_few (length s) s)

-- a piece without its terminator is what the scan passes
pub bare_piece : (s : List ℕ) → bare (take (piece_length s) s) ≡ take (span is_text s) s
unfolding bare
bare_piece s =
    let k = span is_text s in
    let h : k ≤ piece_length s = omega arith in
    ap (λ (j : ℕ). take j (take (piece_length s) s)) (span-take is_text (piece_length s) s h) ∙ take-take k (piece_length s) s h

-- ---- at a place
-- where a record ends
pub end_from_lem : (s : List ℕ) (at : ℕ) → at ≤ record_end s at
end_from_lem s at = omega arith

pub end_within : (s : List ℕ) (at : ℕ) → at ≤ length s → record_end s at ≤ length s
end_within s at h = span_within is_text s at h

-- where the next one starts
pub start_within : (s : List ℕ) (end : ℕ) → end ≤ length s → next_start s end ≤ length s
start_within s end h =
    let e : terminator_of (drop end s) ≤ length (drop end s) = terminator_le (drop end s) in
    let f : length (drop end s) ≡ length s - end = length-drop end s in
    omega arith

-- the terminator's two characters as the code reads them
start_reads : (s : List ℕ) (end : ℕ) → next_start s end ≡ end + terminated (get_or s end 0) (get_or s (end + 1) 0)
start_reads s end =
    let a : get_or (drop end s) 0 0 ≡ get_or s (end + 0) 0 = get_or-drop end s 0 0 in
    let b : get_or (drop end s) 1 0 ≡ get_or s (end + 1) 0 = get_or-drop end s 1 0 in
    let z : end + 0 ≡ end = omega arith in
    ap (λ (c : ℕ). end + terminated c (get_or (drop end s) 1 0)) (a ∙ ap (λ (k : ℕ). get_or s k 0) z)
    ∙ ap (λ (d : ℕ). end + terminated (get_or s end 0) d) b

-- ---- the length of a terminator, one or two
pub pair_of_cr : (c d : ℕ) → c ≡ CR → eqb d LF ≡ eqb (terminated c d) 2
unfolding terminated
pair_of_cr c d e = rw (eq-eqb c CR e) (by_bool (eqb d LF) (λ f. rw f refl) (λ f. rw f refl))

pub pair_of_lf : (c d : ℕ) → is_end c ≡ true → (c ≡ CR → ⊥) → eqb d CR ≡ eqb (terminated c d) 2
unfolding terminated is_end
pair_of_lf c d e g =
    let f : eqb c LF ≡ true = sym (ap (λ (b : Bool). b || eqb c LF) (ne_eqb c CR g)) ∙ e in
    rw (ne_eqb c CR g, f) (by_bool (eqb d CR) (λ h. rw h refl) (λ h. rw h refl))

terminated_none : (c d : ℕ) → is_end c ≡ false → terminated c d ≡ 0
unfolding terminated is_end
terminated_none c d e = rw (or_left (eqb c CR) (eqb c LF) e, or_right (eqb c CR) (eqb c LF) e) refl

pub start_is : (s : List ℕ) (end : ℕ) {a b t : ℕ} → a ≡ get_or s end 0 → b ≡ get_or s (end + 1) 0 → t ≡ terminated a b → next_start s end ≡ end + t
start_is s end e f g = start_reads s end ∙ ap (λ (k : ℕ). end + k) (cc)

module _ (s : List ℕ) (end : ℕ) {a : ℕ} (e : a ≡ get_or s end 0) where
  pub start_two : {b : ℕ} {t : Bool} → b ≡ get_or s (end + 1) 0 → t ≡ eqb (terminated a b) 2 → t ≡ true → end + 2 ≡ next_start s end
  start_two {b} f g h = sym (start_is s end e f (sym (eqb-true (terminated a b) 2 (sym g ∙ h))))

  pub start_one : {b : ℕ} {t u : Bool} → u ≡ is_end a → u ≡ true → b ≡ get_or s (end + 1) 0 → t ≡ eqb (terminated a b) 2 → t ≡ false
      → end + 1 ≡ next_start s end
  start_one {b} v w f g h =
      let x : terminated a b ≤ 2 = terminated_two a b in
      let y : 0 < terminated a b = terminated_some a b (sym v ∙ w) in
      let z : terminated a b ≡ 2 → ⊥ = eqb-false (terminated a b) 2 (sym g ∙ h) in
      sym (start_is s end e f (let q : 1 ≡ terminated a b = omega arith in q))

  pub start_none : {u : Bool} → u ≡ is_end a → u ≡ false → end ≡ next_start s end
  start_none v w =
      let t : next_start s end ≡ end + 0 = start_is s end e refl (sym (terminated_none a (get_or s (end + 1) 0) (sym v ∙ w))) in
      omega arith

-- at the end of the stream there is no record
pub records_end : (s : List ℕ) (at : ℕ) → length s ≤ at → records_of (drop at s) ≡ []
unfolding records_of
records_end s at h = ap records_of (drop_of_length-le s h) ∙ ap (λ (r : List (List ℕ)). map bare r) pieces_none

-- elsewhere there is one, from there to its end, and the others start where the next one does, which is further on
module _ (s : List ℕ) {at end next : ℕ} (h : at < length s) (e : end ≡ record_end s at) (f : next ≡ next_start s end) where
  length_at : piece_length (drop at s) ≡ next - at
  length_at =
      let k = span is_text (drop at s) in
      let d : drop k (drop at s) ≡ drop end s = drop-drop k at s ∙ ap (λ (j : ℕ). drop j s) (sym e) in
      let t : terminator_of (drop k (drop at s)) ≡ terminator_of (drop end s) = ap terminator_of d in
      omega arith

  some_at : 0 < length (drop at s)
  some_at = let l : length (drop at s) ≡ length s - at = length-drop at s in omega arith

  pub start_forward : at < next
  start_forward =
      let d : drop at s ≡ get_or s at 0 ∷ drop (suc at) s = drop-cons s at 0 h in
      let p : 0 < piece_length (drop at s) = subst (λ (l : List ℕ). 0 < piece_length l) (sym d) (piece_some (get_or s at 0) (drop (suc at) s)) in
      let g : piece_length (drop at s) ≡ next - at = length_at in
      omega arith

  pub pieces_at : pieces_of (drop at s) ≡ take (next - at) (drop at s) ∷ pieces_of (drop next s)
  pieces_at =
      let g : at + (next - at) ≡ next = omega (arith, start_forward) in
      pieces_some (drop at s) some_at
      ∙ ap (λ (k : ℕ). take k (drop at s) ∷ pieces_of (drop k (drop at s))) length_at
      ∙ ap (λ (l : List ℕ). take (next - at) (drop at s) ∷ pieces_of l) (drop-drop (next - at) at s ∙ ap (λ (k : ℕ). drop k s) g)

  pub records_at : records_of (drop at s) ≡ take (end - at) (drop at s) ∷ records_of (drop next s)
  unfolding records_of
  records_at =
      let k : span is_text (drop at s) ≡ end - at = omega arith in
      let b : bare (take (next - at) (drop at s)) ≡ take (end - at) (drop at s) =
      ap (λ (j : ℕ). bare (take j (drop at s))) (sym length_at) ∙ bare_piece (drop at s) ∙ ap (λ (j : ℕ). take j (drop at s)) k in
      ap (λ (r : List (List ℕ)). map bare r) pieces_at ∙ ap (λ (x : List ℕ). x ∷ records_of (drop next s)) b
