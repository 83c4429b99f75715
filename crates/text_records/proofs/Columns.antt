-- Columns: where the n-th kept character of a record stands among its characters as received. By induction on the characters.
-- Assumes nothing.
use mathlib.Core.Path.{◌≡◌, refl, sym, ap, ◌∙◌}
use mathlib.Core.Bool.{Bool, true, false, ◌||◌}
use mathlib.Core.List.{List, [], ◌∷◌}
use Prim.Native.Nat.{ℕ, zero, suc, ◌+◌, ◌-◌, ◌≤◌, ◌<◌, zero-le, suc-le-suc}
use native.Mathlib.Numerals.{add-one}
use native.Mathlib.Omega.{arith}
use lib.Dec.{eqb}
use lib.ListN.{length, get_or, take, drop, drop_of_length-le}
use lib.Seq.{drop-cons}
use borrow.Author.Tests.{ne_eqb, not-true, not-false}
use Rattle.cells.proofs.Split.{by_test, by_bool, cond-true, cond-false, or_false, or_left, or_right}
use Rattle.text_records.specs.declared.Seen.{Seen}
use Rattle.text_records.specs.Cleaning.{is_high, is_control, is_mark, kept_of, column_of, has}
use Rattle.text_records.specs.Window.{seen_of, is_kept, left_behind}

-- place 0 has column 0
pub column_none : (xs : List ℕ) → column_of xs 0 ≡ 0
unfolding column_of
column_none [] = refl
column_none (c ∷ cs) = refl

column_cons : (c : ℕ) (cs : List ℕ) (n : ℕ) → (n ≡ 0 → ⊥) → column_of (c ∷ cs) n ≡ suc (column_of cs (left_behind c n))
unfolding column_of
column_cons c cs n h = cond-false (eqb n 0) 0 _ (ne_eqb n 0 h)

-- one character is still to be kept, or one fewer
left_ignored : (c n : ℕ) → (is_high c || is_control c) ≡ true → left_behind c n ≡ n
left_ignored c n g = cond-true (is_high c || is_control c) n (n - 1) g

left_kept : (c n : ℕ) → (is_high c || is_control c) ≡ false → left_behind c (suc n) ≡ n
left_kept c n g = cond-false (is_high c || is_control c) (suc n) (suc n - 1) g ∙ (let e : suc n - 1 ≡ n = omega arith in e)

pub left_as : (c n : ℕ) {b : Bool} → b ≡ is_kept c → (b ≡ true → n - 1 ≡ left_behind c n) × (b ≡ false → n ≡ left_behind c n)
unfolding is_kept
left_as c n {b} e = (
  λ t. sym (cond-false (is_high c || is_control c) n (n - 1) (not-true (is_high c || is_control c) (sym e ∙ t))),
  λ f. sym (cond-true (is_high c || is_control c) n (n - 1) (not-false (is_high c || is_control c) (sym e ∙ f))),
)

column_on : (c : ℕ) (cs : List ℕ) (n : ℕ) {m : ℕ} → left_behind c (suc n) ≡ m → column_of (c ∷ cs) (suc n) ≡ suc (column_of cs m)
column_on c cs n e = column_cons c cs (suc n) (λ z. absurd (omega arith)) ∙ ap (λ (y : ℕ). suc (column_of cs y)) e

-- no column is past the record
pub column_within : (xs : List ℕ) (n : ℕ) → column_of xs n ≤ length xs
unfolding column_of
column_within [] n = zero-le
column_within (c ∷ cs) n =
    by_test (λ (k : ℕ). k ≤ suc (length cs)) (eqb n 0) 0 (suc (column_of cs (left_behind c n)))
    (λ e. zero-le)
    (λ e. suc-le-suc (column_within cs (left_behind c n)))

-- ---- the loop: what is behind i characters comes on top of them
module _ (xs : List ℕ) (i n : ℕ) {k : ℕ} (e : i + column_of (drop i xs) n ≡ k) where
  pub column_stop : n ≡ 0 → i ≡ k
  column_stop z =
      let a : column_of (drop i xs) n ≡ 0 = ap (column_of (drop i xs)) z ∙ column_none (drop i xs) in
      omega arith

  pub column_end : length xs ≤ i → i ≡ k
  unfolding column_of
  column_end h =
      let a : column_of (drop i xs) n ≡ 0 = ap (λ (z : List ℕ). column_of z n) (let d : drop i xs ≡ [] = drop_of_length-le xs h in d) in
      omega arith

  pub column_turn : i < length xs → (n ≡ 0 → ⊥) → {m : ℕ} → m ≡ left_behind (get_or xs i 0) n → i + 1 + column_of (drop (i + 1) xs) m ≡ k
  column_turn h z {m} f =
      let a : column_of (drop i xs) n ≡ suc (column_of (drop (i + 1) xs) m) =
      ap (λ (l : List ℕ). column_of l n) (drop-cons xs i 0 h ∙ ap (λ (j : ℕ). get_or xs i 0 ∷ drop j xs) (sym (add-one i)))
      ∙ column_cons (get_or xs i 0) (drop (i + 1) xs) n z
      ∙ ap (λ (y : ℕ). suc (column_of (drop (i + 1) xs) y)) (sym f) in
      omega arith

-- ---- where nothing up to there is ignored, the column is the place
none_front : (p : ℕ → Bool) (xs : List ℕ) (n : ℕ) → has p xs ≡ false → has p (take n xs) ≡ false
unfolding has
none_front p xs zero e = refl
none_front p [] (suc n) e = refl
none_front p (c ∷ cs) (suc n) e = or_false (p c) (has p (take n cs)) (or_left (p c) (has p cs) e) (none_front p cs n (or_right (p c) (has p cs) e))

column_clean : (xs : List ℕ) (n : ℕ) → n ≤ length xs → has is_high (take n xs) ≡ false → has is_control (take n xs) ≡ false → column_of xs n ≡ n
unfolding has
column_clean xs zero h a b = column_none xs
column_clean [] (suc n) h a b = absurd (omega arith)
column_clean (c ∷ cs) (suc n) h a b =
    let z : (is_high c || is_control c) ≡ false =
    or_false (is_high c) (is_control c) (or_left (is_high c) (has is_high (take n cs)) a) (or_left (is_control c) (has is_control (take n cs)) b) in
    column_on c cs n (left_kept c n z)
    ∙ ap suc
    (column_clean cs n (omega arith) (or_right (is_high c) (has is_high (take n cs)) a) (or_right (is_control c) (has is_control (take n cs)) b))

-- and so in a record where nothing is ignored
pub column_unmarred : (xs : List ℕ) (n : ℕ) → n ≤ length xs → has is_high xs ≡ false → has is_control xs ≡ false → column_of xs n ≡ n
column_unmarred xs n h a b = column_clean xs n h (none_front is_high xs n a) (none_front is_control xs n b)

-- as the code has it: from what was seen up to there
pub column_seen : (xs : List ℕ) (n : ℕ) {v : Seen} → v ≡ seen_of (take n xs) → n ≤ length xs → v.high ≡ false → v.control ≡ false → n ≡ column_of xs n
unfolding seen_of
column_seen xs n e h a b = sym (column_clean xs n h (ap (λ (w : Seen). w.high) (sym e) ∙ a) (ap (λ (w : Seen). w.control) (sym e) ∙ b))

-- ---- the character in that column is the n-th kept one, and the text goes on from there
pub record Column (xs : List ℕ) (n column : ℕ) : Type 0 where
  pub index : ℕ
  pub counted : column ≡ suc index
  pub within : index < length xs
  pub same : get_or xs index 0 ≡ get_or (kept_of xs) n 0
  pub kept : (is_high (get_or xs index 0) || is_control (get_or xs index 0)) ≡ false
  pub text : kept_of (drop index xs) ≡ drop n (kept_of xs)

module _ (c : ℕ) (cs : List ℕ) (m : is_mark c ≡ false) where
  kept_past : (is_high c || is_control c) ≡ true → kept_of (c ∷ cs) ≡ kept_of cs
  unfolding kept_of
  kept_past g = cond-false (is_mark c) [] _ m ∙ cond-true (is_high c || is_control c) (kept_of cs) _ g

  kept_here : (is_high c || is_control c) ≡ false → kept_of (c ∷ cs) ≡ c ∷ kept_of cs
  unfolding kept_of
  kept_here g = cond-false (is_mark c) [] _ m ∙ cond-false (is_high c || is_control c) (kept_of cs) _ g

  column_past : (n : ℕ) → (is_high c || is_control c) ≡ true → Column cs n (column_of cs (suc n)) → Column (c ∷ cs) n (column_of (c ∷ cs) (suc n))
  column_past n g x =
      record {
        index = suc x.index;
        counted =
            column_on c cs n (left_ignored c (suc n) g) ∙ ap suc x.counted;
        within = suc-le-suc x.within;
        same = x.same ∙ ap (λ (l : List ℕ). get_or l n 0) (sym (kept_past g));
        kept = x.kept;
        text = x.text ∙ ap (λ (l : List ℕ). drop n l) (sym (kept_past g));
      }

  column_first : (is_high c || is_control c) ≡ false → Column (c ∷ cs) 0 (column_of (c ∷ cs) 1)
  column_first g =
      record {
        index = 0;
        counted =
            column_on c cs 0 (left_kept c 0 g) ∙ ap suc (column_none cs);
        within = suc-le-suc zero-le;
        same = ap (λ (l : List ℕ). get_or l 0 0) (sym (kept_here g));
        kept = g;
        text = refl;
      }

  column_later : (n : ℕ) → (is_high c || is_control c) ≡ false → Column cs n (column_of cs (suc n)) → Column (c ∷ cs) (suc n) (column_of (c ∷ cs) (suc (suc n)))
  column_later n g x =
      record {
        index = suc x.index;
        counted =
            column_on c cs (suc n) (left_kept c (suc n) g) ∙ ap suc x.counted;
        within = suc-le-suc x.within;
        same = x.same ∙ ap (λ (l : List ℕ). get_or l (suc n) 0) (sym (kept_here g));
        kept = x.kept;
        text = x.text ∙ ap (λ (l : List ℕ). drop (suc n) l) (sym (kept_here g));
      }

pub column_is : (xs : List ℕ) (n : ℕ) → n < length (kept_of xs) → Column xs n (column_of xs (suc n))
unfolding kept_of
column_is [] n h = absurd (omega arith)
column_is (c ∷ cs) n h =
    by_bool (is_mark c)
    (λ m. let z : length (kept_of (c ∷ cs)) ≡ 0 = ap (λ (l : List ℕ). length l) (cond-true (is_mark c) [] _ m) in absurd (omega arith))
    (λ m.
    by_bool (is_high c || is_control c)
    (λ g.
    let z : length (kept_of (c ∷ cs)) ≡ length (kept_of cs) = ap (λ (l : List ℕ). length l) (kept_past c cs m g) in
    column_past c cs m n g (column_is cs n (omega arith)))
    (λ g. column_from c cs m g n h (column_is cs)))
  where
    column_from : (c : ℕ) (cs : List ℕ) → is_mark c ≡ false → (is_high c || is_control c) ≡ false → (n : ℕ) → n < length (kept_of (c ∷ cs))
        → ((k : ℕ) → k < length (kept_of cs) → Column cs k (column_of cs (suc k))) → Column (c ∷ cs) n (column_of (c ∷ cs) (suc n))
    column_from c cs m g zero h ih = column_first c cs m g
    column_from c cs m g (suc n) h ih =
        let z : length (kept_of (c ∷ cs)) ≡ suc (length (kept_of cs)) = ap (λ (l : List ℕ). length l) (kept_here c cs m g) in
        column_later c cs m n g (ih n (omega arith))
