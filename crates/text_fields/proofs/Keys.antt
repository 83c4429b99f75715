-- Comparing words by their keys is comparing their first ten characters with a name of capitals. By induction on the two words, and on
-- the table.
-- Assumes nothing.
use mathlib.Core.Path.{◌≡◌, refl, sym, ap, ◌∙◌}
use mathlib.Core.Bool.{Bool, true, cond, ◌&&◌}
use mathlib.Core.List.{List, [], ◌∷◌, map}
use Prim.Native.Nat.{ℕ, ◌+◌, ◌-◌, ◌*◌, ◌≤◌}
use native.Mathlib.Omega.{arith}
use lib.Dec.{eqb, leb}
use lib.ListN.{take}
use borrow.Author.Tests.{eqb-true, eq-eqb, ne_eqb, leb-true, lt-leb}
use Rattle.cells.proofs.Split.{by_bool, by_test, cond-true, cond-false, same_test, and_left, and_right, and_true, and_false_left}
use Rattle.text_fields.specs.Keywords.{upper, same_text, same_word_of, Row, meaning_of, keyword_rows, item_rows, dollar}
use Rattle.text_fields.specs.declared.Keyword.{Keyword}
use Rattle.text_fields.specs.declared.Keyword.TheVariants.{Local, Comment, Unknown}
use Rattle.text_fields.specs.declared.Item.{Item}
use Rattle.text_fields.specs.declared.Item.TheVariants.{Local as localItem, Other}
use Rattle.text_fields.specs.Tables.{is_capital, letter_of, field_key, row_key, meaning_by, keyword_by, item_by}

-- ---- a character's five bits
letter_low : (c : ℕ) → 1 ≤ letter_of c
unfolding letter_of
letter_low c =
    by_test (λ (k : ℕ). 1 ≤ k) (is_capital (upper c)) (upper c - 64) 31
    (λ e. let h : 65 ≤ upper c = leb-true 65 (upper c) (and_left (leb 65 (upper c)) (leb (upper c) 90) e) in omega arith) (λ e. omega arith)

pub letter_high : (c : ℕ) → letter_of c ≤ 31
unfolding letter_of
letter_high c =
    by_test (λ (k : ℕ). k ≤ 31) (is_capital (upper c)) (upper c - 64) 31
    (λ e. let h : upper c ≤ 90 = leb-true (upper c) 90 (and_right (leb 65 (upper c)) (leb (upper c) 90) e) in omega arith) (λ e. omega arith)

-- a capital is its own
upper_capital : (d : ℕ) → is_capital d ≡ true → upper d ≡ d
unfolding upper
upper_capital d e =
    let h : d ≤ 90 = leb-true d 90 (and_right (leb 65 d) (leb d 90) e) in
    cond-false (leb 97 d && leb d 122) (d - 32) d (and_false_left (leb 97 d) (leb d 122) (lt-leb 97 d (omega arith)))

letter_of_lem : (c d : ℕ) → is_capital d ≡ true → upper c ≡ d → letter_of c ≡ d - 64
unfolding letter_of
letter_of_lem c d e f =
    cond-true (is_capital (upper c)) (upper c - 64) 31 (ap (λ (k : ℕ). is_capital k) f ∙ e) ∙ ap (λ (k : ℕ). k - 64) f

letter_self : (d : ℕ) → is_capital d ≡ true → letter_of d ≡ d - 64
letter_self d e = letter_of_lem d d e (upper_capital d e)

-- a character has a capital's five bits just where it is that capital, in either case
letter_same : (c d : ℕ) → is_capital d ≡ true → letter_of c ≡ letter_of d → upper c ≡ d
unfolding letter_of
letter_same c d e f =
    let s : letter_of d ≡ d - 64 = letter_self d e in
    let l : 65 ≤ d = leb-true 65 d (and_left (leb 65 d) (leb d 90) e) in
    let h : d ≤ 90 = leb-true d 90 (and_right (leb 65 d) (leb d 90) e) in
    by_bool (is_capital (upper c))
    (λ t.
    let g : letter_of c ≡ upper c - 64 = cond-true (is_capital (upper c)) (upper c - 64) 31 t in
    let u : 65 ≤ upper c = leb-true 65 (upper c) (and_left (leb 65 (upper c)) (leb (upper c) 90) t) in
    omega arith)
    (λ t.
    let g : letter_of c ≡ 31 = cond-false (is_capital (upper c)) (upper c - 64) 31 t in
    absurd (omega arith))

-- ---- words against names of capitals
all_capitals : List ℕ → Bool
all_capitals [] = true
all_capitals (d ∷ ds) = is_capital d && all_capitals ds

same_key : (w n : List ℕ) → all_capitals n ≡ true → same_text (map upper w) n ≡ eqb (field_key w) (field_key n)
unfolding same_text field_key all_capitals
same_key [] [] h = refl
same_key [] (d ∷ n) h = let l : 1 ≤ letter_of d = letter_low d in sym (ne_eqb 0 (field_key n * 32 + letter_of d) (omega arith))
same_key (c ∷ w) [] h = let l : 1 ≤ letter_of c = letter_low c in sym (ne_eqb (field_key w * 32 + letter_of c) 0 (omega arith))
same_key (c ∷ w) (d ∷ n) h =
    let hd : is_capital d ≡ true = and_left (is_capital d) (all_capitals n) h in
    let i : same_text (map upper w) n ≡ eqb (field_key w) (field_key n) = same_key w n (and_right (is_capital d) (all_capitals n) h) in
    let l₁ : letter_of c ≤ 31 = letter_high c in
    let l₂ : letter_of d ≤ 31 = letter_high d in
    same_test (eqb (upper c) d && same_text (map upper w) n) _
    (λ e.
    let a : letter_of c ≡ letter_of d =
    letter_of_lem c d hd (eqb-true (upper c) d (and_left (eqb (upper c) d) (same_text (map upper w) n) e)) ∙ sym (letter_self d hd) in
    let b : field_key w ≡ field_key n = eqb-true (field_key w) (field_key n) (sym i ∙ and_right (eqb (upper c) d) (same_text (map upper w) n) e) in
    eq-eqb (field_key w * 32 + letter_of c) (field_key n * 32 + letter_of d) (omega arith))
    (λ e.
    let k : field_key w * 32 + letter_of c ≡ field_key n * 32 + letter_of d =
    eqb-true (field_key w * 32 + letter_of c) (field_key n * 32 + letter_of d) e in
    let a : letter_of c ≡ letter_of d = omega arith in
    let b : field_key w ≡ field_key n = omega arith in
    and_true (eqb (upper c) d) (same_text (map upper w) n) (eq-eqb (upper c) d (letter_same c d hd a)) (i ∙ eq-eqb (field_key w) (field_key n) b))

-- ---- a table of such names
capital_rows : {A : Type 0} → List (Row A) → Bool
capital_rows [] = true
capital_rows (r ∷ rs) = all_capitals (take 10 r.name) && capital_rows rs

meaning_key : {A : Type 0} (rows : List (Row A)) (other : A) (w : List ℕ) → capital_rows rows ≡ true
    → meaning_by rows other (field_key (take 10 w)) ≡ meaning_of rows other w
unfolding meaning_of meaning_by capital_rows same_word_of
meaning_key [] other w h = refl
meaning_key {A} (r ∷ rs) other w h =
    let n : List ℕ = take 10 r.name in
    let k : ℕ = field_key (take 10 w) in
    let e : same_word_of w r.name ≡ eqb k (field_key n) = same_key (take 10 w) n (and_left (all_capitals n) (capital_rows rs) h) in
    let i : meaning_by rs other k ≡ meaning_of rs other w = meaning_key rs other w (and_right (all_capitals n) (capital_rows rs) h) in
    λ j. cond (sym e j) r.means (i j)

pub keyword_key : (w : List ℕ) → meaning_by keyword_rows Unknown (field_key (take 10 w)) ≡ meaning_of keyword_rows Unknown w
unfolding keyword_rows capital_rows all_capitals
keyword_key w = meaning_key keyword_rows Unknown w refl

pub item_key : (w : List ℕ) → meaning_by item_rows Other (field_key (take 10 w)) ≡ meaning_of item_rows Other w
unfolding item_rows capital_rows all_capitals
item_key w = meaning_key item_rows Other w refl

-- ---- the table row by row, as the code goes
module _ {A : Type 0} (r : Row A) (rs : List (Row A)) (other : A) (k : ℕ) where
  pub row_miss : {v : A} → (k ≡ row_key r → ⊥) → v ≡ meaning_by rs other k → v ≡ meaning_by (r ∷ rs) other k
  unfolding meaning_by
  row_miss f e = e ∙ sym (cond-false (eqb k (row_key r)) r.means _ (ne_eqb k (row_key r) f))

pub row_none : {A : Type 0} (other : A) (k : ℕ) → other ≡ meaning_by [] other k
unfolding meaning_by
row_none other k = refl

-- ---- a word by its first two characters and its number
module _ (a b k : ℕ) where
  pub by_comment : a ≡ dollar → b ≡ dollar → Comment ≡ keyword_by a b k
  unfolding keyword_by
  by_comment e f = sym (cond-true (eqb a dollar) _ _ (eq-eqb a dollar e) ∙ cond-true (eqb b dollar) Comment Local (eq-eqb b dollar f))

  pub by_local : a ≡ dollar → (b ≡ dollar → ⊥) → Local ≡ keyword_by a b k
  unfolding keyword_by
  by_local e f = sym (cond-true (eqb a dollar) _ _ (eq-eqb a dollar e) ∙ cond-false (eqb b dollar) Comment Local (ne_eqb b dollar f))

  pub by_keyword : {v : Keyword} → (a ≡ dollar → ⊥) → v ≡ meaning_by keyword_rows Unknown k → v ≡ keyword_by a b k
  unfolding keyword_by
  by_keyword f e = e ∙ sym (cond-false (eqb a dollar) _ _ (ne_eqb a dollar f))

module _ (a k : ℕ) where
  pub by_local_item : a ≡ dollar → localItem ≡ item_by a k
  unfolding item_by
  by_local_item e = sym (cond-true (eqb a dollar) localItem _ (eq-eqb a dollar e))

  pub by_item : {v : Item} → (a ≡ dollar → ⊥) → v ≡ meaning_by item_rows Other k → v ≡ item_by a k
  unfolding item_by
  by_item f e = e ∙ sym (cond-false (eqb a dollar) localItem _ (ne_eqb a dollar f))
