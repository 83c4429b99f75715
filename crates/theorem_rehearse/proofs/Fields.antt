-- What a field comes to on two desks: wrong on both, wrong on the smaller alone since it lies beyond its limit, or the same on both. By cases
-- on the field's value.
-- Assumes nothing.
use Rattle.std.specs.Prelude.{Err, None, Ok, Option, Result, Some}
use mathlib.Core.Path.{◌≡◌, refl}
use mathlib.Core.Bool.{Bool, true, false, cond, false≢true}
use mathlib.Core.List.{List, [], ◌∷◌}
use Prim.Native.Nat.{ℕ, ◌≤◌, ◌<◌, max}
use native.Mathlib.Nat.{mul-le-mul}
use native.Mathlib.Omega.{arith}
use lib.Dec.{eqb, ltb, leb}
use borrow.Author.Tests.{lt-ltb, lt-leb, ltb-true}
use Rattle.cells.proofs.Split.{and_false_right}
use Rattle.store_desk.specs.declared.Desk.{Desk}
use Rattle.store_desk.specs.declared.Key.{Key}
use Rattle.store_desk.specs.declared.Kind.{Kind}
use Rattle.store_desk.specs.declared.Kind.TheVariants.{Cue, Group, Sub}
use Rattle.store_desk.specs.Size.{is_within, sub_slots}
use Rattle.store_desk.specs.Name.{slot_count, pages_of, supported, ok_sub, ok_within, ok_page, ok_name}
use Rattle.store_desk.proofs.Size.{within, within_true, all_fails}
use Rattle.text_fields.specs.Words.{Word}
use Rattle.value.specs.Integer.{integer_of}
use Rattle.value.specs.Number.{number_of, number}
use Rattle.value.specs.Field.{paged_of, page_of}
use Rattle.load.specs.declared.Fault.{Fault}
use Rattle.load.specs.Condition.{bad_sub}
use Rattle.load.specs.Item.{blame}
use Rattle.load.specs.Ask.{name, numbered_by, sub_by, numeral_of, page_at, table_pages}
use Rattle.load.specs.Fits.{highest_page}
use Rattle.theorem_rehearse.specs.Rehearse.{Larger}
use Rattle.value.specs.declared.Number.{Number}

-- ---- a test that holds on the larger desk where it holds on the smaller: on both, on the larger alone, on neither
pub by_tests : {A : Type 0} (P : A → A → Type 0) (b B : Bool) → (b ≡ true → B ≡ true) → (x y X Y : A)
    → (b ≡ true → P x X) → (b ≡ false → B ≡ true → P y X) → (B ≡ false → P y Y) → P (cond b x y) (cond B X Y)
by_tests P true true m x y X Y f g h = f refl
by_tests P true false m x y X Y f g h = absurd (false≢true (m refl))
by_tests P false true m x y X Y f g h = g refl refl
by_tests P false false m x y X Y f g h = h refl

pub within_more : (n a b : ℕ) → a ≤ b → is_within 1 n a ≡ true → is_within 1 n b ≡ true
within_more n a b l e = let w = within 1 n a e in within_true 1 n b (omega arith)

-- ---- a page
pub data Pages (limit : ℕ) : Option ℕ → Option ℕ → Type 0 where
  bad_pages : Pages limit None None
  beyond_page : (p : ℕ) → limit < p → Pages limit None (Some p)
  same_page : (p : ℕ) → Pages limit (Some p) (Some p)

page_by : (limit p : ℕ) (z b B : Bool) → (B ≡ true → b ≡ true) → (b ≡ true → limit < p)
    → Pages limit (cond z None (cond b None (Some p))) (cond z None (cond B None (Some p)))
page_by limit p true b B m h = bad_pages
page_by limit p false true true m h = bad_pages
page_by limit p false true false m h = beyond_page p (h refl)
page_by limit p false false true m h = absurd (false≢true (m refl))
page_by limit p false false false m h = same_page p

module _ (limit Limit : ℕ) (l : limit ≤ Limit) where
  paged : (i : Option ℕ) → Pages limit (paged_of limit i) (paged_of Limit i)
  unfolding paged_of
  paged None = bad_pages
  paged (Some v) =
      page_by limit v (eqb v 0) (ltb limit v) (ltb Limit v)
      (λ e. let h = ltb-true Limit v e in lt-ltb limit v (omega arith))
      (λ e. ltb-true limit v e)

  pub pages : (s : List ℕ) → Pages limit (page_of limit s) (page_of Limit s)
  unfolding page_of
  pages s = paged (integer_of s)

  pub pages_at : (other : ℕ) (ws : List Word) → Pages limit (page_at other limit ws) (page_at other Limit ws)
  unfolding page_at
  pages_at other [] = same_page other
  pages_at other (w ∷ ws) = pages w.chars

-- ---- a memory's number
abbrev pub keyed : ℕ → ℕ → ℕ → Key
keyed p w f = record { page = p; whole = w; fraction = f }

pub data Numerals (d : Desk) (k : Kind) : Result Number Fault → Result Number Fault → Type 0 where
  wrong_numbers : (x X : Fault) → Numerals d k (Err x) (Err X)
  beyond_number : (x : Fault) (n : Number) → ((p : ℕ) → ok_within d k (keyed p n.whole n.fraction) ≡ false) → Numerals d k (Err x) (Ok n)
  same_number : (n : Number) → Numerals d k (Ok n) (Ok n)

same_numeral : (d : Desk) (k : Kind) (x : Result Number Fault) → Numerals d k x x
same_numeral d k (Err x) = wrong_numbers x x
same_numeral d k (Ok n) = same_number n

sub_numerals : (d D : Desk) → d.subs ≤ D.subs → (w : Word) (i : Option ℕ) → Numerals d Sub (sub_by d w i) (sub_by D w i)
unfolding sub_by ok_within ok_sub
sub_numerals d D l w None = wrong_numbers _ _
sub_numerals d D l w (Some n) =
    let x : Fault = blame w bad_sub in
    by_tests (Numerals d Sub) (is_within 1 n d.subs) (is_within 1 n D.subs) (within_more n d.subs D.subs l)
    (Ok (number n 0)) (Err x) (Ok (number n 0)) (Err x)
    (λ e. same_number (number n 0))
    (λ e E. beyond_number x (number n 0) (λ p. all_fails _ 0 e))
    (λ E. wrong_numbers x x)

pub numerals : (d D : Desk) → Larger d D → (k : Kind) (w : Word) → Numerals d k (numeral_of d k w) (numeral_of D k w)
unfolding numeral_of
numerals d D l Cue w = same_numeral d Cue (numbered_by w (number_of w.chars))
numerals d D l Group w = same_numeral d Group (numbered_by w (number_of w.chars))
numerals d D l Sub w = sub_numerals d D l.subs w (integer_of w.chars)

-- ---- a name that the smaller cannot have
module _ (d : Desk) (k : Kind) (y : Key) where
  pub not_supported : supported d k ≡ false → ok_name d (name k y) ≡ false
  unfolding ok_name
  not_supported e = all_fails _ 0 e

  pub not_within : ok_within d k y ≡ false → ok_name d (name k y) ≡ false
  unfolding ok_name
  not_within e = all_fails _ 1 e

  pub not_page : pages_of d k < y.page → ok_name d (name k y) ≡ false
  unfolding ok_name ok_page
  not_page h = all_fails _ 2 (and_false_right (leb 1 y.page) (leb y.page (pages_of d k)) (lt-leb y.page (pages_of d k) h))

-- ---- the pages and the support of a kind
module _ (d D : Desk) (l : Larger d D) where
  pub more_pages : (k : Kind) → pages_of d k ≤ pages_of D k
  unfolding pages_of
  more_pages Cue = l.cue_pages_of
  more_pages Group = l.group_pages_of
  more_pages Sub = l.sub_pages_of

  more_slots : (k : Kind) → slot_count d k ≤ slot_count D k
  unfolding slot_count sub_slots
  more_slots Cue = l.cues
  more_slots Group = l.groups
  more_slots Sub = mul-le-mul l.subs l.sub_pages_of

  pub supports : (k : Kind) → supported d k ≡ true → supported D k ≡ true
  unfolding supported
  supports k e =
      let a = ltb-true 0 (slot_count d k) e in
      let b = more_slots k in
      lt-ltb 0 (slot_count D k) (omega arith)

  -- of CLEAR ALL
  pub more_tables : (k : Kind) → table_pages d k ≤ table_pages D k
  unfolding table_pages
  more_tables k =
      by_tests (λ (x X : ℕ). x ≤ X) (supported d k) (supported D k) (supports k) (pages_of d k) 0 (pages_of D k) 0
      (λ e. more_pages k)
      (λ e E. omega arith)
      (λ E. omega arith)

  most_more : (a b A B : ℕ) → a ≤ A → b ≤ B → max a b ≤ max A B
  most_more a b A B h g = omega arith

  pub more_most : highest_page d ≤ highest_page D
  unfolding highest_page
  more_most =
      most_more _ _ _ _ (most_more _ _ _ _ (more_tables Cue) (more_tables Group)) (most_more _ _ _ _ (more_tables Sub) l.patch_pages_of)
