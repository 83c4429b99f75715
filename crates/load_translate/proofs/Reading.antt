-- What a record bears, as the code reads it: by its first field, and of a CUE by the next. By the laws of fields at a place, and by cases on the
-- family.
-- Assumes nothing.
use Rattle.std.proofs.Common.{Option, None, Some, ◌⊎◌, inl, inr}
use mathlib.Core.Path.{◌≡◌, sym, ap, ◌∙◌, subst}
use mathlib.Core.Bool.{Bool, true, false}
use mathlib.Core.List.{List, [], ◌∷◌}
use Prim.Native.Nat.{ℕ, ◌+◌, ◌≤◌, ◌<◌}
use native.Mathlib.Omega.{arith}
use lib.ListN.{length, take}
use borrow.Author.Tests.{lt-ltb, le-ltb}
use Rattle.cells.proofs.Split.{by_test, cond-true, cond-false}
use Rattle.store_desk.specs.declared.Kind.{Kind}
use Rattle.store_desk.specs.declared.Kind.TheVariants.{Cue, Group, Sub}
use Rattle.text_records.specs.Received.{longest}
use Rattle.text_records.specs.Cleaning.{kept_of}
use Rattle.text_records.proofs.Cleaning.{kept_length}
use Rattle.text_fields.specs.declared.Said.{Said}
use Rattle.text_fields.specs.Words.{Word, words_of, fields_of, head_of}
use Rattle.text_fields.specs.Places.{words_from, start_at, end_at, is_more, word_at}
use Rattle.text_fields.specs.Keywords.{keyword_of}
use Rattle.text_fields.specs.Tables.{said_at}
use Rattle.text_fields.proofs.Words.{words_none, words_some, words_head}
use Rattle.value.specs.Number.{borne_of, no_number}
use Rattle.value.specs.Integer.{cap}
use Rattle.value.proofs.Numbers.{borne_most}
use Rattle.load.specs.declared.Basic.{Basic}
use Rattle.load.specs.declared.Family.{Family}
use Rattle.load.specs.declared.Family.TheVariants.{Primary, Augments, Basic as Basically}
use Rattle.load.specs.declared.Secondary.{Secondary}
use Rattle.load.specs.Ask.{family_of, is_over_long}
use Rattle.load_naming.proofs.Fields.{keyword-said}
use Rattle.load_run.proofs.Taking.{Texted}
use Rattle.load_translate.specs.Bearing.{family_bearing, fields_bearing, bearing_in, Bearable}

-- ---- by the family
module _ (ws : List Word) {f : Family} where
  pub cue_bears : {k : Kind} {n : ℕ} → f ≡ Primary k → k ≡ Cue → n ≡ borne_of (head_of ws).chars → Some n ≡ family_bearing f ws
  unfolding family_bearing
  cue_bears e g h = ap (λ (n : ℕ). Some n) h ∙ sym (ap (λ (x : Family). family_bearing x ws) (e ∙ ap (λ (k : Kind). Primary k) g))

  pub kind_bears : {k : Kind} → f ≡ Primary k → (k ≡ Group) ⊎ (k ≡ Sub) → None ≡ family_bearing f ws
  unfolding family_bearing
  kind_bears e g =
      sym
      (ap (λ (x : Family). family_bearing x ws) e
      ∙ elim g [ inl h ↦ ap (λ (k : Kind). family_bearing (Primary k) ws) h | inr h ↦ ap (λ (k : Kind). family_bearing (Primary k) ws) h ])

  pub other_bears : ((x : Secondary) × (f ≡ Augments x)) ⊎ ((x : Basic) × (f ≡ Basically x)) → None ≡ family_bearing f ws
  unfolding family_bearing
  other_bears g =
      sym (elim g [ inl h ↦ ap (λ (x : Family). family_bearing x ws) h.1 | inr h ↦ ap (λ (x : Family). family_bearing x ws) h.1 ])

-- ---- a record's first field
module _ (text : List ℕ) {start : ℕ} (e : start ≡ start_at text 0) where
  pub blank_bears : length text ≤ start → None ≡ fields_bearing (words_of 0 text)
  unfolding fields_bearing
  blank_bears h =
      let m : is_more text 0 ≡ false = le-ltb (start_at text 0) (length text) (subst (λ (n : ℕ). length text ≤ n) e h) in
      sym (ap fields_bearing (words_none text 0 m))

  module _ {said : Said} (g : said ≡ said_at text start) where
    pub family_bears : start < length text → {f : Family} → f ≡ family_of said.keyword → {r : Option ℕ}
        → r ≡ family_bearing f (words_from text said.end) → r ≡ fields_bearing (words_of 0 text)
    unfolding fields_bearing
    family_bears h q p =
        let m : is_more text 0 ≡ true = lt-ltb (start_at text 0) (length text) (subst (λ (n : ℕ). n < length text) e h) in
        let w : head_of (words_from text 0) ≡ word_at text 0 = words_head text 0 in
        p
        ∙ ap (λ (x : Family). family_bearing x (words_from text said.end)) q
        ∙ ap (λ (y : Said). family_bearing (family_of y.keyword) (words_from text y.end)) (keyword-said text e g)
        ∙ ap (λ (v : Word). family_bearing (family_of (keyword_of v.chars)) (words_from text (end_at text 0))) w
        ∙ sym (ap fields_bearing (words_some text 0 m))

-- ---- a record as received
pub long_bears : (r : List ℕ) → is_over_long r ≡ true → None ≡ bearing_in r
unfolding bearing_in
long_bears r e = sym (cond-true (is_over_long r) None (fields_bearing (fields_of r)) e)

-- its text, however it was come by
pub record Cleared (xs bytes : List ℕ) (n : ℕ) : Type 0 where
  pub within : n ≤ length bytes
  pub text : take n bytes ≡ kept_of xs

pub cleared_as : {xs bytes ys : List ℕ} {n m : ℕ} {high control : Bool} → Texted xs bytes n high control → ys ≡ bytes → m ≡ n → Cleared xs ys m
cleared_as {xs} {bytes} {ys} {n} {m} w e f =
    subst (λ (z : List ℕ). Cleared xs z m) (sym e)
    (subst (λ (z : ℕ). Cleared xs bytes z) (sym f) (record { within = w.within; text = w.text }))

module _ {xs bytes : List ℕ} {n : ℕ} (w : Cleared xs bytes n) where
  pub text_bears : is_over_long xs ≡ false → {b : Option ℕ} → b ≡ fields_bearing (words_of 0 (take n bytes)) → b ≡ bearing_in xs
  unfolding bearing_in fields_of
  text_bears o e =
      e
      ∙ ap (λ (z : List ℕ). fields_bearing (words_of 0 z)) w.text
      ∙ sym (cond-false (is_over_long xs) None (fields_bearing (fields_of xs)) o)

  pub text_short : length xs ≤ longest → length (take n bytes) ≤ longest
  text_short h =
      let a : length (take n bytes) ≡ length (kept_of xs) = ap (λ (z : List ℕ). length z) w.text in
      let b : length (kept_of xs) ≤ length xs = kept_length xs in
      omega arith

-- ---- a number that a field writes is far below what wraps
bears_fit : (s : List ℕ) → Bearable (Some (borne_of s))
bears_fit s = let h : borne_of s ≤ no_number + cap = borne_most s in let g : borne_of s < 4294967295 = omega arith in g

family_fits : (f : Family) (ws : List Word) → Bearable (family_bearing f ws)
unfolding family_bearing
family_fits (Primary Cue) ws = bears_fit (head_of ws).chars
family_fits (Primary Group) ws = tt
family_fits (Primary Sub) ws = tt
family_fits (Augments e) ws = tt
family_fits (Basically b) ws = tt

fields_fit : (ws : List Word) → Bearable (fields_bearing ws)
unfolding fields_bearing
fields_fit [] = tt
fields_fit (w ∷ ws) = family_fits (family_of (keyword_of w.chars)) ws

pub bearing_fits : (r : List ℕ) {b : Option ℕ} → b ≡ bearing_in r → Bearable b
unfolding bearing_in
bearing_fits r e =
    subst (λ (x : Option ℕ). Bearable x) (sym e)
    (by_test (λ (x : Option ℕ). Bearable x) (is_over_long r) None (fields_bearing (fields_of r)) (λ t. tt) (λ t. fields_fit (fields_of r)))
