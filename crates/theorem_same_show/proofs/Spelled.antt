-- The fields of a line that is put together from words and delimiters are those words; their places stay open. By the laws of a text's
-- fields at a place.
-- Assumes nothing.
use mathlib.Core.Path.{◌≡◌, refl, sym, ap, ◌∙◌, subst}
use mathlib.Core.Bool.{true, false, not}
use mathlib.Core.List.{List, [], ◌∷◌, ◌++◌, append-nil}
use Prim.Native.Nat.{ℕ, suc, ◌+◌, ◌-◌, ◌≤◌}
use native.Mathlib.Omega.{arith}
use lib.Dec.{eqb}
use lib.ListN.{length, get_or, take, drop, length-append}
use lib.Seq.{drop-drop, take-append_seam, drop-append-add, drop-append_seam}
use borrow.Author.Tests.{lt-ltb, ne_eqb}
use Rattle.cells.specs.Scan.{span}
use Rattle.cells.specs.Text.{bytes}
use Rattle.cells.proofs.Split.{or_false, not_of_true, not_of_false, not-not}
use Rattle.cells.proofs.Scan.{span_append, span_miss, span_hit, span_nil, all_below}
use Rattle.text_records.specs.Cleaning.{has}
use Rattle.text_fields.specs.Words.{is_delimiter, is_word, Word, words_in, words_of, fields_of}
use Rattle.text_fields.specs.Places.{start_at, end_at, is_more, word_at}
use Rattle.text_fields.proofs.Words.{words_some}
use Rattle.value_written.specs.Text.{is_plain}
use Rattle.value_written.proofs.Texts.{by_plain, plain_in}
use Rattle.theorem_same_show.proofs.Fair.{Fair, fair_kept}

abbrev pub word : List ℕ → ℕ → Word
word x q = record { chars = x; place = q }

-- words with these characters, at some places
unfoldable pub spelled : List (List ℕ) → List ℕ → List Word
spelled [] qs = []
spelled (x ∷ xs) qs = word x (get_or qs 0 0) ∷ spelled xs (drop 1 qs)

-- whatever stands before it, a text has these fields
abbrev pub Spells : List ℕ → List (List ℕ) → Type 0
Spells text xs = (before : List ℕ) → (qs : List ℕ) × (words_of (length before) text ≡ spelled xs qs)

-- a word: characters that are no delimiters, one at least
abbrev pub OneWord : List ℕ → Type 0
OneWord w = (span is_word w ≡ length w) × (1 ≤ length w)

-- what can follow a word
abbrev pub Ends : List ℕ → Type 0
Ends rest = span is_word rest ≡ 0

pub ends_nil : Ends []
ends_nil = span_nil is_word

pub spells_nil : Spells [] []
unfolding spelled words_of words_in
spells_nil before = ([], refl)

-- ---- delimiters, a word, and what follows
module _ (ds w rest : List ℕ) (hd : span is_delimiter ds ≡ length ds) (hw : OneWord w) (he : Ends rest) where
  no_delimiter : (c : ℕ) (s : List ℕ) → span is_word (c ∷ s) ≡ length (c ∷ s) → span is_delimiter (c ∷ (s ++ rest)) ≡ 0
  no_delimiter c s e =
      let g : is_word c ≡ true = all_below is_word (c ∷ s) e 0 (omega arith) in
      span_miss is_delimiter c (s ++ rest) (sym (not-not (is_delimiter c)) ∙ ap not g)

  begins : (v : List ℕ) → OneWord v → span is_delimiter (v ++ rest) ≡ 0
  begins [] h = absurd (omega (arith, h.1))
  begins (c ∷ s) h = no_delimiter c s h.0

  text : List ℕ
  text = ds ++ (w ++ rest)

  module _ (before : List ℕ) where
    whole : List ℕ
    whole = before ++ text

    front : List ℕ
    front = before ++ (ds ++ w)

    start : start_at whole (length before) ≡ length before + length ds
    unfolding start_at text whole
    start =
        let a : span is_delimiter text ≡ length ds + span is_delimiter (w ++ rest) = span_append is_delimiter ds (w ++ rest) hd in
        let b : span is_delimiter (w ++ rest) ≡ 0 = begins w hw in
        ap (λ (x : List ℕ). length before + span is_delimiter x) (drop-append_seam before text)
        ∙ (let z : length before + span is_delimiter text ≡ length before + length ds = omega arith in z)

    behind : drop (length before + length ds) whole ≡ w ++ rest
    unfolding text whole
    behind = drop-append-add before text (length ds) ∙ drop-append_seam ds (w ++ rest)

    end : end_at whole (length before) ≡ length before + length ds + length w
    unfolding end_at
    end =
        ap (λ (k : ℕ). k + span is_word (drop k whole)) start
        ∙ ap (λ (x : List ℕ). length before + length ds + span is_word x) behind
        ∙ ap (λ (k : ℕ). length before + length ds + k)
        (let a : span is_word (w ++ rest) ≡ length w + span is_word rest = span_append is_word w rest hw.0 in
        let z : span is_word (w ++ rest) ≡ length w = omega (arith, he) in z)

    more : is_more whole (length before) ≡ true
    unfolding text whole
    more =
        let a : length whole ≡ length before + length text = length-append before text in
        let b : length text ≡ length ds + length (w ++ rest) = length-append ds (w ++ rest) in
        let c : length (w ++ rest) ≡ length w + length rest = length-append w rest in
        let e : start_at whole (length before) ≡ length before + length ds = start in
        lt-ltb (start_at whole (length before)) (length whole) (omega (arith, hw.1))

    first_chars : (word_at whole (length before)).chars ≡ w
    first_chars =
        let n : ℕ = length before + length ds in
        (λ i. take (end i - start i) (drop (start i) whole))
        ∙ ap (λ (x : List ℕ). take (n + length w - n) x) behind
        ∙ ap (λ (k : ℕ). take k (w ++ rest)) (let z : n + length w - n ≡ length w = omega arith in z)
        ∙ take-append_seam w rest

    past : end_at whole (length before) ≡ length front
    unfolding front
    past =
        let a : length (before ++ (ds ++ w)) ≡ length before + length (ds ++ w) = length-append before (ds ++ w) in
        let b : length (ds ++ w) ≡ length ds + length w = length-append ds w in
        let e : end_at whole (length before) ≡ length before + length ds + length w = end in
        omega arith

    left : drop (end_at whole (length before)) whole ≡ rest
    left =
        ap (λ (k : ℕ). drop k whole) end
        ∙ sym (drop-drop (length w) (length before + length ds) whole)
        ∙ ap (drop (length w)) behind
        ∙ drop-append_seam w rest

    words : words_of (length before) text ≡ word_at whole (length before) ∷ words_of (end_at whole (length before)) (drop (end_at whole (length before)) whole)
    unfolding whole
    words = ap (words_of (length before)) (sym (drop-append_seam before text)) ∙ words_some whole (length before) more

  spells_more : (xs : List (List ℕ)) → Spells rest xs → Spells text (w ∷ xs)
  unfolding spelled
  spells_more xs f before =
      let g = f (front before) in
      let q : ℕ = (word_at (whole before) (length before)).place in (
        q ∷ g.0,
        words before
            ∙ (λ i. word (first_chars before i) q ∷ words_of (past before i) (left before i))
            ∙ ap (λ (ws : List Word). word w q ∷ ws) g.1,
      )

-- a first word, a word behind one delimiter, and the same with nothing after it
pub spells_first : (w rest : List ℕ) (xs : List (List ℕ)) → OneWord w → Ends rest → Spells rest xs → Spells (w ++ rest) (w ∷ xs)
unfolding text
spells_first w rest xs hw he f = spells_more [] w rest (span_nil is_delimiter) hw he xs f

pub spells_next : (c : ℕ) (w rest : List ℕ) (xs : List (List ℕ)) → is_delimiter c ≡ true → OneWord w → Ends rest → Spells rest xs
    → Spells (c ∷ (w ++ rest)) (w ∷ xs)
unfolding text
spells_next c w rest xs hc hw he f =
    spells_more (c ∷ []) w rest (span_hit is_delimiter c [] hc ∙ ap suc (span_nil is_delimiter)) hw he xs f

pub spells_last : (c : ℕ) (w : List ℕ) → is_delimiter c ≡ true → OneWord w → Spells (c ∷ w) (w ∷ [])
spells_last c w hc hw =
    subst (λ (z : List ℕ). Spells (c ∷ z) (w ∷ [])) (append-nil w) (spells_next c w [] [] hc hw ends_nil spells_nil)

pub ends_at : (c : ℕ) (rest : List ℕ) → is_delimiter c ≡ true → Ends (c ∷ rest)
ends_at c rest h = span_miss is_word c rest (not_of_true (is_delimiter c) h)

-- ---- the delimiters that are written
pub space_delimits : is_delimiter 32 ≡ true
unfolding is_delimiter has
space_delimits = refl

pub less_delimits : is_delimiter 60 ≡ true
unfolding is_delimiter has
less_delimits = refl

pub at_delimits : is_delimiter 64 ≡ true
unfolding is_delimiter has
at_delimits = refl

-- ---- a written value is a word
abbrev Differs : ℕ → List ℕ → Type 0
Differs c [] = Unit {0}
Differs c (d ∷ ds) = (c ≡ d → ⊥) × Differs c ds

has_none : (c : ℕ) (ds : List ℕ) → Differs c ds → has (λ (d : ℕ). eqb c d) ds ≡ false
unfolding has
has_none c [] f = refl
has_none c (d ∷ ds) f = or_false (eqb c d) (has (λ (e : ℕ). eqb c e) ds) (ne_eqb c d f.0) (has_none c ds f.1)

word_is : (c : ℕ) → Differs c (bytes "\t ,/;<=>@") → is_word c ≡ true
unfolding is_delimiter
word_is c f = not_of_false (is_delimiter c) (has_none c (bytes "\t ,/;<=>@") f)

plain_word : (c : ℕ) → is_plain c ≡ true → is_word c ≡ true
plain_word c e =
    by_plain c e
    (λ (q : c ≡ 46). word_is c (omega arith))
    (λ (g : 48 ≤ c) (h : c ≤ 58). word_is c (omega arith))
    (λ (g : 65 ≤ c) (h : c ≤ 72). word_is c (omega arith))

pub plain_one : (w : List ℕ) → span is_plain w ≡ length w → 1 ≤ length w → OneWord w
plain_one w e h = (plain_in is_word plain_word w e, h)

-- ---- the fields of a fair line
pub fields_of_lem : (l : List ℕ) (xs : List (List ℕ)) → Fair l → Spells l xs → (qs : List ℕ) × (fields_of l ≡ spelled xs qs)
unfolding fields_of
fields_of_lem l xs e f = let g = f [] in (g.0, ap (words_of 0) (fair_kept l e) ∙ g.1)
