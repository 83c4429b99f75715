-- Faults as words in a lent list: one behind the other, read back as they were, and the list's length kept. By the laws of a part
-- replaced, and by induction on the faults.
-- Assumes nothing.
use mathlib.Core.Path.{◌≡◌, refl, sym, ap, ◌∙◌}
use mathlib.Core.List.{List, [], ◌∷◌, ◌++◌, map, append-nil, map-append}
use Prim.Native.Nat.{ℕ, ◌+◌, ◌/◌, ◌%◌, ◌<◌, ◌≤◌}
use native.Mathlib.Omega.{arith}
use lib.ListN.{length, set, take, length-append, length-map}
use Rattle.cells.specs.Put.{put}
use Rattle.cells.proofs.Put.{put_nil, put_push, part_same, length-put}
use Rattle.load.specs.declared.Entry.{Entry}
use Rattle.load.specs.declared.Entry.TheVariants.{Level, Patch, Faulty}
use Rattle.load.specs.declared.Fault.{Fault}
use Rattle.load.specs.Item.{faults_of}
use Rattle.load.specs.Run.{condition_span}
use Rattle.load.specs.Fits.{fault_word, fault_in, Small}
use Rattle.load_items.specs.Done.{faults_in, noted, noted_in}

abbrev words : List Fault → List ℕ
words xs = map (λ (f : Fault). fault_word f) xs

-- ---- the lent list
pub faults_none : (fs : List ℕ) → faults_in fs [] ≡ fs
unfolding faults_in
faults_none fs = put_nil fs 0

pub faults_length : (fs : List ℕ) (xs : List Fault) → length xs ≤ length fs → length (faults_in fs xs) ≡ length fs
unfolding faults_in
faults_length fs xs h =
    let l : length (words xs) ≡ length xs = length-map xs (λ (f : Fault). fault_word f) in
    length-put fs 0 (words xs) (omega arith)

-- what is read back
word_back : (f : Fault) → f.condition < condition_span → fault_in (fault_word f) ≡ f
word_back f h =
    let c : fault_word f % condition_span ≡ f.condition = omega arith in
    let p : fault_word f / condition_span ≡ f.place = omega arith in
    λ i. record { condition = c i; place = p i }

words_back : (xs : List Fault) → Small xs → map fault_in (words xs) ≡ xs
unfolding Small
words_back [] h = refl
words_back (f ∷ xs) h =
    let e = word_back f h.0 in
    let r = words_back xs h.1 in
    λ i. e i ∷ r i

pub faults_back : (fs : List ℕ) (xs : List Fault) → length xs ≤ length fs → Small xs → map fault_in (take (length xs) (faults_in fs xs)) ≡ xs
unfolding faults_in
faults_back fs xs h s =
    let l : length (words xs) ≡ length xs = length-map xs (λ (f : Fault). fault_word f) in
    ap (map fault_in) (part_same fs 0 (words xs) (length xs) (omega arith) l) ∙ words_back xs s

-- ---- one item's fault behind the others
pub faults_cons : (e : Entry) (es : List Entry) → faults_of (e ∷ es) ≡ faults_of (e ∷ []) ++ faults_of es
unfolding faults_of
faults_cons (Level n v) es = refl
faults_cons (Patch n k v) es = refl
faults_cons (Faulty f) es = refl

pub faults_one : (e : Entry) → length (faults_of (e ∷ [])) ≤ 1
unfolding faults_of
faults_one (Level n v) = omega arith
faults_one (Patch n k v) = omega arith
faults_one (Faulty f) = omega arith

module _ (fs : List ℕ) (xs : List Fault) {n : ℕ} {gs : List ℕ} (c : n ≡ length xs) (h : gs ≡ faults_in fs xs) (r : n < length fs) where
  none_more : noted n gs ≡ noted (length (xs ++ [])) (faults_in fs (xs ++ []))
  none_more =
      let a : xs ≡ xs ++ [] = sym (append-nil xs) in
      (λ i. noted (c i) (h i)) ∙ ap (λ (ys : List Fault). noted (length ys) (faults_in fs ys)) a

  one_more : (f : Fault) → set gs n (fault_word f) ≡ faults_in fs (xs ++ (f ∷ []))
  unfolding faults_in
  one_more f =
      let l : length (words xs) ≡ length xs = length-map xs (λ (x : Fault). fault_word x) in
      let q : n ≡ 0 + length (words xs) = omega arith in
      ap (λ (z : List ℕ). set z n (fault_word f)) h
      ∙ put_push fs 0 (words xs) n (fault_word f) q r
      ∙ ap (λ (z : List ℕ). put fs 0 z) (sym (map-append (λ (x : Fault). fault_word x) xs (f ∷ [])))

  pub noted_more : (e : Entry) → noted_in n gs e ≡ noted (length (xs ++ faults_of (e ∷ []))) (faults_in fs (xs ++ faults_of (e ∷ [])))
  unfolding noted_in faults_of
  noted_more (Level k v) = none_more
  noted_more (Patch k m v) = none_more
  noted_more (Faulty f) =
      let a : n + 1 ≡ length (xs ++ (f ∷ [])) = ap (λ (k : ℕ). k + 1) c ∙ sym (length-append xs (f ∷ [])) in
      λ i. noted (a i) (one_more f i)
