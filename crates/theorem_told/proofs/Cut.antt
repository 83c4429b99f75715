-- The records of the front of a stream: those that ended in it, and then what there is of the next one. By induction on the records,
-- each by where the front ends: before its terminator, within it, or past it. How many ended is counted here, record by record.
-- Assumes nothing.
use mathlib.Core.Path.{◌≡◌, refl, sym, ap, ◌∙◌, subst}
use mathlib.Core.Bool.{Bool, true, false, cond}
use mathlib.Core.Logic.{◌↔◌}
use mathlib.Core.List.{List, [], ◌∷◌, ◌++◌, flatten}
use Prim.Native.Nat.{ℕ, zero, suc, ◌+◌, ◌-◌, ◌≤◌, ◌<◌, zero-le, suc-le-suc, min}
use native.Mathlib.Nat.{le_refl, sub-zero, not-suc-le-zero, le_of_suc-le-suc}
use native.Mathlib.Omega.{arith}
use lib.Dec.{eqb, ltb}
use lib.ListN.{length, get_or, take, drop, length-append, length-take, length-drop, length-map, drop_of_length-le}
use lib.Seq.{length-take-le, take_all, take-nil, take-take, get_or-drop}
use borrow.Author.Tests.{lt-ltb, le-ltb, not-false}
use Rattle.cells.specs.Scan.{span}
use Rattle.cells.proofs.Scan.{span_hit, span_miss, span_le, span_at, span-take}
use Rattle.cells.proofs.Put.{part_of_front}
use Rattle.cells.proofs.Split.{by_test, by_bool, by_lt, by_le, cond-true, cond-false}
use Rattle.text_records.specs.Stream.{CR, LF, is_end, is_text, terminated, terminator_of, record_end, piece_length, pieces_in, pieces_of, bare, records_of}
use Rattle.text_records.proofs.Stream.{terminated_two, terminated_some, piece_shorter, pieces_some, bare_piece, records_at, records_end, start_within}
use Rattle.theorem_told.specs.Cut.{piece_start, text_end, EndedBefore, started_before, if_any, cut_record}

-- ---- the count
-- a record, with its terminator, has a terminator, and the first byte of that lies before place k
abbrev ends_before : ℕ → List ℕ → Bool
ends_before k piece = ltb (length (bare piece)) (min k (length piece))

-- how many of the records, each with its terminator, end before place k
unfoldable ended_in : ℕ → List (List ℕ) → ℕ
ended_in k [] = 0
ended_in k (p ∷ ps) = let r = suc (ended_in (k - length p) ps) in cond (ends_before k p) r 0

unfoldable ended_before : ℕ → List ℕ → ℕ
ended_before k stream = ended_in k (pieces_of stream)

-- what is behind the first record and its terminator
abbrev after_first : List ℕ → List ℕ
after_first s = drop (piece_length s) s

-- ---- the text of a record in a front
-- a front of passing elements passes
span_part : (p : ℕ → Bool) (k : ℕ) (s : List ℕ) → k ≤ span p s → span p (take k s) ≡ length (take k s)
unfolding span
span_part p zero s h = refl
span_part p (suc k) [] h = refl
span_part p (suc k) (c ∷ s) h =
    by_bool (p c)
    (λ e.
    let a : span p (c ∷ s) ≡ suc (span p s) = span_hit p c s e in
    let l : k ≤ span p s = omega arith in
    span_hit p c (take k s) e ∙ ap suc (span_part p k s l))
    (λ e. let a : span p (c ∷ s) ≡ 0 = span_miss p c s e in absurd (omega arith))

-- ---- the terminator in a front
one_of_two : (b : Bool) → 1 ≡ min 1 (cond b 2 1)
one_of_two true = refl
one_of_two false = refl

cut_terminated : (c d : ℕ) → terminated c 0 ≡ min 1 (terminated c d)
unfolding terminated
cut_terminated c d =
    by_bool (eqb c CR) (λ e. rw e (one_of_two (eqb d LF)))
    (λ e. rw e (by_bool (eqb c LF) (λ f. rw f (one_of_two (eqb d CR))) (λ f. rw f)))

cut_terminator : (k : ℕ) (s : List ℕ) → 0 < k → terminator_of (take k s) ≡ min k (terminator_of s)
cut_terminator zero s h = absurd (not-suc-le-zero h)
cut_terminator (suc zero) [] h = cut_terminated 0 0
cut_terminator (suc zero) (c ∷ s) h = cut_terminated c (get_or s 0 0)
cut_terminator (suc (suc k)) [] h = let t : terminated 0 0 ≤ 2 = terminated_two 0 0 in omega arith
cut_terminator (suc (suc k)) (c ∷ []) h = let t : terminated c 0 ≤ 2 = terminated_two c 0 in omega arith
cut_terminator (suc (suc k)) (c ∷ (d ∷ s)) h = let t : terminated c d ≤ 2 = terminated_two c d in omega arith

-- ---- the first record of a stream
-- its characters and a terminator, unless the stream ends with its characters
first_past : (s : List ℕ) → min (length s) (span is_text s + 1) ≤ piece_length s
first_past s =
    let a = span is_text s in
    by_lt a (length s)
    (λ h.
    let z : a + 0 ≡ a = omega arith in
    let g : get_or (drop a s) 0 0 ≡ get_or s a 0 = get_or-drop a s 0 0 ∙ ap (λ (i : ℕ). get_or s i 0) z in
    let e : is_end (get_or s a 0) ≡ true = not-false (is_end (get_or s a 0)) (span_at is_text s h) in
    let t : 0 < terminator_of (drop a s) = terminated_some (get_or (drop a s) 0 0) (get_or (drop a s) 1 0) (ap is_end g ∙ e) in
    omega arith)
    (λ h. omega arith)

module _ (s : List ℕ) (h : 0 < length s) where
  first_within : piece_length s ≤ length s
  first_within = start_within s (span is_text s) (span_le is_text s)

  records_first : records_of s ≡ take (span is_text s) s ∷ records_of (after_first s)
  records_first =
      let e : span is_text s ≡ record_end s 0 = omega arith in
      records_at s {at = 0} {end = span is_text s} {next = piece_length s} h e refl
      ∙ ap (λ (j : ℕ). take j s ∷ records_of (after_first s)) (sub-zero (span is_text s))

-- a stream of text alone is one record, if it has a character
text_records_lem : (s : List ℕ) → span is_text s ≡ length s → records_of s ≡ if_any s
unfolding if_any
text_records_lem [] e = records_end [] 0 zero-le
text_records_lem (c ∷ s) e =
    let l : length (c ∷ s) ≤ piece_length (c ∷ s) = omega arith in
    records_first (c ∷ s) (suc-le-suc zero-le)
    ∙ ap (λ (x : List ℕ). x ∷ records_of (after_first (c ∷ s))) (take_all (span is_text (c ∷ s)) (c ∷ s) (omega arith))
    ∙ ap (λ (x : List (List ℕ)). (c ∷ s) ∷ x) (records_end (c ∷ s) (piece_length (c ∷ s)) l)

-- ---- the first record of a front
front_drop : (s : List ℕ) (b k : ℕ) → b ≤ k → drop b (take k s) ≡ take (k - b) (drop b s)
front_drop s b k h =
    let e : b + (k - b) ≡ k = omega arith in
    ap (λ (j : ℕ). drop b (take j s)) (sym e) ∙ sym (part_of_front s b (k - b))

-- what is behind the first record
front_rest : (s : List ℕ) (b k : ℕ) → drop (min k b) (take k s) ≡ take (k - b) (drop b s)
front_rest s b k =
    let l : length (take k s) ≡ min k (length s) = length-take k s in
    by_le b k
    (λ h. let e : min k b ≡ b = omega arith in ap (λ (j : ℕ). drop j (take k s)) e ∙ front_drop s b k h)
    (λ h.
    let m : length (take k s) ≤ min k b = omega arith in
    let z : 0 ≡ k - b = omega arith in
    drop_of_length-le (take k s) m ∙ ap (λ (j : ℕ). take j (drop b s)) z)

module _ (s : List ℕ) (k : ℕ) (h : 0 < length s) (g : span is_text s < k) where
  front_piece : piece_length (take k s) ≡ min k (piece_length s)
  front_piece =
      let a = span is_text s in
      let e : span is_text (take k s) ≡ a = span-take is_text k s (omega arith) in
      let d : drop (span is_text (take k s)) (take k s) ≡ take (k - a) (drop a s) =
      ap (λ (j : ℕ). drop j (take k s)) e ∙ front_drop s a k (omega arith) in
      let t : terminator_of (drop (span is_text (take k s)) (take k s)) ≡ min (k - a) (terminator_of (drop a s)) =
      ap terminator_of d ∙ cut_terminator (k - a) (drop a s) (omega arith) in
      omega arith

  front_ended : records_of (take k s) ≡ take (span is_text s) s ∷ records_of (take (k - piece_length s) (after_first s))
  front_ended =
      let a = span is_text s in
      let l : length (take k s) ≡ min k (length s) = length-take k s in
      let m : 0 < length (take k s) = omega arith in
      let e : span is_text (take k s) ≡ a = span-take is_text k s (omega arith) in
      let r : after_first (take k s) ≡ take (k - piece_length s) (after_first s) =
      ap (λ (j : ℕ). drop j (take k s)) front_piece ∙ front_rest s (piece_length s) k in
      records_first (take k s) m
      ∙ ap (λ (x : List ℕ). x ∷ records_of (after_first (take k s))) (ap (λ (j : ℕ). take j (take k s)) e ∙ take-take a k s (omega arith))
      ∙ ap (λ (x : List ℕ). take a s ∷ records_of x) r

-- a front that ends before the terminator, or a record that has none
front_started : (s : List ℕ) (k : ℕ) → min k (piece_length s) ≤ span is_text s → records_of (take k s) ≡ if_any (take k (take (span is_text s) s))
front_started s k h =
    by_le k (span is_text s)
    (λ g. text_records_lem (take k s) (span_part is_text k s g) ∙ ap if_any (sym (take-take k (span is_text s) s g)))
    (λ g.
    let p : min (length s) (span is_text s + 1) ≤ piece_length s = first_past s in
    let m : span is_text s ≤ length s = span_le is_text s in
    let e : span is_text s ≡ length s = omega arith in
    let a : take k s ≡ s = take_all k s (omega arith) in
    let b : take (span is_text s) s ≡ s = take_all (span is_text s) s (omega arith) in
    ap records_of a ∙ text_records_lem s e ∙ ap if_any (sym (ap (λ (x : List ℕ). take k x) b ∙ a)))

-- ---- how many end, and where the next one starts: one record at a time
module _ (s : List ℕ) (h : 0 < length s) where
  piece_size : length (take (piece_length s) s) ≡ piece_length s
  piece_size = length-take-le (piece_length s) s (first_within s h)

  record_size : length (bare (take (piece_length s) s)) ≡ span is_text s
  record_size = ap length (bare_piece s) ∙ length-take-le (span is_text s) s (span_le is_text s)

  module _ (k : ℕ) where
    ended_first : ended_before k s ≡ cond (ltb (span is_text s) (min k (piece_length s))) (suc (ended_before (k - piece_length s) (after_first s))) 0
    unfolding ended_before ended_in
    ended_first =
        let p = take (piece_length s) s in
        let ps = pieces_of (after_first s) in
        ap (λ (x : List (List ℕ)). ended_in k x) (pieces_some s h)
        ∙ ap (λ (m : ℕ). cond (ltb m (min k (length p))) (suc (ended_in (k - length p) ps)) 0) record_size
        ∙ ap (λ (m : ℕ). cond (ltb (span is_text s) (min k m)) (suc (ended_in (k - m) ps)) 0) piece_size

    ended_here : span is_text s < min k (piece_length s) → ended_before k s ≡ suc (ended_before (k - piece_length s) (after_first s))
    ended_here g = ended_first ∙ cond-true _ _ _ (lt-ltb (span is_text s) (min k (piece_length s)) g)

    ended_none : min k (piece_length s) ≤ span is_text s → ended_before k s ≡ 0
    ended_none g = ended_first ∙ cond-false _ _ _ (le-ltb (span is_text s) (min k (piece_length s)) g)

  start_suc : (n : ℕ) → piece_start s (suc n) ≡ piece_length s + piece_start (after_first s) n
  unfolding piece_start flatten
  start_suc n =
      let p = take (piece_length s) s in
      let ps = pieces_of (after_first s) in
      ap (λ (x : List (List ℕ)). length (flatten (take (suc n) x))) (pieces_some s h)
      ∙ length-append p (flatten (take n ps))
      ∙ ap (λ (m : ℕ). m + length (flatten (take n ps))) piece_size

  started_suc : (k n : ℕ) → started_before k s (suc n) ≡ started_before (k - piece_length s) (after_first s) n
  unfolding started_before
  started_suc k n =
      let e : piece_start s (suc n) ≡ piece_length s + piece_start (after_first s) n = start_suc n in
      let m : k - piece_start s (suc n) ≡ k - piece_length s - piece_start (after_first s) n = omega arith in
      ap (λ (x : List (List ℕ)). take (k - piece_start s (suc n)) (get_or x (suc n) [])) (records_first s h)
      ∙ ap (λ (j : ℕ). take j (get_or (records_of (after_first s)) n [])) m

  started_zero : (k : ℕ) → started_before k s 0 ≡ take k (take (span is_text s) s)
  unfolding started_before piece_start flatten
  started_zero k =
      ap (λ (x : List (List ℕ)). take (k - 0) (get_or x 0 [])) (records_first s h) ∙ ap (λ (j : ℕ). take j (take (span is_text s) s)) (sub-zero k)

-- ---- the records of a front
abbrev CutAt : List ℕ → ℕ → Type 0
CutAt s k = records_of (take k s) ≡ take (ended_before k s) (records_of s) ++ if_any (started_before k s (ended_before k s))

cut_nil : (k : ℕ) → CutAt [] k
unfolding ended_before ended_in started_before if_any records_of pieces_of pieces_in
cut_nil k = ap records_of (take-nil k) ∙ ap if_any (sym (take-nil (k - piece_start [] 0)))

cut_some : (s : List ℕ) (k : ℕ) → 0 < length s → CutAt (after_first s) (k - piece_length s) → CutAt s k
cut_some s k h ih =
    let a = span is_text s in
    let n = ended_before (k - piece_length s) (after_first s) in
    by_lt a (min k (piece_length s))
    (λ g.
    front_ended s k h (omega arith)
    ∙ ap (λ (x : List (List ℕ)). take a s ∷ x) ih
    ∙ ap (λ (x : List ℕ). take a s ∷ (take n (records_of (after_first s)) ++ if_any x)) (sym (started_suc s h k n))
    ∙ ap (λ (x : List (List ℕ)). take (suc n) x ++ if_any (started_before k s (suc n))) (sym (records_first s h))
    ∙ ap (λ (j : ℕ). take j (records_of s) ++ if_any (started_before k s j)) (sym (ended_here s h k g)))
    (λ g.
    front_started s k g
    ∙ ap if_any (sym (started_zero s h k))
    ∙ ap (λ (j : ℕ). take j (records_of s) ++ if_any (started_before k s j)) (sym (ended_none s h k g)))

cut_in : (m : ℕ) (s : List ℕ) (k : ℕ) → length s ≤ m → CutAt s k
cut_in zero [] k h = cut_nil k
cut_in zero (c ∷ s) k h = absurd (not-suc-le-zero h)
cut_in (suc m) [] k h = cut_nil k
cut_in (suc m) (c ∷ s) k h =
    cut_some (c ∷ s) k (suc-le-suc zero-le) (cut_in m (after_first (c ∷ s)) (k - piece_length (c ∷ s)) (piece_shorter c s (le_of_suc-le-suc h)))

-- no more have ended than there are
ended_in_lem : (k : ℕ) (ps : List (List ℕ)) → ended_in k ps ≤ length ps
unfolding ended_in
ended_in_lem k [] = zero-le
ended_in_lem k (p ∷ ps) =
    by_test (λ (n : ℕ). n ≤ suc (length ps)) (ends_before k p) (suc (ended_in (k - length p) ps)) 0
    (λ e. suc-le-suc (ended_in_lem (k - length p) ps))
    (λ e. zero-le)

count_few : (stream : List ℕ) (k : ℕ) → ended_before k stream ≤ length (records_of stream)
unfolding ended_before records_of
count_few stream k =
    subst (λ (n : ℕ). ended_in k (pieces_of stream) ≤ n) (sym (length-map (pieces_of stream) bare)) (ended_in_lem k (pieces_of stream))

-- ---- which they are: record i has ended exactly if the place behind its characters lies in the stream and before k
module _ (s : List ℕ) (h : 0 < length s) where
  end_zero : text_end s 0 ≡ span is_text s
  unfolding piece_start flatten
  end_zero =
      let e : length (get_or (records_of s) 0 []) ≡ span is_text s =
      ap (λ (x : List (List ℕ)). length (get_or x 0 [])) (records_first s h) ∙ length-take-le (span is_text s) s (span_le is_text s) in
      omega arith

  end_suc : (i : ℕ) → text_end s (suc i) ≡ piece_length s + text_end (after_first s) i
  end_suc i =
      let e : piece_start s (suc i) ≡ piece_length s + piece_start (after_first s) i = start_suc s h i in
      let f : length (get_or (records_of s) (suc i) []) ≡ length (get_or (records_of (after_first s)) i []) =
      ap (λ (x : List (List ℕ)). length (get_or x (suc i) [])) (records_first s h) in
      omega arith

abbrev EndedAt : List ℕ → ℕ → ℕ → Type 0
EndedAt s k i = (i < ended_before k s) ↔ (text_end s i < min k (length s))

module _ (s : List ℕ) (h : 0 < length s) (k : ℕ) where
  zero_are : EndedAt s k 0
  zero_are =
      let e : text_end s 0 ≡ span is_text s = end_zero s h in
      let p : min (length s) (span is_text s + 1) ≤ piece_length s = first_past s in
      let w : piece_length s ≤ length s = first_within s h in
      by_lt (span is_text s) (min k (piece_length s))
      (λ l.
      let z : ended_before k s ≡ suc (ended_before (k - piece_length s) (after_first s)) = ended_here s h k l in
      ((λ g. omega arith), (λ g. omega arith)))
      (λ l. let z : ended_before k s ≡ 0 = ended_none s h k l in ((λ g. absurd (omega arith)), (λ g. absurd (omega arith))))

  suc_are : (i : ℕ) → EndedAt (after_first s) (k - piece_length s) i → EndedAt s k (suc i)
  suc_are i ih =
      let e : text_end s (suc i) ≡ piece_length s + text_end (after_first s) i = end_suc s h i in
      let r : length (after_first s) ≡ length s - piece_length s = length-drop (piece_length s) s in
      let p : min (length s) (span is_text s + 1) ≤ piece_length s = first_past s in
      by_lt (span is_text s) (min k (piece_length s))
      (λ l.
      let z : ended_before k s ≡ suc (ended_before (k - piece_length s) (after_first s)) = ended_here s h k l in (
        (λ g. let f : text_end (after_first s) i < min (k - piece_length s) (length (after_first s)) = ih.0 (omega arith) in omega arith),
        (λ g. let f : i < ended_before (k - piece_length s) (after_first s) = ih.1 (omega arith) in omega arith),
      ))
      (λ l. let z : ended_before k s ≡ 0 = ended_none s h k l in ((λ g. absurd (omega arith)), (λ g. absurd (omega arith))))

none_are : (k i : ℕ) → EndedAt [] k i
unfolding ended_before ended_in pieces_of pieces_in
none_are k i = ((λ g. absurd (not-suc-le-zero g)), (λ g. absurd (omega arith)))

count_are : (i : ℕ) (stream : List ℕ) (k : ℕ) → EndedAt stream k i
count_are zero [] k = none_are k 0
count_are zero (c ∷ s) k = zero_are (c ∷ s) (suc-le-suc zero-le) k
count_are (suc i) [] k = none_are k (suc i)
count_are (suc i) (c ∷ s) k = suc_are (c ∷ s) (suc-le-suc zero-le) k i (count_are i (after_first (c ∷ s)) (k - piece_length (c ∷ s)))

-- that place holds the first byte of a terminator
pub end_byte : (i : ℕ) (stream : List ℕ) → text_end stream i < length stream → is_end (get_or stream (text_end stream i) 0) ≡ true
end_byte zero [] h = absurd (omega arith)
end_byte zero (c ∷ s) h =
    let stream = c ∷ s in
    let e : text_end stream 0 ≡ span is_text stream = end_zero stream (suc-le-suc zero-le) in
    ap (λ (j : ℕ). is_end (get_or stream j 0)) e ∙ not-false (is_end (get_or stream (span is_text stream) 0)) (span_at is_text stream (omega arith))
end_byte (suc i) [] h = absurd (omega arith)
end_byte (suc i) (c ∷ s) h =
    let stream = c ∷ s in
    let e : text_end stream (suc i) ≡ piece_length stream + text_end (after_first stream) i = end_suc stream (suc-le-suc zero-le) i in
    let r : length (after_first stream) ≡ length stream - piece_length stream = length-drop (piece_length stream) stream in
    ap (λ (j : ℕ). is_end (get_or stream j 0)) e
    ∙ ap is_end (sym (get_or-drop (piece_length stream) stream (text_end (after_first stream) i) 0))
    ∙ end_byte i (after_first stream) (omega arith)

-- ---- so many have ended
-- there is one such number, and no other
pub ended_some : (stream : List ℕ) (k : ℕ) → (n : ℕ) × EndedBefore stream k n
ended_some stream k = (ended_before k stream, λ i. count_are i stream k)

pub ended_one : (stream : List ℕ) (k n m : ℕ) → EndedBefore stream k n → EndedBefore stream k m → n ≡ m
ended_one stream k n m h g =
    by_lt n m
    (λ l. let z : n < n = (h n).1 ((g n).0 l) in absurd (omega arith))
    (λ l. by_lt m n (λ b. let z : m < m = (g m).1 ((h m).0 b) in absurd (omega arith)) (λ b. omega arith))

module _ (stream : List ℕ) (k n : ℕ) (h : EndedBefore stream k n) where
  counted : ended_before k stream ≡ n
  counted = ended_one stream k (ended_before k stream) n (λ i. count_are i stream k) h

  -- no more than there are
  pub ended_few : n ≤ length (records_of stream)
  ended_few = subst (λ (m : ℕ). m ≤ length (records_of stream)) counted (count_few stream k)

  -- the records of the first k bytes: those that have ended, and then what there is of the next
  pub records_cut : records_of (take k stream) ≡ take n (records_of stream) ++ cut_record k stream n
  unfolding cut_record
  records_cut =
      cut_in (length stream) stream k (le_refl (length stream)) ∙ ap (λ (m : ℕ). take m (records_of stream) ++ if_any (started_before k stream m)) counted
