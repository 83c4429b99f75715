-- The lent list after a load: the reports from the front, as many as there is room for, and every other entry as it was; and nothing
-- else of the answer looks at it. By the laws of `put`.
-- Assumes nothing.
use mathlib.Core.Path.{◌≡◌, refl, sym, ap, ◌∙◌}
use mathlib.Core.List.{List, ◌++◌, map}
use Prim.Native.Nat.{ℕ, ◌+◌, ◌-◌, ◌≤◌, ◌<◌, min}
use native.Mathlib.Omega.{arith}
use lib.ListN.{length, get_or, take, drop, length-map, length-take, get_or-map, get_or-append}
use lib.Seq.{get_or-take, get_or-append-add, get_or-drop}
use Rattle.cells.proofs.Put.{length-put, put_zero}
use Rattle.store_desk.specs.declared.Desk.{Desk}
use Rattle.load.specs.Run.{Report, load_of, all_reports, report_word, stored_in, totals_of}
use Rattle.theorem_told.specs.Answer.{answered, no_report}

module _ (lent : List ℕ) (rs : List Report) where
  words : List ℕ
  words = take (length lent) (map report_word rs)

  words_count : length words ≡ min (length lent) (length rs)
  unfolding words
  words_count = length-take (length lent) (map report_word rs) ∙ ap (λ (n : ℕ). min (length lent) n) (length-map rs report_word)

  pub stored_length : length (stored_in lent rs) ≡ length lent
  unfolding stored_in words
  stored_length = let h : length words ≡ min (length lent) (length rs) = words_count in length-put lent 0 words (omega arith)

  stored_is : stored_in lent rs ≡ words ++ drop (length words) lent
  unfolding stored_in words
  stored_is = put_zero lent words

  -- entry k is the word of report k
  pub stored_word : (k : ℕ) → k < length rs → k < length lent → get_or (stored_in lent rs) k 0 ≡ report_word (get_or rs k no_report)
  unfolding words report_word
  stored_word k h g =
      let n : length words ≡ min (length lent) (length rs) = words_count in
      let l : k < length words = omega arith in
      ap (λ (s : List ℕ). get_or s k 0) stored_is
      ∙ get_or-append words (drop (length words) lent) 0 k l
      ∙ get_or-take (length lent) (map report_word rs) k 0 g
      ∙ get_or-map report_word rs k no_report

  -- entries not stored to keep their values
  pub stored_kept : (k : ℕ) → length rs ≤ k → get_or (stored_in lent rs) k 0 ≡ get_or lent k 0
  stored_kept k h =
      let n : length words ≡ min (length lent) (length rs) = words_count in
      let j = k - length words in
      let e : length words + j ≡ k = omega arith in
      ap (λ (s : List ℕ). get_or s k 0) stored_is
      ∙ ap (λ (i : ℕ). get_or (words ++ drop (length words) lent) i 0) (sym e)
      ∙ get_or-append-add words (drop (length words) lent) j 0
      ∙ get_or-drop (length words) lent j 0
      ∙ ap (λ (i : ℕ). get_or lent i 0) e

-- ---- of a load
module _ (d : Desk) (t stream lent : List ℕ) where
  -- the count goes on where the list is full
  pub answer_count : (answered d t stream lent).totals.reports ≡ length (all_reports (load_of d t stream))
  unfolding answered totals_of
  answer_count = refl

  pub answer_length : length (answered d t stream lent).reports ≡ length lent
  unfolding answered
  answer_length = stored_length lent (all_reports (load_of d t stream))

  pub answer_word : (k : ℕ) → k < (answered d t stream lent).totals.reports → k < length lent
      → get_or (answered d t stream lent).reports k 0 ≡ report_word (get_or (all_reports (load_of d t stream)) k no_report)
  unfolding answered totals_of
  answer_word k h g = stored_word lent (all_reports (load_of d t stream)) k h g

  pub answer_kept : (k : ℕ) → (answered d t stream lent).totals.reports ≤ k → get_or (answered d t stream lent).reports k 0 ≡ get_or lent k 0
  unfolding answered totals_of
  answer_kept k h = stored_kept lent (all_reports (load_of d t stream)) k h

  -- another lent list, of any length: the same count, tallies, closing number and store
  pub lent_apart : (other : List ℕ)
      → ((answered d t stream lent).totals ≡ (answered d t stream other).totals)
      × ((answered d t stream lent).store ≡ (answered d t stream other).store)
  unfolding answered
  lent_apart other = (refl, refl)
