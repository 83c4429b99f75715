-- `tidy` given a stream that it printed: the stream reads back with only obeyed records and no report, and is written again as it was.
-- From the round trip, for the store after a load into an empty house small desk.
-- Assumes nothing.
use mathlib.Core.Path.{◌≡◌, refl, sym, ap, ◌∙◌, subst}
use mathlib.Core.List.{List, ◌++◌}
use Prim.Native.Nat.{ℕ, ◌≤◌}
use lib.ListN.{length}
use borrow.Author.Tests.{le-ltb}
use Rattle.cells.proofs.Split.{cond-false}
use Rattle.store_desk.specs.Size.{house, store_length}
use Rattle.store_head.specs.Pack.{Bytes}
use Rattle.text_records.specs.Stream.{records_of}
use Rattle.load.specs.Run.{totals_of, stored_in, all_reports}
use Rattle.theorem_same_show.specs.Show.{ReadBack, all_obeyed}
use Rattle.theorem_same_show.proofs.Theorem.{written_reads_back, records_written}
use Rattle.theorem_told.proofs.Bytes.{zero_bytes, load_bytes}
use Rattle.tidy_printed.specs.Text.{reports_text, told_text, end_text}
use Rattle.tidy_session.specs.Session.{most_input, most_shown, empty_store, read_in, report_list, answer_text, tidy_text}
use Rattle.tidy_session.specs.Again.{kept_stream, Again}
use Rattle.tidy_session.proofs.Shown.{shown_short}
use Rattle.tidy_session.proofs.Told.{empty_ready, read_ready}

read_bytes : (input : List ℕ) → Bytes (read_in input).store
unfolding read_in
read_bytes input = load_bytes house empty_store input (zero_bytes (store_length house))

-- an input that is read, where the stream is printed
read_text : (input : List ℕ) → length input ≤ most_input → tidy_text input ≡ answer_text (read_in input)
unfolding tidy_text
read_text input h = cond-false _ _ _ (le-ltb _ _ h)

printed : (input : List ℕ) → length input ≤ most_input → length (kept_stream input) ≤ most_shown
    → tidy_text input ≡ told_text (stored_in report_list (all_reports (read_in input))) (totals_of (read_in input)) ++ kept_stream input
unfolding answer_text kept_stream
printed input h l =
    read_text input h
    ∙ ap (λ (z : List ℕ). told_text (stored_in report_list (all_reports (read_in input))) (totals_of (read_in input)) ++ z)
    (shown_short (read_in input).store l)

-- no report is told as the END line alone
told_none : (reports : List ℕ) (n : ℕ) → told_text reports (all_obeyed n) ≡ end_text (all_obeyed n)
unfolding told_text reports_text
told_none reports n = refl

module _ (input : List ℕ) where
  read_back : ReadBack house (read_in input).store empty_store (read_in (kept_stream input))
  unfolding kept_stream read_in
  read_back = written_reads_back house (read_in input).store empty_store (read_ready input) (read_bytes input) empty_ready

  -- what is kept after it is written as the same stream
  kept_again : kept_stream (kept_stream input) ≡ kept_stream input
  unfolding kept_stream
  kept_again = read_back.again

  told_again : told_text (stored_in report_list (all_reports (read_in (kept_stream input)))) (totals_of (read_in (kept_stream input)))
      ≡ end_text (all_obeyed (length (records_of (kept_stream input))))
  unfolding kept_stream
  told_again =
      let x = read_back in
      let n = records_written house _ (read_ready input) (read_bytes input) in
      ap (λ (z : List ℕ). told_text z (totals_of (read_in (kept_stream input)))) (x.list report_list)
      ∙ ap (told_text report_list) (x.told ∙ ap (λ (ls : List (List ℕ)). all_obeyed (length ls)) (sym n))
      ∙ told_none report_list (length (records_of (kept_stream input)))

pub prints_again : Again
prints_again input h l =
    record {
      first = printed input h l;
      again =
          printed (kept_stream input) l (subst (λ (z : List ℕ). length z ≤ most_shown) (sym (kept_again input)) l)
          ∙ ap (λ (z : List ℕ). z ++ kept_stream (kept_stream input)) (told_again input)
          ∙ ap (λ (z : List ℕ). end_text (all_obeyed (length (records_of (kept_stream input)))) ++ z) (kept_again input);
    }
