-- The whole load with translation: from what the walk, the links and the end ensure to the definition, and that there is room for the reports.
-- By the laws of the counters.
-- Assumes nothing.
use mathlib.Core.Path.{◌≡◌, sym, ap, ◌∙◌, subst}
use mathlib.Core.Bool.{Bool}
use mathlib.Core.List.{List, flatten}
use Prim.Native.Nat.{ℕ, ◌+◌, ◌≤◌}
use native.Mathlib.Omega.{arith}
use lib.ListN.{length, take, replicate, length-append, length-replicate}
use Rattle.store_desk.specs.declared.Desk.{Desk}
use Rattle.text_records.specs.Stream.{records_of}
use Rattle.text_records.proofs.Stream.{records_count}
use Rattle.text_records.proofs.Counts.{characters_few}
use Rattle.load.specs.declared.Totals.{Totals}
use Rattle.load.specs.Condition.{no_enddata}
use Rattle.load.specs.Step.{nothing_open}
use Rattle.load.specs.Run.{Report, Run, all_reports, stored_in, totals_of}
use Rattle.load.specs.Fits.{most_records}
use Rattle.load.specs.Translated.{anew_from_one, Note, run_in, notes_in, most_cues, asked_by, bornes, Linked, linked, lost_link, with_links, translated_of}
use Rattle.load.proofs.Counts.{run_in_records, run_in-reports, lost_few}
use Rattle.load.proofs.Anew.{notes_count}
use Rattle.load_hear.specs.Marks.{marks_by}
use Rattle.load_hear.specs.declared.Book.{Book}
use Rattle.load_hear.specs.Naming.{noted_by}
use Rattle.load_hear.specs.Book.{book_numbers, BookWithin, booked_at, new_book}
use Rattle.load_hear.proofs.Booking.{noted_marks, noted_asked}
use Rattle.load_tell.specs.declared.Count.{Count}
use Rattle.load_tell.specs.Count.{count_of, Told, told, Reportable}
use Rattle.load_tell.proofs.Counting.{after, count_reportable}
use Rattle.load_run.specs.declared.Progress.{Progress}
use Rattle.load_run.specs.Loaded.{run_loaded, loaded_of, Walked, walked, walked_by, walk_of, closed, close_of}
use Rattle.load_run.proofs.Closing.{close_run}
use Rattle.load_translate.specs.Bearing.{marked_bornes}
use Rattle.load_translate.specs.Links.{Links, linking, linked_by, Losing}
use Rattle.load_translate.proofs.Links.{lost_told_lem}
use Rattle.load_translate.proofs.Marks.{marks_bornes}

-- ---- the end of a run
run_loaded_lem : (x : Run) (reps : List ℕ) {n : Count} {l us : List ℕ} {b : Bool} {r : Totals} {t : List ℕ}
    → told n l ≡ after x.outcomes reps x.reports → b ≡ x.stopped → closed r us ≡ close_of n b l → t ≡ x.store
    → run_loaded r t us ≡ loaded_of x reps
unfolding loaded_of
run_loaded_lem x reps {n} {l} {us} {b} {r} {t} e f g h =
    let q : closed r us ≡ closed (totals_of x) (stored_in reps (all_reports x)) =
    g ∙ (λ i. close_of (e i).count (f i) (e i).list) ∙ close_run x reps in
    λ i. run_loaded (q i).totals (h i) (q i).reports

-- ---- the walk begins with a new book
pub new_within : {b : Book} → b ≡ new_book → BookWithin b 0
new_within e =
    subst (λ (x : Book). BookWithin x 0) (sym e) (record { cues = omega arith; groups = omega arith; subs = omega arith; tried = omega arith })

pub walked_new : (d : Desk) (t₀ stream reps₀ : List ℕ) {w : Walked Book} {b : Book} → b ≡ new_book
    → w ≡ walk_of book_numbers booked_at d t₀ stream reps₀ b → w ≡ walk_of book_numbers booked_at d t₀ stream reps₀ new_book
walked_new d t₀ stream reps₀ e f = f ∙ ap (walk_of book_numbers booked_at d t₀ stream reps₀) e

-- ---- after the walk
module _ (d : Desk) (t₀ stream reps₀ : List ℕ) (long : length stream ≤ most_records) where
  abbrev run : Run
  run = run_in d 0 anew_from_one nothing_open t₀ (records_of stream)

  abbrev notes : List Note
  notes = notes_in d anew_from_one nothing_open t₀ (records_of stream)

  abbrev links : Linked
  links = linked d (asked_by (replicate most_cues 0) notes) (bornes (records_of stream) notes) run.store

  few_records : length run.outcomes ≤ length (records_of stream)
  few_records = run_in_records d 0 anew_from_one nothing_open t₀ (records_of stream)

  few_outcomes : length run.outcomes ≤ most_records
  few_outcomes =
      let a : length run.outcomes ≤ length (records_of stream) = few_records in
      let b : length (records_of stream) ≤ length stream = records_count stream in
      omega arith

  few_reports : length run.reports ≤ most_records
  few_reports =
      let a : length run.reports ≤ length (flatten (records_of stream)) = run_in-reports d 0 anew_from_one nothing_open t₀ (records_of stream) in
      let b : length (flatten (records_of stream)) ≤ length stream = characters_few stream in
      omega arith

  module _ (p : Progress) {t reps : List ℕ} {k : Book} (e : walked p t reps k ≡ walk_of book_numbers booked_at d t₀ stream reps₀ new_book) where
    walk_is : walked p t reps k
        ≡ record {
          count = count_of run.outcomes run.reports;
          stopped = run.stopped;
          store = run.store;
          reports = stored_in reps₀ run.reports;
          book = noted_by booked_at new_book notes;
        }
    unfolding walk_of walked_by
    walk_is = e

    walk_marks : k.marks ≡ marks_by (replicate 8192 0) 0 notes
    walk_marks = ap (λ (y : Walked Book). y.book.marks) walk_is ∙ noted_marks notes new_book

    walk_asked : k.asked ≡ asked_by (replicate most_cues 0) notes
    walk_asked = ap (λ (y : Walked Book). y.book.asked) walk_is ∙ noted_asked notes new_book

    walked_records : p.count.records ≡ length run.outcomes
    unfolding count_of
    walked_records = ap (λ (y : Walked Book). y.count.records) walk_is

    walked_reports : p.count.reports ≡ length run.reports
    unfolding count_of
    walked_reports = ap (λ (y : Walked Book). y.count.reports) walk_is

    pub walk_losing : Losing p.count
    walk_losing =
        let a = walked_records in
        let b = walked_reports in
        let f = few_outcomes in
        let g = few_reports in
        record { numbered = omega arith; room = omega arith }

    pub walk_records : p.count.records ≤ length (records_of stream)
    walk_records = subst (λ (k : ℕ). k ≤ length (records_of stream)) (sym walked_records) few_records

    walk_bornes : marked_bornes k.marks 0 (take p.count.records (records_of stream)) ≡ bornes (records_of stream) notes
    walk_bornes =
        let c : p.count.records ≡ length notes = walked_records ∙ sym (notes_count d 0 anew_from_one nothing_open t₀ (records_of stream)) in
        (λ i. marked_bornes (walk_marks i) 0 (take (c i) (records_of stream))) ∙ marks_bornes d t₀ stream long

    -- ---- after the links
    module _ {n : Count} {u us : List ℕ}
        (f : linking n u us ≡ linked_by (linked d k.asked (marked_bornes k.marks 0 (take p.count.records (records_of stream))) t) (told p.count reps)) where
      abbrev whole : Run
      whole = with_links run links

      links_is : linking n u us ≡ linked_by links (after run.outcomes reps₀ run.reports)
      links_is =
          f
          ∙ (λ i. linked_by (linked d (walk_asked i) (walk_bornes i) (walk_is i).store) (told (walk_is i).count (walk_is i).reports))

      links_told : told n us ≡ after whole.outcomes reps₀ whole.reports
      unfolding linked_by
      links_told = ap (λ (y : Links). y.told) links_is ∙ lost_told_lem run.outcomes reps₀ run.reports links.lost

      links_store : u ≡ whole.store
      unfolding linked_by
      links_store = ap (λ (y : Links). y.store) links_is

      pub close_room : d.cues ≤ most_cues → Reportable n no_enddata 0
      close_room h =
          let a = few_outcomes in
          let b = few_reports in
          let l : links.lost ≤ d.cues = lost_few d (asked_by (replicate most_cues 0) notes) (bornes (records_of stream) notes) run.store in
          let q : Report = lost_link (length run.outcomes) in
          let j : length whole.reports ≡ length run.reports + length (replicate links.lost q) =
          length-append run.reports (replicate links.lost q) in
          let k : length (replicate links.lost q) ≡ links.lost = length-replicate links.lost q in
          subst (λ (m : Count). Reportable m no_enddata 0) (sym (ap (λ (y : Told). y.count) links_told))
          (count_reportable whole.outcomes whole.reports no_enddata 0 a (omega arith) (omega arith) (omega arith))

      -- ---- and after the end
      pub translated_loaded : {r : Totals} {vs : List ℕ} → closed r vs ≡ close_of n p.stopped us
          → run_loaded r u vs ≡ loaded_of (translated_of d t₀ stream) reps₀
      unfolding translated_of
      translated_loaded g = run_loaded_lem whole reps₀ links_told (ap (λ (y : Walked Book). y.stopped) walk_is) g links_store
