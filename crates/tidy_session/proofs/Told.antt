-- The load into an empty house small desk is never turned away, so that `load` answers what is told: the desk is in range, zeros are in good
-- form, and the input is short.
-- Assumes nothing.
use Rattle.std.specs.Prelude.{Err, Ok, Result}
use mathlib.Core.Path.{◌≡◌, sym, ap, ◌∙◌, subst}
use mathlib.Core.List.{List, ◌++◌}
use Prim.Native.Nat.{ℕ, ◌+◌, ◌≤◌, ◌<◌}
use native.Mathlib.Omega.{arith}
use lib.ListN.{length, drop, replicate, length-append}
use borrow.Author.Tests.{lt-ltb, le-ltb}
use Rattle.cells.specs.Text.{bytes}
use Rattle.cells.proofs.Put.{put_zero}
use Rattle.cells.proofs.Split.{cond-true, cond-false}
use Rattle.store_desk.specs.declared.Refusal.{Refusal}
use Rattle.store_desk.specs.Size.{house}
use Rattle.store_desk.specs.Refusal.{Reply}
use Rattle.store_desk.proofs.Reply.{refused_no_reply}
use Rattle.store_desk.proofs.Size.{in_range, house_in_range, house_needs}
use Rattle.store.specs.Good.{Ready}
use Rattle.load.specs.declared.Totals.{Totals}
use Rattle.text_room.specs.Wrote.{wrote, wrote_at}
use Rattle.text_room.proofs.Writes.{wrote_as, wrote_then, next_is, out_is}
use Rattle.text_room.specs.Room.{Room}
use Rattle.text_room.proofs.Chain.{wrote-length}
use Rattle.show.specs.Calls.{LoadCall, load_reply, loaded_as, load_done, load_call, LoadPromise}
use Rattle.theorem_called.proofs.Answered.{load_answers, LoadAnswered, load_answered}
use Rattle.load.proofs.Steps.{load_ready}
use Rattle.store.proofs.Empty.{zeros_ready}
use Rattle.tidy_printed.specs.Text.{told_text}
use Rattle.tidy_printed.proofs.Lengths.{Tallies, told_length}
use Rattle.tidy_session.specs.Session.{most_input, most_shown, empty_store, read_in, report_list, shown_text, answer_text, tidy_text}

-- ---- the empty store
pub empty_ready : Ready house empty_store
empty_ready = zeros_ready house (in_range house house_in_range)

pub read_ready : (stream : List ℕ) → Ready house (read_in stream).store
unfolding read_in
read_ready stream = load_ready house empty_store stream empty_ready

-- ---- what `load` answers
module _ (stream : List ℕ) (short : length stream ≤ most_input) {s reps : List ℕ} where
  called : {y : Reply} → loaded_as y s reps ≡ load_call house (replicate 35136 0) (replicate 1024 0) stream
      → loaded_as y s reps ≡ load_call house empty_store report_list stream
  called e = e ∙ ap (λ (k : ℕ). load_call house (replicate k 0) report_list stream) (sym house_needs)

  answered : {y : Reply} → loaded_as y s reps ≡ load_call house (replicate 35136 0) (replicate 1024 0) stream
      → loaded_as y s reps ≡ load_done (read_in stream) report_list
  unfolding read_in
  answered e = called e ∙ load_answers house empty_store report_list stream empty_ready (omega arith)

  pub loaded_ready : {y : Reply} → loaded_as y s reps ≡ load_call house (replicate 35136 0) (replicate 1024 0) stream → Ready house s
  loaded_ready e = subst (Ready house) (sym (ap (λ (x : LoadCall). x.store) (answered e))) (read_ready stream)

  module _ {a : Result Totals Refusal} (e : LoadPromise house (replicate 35136 0) (replicate 1024 0) stream a s reps) where
    -- no refusal can occur
    pub never_away : {X : Type 0} {r : Refusal} → a ≡ Err r → X
    never_away {X} {r} f = refused_no_reply r (sym (ap load_reply f) ∙ ap (λ (x : LoadCall). x.reply) (answered e))

    pub answer_is : {t : Totals} → a ≡ Ok t → told_text reps t ++ shown_text s ≡ answer_text (read_in stream)
    unfolding read_in answer_text
    answer_is {t} f =
        let l : LoadAnswered house empty_store report_list stream t s reps =
        load_answered house empty_store report_list stream
        (subst (λ (x : Result Totals Refusal). LoadPromise house empty_store report_list stream x s reps) f (called e))
        in
        (λ i. told_text (l.list i) (l.told i) ++ shown_text (l.store i))

-- ---- room for what is told, and the longest stream behind it
pub tallies : (t : Totals) → t.blank < 4294967296 → t.obeyed < 4294967296 → t.passed < 4294967296 → t.dropped < 4294967296 → Tallies t
tallies t b o p d = record { blank = b; obeyed = o; passed = p; dropped = d }

module _ (o reps : List ℕ) (t : Totals) (f : Tallies t) (few : length reps ≤ 1024) (long : 83039 ≤ length o) where
  pub told_room : Room o 0 (told_text reps t)
  told_room = let l = told_length reps t f in record { fits = omega arith }

  pub shown_room : {n : ℕ} {z : List ℕ} → wrote n z ≡ wrote_at o 0 (told_text reps t) → n + most_shown ≤ length z
  shown_room {n} {z} e =
      let l = told_length reps t f in
      let k : n ≡ 0 + length (told_text reps t) = next_is o 0 (told_text reps t) e in
      let m : length z ≡ length o = wrote-length told_room e in
      omega arith

-- ---- the whole
pub told_then : (o xs ys : List ℕ) {m n : ℕ} {y z : List ℕ} → wrote m y ≡ wrote_at o 0 xs → wrote n z ≡ wrote_at y m ys
    → wrote n z ≡ wrote_at o 0 (xs ++ ys)
told_then o xs ys e f = wrote_then o 0 xs ys (omega arith) e f

module _ (o input : List ℕ) {n : ℕ} {z : List ℕ} where
  pub too_long : most_input < length input → wrote n z ≡ wrote_at o 0 (bytes "input too long\n") → wrote n z ≡ wrote_at o 0 (tidy_text input)
  unfolding tidy_text
  too_long h e = wrote_as o 0 (sym (cond-true _ _ _ (lt-ltb _ _ h))) e

  pub read : length input ≤ most_input → wrote n z ≡ wrote_at o 0 (answer_text (read_in input)) → wrote n z ≡ wrote_at o 0 (tidy_text input)
  unfolding tidy_text
  read h e = wrote_as o 0 (sym (cond-false _ _ _ (le-ltb _ _ h))) e

-- what was written at the start ends within the output
pub ends_within : (o xs : List ℕ) {n : ℕ} {z : List ℕ} → wrote n z ≡ wrote_at o 0 xs → n ≤ length z
ends_within o xs {n} {z} e =
    let f : n ≡ 0 + length xs = next_is o 0 xs e in
    let g : length z ≡ length (xs ++ drop (length xs) o) = ap length (out_is o 0 xs e ∙ put_zero o xs) in
    let l : length (xs ++ drop (length xs) o) ≡ length xs + length (drop (length xs) o) = length-append xs (drop (length xs) o) in
    omega arith
