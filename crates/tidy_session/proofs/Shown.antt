-- What `write` answers for a store of the house small desk, given 65,535 bytes of the output: the stream, or R6 with the length needed, and no
-- other answer. The store is in good form, and its stream is never as long as R5 asks.
-- Assumes nothing.
use Rattle.std.specs.Prelude.{Err, Ok, Result}
use mathlib.Core.Path.{◌≡◌, refl, sym, ap, ◌∙◌, subst}
use mathlib.Core.List.{List, ◌++◌}
use Prim.Native.Nat.{ℕ, ◌+◌, ◌-◌, ◌≤◌, ◌<◌}
use native.Mathlib.Omega.{arith}
use lib.ListN.{length, take, drop, length-drop}
use lib.Seq.{length-take-le}
use borrow.Author.Tests.{lt-ltb, le-ltb}
use Rattle.cells.specs.Put.{put}
use Rattle.cells.proofs.Put.{put_front, put_back, put_part}
use Rattle.cells.proofs.Split.{by_lt, cond-true, cond-false}
use Rattle.store_desk.specs.declared.Refusal.{Refusal}
use Rattle.store_desk.specs.declared.Refusal.TheVariants.{R6}
use Rattle.store_desk.specs.Refusal.{refusal_number, refused}
use Rattle.store_desk.proofs.Reply.{refused_apart, refused_no_reply}
use Rattle.store_desk.specs.Size.{house}
use Rattle.store.specs.Good.{Ready}
use Rattle.save.specs.Lines.{stream_of}
use Rattle.save.proofs.House.{house_short}
use Rattle.text_room.specs.Wrote.{wrote, wrote_at}
use Rattle.text_room.proofs.Writes.{wrote_count, wrote_as}
use Rattle.text_room.specs.Room.{Room}
use Rattle.show.specs.Calls.{most_bytes, WriteCall, write_reply, written_as, write_by, WritePromise}
use Rattle.show.proofs.Laws.{put_short, write_by_lem}
use Rattle.theorem_called.proofs.Answered.{not_away, write_answers, WriteAnswered, write_answered}
use Rattle.tidy_printed.specs.Text.{needed_text}
use Rattle.tidy_printed.proofs.Lengths.{needed_length}
use Rattle.tidy_session.specs.Session.{most_shown, shown_text}

-- ---- the text by cases
pub shown_long : (s : List ℕ) → most_shown < length (stream_of house s) → shown_text s ≡ needed_text (length (stream_of house s))
unfolding shown_text
shown_long s h = cond-true _ _ _ (lt-ltb _ _ h)

pub shown_short : (s : List ℕ) → length (stream_of house s) ≤ most_shown → shown_text s ≡ stream_of house s
unfolding shown_text
shown_short s h = cond-false _ _ _ (le-ltb _ _ h)

-- ---- in place: the lent part of the output, and the output with the part as it came back
abbrev part : List ℕ → ℕ → List ℕ
part o at = take (at + most_shown - at) (drop at o)

abbrev back : List ℕ → ℕ → List ℕ → List ℕ
back o at ys = take at o ++ (ys ++ drop (at + most_shown - at) (drop at o))

part_length : (o : List ℕ) (at : ℕ) → at + most_shown ≤ length o → length (part o at) ≡ most_shown
part_length o at h =
    let e : length (drop at o) ≡ length o - at = length-drop at o in
    let f : at + most_shown - at ≡ most_shown = omega arith in
    length-take-le _ _ (omega arith) ∙ f

-- a part that came back as it was
back_same : (o : List ℕ) (at : ℕ) → at + most_shown ≤ length o → back o at (part o at) ≡ o
back_same o at h =
    put_back o at (at + most_shown - at) (part o at) (part o at) refl (let f : most_shown ≡ at + most_shown - at = omega arith in part_length o at h ∙ f)
    ∙ put_part o at (at + most_shown - at) (omega arith)

-- ---- the answer by cases
module _ (s o : List ℕ) (at : ℕ) (r : Ready house s) (room : at + most_shown ≤ length o) {a : Result ℕ Refusal} {ys : List ℕ}
    (e : WritePromise house s (part o at) a ys) where
  done : {n : ℕ} → a ≡ Ok n → WriteAnswered house s (part o at) n ys
  done f = write_answered house s (part o at) (subst (λ (x : Result ℕ Refusal). WritePromise house s (part o at) x ys) f e)

  -- the refusal is that of a stream that finds no room
  no_room : {q : Refusal} → a ≡ Err q → most_shown < length (stream_of house s)
      → written_as (refused q) ys ≡ written_as (refused (R6 (length (stream_of house s)))) (part o at)
  unfolding write_by
  no_room f h =
      let l : length (part o at) ≡ most_shown = part_length o at room in
      sym (ap (λ (x : Result ℕ Refusal). written_as (write_reply x) ys) f) ∙ e ∙ sym (write_by_lem house s (part o at) (Ok tt) (not_away house s r))
      ∙ sym (put_short (stream_of house s) (part o at) refl (house_short s) (omega arith))

  -- it is a refusal, and so the stream is longer than the part
  too_long : {q : Refusal} → a ≡ Err q → most_shown < length (stream_of house s)
  too_long {q} f =
      by_lt most_shown (length (stream_of house s)) (λ h. h)
      (λ h.
      let l : length (part o at) ≡ most_shown = part_length o at room in
      let w = write_answers house s (part o at) r (house_short s) (omega arith) in
      refused_no_reply q (ap (λ (x : WriteCall). x.reply) (sym (ap (λ (x : Result ℕ Refusal). written_as (write_reply x) ys) f) ∙ e ∙ w)))

  away_room : {q : Refusal} → a ≡ Err q → q ≡ R6 (length (stream_of house s))
  away_room f = refused_apart (ap (λ (x : WriteCall). x.reply) (no_room f (too_long f)))

  -- of the refusals R6 alone can occur, with the stream's length
  pub never_other : {X : Type 0} {q p : Refusal} → a ≡ Err q → q ≡ p → (refusal_number p ≡ 6 → ⊥) → X
  never_other f g h = absurd (h (ap refusal_number (sym g ∙ away_room f)))

  module _ {n : ℕ} where
    pub done_most : a ≡ Ok n → n ≤ most_shown
    done_most f =
        let w = done f in
        let c : n ≡ length (stream_of house s) = w.count in
        let h : length (stream_of house s) ≤ length (part o at) = w.room in
        let l : length (part o at) ≡ most_shown = part_length o at room in
        omega arith

    pub done_shown : a ≡ Ok n → wrote (at + n) (back o at ys) ≡ wrote_at o at (shown_text s)
    done_shown f =
        let m : n ≤ most_shown = done_most f in
        let c : n ≡ length (stream_of house s) = (done f).count in
        let t : shown_text s ≡ stream_of house s = shown_short s (omega arith) in
        let l : length (shown_text s) ≡ n = ap length t ∙ sym c in
        wrote_count o at (shown_text s) n l
        (put_front o at (at + most_shown - at) ys (shown_text s) ((done f).output ∙ ap (put (part o at) 0) (sym t)) (omega arith) (omega arith))

  module _ {q : Refusal} {n : ℕ} (f : a ≡ Err q) (g : q ≡ R6 n) where
    length_is : length (stream_of house s) ≡ n
    length_is = let h : R6 n ≡ R6 (length (stream_of house s)) = sym g ∙ away_room f in cc

    pub needed_most : n ≤ most_bytes
    needed_most = subst (λ (k : ℕ). k ≤ most_bytes) length_is (house_short s)

    -- the output is as it was
    untouched : back o at ys ≡ o
    untouched = ap (λ (x : WriteCall). back o at x.out) (no_room f (too_long f)) ∙ back_same o at room

    pub needed_room : Room (back o at ys) at (needed_text n)
    needed_room =
        let m = needed_most in
        let l : length (needed_text n) ≤ 14 = needed_length n (omega arith) in
        let u : length (back o at ys) ≡ length o = ap length untouched in
        record { fits = omega arith }

    pub needed_shown : {k : ℕ} {z : List ℕ} → wrote k z ≡ wrote_at (back o at ys) at (needed_text n) → wrote k z ≡ wrote_at o at (shown_text s)
    needed_shown h =
        wrote_as o at (ap needed_text (sym length_is) ∙ sym (shown_long s (too_long f)))
        (h ∙ ap (λ (l : List ℕ). wrote_at l at (needed_text n)) untouched)
