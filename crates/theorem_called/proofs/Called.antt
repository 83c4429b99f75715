-- The theorems of the public calls, from what each answered call says: the round trip, good form afterwards, demand 3, and a load either way.
-- Assumes nothing.
use Rattle.std.specs.Prelude.{Ok, Option, Result}
use mathlib.Core.Path.{◌≡◌, refl, sym, ap, ◌∙◌, subst}
use mathlib.Core.List.{List, []}
use Prim.Native.Nat.{ℕ, ◌%◌, ◌≤◌, ◌<◌}
use native.Mathlib.Omega.{arith}
use denote.Ref.{Bor}
use lib.ListN.{length, take, drop}
use Rattle.cells.specs.Search.{Found, at, nowhere}
use Rattle.cells.proofs.Split.{by_le}
use Rattle.store_desk.specs.declared.Desk.{Desk}
use Rattle.store_desk.specs.Refusal.{Reply, replied, place_unit}
use Rattle.store_desk.specs.Size.{store_length}
use Rattle.store_head.specs.Pack.{Bytes}
use Rattle.store.specs.Change.{emptied}
use Rattle.store.specs.Good.{Ready}
use Rattle.store.specs.Slots.{find}
use Rattle.text_records.specs.Received.{longest}
use Rattle.load.specs.declared.Totals.{Totals}
use Rattle.load.specs.Run.{Run, load_of, totals_of, stored_in, all_reports}
use Rattle.load.specs.Translated.{translated_of}
use Rattle.save.specs.Lines.{stream_of}
use Rattle.show.specs.Calls.{most_bytes, LoadCall, totals_told, load_reply, loaded_as, load_done, load_by, LoadPromise, kinds_admission, TranslatePromise, WriteCall, write_reply, write_by, WritePromise}
use Rattle.show.specs.Calls.{EmptyCall, empty_reply, emptied_as, empty_call, EmptyPromise, Look, look_at, look_by, look_call, LookPromise}
use Rattle.show.specs.Calls.{cue_name, cue_key, find_reply, placed_at, find_by, FindPromise}
use Rattle.show.proofs.Laws.{load_long, translate_long, translate_by, by_kinds, put_long, put_short, write_by_lem, empty_done, look_by_lem, find_by_lem}
use Rattle.theorem_told.specs.Answer.{no_report}
use Rattle.theorem_told.specs.Reports.{report_at}
use Rattle.theorem_told.proofs.Columns.{load_columns}
use Rattle.theorem_told.proofs.Lent.{stored_length}
use Rattle.theorem_translated.proofs.Good.{translated_ready}
use Rattle.theorem_translated.proofs.Alike.{loads_alike}
use Rattle.theorem_same_show.specs.Show.{SameShow, ReadBack}
use Rattle.theorem_same_show.proofs.Theorem.{written_reads_back}
use Rattle.theorem_rehearse.specs.Rehearse.{HadRoom, Rehearsal, Carries, KeepsWithin, PatchedAlike, Ships, Complete, SamePatch}
use Rattle.theorem_rehearse.proofs.Seen.{saw_room}
use Rattle.theorem_rehearse.proofs.Rehearse.{rehearsed}
use Rattle.theorem_called.specs.Called.{ReadBackAs, WriteThenLoad, WrittenIsLoaded, NotTurnedAway, LetIn, GoodAfter, SeenRoom, RehearsedCalls, LoadedAlike}
use Rattle.theorem_called.proofs.Answered.{not_away, load_answers, LoadAnswered, load_answered, kinds_left, translate_answered}
use Rattle.load.proofs.Steps.{load_ready}
use Rattle.theorem_called.proofs.Answered.{write_answers, write_answered, empty_answered}
use Rattle.store_desk.specs.declared.Refusal.{Refusal}

-- ---- demand 2

-- a stream that is the written one
read_back : (d : Desk) (s t reps stream : List ℕ) {x : Totals} {u q : List ℕ} → Ready d s → Bytes s → stream ≡ stream_of d s
    → LoadAnswered d t reps stream x u q → ReadBackAs d s stream t reps x u q
read_back d s t reps stream {x} {u} {q} rs b e =
    subst (λ (z : List ℕ). LoadAnswered d t reps z x u q → ReadBackAs d s z t reps x u q) (sym e)
    (λ l.
    let r : ReadBack d s t (load_of d t (stream_of d s)) = written_reads_back d s t rs b l.ready in
    record {
      told = l.told ∙ r.told;
      list = l.list ∙ r.list reps;
      show = subst (SameShow d s) (sym l.store) r.show;
      past = ap (drop (store_length d)) l.store ∙ r.past;
      again = λ out n o w. (write_answered d u out w).stream ∙ ap (stream_of d) l.store ∙ r.again;
    })

pub write_then_load : WriteThenLoad
write_then_load d s out n o b e t reps x u q f =
    let w = write_answered d s out e in
    read_back d s t reps (take n o) w.ready b w.stream (load_answered d t reps (take n o) f)

pub written_is_loaded : WrittenIsLoaded
written_is_loaded d s out n o e v t f reps a u q g =
    let w = write_answered d s out e in
    let short = subst (λ (z : List ℕ). length z ≤ most_bytes) (sym w.stream) w.short in
    ap (λ (y : LoadCall). y.reply.number) (g ∙ load_answers d t reps (take n o) (empty_answered d v f).ready short)

-- ---- after an answered call

-- 0 and R1 come before their numbers, R5 and R6 between, "not kept" after
before_away : (n : ℕ) → n < 2 → NotTurnedAway n
before_away n h =
    record { second = λ e. omega arith; third = λ e. omega arith; unfit = λ e. omega arith; twice = λ e. omega arith; entry = λ e. omega arith }

between_away : (n : ℕ) → 3 < n → n < 0x4A → NotTurnedAway n
between_away n h l =
    record { second = λ e. omega arith; third = λ e. omega arith; unfit = λ e. omega arith; twice = λ e. omega arith; entry = λ e. omega arith }

after_away : (n : ℕ) → 0x4C < n → NotTurnedAway n
after_away n h =
    record { second = λ e. omega arith; third = λ e. omega arith; unfit = λ e. omega arith; twice = λ e. omega arith; entry = λ e. omega arith }

placed_through : (d : Desk) (f : Found) → NotTurnedAway (placed_at d f).number
unfolding placed_at
placed_through d (at i) = before_away 0 (omega arith)
placed_through d nowhere = after_away 255 (omega arith)

look_through : (d : Desk) (s : List ℕ) (f : Found) → NotTurnedAway ((look_at d s f).word % place_unit)
unfolding look_at
look_through d s (at i) = before_away 0 (omega arith)
look_through d s nowhere = after_away 255 (omega arith)

-- a store in good form is let in
module _ (d : Desk) (s : List ℕ) (r : Ready d s) where
  load_let : (reps stream : List ℕ) (a : Result Totals Refusal) (t q : List ℕ) → LoadPromise d s reps stream a t q → NotTurnedAway (load_reply a).number
  load_let reps stream a t q e =
      by_le (length stream) most_bytes
      (λ h.
      let z : (load_reply a).number ≡ 0 = ap (λ (y : LoadCall). y.reply.number) (e ∙ load_answers d s reps stream r h) in
      before_away (load_reply a).number (omega arith))
      (λ h.
      let z : (load_reply a).number ≡ 1 = ap (λ (y : LoadCall). y.reply.number) (e ∙ sym (load_long d s reps stream h)) in
      before_away (load_reply a).number (omega arith))

  translate_through : (reps stream : List ℕ) {n : ℕ} → n ≡ (load_by (kinds_admission d) (translated_of d s stream) s reps).reply.number → NotTurnedAway n
  unfolding load_by
  translate_through reps stream {n} =
      by_kinds d (λ (k : Result Unit Refusal). n ≡ (load_by k (translated_of d s stream) s reps).reply.number → NotTurnedAway n)
      (λ f z. let y : n ≡ 7 = z in between_away n (omega arith) (omega arith))
      (λ f g z. let y : n ≡ 0 = z in before_away n (omega arith))

  translate_let : (reps stream : List ℕ) (a : Result Totals Refusal) (t q : List ℕ) → TranslatePromise d s reps stream a t q
      → NotTurnedAway (load_reply a).number
  translate_let reps stream a t q e =
      by_le (length stream) most_bytes
      (λ h.
      let f = e ∙ sym (translate_by d s reps stream (kinds_admission d) (kinds_left d s r) h) in
      translate_through reps stream (ap (λ (y : LoadCall). y.reply.number) f))
      (λ h.
      let z : (load_reply a).number ≡ 1 = ap (λ (y : LoadCall). y.reply.number) (e ∙ sym (translate_long d s reps stream h)) in
      before_away (load_reply a).number (omega arith))

  write_let : (out : List ℕ) (a : Result ℕ Refusal) (o : List ℕ) → WritePromise d s out a o → NotTurnedAway (write_reply a).number
  unfolding write_by
  write_let out a o e =
      let f = e ∙ sym (write_by_lem d s out (Ok tt) (not_away d s r)) in
      by_le (length (stream_of d s)) most_bytes
      (λ h.
      by_le (length (stream_of d s)) (length out)
      (λ g.
      let z : (write_reply a).number ≡ 0 = ap (λ (y : WriteCall). y.reply.number) (e ∙ write_answers d s out r h g) in
      before_away (write_reply a).number (omega arith))
      (λ g.
      let z : (write_reply a).number ≡ 6 = ap (λ (y : WriteCall). y.reply.number) (f ∙ sym (put_short (stream_of d s) out refl h g)) in
      between_away (write_reply a).number (omega arith) (omega arith)))
      (λ h.
      let z : (write_reply a).number ≡ 5 = ap (λ (y : WriteCall). y.reply.number) (f ∙ sym (put_long (stream_of d s) out refl h)) in
      between_away (write_reply a).number (omega arith) (omega arith))

  empty_let : (a : Result Unit Refusal) (t : List ℕ) → EmptyPromise d s a t → NotTurnedAway (empty_reply a).number
  empty_let a t e =
      let f : emptied_as (replied []) (emptied d s) ≡ empty_call d s = empty_done d s (record { range = r.range; long = r.long }) refl in
      let z : (empty_reply a).number ≡ 0 = ap (λ (y : EmptyCall). y.reply.number) (e ∙ sym f) in
      before_away (empty_reply a).number (omega arith)

  look_let : (v q : Bor (List ℕ)) (page whole tenths answer : ℕ) → v.now ≡ s → LookPromise d v page whole tenths q answer
      → NotTurnedAway (answer % place_unit)
  unfolding look_by
  look_let v q page whole tenths answer p e =
      let f : Found = find d s (cue_name (cue_key page whole tenths)) in
      let z : answer ≡ (look_at d s f).word =
      e.says
      ∙ ap (λ (k : List ℕ). (look_call d k page whole tenths).word) p
      ∙ ap (λ (y : Look). y.word) (sym (look_by_lem d s page whole tenths (Ok tt) (not_away d s r)))
      in
      subst (λ (w : ℕ). NotTurnedAway (w % place_unit)) (sym z) (look_through d s f)

  find_let : (page whole tenths : ℕ) (a : Result (Option ℕ) Refusal) → FindPromise d s page whole tenths a → NotTurnedAway (find_reply a).number
  unfolding find_by
  find_let page whole tenths a e =
      let f : Found = find d s (cue_name (cue_key page whole tenths)) in
      let z : (find_reply a).number ≡ (placed_at d f).number =
      ap (λ (y : Reply). y.number) (e ∙ sym (find_by_lem d s page whole tenths (Ok tt) (not_away d s r)))
      in
      subst NotTurnedAway (sym z) (placed_through d f)

  ready_let : LetIn d s
  ready_let = record { load = load_let; translate = translate_let; write = write_let; empty = empty_let; look = look_let; find = find_let }

pub good_after : (d : Desk) → GoodAfter d
good_after d =
    record {
      emptied = λ v s e. ready_let d s (empty_answered d v e).ready;
      loaded =
          λ s reps stream x t q e.
          let l = load_answered d s reps stream e in
          ready_let d t (subst (Ready d) (sym l.store) (load_ready d s stream l.ready));
      translated =
          λ s reps stream x t q e.
          let l = translate_answered d s reps stream e in
          ready_let d t (subst (Ready d) (sym l.store) (translated_ready d s stream l.ready));
    }

-- ---- demand 3

-- room as a user sees it, of an answered load: no column is above 80, so that each word has its condition
seen_room : (d : Desk) (s reps stream : List ℕ) {x : Totals} {t q : List ℕ} → LoadAnswered d s reps stream x t q → SeenRoom x q
    → HadRoom (load_of d s stream)
seen_room d s reps stream {x} {t} {q} l h =
    let run = load_of d s stream in
    let g : SeenRoom (totals_of run) (stored_in reps (all_reports run)) =
    subst (λ (z : List ℕ). SeenRoom (totals_of run) z) l.list (subst (λ (z : Totals). SeenRoom z q) l.told h)
    in
    saw_room run reps no_report (λ k f. let c : (report_at (all_reports run) k).column ≤ longest = (load_columns d s stream).most k f in omega arith)
    (subst (λ (n : ℕ). (totals_of run).reports ≤ n) (stored_length reps (all_reports run)) g.0, g.1)

pub rehearsed_calls : RehearsedCalls
rehearsed_calls d D larger v s w S e E stream lent Lent x t q X T Q f F =
    let a = empty_answered d v e in
    let A = empty_answered D w E in
    let l = load_answered d s lent stream f in
    let L = load_answered D S Lent stream F in
    let h : Rehearsal d D v w = record { small = a.range; large = A.range; larger = larger; long = a.long; longer = A.long } in
    let p = both (sym a.store) (sym A.store) (rehearsed d D v w h stream) in
    let there = left (sym l.store) (sym L.store) in (
      record {
        ships = λ g. there (Carries d D) (p.0 g);
        complete = λ g k. there (KeepsWithin d D) (p.1 g k);
        patch = λ c. there (PatchedAlike d D) (p.2 c);
      },
      record {
        ships = λ g. there (Carries d D) (p.0 (seen_room D S Lent stream L g));
        complete = λ g k. there (KeepsWithin d D) (p.1 (seen_room D S Lent stream L g) (seen_room d s lent stream l k));
      },
    )
  where
    -- of the emptied stores, and of what was left in them
    Parts : List ℕ → List ℕ → Type 0
    Parts y Y =
        Ships d D (load_of d y stream) (load_of D Y stream) × Complete d D (load_of d y stream) (load_of D Y stream)
        × SamePatch d D (load_of d y stream) (load_of D Y stream)

    both : {y Y z Z : List ℕ} → y ≡ z → Y ≡ Z → Parts y Y → Parts z Z
    both {y} {Y} {z} {Z} g G p = subst (λ (k : List ℕ). Parts k Z) g (subst (λ (k : List ℕ). Parts y k) G p)

    left : {y Y z Z : List ℕ} → y ≡ z → Y ≡ Z → (P : List ℕ → List ℕ → Type 0) → P y Y → P z Z
    left {y} {Y} {z} {Z} g G P p = subst (λ (k : List ℕ). P k Z) g (subst (λ (k : List ℕ). P y k) G p)

-- ---- either load

pub loaded_alike : LoadedAlike
loaded_alike d s reps stream n x t q e =
    let l = translate_answered d s reps stream e in
    let r : translated_of d s stream ≡ load_of d s stream = loads_alike d s stream l.ready n in
    (λ i. loaded_as (replied (totals_told (l.told i))) (l.store i) (l.list i))
    ∙ ap (λ (y : Run). load_done y reps) r
    ∙ sym (load_answers d s reps stream l.ready l.short)
