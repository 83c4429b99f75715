-- What a call that was answered says, by its promise: it was let in, and its answer and every lent list are those of the load, of the written
-- stream, of the emptied store. A refusal's number is never 0, and no second answer fits a promise.
-- Assumes nothing.
use Rattle.std.specs.Prelude.{Err, Ok, Result}
use mathlib.Core.Path.{◌≡◌, refl, sym, ap, ◌∙◌, subst}
use mathlib.Core.Bool.{false}
use mathlib.Core.List.{List}
use Prim.Native.Nat.{ℕ, ◌≤◌}
use native.Mathlib.Omega.{arith}
use lib.Dec.{ltb}
use lib.ListN.{length, take}
use borrow.Author.Tests.{le-ltb}
use Rattle.cells.specs.Put.{put}
use Rattle.cells.proofs.Put.{part_same}
use Rattle.cells.proofs.Split.{by_le}
use Rattle.store_desk.specs.declared.Desk.{Desk}
use Rattle.store_desk.specs.declared.Refusal.{Refusal}
use Rattle.store_desk.specs.declared.Refusal.TheVariants.{R1, R2, R3, R5, R6}
use Rattle.store_desk.specs.Refusal.{refusal_number}
use Rattle.store_desk.specs.Size.{InRange, store_length}
use Rattle.store_desk.proofs.Reply.{refusal_some}
use Rattle.store.specs.Change.{emptied}
use Rattle.store.specs.Good.{Ready}
use Rattle.store.proofs.Empty.{empty_good}
use Rattle.load.specs.declared.Totals.{Totals}
use Rattle.load.specs.Run.{Run, load_of, totals_of, stored_in, all_reports}
use Rattle.load.specs.Translated.{translated_of}
use Rattle.save.specs.Lines.{stream_of}
use Rattle.show.specs.Calls.{most_bytes, lent_admission, then_admission, admission_of, LoadCall, load_done, load_by, load_call, LoadPromise}
use Rattle.show.specs.Calls.{kinds_admission, translate_admission, translate_call, TranslatePromise}
use Rattle.show.specs.Calls.{WriteCall, write_reply, written_as, put_call, write_by, write_call, WritePromise, EmptyCall, empty_by, empty_call, EmptyPromise}
use Rattle.show.proofs.Laws.{let_in, admitted, load_long, load_by_lem, translate_long, translate_by, put_long, put_short, write_by_lem, by_lent, empty_by_lem, empty_done}
use Rattle.show.proofs.OneAnswer.{one_load, one_translate, one_write, one_empty}

-- ---- let in

-- a store in good form is not turned away
pub not_away : (d : Desk) (s : List ℕ) → Ready d s → (Ok tt) ≡ admission_of d s
not_away d s r = admitted d s r

-- a refusal's number is not 0
none_refused : {X : Type 0} (r : Refusal) {n : ℕ} → refusal_number r ≡ n → n ≡ 0 → X
none_refused r e z = let l = refusal_some r in absurd (let o : ⊥ = omega arith in o)

-- ---- load

-- what an answered load says, of the run that it is
pub record RunAnswered (d : Desk) (s reps stream : List ℕ) (run : Run) (x : Totals) (t q : List ℕ) : Type 0 where
  pub ready : Ready d s
  pub short : length stream ≤ most_bytes
  pub told : x ≡ totals_of run
  pub store : t ≡ run.store
  pub list : q ≡ stored_in reps (all_reports run)

abbrev pub LoadAnswered : Desk → List ℕ → List ℕ → List ℕ → Totals → List ℕ → List ℕ → Type 0
LoadAnswered d s reps stream x t q = RunAnswered d s reps stream (load_of d s stream) x t q

module _ (d : Desk) (s reps stream : List ℕ) where
  -- a load into a store in good form, of a stream that is short enough, is answered
  pub load_answers : Ready d s → length stream ≤ most_bytes → load_call d s reps stream ≡ load_done (load_of d s stream) reps
  unfolding load_by
  load_answers r h = sym (load_by_lem d s reps stream (Ok tt) (not_away d s r) h)

  load_admitted : (a : Result Unit Refusal) → a ≡ admission_of d s → (load_by a (load_of d s stream) s reps).reply.number ≡ 0 → (Ok tt) ≡ admission_of d s
  unfolding load_by
  load_admitted (Ok _) e z = e
  load_admitted (Err r) e z = none_refused r refl z

  load_let_in : (load_call d s reps stream).reply.number ≡ 0 → Ready d s × (length stream ≤ most_bytes)
  load_let_in z =
      by_le (length stream) most_bytes
      (λ h.
      let n = ap (λ (y : LoadCall). y.reply.number) (load_by_lem d s reps stream (admission_of d s) refl h) in
      (let_in d s (load_admitted (admission_of d s) refl (n ∙ z)), h))
      (λ h. none_refused R1 (ap (λ (y : LoadCall). y.reply.number) (load_long d s reps stream h)) z)

  pub load_answered : {x : Totals} {t q : List ℕ} → LoadPromise d s reps stream (Ok x) t q → LoadAnswered d s reps stream x t q
  load_answered {x} e =
      let p = load_let_in (ap (λ (y : LoadCall). y.reply.number) (sym e)) in
      let run = load_of d s stream in
      let o = one_load d s reps stream {a = Ok x} {b = Ok (totals_of run)} e (sym (load_answers p.0 p.1)) in
      let f : Ok x ≡ Ok (totals_of run) = o.0 in
      record { ready = p.0; short = p.1; told = cc; store = o.1; list = o.2 }

-- ---- translate

-- a store in good form is let in, but for R7
pub kinds_left : (d : Desk) (s : List ℕ) → Ready d s → kinds_admission d ≡ translate_admission d s
unfolding translate_admission then_admission
kinds_left d s r = ap (λ (a : Result Unit Refusal). then_admission a (kinds_admission d)) (not_away d s r)

module _ (d : Desk) (s reps stream : List ℕ) where
  translate_admitted : (a : Result Unit Refusal) → a ≡ admission_of d s
      → (load_by (then_admission a (kinds_admission d)) (translated_of d s stream) s reps).reply.number ≡ 0 → (Ok tt) ≡ admission_of d s
  unfolding then_admission load_by
  translate_admitted (Ok _) e z = e
  translate_admitted (Err r) e z = none_refused r refl z

  kinds_admitted : (a : Result Unit Refusal) → a ≡ translate_admission d s → (load_by a (translated_of d s stream) s reps).reply.number ≡ 0
      → (Ok tt) ≡ translate_admission d s
  unfolding load_by
  kinds_admitted (Ok _) e z = e
  kinds_admitted (Err r) e z = none_refused r refl z

  translate_let_in : (translate_call d s reps stream).reply.number ≡ 0
      → Ready d s × (length stream ≤ most_bytes) × ((Ok tt) ≡ translate_admission d s)
  unfolding translate_admission
  translate_let_in z =
      by_le (length stream) most_bytes
      (λ h.
      let n = ap (λ (y : LoadCall). y.reply.number) (translate_by d s reps stream (translate_admission d s) refl h) ∙ z in
      (let_in d s (translate_admitted (admission_of d s) refl n), h, kinds_admitted (translate_admission d s) refl n))
      (λ h. none_refused R1 (ap (λ (y : LoadCall). y.reply.number) (translate_long d s reps stream h)) z)

  pub translate_answered : {x : Totals} {t q : List ℕ} → TranslatePromise d s reps stream (Ok x) t q
      → RunAnswered d s reps stream (translated_of d s stream) x t q
  unfolding load_by
  translate_answered {x} e =
      let p = translate_let_in (ap (λ (y : LoadCall). y.reply.number) (sym e)) in
      let run = translated_of d s stream in
      let g = translate_by d s reps stream (Ok tt) p.2 p.1 in
      let o = one_translate d s reps stream {a = Ok x} {b = Ok (totals_of run)} e g in
      let f : Ok x ≡ Ok (totals_of run) = o.0 in
      record { ready = p.0; short = p.1; told = cc; store = o.1; list = o.2 }

-- ---- write

-- what an answered writing says
pub record WriteAnswered (d : Desk) (s out : List ℕ) (n : ℕ) (o : List ℕ) : Type 0 where
  pub ready : Ready d s
  pub short : length (stream_of d s) ≤ most_bytes
  pub room : length (stream_of d s) ≤ length out
  pub count : n ≡ length (stream_of d s)
  pub output : o ≡ put out 0 (stream_of d s)
  pub stream : take n o ≡ stream_of d s

module _ (d : Desk) (s out : List ℕ) where
  -- a store in good form is written, where its stream is short enough and the output has room
  pub write_answers : Ready d s → length (stream_of d s) ≤ most_bytes → length (stream_of d s) ≤ length out
      → write_call d s out ≡ written_as (write_reply (Ok (length (stream_of d s)))) (put out 0 (stream_of d s))
  unfolding write_by put_call
  write_answers r h g =
      let a : ltb most_bytes (length (stream_of d s)) ≡ false = le-ltb _ _ h in
      let b : ltb (length out) (length (stream_of d s)) ≡ false = le-ltb _ _ g in
      sym (write_by_lem d s out (Ok tt) (not_away d s r)) ∙ rw (a, b)

  write_admitted : (a : Result Unit Refusal) → a ≡ admission_of d s → (write_by a d s out).reply.number ≡ 0 → (Ok tt) ≡ admission_of d s
  unfolding write_by
  write_admitted (Ok _) e z = e
  write_admitted (Err r) e z = none_refused r refl z

  put_let_in : (put_call (stream_of d s) out).reply.number ≡ 0 → (length (stream_of d s) ≤ most_bytes) × (length (stream_of d s) ≤ length out)
  put_let_in z =
      by_le (length (stream_of d s)) most_bytes
      (λ h.
      by_le (length (stream_of d s)) (length out) (λ g. (h, g))
      (λ g. none_refused (R6 (length (stream_of d s))) (ap (λ (y : WriteCall). y.reply.number) (put_short (stream_of d s) out refl h g)) z))
      (λ h. none_refused R5 (ap (λ (y : WriteCall). y.reply.number) (put_long (stream_of d s) out refl h)) z)

  pub write_answered : {n : ℕ} {o : List ℕ} → WritePromise d s out (Ok n) o → WriteAnswered d s out n o
  unfolding write_by
  write_answered {n} {o} e =
      let z : (write_call d s out).reply.number ≡ 0 = ap (λ (y : WriteCall). y.reply.number) (sym e) in
      let a = write_admitted (admission_of d s) refl (ap (λ (y : WriteCall). y.reply.number) (write_by_lem d s out (admission_of d s) refl) ∙ z) in
      let p = put_let_in (ap (λ (y : WriteCall). y.reply.number) (write_by_lem d s out (Ok tt) a) ∙ z) in
      let w = stream_of d s in
      let q = one_write d s out {a = Ok n} {b = Ok (length w)} e (sym (write_answers (let_in d s a) p.0 p.1)) in
      let f : Ok n ≡ Ok (length w) = q.0 in
      let c : n ≡ length w = cc in
      record {
        ready = let_in d s a;
        short = p.0;
        room = p.1;
        count = c;
        output = q.1;
        stream =
            ap (λ (k : ℕ). take k o) c
            ∙ ap (λ (y : List ℕ). take (length w) y) q.1
            ∙ part_same out 0 w (length w) (let g = p.1 in omega arith) refl;
      }

-- ---- empty

-- what an answered emptying says
pub record EmptyAnswered (d : Desk) (v s : List ℕ) : Type 0 where
  pub range : InRange d
  pub long : store_length d ≤ length v
  pub store : s ≡ emptied d v
  pub ready : Ready d s

module _ (d : Desk) (v : List ℕ) where
  pub empty_answered : {s : List ℕ} → EmptyPromise d v (Ok tt) s → EmptyAnswered d v s
  unfolding empty_by
  empty_answered {s} e =
      by_lent d v (λ (a : Result Unit Refusal). a ≡ lent_admission d v → EmptyAnswered d v s)
      (λ h q. none_refused R2 (ap (λ (y : EmptyCall). y.reply.number) (empty_by_lem d v (Err R2) q)) none)
      (λ h l q. none_refused R3 (ap (λ (y : EmptyCall). y.reply.number) (empty_by_lem d v (Err R3) q)) none)
      (λ h q. done h.range h.long)
      refl
    where
      none : (empty_call d v).reply.number ≡ 0
      none = ap (λ (y : EmptyCall). y.reply.number) (sym e)

      done : InRange d → store_length d ≤ length v → EmptyAnswered d v s
      done r l =
          let q : s ≡ emptied d v = (one_empty d v {a = (Ok tt)} {b = (Ok tt)} e (empty_done d v (record { range = r; long = l }) refl)).1 in
          record { range = r; long = l; store = q; ready = subst (Ready d) (sym q) (empty_good d v l r) }
