-- No second answer fits a public call's promise, of the answer itself and of each lent list; and a refused call leaves every lent list
-- as it was. The record that a promise speaks of gives back what it was built from, and an answer is told by its number, its place and
-- what is told beside them; a refusal's record is built from the lists at entry.
-- Assumes nothing.
use Rattle.std.specs.Prelude.{Err, None, Ok, Option, Result, Some}
use mathlib.Core.Path.{◌≡◌, refl, sym, ap, ◌∙◌}
use mathlib.Core.List.{List, [], ◌∷◌}
use Prim.Native.Nat.{ℕ}
use native.Mathlib.Omega.{arith}
use denote.Ref.{Bor}
use lib.Dec.{ltb}
use lib.ListN.{length, get_or}
use Rattle.cells.specs.Search.{Found, at, nowhere}
use Rattle.cells.proofs.Split.{by_test}
use Rattle.store_desk.specs.declared.Desk.{Desk}
use Rattle.store_desk.specs.declared.Key.{Key}
use Rattle.store_desk.specs.declared.Refusal.{Refusal}
use Rattle.store_desk.specs.Refusal.{refusal_number, Reply, replied, refused}
use Rattle.store_desk.proofs.Reply.{refusal_most, refused_apart, refused_no_reply}
use Rattle.store.specs.Slots.{find}
use Rattle.load.specs.declared.Totals.{Totals}
use Rattle.load.specs.Run.{Run, load_of}
use Rattle.load.specs.Translated.{translated_of}
use Rattle.save.specs.Lines.{stream_of}
use Rattle.show.specs.Calls.{most_bytes, lent_admission, admission_of, LoadCall, load_reply, load_by, stream_call, load_call, LoadPromise}
use Rattle.show.specs.Calls.{translate_admission, translate_call, TranslatePromise}
use Rattle.show.specs.Calls.{WriteCall, write_reply, put_call, write_by, write_call, WritePromise}
use Rattle.show.specs.Calls.{EmptyCall, empty_reply, empty_by, empty_call, EmptyPromise, LookPromise, cue_name, cue_key, not_kept, find_reply, placed_at, find_by, find_call, FindPromise}
use Rattle.show.proofs.Laws.{away_reply, StoreAway, store_away, translate_mute}

-- ---- answers that tell the same are the same

-- the totals of what is told of them
told_totals : List ℕ → Totals
told_totals l =
    record {
      reports = get_or l 0 0;
      blank = get_or l 1 0;
      obeyed = get_or l 2 0;
      passed = get_or l 3 0;
      dropped = get_or l 4 0;
      closing = get_or l 5 0;
    }

load_apart : (a b : Result Totals Refusal) → load_reply a ≡ load_reply b → a ≡ b
unfolding told_totals
load_apart (Err r) (Err q) e = ap (λ (x : Refusal). Err x) (refused_apart e)
load_apart (Err r) (Ok u) e = refused_no_reply r e
load_apart (Ok t) (Err q) e = refused_no_reply q (sym e)
load_apart (Ok t) (Ok u) e = ap (λ (x : Reply). Ok (told_totals x.told)) e

pub write_apart : (a b : Result ℕ Refusal) → write_reply a ≡ write_reply b → a ≡ b
write_apart (Err r) (Err q) e = ap (λ (x : Refusal). Err x) (refused_apart e)
write_apart (Err r) (Ok m) e = refused_no_reply r e
write_apart (Ok n) (Err q) e = refused_no_reply q (sym e)
write_apart (Ok n) (Ok m) e = ap (λ (x : Reply). Ok (get_or x.told 0 0)) e

empty_apart : (a b : Result Unit Refusal) → empty_reply a ≡ empty_reply b → a ≡ b
empty_apart (Err r) (Err q) e = ap (λ (x : Refusal). Err x) (refused_apart e)
empty_apart (Err r) (Ok _) e = refused_no_reply r e
empty_apart (Ok _) (Err q) e = refused_no_reply q (sym e)
empty_apart (Ok _) (Ok _) e = refl

-- no refusal has the number of "not kept"
pub not_kept_lem : {X : Type 0} (r : Refusal) → refused r ≡ not_kept → X
not_kept_lem r e =
    let f : refusal_number r ≡ 255 = ap (λ (x : Reply). x.number) e in
    let m = refusal_most r in
    absurd (let z : ⊥ = omega arith in z)

pub not_told : {X : Type 0} {l : List ℕ} → not_kept ≡ replied l → X
not_told e = absurd (let z : ◌≡◌ {A = ℕ} 255 0 = ap (λ (x : Reply). x.number) e in let o : ⊥ = omega arith in o)

pub find_apart : (a b : Result (Option ℕ) Refusal) → find_reply a ≡ find_reply b → a ≡ b
find_apart (Err r) (Err q) e = ap (λ (x : Refusal). Err x) (refused_apart e)
find_apart (Err r) (Ok None) e = not_kept_lem r e
find_apart (Err r) (Ok (Some m)) e = refused_no_reply r e
find_apart (Ok None) (Err q) e = not_kept_lem q (sym e)
find_apart (Ok None) (Ok None) e = refl
find_apart (Ok None) (Ok (Some m)) e = not_told e
find_apart (Ok (Some n)) (Err q) e = refused_no_reply q (sym e)
find_apart (Ok (Some n)) (Ok None) e = not_told (sym e)
find_apart (Ok (Some n)) (Ok (Some m)) e = ap (λ (x : Reply). Ok (Some (get_or x.told 0 0))) e

-- ---- one answer

pub one_load : (d : Desk) (s reps stream : List ℕ) {a b : Result Totals Refusal} {t u q p : List ℕ}
    → LoadPromise d s reps stream a t q → LoadPromise d s reps stream b u p → (a ≡ b) × (t ≡ u) × (q ≡ p)
one_load d s reps stream {a} {b} e f =
    let g = e ∙ sym f in
    (load_apart a b (ap (λ (y : LoadCall). y.reply) g), ap (λ (y : LoadCall). y.store) g, ap (λ (y : LoadCall). y.reports) g)

pub one_translate : (d : Desk) (s reps stream : List ℕ) {a b : Result Totals Refusal} {t u q p : List ℕ}
    → TranslatePromise d s reps stream a t q → TranslatePromise d s reps stream b u p → (a ≡ b) × (t ≡ u) × (q ≡ p)
one_translate d s reps stream {a} {b} e f =
    let g = e ∙ sym f in
    (load_apart a b (ap (λ (y : LoadCall). y.reply) g), ap (λ (y : LoadCall). y.store) g, ap (λ (y : LoadCall). y.reports) g)

pub one_write : (d : Desk) (s out : List ℕ) {a b : Result ℕ Refusal} {o p : List ℕ} → WritePromise d s out a o → WritePromise d s out b p → (a ≡ b) × (o ≡ p)
one_write d s out {a} {b} e f =
    let g = e ∙ sym f in
    (write_apart a b (ap (λ (y : WriteCall). y.reply) g), ap (λ (y : WriteCall). y.out) g)

pub one_empty : (d : Desk) (s : List ℕ) {a b : Result Unit Refusal} {t u : List ℕ} → EmptyPromise d s a t → EmptyPromise d s b u → (a ≡ b) × (t ≡ u)
one_empty d s {a} {b} e f =
    let g = e ∙ sym f in
    (empty_apart a b (ap (λ (y : EmptyCall). y.reply) g), ap (λ (y : EmptyCall). y.store) g)

-- of a look-up: the word, the bytes, and where they lie
pub one_look : (d : Desk) (s : Bor (List ℕ)) (page whole tenths : ℕ) {r q : Bor (List ℕ)} {v w : ℕ}
    → LookPromise d s page whole tenths r v → LookPromise d s page whole tenths q w
    → (v ≡ w) × (r.now ≡ q.now) × (r.ref_ptr.0 ≡ q.ref_ptr.0) × (r.ref_ptr.1 ≡ q.ref_ptr.1)
one_look d s page whole tenths e f =
    (e.says ∙ sym f.says, e.bytes ∙ sym f.bytes, e.block ∙ sym f.block, e.offset ∙ sym f.offset)

pub one_find : (d : Desk) (s : List ℕ) (page whole tenths : ℕ) {a b : Result (Option ℕ) Refusal}
    → FindPromise d s page whole tenths a → FindPromise d s page whole tenths b → a ≡ b
one_find d s page whole tenths {a} {b} e f = find_apart a b (e ∙ sym f)

-- ---- refused, untouched

-- a call's record either has the number 0, or has the lists of entry and tells nothing beside its number and place
LoadKept : List ℕ → List ℕ → LoadCall → Type 0
LoadKept s reps x = (x.reply.number ≡ 0 → ⊥) → (x.store ≡ s) × (x.reports ≡ reps) × (x.reply.told ≡ [])

load_by_kept : (a : Result Unit Refusal) → (away_reply a).told ≡ [] → (x : Run) (s reps : List ℕ) → LoadKept s reps (load_by a x s reps)
unfolding LoadKept load_by
load_by_kept (Ok _) m x s reps h = absurd (h refl)
load_by_kept (Err r) m x s reps h = (refl, refl, m)

stream_kept : (a : Result Unit Refusal) → (away_reply a).told ≡ [] → (x : Run) (s reps stream : List ℕ) → LoadKept s reps (stream_call a x s reps stream)
unfolding LoadKept stream_call
stream_kept a m x s reps stream =
    by_test (LoadKept s reps) (ltb most_bytes (length stream)) _ (load_by a x s reps) (λ e h. (refl, refl, refl)) (λ e. load_by_kept a m x s reps)

pub load_kept : (d : Desk) (s reps stream : List ℕ) → ((load_call d s reps stream).reply.number ≡ 0 → ⊥)
    → ((load_call d s reps stream).store ≡ s) × ((load_call d s reps stream).reports ≡ reps) × ((load_call d s reps stream).reply.told ≡ [])
unfolding LoadKept load_call
load_kept d s reps stream = stream_kept (admission_of d s) (store_away d s).mute (load_of d s stream) s reps stream

pub translate_kept : (d : Desk) (s reps stream : List ℕ) → ((translate_call d s reps stream).reply.number ≡ 0 → ⊥)
    → ((translate_call d s reps stream).store ≡ s) × ((translate_call d s reps stream).reports ≡ reps) × ((translate_call d s reps stream).reply.told ≡ [])
unfolding LoadKept translate_call
translate_kept d s reps stream = stream_kept (translate_admission d s) (translate_mute d s) (translated_of d s stream) s reps stream

pub untouched_load : (d : Desk) (s reps stream : List ℕ) (a : Result Totals Refusal) {t q : List ℕ}
    → LoadPromise d s reps stream a t q → ((load_reply a).number ≡ 0 → ⊥) → (t ≡ s) × (q ≡ reps)
untouched_load d s reps stream a e h =
    let k = load_kept d s reps stream (λ z. h (ap (λ (y : LoadCall). y.reply.number) e ∙ z)) in
    (ap (λ (y : LoadCall). y.store) e ∙ k.0, ap (λ (y : LoadCall). y.reports) e ∙ k.1)

pub untouched_translate : (d : Desk) (s reps stream : List ℕ) (a : Result Totals Refusal) {t q : List ℕ}
    → TranslatePromise d s reps stream a t q → ((load_reply a).number ≡ 0 → ⊥) → (t ≡ s) × (q ≡ reps)
untouched_translate d s reps stream a e h =
    let k = translate_kept d s reps stream (λ z. h (ap (λ (y : LoadCall). y.reply.number) e ∙ z)) in
    (ap (λ (y : LoadCall). y.store) e ∙ k.0, ap (λ (y : LoadCall). y.reports) e ∙ k.1)

-- of a write: R6 tells the length of the stream, every other refusal nothing beside its number
pub record WriteKept (stream out : List ℕ) (x : WriteCall) : Type 0 where
  pub same : (x.reply.number ≡ 0 → ⊥) → x.out ≡ out
  pub mute : (x.reply.number ≡ 0 → ⊥) → (x.reply.number ≡ 6 → ⊥) → x.reply.told ≡ []
  pub needs : x.reply.number ≡ 6 → x.reply.told ≡ length stream ∷ []

pub put_kept : (stream out : List ℕ) → WriteKept stream out (put_call stream out)
unfolding put_call
put_kept stream out =
    by_test (WriteKept stream out) (ltb most_bytes (length stream)) _ _
    (λ e. record { same = λ h. refl; mute = λ h k. refl; needs = λ q. absurd (omega arith) })
    (λ e.
    by_test (WriteKept stream out) (ltb (length out) (length stream)) _ _
    (λ f. record { same = λ h. refl; mute = λ h k. absurd (k refl); needs = λ q. refl })
    (λ f. record { same = λ h. absurd (h refl); mute = λ h k. absurd (h refl); needs = λ q. absurd (omega arith) }))

write_by_kept : (a : Result Unit Refusal) → StoreAway (away_reply a) → (d : Desk) (s out : List ℕ) → WriteKept (stream_of d s) out (write_by a d s out)
unfolding write_by
write_by_kept (Ok _) m d s out = put_kept (stream_of d s) out
write_by_kept (Err r) m d s out =
    record { same = λ h. refl; mute = λ h k. m.mute; needs = λ q. absurd (m.sixth q) }

pub write_kept : (d : Desk) (s out : List ℕ) → WriteKept (stream_of d s) out (write_call d s out)
unfolding write_call
write_kept d s out = write_by_kept (admission_of d s) (store_away d s) d s out

pub untouched_write : (d : Desk) (s out : List ℕ) (a : Result ℕ Refusal) {o : List ℕ}
    → WritePromise d s out a o → ((write_reply a).number ≡ 0 → ⊥) → o ≡ out
untouched_write d s out a e h =
    ap (λ (y : WriteCall). y.out) e ∙ (write_kept d s out).same (λ z. h (ap (λ (y : WriteCall). y.reply.number) e ∙ z))

EmptyKept : List ℕ → EmptyCall → Type 0
EmptyKept s x = (x.reply.number ≡ 0 → ⊥) → x.store ≡ s

empty_by_kept : (a : Result Unit Refusal) (d : Desk) (s : List ℕ) → EmptyKept s (empty_by a d s)
unfolding EmptyKept empty_by
empty_by_kept (Ok _) d s h = absurd (h refl)
empty_by_kept (Err r) d s h = refl

pub empty_kept : (d : Desk) (s : List ℕ) → ((empty_call d s).reply.number ≡ 0 → ⊥) → (empty_call d s).store ≡ s
unfolding EmptyKept empty_call
empty_kept d s = empty_by_kept (lent_admission d s) d s

pub untouched_empty : (d : Desk) (s : List ℕ) (a : Result Unit Refusal) {t : List ℕ} → EmptyPromise d s a t → ((empty_reply a).number ≡ 0 → ⊥) → t ≡ s
untouched_empty d s a e h =
    ap (λ (y : EmptyCall). y.store) e ∙ empty_kept d s (λ z. h (ap (λ (y : EmptyCall). y.reply.number) e ∙ z))

-- `find` lends no list; where it tells no place it tells nothing
pub place_mute : (d : Desk) (a : Found) → ((placed_at d a).number ≡ 0 → ⊥) → (placed_at d a).told ≡ []
unfolding placed_at
place_mute d (at i) h = absurd (h refl)
place_mute d nowhere h = refl

find_by_mute : (a : Result Unit Refusal) → (away_reply a).told ≡ [] → (d : Desk) (s : List ℕ) (key : Key)
    → ((find_by a d s key).number ≡ 0 → ⊥) → (find_by a d s key).told ≡ []
unfolding find_by
find_by_mute (Ok _) m d s key h = place_mute d (find d s (cue_name key)) h
find_by_mute (Err r) m d s key h = m

pub find_mute : (d : Desk) (s : List ℕ) (page whole tenths : ℕ) → ((find_call d s page whole tenths).number ≡ 0 → ⊥)
    → (find_call d s page whole tenths).told ≡ []
unfolding find_call
find_mute d s page whole tenths h = find_by_mute (admission_of d s) (store_away d s).mute d s (cue_key page whole tenths) h
