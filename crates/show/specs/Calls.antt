-- What each public call answers and what it leaves in every lent list, and its promise by name (paper 01, "Calls turned away"; paper 02,
-- C-11). The refusals are tested in the paper's order, and each leaves all lent memory as it was. An answer is told by the paper's number, by
-- the place of what is out of form, and by what it tells beside them (`Reply` of `store_desk`); the promise of `needed` stands there too.
-- Assumes nothing.
use Rattle.std.specs.Prelude.{cond, List, [], ◌∷◌, ◌≡◌, ℕ, ◌+◌, ◌*◌, eqb, ltb, leb, length, Err, None, Ok, Option, Result, Some}
use Rattle.std.specs.Borrow.{Bor}
use Rattle.cells.specs.Put.{put}
use Rattle.cells.specs.Search.{Found, at, nowhere}
use Rattle.store_desk.specs.declared.Desk.{Desk}
use Rattle.store_desk.specs.declared.Key.{Key}
use Rattle.store_desk.specs.declared.Kind.TheVariants.{Cue}
use Rattle.store_desk.specs.declared.Refusal.TheVariants.{R1, R2, R3, R4a, R4b, R4c, R5, R6, R7}
use Rattle.store_desk.specs.Size.{in_range_of, store_length, head_length, slot_length}
use Rattle.store_desk.specs.Name.{Name}
use Rattle.store_desk.specs.Refusal.{Reply, replied, refused, refusal_word}
use Rattle.store.specs.Slots.{find, levels_at}
use Rattle.store.specs.Change.{emptied as emptiedStore}
use Rattle.store.specs.Form.{form_of}
use Rattle.load.specs.declared.Totals.{Totals}
use Rattle.load.specs.Run.{Run, load_of, totals_of, stored_in, all_reports}
use Rattle.load.specs.Translated.{translated_of}
use Rattle.save.specs.Lines.{stream_of}
use Rattle.store.specs.declared.FormError.{FormError}
use Rattle.store_desk.specs.declared.Refusal.{Refusal}
use Rattle.store.specs.declared.FormError.TheVariants.{BadSlot, Repeated, BadEntry}

-- R1, R5: the longest stream
abbrev pub most_bytes : ℕ
most_bytes = 262143

-- R4a, a slot out of form; R4b, a slot used twice for one memory; R4c, a patch entry out of form; each with its place, from 1
unfoldable pub form_admission : Result Unit FormError → Result Unit Refusal
form_admission (Ok _) = Ok tt
form_admission (Err (BadSlot i)) = Err (R4a (i + 1))
form_admission (Err (Repeated i)) = Err (R4b (i + 1))
form_admission (Err (BadEntry i)) = Err (R4c (i + 1))

-- R2, a limit outside its range; R3, a store shorter than the desk needs
unfoldable pub lent_admission : Desk → List ℕ → Result Unit Refusal
lent_admission d s = cond (in_range_of d) (cond (leb (store_length d) (length s)) (Ok tt) (Err R3)) (Err R2)

-- where nothing turned the call away, what is tested next decides
unfoldable pub then_admission : Result Unit Refusal → Result Unit Refusal → Result Unit Refusal
then_admission (Ok _) a = a
then_admission (Err r) a = Err r

-- R2, R3, then the store's form
unfoldable pub admission_of : Desk → List ℕ → Result Unit Refusal
admission_of d s = then_admission (lent_admission d s) (form_admission (form_of d s))

-- ---- load

pub record LoadCall : Type 0 where
  pub reply : Reply
  pub store : List ℕ
  pub reports : List ℕ

-- the count of reports, the four tallies and the closing number
abbrev pub totals_told : Totals → List ℕ
totals_told t = t.reports ∷ t.blank ∷ t.obeyed ∷ t.passed ∷ t.dropped ∷ t.closing ∷ []

abbrev pub load_reply : Result Totals Refusal → Reply
load_reply (Err r) = refused r
load_reply (Ok t) = replied (totals_told t)

abbrev pub loaded_as : Reply → List ℕ → List ℕ → LoadCall
loaded_as a s reps = record { reply = a; store = s; reports = reps }

abbrev pub load_done : Run → List ℕ → LoadCall
load_done x reps = loaded_as (replied (totals_told (totals_of x))) x.store (stored_in reps (all_reports x))

-- a call that is let in comes to a run
unfoldable pub load_by : Result Unit Refusal → Run → List ℕ → List ℕ → LoadCall
load_by (Ok _) x s reps = load_done x reps
load_by (Err r) x s reps = loaded_as (refused r) s reps

-- R1, a stream that is too long, is tested ahead of all else
unfoldable pub stream_call : Result Unit Refusal → Run → List ℕ → List ℕ → List ℕ → LoadCall
stream_call a x s reps stream = let y = load_by a x s reps in cond (ltb most_bytes (length stream)) (loaded_as (refused R1) s reps) y

unfoldable pub load_call : Desk → List ℕ → List ℕ → List ℕ → LoadCall
load_call d s reps stream = stream_call (admission_of d s) (load_of d s stream) s reps stream

-- of its answer, and the store and the lent list afterwards
abbrev pub LoadPromise : Desk → List ℕ → List ℕ → List ℕ → Result Totals Refusal → List ℕ → List ℕ → Type 0
LoadPromise d s reps stream a t q = loaded_as (load_reply a) t q ≡ load_call d s reps stream

-- ---- translate: the load with translation (C-13)

-- R7, a desk without groups or without submasters, is tested after the store's form
unfoldable pub kinds_admission : Desk → Result Unit Refusal
kinds_admission d = cond (eqb d.groups 0) (Err R7) (cond (eqb d.subs 0) (Err R7) (Ok tt))

unfoldable pub translate_admission : Desk → List ℕ → Result Unit Refusal
translate_admission d s = then_admission (admission_of d s) (kinds_admission d)

unfoldable pub translate_call : Desk → List ℕ → List ℕ → List ℕ → LoadCall
translate_call d s reps stream = stream_call (translate_admission d s) (translated_of d s stream) s reps stream

abbrev pub TranslatePromise : Desk → List ℕ → List ℕ → List ℕ → Result Totals Refusal → List ℕ → List ℕ → Type 0
TranslatePromise d s reps stream a t q = loaded_as (load_reply a) t q ≡ translate_call d s reps stream

-- ---- write

pub record WriteCall : Type 0 where
  pub reply : Reply
  pub out : List ℕ

abbrev pub write_reply : Result ℕ Refusal → Reply
write_reply (Err r) = refused r
write_reply (Ok n) = replied (n ∷ [])

abbrev pub written_as : Reply → List ℕ → WriteCall
written_as a o = record { reply = a; out = o }

-- R5, the whole stream would exceed 262,143; R6, it exceeds the output given, with the length needed
unfoldable pub put_call : List ℕ → List ℕ → WriteCall
put_call stream out =
    cond (ltb most_bytes (length stream)) (written_as (refused R5) out)
    (cond (ltb (length out) (length stream)) (written_as (refused (R6 (length stream))) out)
    (written_as (replied (length stream ∷ [])) (put out 0 stream)))

unfoldable pub write_by : Result Unit Refusal → Desk → List ℕ → List ℕ → WriteCall
write_by (Ok _) d s out = put_call (stream_of d s) out
write_by (Err r) d s out = written_as (refused r) out

unfoldable pub write_call : Desk → List ℕ → List ℕ → WriteCall
write_call d s out = write_by (admission_of d s) d s out

-- of its answer, and the output afterwards
abbrev pub WritePromise : Desk → List ℕ → List ℕ → Result ℕ Refusal → List ℕ → Type 0
WritePromise d s out a o = written_as (write_reply a) o ≡ write_call d s out

-- ---- empty

pub record EmptyCall : Type 0 where
  pub reply : Reply
  pub store : List ℕ

abbrev pub empty_reply : Result Unit Refusal → Reply
empty_reply (Err r) = refused r
empty_reply (Ok _) = replied []

abbrev pub emptied_as : Reply → List ℕ → EmptyCall
emptied_as a s = record { reply = a; store = s }

unfoldable pub empty_by : Result Unit Refusal → Desk → List ℕ → EmptyCall
empty_by (Ok _) d s = emptied_as (replied []) (emptiedStore d s)
empty_by (Err r) d s = emptied_as (refused r) s

unfoldable pub empty_call : Desk → List ℕ → EmptyCall
empty_call d s = empty_by (lent_admission d s) d s

-- of its answer, and the store afterwards
abbrev pub EmptyPromise : Desk → List ℕ → Result Unit Refusal → List ℕ → Type 0
EmptyPromise d s a t = emptied_as (empty_reply a) t ≡ empty_call d s

-- ---- look-up: the very level bytes of a kept cue

-- the answer word: 0 kept, 255 not kept, which is no refusal's number; else the refusal's number and place
abbrev pub kept_word : ℕ
kept_word = 0

abbrev pub not_kept_word : ℕ
not_kept_word = 255

-- the word, where in the store the part begins, and its bytes; the part is empty, at the store's start, where there is none
pub record Look : Type 0 where
  pub word : ℕ
  pub place : ℕ
  pub bytes : List ℕ

abbrev pub look : ℕ → ℕ → List ℕ → Look
look w p b = record { word = w; place = p; bytes = b }

abbrev pub cue_name : Key → Name
cue_name key = record { kind = Cue; key = key }

abbrev pub cue_key : ℕ → ℕ → ℕ → Key
cue_key page whole tenths = record { page = page; whole = whole; fraction = tenths }

unfoldable pub look_at : Desk → List ℕ → Found → Look
look_at d s (at i) = look kept_word (i * slot_length d + head_length) (levels_at d s i)
look_at d s nowhere = look not_kept_word 0 []

unfoldable pub look_by : Result Unit Refusal → Desk → List ℕ → Key → Look
look_by (Ok _) d s key = look_at d s (find d s (cue_name key))
look_by (Err r) d s key = look (refusal_word r) 0 []

unfoldable pub look_call : Desk → List ℕ → ℕ → ℕ → ℕ → Look
look_call d s page whole tenths = look_by (admission_of d s) d s (cue_key page whole tenths)

-- the part r of the store s and the answer word are what a look says: the word, the bytes, and where they lie
pub record LookedUp (s r : Bor (List ℕ)) (answer : ℕ) (x : Look) : Type 0 where
  pub says : answer ≡ x.word
  pub bytes : r.now ≡ x.bytes
  pub block : r.ref_ptr.0 ≡ s.ref_ptr.0
  pub offset : r.ref_ptr.1 ≡ s.ref_ptr.1 + x.place

-- of the part that it hands out, and the answer word afterwards
abbrev pub LookPromise : Desk → Bor (List ℕ) → ℕ → ℕ → ℕ → Bor (List ℕ) → ℕ → Type 0
LookPromise d s page whole tenths r answer = LookedUp s r answer (look_call d s.now page whole tenths)

-- ---- find: the same as a number

abbrev pub not_kept : Reply
not_kept = record { number = not_kept_word; place = 0; told = [] }

abbrev pub find_reply : Result (Option ℕ) Refusal → Reply
find_reply (Err r) = refused r
find_reply (Ok None) = not_kept
find_reply (Ok (Some n)) = replied (n ∷ [])

unfoldable pub placed_at : Desk → Found → Reply
placed_at d (at i) = replied ((i * slot_length d + head_length) ∷ [])
placed_at d nowhere = not_kept

unfoldable pub find_by : Result Unit Refusal → Desk → List ℕ → Key → Reply
find_by (Ok _) d s key = placed_at d (find d s (cue_name key))
find_by (Err r) d s key = refused r

unfoldable pub find_call : Desk → List ℕ → ℕ → ℕ → ℕ → Reply
find_call d s page whole tenths = find_by (admission_of d s) d s (cue_key page whole tenths)

-- its number is a refusal's, 255 for a cue that is not kept, or 0
abbrev pub FindPromise : Desk → List ℕ → ℕ → ℕ → ℕ → Result (Option ℕ) Refusal → Type 0
FindPromise d s page whole tenths a = find_reply a ≡ find_call d s page whole tenths
