-- The exported calls' definitions, in the form in which the code has its facts: an answer's case gives its word and what it tells, and a
-- list that is too short keeps what it has.
-- Assumes nothing.
use Rattle.std.specs.Prelude.{Err, None, Ok, Option, Result, Some}
use mathlib.Core.Path.{◌≡◌, refl, sym, ap, ◌∙◌, subst}
use mathlib.Core.List.{List, [], ◌∷◌}
use Prim.Native.Nat.{ℕ, ◌≤◌}
use native.Mathlib.Omega.{arith}
use lib.ListN.{length, get_or, set}
use Rattle.cells.specs.Note.{noted_from}
use Rattle.cells.proofs.Noted.{noted_none}
use Rattle.store_desk.specs.declared.Desk.{Desk}
use Rattle.store_desk.specs.declared.Refusal.{Refusal}
use Rattle.store_desk.specs.declared.Refusal.TheVariants.{R6}
use Rattle.store_desk.specs.Refusal.{refusal_number, refusal_place, refusal_told, Reply, refused, reply_word, refusal_word, most_places, needed_reply, needed_call, NeededPromise}
use Rattle.store_desk.proofs.Reply.{refusal_some, needed_mute}
use Rattle.show.specs.Calls.{LoadCall, load_reply, loaded_as, load_call, LoadPromise, translate_call, TranslatePromise, WriteCall, write_reply, written_as, write_call, WritePromise}
use Rattle.show.specs.Calls.{EmptyCall, empty_reply, empty_call, EmptyPromise, not_kept_word, find_reply, find_call, FindPromise}
use Rattle.show.proofs.OneAnswer.{load_kept, translate_kept, find_mute}
use Rattle.show.proofs.Refusals.{Said, load_said, translate_said, put_said, write_said, empty_said, needed_said, find_said}
use Rattle.show_read.specs.Calls.{ListCall, list_reply, memories_call, MemoriesPromise, head_reply, head_call, HeadPromise, levels_call, LevelsPromise}
use Rattle.show_read.specs.Calls.{patch_reply, patch_call, PatchPromise}
use Rattle.show_read.proofs.OneAnswer.{memories_kept, head_mute, levels_mute, patch_mute}
use Rattle.show_read.proofs.Refusals.{memories_said, head_said, levels_said, patch_said}
use Rattle.show_words.specs.Words.{TextPromise}
use Rattle.sphairune.specs.Fits.{Telling}
use Rattle.sphairune.specs.Calls.{desk_of, Exported, exported, replied_in, emptied_in, loaded_in, written_in, listed_in}
use Rattle.store_head.specs.declared.Head.{Head}
use Rattle.store_head.specs.declared.Patch.{Patch}
use Rattle.load.specs.declared.Totals.{Totals}

-- ---- a desk, limit by limit

pub desk_is : (l : List ℕ) {a b c d e f g h k : ℕ} → a ≡ get_or l 0 0 → b ≡ get_or l 1 0 → c ≡ get_or l 2 0 → d ≡ get_or l 3 0 → e ≡ get_or l 4 0
    → f ≡ get_or l 5 0 → g ≡ get_or l 6 0 → h ≡ get_or l 7 0 → k ≡ get_or l 8 0
    → ◌≡◌ {A = Desk}
    (record {
      channels = a;
      dimmers = b;
      cues = c;
      groups = d;
      subs = e;
      cue_pages = f;
      group_pages = g;
      sub_pages = h;
      patch_pages = k;
    })
    (desk_of l)
unfolding desk_of
desk_is l p q r s t u v w x =
    λ i.
    record {
      channels = p i;
      dimmers = q i;
      cues = r i;
      groups = s i;
      subs = t i;
      cue_pages = u i;
      group_pages = v i;
      sub_pages = w i;
      patch_pages = x i;
    }

-- ---- lists of numbers

pub length_some : (l : List ℕ) (n : ℕ) → set l 0 n ≡ noted_from 0 l (n ∷ [])
unfolding noted_from
length_some l n = refl

pub length_none : (l : List ℕ) (n : ℕ) → length l ≤ 0 → l ≡ noted_from 0 l (n ∷ [])
unfolding noted_from
length_none l n h = noted_none l 0 n h

-- where nothing is told
pub mute_list : (l : List ℕ) {told : List ℕ} → told ≡ [] → l ≡ noted_from 0 l told
unfolding noted_from
mute_list l e = sym (ap (noted_from 0 l) e)

pub told_length : (l : List ℕ) {r : Refusal} {n : ℕ} {k : List ℕ} → r ≡ R6 n → k ≡ noted_from 0 l (n ∷ []) → k ≡ noted_from 0 l (refusal_told r)
told_length l e f = f ∙ sym (ap (λ (r : Refusal). noted_from 0 l (refusal_told r)) e)

pub told_none : (l : List ℕ) {r : Refusal} (q : Refusal) → r ≡ q → refusal_told q ≡ [] → l ≡ noted_from 0 l (refusal_told r)
told_none l q e h = mute_list l (ap refusal_told e ∙ h)

pub told_values : (l : List ℕ) {vs ws k : List ℕ} → vs ≡ ws → k ≡ noted_from 0 l vs → k ≡ noted_from 0 l ws
told_values l e f = f ∙ ap (noted_from 0 l) e

-- ---- the calls

-- an answer whose word is what another call tells
pub answered : {n m : ℕ} {ls : List (List ℕ)} {x : Exported} → n ≡ m → exported m ls ≡ x → exported n ls ≡ x
answered {ls = ls} e f = ap (λ (k : ℕ). exported k ls) e ∙ f

-- a refusal's number is not 0
some : (r : Refusal) {x : Reply} → refused r ≡ x → x.number ≡ 0 → ⊥
some r e z =
    let n : refusal_number r ≡ 0 = ap (λ (y : Reply). y.number) e ∙ z in
    let l = refusal_some r in
    omega arith

-- the place of a refusal that a call answers is one of the desk's
within : {d : Desk} {s : List ℕ} {x : Reply} (r : Refusal) → refused r ≡ x → Said d s x → refusal_place r ≤ most_places
within r e h = subst (λ (y : Reply). y.place ≤ most_places) (sym e) h.place.most

pub needed_within : (d : Desk) {a : Result ℕ Refusal} {r : Refusal} → NeededPromise d a → a ≡ Err r → refusal_place r ≤ most_places
needed_within d {a} {r} f g = within r (sym (ap needed_reply g) ∙ f) (needed_said d)

pub empty_within : (d : Desk) (s : List ℕ) {a : Result Unit Refusal} {t : List ℕ} {r : Refusal} → EmptyPromise d s a t → a ≡ Err r
    → refusal_place r ≤ most_places
empty_within d s {a} {t} {r} f g = within r (sym (ap empty_reply g) ∙ ap (λ (x : EmptyCall). x.reply) f) (empty_said d s)

pub load_within : (d : Desk) (s reps stream : List ℕ) {a : Result Totals Refusal} {t q : List ℕ} {r : Refusal} → LoadPromise d s reps stream a t q
    → a ≡ Err r → refusal_place r ≤ most_places
load_within d s reps stream {a} {t} {q} {r} f g =
    within r (sym (ap load_reply g) ∙ ap (λ (x : LoadCall). x.reply) f) (load_said d s reps stream)

pub translate_within : (d : Desk) (s reps stream : List ℕ) {a : Result Totals Refusal} {t q : List ℕ} {r : Refusal} → TranslatePromise d s reps stream a t q
    → a ≡ Err r → refusal_place r ≤ most_places
translate_within d s reps stream {a} {t} {q} {r} f g =
    within r (sym (ap load_reply g) ∙ ap (λ (x : LoadCall). x.reply) f) (translate_said d s reps stream)

-- of a write or a text
pub write_most : (d : Desk) (s out : List ℕ) (a : Result ℕ Refusal) {o : List ℕ} → WritePromise d s out a o → (write_reply a).place ≤ most_places
write_most d s out a f =
    subst (λ (x : WriteCall). x.reply.place ≤ most_places) (sym f) (write_said d s out).place.most

pub text_most : (text out : List ℕ) (a : Result ℕ Refusal) {o : List ℕ} → TextPromise text out a o → (write_reply a).place ≤ most_places
text_most text out a f =
    subst (λ (x : WriteCall). x.reply.place ≤ most_places) (sym f) (put_said (desk_of []) [] text out).place.most

-- of a place
pub find_telling : (d : Desk) (s : List ℕ) (page whole tenths : ℕ) (a : Result (Option ℕ) Refusal) → FindPromise d s page whole tenths a → Telling (find_reply a)
find_telling d s page whole tenths a f =
    subst Telling (sym f) (record { place = (find_said d s page whole tenths).place.most; mute = find_mute d s page whole tenths })

pub levels_telling : (d : Desk) (s : List ℕ) (n : ℕ) (a : Result (Option ℕ) Refusal) → LevelsPromise d s n a → Telling (find_reply a)
levels_telling d s n a f = subst Telling (sym f) (record { place = (levels_said d s n).place.most; mute = levels_mute d s n })

pub memories_within : (d : Desk) (s : List ℕ) (n : ℕ) (l : List ℕ) {a : Result (Option ℕ) Refusal} {t : List ℕ} {r : Refusal} → MemoriesPromise d s n l a t
    → a ≡ Err r → refusal_place r ≤ most_places
memories_within d s n l {a} {t} {r} f g = within r (sym (ap list_reply g) ∙ ap (λ (x : ListCall). x.reply) f) (memories_said d s n l)

pub head_within : (d : Desk) (s : List ℕ) (n : ℕ) {a : Result (Option Head) Refusal} {r : Refusal} → HeadPromise d s n a → a ≡ Err r → refusal_place r ≤ most_places
head_within d s n {a} {r} f g = within r (sym (ap head_reply g) ∙ f) (head_said d s n)

pub patch_within : (d : Desk) (s : List ℕ) (page dimmer : ℕ) {a : Result (Option Patch) Refusal} {r : Refusal} → PatchPromise d s page dimmer a → a ≡ Err r
    → refusal_place r ≤ most_places
patch_within d s page dimmer {a} {r} f g = within r (sym (ap patch_reply g) ∙ f) (patch_said d s page dimmer)

-- what `find` and `levels` answer, noted
-- what a call that is not turned away answers
abbrev pub answer : {T : Type 0} → T → Result T Refusal
answer x = Ok x

pub place_most : {a : Result (Option ℕ) Refusal} {r : Refusal} → Telling (find_reply a) → a ≡ Err r → refusal_place r ≤ most_places
place_most h e = subst (λ (x : Result (Option ℕ) Refusal). (find_reply x).place ≤ most_places) e h.place

pub place_away : (l : List ℕ) {a : Result (Option ℕ) Refusal} {r : Refusal} {n : ℕ} → Telling (find_reply a) → a ≡ Err r → n ≡ refusal_word r
    → exported n (l ∷ []) ≡ replied_in (find_reply a) l
unfolding replied_in
place_away l {a} {r} h e f =
    let m = (subst (λ (x : Result (Option ℕ) Refusal). Telling (find_reply x)) e h).mute (some r refl) in
    ap (λ (k : ℕ). exported k (l ∷ [])) f
    ∙ ap (λ (k : List ℕ). exported (refusal_word r) (k ∷ [])) (mute_list l m)
    ∙ sym (ap (λ (x : Result (Option ℕ) Refusal). replied_in (find_reply x) l) e)

pub place_none : (l : List ℕ) {a : Result (Option ℕ) Refusal} → a ≡ (Ok None) → exported not_kept_word (l ∷ []) ≡ replied_in (find_reply a) l
unfolding replied_in
place_none l e =
    ap (λ (k : List ℕ). exported not_kept_word (k ∷ [])) (mute_list l refl) ∙ sym (ap (λ (x : Result (Option ℕ) Refusal). replied_in (find_reply x) l) e)

pub place_at : (l : List ℕ) {a : Result (Option ℕ) Refusal} {n : ℕ} {k : List ℕ} → a ≡ Ok (Some n) → k ≡ noted_from 0 l (n ∷ [])
    → exported 0 (k ∷ []) ≡ replied_in (find_reply a) l
unfolding replied_in
place_at l e g = ap (λ (m : List ℕ). exported 0 (m ∷ [])) g ∙ sym (ap (λ (x : Result (Option ℕ) Refusal). replied_in (find_reply x) l) e)

-- what a write or a text answers, noted
pub note_away : (l : List ℕ) {a : Result ℕ Refusal} {r : Refusal} {n : ℕ} {k : List ℕ} → a ≡ Err r → n ≡ refusal_word r
    → k ≡ noted_from 0 l (refusal_told r) → exported n (k ∷ []) ≡ replied_in (write_reply a) l
unfolding replied_in
note_away l {r = r} e f g =
    (λ i. exported (f i) (g i ∷ [])) ∙ sym (ap (λ (x : Result ℕ Refusal). replied_in (write_reply x) l) e)

pub note_done : (l : List ℕ) {a : Result ℕ Refusal} {n : ℕ} {k : List ℕ} → a ≡ Ok n → k ≡ noted_from 0 l (n ∷ [])
    → exported 0 (k ∷ []) ≡ replied_in (write_reply a) l
unfolding replied_in
note_done l e g = ap (λ (m : List ℕ). exported 0 (m ∷ [])) g ∙ sym (ap (λ (x : Result ℕ Refusal). replied_in (write_reply x) l) e)

pub note_most : {a : Result ℕ Refusal} {r : Refusal} → (write_reply a).place ≤ most_places → a ≡ Err r → refusal_place r ≤ most_places
note_most h e = subst (λ (x : Result ℕ Refusal). (write_reply x).place ≤ most_places) e h

pub written_by : (l : List ℕ) (a : Result ℕ Refusal) {n : ℕ} {o k : List ℕ} {x : WriteCall} → written_as (write_reply a) o ≡ x
    → exported n (k ∷ []) ≡ replied_in (write_reply a) l → exported n (o ∷ k ∷ []) ≡ written_in x l
unfolding replied_in written_in
written_by l a {o = o} e f =
    ap (λ (z : Exported). exported z.word (o ∷ get_or z.lent 0 [] ∷ [])) f ∙ ap (λ (y : WriteCall). written_in y l) e

module _ (limits : List ℕ) {d : Desk} (e : d ≡ desk_of limits) where
  -- a call that answers a reply alone
  replied_by : (l : List ℕ) (call : Desk → Reply) {x : Reply} {k : List ℕ} → x ≡ call d → k ≡ noted_from 0 l x.told
      → exported (reply_word x) (k ∷ []) ≡ replied_in (call (desk_of limits)) l
  unfolding replied_in
  replied_by l call {x} f h =
      ap (λ (m : List ℕ). exported (reply_word x) (m ∷ [])) h
      ∙ ap (λ (y : Reply). replied_in y l) f
      ∙ ap (λ (y : Desk). replied_in (call y) l) e

  replied_away : (l : List ℕ) (call : Desk → Reply) (r : Refusal) → refused r ≡ call d → (((call d).number ≡ 0 → ⊥) → (call d).told ≡ [])
      → exported (refusal_word r) (l ∷ []) ≡ replied_in (call (desk_of limits)) l
  replied_away l call r p m = replied_by l call p (mute_list l (ap (λ (x : Reply). x.told) p ∙ m (some r p)))

  pub needed_by : (l : List ℕ) {a : Result ℕ Refusal} {k : List ℕ} → NeededPromise d a → (b : Result ℕ Refusal) → a ≡ b → k ≡ noted_from 0 l (needed_reply b).told
      → exported (reply_word (needed_reply b)) (k ∷ []) ≡ replied_in (needed_call (desk_of limits)) l
  needed_by l f b g h = replied_by l needed_call (sym (ap needed_reply g) ∙ f) h

  pub needed_away : (l : List ℕ) {a : Result ℕ Refusal} {r : Refusal} → NeededPromise d a → a ≡ Err r
      → exported (refusal_word r) (l ∷ []) ≡ replied_in (needed_call (desk_of limits)) l
  needed_away l {r = r} f g = replied_away l needed_call r (sym (ap needed_reply g) ∙ f) (needed_mute d)

  pub empty_by_lem : (s : List ℕ) {a : Result Unit Refusal} {t : List ℕ} → EmptyPromise d s a t → (b : Result Unit Refusal) → a ≡ b
      → exported (reply_word (empty_reply b)) (t ∷ []) ≡ emptied_in (empty_call (desk_of limits) s)
  unfolding emptied_in
  empty_by_lem s {a} {t} f b g =
      sym (ap (λ (x : Result Unit Refusal). exported (reply_word (empty_reply x)) (t ∷ [])) g) ∙ ap emptied_in f ∙ ap (λ (x : Desk). emptied_in (empty_call x s)) e

  -- either load
  loaded_by : (l : List ℕ) (call : Desk → LoadCall) {a : Result Totals Refusal} {t q k : List ℕ} → loaded_as (load_reply a) t q ≡ call d → (b : Result Totals Refusal) → a ≡ b
      → k ≡ noted_from 0 l (load_reply b).told → exported (reply_word (load_reply b)) (t ∷ q ∷ k ∷ []) ≡ loaded_in (call (desk_of limits)) l
  unfolding loaded_in
  loaded_by l call {a} {t} {q} f b g h =
      ap (λ (m : List ℕ). exported (reply_word (load_reply b)) (t ∷ q ∷ m ∷ [])) h
      ∙ sym (ap (λ (x : Result Totals Refusal). exported (reply_word (load_reply x)) (t ∷ q ∷ noted_from 0 l (load_reply x).told ∷ [])) g)
      ∙ ap (λ (x : LoadCall). loaded_in x l) f
      ∙ ap (λ (x : Desk). loaded_in (call x) l) e

  loaded_away : (l : List ℕ) (call : Desk → LoadCall) {a : Result Totals Refusal} {t q : List ℕ} {r : Refusal} → loaded_as (load_reply a) t q ≡ call d → a ≡ Err r
      → (((call d).reply.number ≡ 0 → ⊥) → (call d).reply.told ≡ []) → exported (refusal_word r) (t ∷ q ∷ l ∷ []) ≡ loaded_in (call (desk_of limits)) l
  loaded_away l call {a} {t} {q} {r} f g mute =
      let p : refused r ≡ (call d).reply = sym (ap load_reply g) ∙ ap (λ (x : LoadCall). x.reply) f in
      loaded_by l call f (Err r) g (mute_list l (ap (λ (x : Reply). x.told) p ∙ mute (some r p)))

  pub load_by_lem : (s stream reps l : List ℕ) {a : Result Totals Refusal} {t q k : List ℕ} → LoadPromise d s reps stream a t q → (b : Result Totals Refusal) → a ≡ b
      → k ≡ noted_from 0 l (load_reply b).told → exported (reply_word (load_reply b)) (t ∷ q ∷ k ∷ []) ≡ loaded_in (load_call (desk_of limits) s reps stream) l
  load_by_lem s stream reps l = loaded_by l (λ x. load_call x s reps stream)

  pub load_away : (s stream reps l : List ℕ) {a : Result Totals Refusal} {t q : List ℕ} {r : Refusal} → LoadPromise d s reps stream a t q → a ≡ Err r
      → exported (refusal_word r) (t ∷ q ∷ l ∷ []) ≡ loaded_in (load_call (desk_of limits) s reps stream) l
  load_away s stream reps l f g = loaded_away l (λ x. load_call x s reps stream) f g (λ n. (load_kept d s reps stream n).2)

  pub translate_by : (s stream reps l : List ℕ) {a : Result Totals Refusal} {t q k : List ℕ} → TranslatePromise d s reps stream a t q → (b : Result Totals Refusal) → a ≡ b
      → k ≡ noted_from 0 l (load_reply b).told
      → exported (reply_word (load_reply b)) (t ∷ q ∷ k ∷ []) ≡ loaded_in (translate_call (desk_of limits) s reps stream) l
  translate_by s stream reps l = loaded_by l (λ x. translate_call x s reps stream)

  pub translate_away : (s stream reps l : List ℕ) {a : Result Totals Refusal} {t q : List ℕ} {r : Refusal} → TranslatePromise d s reps stream a t q → a ≡ Err r
      → exported (refusal_word r) (t ∷ q ∷ l ∷ []) ≡ loaded_in (translate_call (desk_of limits) s reps stream) l
  translate_away s stream reps l f g = loaded_away l (λ x. translate_call x s reps stream) f g (λ n. (translate_kept d s reps stream n).2)

  pub write_by_lem : (s out l : List ℕ) (a : Result ℕ Refusal) {n : ℕ} {o k : List ℕ} → WritePromise d s out a o
      → exported n (k ∷ []) ≡ replied_in (write_reply a) l → exported n (o ∷ k ∷ []) ≡ written_in (write_call (desk_of limits) s out) l
  write_by_lem s out l a f g = written_by l a f g ∙ ap (λ (x : Desk). written_in (write_call x s out) l) e

  -- a place by its own reply
  placed_by : (l : List ℕ) (call : Desk → Reply) (a : Result (Option ℕ) Refusal) {x : Exported} → find_reply a ≡ call d → x ≡ replied_in (find_reply a) l
      → x ≡ replied_in (call (desk_of limits)) l
  placed_by l call a f g = g ∙ ap (λ (y : Reply). replied_in y l) f ∙ ap (λ (y : Desk). replied_in (call y) l) e

  pub find_by_lem : (s : List ℕ) (page whole tenths : ℕ) (l : List ℕ) (a : Result (Option ℕ) Refusal) {x : Exported} → FindPromise d s page whole tenths a
      → x ≡ replied_in (find_reply a) l → x ≡ replied_in (find_call (desk_of limits) s page whole tenths) l
  find_by_lem s page whole tenths l a f g = placed_by l (λ y. find_call y s page whole tenths) a f g

  pub memories_by_lem : (s : List ℕ) (n : ℕ) (slots l : List ℕ) {a : Result (Option ℕ) Refusal} {t k : List ℕ} → MemoriesPromise d s n slots a t → (b : Result (Option ℕ) Refusal) → a ≡ b
      → k ≡ noted_from 0 l (list_reply b).told
      → exported (reply_word (list_reply b)) (t ∷ k ∷ []) ≡ listed_in (memories_call (desk_of limits) s n slots) l
  unfolding listed_in
  memories_by_lem s n slots l {a} {t} f b g h =
      ap (λ (m : List ℕ). exported (reply_word (list_reply b)) (t ∷ m ∷ [])) h
      ∙ sym (ap (λ (x : Result (Option ℕ) Refusal). exported (reply_word (list_reply x)) (t ∷ noted_from 0 l (list_reply x).told ∷ [])) g)
      ∙ ap (λ (x : ListCall). listed_in x l) f
      ∙ ap (λ (x : Desk). listed_in (memories_call x s n slots) l) e

  pub memories_away : (s : List ℕ) (n : ℕ) (slots l : List ℕ) {a : Result (Option ℕ) Refusal} {t : List ℕ} {r : Refusal} → MemoriesPromise d s n slots a t
      → a ≡ Err r → exported (refusal_word r) (t ∷ l ∷ []) ≡ listed_in (memories_call (desk_of limits) s n slots) l
  memories_away s n slots l {a} {t} {r} f g =
      let p : refused r ≡ (memories_call d s n slots).reply = sym (ap list_reply g) ∙ ap (λ (x : ListCall). x.reply) f in
      memories_by_lem s n slots l f (Err r) g (mute_list l (ap (λ (x : Reply). x.told) p ∙ (memories_kept d s n slots (some r p)).1))

  pub head_by_lem : (s : List ℕ) (n : ℕ) (l : List ℕ) {a : Result (Option Head) Refusal} {k : List ℕ} → HeadPromise d s n a → (b : Result (Option Head) Refusal) → a ≡ b
      → k ≡ noted_from 0 l (head_reply b).told → exported (reply_word (head_reply b)) (k ∷ []) ≡ replied_in (head_call (desk_of limits) s n) l
  head_by_lem s n l f b g h = replied_by l (λ x. head_call x s n) (sym (ap head_reply g) ∙ f) h

  pub head_away : (s : List ℕ) (n : ℕ) (l : List ℕ) {a : Result (Option Head) Refusal} {r : Refusal} → HeadPromise d s n a → a ≡ Err r
      → exported (refusal_word r) (l ∷ []) ≡ replied_in (head_call (desk_of limits) s n) l
  head_away s n l {r = r} f g = replied_away l (λ x. head_call x s n) r (sym (ap head_reply g) ∙ f) (head_mute d s n)

  pub levels_by_lem : (s : List ℕ) (n : ℕ) (l : List ℕ) (a : Result (Option ℕ) Refusal) {x : Exported} → LevelsPromise d s n a → x ≡ replied_in (find_reply a) l
      → x ≡ replied_in (levels_call (desk_of limits) s n) l
  levels_by_lem s n l a f g = placed_by l (λ y. levels_call y s n) a f g

  pub patch_by_lem : (s : List ℕ) (page dimmer : ℕ) (l : List ℕ) {a : Result (Option Patch) Refusal} {k : List ℕ} → PatchPromise d s page dimmer a → (b : Result (Option Patch) Refusal) → a ≡ b
      → k ≡ noted_from 0 l (patch_reply b).told → exported (reply_word (patch_reply b)) (k ∷ []) ≡ replied_in (patch_call (desk_of limits) s page dimmer) l
  patch_by_lem s page dimmer l f b g h = replied_by l (λ x. patch_call x s page dimmer) (sym (ap patch_reply g) ∙ f) h

  pub patch_away : (s : List ℕ) (page dimmer : ℕ) (l : List ℕ) {a : Result (Option Patch) Refusal} {r : Refusal} → PatchPromise d s page dimmer a → a ≡ Err r
      → exported (refusal_word r) (l ∷ []) ≡ replied_in (patch_call (desk_of limits) s page dimmer) l
  patch_away s page dimmer l {r = r} f g = replied_away l (λ x. patch_call x s page dimmer) r (sym (ap patch_reply g) ∙ f) (patch_mute d s page dimmer)
