-- Each call's number is that of the first of the paper's lines that holds: the promises' tests are those lines, one after the other; and
-- since no two lines of a call share a number, a line's number is the answer only where it holds. The place that is told is that of the search
-- that found it, and the answer's word has number and place apart.
-- Assumes nothing.
use Rattle.std.specs.Prelude.{Err, Ok, Option, Result}
use mathlib.Core.Path.{◌≡◌, refl, sym, ap, ◌∙◌, subst}
use mathlib.Core.Bool.{Bool, true, false, not, ◌&&◌}
use mathlib.Core.List.{List, [], ◌∷◌}
use mathlib.Core.Logic.{◌⊎◌, inl, inr, ⊎_elim}
use Prim.Native.Nat.{ℕ, ◌+◌, ◌/◌, ◌%◌, ◌≤◌, ◌<◌}
use native.Mathlib.Omega.{arith}
use lib.Dec.{eqb, ltb}
use lib.ListN.{length}
use borrow.Author.Tests.{eqb-false, ltb-true, ltb-false, not-true}
use denote.Ref.{Bor}
use Rattle.cells.specs.Search.{Found, at, nowhere}
use Rattle.cells.proofs.Split.{by_test, clash, and_left, and_right}
use Rattle.store_desk.specs.declared.Desk.{Desk}
use Rattle.store_desk.specs.declared.Key.{Key}
use Rattle.store_desk.specs.declared.Refusal.{Refusal}
use Rattle.store_desk.specs.declared.Refusal.TheVariants.{R2, R3, R4a, R4b, R4c}
use Rattle.store_desk.specs.Size.{InRange, in_range_of, slots_of, entries_of, store_length}
use Rattle.store_desk.specs.Refusal.{refusal_number, refusal_place, Reply, place_unit, reply_word, most_places, needed_reply, needed_call, NeededPromise}
use Rattle.store_desk.proofs.Size.{in_range, in_range_true, slots_le, entries_le}
use Rattle.store.specs.Slots.{find}
use Rattle.store.specs.Form.{slot_fits, shares, entry_fits}
use Rattle.store.specs.Good.{Ready}
use Rattle.store.proofs.Form.{slots_fit, slots_apart}
use Rattle.store.proofs.Repeats.{by_repeats}
use Rattle.store.proofs.Find.{kept-absent}
use Rattle.store.proofs.Start.{absent_at, kept_memory}
use Rattle.store_code.specs.Fits.{Fitting}
use Rattle.load.specs.Run.{Run, load_of}
use Rattle.load.specs.Translated.{translated_of}
use Rattle.save.specs.Lines.{stream_of}
use Rattle.show.specs.Calls.{most_bytes, lent_admission, admission_of, LoadCall, load_reply, load_by, stream_call, load_call, LoadPromise}
use Rattle.show.specs.Calls.{then_admission, kinds_admission, translate_admission, translate_call, TranslatePromise}
use Rattle.show.specs.Calls.{WriteCall, write_reply, put_call, write_by, write_call, WritePromise}
use Rattle.show.specs.Calls.{EmptyCall, empty_reply, empty_by, empty_call, EmptyPromise, not_kept_word, cue_name, cue_key, look_at, look_by, look_call, LookPromise}
use Rattle.show.specs.Calls.{not_kept, find_reply, placed_at, find_by, find_call, FindPromise}
use Rattle.show.specs.Refusals.{Line, Told, r1, r2, r3, SlotUnfit, r4a, SlotTwice, r4b, EntryUnfit, r4c, r5, r6, r7, lacking}
use Rattle.show.specs.Refusals.{PlaceTold, WordTold, LoadRefused, TranslateRefused, WriteRefused, EmptyRefused, NeededRefused, FindRefused}
use Rattle.show.proofs.Laws.{by_lent, by_admission, by_kinds, by_translate, away_reply}
use Rattle.load.specs.declared.Totals.{Totals}

-- ---- the first line that holds

unfoldable pub First : List Line → ℕ → Type 0
First [] n = n ≡ 0
First (l ∷ ls) n = (l.when × (n ≡ l.number)) ⊎ ((l.when → ⊥) × First ls n)

-- m is the number of no line, and not 0
unfoldable pub other : ℕ → List Line → Bool
other m [] = not (eqb m 0)
other m (l ∷ ls) = not (eqb m l.number) && other m ls

unfoldable pub apart : List Line → Bool
apart [] = true
apart (l ∷ ls) = other l.number ls && apart ls

differ : {m n : ℕ} → not (eqb m n) ≡ true → m ≡ n → ⊥
differ {m} {n} h = eqb-false m n (not-true (eqb m n) h)

not_first : (ls : List Line) (m n : ℕ) → other m ls ≡ true → First ls n → m ≡ n → ⊥
unfolding First other
not_first [] m n h f e = differ h (e ∙ f)
not_first (l ∷ ls) m n h (inl f) e = differ (and_left (not (eqb m l.number)) (other m ls) h) (e ∙ f.1)
not_first (l ∷ ls) m n h (inr f) e = not_first ls m n (and_right (not (eqb m l.number)) (other m ls) h) f.1 e

pub told : (ls : List Line) (n : ℕ) → apart ls ≡ true → First ls n → Told ls n
unfolding First Told apart
told [] n h f = f
told (l ∷ ls) n h (inl f) = ((λ e. f.0, λ w. f.1), λ w. absurd (w f.0))
told (l ∷ ls) n h (inr f) = (
  (λ e. absurd (not_first ls l.number n (and_left (other l.number ls) (apart ls) h) f.1 (sym e)), λ w. absurd (f.0 w)),
  λ w. told ls n (and_right (other l.number ls) (apart ls) h) f.1,
)

-- ---- the tests are the lines

-- where a search finds no place its line does not hold
none_unfit : (d : Desk) (s : List ℕ) → ((i : ℕ) → i < slots_of d → slot_fits d s i ≡ true) → SlotUnfit d s → ⊥
none_unfit d s f u = clash (f u.slot u.within) u.unfit

none_twice : (d : Desk) (s : List ℕ) → ((i j : ℕ) → j < i → i < slots_of d → shares d s i j ≡ false) → SlotTwice d s → ⊥
none_twice d s f t = clash t.shared (f t.slot t.earlier t.before t.within)

none_entry : (d : Desk) (s : List ℕ) → ((i : ℕ) → i < entries_of d → entry_fits d s i ≡ true) → EntryUnfit d s → ⊥
none_entry d s f u = clash (f u.entry u.within) u.unfit

-- a call that tests R2, R3 and the store's form, and then other lines
abbrev pub store_lines : Desk → List ℕ → List Line → List Line
store_lines d s ls = r2 d ∷ r3 d s ∷ r4a d s ∷ r4b d s ∷ r4c d s ∷ ls

sized : (d : Desk) (s : List ℕ) (ls : List Line) (n : ℕ) → InRange d → store_length d ≤ length s → First ls n → First (r2 d ∷ r3 d s ∷ ls) n
unfolding First
sized d s ls n r l f = inr (λ h. h r, inr (λ h. omega arith, f))

pub store_first : (d : Desk) (s : List ℕ) (ls : List Line) (number : Result Unit Refusal → ℕ) → ((r : Refusal) → number (Err r) ≡ refusal_number r)
    → (Ready d s → First ls (number (Ok tt))) → First (store_lines d s ls) (number (admission_of d s))
unfolding First
store_first d s ls number away rest =
    by_admission d s (λ (a : Result Unit Refusal). First (store_lines d s ls) (number a))
    (λ h. inl (h, away R2))
    (λ r l. inr (λ h. h r, inl (l, away R3)))
    (λ h i f.
    let l = f.below in
    sized d s (r4a d s ∷ r4b d s ∷ r4c d s ∷ ls) (number (Err (R4a (i + 1)))) h.range h.long
    (inl (record { slot = i; within = omega arith; unfit = not-true (slot_fits d s i) f.passes }, away (R4a (i + 1)))))
    (λ h i n f.
    let l = f.below in
    sized d s (r4a d s ∷ r4b d s ∷ r4c d s ∷ ls) (number (Err (R4b (i + 1)))) h.range h.long
    (inr (
      none_unfit d s (slots_fit d s n),
      inl (
        by_repeats d s i f.passes (λ j k q. record { slot = i; earlier = j; before = k; within = omega arith; shared = q }),
        away (R4b (i + 1)),
      ),
    )))
    (λ h i n m f.
    let l = f.below in
    sized d s (r4a d s ∷ r4b d s ∷ r4c d s ∷ ls) (number (Err (R4c (i + 1)))) h.range h.long
    (inr (
      none_unfit d s (slots_fit d s n),
      inr (
        none_twice d s (slots_apart d s m),
        inl (record { entry = i; within = omega arith; unfit = not-true (entry_fits d s i) f.passes }, away (R4c (i + 1))),
      ),
    )))
    (λ r.
    sized d s (r4a d s ∷ r4b d s ∷ r4c d s ∷ ls) (number (Ok tt)) r.range r.long
    (inr (
      none_unfit d s r.form.slots,
      inr (none_twice d s r.form.single, inr (none_entry d s r.form.entries, rest r)),
    )))

-- of either load
stream_first : (a : Result Unit Refusal) (x : Run) (s reps stream : List ℕ) (ls : List Line) → First ls (load_by a x s reps).reply.number
    → First (r1 stream ∷ ls) (stream_call a x s reps stream).reply.number
unfolding First stream_call
stream_first a x s reps stream ls f =
    by_test (λ (y : LoadCall). First (r1 stream ∷ ls) y.reply.number) (ltb most_bytes (length stream)) _ (load_by a x s reps)
    (λ e. inl (ltb-true most_bytes (length stream) e, refl))
    (λ e. let l = ltb-false most_bytes (length stream) e in inr (λ h. omega arith, f))

load_first : (d : Desk) (s reps stream : List ℕ) → First (r1 stream ∷ store_lines d s []) (load_call d s reps stream).reply.number
unfolding First load_call load_by
load_first d s reps stream =
    stream_first (admission_of d s) (load_of d s stream) s reps stream (store_lines d s [])
    (store_first d s [] (λ a. (load_by a (load_of d s stream) s reps).reply.number) (λ r. refl) (λ h. refl))

translate_first : (d : Desk) (s reps stream : List ℕ)
    → First (r1 stream ∷ store_lines d s (r7 d ∷ [])) (translate_call d s reps stream).reply.number
unfolding First translate_call load_by translate_admission then_admission
translate_first d s reps stream =
    let x = translated_of d s stream in
    let number : Result Unit Refusal → ℕ = λ a. (load_by (then_admission a (kinds_admission d)) x s reps).reply.number in
    stream_first (translate_admission d s) x s reps stream (store_lines d s (r7 d ∷ []))
    (store_first d s (r7 d ∷ []) number (λ r. refl)
    (λ h.
    by_kinds d (λ (a : Result Unit Refusal). First (r7 d ∷ []) (load_by a x s reps).reply.number) (λ z. inl (z, refl))
    (λ n m. inr (λ z. ⊎_elim n m z, refl))))

put_first : (d : Desk) (s out : List ℕ) → First (r5 d s ∷ r6 d s out ∷ []) (put_call (stream_of d s) out).reply.number
unfolding First put_call
put_first d s out =
    by_test (λ (x : WriteCall). First (r5 d s ∷ r6 d s out ∷ []) x.reply.number) (ltb most_bytes (length (stream_of d s))) _ _
    (λ e. inl (ltb-true most_bytes (length (stream_of d s)) e, refl))
    (λ e.
    let l = ltb-false most_bytes (length (stream_of d s)) e in
    inr (
      λ h. omega arith,
      by_test (λ (x : WriteCall). First (r6 d s out ∷ []) x.reply.number) (ltb (length out) (length (stream_of d s))) _ _
          (λ f. inl (ltb-true (length out) (length (stream_of d s)) f, refl))
          (λ f. let k = ltb-false (length out) (length (stream_of d s)) f in inr (λ h. omega arith, refl)),
    ))

-- a call that tests R2 and R3, and then other lines
pub lent_first : (d : Desk) (s : List ℕ) (ls : List Line) (number : Result Unit Refusal → ℕ) → ((r : Refusal) → number (Err r) ≡ refusal_number r)
    → (Fitting d s → First ls (number (Ok tt))) → First (r2 d ∷ r3 d s ∷ ls) (number (lent_admission d s))
unfolding First
lent_first d s ls number away rest =
    by_lent d s (λ (a : Result Unit Refusal). First (r2 d ∷ r3 d s ∷ ls) (number a)) (λ h. inl (h, away R2)) (λ r l. inr (λ h. h r, inl (l, away R3)))
    (λ h. sized d s ls (number (Ok tt)) h.range h.long (rest h))

empty_first : (d : Desk) (s : List ℕ) → First (r2 d ∷ r3 d s ∷ []) (empty_call d s).reply.number
unfolding First empty_call empty_by
empty_first d s = lent_first d s [] (λ a. (empty_by a d s).reply.number) (λ r. refl) (λ h. refl)

needed_first : (d : Desk) → First (r2 d ∷ []) (needed_call d).number
unfolding First needed_call
needed_first d =
    by_test (λ (x : Reply). First (r2 d ∷ []) x.number) (in_range_of d) _ _ (λ e. inr (λ h. h (in_range d e), refl))
    (λ e. inl (λ h. clash (in_range_true d h) e, refl))

-- the search finds the cue that is kept, and nothing where none is
module _ (d : Desk) (s : List ℕ) (page whole tenths : ℕ) where
  kept_first : (number : Found → ℕ) → ((i : ℕ) → number (at i) ≡ 0) → number nowhere ≡ not_kept_word
      → First (lacking d s page whole tenths ∷ []) (number (find d s (cue_name (cue_key page whole tenths))))
  unfolding First
  kept_first number kept none = cases (find d s (cue_name (cue_key page whole tenths))) refl
    where
      cases : (a : Found) → find d s (cue_name (cue_key page whole tenths)) ≡ a → First (lacking d s page whole tenths ∷ []) (number a)
      cases (at i) e = inr (λ h. kept-absent (sym (kept_memory d s (cue_name (cue_key page whole tenths)) i e) ∙ h), kept i)
      cases nowhere e = inl (absent_at d s (cue_name (cue_key page whole tenths)) e, none)

-- ---- the calls

pub load_lines : (d : Desk) (s reps stream : List ℕ) → LoadRefused d s stream (load_call d s reps stream).reply.number
unfolding apart other
load_lines d s reps stream = told _ _ refl (load_first d s reps stream)

pub translate_lines : (d : Desk) (s reps stream : List ℕ) → TranslateRefused d s stream (translate_call d s reps stream).reply.number
unfolding apart other
translate_lines d s reps stream = told _ _ refl (translate_first d s reps stream)

pub write_lines : (d : Desk) (s out : List ℕ) → WriteRefused d s out (write_call d s out).reply.number
unfolding apart other write_call write_by
write_lines d s out =
    told _ _ refl
    (store_first d s (r5 d s ∷ r6 d s out ∷ []) (λ b. (write_by b d s out).reply.number) (λ r. refl) (λ h. put_first d s out))

pub empty_lines : (d : Desk) (s : List ℕ) → EmptyRefused d s (empty_call d s).reply.number
unfolding apart other
empty_lines d s = told _ _ refl (empty_first d s)

pub needed_lines : (d : Desk) → NeededRefused d (needed_call d).number
unfolding apart other
needed_lines d = told _ _ refl (needed_first d)

pub find_lines : (d : Desk) (s : List ℕ) (page whole tenths : ℕ) → FindRefused d s page whole tenths (find_call d s page whole tenths).number
unfolding apart other find_call find_by placed_at
find_lines d s page whole tenths =
    told _ _ refl
    (store_first d s (lacking d s page whole tenths ∷ []) (λ b. (find_by b d s (cue_key page whole tenths)).number) (λ r. refl)
    (λ h. kept_first d s page whole tenths (λ f. (placed_at d f).number) (λ i. refl) refl))

-- ---- the place, and the word

-- what is said of every answer of a call on a store
pub record Said (d : Desk) (s : List ℕ) (x : Reply) : Type 0 where
  pub place : PlaceTold d s x.number x.place
  pub below : x.number < place_unit

-- an answer without a place
plain_said : (d : Desk) (s : List ℕ) (n : ℕ) (l : List ℕ) → (n ≡ 0x4A → ⊥) → (n ≡ 0x4B → ⊥) → (n ≡ 0x4C → ⊥) → n < place_unit
    → Said d s (record { number = n; place = 0; told = l })
plain_said d s n l a b c h =
    record {
      place =
          record {
            unfit = λ q. absurd (a q);
            twice = λ q. absurd (b q);
            entry = λ q. absurd (c q);
            other = λ x y z. refl;
            most = omega arith;
          };
      below = h;
    }

pub small_said : (d : Desk) (s : List ℕ) (n : ℕ) (l : List ℕ) → n ≤ 7 → Said d s (record { number = n; place = 0; told = l })
small_said d s n l h = plain_said d s n l (λ q. omega arith) (λ q. omega arith) (λ q. omega arith) (omega arith)

pub kept_said : (d : Desk) (s : List ℕ) → Said d s not_kept
kept_said d s = plain_said d s 255 [] (λ q. omega arith) (λ q. omega arith) (λ q. omega arith) (omega arith)

pub store_said : (d : Desk) (s : List ℕ) → Said d s (away_reply (admission_of d s))
store_said d s =
    by_admission d s (λ (a : Result Unit Refusal). Said d s (away_reply a))
    (λ h. small_said d s 2 [] (omega arith))
    (λ h l. small_said d s 3 [] (omega arith))
    (λ h i f.
    let l = f.below in
    let m = slots_le d h.range in
    record {
      place =
          record {
            unfit = λ q. record { index = i; counted = refl; first = f };
            twice = λ q. absurd (omega arith);
            entry = λ q. absurd (omega arith);
            other = λ x y z. absurd (x refl);
            most = omega arith;
          };
      below = omega arith;
    })
    (λ h i n f.
    let l = f.below in
    let m = slots_le d h.range in
    record {
      place =
          record {
            unfit = λ q. absurd (omega arith);
            twice = λ q. record { index = i; counted = refl; first = f };
            entry = λ q. absurd (omega arith);
            other = λ x y z. absurd (y refl);
            most = omega arith;
          };
      below = omega arith;
    })
    (λ h i n k f.
    let l = f.below in
    let m = entries_le d h.range in
    record {
      place =
          record {
            unfit = λ q. absurd (omega arith);
            twice = λ q. absurd (omega arith);
            entry = λ q. record { index = i; counted = refl; first = f };
            other = λ x y z. absurd (z refl);
            most = omega arith;
          };
      below = omega arith;
    })
    (λ r. small_said d s 0 [] (omega arith))

pub away_most : (d : Desk) (s : List ℕ) {r : Refusal} → Err r ≡ admission_of d s → refusal_place r ≤ most_places
away_most d s e = subst (λ (a : Result Unit Refusal). (away_reply a).place ≤ most_places) (sym e) (store_said d s).place.most

load_by_said : (a : Result Unit Refusal) (d : Desk) (x : Run) (s reps : List ℕ) → Said d s (away_reply a) → Said d s (load_by a x s reps).reply
unfolding load_by
load_by_said (Ok _) d x s reps h = small_said d s 0 _ (omega arith)
load_by_said (Err r) d x s reps h = h

stream_said : (a : Result Unit Refusal) (d : Desk) (x : Run) (s reps stream : List ℕ) → Said d s (away_reply a) → Said d s (stream_call a x s reps stream).reply
unfolding stream_call
stream_said a d x s reps stream h =
    by_test (λ (y : LoadCall). Said d s y.reply) (ltb most_bytes (length stream)) _ (load_by a x s reps)
    (λ e. small_said d s 1 [] (omega arith)) (λ e. load_by_said a d x s reps h)

pub load_said : (d : Desk) (s reps stream : List ℕ) → Said d s (load_call d s reps stream).reply
unfolding load_call
load_said d s reps stream = stream_said (admission_of d s) d (load_of d s stream) s reps stream (store_said d s)

kinds_said : (d : Desk) (s : List ℕ) → Said d s (away_reply (translate_admission d s))
kinds_said d s =
    by_translate d s (λ (a : Result Unit Refusal). Said d s (away_reply a))
    (λ r e. subst (λ (a : Result Unit Refusal). Said d s (away_reply a)) (sym e) (store_said d s)) (λ r z. small_said d s 7 [] (omega arith))
    (λ r n m. small_said d s 0 [] (omega arith))

pub translate_said : (d : Desk) (s reps stream : List ℕ) → Said d s (translate_call d s reps stream).reply
unfolding translate_call
translate_said d s reps stream = stream_said (translate_admission d s) d (translated_of d s stream) s reps stream (kinds_said d s)

pub put_said : (d : Desk) (s stream out : List ℕ) → Said d s (put_call stream out).reply
unfolding put_call
put_said d s stream out =
    by_test (λ (x : WriteCall). Said d s x.reply) (ltb most_bytes (length stream)) _ _ (λ e. small_said d s 5 [] (omega arith))
    (λ e.
    by_test (λ (x : WriteCall). Said d s x.reply) (ltb (length out) (length stream)) _ _
    (λ f. small_said d s 6 _ (omega arith)) (λ f. small_said d s 0 _ (omega arith)))

write_by_said : (a : Result Unit Refusal) (d : Desk) (s out : List ℕ) → Said d s (away_reply a) → Said d s (write_by a d s out).reply
unfolding write_by
write_by_said (Ok _) d s out h = put_said d s (stream_of d s) out
write_by_said (Err r) d s out h = h

pub write_said : (d : Desk) (s out : List ℕ) → Said d s (write_call d s out).reply
unfolding write_call
write_said d s out = write_by_said (admission_of d s) d s out (store_said d s)

pub lent_said : (d : Desk) (s : List ℕ) → Said d s (away_reply (lent_admission d s))
lent_said d s =
    by_lent d s (λ (a : Result Unit Refusal). Said d s (away_reply a)) (λ h. small_said d s 2 [] (omega arith)) (λ h l. small_said d s 3 [] (omega arith))
    (λ h. small_said d s 0 [] (omega arith))

empty_by_said : (a : Result Unit Refusal) (d : Desk) (s : List ℕ) → Said d s (away_reply a) → Said d s (empty_by a d s).reply
unfolding empty_by
empty_by_said (Ok _) d s h = h
empty_by_said (Err r) d s h = h

pub empty_said : (d : Desk) (s : List ℕ) → Said d s (empty_call d s).reply
unfolding empty_call
empty_said d s = empty_by_said (lent_admission d s) d s (lent_said d s)

pub needed_said : (d : Desk) → Said d [] (needed_call d)
unfolding needed_call
needed_said d =
    by_test (Said d []) (in_range_of d) _ _ (λ e. small_said d [] 0 _ (omega arith)) (λ e. small_said d [] 2 [] (omega arith))

pub placed_said : (d : Desk) (s : List ℕ) (a : Found) → Said d s (placed_at d a)
unfolding placed_at
placed_said d s (at i) = small_said d s 0 _ (omega arith)
placed_said d s nowhere = kept_said d s

find_by_said : (a : Result Unit Refusal) (d : Desk) (s : List ℕ) (key : Key) → Said d s (away_reply a) → Said d s (find_by a d s key)
unfolding find_by
find_by_said (Ok _) d s key h = placed_said d s (find d s (cue_name key))
find_by_said (Err r) d s key h = h

pub find_said : (d : Desk) (s : List ℕ) (page whole tenths : ℕ) → Said d s (find_call d s page whole tenths)
unfolding find_call
find_said d s page whole tenths = find_by_said (admission_of d s) d s (cue_key page whole tenths) (store_said d s)

-- a number below 256 and any place are told apart in the word
pub word_told : (x : Reply) → x.number < place_unit → WordTold x
word_told x h = record { number = omega arith; place = omega arith }

-- a word up to 6 is a number without a place, and such a number is its word
pub word_number : {d : Desk} {s : List ℕ} {x : Reply} → Said d s x → reply_word x ≤ 6 → x.number ≡ reply_word x
word_number {x = x} h l = omega arith

pub number_word : {d : Desk} {s : List ℕ} {x : Reply} → Said d s x → x.number ≤ 6 → reply_word x ≡ x.number
number_word {x = x} h l =
    let p : x.place ≡ 0 = h.place.other (λ q. omega arith) (λ q. omega arith) (λ q. omega arith) in
    omega arith

-- a look-up's word is that of what `find` answers
look_at-word : (d : Desk) (s : List ℕ) (a : Found) → (look_at d s a).word ≡ reply_word (placed_at d a)
unfolding look_at placed_at
look_at-word d s (at i) = refl
look_at-word d s nowhere = refl

look_by-word : (a : Result Unit Refusal) (d : Desk) (s : List ℕ) (key : Key) → (look_by a d s key).word ≡ reply_word (find_by a d s key)
unfolding look_by find_by
look_by-word (Ok _) d s key = look_at-word d s (find d s (cue_name key))
look_by-word (Err r) d s key = refl

pub look_word : (d : Desk) (s : List ℕ) (page whole tenths : ℕ) → (look_call d s page whole tenths).word ≡ reply_word (find_call d s page whole tenths)
unfolding look_call find_call
look_word d s page whole tenths = look_by-word (admission_of d s) d s (cue_key page whole tenths)

-- ---- the promises

pub load_refused : (d : Desk) (s reps stream : List ℕ) (a : Result Totals Refusal) {t q : List ℕ} → LoadPromise d s reps stream a t q
    → LoadRefused d s stream (load_reply a).number
load_refused d s reps stream a e =
    subst (LoadRefused d s stream) (sym (ap (λ (y : LoadCall). y.reply.number) e)) (load_lines d s reps stream)

pub translate_refused : (d : Desk) (s reps stream : List ℕ) (a : Result Totals Refusal) {t q : List ℕ} → TranslatePromise d s reps stream a t q
    → TranslateRefused d s stream (load_reply a).number
translate_refused d s reps stream a e =
    subst (TranslateRefused d s stream) (sym (ap (λ (y : LoadCall). y.reply.number) e)) (translate_lines d s reps stream)

pub write_refused : (d : Desk) (s out : List ℕ) (a : Result ℕ Refusal) {o : List ℕ} → WritePromise d s out a o
    → WriteRefused d s out (write_reply a).number
write_refused d s out a e =
    subst (WriteRefused d s out) (sym (ap (λ (y : WriteCall). y.reply.number) e)) (write_lines d s out)

pub empty_refused : (d : Desk) (s : List ℕ) (a : Result Unit Refusal) {t : List ℕ} → EmptyPromise d s a t → EmptyRefused d s (empty_reply a).number
empty_refused d s a e = subst (EmptyRefused d s) (sym (ap (λ (y : EmptyCall). y.reply.number) e)) (empty_lines d s)

pub needed_refused : (d : Desk) (a : Result ℕ Refusal) → NeededPromise d a → NeededRefused d (needed_reply a).number
needed_refused d a e = subst (NeededRefused d) (sym (ap (λ (y : Reply). y.number) e)) (needed_lines d)

pub find_refused : (d : Desk) (s : List ℕ) (page whole tenths : ℕ) (a : Result (Option ℕ) Refusal) → FindPromise d s page whole tenths a
    → FindRefused d s page whole tenths (find_reply a).number
find_refused d s page whole tenths a e =
    subst (FindRefused d s page whole tenths) (sym (ap (λ (y : Reply). y.number) e)) (find_lines d s page whole tenths)

-- of a look-up by its word
pub look_refused : (d : Desk) (s : Bor (List ℕ)) (page whole tenths : ℕ) {r : Bor (List ℕ)} {answer : ℕ}
    → LookPromise d s page whole tenths r answer → FindRefused d s.now page whole tenths (answer % place_unit)
look_refused d s page whole tenths e =
    let x = find_call d s.now page whole tenths in
    subst (FindRefused d s.now page whole tenths)
    (sym (ap (λ (w : ℕ). w % place_unit) (e.says ∙ look_word d s.now page whole tenths)
    ∙ (word_told x (find_said d s.now page whole tenths).below).number))
    (find_lines d s.now page whole tenths)

-- and the place
pub load_place : (d : Desk) (s reps stream : List ℕ) (a : Result Totals Refusal) {t q : List ℕ} → LoadPromise d s reps stream a t q
    → PlaceTold d s (load_reply a).number (load_reply a).place
load_place d s reps stream a e =
    subst (λ (y : Reply). PlaceTold d s y.number y.place) (sym (ap (λ (y : LoadCall). y.reply) e)) (load_said d s reps stream).place

pub translate_place : (d : Desk) (s reps stream : List ℕ) (a : Result Totals Refusal) {t q : List ℕ} → TranslatePromise d s reps stream a t q
    → PlaceTold d s (load_reply a).number (load_reply a).place
translate_place d s reps stream a e =
    subst (λ (y : Reply). PlaceTold d s y.number y.place) (sym (ap (λ (y : LoadCall). y.reply) e)) (translate_said d s reps stream).place

pub write_place : (d : Desk) (s out : List ℕ) (a : Result ℕ Refusal) {o : List ℕ} → WritePromise d s out a o
    → PlaceTold d s (write_reply a).number (write_reply a).place
write_place d s out a e =
    subst (λ (y : Reply). PlaceTold d s y.number y.place) (sym (ap (λ (y : WriteCall). y.reply) e)) (write_said d s out).place

pub find_place : (d : Desk) (s : List ℕ) (page whole tenths : ℕ) (a : Result (Option ℕ) Refusal) → FindPromise d s page whole tenths a
    → PlaceTold d s (find_reply a).number (find_reply a).place
find_place d s page whole tenths a e =
    subst (λ (y : Reply). PlaceTold d s y.number y.place) (sym e) (find_said d s page whole tenths).place

pub look_place : (d : Desk) (s : Bor (List ℕ)) (page whole tenths : ℕ) {r : Bor (List ℕ)} {answer : ℕ}
    → LookPromise d s page whole tenths r answer → PlaceTold d s.now (answer % place_unit) (answer / place_unit)
look_place d s page whole tenths e =
    let x = find_call d s.now page whole tenths in
    let f = find_said d s.now page whole tenths in
    let w = word_told x f.below in
    subst (λ (v : ℕ). PlaceTold d s.now (v % place_unit) (v / place_unit)) (sym (e.says ∙ look_word d s.now page whole tenths))
    (subst (λ (n : ℕ). PlaceTold d s.now n (reply_word x / place_unit)) (sym w.number)
    (subst (PlaceTold d s.now x.number) (sym w.place) f.place))
