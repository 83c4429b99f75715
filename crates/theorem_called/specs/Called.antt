-- The theorems, said of the public calls one after the other, from calls that were answered (paper 01, demands 2 and 3; "What the checker
-- must hold us to"). What a call promises is named in `show/specs/Calls`.
-- Assumes nothing.
use Rattle.std.specs.Prelude.{◌≡◌, false, List, ◌∷◌, [], map, ℕ, ◌%◌, ◌≤◌, length, take, drop, replicate, Ok, Option, Result}
use Rattle.std.specs.Borrow.{Bor}
use Rattle.store_desk.specs.declared.Desk.{Desk}
use Rattle.store_desk.specs.Refusal.{place_unit}
use Rattle.store_desk.specs.Size.{store_length}
use Rattle.store_head.specs.Pack.{Bytes}
use Rattle.store.specs.View.{memory_of}
use Rattle.load.specs.declared.Totals.{Totals}
use Rattle.load.specs.Run.{load_of}
use Rattle.save.specs.Lines.{lines_of}
use Rattle.show.specs.Calls.{load_reply, LoadPromise, TranslatePromise, write_reply, WritePromise, empty_reply, EmptyPromise, LookPromise, find_reply, FindPromise, load_call}
use Rattle.theorem_told.specs.Edges.{Edge, edges, cue_of, kept_by_of}
use Rattle.theorem_translated.specs.Alike.{AsNumbered}
use Rattle.theorem_same_show.specs.Show.{SameShow, all_obeyed}
use Rattle.theorem_rehearse.specs.Rehearse.{Larger, HadRoom, stored_full, Carries, KeepsWithin, PatchedAlike}
use Rattle.store_desk.specs.declared.Refusal.{Refusal}

-- ---- demand 2: a show written, and what was written read back

-- a load of what was written, into store t of the same desk, that was answered: no report, every record obeyed, as many as lines, the lent
-- list as it was, the same show, the bytes past the needed length as they were; and writing it gives the same stream
pub record ReadBackAs (d : Desk) (s stream t reps : List ℕ) (x : Totals) (u q : List ℕ) : Type 0 where
  pub told : x ≡ all_obeyed (length (lines_of d s))
  pub list : q ≡ reps
  pub show : SameShow d s u
  pub past : drop (store_length d) u ≡ drop (store_length d) t
  pub again : (out : List ℕ) (n : ℕ) (o : List ℕ) → WritePromise d u out (Ok n) o → take n o ≡ stream

abbrev pub WriteThenLoad : Type 0
WriteThenLoad =
    (d : Desk) (s out : List ℕ) (n : ℕ) (o : List ℕ) → Bytes s → WritePromise d s out (Ok n) o
    → (t reps : List ℕ) (x : Totals) (u q : List ℕ) → LoadPromise d t reps (take n o) (Ok x) u q
    → ReadBackAs d s (take n o) t reps x u q

-- it is answered where the store was emptied before
abbrev pub WrittenIsLoaded : Type 0
WrittenIsLoaded =
    (d : Desk) (s out : List ℕ) (n : ℕ) (o : List ℕ) → WritePromise d s out (Ok n) o
    → (v t : List ℕ) → EmptyPromise d v (Ok tt) t
    → (reps : List ℕ) (a : Result Totals Refusal) (u q : List ℕ) → LoadPromise d t reps (take n o) a u q → (load_reply a).number ≡ 0

-- ---- after an answered call

-- no later call with that desk and store is R2, R3, R4a, R4b or R4c
pub record NotTurnedAway (n : ℕ) : Type 0 where
  pub second : n ≡ 2 → ⊥
  pub third : n ≡ 3 → ⊥
  pub unfit : n ≡ 0x4A → ⊥
  pub twice : n ≡ 0x4B → ⊥
  pub entry : n ≡ 0x4C → ⊥

pub record LetIn (d : Desk) (s : List ℕ) : Type 0 where
  pub load : (reps stream : List ℕ) (a : Result Totals Refusal) (t q : List ℕ) → LoadPromise d s reps stream a t q → NotTurnedAway (load_reply a).number
  pub translate : (reps stream : List ℕ) (a : Result Totals Refusal) (t q : List ℕ) → TranslatePromise d s reps stream a t q → NotTurnedAway (load_reply a).number
  pub write : (out : List ℕ) (a : Result ℕ Refusal) (o : List ℕ) → WritePromise d s out a o → NotTurnedAway (write_reply a).number
  pub empty : (a : Result Unit Refusal) (t : List ℕ) → EmptyPromise d s a t → NotTurnedAway (empty_reply a).number
  pub look : (v r : Bor (List ℕ)) (page whole tenths answer : ℕ) → v.now ≡ s → LookPromise d v page whole tenths r answer
      → NotTurnedAway (answer % place_unit)
  pub find : (page whole tenths : ℕ) (a : Result (Option ℕ) Refusal) → FindPromise d s page whole tenths a → NotTurnedAway (find_reply a).number

pub record GoodAfter (d : Desk) : Type 0 where
  pub emptied : (v s : List ℕ) → EmptyPromise d v (Ok tt) s → LetIn d s
  pub loaded : (s reps stream : List ℕ) (x : Totals) (t q : List ℕ) → LoadPromise d s reps stream (Ok x) t q → LetIn d t
  pub translated : (s reps stream : List ℕ) (x : Totals) (t q : List ℕ) → TranslatePromise d s reps stream (Ok x) t q → LetIn d t

-- ---- demand 3: two emptied desks load the same stream

-- what desk d keeps in t, and desk D, equal or larger in every limit, in T, after loads of the stream into the emptied s and S.
-- "Reported" is over all reports, stored or not
pub record RehearsedAs (d D : Desk) (s S stream t T : List ℕ) : Type 0 where
  pub ships : HadRoom (load_of D S stream) → Carries d D t T
  pub complete : HadRoom (load_of D S stream) → HadRoom (load_of d s stream) → KeepsWithin d D t T
  pub patch : d.channels ≡ D.channels → PatchedAlike d D t T

-- the same as a user sees it: the count is at most the lent list's length, and no stored word has condition 21 or 22
abbrev pub SeenRoom : Totals → List ℕ → Type 0
SeenRoom x lent = (x.reports ≤ length lent) × (stored_full (take x.reports lent) ≡ false)

pub record RehearsalSeen (d D : Desk) (x : Totals) (q t : List ℕ) (X : Totals) (Q T : List ℕ) : Type 0 where
  pub ships : SeenRoom X Q → Carries d D t T
  pub complete : SeenRoom X Q → SeenRoom x q → KeepsWithin d D t T

abbrev pub RehearsedCalls : Type 0
RehearsedCalls =
    (d D : Desk) → Larger d D
    → (v s w S : List ℕ) → EmptyPromise d v (Ok tt) s → EmptyPromise D w (Ok tt) S
    → (stream lent Lent : List ℕ) (x : Totals) (t q : List ℕ) (X : Totals) (T Q : List ℕ)
    → LoadPromise d s lent stream (Ok x) t q → LoadPromise D S Lent stream (Ok X) T Q
    → RehearsedAs d D s S stream t T × RehearsalSeen d D x q t X Q T

-- ---- C-13: a stream that numbers its memories as `translate` would, by either call

-- where `translate` is answered, `load` gives that answer too, and leaves every lent byte alike
abbrev pub LoadedAlike : Type 0
LoadedAlike =
    (d : Desk) (s reps stream : List ℕ) → AsNumbered d s stream
    → (x : Totals) (t q : List ℕ) → TranslatePromise d s reps stream (Ok x) t q → LoadPromise d s reps stream (Ok x) t q

-- ---- the proved edges are answers of the call itself

-- on an empty store, with a lent list of just the length of the row's reports: the number, what is told, the list, and the cue that is kept
unfoldable pub edge_called : Edge → List (List ℕ)
edge_called e =
    let x = load_call e.desk (replicate (store_length e.desk) 0) (replicate (length e.reports) 0) e.stream in
    (x.reply.number ∷ x.reply.told) ∷ x.reports ∷ kept_by_of (memory_of e.desk x.store (cue_of e.cue)) ∷ []

abbrev pub edge_wanted : Edge → List (List ℕ)
edge_wanted e = (0 ∷ length e.reports ∷ e.told) ∷ e.reports ∷ e.kept ∷ []

abbrev pub EdgesCalled : Type 0
EdgesCalled = map edge_called edges ≡ map edge_wanted edges
