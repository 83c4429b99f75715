-- No second answer fits an exported call's promise, of the word itself and of every lent list; and a refused call leaves every lent list
-- as it was, but for the length that a write with 6 tells. The record that a promise speaks of gives back what it was built from.
-- Assumes nothing.
use mathlib.Core.Path.{◌≡◌, sym, ap, ◌∙◌}
use mathlib.Core.List.{List, [], ◌∷◌}
use Prim.Native.Nat.{ℕ}
use native.Mathlib.Omega.{arith}
use lib.ListN.{length, get_or}
use Rattle.cells.specs.Note.{noted_from}
use Rattle.store_desk.specs.declared.Desk.{Desk}
use Rattle.store_desk.specs.Refusal.{Reply, reply_word}
use Rattle.store_desk.proofs.Reply.{needed_mute}
use Rattle.save.specs.Lines.{stream_of}
use Rattle.show.specs.Calls.{write_call}
use Rattle.show.proofs.OneAnswer.{load_kept, translate_kept, put_kept, write_kept, empty_kept, find_mute}
use Rattle.show.proofs.Refusals.{Said, needed_said, empty_said, load_said, translate_said, put_said, write_said, find_said, word_number, number_word}
use Rattle.show_read.proofs.OneAnswer.{memories_kept, head_mute, levels_mute, patch_mute}
use Rattle.show_read.proofs.Refusals.{memories_said, head_said, levels_said, patch_said}
use Rattle.sphairune.specs.Calls.{desk_of, Exported, replied_in, emptied_in, loaded_in, written_in, listed_in}
use Rattle.sphairune.specs.Calls.{NeededExport, EmptyExport, LoadExport, TranslateExport, WriteExport, FindExport}
use Rattle.sphairune.specs.Calls.{MemoriesExport, HeadExport, LevelsExport, PatchExport, TextExport}
use Rattle.sphairune.proofs.Laws.{mute_list}

-- the word and the list at a place
pub word_is : {x y : Exported} → x ≡ y → x.word ≡ y.word
word_is e = ap (λ (z : Exported). z.word) e

list_is : (i : ℕ) {x y : Exported} → x ≡ y → get_or x.lent i [] ≡ get_or y.lent i []
list_is i e = ap (λ (z : Exported). get_or z.lent i []) e

-- ---- one answer

pub one_needed : (limits l : List ℕ) {n p : ℕ} {m q : List ℕ} → NeededExport limits l n m → NeededExport limits l p q → (n ≡ p) × (m ≡ q)
one_needed limits l e f = (word_is (e ∙ sym f), list_is 0 (e ∙ sym f))

pub one_empty : (limits s : List ℕ) {n p : ℕ} {t u : List ℕ} → EmptyExport limits s n t → EmptyExport limits s p u → (n ≡ p) × (t ≡ u)
one_empty limits s e f = (word_is (e ∙ sym f), list_is 0 (e ∙ sym f))

pub one_load : (limits s stream reps l : List ℕ) {n p : ℕ} {t u q r m k : List ℕ}
    → LoadExport limits s stream reps l n t q m → LoadExport limits s stream reps l p u r k → (n ≡ p) × (t ≡ u) × (q ≡ r) × (m ≡ k)
one_load limits s stream reps l e f = (word_is (e ∙ sym f), list_is 0 (e ∙ sym f), list_is 1 (e ∙ sym f), list_is 2 (e ∙ sym f))

pub one_translate : (limits s stream reps l : List ℕ) {n p : ℕ} {t u q r m k : List ℕ}
    → TranslateExport limits s stream reps l n t q m → TranslateExport limits s stream reps l p u r k → (n ≡ p) × (t ≡ u) × (q ≡ r) × (m ≡ k)
one_translate limits s stream reps l e f = (word_is (e ∙ sym f), list_is 0 (e ∙ sym f), list_is 1 (e ∙ sym f), list_is 2 (e ∙ sym f))

pub one_write : (limits s out l : List ℕ) {n p : ℕ} {o u m k : List ℕ} → WriteExport limits s out l n o m → WriteExport limits s out l p u k
    → (n ≡ p) × (o ≡ u) × (m ≡ k)
one_write limits s out l e f = (word_is (e ∙ sym f), list_is 0 (e ∙ sym f), list_is 1 (e ∙ sym f))

pub one_find : (limits s : List ℕ) (page whole tenths : ℕ) (l : List ℕ) {n p : ℕ} {m q : List ℕ}
    → FindExport limits s page whole tenths l n m → FindExport limits s page whole tenths l p q → (n ≡ p) × (m ≡ q)
one_find limits s page whole tenths l e f = (word_is (e ∙ sym f), list_is 0 (e ∙ sym f))

pub one_memories : (limits s : List ℕ) (kind : ℕ) (slots l : List ℕ) {n p : ℕ} {t u m k : List ℕ}
    → MemoriesExport limits s kind slots l n t m → MemoriesExport limits s kind slots l p u k → (n ≡ p) × (t ≡ u) × (m ≡ k)
one_memories limits s kind slots l e f = (word_is (e ∙ sym f), list_is 0 (e ∙ sym f), list_is 1 (e ∙ sym f))

pub one_head : (limits s : List ℕ) (slot : ℕ) (l : List ℕ) {n p : ℕ} {m q : List ℕ} → HeadExport limits s slot l n m → HeadExport limits s slot l p q
    → (n ≡ p) × (m ≡ q)
one_head limits s slot l e f = (word_is (e ∙ sym f), list_is 0 (e ∙ sym f))

pub one_levels : (limits s : List ℕ) (slot : ℕ) (l : List ℕ) {n p : ℕ} {m q : List ℕ} → LevelsExport limits s slot l n m
    → LevelsExport limits s slot l p q → (n ≡ p) × (m ≡ q)
one_levels limits s slot l e f = (word_is (e ∙ sym f), list_is 0 (e ∙ sym f))

pub one_patch : (limits s : List ℕ) (page dimmer : ℕ) (l : List ℕ) {n p : ℕ} {m q : List ℕ} → PatchExport limits s page dimmer l n m
    → PatchExport limits s page dimmer l p q → (n ≡ p) × (m ≡ q)
one_patch limits s page dimmer l e f = (word_is (e ∙ sym f), list_is 0 (e ∙ sym f))

pub one_text : (text out l : List ℕ) {n p : ℕ} {o u m k : List ℕ} → TextExport text out l n o m → TextExport text out l p u k
    → (n ≡ p) × (o ≡ u) × (m ≡ k)
one_text text out l e f = (word_is (e ∙ sym f), list_is 0 (e ∙ sym f), list_is 1 (e ∙ sym f))

-- ---- refused, untouched: an answer whose number is 0 is the word 0

none_is : {d : Desk} {s : List ℕ} {x : Reply} {n : ℕ} → Said d s x → n ≡ reply_word x → (n ≡ 0 → ⊥) → x.number ≡ 0 → ⊥
none_is h e f z = f (e ∙ number_word h (omega arith) ∙ z)

pub untouched_needed : (limits l : List ℕ) {n : ℕ} {m : List ℕ} → NeededExport limits l n m → (n ≡ 0 → ⊥) → m ≡ l
unfolding replied_in
untouched_needed limits l e h =
    list_is 0 e ∙ sym (mute_list l (needed_mute (desk_of limits) (none_is (needed_said (desk_of limits)) (word_is e) h)))

pub untouched_empty : (limits s : List ℕ) {n : ℕ} {t : List ℕ} → EmptyExport limits s n t → (n ≡ 0 → ⊥) → t ≡ s
unfolding emptied_in
untouched_empty limits s e h =
    list_is 0 e ∙ empty_kept (desk_of limits) s (none_is (empty_said (desk_of limits) s) (word_is e) h)

pub untouched_load : (limits s stream reps l : List ℕ) {n : ℕ} {t q m : List ℕ} → LoadExport limits s stream reps l n t q m → (n ≡ 0 → ⊥)
    → (t ≡ s) × (q ≡ reps) × (m ≡ l)
unfolding loaded_in
untouched_load limits s stream reps l e h =
    let k = load_kept (desk_of limits) s reps stream (none_is (load_said (desk_of limits) s reps stream) (word_is e) h) in
    (list_is 0 e ∙ k.0, list_is 1 e ∙ k.1, list_is 2 e ∙ sym (mute_list l k.2))

pub untouched_translate : (limits s stream reps l : List ℕ) {n : ℕ} {t q m : List ℕ} → TranslateExport limits s stream reps l n t q m → (n ≡ 0 → ⊥)
    → (t ≡ s) × (q ≡ reps) × (m ≡ l)
unfolding loaded_in
untouched_translate limits s stream reps l e h =
    let k = translate_kept (desk_of limits) s reps stream (none_is (translate_said (desk_of limits) s reps stream) (word_is e) h) in
    (list_is 0 e ∙ k.0, list_is 1 e ∙ k.1, list_is 2 e ∙ sym (mute_list l k.2))

pub untouched_write : (limits s out l : List ℕ) {n : ℕ} {o m : List ℕ} → WriteExport limits s out l n o m → (n ≡ 0 → ⊥) → (n ≡ 6 → ⊥)
    → (o ≡ out) × (m ≡ l)
unfolding written_in
untouched_write limits s out l e h k =
    let w = write_kept (desk_of limits) s out in
    let f = write_said (desk_of limits) s out in (
      list_is 0 e ∙ w.same (none_is f (word_is e) h),
      list_is 1 e
          ∙ sym (mute_list l (w.mute (none_is f (word_is e) h) (λ z. k (word_is e ∙ number_word f (omega arith) ∙ z)))),
    )

-- a write with 6 tells the length of the stream, and moves nothing else
pub needs_write : (limits s out l : List ℕ) {n : ℕ} {o m : List ℕ} → WriteExport limits s out l n o m → n ≡ 6
    → (o ≡ out) × (m ≡ noted_from 0 l (length (stream_of (desk_of limits) s) ∷ []))
unfolding written_in
needs_write limits s out l e h =
    let w = write_kept (desk_of limits) s out in
    let f = write_said (desk_of limits) s out in
    let g : reply_word (write_call (desk_of limits) s out).reply ≡ 6 = sym (word_is e) ∙ h in
    let six : (write_call (desk_of limits) s out).reply.number ≡ 6 = word_number f (omega arith) ∙ g in (
      list_is 0 e ∙ w.same (λ z. omega arith),
      list_is 1 e ∙ ap (noted_from 0 l) (w.needs six),
    )

pub untouched_find : (limits s : List ℕ) (page whole tenths : ℕ) (l : List ℕ) {n : ℕ} {m : List ℕ}
    → FindExport limits s page whole tenths l n m → (n ≡ 0 → ⊥) → m ≡ l
unfolding replied_in
untouched_find limits s page whole tenths l e h =
    list_is 0 e
    ∙ sym (mute_list l (find_mute (desk_of limits) s page whole tenths (none_is (find_said (desk_of limits) s page whole tenths) (word_is e) h)))

pub untouched_memories : (limits s : List ℕ) (kind : ℕ) (slots l : List ℕ) {n : ℕ} {t m : List ℕ}
    → MemoriesExport limits s kind slots l n t m → (n ≡ 0 → ⊥) → (t ≡ slots) × (m ≡ l)
unfolding listed_in
untouched_memories limits s kind slots l e h =
    let k = memories_kept (desk_of limits) s kind slots (none_is (memories_said (desk_of limits) s kind slots) (word_is e) h) in
    (list_is 0 e ∙ k.0, list_is 1 e ∙ sym (mute_list l k.1))

pub untouched_head : (limits s : List ℕ) (slot : ℕ) (l : List ℕ) {n : ℕ} {m : List ℕ} → HeadExport limits s slot l n m → (n ≡ 0 → ⊥) → m ≡ l
unfolding replied_in
untouched_head limits s slot l e h =
    list_is 0 e ∙ sym (mute_list l (head_mute (desk_of limits) s slot (none_is (head_said (desk_of limits) s slot) (word_is e) h)))

pub untouched_levels : (limits s : List ℕ) (slot : ℕ) (l : List ℕ) {n : ℕ} {m : List ℕ} → LevelsExport limits s slot l n m → (n ≡ 0 → ⊥) → m ≡ l
unfolding replied_in
untouched_levels limits s slot l e h =
    list_is 0 e ∙ sym (mute_list l (levels_mute (desk_of limits) s slot (none_is (levels_said (desk_of limits) s slot) (word_is e) h)))

pub untouched_patch : (limits s : List ℕ) (page dimmer : ℕ) (l : List ℕ) {n : ℕ} {m : List ℕ} → PatchExport limits s page dimmer l n m
    → (n ≡ 0 → ⊥) → m ≡ l
unfolding replied_in
untouched_patch limits s page dimmer l e h =
    list_is 0 e
    ∙ sym (mute_list l (patch_mute (desk_of limits) s page dimmer (none_is (patch_said (desk_of limits) s page dimmer) (word_is e) h)))

-- a text that is refused leaves the output
pub untouched_text : (text out l : List ℕ) {n : ℕ} {o m : List ℕ} → TextExport text out l n o m → (n ≡ 0 → ⊥) → o ≡ out
unfolding written_in
untouched_text text out l e h =
    list_is 0 e ∙ (put_kept text out).same (none_is (put_said (desk_of []) [] text out) (word_is e) h)
