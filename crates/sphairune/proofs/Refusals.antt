-- An exported call's word has the number of the first of the paper's lines that holds, exactly, and the place beside it: they are the public
-- call's, and the word has them apart.
-- Assumes nothing.
use mathlib.Core.Path.{◌≡◌, sym, ap, ◌∙◌, subst}
use mathlib.Core.List.{List}
use Prim.Native.Nat.{ℕ, ◌/◌, ◌%◌}
use Rattle.store_desk.specs.declared.Desk.{Desk}
use Rattle.store_desk.specs.Refusal.{Reply, place_unit, reply_word}
use Rattle.show.specs.Refusals.{PlaceTold, LoadRefused, WriteRefused, EmptyRefused, NeededRefused, FindRefused}
use Rattle.show.proofs.Refusals.{load_lines, write_lines, empty_lines, needed_lines, find_lines}
use Rattle.show.proofs.Refusals.{Said, load_said, write_said, empty_said, needed_said, find_said, word_told}
use Rattle.show_read.specs.Refusals.{MemoriesRefused, SlotRefused, PatchRefused}
use Rattle.show_read.proofs.Refusals.{memories_lines, head_lines_lem, levels_lines, patch_lines_lem, memories_said, head_said, levels_said, patch_said}
use Rattle.sphairune.specs.Calls.{desk_of, replied_in, emptied_in, loaded_in, written_in, listed_in}
use Rattle.sphairune.specs.Calls.{NeededExport, EmptyExport, LoadExport, WriteExport, FindExport}
use Rattle.sphairune.specs.Calls.{MemoriesExport, HeadExport, LevelsExport, PatchExport}
use Rattle.sphairune.proofs.OneAnswer.{word_is}

-- ---- number and place of a word

number_of : {d : Desk} {s : List ℕ} {x : Reply} {n : ℕ} → Said d s x → n ≡ reply_word x → x.number ≡ n % place_unit
number_of {x = x} h e = sym (ap (λ (w : ℕ). w % place_unit) e ∙ (word_told x h.below).number)

place_of : {d : Desk} {s : List ℕ} {x : Reply} {n : ℕ} → Said d s x → n ≡ reply_word x → x.place ≡ n / place_unit
place_of {x = x} h e = sym (ap (λ (w : ℕ). w / place_unit) e ∙ (word_told x h.below).place)

placed : {d : Desk} {s : List ℕ} {x : Reply} {n : ℕ} → Said d s x → n ≡ reply_word x → PlaceTold d s (n % place_unit) (n / place_unit)
placed {d} {s} {x} {n} h e =
    subst (λ (k : ℕ). PlaceTold d s k (n / place_unit)) (number_of h e) (subst (PlaceTold d s x.number) (place_of h e) h.place)

-- ---- the number

pub needed_refused : (limits l : List ℕ) {n : ℕ} {m : List ℕ} → NeededExport limits l n m → NeededRefused (desk_of limits) (n % place_unit)
unfolding replied_in
needed_refused limits l e =
    subst (NeededRefused (desk_of limits)) (number_of (needed_said (desk_of limits)) (word_is e)) (needed_lines (desk_of limits))

pub empty_refused : (limits s : List ℕ) {n : ℕ} {t : List ℕ} → EmptyExport limits s n t → EmptyRefused (desk_of limits) s (n % place_unit)
unfolding emptied_in
empty_refused limits s e =
    subst (EmptyRefused (desk_of limits) s) (number_of (empty_said (desk_of limits) s) (word_is e)) (empty_lines (desk_of limits) s)

pub load_refused : (limits s stream reps l : List ℕ) {n : ℕ} {t q m : List ℕ} → LoadExport limits s stream reps l n t q m
    → LoadRefused (desk_of limits) s stream (n % place_unit)
unfolding loaded_in
load_refused limits s stream reps l e =
    subst (LoadRefused (desk_of limits) s stream) (number_of (load_said (desk_of limits) s reps stream) (word_is e))
    (load_lines (desk_of limits) s reps stream)

pub write_refused : (limits s out l : List ℕ) {n : ℕ} {o m : List ℕ} → WriteExport limits s out l n o m
    → WriteRefused (desk_of limits) s out (n % place_unit)
unfolding written_in
write_refused limits s out l e =
    subst (WriteRefused (desk_of limits) s out) (number_of (write_said (desk_of limits) s out) (word_is e)) (write_lines (desk_of limits) s out)

pub find_refused : (limits s : List ℕ) (page whole tenths : ℕ) (l : List ℕ) {n : ℕ} {m : List ℕ} → FindExport limits s page whole tenths l n m
    → FindRefused (desk_of limits) s page whole tenths (n % place_unit)
unfolding replied_in
find_refused limits s page whole tenths l e =
    subst (FindRefused (desk_of limits) s page whole tenths) (number_of (find_said (desk_of limits) s page whole tenths) (word_is e))
    (find_lines (desk_of limits) s page whole tenths)

pub memories_refused : (limits s : List ℕ) (kind : ℕ) (slots l : List ℕ) {n : ℕ} {t m : List ℕ} → MemoriesExport limits s kind slots l n t m
    → MemoriesRefused (desk_of limits) s kind (n % place_unit)
unfolding listed_in
memories_refused limits s kind slots l e =
    subst (MemoriesRefused (desk_of limits) s kind) (number_of (memories_said (desk_of limits) s kind slots) (word_is e))
    (memories_lines (desk_of limits) s kind slots)

pub head_refused : (limits s : List ℕ) (slot : ℕ) (l : List ℕ) {n : ℕ} {m : List ℕ} → HeadExport limits s slot l n m
    → SlotRefused (desk_of limits) s slot (n % place_unit)
unfolding replied_in
head_refused limits s slot l e =
    subst (SlotRefused (desk_of limits) s slot) (number_of (head_said (desk_of limits) s slot) (word_is e)) (head_lines_lem (desk_of limits) s slot)

pub levels_refused : (limits s : List ℕ) (slot : ℕ) (l : List ℕ) {n : ℕ} {m : List ℕ} → LevelsExport limits s slot l n m
    → SlotRefused (desk_of limits) s slot (n % place_unit)
unfolding replied_in
levels_refused limits s slot l e =
    subst (SlotRefused (desk_of limits) s slot) (number_of (levels_said (desk_of limits) s slot) (word_is e)) (levels_lines (desk_of limits) s slot)

pub patch_refused : (limits s : List ℕ) (page dimmer : ℕ) (l : List ℕ) {n : ℕ} {m : List ℕ} → PatchExport limits s page dimmer l n m
    → PatchRefused (desk_of limits) s page dimmer (n % place_unit)
unfolding replied_in
patch_refused limits s page dimmer l e =
    subst (PatchRefused (desk_of limits) s page dimmer) (number_of (patch_said (desk_of limits) s page dimmer) (word_is e))
    (patch_lines_lem (desk_of limits) s page dimmer)

-- ---- and the place

pub load_place : (limits s stream reps l : List ℕ) {n : ℕ} {t q m : List ℕ} → LoadExport limits s stream reps l n t q m
    → PlaceTold (desk_of limits) s (n % place_unit) (n / place_unit)
unfolding loaded_in
load_place limits s stream reps l e = placed (load_said (desk_of limits) s reps stream) (word_is e)

pub write_place : (limits s out l : List ℕ) {n : ℕ} {o m : List ℕ} → WriteExport limits s out l n o m
    → PlaceTold (desk_of limits) s (n % place_unit) (n / place_unit)
unfolding written_in
write_place limits s out l e = placed (write_said (desk_of limits) s out) (word_is e)

pub find_place : (limits s : List ℕ) (page whole tenths : ℕ) (l : List ℕ) {n : ℕ} {m : List ℕ} → FindExport limits s page whole tenths l n m
    → PlaceTold (desk_of limits) s (n % place_unit) (n / place_unit)
unfolding replied_in
find_place limits s page whole tenths l e = placed (find_said (desk_of limits) s page whole tenths) (word_is e)

pub memories_place : (limits s : List ℕ) (kind : ℕ) (slots l : List ℕ) {n : ℕ} {t m : List ℕ} → MemoriesExport limits s kind slots l n t m
    → PlaceTold (desk_of limits) s (n % place_unit) (n / place_unit)
unfolding listed_in
memories_place limits s kind slots l e = placed (memories_said (desk_of limits) s kind slots) (word_is e)
