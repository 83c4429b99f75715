-- No second answer fits a reader's promise, of the answer itself and of the lent list; and a call that is refused, or finds nothing, leaves
-- the list as it was and tells nothing beside its number.
-- Assumes nothing.
use Rattle.std.specs.Prelude.{Err, None, Ok, Option, Result, Some}
use mathlib.Core.Path.{◌≡◌, refl, sym, ap, ◌∙◌}
use mathlib.Core.List.{List, []}
use Prim.Native.Nat.{ℕ}
use lib.Dec.{eqb}
use lib.ListN.{get_or}
use Rattle.cells.specs.Search.{Found, at, nowhere}
use Rattle.cells.proofs.Split.{by_test}
use Rattle.store_desk.specs.declared.Desk.{Desk}
use Rattle.store_desk.specs.declared.Kind.{Kind}
use Rattle.store_desk.specs.declared.Refusal.{Refusal}
use Rattle.store_desk.specs.Name.{has_dimmer}
use Rattle.store_desk.specs.Refusal.{Reply}
use Rattle.store_desk.proofs.Reply.{refused_apart, refused_no_reply}
use Rattle.store_head.specs.Layout.{head_from, patch_of}
use Rattle.show.specs.Calls.{lent_admission, admission_of}
use Rattle.show.proofs.Laws.{away_reply, store_away, lent_mute}
use Rattle.show.proofs.OneAnswer.{not_kept_lem, not_told, find_apart, place_mute}
use Rattle.show_read.specs.Calls.{ListCall, list_reply, list_of, kind_list, memories_by, memories_call, MemoriesPromise}
use Rattle.show_read.specs.Calls.{slot_named, head_reply, head_in, head_by, head_call, HeadPromise, levels_by, levels_call, LevelsPromise}
use Rattle.show_read.specs.Calls.{patch_reply, patch_in, patch_by, patch_call, PatchPromise}
use Rattle.store_head.specs.declared.Head.{Head}
use Rattle.store_head.specs.declared.Patch.{Patch}

-- ---- answers that tell the same are the same

list_apart : (a b : Result (Option ℕ) Refusal) → list_reply a ≡ list_reply b → a ≡ b
list_apart (Err r) (Err q) e = ap (λ (x : Refusal). Err x) (refused_apart e)
list_apart (Err r) (Ok None) e = not_kept_lem r e
list_apart (Err r) (Ok (Some m)) e = refused_no_reply r e
list_apart (Ok None) (Err q) e = not_kept_lem q (sym e)
list_apart (Ok None) (Ok None) e = refl
list_apart (Ok None) (Ok (Some m)) e = not_told e
list_apart (Ok (Some n)) (Err q) e = refused_no_reply q (sym e)
list_apart (Ok (Some n)) (Ok None) e = not_told (sym e)
list_apart (Ok (Some n)) (Ok (Some m)) e = ap (λ (x : Reply). Ok (Some (get_or x.told 0 0))) e

head_apart : (a b : Result (Option Head) Refusal) → head_reply a ≡ head_reply b → a ≡ b
head_apart (Err r) (Err q) e = ap (λ (x : Refusal). Err x) (refused_apart e)
head_apart (Err r) (Ok None) e = not_kept_lem r e
head_apart (Err r) (Ok (Some g)) e = refused_no_reply r e
head_apart (Ok None) (Err q) e = not_kept_lem q (sym e)
head_apart (Ok None) (Ok None) e = refl
head_apart (Ok None) (Ok (Some g)) e = not_told e
head_apart (Ok (Some h)) (Err q) e = refused_no_reply q (sym e)
head_apart (Ok (Some h)) (Ok None) e = not_told (sym e)
head_apart (Ok (Some h)) (Ok (Some g)) e = ap (λ (x : Reply). Ok (Some (head_from x.told))) e

patch_apart : (a b : Result (Option Patch) Refusal) → patch_reply a ≡ patch_reply b → a ≡ b
patch_apart (Err r) (Err q) e = ap (λ (x : Refusal). Err x) (refused_apart e)
patch_apart (Err r) (Ok None) e = not_kept_lem r e
patch_apart (Err r) (Ok (Some g)) e = refused_no_reply r e
patch_apart (Ok None) (Err q) e = not_kept_lem q (sym e)
patch_apart (Ok None) (Ok None) e = refl
patch_apart (Ok None) (Ok (Some g)) e = not_told e
patch_apart (Ok (Some h)) (Err q) e = refused_no_reply q (sym e)
patch_apart (Ok (Some h)) (Ok None) e = not_told (sym e)
patch_apart (Ok (Some h)) (Ok (Some g)) e = ap (λ (x : Reply). Ok (Some (patch_of x.told))) e

-- ---- one answer

pub one_memories : (d : Desk) (s : List ℕ) (n : ℕ) (l : List ℕ) {a b : Result (Option ℕ) Refusal} {t u : List ℕ}
    → MemoriesPromise d s n l a t → MemoriesPromise d s n l b u → (a ≡ b) × (t ≡ u)
one_memories d s n l {a} {b} e f =
    let g = e ∙ sym f in
    (list_apart a b (ap (λ (y : ListCall). y.reply) g), ap (λ (y : ListCall). y.slots) g)

pub one_head : (d : Desk) (s : List ℕ) (n : ℕ) {a b : Result (Option Head) Refusal} → HeadPromise d s n a → HeadPromise d s n b → a ≡ b
one_head d s n {a} {b} e f = head_apart a b (e ∙ sym f)

pub one_levels : (d : Desk) (s : List ℕ) (n : ℕ) {a b : Result (Option ℕ) Refusal} → LevelsPromise d s n a → LevelsPromise d s n b → a ≡ b
one_levels d s n {a} {b} e f = find_apart a b (e ∙ sym f)

pub one_patch : (d : Desk) (s : List ℕ) (page dimmer : ℕ) {a b : Result (Option Patch) Refusal} → PatchPromise d s page dimmer a → PatchPromise d s page dimmer b → a ≡ b
one_patch d s page dimmer {a} {b} e f = patch_apart a b (e ∙ sym f)

-- ---- refused, untouched

abbrev ListKept : List ℕ → ListCall → Type 0
ListKept l x = (x.reply.number ≡ 0 → ⊥) → (x.slots ≡ l) × (x.reply.told ≡ [])

list_of_kept : (d : Desk) (s : List ℕ) (k : Kind) (l : List ℕ) → ListKept l (list_of d s k l)
unfolding list_of
list_of_kept d s k l h = absurd (h refl)

kind_kept : (d : Desk) (s : List ℕ) (n : ℕ) (l : List ℕ) → ListKept l (kind_list d s n l)
unfolding kind_list
kind_kept d s n l =
    by_test (ListKept l) (eqb n 0) _ _ (λ e. list_of_kept d s _ l)
    (λ e.
    by_test (ListKept l) (eqb n 1) _ _ (λ f. list_of_kept d s _ l)
    (λ f. by_test (ListKept l) (eqb n 2) _ _ (λ g. list_of_kept d s _ l) (λ g h. (refl, refl))))

memories_by_kept : (a : Result Unit Refusal) → (away_reply a).told ≡ [] → (d : Desk) (s : List ℕ) (n : ℕ) (l : List ℕ) → ListKept l (memories_by a d s n l)
unfolding memories_by
memories_by_kept (Ok _) m d s n l = kind_kept d s n l
memories_by_kept (Err r) m d s n l = λ h. (refl, m)

pub memories_kept : (d : Desk) (s : List ℕ) (n : ℕ) (l : List ℕ) → ((memories_call d s n l).reply.number ≡ 0 → ⊥)
    → ((memories_call d s n l).slots ≡ l) × ((memories_call d s n l).reply.told ≡ [])
unfolding memories_call
memories_kept d s n l = memories_by_kept (admission_of d s) (store_away d s).mute d s n l

pub untouched_memories : (d : Desk) (s : List ℕ) (n : ℕ) (l : List ℕ) (a : Result (Option ℕ) Refusal) {t : List ℕ}
    → MemoriesPromise d s n l a t → ((list_reply a).number ≡ 0 → ⊥) → t ≡ l
untouched_memories d s n l a e h =
    ap (λ (y : ListCall). y.slots) e ∙ (memories_kept d s n l (λ z. h (ap (λ (y : ListCall). y.reply.number) e ∙ z))).0

-- the other three lend no list here; where they tell no value they tell nothing
Mute : Reply → Type 0
Mute x = (x.number ≡ 0 → ⊥) → x.told ≡ []

head_in_mute : (d : Desk) (s : List ℕ) (f : Found) → Mute (head_in d s f)
unfolding Mute head_in
head_in_mute d s (at i) h = absurd (h refl)
head_in_mute d s nowhere h = refl

head_by_mute : (a : Result Unit Refusal) → (away_reply a).told ≡ [] → (d : Desk) (s : List ℕ) (n : ℕ) → Mute (head_by a d s n)
unfolding Mute head_by
head_by_mute (Ok _) m d s n = head_in_mute d s (slot_named d n)
head_by_mute (Err r) m d s n = λ h. m

pub head_mute : (d : Desk) (s : List ℕ) (n : ℕ) → ((head_call d s n).number ≡ 0 → ⊥) → (head_call d s n).told ≡ []
unfolding Mute head_call
head_mute d s n = head_by_mute (lent_admission d s) (lent_mute d s) d s n

levels_by_mute : (a : Result Unit Refusal) → (away_reply a).told ≡ [] → (d : Desk) (n : ℕ) → Mute (levels_by a d n)
unfolding Mute levels_by
levels_by_mute (Ok _) m d n = place_mute d (slot_named d n)
levels_by_mute (Err r) m d n = λ h. m

pub levels_mute : (d : Desk) (s : List ℕ) (n : ℕ) → ((levels_call d s n).number ≡ 0 → ⊥) → (levels_call d s n).told ≡ []
unfolding Mute levels_call
levels_mute d s n = levels_by_mute (lent_admission d s) (lent_mute d s) d n

patch_in_mute : (d : Desk) (s : List ℕ) (page dimmer : ℕ) → Mute (patch_in d s page dimmer)
unfolding Mute patch_in
patch_in_mute d s page dimmer = by_test Mute (has_dimmer d page dimmer) _ _ (λ e h. absurd (h refl)) (λ e h. refl)

patch_by_mute : (a : Result Unit Refusal) → (away_reply a).told ≡ [] → (d : Desk) (s : List ℕ) (page dimmer : ℕ) → Mute (patch_by a d s page dimmer)
unfolding Mute patch_by
patch_by_mute (Ok _) m d s page dimmer = patch_in_mute d s page dimmer
patch_by_mute (Err r) m d s page dimmer = λ h. m

pub patch_mute : (d : Desk) (s : List ℕ) (page dimmer : ℕ) → ((patch_call d s page dimmer).number ≡ 0 → ⊥) → (patch_call d s page dimmer).told ≡ []
unfolding Mute patch_call
patch_mute d s page dimmer = patch_by_mute (lent_admission d s) (lent_mute d s) d s page dimmer
