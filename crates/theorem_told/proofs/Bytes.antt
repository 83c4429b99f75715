-- The records of a load, normal or with translation, leave a store of bytes one of bytes: every change puts heads, patch entries, zeros or a level
-- in place, and these are bytes. By the seven cases of what a record asks for, for any desk, whatever the store holds.
-- Assumes nothing.
use mathlib.Core.Path.{refl, subst}
use mathlib.Core.List.{List, [], ◌∷◌, ◌++◌}
use Prim.Native.Nat.{ℕ, zero, suc, ◌+◌, ◌-◌, ◌*◌, ◌<◌}
use native.Mathlib.Omega.{arith}
use lib.Dec.{eqb}
use lib.ListN.{length, take, drop, replicate, set}
use Rattle.cells.specs.Put.{put}
use Rattle.cells.specs.Search.{Found, at, nowhere}
use Rattle.cells.proofs.Split.{by_test}
use Rattle.store_desk.specs.declared.Desk.{Desk}
use Rattle.store_desk.specs.declared.Key.{Key}
use Rattle.store_desk.specs.declared.Kind.{Kind}
use Rattle.store_desk.specs.Size.{head_length, entry_length_of, slot_length, levels_length, patch_start, entries_of}
use Rattle.store_desk.specs.Name.{Name, first_slot, slot_count, entry_of}
use Rattle.store_head.specs.declared.Head.{Head}
use Rattle.store_head.specs.Pack.{Bytes}
use Rattle.store_head.specs.Layout.{encode_head}
use Rattle.store_head.proofs.Laws.{encode_bytes, encode_patch_bytes}
use Rattle.text_records.specs.Stream.{records_of}
use Rattle.store.specs.declared.Edit.{Edit}
use Rattle.store.specs.declared.Edit.TheVariants.{Up as SetUp, Down as SetDown, Followon as SetFollowon, Link as SetLink, Level as SetLevel}
use Rattle.store.specs.Slots.{slot_at, put_slot, put_entry, level_start, find, on_found}
use Rattle.store.specs.Change.{seat, blank_head, blank_slot, started, with_head, edit_slot, edit_at, edited, patch_entry, patched}
use Rattle.store.specs.Change.{every_page, hits_at, clear_from, cleared, patch_page_length, cleared_patch}
use Rattle.store.proofs.Loss.{bytes_take, bytes_drop}
use Rattle.load.specs.declared.Entry.{Entry}
use Rattle.load.specs.declared.Entry.TheVariants.{Level, Patch, Faulty}
use Rattle.load.specs.declared.Numbers.{Numbers}
use Rattle.load.specs.declared.State.{State}
use Rattle.load.specs.Item.{memory, page, done, all_done}
use Rattle.load.specs.Ask.{Wipe, table, dimmers, Ask, name}
use Rattle.load.specs.Step.{nothing_open, wiped, opened_by, acted}
use Rattle.load.specs.Fits.{AllFit}
use Rattle.load.specs.Run.{Run, stops, load_of}
use Rattle.load.specs.Translated.{as_given, step_in, numbers_after_of, run_in}
use Rattle.load.proofs.Anew.{anew_record_deed, run_given}
use Rattle.load.proofs.Read.{NoLevel}
use Rattle.load.proofs.Deed.{Deed, resting, skipping, opening, editing, setting, patching, clearing}

-- ---- lists of bytes; as a record, so that a law finds the list by itself
pub record Octets (s : List ℕ) : Type 0 where
  pub bytes : Bytes s

append_bytes : (s t : List ℕ) → Bytes s → Bytes t → Bytes (s ++ t)
append_bytes [] t f g i = g i
append_bytes (x ∷ s) t f g zero = f 0
append_bytes (x ∷ s) t f g (suc i) = append_bytes s t (λ k. f (suc k)) g i

pub zero_bytes : (n : ℕ) → Bytes (replicate n 0)
zero_bytes zero i = omega arith
zero_bytes (suc n) zero = omega arith
zero_bytes (suc n) (suc i) = zero_bytes n i

set_bytes : (s : List ℕ) (n v : ℕ) → Bytes s → v < 256 → Bytes (set s n v)
set_bytes [] n v f h i = f i
set_bytes (x ∷ s) zero v f h zero = h
set_bytes (x ∷ s) zero v f h (suc i) = f (suc i)
set_bytes (x ∷ s) (suc n) v f h zero = f 0
set_bytes (x ∷ s) (suc n) v f h (suc i) = set_bytes s n v (λ k. f (suc k)) h i

zeros : (n : ℕ) → Octets (replicate n 0)
zeros n = record { bytes = zero_bytes n }

joined : {s t : List ℕ} → Octets s → Octets t → Octets (s ++ t)
joined {s} {t} f g = record { bytes = append_bytes s t f.bytes g.bytes }

front : {s : List ℕ} (n : ℕ) → Octets s → Octets (take n s)
front {s} n f = record { bytes = bytes_take n s f.bytes }

rest : {s : List ℕ} (n : ℕ) → Octets s → Octets (drop n s)
rest {s} n f = record { bytes = bytes_drop n s f.bytes }

placed : {t xs : List ℕ} (a : ℕ) → Octets t → Octets xs → Octets (put t a xs)
unfolding put
placed {t} {xs} a f g = joined (front a f) (joined g (rest (length xs) (rest a f)))

head : (h : Head) → Octets (encode_head h)
head h = record { bytes = encode_bytes h }

-- ---- the operations on a store
found : {f : ℕ → List ℕ} {s : List ℕ} (a : Found) → ((i : ℕ) → Octets (f i)) → Octets s → Octets (on_found a f s)
unfolding on_found
found (at i) h g = h i
found nowhere h g = g

-- a change of a slot
abbrev pub Keeps : Desk → Edit → Type 0
Keeps d e = (x : List ℕ) → Octets x → Octets (edit_slot d e x)

pub head_kept : (d : Desk) (e : Edit) → NoLevel e → Keeps d e
unfolding edit_slot with_head
head_kept d (SetUp fade delay) o x f = placed 0 f (head _)
head_kept d (SetDown fade delay) o x f = placed 0 f (head _)
head_kept d (SetFollowon time) o x f = placed 0 f (head _)
head_kept d (SetLink whole fraction) o x f = placed 0 f (head _)
head_kept d (SetLevel channel v) o x f = absurd o

level_kept : (d : Desk) (channel v : ℕ) → v < 256 → Keeps d (SetLevel channel v)
unfolding edit_slot
level_kept d channel v h x f =
    joined (front head_length f) (record { bytes = set_bytes (drop head_length x) (level_start d channel) v (rest head_length f).bytes h })

module _ (d : Desk) {s : List ℕ} (b : Octets s) where
  start_kept : (n : Name) → Octets (started d s n)
  unfolding started put_slot blank_slot
  start_kept n = found (seat d s n) (λ i. placed (i * slot_length d) b (joined (head (blank_head n.key)) (zeros (levels_length d)))) b

  pub edit_at_kept : (i : ℕ) (e : Edit) → Keeps d e → Octets (edit_at d s i e)
  unfolding edit_at put_slot slot_at
  edit_at_kept i e k = placed (i * slot_length d) b (k _ (front (slot_length d) (rest (i * slot_length d) b)))

  edit_kept : (n : Name) (e : Edit) → Keeps d e → Octets (edited d s n e)
  unfolding edited
  edit_kept n e k = found (find d s n) (λ i. edit_at_kept i e k) b

  patch_kept : (p dimmer channel level : ℕ) → Octets (patched d s p dimmer channel level)
  unfolding patched put_entry
  patch_kept p dimmer channel level =
      placed (patch_start d + entry_of d p dimmer * entry_length_of) b (record { bytes = encode_patch_bytes (patch_entry channel level) })

  clear_patch_kept : (p : ℕ) → Octets (cleared_patch d s p)
  unfolding cleared_patch
  clear_patch_kept p =
      by_test Octets (eqb p every_page) _ _ (λ e. placed (patch_start d) b (zeros (entries_of d * entry_length_of)))
      (λ e. placed (patch_start d + (p - 1) * patch_page_length d) b (zeros (patch_page_length d)))

clear_from_kept : (d : Desk) (p n i : ℕ) (s : List ℕ) → Octets s → Octets (clear_from d p n i s)
unfolding clear_from put_slot
clear_from_kept d p zero i s b = b
clear_from_kept d p (suc n) i s b =
    clear_from_kept d p n (suc i) _
    (by_test Octets (hits_at d s p i) _ _ (λ e. placed (i * slot_length d) b (zeros (slot_length d))) (λ e. b))

clear_kept : (d : Desk) {s : List ℕ} → Octets s → (k : Kind) (p : ℕ) → Octets (cleared d s k p)
unfolding cleared
clear_kept d {s} b k p = clear_from_kept d p (slot_count d k) (first_slot d k) s b

-- ---- items, and what CLEAR removes
levels_kept : (d : Desk) (n : Name) (es : List Entry) → AllFit d es → {t : List ℕ} → Octets t → Octets (all_done d (memory n) t es)
unfolding all_done done
levels_kept d n [] f b = b
levels_kept d n (Level channel v ∷ es) f b = levels_kept d n es f.1 (edit_kept d b n (SetLevel channel v) (level_kept d channel v f.0.1))
levels_kept d n (Patch channel dimmer v ∷ es) f b = levels_kept d n es f.1 b
levels_kept d n (Faulty x ∷ es) f b = levels_kept d n es f.1 b

dimmers_kept : (d : Desk) (p : ℕ) (es : List Entry) {t : List ℕ} → Octets t → Octets (all_done d (page p) t es)
unfolding all_done done
dimmers_kept d p [] b = b
dimmers_kept d p (Level channel v ∷ es) b = dimmers_kept d p es b
dimmers_kept d p (Patch channel dimmer v ∷ es) b = dimmers_kept d p es (patch_kept d b p dimmer channel v)
dimmers_kept d p (Faulty x ∷ es) b = dimmers_kept d p es b

wiped_kept : (d : Desk) (xs : List Wipe) {t : List ℕ} → Octets t → Octets (wiped d xs t)
unfolding wiped
wiped_kept d [] b = b
wiped_kept d (table k p ∷ xs) b = wiped_kept d xs (clear_kept d b k p)
wiped_kept d (dimmers p ∷ xs) b = wiped_kept d xs (clear_patch_kept d b p)

-- ---- the step, the run
module _ (d : Desk) {t : List ℕ} (b : Octets t) where
  opened_kept : (k : Kind) (y : Key) (a : Found) → Octets (opened_by d k y a t).store
  unfolding opened_by
  opened_kept k y (at i) = start_kept d b (name k y)
  opened_kept k y nowhere = b

  deed_kept : {s : State} {n : ℕ} {a : Ask} → Deed d s n a → Octets (acted d s t a).store
  unfolding acted
  deed_kept (resting o f) = b
  deed_kept (skipping o f i) = b
  deed_kept (opening k y o) = opened_kept k y (seat d t (name k y))
  deed_kept {s} (editing k o e c) = edit_kept d b (name k s.key) e (head_kept d e c.2)
  deed_kept {s} (setting k o es f l) = levels_kept d (name k s.key) es f b
  deed_kept (patching p w es f l) = dimmers_kept d p es b
  deed_kept (clearing xs f) = wiped_kept d xs b

  step_kept : (c : Numbers) (s : State) (r : List ℕ) → Octets (step_in d c s r t).store
  unfolding step_in
  step_kept c s r = deed_kept (anew_record_deed d c s r)

-- of either load
pub run_kept : (d : Desk) (n : ℕ) (c : Numbers) (s : State) (t : List ℕ) (rs : List (List ℕ)) → Octets t → Octets (run_in d n c s t rs).store
unfolding run_in
run_kept d n c s t [] b = b
run_kept d n c s t (r ∷ rs) b =
    let x = step_in d c s r t in
    by_test (λ (z : Run). Octets z.store) (stops x.outcome) _ _
    (λ e. step_kept d b c s r)
    (λ e. run_kept d (n + 1) (numbers_after_of c r x) x.state x.store rs (step_kept d b c s r))

pub load_bytes : (d : Desk) (t stream : List ℕ) → Bytes t → Bytes (load_of d t stream).store
unfolding load_of
load_bytes d t stream b =
    subst (λ (x : Run). Bytes x.store) (run_given d 0 as_given nothing_open t (records_of stream) refl)
    (run_kept d 0 as_given nothing_open t (records_of stream) (record { bytes = b })).bytes
