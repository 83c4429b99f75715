-- While its records are read, a load with translation sets no link: a cue that asked for one has none until the load ends. By what each record asks
-- for, and by induction on the records: what is open was started afresh, and so was every cue that asked.
-- Assumes nothing.
use Rattle.std.specs.Prelude.{None, Ok, Option, Some}
use mathlib.Core.Path.{◌≡◌, refl, sym, ap, ◌∙◌, subst}
use mathlib.Core.Bool.{Bool, true, false, cond, ◌&&◌}
use mathlib.Core.Logic.{◌⊎◌, inl, inr, ⊎_elim}
use mathlib.Core.List.{List, [], ◌∷◌}
use Prim.Native.Nat.{ℕ, zero, suc, ◌+◌, ◌-◌, ◌*◌, ◌≤◌, ◌<◌}
use native.Mathlib.Omega.{arith}
use lib.Dec.{eqb}
use lib.ListN.{length, get_or, set, replicate, length-replicate}
use borrow.Author.Tests.{eqb-false}
use Rattle.cells.specs.Search.{Found, at, nowhere}
use Rattle.cells.specs.Put.{put}
use Rattle.cells.proofs.Search.{at_inj}
use Rattle.cells.proofs.Put.{part_before}
use Rattle.cells.proofs.Split.{by_test, by_bool, by_eq, cond-true, cond-false, clash, and_true, and_left, and_right}
use Rattle.store_desk.specs.declared.Desk.{Desk}
use Rattle.store_desk.specs.declared.Key.{Key}
use Rattle.store_desk.specs.declared.Kind.{Kind}
use Rattle.store_desk.specs.declared.Kind.TheVariants.{Cue, Group, Sub}
use Rattle.store_desk.specs.Size.{Within, entry_length_of, slot_length, slots_of, patch_start, entries_of, store_length}
use Rattle.store_desk.specs.Name.{Name, first_slot, slot_count, slots_end, kind_at, ok_name, entry_of, KeyFits}
use Rattle.store_desk.proofs.Name.{kind_end, kind_of, entry_inside, ok_fits}
use Rattle.store_head.specs.declared.Head.{Head}
use Rattle.store_head.specs.Layout.{encode_patch, decode_head}
use Rattle.store_head.proofs.Laws.{length-encode_patch}
use Rattle.text_records.specs.Stream.{records_of}
use Rattle.text_fields.specs.Words.{Word, fields_of, head_of, tail_of}
use Rattle.text_fields.specs.Keywords.{keyword_of, item_of}
use Rattle.value.specs.Time.{time_of}
use Rattle.store.specs.declared.Edit.{Edit}
use Rattle.store.specs.declared.Edit.TheVariants.{Up as SetUp, Down as SetDown, Followon as SetFollowon, Link as SetLink, Level as SetLevel}
use Rattle.store.specs.Slots.{slot_at, put_slot, head_at, key_of, is_used, find, on_found}
use Rattle.store.specs.Change.{seat, blank_head, blank_slot, started, edit_head, edit_slot, edit_at, edited, patch_entry, patched, every_page, cleared, patch_page_length, cleared_patch}
use Rattle.store.specs.Fits.{EditFits}
use Rattle.store.specs.Form.{has_link, name_at}
use Rattle.store.specs.Good.{Ready}
use Rattle.store.proofs.Places.{slot_end, slot_same, slot_other, entry_put_length, patch_slots}
use Rattle.store.proofs.Find.{head_same}
use Rattle.store.proofs.Form.{found_self}
use Rattle.store.proofs.Start.{blank_length, blank_head_lem, started-at, start_own, seat_inside, found_used}
use Rattle.store.proofs.Edits.{edit_used, edit_key, change_length, edited-at, edited_absent, edit_at_head, edit_at-find, edited-length, in_time_fits}
use Rattle.store.proofs.Clear.{zeros, removes, zero_unused, clear_length, clear_slot}
use Rattle.store.proofs.Patches.{same_find, clear_patch_length}
use Rattle.load.specs.declared.Entry.{Entry}
use Rattle.load.specs.declared.Entry.TheVariants.{Level, Patch, Faulty}
use Rattle.load.specs.declared.Open.{Open}
use Rattle.load.specs.declared.Open.TheVariants.{Nothing, Skipping, Memory}
use Rattle.load.specs.declared.State.{State}
use Rattle.load.specs.declared.Family.{Family}
use Rattle.load.specs.declared.Family.TheVariants.{Primary, Augments, Basic as Basically}
use Rattle.load.specs.declared.Heard.{Heard}
use Rattle.load.specs.declared.Heard.TheVariants.{Other, Accepted, Refused, Link as Asked}
use Rattle.load.specs.declared.Numbers.{Numbers}
use Rattle.load.specs.declared.Outcome.TheVariants.{Dropped, Obeyed}
use Rattle.load.specs.declared.Secondary.{Secondary}
use Rattle.load.specs.declared.Secondary.TheVariants.{Chan, Up, Down, Followon, Link}
use Rattle.load.specs.Condition.{wrong_secondary}
use Rattle.load.specs.Anew.{anew_primary_ask, is_link, links_in, asks_link, is_clear, anew_family_ask, family_ask_in, fields_ask_in, ask_in, is_obeyed, family_heard, fields_heard, heard_in}
use Rattle.load.specs.Item.{blame, memory, page, done, all_done}
use Rattle.load.specs.Ask.{on_time, delay_of, fade_of, times_of, augments, change_ask, obeyed_ask, secondary_ask, item_ask, family_of, basic_ask, family_ask, is_over_long}
use Rattle.load.specs.Ask.{Wipe, table, dimmers, Ask, rests, skips, opens, edits, items, clears, name}
use Rattle.load.specs.Step.{Step, ended, nothing_open, skipping as skipState, slot_by, slot_of, settle_by, settle, wiped, opened_by, acted}
use Rattle.load.specs.Run.{Run, stops, only, and_then}
use Rattle.load.specs.Translated.{Note, anew_from_one, step_in, numbers_after_of, run_in, notes_in, most_cues, asked_at, asked_by}
use Rattle.load.specs.Fits.{AllFit}
use Rattle.load.proofs.Anew.{primary_in_deed, anew_record_deed, heard_long}
use Rattle.load.proofs.Deed.{item_deed, basic_deed}
use Rattle.load.proofs.Deed.{WipesFit, Deed, resting, skipping, opening, editing, setting, patching, clearing}
use Rattle.load.proofs.Steps.{step_in_ready}
use Rattle.theorem_told.proofs.Behind.{page_end}
use Rattle.theorem_translated.specs.Links.{read_of, asked_of}
use Rattle.theorem_translated.proofs.Numbers.{numbered-anew}

-- ---- a cue slot is one of a cue
pub cue_slot : (d : Desk) (i : ℕ) → i < d.cues → (i < slots_of d) × (kind_at d i ≡ Cue)
unfolding first_slot slot_count
cue_slot d i h =
    let a : slots_end d Cue ≤ slots_of d = kind_end d Cue in
    ((let l : i < slots_of d = omega arith in l), kind_of d Cue i (omega arith) (omega arith))

-- ---- a list with one number put in place
set_zero : (xs : List ℕ) (i j : ℕ) → get_or xs j 0 ≡ 0 → get_or (set xs i 0) j 0 ≡ 0
set_zero [] i j h = h
set_zero (x ∷ xs) zero zero h = refl
set_zero (x ∷ xs) zero (suc j) h = h
set_zero (x ∷ xs) (suc i) zero h = h
set_zero (x ∷ xs) (suc i) (suc j) h = set_zero xs i j h

set_other : (xs : List ℕ) (i j v : ℕ) → (i ≡ j → ⊥) → get_or (set xs i v) j 0 ≡ get_or xs j 0
set_other [] i j v h = refl
set_other (x ∷ xs) zero zero v h = absurd (h refl)
set_other (x ∷ xs) zero (suc j) v h = refl
set_other (x ∷ xs) (suc i) zero v h = refl
set_other (x ∷ xs) (suc i) (suc j) v h = set_other xs i j v (λ e. h (ap suc e))

-- ---- a slot that is used afterwards was used before, under the same key and with the same link
module _ (d : Desk) where
  record Same (t u : List ℕ) (i : ℕ) : Type 0 where
    used : is_used (head_at d t i) ≡ true
    key : key_of (head_at d u i) ≡ key_of (head_at d t i)
    link : (head_at d u i).link ≡ (head_at d t i).link

  abbrev AllSame : List ℕ → List ℕ → Type 0
  AllSame t u = (i : ℕ) → i < slots_of d → is_used (head_at d u i) ≡ true → Same t u i

  head_alike : {t u : List ℕ} (i : ℕ) → slot_at d u i ≡ slot_at d t i → is_used (head_at d u i) ≡ true → Same t u i
  head_alike {t} {u} i e w =
      let q : head_at d u i ≡ head_at d t i = head_same d u t i e in
      record { used = sym (ap is_used q) ∙ w; key = ap key_of q; link = ap (λ (h : Head). h.link) q }

  same_trans : {t u v : List ℕ} → AllSame t u → AllSame u v → AllSame t v
  same_trans f g i l w =
      let y = g i l w in
      let x = f i l y.used in
      record { used = x.used; key = y.key ∙ x.key; link = y.link ∙ x.link }

  -- and every memory is found where it was
  record Still (t u : List ℕ) : Type 0 where
    same : AllSame t u
    finds : (m : Name) → find d u m ≡ find d t m
    long : length u ≡ length t

  still : (t : List ℕ) → Still t t
  still t = record { same = λ i l w. head_alike i refl w; finds = λ m. refl; long = refl }

  still_trans : {t u v : List ℕ} → Still t u → Still u v → Still t v
  still_trans f g =
      record { same = same_trans f.same g.same; finds = λ m. g.finds m ∙ f.finds m; long = g.long ∙ f.long }

  -- ---- a change, unless it sets a link
  abbrev pub NoLink : Edit → Type 0
  NoLink (SetUp fade delay) = Unit {0}
  NoLink (SetDown fade delay) = Unit {0}
  NoLink (SetFollowon time) = Unit {0}
  NoLink (SetLink whole fraction) = ⊥
  NoLink (SetLevel channel v) = Unit {0}

  edit_link : (e : Edit) → NoLink e → (h : Head) → (edit_head e h).link ≡ h.link
  unfolding edit_head put
  edit_link (SetUp fade delay) n h = refl
  edit_link (SetDown fade delay) n h = refl
  edit_link (SetFollowon time) n h = refl
  edit_link (SetLink whole fraction) n h = absurd n
  edit_link (SetLevel channel v) n h = refl

  module _ (t : List ℕ) (long : store_length d ≤ length t) where
    edit_at_same : (e : Edit) → NoLink e → EditFits e → (i : ℕ) → i < slots_of d → AllSame t (edit_at d t i e)
    edit_at_same e n g i h j l w =
        by_eq i j
        (λ q. subst (λ (z : ℕ). is_used (head_at d (edit_at d t i e) z) ≡ true → Same t (edit_at d t i e) z) q own w)
        (λ ne. head_alike j (unfold edit_at in (slot_other d t long i h (edit_slot d e (slot_at d t i)) (change_length d t long i h e g) j ne)) w)
      where
        own : is_used (head_at d (edit_at d t i e) i) ≡ true → Same t (edit_at d t i e) i
        own v =
            let q = edit_at_head d t long i h e g in
            record {
              used = sym (ap (λ (k : ℕ). eqb k 1) (edit_used e (head_at d t i))) ∙ sym (ap is_used q) ∙ v;
              key = ap key_of q ∙ edit_key e (head_at d t i);
              link = ap (λ (y : Head). y.link) q ∙ edit_link e n (head_at d t i);
            }

    edit_still : (m : Name) (e : Edit) → NoLink e → EditFits e → Still t (edited d t m e)
    edit_still m e n g = cases (find d t m) refl
      where
        cases : (a : Found) → find d t m ≡ a → Still t (edited d t m e)
        cases (at i) f =
            let h = (found_used d t m i f).0 in
            record {
              same = subst (AllSame t) (sym (edited-at d t m e i f)) (edit_at_same e n g i h);
              finds = λ y. ap (λ (v : List ℕ). find d v y) (edited-at d t m e i f) ∙ edit_at-find d t long i h e g y;
              long = edited-length d t long m e g;
            }
        cases nowhere f = subst (Still t) (sym (edited_absent d t m e f)) (still t)

    -- ---- a dimmer, and dimmers cleared
    patch_still : (p dimmer channel level : ℕ) → Within 1 p d.patch_pages → Within 1 dimmer d.dimmers
        → Still t (patched d t p dimmer channel level)
    unfolding patched
    patch_still p dimmer channel level h k =
        let i : ℕ = entry_of d p dimmer in
        let l : i < entries_of d = entry_inside d p dimmer h k in
        let x = encode_patch (patch_entry channel level) in
        let e : length x ≡ entry_length_of = length-encode_patch (patch_entry channel level) in
        let slots = patch_slots d t long i l x e in
        record {
          same = λ j g w. head_alike j (slots j g) w;
          finds = same_find d t (patched d t p dimmer channel level) slots;
          long = entry_put_length d t long i l x e;
        }

    zeros_slots : (a n : ℕ) → patch_start d ≤ a → a + n ≤ store_length d → (j : ℕ) → j < slots_of d → slot_at d (put t a (replicate n 0)) j ≡ slot_at d t j
    unfolding slot_at
    zeros_slots a n h g j l =
        let v = slot_end d j l in
        let e : length (replicate n (zero)) ≡ n = length-replicate n 0 in
        part_before t a (replicate n 0) (j * slot_length d) (slot_length d) (omega arith) (omega arith)

    clear_patch_same : (p : ℕ) → p ≤ d.patch_pages → AllSame t (cleared_patch d t p)
    unfolding cleared_patch store_length
    clear_patch_same p h =
        by_test (AllSame t) (eqb p every_page) _ _
        (λ e i l w. head_alike i (zeros_slots (patch_start d) (entries_of d * entry_length_of) (omega arith) (omega arith) i l) w)
        (λ e i l w.
        let ne : p ≡ 0 → ⊥ = eqb-false p 0 e in
        let b = page_end d [] t long p (omega arith) h in
        head_alike i (zeros_slots (patch_start d + (p - 1) * patch_page_length d) (patch_page_length d) (omega arith) b i l) w)

    clear_same : (k : Kind) (p : ℕ) → AllSame t (cleared d t k p)
    clear_same k p i l w =
        by_bool (removes d t k p i)
        (λ e.
        clash w
        (zero_unused d (cleared d t k p) i (slot_length d)
        (clear_slot d t long k p i l ∙ cond-true (removes d t k p i) (zeros d) (slot_at d t i) e)))
        (λ e. head_alike i (clear_slot d t long k p i l ∙ cond-false (removes d t k p i) (zeros d) (slot_at d t i) e) w)

  -- ---- items, and what CLEAR removes
  memory_still : (n : Name) (es : List Entry) (t : List ℕ) → store_length d ≤ length t → Still t (all_done d (memory n) t es)
  unfolding all_done done
  memory_still n [] t l = still t
  memory_still n (Level channel v ∷ es) t l =
      let x = edit_still t l n (SetLevel channel v) tt tt in
      still_trans x (memory_still n es (edited d t n (SetLevel channel v)) (let q = x.long in omega arith))
  memory_still n (Patch channel dimmer v ∷ es) t l = memory_still n es t l
  memory_still n (Faulty x ∷ es) t l = memory_still n es t l

  page_still : (p : ℕ) → Within 1 p d.patch_pages → (es : List Entry) → AllFit d es → (t : List ℕ) → store_length d ≤ length t
      → Still t (all_done d (page p) t es)
  unfolding all_done done
  page_still p w [] f t l = still t
  page_still p w (Level channel v ∷ es) f t l = page_still p w es f.1 t l
  page_still p w (Patch channel dimmer v ∷ es) f t l =
      let x = patch_still t l p dimmer channel v w f.0.1 in
      still_trans x (page_still p w es f.1 (patched d t p dimmer channel v) (let q = x.long in omega arith))
  page_still p w (Faulty x ∷ es) f t l = page_still p w es f.1 t l

  wiped_same : (xs : List Wipe) → WipesFit d xs → (t : List ℕ) → store_length d ≤ length t → AllSame t (wiped d xs t)
  unfolding wiped
  wiped_same [] f t l = (still t).same
  wiped_same (table k p ∷ xs) f t l =
      same_trans (clear_same t l k p) (wiped_same xs f.1 (cleared d t k p) (let q = clear_length d t l k p in omega arith))
  wiped_same (dimmers p ∷ xs) f t l =
      same_trans (clear_patch_same t l p f.0) (wiped_same xs f.1 (cleared_patch d t p) (let q = clear_patch_length d t l p f.0 in omega arith))

  -- ---- what is open is kept, and has no link
  pub record Bare (n : Name) (t : List ℕ) : Type 0 where
    pub place : ℕ
    pub found : find d t n ≡ at place
    pub link : ◌≡◌ {A = ℕ} (head_at d t place).link 0

  abbrev pub OpenBare : State → List ℕ → Type 0
  OpenBare s t = (k : Kind) → s.«open» ≡ Memory k → Bare (name k s.key) t

  pub not_open : (s : State) (t : List ℕ) → s.«open» ≡ Nothing → OpenBare s t
  not_open s t e k h = absurd (let z : ◌≡◌ {A = ℕ} 0 1 = cc in omega arith)

  skips_bare : (t : List ℕ) → OpenBare skipState t
  skips_bare t k h = absurd (let z : ◌≡◌ {A = ℕ} 0 1 = cc in omega arith)

  -- a memory that is found afterwards was found there before
  found_before : {t u : List ℕ} → Ready d t → AllSame t u → (n : Name) (j : ℕ) → find d u n ≡ at j → Bare n t → Bare n u
  found_before {t} {u} r f n j e b =
      let x = found_used d u n j e in
      let y = f j x.0 x.1 in
      let m : name_at d t j ≡ n = (λ i. record { kind = kind_at d j; key = sym y.key i }) ∙ x.2 in
      let g : find d t n ≡ at j = ap (find d t) (sym m) ∙ found_self d t r.form j x.0 y.used in
      let q : b.place ≡ j = at_inj (sym b.found ∙ g) in
      record { place = j; found = e; link = y.link ∙ sym (ap (λ (i : ℕ). (head_at d t i).link) q) ∙ b.link }

  still_bare : {t u : List ℕ} → Ready d t → Still t u → (s : State) → OpenBare s t → OpenBare s u
  still_bare r x s o k h = let b = o k h in found_before r x.same (name k s.key) b.place (x.finds (name k s.key) ∙ b.found) b

  settled_bare : {t u : List ℕ} → Ready d t → AllSame t u → (s : State) → OpenBare s t → OpenBare (settle d s u) u
  unfolding settle_by on_found
  settled_bare {t} {u} r f s o = cases s.«open» refl
    where
      cases : (x : Open) → s.«open» ≡ x → OpenBare (settle_by d s x u) u
      cases Nothing e = not_open s u e
      cases Skipping e = λ k h. absurd (let z : ◌≡◌ {A = ℕ} 0 1 = cc in omega arith)
      cases (Memory k) e = seen (find d u (name k s.key)) refl
        where
          seen : (a : Found) → find d u (name k s.key) ≡ a → OpenBare (on_found a (λ i. s) nothing_open) u
          seen (at j) g =
              λ c h.
              let q : c ≡ k = cc in
              subst (λ (z : Kind). Bare (name z s.key) u) (sym q) (found_before r f (name k s.key) j g (o k e))
          seen nowhere g = not_open nothing_open u refl

  -- ---- what a step does
  -- an ask that sets no link
  abbrev pub SetsNone : Ask → Type 0
  SetsNone (rests o) = Unit {0}
  SetsNone (skips o) = Unit {0}
  SetsNone (opens k y) = Unit {0}
  SetsNone (edits n e) = NoLink e
  SetsNone (items x es) = Unit {0}
  SetsNone (clears ws) = Unit {0}

  -- a used slot is as it was, or has no link
  abbrev Moves : List ℕ → List ℕ → Type 0
  Moves t u = (i : ℕ) → i < slots_of d → is_used (head_at d u i) ≡ true → Same t u i ⊎ (◌≡◌ {A = ℕ} (head_at d u i).link 0)

  moves : {t u : List ℕ} → AllSame t u → Moves t u
  moves f i l w = inl (f i l w)

  record Stepped (t : List ℕ) (x : Step) : Type 0 where
    moved : Moves t x.store
    bare : OpenBare x.state x.store

  fresh_link : (u : List ℕ) (j : ℕ) (y : Key) → KeyFits y → slot_at d u j ≡ blank_slot d y → ◌≡◌ {A = ℕ} (head_at d u j).link 0
  unfolding head_at blank_head
  fresh_link u j y f e = ap (λ (v : List ℕ). (decode_head v).link) e ∙ ap (λ (v : Head). v.link) (blank_head_lem d y f)

  module _ (t : List ℕ) (r : Ready d t) where
    opened_stepped : (k : Kind) (y : Key) → ok_name d (name k y) ≡ true → (a : Found) → seat d t (name k y) ≡ a → Stepped t (opened_by d k y a t)
    unfolding opened_by
    opened_stepped k y o nowhere e = record { moved = moves (still t).same; bare = skips_bare t }
    opened_stepped k y o (at j) e =
        let n : Name = name k y in
        let u : List ℕ = started d t n in
        let c : u ≡ put_slot d t j (blank_slot d y) = started-at d t n j e in
        let z : slots_end d k ≤ slots_of d = kind_end d k in
        let h : j < slots_of d = (let q = (seat_inside d t n o j e).1 in omega arith) in
        let s : slot_at d u j ≡ blank_slot d y =
        ap (λ (v : List ℕ). slot_at d v j) c ∙ slot_same d t r.long j h (blank_slot d y) (blank_length d y) in
        let m : ◌≡◌ {A = ℕ} (head_at d u j).link 0 = fresh_link u j y (ok_fits d n r.range o) s in
        record {
          moved =
              λ i l w.
              by_eq j i
              (λ q. inr (subst (λ (v : ℕ). (head_at d u v).link ≡ 0) q m))
              (λ ne.
              inl
              (head_alike i
              (ap (λ (v : List ℕ). slot_at d v i) c ∙ slot_other d t r.long j h (blank_slot d y) (blank_length d y) i ne) w));
          bare =
              λ a b.
              let q : a ≡ k = cc in
              subst (λ (v : Kind). Bare (name v y) u) (sym q)
              (record { place = j; found = start_own d t r.long n r.range o j e; link = m });
        }

    deed_stepped : (s : State) → OpenBare s t → {n : ℕ} {a : Ask} → Deed d s n a → SetsNone a → Stepped t (acted d s t a)
    unfolding acted
    deed_stepped s b (resting o f) h = record { moved = moves (still t).same; bare = b }
    deed_stepped s b (skipping o f i) h = record { moved = moves (still t).same; bare = skips_bare t }
    deed_stepped s b (opening k y o) h = opened_stepped k y (o r.range) (seat d t (name k y)) refl
    deed_stepped s b (editing k o e c) h =
        let x = edit_still t r.long (name k s.key) e h (in_time_fits e c.1) in
        record { moved = moves x.same; bare = still_bare r x s b }
    deed_stepped s b (setting k o es f l) h =
        let x = memory_still (name k s.key) es t r.long in
        record { moved = moves x.same; bare = still_bare r x s b }
    deed_stepped s b (patching p w es f l) h =
        let x = page_still p w es f t r.long in
        record { moved = moves x.same; bare = still_bare r x s b }
    deed_stepped s b (clearing xs f) h =
        let x = wiped_same xs f t r.long in
        record { moved = moves x; bare = settled_bare r x s b }

  -- ---- what records ask for
  -- where nothing is open, no memory is changed
  pub deed_none : {n : ℕ} {a : Ask} → Deed d nothing_open n a → SetsNone a
  deed_none (resting o f) = tt
  deed_none (skipping o f i) = tt
  deed_none (opening k y o) = tt
  deed_none (editing k o e c) = absurd (let z : ◌≡◌ {A = ℕ} 0 1 = cc in omega arith)
  deed_none (setting k o es f l) = tt
  deed_none (patching p w es f l) = tt
  deed_none (clearing xs f) = tt

  fade_none : (f : ℕ → ℕ → Edit) → ((a c : ℕ) → NoLink (f a c)) → (n : Name) (v w : Word) (a c : Option ℕ)
      → SetsNone (change_ask n (on_time v a (λ fade. on_time w c (λ delay. Ok (f fade delay)))))
  unfolding on_time change_ask
  fade_none f h n v w None c = tt
  fade_none f h n v w (Some a) None = tt
  fade_none f h n v w (Some a) (Some c) = h a c

  follow_none : (n : Name) (w : Word) (a : Option ℕ) → SetsNone (change_ask n (on_time w a (λ t. Ok (SetFollowon t))))
  unfolding on_time change_ask
  follow_none n w None = tt
  follow_none n w (Some a) = tt

  obeyed_none : (k : Kind) (n : Name) (e : Secondary) → (has_link k && is_link e) ≡ false → augments k e ≡ true → (ws : List Word) → SetsNone (obeyed_ask d n e ws)
  unfolding obeyed_ask times_of fade_of augments is_link
  obeyed_none k n Chan h a ws = tt
  obeyed_none k n Up h a ws =
      fade_none (λ x y. SetUp x y) (λ x y. tt) n (head_of ws) (head_of (tail_of ws)) (time_of (head_of ws).chars) (delay_of (tail_of ws))
  obeyed_none k n Down h a ws =
      fade_none (λ x y. SetDown x y) (λ x y. tt) n (head_of ws) (head_of (tail_of ws)) (time_of (head_of ws).chars) (delay_of (tail_of ws))
  obeyed_none k n Followon h a ws = follow_none n (head_of ws) (time_of (head_of ws).chars)
  obeyed_none k n Link h a ws = clash (and_true (has_link k) true a refl) h

  pub secondary_none : (key : Key) (o : Open) (e : Secondary) → asks_link o e ≡ false → (w : Word) (ws : List Word) → SetsNone (secondary_ask d key o e w ws)
  unfolding secondary_ask links_in
  secondary_none key Nothing e h w ws = tt
  secondary_none key Skipping e h w ws = tt
  secondary_none key (Memory k) e h w ws =
      by_test SetsNone (augments k e) (obeyed_ask d (name k key) e ws) (rests (Dropped (blame w wrong_secondary)))
      (λ a. obeyed_none k (name k key) e h a ws)
      (λ a. tt)

  module _ (b : Numbers) (anew : b.anew ≡ true) (s : State) where
    primary_none : (k : Kind) (w : Word) (ws : List Word) → SetsNone (anew_primary_ask d b k w ws)
    primary_none k w ws = subst SetsNone (cond-true b.anew (anew_primary_ask d b k w ws) _ anew) (deed_none (primary_in_deed d b nothing_open 0 k w ws))

    family_none : (f : Family) (w : Word) (ws : List Word) → SetsNone (anew_family_ask d b s f w ws)
    unfolding anew_family_ask
    family_none (Primary k) w ws = primary_none k w ws
    family_none (Augments e) w ws =
        by_test SetsNone (asks_link s.«open» e) (rests Obeyed) (secondary_ask d s.key s.«open» e w ws)
        (λ h. tt)
        (λ h. secondary_none s.key s.«open» e h w ws)
    family_none (Basically x) w ws =
        by_test SetsNone (is_clear x) (item_ask d (item_of (head_of ws).chars) w []) (basic_ask d x w ws)
        (λ h. deed_none (item_deed d nothing_open 0 (item_of (head_of ws).chars) w []))
        (λ h. deed_none (basic_deed d nothing_open x w ws))

    fields_none : (fs : List Word) → SetsNone (fields_ask_in d b s fs)
    unfolding fields_ask_in family_ask_in
    fields_none [] = tt
    fields_none (w ∷ ws) =
        let f : Family = family_of (keyword_of w.chars) in
        subst SetsNone (sym (cond-true b.anew (anew_family_ask d b s f w ws) (family_ask d s f w ws) anew)) (family_none f w ws)

    ask_none : (r : List ℕ) → SetsNone (ask_in d b s r)
    unfolding ask_in
    ask_none r = by_test SetsNone (is_over_long r) _ (fields_ask_in d b s (fields_of r)) (λ e. tt) (λ e. fields_none (fields_of r))

    step_stepped : (r t : List ℕ) → Ready d t → OpenBare s t → Stepped t (step_in d b s r t)
    unfolding step_in
    step_stepped r t ready o = deed_stepped t ready s o (anew_record_deed d b s r) (ask_none r)

    pub step_bare : (r t : List ℕ) → Ready d t → OpenBare s t → OpenBare (step_in d b s r t).state (step_in d b s r t).store
    step_bare r t ready o = (step_stepped r t ready o).bare

  -- ---- a LINK that is heard of stands in an open memory, and leaves all as it is
  links_memory : (o : Open) → links_in o ≡ true → (k : Kind) × (o ≡ Memory k)
  unfolding links_in
  links_memory Nothing h = clash h refl
  links_memory Skipping h = clash h refl
  links_memory (Memory k) h = (k, refl)

  module _ (s : State) (t : List ℕ) where
    record Asks (x : Step) : Type 0 where
      kind : Kind
      is_open : s.«open» ≡ Memory kind
      step : x ≡ ended s Obeyed t

    pub not_obeyed : (key : Key) (o : Open) (e : Secondary) → is_link e ≡ true → links_in o ≡ false → (w : Word) (ws : List Word)
        → is_obeyed (acted d s t (secondary_ask d key o e w ws)).outcome ≡ false
    unfolding secondary_ask acted is_obeyed links_in augments is_link
    not_obeyed key Nothing e i h w ws = refl
    not_obeyed key Skipping e i h w ws = refl
    not_obeyed key (Memory k) Chan i h w ws = clash i refl
    not_obeyed key (Memory k) Up i h w ws = clash i refl
    not_obeyed key (Memory k) Down i h w ws = clash i refl
    not_obeyed key (Memory k) Followon i h w ws = clash i refl
    not_obeyed key (Memory k) Link i h w ws = ap (λ (a : Ask). is_obeyed (acted d s t a).outcome) (cond-false (has_link k) _ _ h)

    none_asked : {X : Type 0} (m : ℕ) → Other ≡ Asked m → X
    none_asked m e = let z : ◌≡◌ {A = ℕ} 0 1 = cc in absurd (omega arith)

    primary_asks : {X : Type 0} (k : Kind) (m : ℕ) (c : Bool) → cond c (Accepted k) (Refused k) ≡ Asked m → X
    primary_asks k m true e = let z : ◌≡◌ {A = ℕ} 0 1 = cc in absurd (omega arith)
    primary_asks k m false e = let z : ◌≡◌ {A = ℕ} 0 1 = cc in absurd (omega arith)

    module _ (b : Numbers) (anew : b.anew ≡ true) (m : ℕ) where
      secondary_asks : (e : Secondary) (w : Word) (ws : List Word) (c : Bool) → asks_link s.«open» e ≡ c
          → family_heard (Augments e) ws (acted d s t (cond c (rests Obeyed) (secondary_ask d s.key s.«open» e w ws))).outcome ≡ Asked m
          → Asks (acted d s t (cond c (rests Obeyed) (secondary_ask d s.key s.«open» e w ws)))
      unfolding family_heard acted
      secondary_asks e w ws true a h =
          let x = links_memory s.«open» (and_left (links_in s.«open») (is_link e) a) in
          record { kind = x.0; is_open = x.1; step = refl }
      secondary_asks e w ws false a h =
          let o = (acted d s t (secondary_ask d s.key s.«open» e w ws)).outcome in
          by_bool (is_obeyed o && is_link e)
          (λ c.
          let i : is_link e ≡ true = and_right (is_obeyed o) (is_link e) c in
          let n : links_in s.«open» ≡ false =
          by_bool (links_in s.«open») (λ l. clash (and_true (links_in s.«open») (is_link e) l i) a) (λ l. l) in
          clash (and_left (is_obeyed o) (is_link e) c) (not_obeyed s.key s.«open» e i n w ws))
          (λ c. none_asked m (sym (cond-false (is_obeyed o && is_link e) _ Other c) ∙ h))

      family_asks : (f : Family) (w : Word) (ws : List Word) → family_heard f ws (acted d s t (anew_family_ask d b s f w ws)).outcome ≡ Asked m
          → Asks (acted d s t (anew_family_ask d b s f w ws))
      unfolding anew_family_ask family_heard
      family_asks (Primary k) w ws h = primary_asks k m (is_obeyed (acted d s t (anew_primary_ask d b k w ws)).outcome) h
      family_asks (Augments e) w ws h = secondary_asks e w ws (asks_link s.«open» e) refl h
      family_asks (Basically x) w ws h = none_asked m h

      fields_asks : (fs : List Word) → fields_heard fs (acted d s t (fields_ask_in d b s fs)).outcome ≡ Asked m → Asks (acted d s t (fields_ask_in d b s fs))
      unfolding fields_heard fields_ask_in family_ask_in
      fields_asks [] h = none_asked m h
      fields_asks (w ∷ ws) h =
          let f : Family = family_of (keyword_of w.chars) in
          let q = cond-true b.anew (anew_family_ask d b s f w ws) (family_ask d s f w ws) anew in
          subst (λ (a : Ask). Asks (acted d s t a)) (sym q)
          (family_asks f w ws (sym (ap (λ (a : Ask). family_heard f ws (acted d s t a).outcome) q) ∙ h))

      record_asks : (r : List ℕ) → heard_in b r (step_in d b s r t).outcome ≡ Asked m → Asks (step_in d b s r t)
      unfolding step_in ask_in heard_in
      record_asks r h =
          by_bool (is_over_long r)
          (λ l. none_asked m (sym (heard_long b r (step_in d b s r t).outcome l) ∙ h))
          (λ l.
          let q : step_in d b s r t ≡ acted d s t (fields_ask_in d b s (fields_of r)) = ap (λ (a : Ask). acted d s t a) (cond-false (is_over_long r) _ _ l) in
          subst Asks (sym q)
          (fields_asks (fields_of r)
          (sym (ap (λ (x : Step). fields_heard (fields_of r) x.outcome) q)
          ∙ sym (cond-true b.anew _ Other anew ∙ cond-false (is_over_long r) Other _ l) ∙ h)))

  -- ---- a cue that asked has no link
  abbrev pub AskedBare : List ℕ → List ℕ → Type 0
  AskedBare asked t = (i : ℕ) → i < d.cues → (get_or asked i 0 ≡ 0 → ⊥) → is_used (head_at d t i) ≡ true → ◌≡◌ {A = ℕ} (head_at d t i).link 0

  moved_bare : {t u : List ℕ} (asked : List ℕ) → Moves t u → AskedBare asked t → AskedBare asked u
  moved_bare asked m a i l ne w = ⊎_elim (λ x. x.link ∙ a i l ne x.used) (λ z. z) (m i (cue_slot d i l).0 w)

  fresh_bare : (t asked : List ℕ) (j : ℕ) → AskedBare asked t → AskedBare (set asked j 0) t
  fresh_bare t asked j a i l ne w = a i l (λ z. ne (set_zero asked j i z)) w

  asked_bare : (t asked : List ℕ) (j v : ℕ) → ◌≡◌ {A = ℕ} (head_at d t j).link 0 → AskedBare asked t → AskedBare (set asked j v) t
  asked_bare t asked j v e a i l ne w =
      by_eq j i
      (λ q. subst (λ (z : ℕ). ◌≡◌ {A = ℕ} (head_at d t z).link 0) q e)
      (λ apart. a i l (λ z. ne (set_other asked j i v apart ∙ z)) w)

  note_bare : (b : Numbers) → b.anew ≡ true → (s : State) (r t asked : List ℕ) → Ready d t → OpenBare s t → AskedBare asked t
      → AskedBare (asked_at asked (slot_of d (step_in d b s r t).store (step_in d b s r t).state) (heard_in b r (step_in d b s r t).outcome)) (step_in d b s r t).store
  unfolding asked_at slot_by on_found
  note_bare b anew s r t asked ready o a = cases (heard_in b r (step_in d b s r t).outcome) refl
    where
      moved : AskedBare asked (step_in d b s r t).store
      moved = moved_bare asked (step_stepped b anew s r t ready o).moved a

      cases : (h : Heard) → heard_in b r (step_in d b s r t).outcome ≡ h
          → AskedBare (asked_at asked (slot_of d (step_in d b s r t).store (step_in d b s r t).state) h) (step_in d b s r t).store
      cases Other e = moved
      cases (Accepted Cue) e = fresh_bare (step_in d b s r t).store asked _ moved
      cases (Accepted Group) e = moved
      cases (Accepted Sub) e = moved
      cases (Refused k) e = moved
      cases (Asked m) e =
          let y = record_asks s t b anew m r e in
          let c = o y.kind y.is_open in
          let q : slot_of d t s ≡ c.place =
          ap (slot_by d t s.key) y.is_open ∙ ap (λ (f : Found). on_found f (λ i. i) 0) c.found in
          subst (λ (z : Step). AskedBare (set asked (slot_of d z.store z.state) (m + 1)) z.store) (sym y.step)
          (subst (λ (z : ℕ). AskedBare (set asked z (m + 1)) t) (sym q) (asked_bare t asked c.place (m + 1) c.link a))

  -- behind a record that stops the load none is noted
  rest_bare : (c : Bool) (n : ℕ) (r : List ℕ) (x : Step) (y : Run) (ns : List Note) (asked : List ℕ) → AskedBare asked x.store
      → AskedBare (asked_by asked ns) y.store → AskedBare (asked_by asked (cond c [] ns)) (cond c (only n r x) (and_then n r x y)).store
  unfolding asked_by
  rest_bare true n r x y ns asked f g = f
  rest_bare false n r x y ns asked f g = g

  run_bare : (n : ℕ) (b : Numbers) → b.anew ≡ true → (s : State) (t asked : List ℕ) (rs : List (List ℕ)) → Ready d t → OpenBare s t → AskedBare asked t
      → AskedBare (asked_by asked (notes_in d b s t rs)) (run_in d n b s t rs).store
  unfolding notes_in run_in asked_by
  run_bare n b anew s t asked [] ready o a = a
  run_bare n b anew s t asked (r ∷ rs) ready o a =
      let x = step_in d b s r t in
      let c = numbers_after_of b r x in
      let h : Heard = heard_in b r x.outcome in
      let more : List ℕ = asked_at asked (slot_of d x.store x.state) h in
      let now : AskedBare more x.store = note_bare b anew s r t asked ready o a in
      rest_bare (stops x.outcome) (n + 1) r x (run_in d (n + 1) c x.state x.store rs) (notes_in d c x.state x.store rs) more now
      (run_bare (n + 1) c (numbered-anew b h ∙ anew) x.state x.store more rs (step_in_ready d t ready b s r) (step_bare b anew s r t ready o) now)

  pub nothing_asked : (n i : ℕ) → get_or (replicate n (zero)) i 0 ≡ 0
  nothing_asked zero i = refl
  nothing_asked (suc n) zero = refl
  nothing_asked (suc n) (suc i) = nothing_asked n i

  pub read_bare : (t stream : List ℕ) → Ready d t → AskedBare (asked_of d t stream) (read_of d t stream).store
  read_bare t stream ready =
      run_bare 0 anew_from_one refl nothing_open t (replicate most_cues 0) (records_of stream) ready (not_open nothing_open t refl)
      (λ i l ne w. absurd (ne (nothing_asked most_cues i)))
