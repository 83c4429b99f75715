-- Each link is to the last accepted cue that bore the number asked for, and nothing else is touched. By induction on what the cues bore, and on
-- the cue slots: each is changed by itself.
-- Assumes nothing.
use mathlib.Core.Path.{◌≡◌, refl, sym, ap, ◌∙◌, subst}
use mathlib.Core.Bool.{Bool, true, false, cond, not, ◌&&◌}
use mathlib.Core.List.{List, [], ◌∷◌, ◌++◌}
use Prim.Native.Nat.{ℕ, zero, suc, ◌+◌, ◌-◌, ◌%◌, ◌≤◌, ◌<◌, zero-le, suc-le-suc}
use native.Mathlib.Nat.{mod-lt, zero-add, not-suc-le-zero, le_of_suc-le-suc}
use native.Mathlib.Omega.{arith}
use lib.Dec.{eqb, lit<}
use lib.ListN.{length, get_or, drop, replicate}
use borrow.Author.Tests.{eqb-true, eq-eqb, ne_eqb, lt-ltb}
use Rattle.cells.specs.Search.{count_from}
use Rattle.cells.proofs.Search.{count_same}
use Rattle.cells.proofs.Split.{by_test, by_bool, by_eq, cond-true, cond-false, cond_same, not_of_true, not_of_false, and_true, and_false_left, and_false_right}
use Rattle.store_desk.specs.declared.Desk.{Desk}
use Rattle.store_desk.specs.declared.Kind.TheVariants.{Cue, Group, Sub}
use Rattle.store_desk.specs.Size.{head_length, slot_length, store_length}
use Rattle.store_desk.specs.Name.{eq_kind, ok_number}
use Rattle.store_desk.proofs.Name.{number_low}
use Rattle.store_head.specs.Layout.{decode_head}
use Rattle.text_records.specs.Stream.{records_of}
use Rattle.value.specs.Number.{whole_max, no_number}
use Rattle.store.specs.declared.Edit.{Edit}
use Rattle.store.specs.declared.Edit.TheVariants.{Link as SetLink}
use Rattle.store.specs.Slots.{slot_at, entry_at, head_at, levels_at, is_used}
use Rattle.store.specs.View.{Memory}
use Rattle.store.specs.Change.{edit_head, edit_slot, edit_at}
use Rattle.store.specs.Memories.{memory_in, edit_levels, edit_memory}
use Rattle.store.specs.Good.{Ready}
use Rattle.store.proofs.Places.{slot_length_lem, slot_headed, slot_same, slot_other, slot_patch, put_length}
use Rattle.store.proofs.Edits.{edit_length, edit_memory_lem, in_time_fits}
use Rattle.load.specs.declared.Heard.{Heard}
use Rattle.load.specs.declared.Heard.TheVariants.{Other, Accepted, Refused, Link as Asked}
use Rattle.load.specs.declared.Numbers.{Numbers}
use Rattle.load.specs.declared.State.{State}
use Rattle.load.specs.Anew.{last_number, next_key, heard_in}
use Rattle.load.specs.Step.{Step, nothing_open}
use Rattle.load.specs.Run.{Run, stops, only, and_then}
use Rattle.load.specs.Translated.{Note, anew_from_one, step_in, numbers_after_of, run_in, note_of, notes_in, is_accepted_cue, borne_in, bornes, last_bearer, bearer_of, Linked, link_at, has_asked, links_from, linked, lost_link, translated_of}
use Rattle.load.proofs.Steps.{run_in_ready}
use Rattle.theorem_translated.specs.Numbered.{is_accepted}
use Rattle.theorem_translated.proofs.Numbers.{is_heard, record_heard, numbered-anew}
use Rattle.theorem_translated.proofs.Unlinked.{cue_slot, read_bare}
use Rattle.theorem_translated.specs.Links.{read_of, asked_of, bornes_of, borne_among, LastBearer, Unborne, LinkSaid, AllLinked}

-- ---- the last that bore a number
module _ (m : ℕ) where
  abbrev bears : ℕ → Bool
  bears b = eqb m b && not (eqb b no_number)

  not_bears : (b : ℕ) → (b ≡ m → m ≡ no_number) → bears b ≡ false
  not_bears b h =
      by_bool (eqb m b)
      (λ e.
      let q : m ≡ b = eqb-true m b e in
      let n : m ≡ no_number = h (sym q) in
      and_false_right (eqb m b) (not (eqb b no_number)) (not_of_true (eqb b no_number) (eq-eqb b no_number (sym q ∙ n))))
      (λ e. and_false_left (eqb m b) (not (eqb b no_number)) e)

  bears-true : (b : ℕ) → b ≡ m → (m ≡ no_number → ⊥) → bears b ≡ true
  bears-true b e n =
      and_true (eqb m b) (not (eqb b no_number)) (eq-eqb m b (sym e))
      (not_of_false (eqb b no_number) (ne_eqb b no_number (λ q. n (sym e ∙ q))))

  none_bears : (k last : ℕ) (bs : List ℕ) → Unborne bs m → last_bearer m k last bs ≡ last
  unfolding last_bearer
  none_bears k last [] h = refl
  none_bears k last (b ∷ bs) h =
      ap (λ (z : ℕ). last_bearer m (k + 1) z bs) (cond-false (bears b) k last (not_bears b (h 0 (suc-le-suc zero-le))))
      ∙ none_bears (k + 1) last bs (λ l g. h (suc l) (suc-le-suc g))

  last_bears : (k last : ℕ) (bs : List ℕ) (j : ℕ) → LastBearer bs m j → last_bearer m k last bs ≡ k + j
  unfolding last_bearer
  last_bears k last [] j h = absurd (not-suc-le-zero h.given)
  last_bears k last (b ∷ bs) zero h =
      let e : k ≡ k + 0 = omega arith in
      ap (λ (z : ℕ). last_bearer m (k + 1) z bs) (cond-true (bears b) k last (bears-true b h.bore h.number))
      ∙ none_bears (k + 1) k bs (λ l g q. absurd (h.later (suc l) (suc-le-suc zero-le) (suc-le-suc g) q)) ∙ e
  last_bears k last (b ∷ bs) (suc j) h =
      let e : k + 1 + j ≡ k + suc j = omega arith in
      last_bears (k + 1) (cond (bears b) k last) bs j
      (record {
        given = le_of_suc-le-suc h.given;
        bore = h.bore;
        number = h.number;
        later = λ l a g q. h.later (suc l) (suc-le-suc a) (suc-le-suc g) q;
      })
      ∙ e

  -- a bearer that was found is counted from 1, and stays found
  some_bearer : (k last : ℕ) (bs : List ℕ) → 0 < k → 0 < last → 0 < last_bearer m k last bs
  unfolding last_bearer
  some_bearer k last [] h g = g
  some_bearer k last (b ∷ bs) h g = some_bearer (k + 1) (cond (bears b) k last) bs (omega arith) (by_test (λ (z : ℕ). 0 < z) (bears b) k last (λ e. h) (λ e. g))

  no_bearer : (k last : ℕ) (bs : List ℕ) → 0 < k → last_bearer m k last bs ≡ 0 → Unborne bs m
  unfolding last_bearer
  no_bearer k last [] h e l g q = absurd (not-suc-le-zero g)
  no_bearer k last (b ∷ bs) h e zero g q =
      by_eq m no_number
      (λ n. n)
      (λ n.
      let f : last_bearer m (k + 1) k bs ≡ 0 = sym (ap (λ (z : ℕ). last_bearer m (k + 1) z bs) (cond-true (bears b) k last (bears-true b q n))) ∙ e in
      let i : 0 < last_bearer m (k + 1) k bs = some_bearer (k + 1) k bs (omega arith) h in
      absurd (omega arith))
  no_bearer k last (b ∷ bs) h e (suc l) g q = no_bearer (k + 1) (cond (bears b) k last) bs (omega arith) e l (le_of_suc-le-suc g) q

-- ---- what the accepted CUEs bore
pub cue_heard : (h : Heard) → is_accepted_cue h ≡ is_heard Cue h
unfolding is_accepted_cue is_heard eq_kind
cue_heard Other = refl
cue_heard (Accepted Cue) = refl
cue_heard (Accepted Group) = refl
cue_heard (Accepted Sub) = refl
cue_heard (Refused k) = refl
cue_heard (Asked m) = refl

none_borne : (rs : List (List ℕ)) → bornes rs [] ≡ borne_among rs []
unfolding bornes borne_among
none_borne [] = refl
none_borne (r ∷ rs) = refl

module _ (d : Desk) where
  -- behind a record that stops the load none is noted
  borne_on : (c : Bool) (n : ℕ) (r : List ℕ) (rs : List (List ℕ)) (x : Step) (y : Run) (m : Note) (ns : List Note)
      → is_accepted_cue m.heard ≡ is_accepted Cue r x.outcome → bornes rs ns ≡ borne_among rs y.outcomes
      → bornes (r ∷ rs) (m ∷ cond c [] ns) ≡ borne_among (r ∷ rs) (cond c (only n r x) (and_then n r x y)).outcomes
  unfolding bornes borne_among
  borne_on true n r rs x y m ns e ih = λ i. cond (e i) (borne_in r ∷ none_borne rs i) (none_borne rs i)
  borne_on false n r rs x y m ns e ih = λ i. cond (e i) (borne_in r ∷ ih i) (ih i)

  borne_by_lem : (n : ℕ) (b : Numbers) (s : State) (t : List ℕ) (rs : List (List ℕ)) → b.anew ≡ true
      → bornes rs (notes_in d b s t rs) ≡ borne_among rs (run_in d n b s t rs).outcomes
  unfolding notes_in run_in
  borne_by_lem n b s t [] e = unfold bornes borne_among in refl
  borne_by_lem n b s t (r ∷ rs) e =
      let x = step_in d b s r t in
      let h : Heard = heard_in b r x.outcome in
      let c = numbers_after_of b r x in
      borne_on (stops x.outcome) (n + 1) r rs x (run_in d (n + 1) c x.state x.store rs) (note_of d b r x) (notes_in d c x.state x.store rs)
      (cue_heard h ∙ record_heard Cue b e r x.outcome)
      (borne_by_lem (n + 1) c x.state x.store rs (numbered-anew b h ∙ e))

-- ---- a link

-- a cue's number is one that a link can have
pub link_number : (d : Desk) (n : ℕ) → ok_number (next_key d Cue n).whole 0 ≡ true
unfolding next_key last_number
link_number d n =
    let m : n % whole_max < whole_max = mod-lt n (lit< tt) in
    let w : ℕ = n % whole_max + 1 in
    sym (number_low w 0 (omega arith) (omega arith)) ∙ lt-ltb 0 (w + 0) (omega arith)

module _ (d : Desk) (asked bs : List ℕ) where
  abbrev pub bearer : ℕ → ℕ
  bearer i = bearer_of (get_or asked i 0) bs

  abbrev pub link_edit : ℕ → Edit
  link_edit i = SetLink (next_key d Cue (bearer i - 1)).whole 0

  abbrev pub turn : ℕ → Linked → Linked
  turn i x = cond (has_asked d asked x.store i) (link_at d i (bearer i) x) x

  -- ---- what every link keeps holds after them
  turn_keeps : (P : List ℕ → Type 0) (i : ℕ) (x : Linked) → P x.store
      → (has_asked d asked x.store i ≡ true → P (edit_at d x.store i (link_edit i))) → P (turn i x).store
  unfolding link_at
  turn_keeps P i x h g =
      by_test (λ (y : Linked). P y.store) (has_asked d asked x.store i) (link_at d i (bearer i) x) x
      (λ e. by_test (λ (y : Linked). P y.store) (eqb (bearer i) 0) _ _ (λ z. h) (λ z. g e))
      (λ e. h)

  pub links_keep : (P : List ℕ → Type 0) (n i : ℕ)
      → ((k : ℕ) → i ≤ k → k < i + n → (u : List ℕ) → P u → has_asked d asked u k ≡ true → P (edit_at d u k (link_edit k)))
      → (x : Linked) → P x.store → P (links_from d asked bs n i x).store
  unfolding links_from
  links_keep P zero i g x h = h
  links_keep P (suc n) i g x h =
      links_keep P n (suc i) (λ k a b. g k (omega arith) (omega arith)) (turn i x)
      (turn_keeps P i x h (λ e. g i (omega arith) (omega arith) x.store h e))

  -- ---- slot by slot
  module _ (u : List ℕ) (long : store_length d ≤ length u) (i : ℕ) (l : i < d.cues) where
    pub edit_size : length (edit_slot d (link_edit i) (slot_at d u i)) ≡ slot_length d
    edit_size =
        let c = (cue_slot d i l).0 in
        edit_length d (link_edit i) (slot_at d u i) (slot_headed d u long i c) ∙ slot_length_lem d u long i c

    edit_there : slot_at d (edit_at d u i (link_edit i)) i ≡ edit_slot d (link_edit i) (slot_at d u i)
    unfolding edit_at
    edit_there = slot_same d u long i (cue_slot d i l).0 _ edit_size

    edit_other : (j : ℕ) → (i ≡ j → ⊥) → slot_at d (edit_at d u i (link_edit i)) j ≡ slot_at d u j
    unfolding edit_at
    edit_other j ne = slot_other d u long i (cue_slot d i l).0 _ edit_size j ne

    edit_entry : (j : ℕ) → entry_at d (edit_at d u i (link_edit i)) j ≡ entry_at d u j
    unfolding edit_at
    edit_entry j = slot_patch d u long i (cue_slot d i l).0 _ edit_size j

    pub edit_long : length (edit_at d u i (link_edit i)) ≡ length u
    unfolding edit_at
    edit_long = put_length d u long i (cue_slot d i l).0 _ edit_size

  pub turn_long : (i : ℕ) → i < d.cues → (x : Linked) → store_length d ≤ length x.store → store_length d ≤ length (turn i x).store
  turn_long i l x h =
      turn_keeps (λ (u : List ℕ). store_length d ≤ length u) i x h (λ e. let q = edit_long x.store h i l in omega arith)

  turn_other : (i : ℕ) → i < d.cues → (x : Linked) → store_length d ≤ length x.store → (j : ℕ) → (i ≡ j → ⊥)
      → slot_at d (turn i x).store j ≡ slot_at d x.store j
  turn_other i l x h j ne = turn_keeps (λ (u : List ℕ). slot_at d u j ≡ slot_at d x.store j) i x refl (λ e. edit_other x.store h i l j ne)

  -- the bytes y of slot i, with its link
  abbrev pub asks_in : ℕ → List ℕ → Bool
  asks_in i y = not (eqb (get_or asked i 0) 0) && is_used (decode_head y)

  abbrev pub linked_slot : ℕ → List ℕ → List ℕ
  linked_slot i y = cond (asks_in i y) (cond (eqb (bearer i) 0) y (edit_slot d (link_edit i) y)) y

  either : (i : ℕ) (b : Bool) (v w : Linked) {y z : List ℕ} → slot_at d v.store i ≡ y → slot_at d w.store i ≡ z
      → slot_at d (cond b v w).store i ≡ cond b y z
  either i true v w e f = e
  either i false v w e f = f

  turn_there : (i : ℕ) → i < d.cues → (x : Linked) → store_length d ≤ length x.store → slot_at d (turn i x).store i ≡ linked_slot i (slot_at d x.store i)
  unfolding link_at has_asked head_at
  turn_there i l x h =
      either i (has_asked d asked x.store i) (link_at d i (bearer i) x) x
      (either i (eqb (bearer i) 0) (record { store = x.store; lost = x.lost + 1 })
      (record { store = edit_at d x.store i (link_edit i); lost = x.lost })
      refl
      (edit_there x.store h i l))
      refl

  -- a slot that no link is at stays
  links_other : (n i : ℕ) → i + n ≤ d.cues → (x : Linked) → store_length d ≤ length x.store → (j : ℕ)
      → ((k : ℕ) → i ≤ k → k < i + n → k ≡ j → ⊥) → slot_at d (links_from d asked bs n i x).store j ≡ slot_at d x.store j
  unfolding links_from
  links_other zero i c x h j o = refl
  links_other (suc n) i c x h j o =
      links_other n (suc i) (omega arith) (turn i x) (turn_long i (omega arith) x h) j (λ k a b. o k (omega arith) (omega arith))
      ∙ turn_other i (omega arith) x h j (o i (omega arith) (omega arith))

  links_there : (n i : ℕ) → i + n ≤ d.cues → (x : Linked) → store_length d ≤ length x.store → (j : ℕ) → i ≤ j → j < i + n
      → slot_at d (links_from d asked bs n i x).store j ≡ linked_slot j (slot_at d x.store j)
  unfolding links_from
  links_there zero i c x h j a b = absurd (omega arith)
  links_there (suc n) i c x h j a b =
      by_eq i j
      (λ q.
      links_other n (suc i) (omega arith) (turn i x) (turn_long i (omega arith) x h) j (λ k f g r. omega arith)
      ∙ subst (λ (z : ℕ). slot_at d (turn i x).store z ≡ linked_slot z (slot_at d x.store z)) q (turn_there i (omega arith) x h))
      (λ ne.
      links_there n (suc i) (omega arith) (turn i x) (turn_long i (omega arith) x h) j (omega arith) (omega arith)
      ∙ ap (linked_slot j) (turn_other i (omega arith) x h j ne))

  -- ---- the links that are lost
  abbrev loses_in : ℕ → List ℕ → Bool
  loses_in i y = asks_in i y && eqb (bearer i) 0

  lost_either : (a b : Bool) (n m : ℕ) (x y : Linked) → x.lost ≡ m + 1 → y.lost ≡ m → (z : Linked) → z.lost ≡ m
      → (cond a (cond b x y) z).lost + n ≡ m + cond (a && b) (suc n) n
  lost_either true true n m x y e f z g = omega arith
  lost_either true false n m x y e f z g = omega arith
  lost_either false b n m x y e f z g = omega arith

  links_lost : (n i : ℕ) → i + n ≤ d.cues → (x : Linked) → store_length d ≤ length x.store
      → (links_from d asked bs n i x).lost ≡ x.lost + count_from (λ j. loses_in j (slot_at d x.store j)) n i
  unfolding links_from count_from link_at has_asked head_at
  links_lost zero i c x h = omega arith
  links_lost (suc n) i c x h =
      let y = turn i x in
      let m : ℕ = count_from (λ j. loses_in j (slot_at d x.store j)) n (suc i) in
      let same : count_from (λ j. loses_in j (slot_at d y.store j)) n (suc i) ≡ m =
      count_same (λ j. loses_in j (slot_at d y.store j)) (λ j. loses_in j (slot_at d x.store j)) n (suc i)
      (λ j a b. ap (loses_in j) (turn_other i (omega arith) x h j (λ q. omega arith))) in
      links_lost n (suc i) (omega arith) y (turn_long i (omega arith) x h)
      ∙ ap (λ (z : ℕ). y.lost + z) same
      ∙ lost_either (asks_in i (slot_at d x.store i)) (eqb (bearer i) 0) m x.lost (record { store = x.store; lost = x.lost + 1 })
      (record { store = edit_at d x.store i (link_edit i); lost = x.lost })
      refl
      refl
      x
      refl

-- ---- of a load
module _ (d : Desk) (t stream : List ℕ) (ready : Ready d t) where
  abbrev read : List ℕ
  read = (read_of d t stream).store

  abbrev asked : List ℕ
  asked = asked_of d t stream

  abbrev bs : List ℕ
  bs = bornes_of d t stream

  abbrev start : Linked
  start = record { store = read; lost = 0 }

  long : store_length d ≤ length read
  long = (run_in_ready d 0 anew_from_one nothing_open t (records_of stream) ready).long

  pub slot_there : (i : ℕ) → i < d.cues → slot_at d (translated_of d t stream).store i ≡ linked_slot d asked bs i (slot_at d read i)
  unfolding translated_of linked
  slot_there i l = links_there d asked bs d.cues 0 (omega arith) start long i (omega arith) (omega arith)

  module _ (i : ℕ) (l : i < d.cues) where
    abbrev bytes : List ℕ
    bytes = slot_at d read i

    abbrev edit : Edit
    edit = link_edit d asked bs i

    link_memory : memory_in (edit_slot d edit bytes) ≡ edit_memory d edit (memory_in bytes)
    link_memory =
        edit_memory_lem d edit bytes (slot_headed d read long i (cue_slot d i l).0)
        (in_time_fits edit (link_number d (bearer_of (get_or asked i 0) bs - 1)))

    asks_not : asks_in d asked bs i bytes ≡ false → slot_at d (translated_of d t stream).store i ≡ bytes
    asks_not e = slot_there i l ∙ cond-false (asks_in d asked bs i bytes) _ bytes e

    bearer_of_lem : (m : ℕ) → get_or asked i 0 ≡ m + 1 → bearer_of (get_or asked i 0) bs ≡ last_bearer m 1 0 bs
    bearer_of_lem m e = let q : get_or asked i 0 - 1 ≡ m = omega arith in ap (λ (z : ℕ). last_bearer z 1 0 bs) q

    head_linked : (j : ℕ) → bearer_of (get_or asked i 0) bs ≡ 1 + j → asks_in d asked bs i bytes ≡ true
        → head_at d (translated_of d t stream).store i ≡ edit_head (SetLink (next_key d Cue j).whole 0) (head_at d read i)
    unfolding head_at memory_in edit_memory
    head_linked j e u =
        let z : eqb (bearer_of (get_or asked i 0) bs) 0 ≡ false = ne_eqb (bearer_of (get_or asked i 0) bs) 0 (λ q. omega arith) in
        let n : bearer_of (get_or asked i 0) bs - 1 ≡ j = omega arith in
        ap decode_head
        (slot_there i l ∙ cond-true (asks_in d asked bs i bytes) _ bytes u
        ∙ cond-false (eqb (bearer_of (get_or asked i 0) bs) 0) bytes (edit_slot d edit bytes) z)
        ∙ ap (λ (m : Memory). m.head) link_memory
        ∙ ap (λ (k : ℕ). edit_head (SetLink (next_key d Cue k).whole 0) (decode_head bytes)) n

    link_levels : levels_at d (translated_of d t stream).store i ≡ levels_at d read i
    unfolding levels_at memory_in edit_memory edit_levels
    link_levels =
        ap (drop head_length) (slot_there i l)
        ∙ by_test (λ (y : List ℕ). drop head_length y ≡ drop head_length bytes) (asks_in d asked bs i bytes) _ bytes
        (λ u.
        by_test (λ (y : List ℕ). drop head_length y ≡ drop head_length bytes) (eqb (bearer_of (get_or asked i 0) bs) 0) bytes (edit_slot d edit bytes) (λ z. refl)
        (λ z. ap (λ (m : Memory). m.levels) link_memory))
        (λ u. refl)

    link_said : LinkSaid d t stream i
    unfolding head_at
    link_said =
        record {
          unused = λ u. asks_not (and_false_right (not (eqb (get_or asked i 0) 0)) (is_used (decode_head bytes)) u);
          silent =
              λ e.
              asks_not (and_false_left (not (eqb (get_or asked i 0) 0)) (is_used (decode_head bytes)) (not_of_true (eqb (get_or asked i 0) 0) (eq-eqb (get_or asked i 0) 0 e)));
          lost =
              λ m e n.
              let z : eqb (bearer_of (get_or asked i 0) bs) 0 ≡ true = eq-eqb (bearer_of (get_or asked i 0) bs) 0 (bearer_of_lem m e ∙ none_bears m 1 0 bs n) in
              slot_there i l
              ∙ ap (λ (y : List ℕ). cond (asks_in d asked bs i bytes) y bytes)
              (cond-true (eqb (bearer_of (get_or asked i 0) bs) 0) bytes (edit_slot d edit bytes) z)
              ∙ cond_same (asks_in d asked bs i bytes) bytes;
          bare = λ m u e. read_bare d t stream ready i l (λ z. omega arith) u;
          linked =
              λ m j u e h.
              head_linked j (bearer_of_lem m e ∙ last_bears m 1 0 bs j h)
              (and_true (not (eqb (get_or asked i 0) 0)) (is_used (decode_head bytes))
              (not_of_false (eqb (get_or asked i 0) 0) (ne_eqb (get_or asked i 0) 0 (λ q. omega arith))) u);
          levels = link_levels;
        }

  pub translated_linked : AllLinked d t stream
  unfolding translated_of linked has_asked head_at
  translated_linked =
      record {
        borne = borne_by_lem d 0 anew_from_one nothing_open t (records_of stream) refl;
        lost =
            λ m.
            let e : m + 1 - 1 ≡ m = omega arith in
            let q : bearer_of (m + 1) bs ≡ last_bearer m 1 0 bs = ap (λ (z : ℕ). last_bearer z 1 0 bs) e in
            ((λ h. no_bearer m 1 0 bs (omega arith) (sym q ∙ h)), (λ h. q ∙ none_bears m 1 0 bs h));
        cues = link_said;
        others = λ i g. links_other d asked bs d.cues 0 (omega arith) start long i (λ k a b q. omega arith);
        patch =
            λ j.
            (links_keep d asked bs (λ (u : List ℕ). (store_length d ≤ length u) × (entry_at d u j ≡ entry_at d read j)) d.cues 0
            (λ k a b u h e.
            let q = edit_long d asked bs u h.0 k (omega arith) in
            let f : store_length d ≤ length u = h.0 in
            ((let m : store_length d ≤ length (edit_at d u k (link_edit d asked bs k)) = omega arith in m), edit_entry d asked bs u h.0 k (omega arith) j ∙ h.1))
            start
            (long, refl)
            ).1;
        reported =
            ap (λ (n : ℕ). (read_of d t stream).reports ++ replicate n (lost_link (length (read_of d t stream).outcomes)))
            (links_lost d asked bs d.cues 0 (omega arith) start long ∙ zero-add _);
      }
