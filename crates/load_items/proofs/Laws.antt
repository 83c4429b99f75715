-- The items of a record taken one by one: the item at a place is the first of those from there on, the first field at fault from the left is
-- the one that is blamed, and the faults go behind one another; by the laws of fields at a place, and by cases on the words that are left.
-- Assumes nothing.
use Rattle.std.specs.Prelude.{Err, None, Ok, Option, Result, Some}
use mathlib.Core.Path.{◌≡◌, refl, sym, ap, ◌∙◌, subst}
use mathlib.Core.Bool.{true}
use mathlib.Core.List.{List, [], ◌∷◌, ◌++◌, append-nil, append_assoc}
use Prim.Native.Nat.{ℕ, suc, ◌+◌, ◌-◌, ◌*◌, ◌<◌, ◌≤◌}
use native.Mathlib.Omega.{arith}
use lib.ListN.{length, drop, length-append, length-drop}
use borrow.Author.Tests.{lt-ltb, le-ltb, ltb-true}
use Rattle.cells.proofs.Split.{by_bool, by_test, cond-true, cond-false}
use Rattle.store_desk.specs.declared.Desk.{Desk}
use Rattle.store_desk.specs.Size.{is_within}
use Rattle.value.specs.Integer.{integer_of}
use Rattle.value_level.specs.Level.{level_of}
use Rattle.text_records.specs.Received.{longest}
use Rattle.text_fields.specs.Words.{Word, head_of, tail_of}
use Rattle.text_fields.specs.Places.{words_from, start_at, end_at, is_more, field_at, is_missing, word_at}
use Rattle.text_fields.specs.Tables.{Ended}
use Rattle.text_fields.proofs.Runs.{end_ended}
use Rattle.text_fields.proofs.Words.{words_some, words_none, words_head, words_tail, words_start, start_from, start_within, start_start, end_from_lem, end_within, end_forward, missing_some, missing_none, end_of_start, chars_of_start}
use Rattle.text_fields.proofs.Counts.{words_few}
use Rattle.load.specs.declared.Entry.{Entry}
use Rattle.load.specs.declared.Entry.TheVariants.{Level, Patch, Faulty}
use Rattle.load.specs.declared.Fault.{Fault}
use Rattle.load.specs.Condition.{bad_channel, bad_dimmer}
use Rattle.load.specs.Item.{blame, ranged_of, on_ranged, on_level, pair_of, triple_of, pairs_of, triples_of, faults_of}
use Rattle.load.specs.Fits.{EntryFits}
use Rattle.load.proofs.Entries.{pair_fits, triple_fits, pairs_few, triples_few}
use Rattle.load_items.specs.declared.Group.{Group}
use Rattle.load_items.specs.declared.Group.TheVariants.{Pair, Triple}
use Rattle.load_items.specs.declared.Aim.{Aim}
use Rattle.load_items.specs.declared.Item.{Item}
use Rattle.load_items.specs.declared.Lit.{Lit}
use Rattle.load_items.specs.declared.Read.{Read}
use Rattle.load_items.specs.Done.{entries_in, done_at, all_done_at, most_faults, faults_in, Noted, noted, noted_in}
use Rattle.load_items.specs.Take.{ItemsReady, taken_as, taken_of}
use Rattle.load_items.specs.Each.{PlaceFits, ranged_read, lit_by, ranged_at, lit_at, between_at, entry_of, item_at}
use Rattle.load_items.proofs.Faults.{faults_none, faults_length, faults_cons, faults_one, noted_more}
use Rattle.value_level.specs.declared.LevelError.{LevelError}
use Rattle.value_level.specs.declared.LevelError.TheVariants.{NotPercent, NotHex}

-- ---- a field that is read goes on, or is blamed; no condition is 0
module _ (w : Word) (f : ℕ → Entry) where
  ranged_good : (limit beyond : ℕ) (i : Option ℕ) (k : ℕ) → (beyond ≡ 0 → ⊥) → (ranged_read (ranged_of limit beyond i) k).condition ≡ 0
      → on_ranged w (ranged_of limit beyond i) f ≡ f (ranged_read (ranged_of limit beyond i) k).value
  unfolding ranged_of ranged_read on_ranged
  ranged_good limit beyond None k nz e = absurd (omega (arith, e))
  ranged_good limit beyond (Some n) k nz e =
      by_test (λ (r : Result ℕ ℕ). (ranged_read r k).condition ≡ 0 → on_ranged w r f ≡ f (ranged_read r k).value) (is_within 1 n limit) (Ok n) (Err beyond)
      (λ t h. refl)
      (λ t h. absurd (nz h))
      e

  ranged_bad : (limit beyond : ℕ) (i : Option ℕ) (k : ℕ) → ((ranged_read (ranged_of limit beyond i) k).condition ≡ 0 → ⊥)
      → on_ranged w (ranged_of limit beyond i) f ≡ Faulty (blame w (ranged_read (ranged_of limit beyond i) k).condition)
  unfolding ranged_of ranged_read on_ranged
  ranged_bad limit beyond None k ne = refl
  ranged_bad limit beyond (Some n) k ne =
      by_test
      (λ (r : Result ℕ ℕ). ((ranged_read r k).condition ≡ 0 → ⊥) → on_ranged w r f ≡ Faulty (blame w (ranged_read r k).condition))
      (is_within 1 n limit) (Ok n) (Err beyond)
      (λ t h. absurd (h refl))
      (λ t h. refl)
      ne

  level_good : (x : Result ℕ LevelError) (k : ℕ) → (lit_by x k).condition ≡ 0 → on_level w x f ≡ f (lit_by x k).level
  unfolding lit_by on_level
  level_good (Err NotPercent) k e = absurd (omega (arith, e))
  level_good (Err NotHex) k e = absurd (omega (arith, e))
  level_good (Ok v) k e = refl

  level_bad : (x : Result ℕ LevelError) (k : ℕ) → ((lit_by x k).condition ≡ 0 → ⊥) → on_level w x f ≡ Faulty (blame w (lit_by x k).condition)
  unfolding lit_by on_level
  level_bad (Err NotPercent) k ne = refl
  level_bad (Err NotHex) k ne = refl
  level_bad (Ok v) k ne = absurd (ne refl)

-- the first field from a place on, read where it starts
module _ (text : List ℕ) (p : ℕ) {s : ℕ} (q : s ≡ start_at text p) where
  module _ (limit beyond : ℕ) {r : Read} (e : r ≡ ranged_at limit beyond text s) where
    number_is : r ≡ ranged_read (ranged_of limit beyond (integer_of (word_at text p).chars)) (end_at text p)
    unfolding ranged_at
    number_is = e ∙ (λ i. ranged_read (ranged_of limit beyond (integer_of (chars_of_start text p q i))) (end_of_start text p q i))

    number_end : r.end ≡ end_at text p
    unfolding ranged_read
    number_end = ap (λ (x : Read). x.end) number_is ∙ ends (ranged_of limit beyond (integer_of (word_at text p).chars))
      where
        ends : (x : Result ℕ ℕ) → (ranged_read x (end_at text p)).end ≡ end_at text p
        ends (Ok n) = refl
        ends (Err c) = refl

    number_good : (f : ℕ → Entry) → (beyond ≡ 0 → ⊥) → r.condition ≡ 0
        → on_ranged (word_at text p) (ranged_of limit beyond (integer_of (word_at text p).chars)) f ≡ f r.value
    number_good f nz z =
        ranged_good (word_at text p) f limit beyond (integer_of (word_at text p).chars) (end_at text p) nz (ap (λ (x : Read). x.condition) (sym number_is) ∙ z)
        ∙ ap (λ (x : Read). f x.value) (sym number_is)

    number_bad : (f : ℕ → Entry) → (r.condition ≡ 0 → ⊥)
        → on_ranged (word_at text p) (ranged_of limit beyond (integer_of (word_at text p).chars)) f ≡ Faulty (blame (word_at text p) r.condition)
    number_bad f ne =
        ranged_bad (word_at text p) f limit beyond (integer_of (word_at text p).chars) (end_at text p)
        (λ z. ne (ap (λ (x : Read). x.condition) number_is ∙ z))
        ∙ ap (λ (x : Read). Faulty (blame (word_at text p) x.condition)) (sym number_is)

  module _ {l : Lit} (e : l ≡ lit_at text s) where
    level_is : l ≡ lit_by (level_of (word_at text p).chars) (end_at text p)
    unfolding lit_at
    level_is = e ∙ (λ i. lit_by (level_of (chars_of_start text p q i)) (end_of_start text p q i))

    level_end : l.end ≡ end_at text p
    unfolding lit_by
    level_end = ap (λ (x : Lit). x.end) level_is ∙ ends (level_of (word_at text p).chars)
      where
        ends : (x : Result ℕ LevelError) → (lit_by x (end_at text p)).end ≡ end_at text p
        ends (Err NotPercent) = refl
        ends (Err NotHex) = refl
        ends (Ok v) = refl

    lit_good : (f : ℕ → Entry) → l.condition ≡ 0 → on_level (word_at text p) (level_of (word_at text p).chars) f ≡ f l.level
    lit_good f z =
        level_good (word_at text p) f (level_of (word_at text p).chars) (end_at text p) (ap (λ (x : Lit). x.condition) (sym level_is) ∙ z)
        ∙ ap (λ (x : Lit). f x.level) (sym level_is)

    lit_bad : (f : ℕ → Entry) → (l.condition ≡ 0 → ⊥)
        → on_level (word_at text p) (level_of (word_at text p).chars) f ≡ Faulty (blame (word_at text p) l.condition)
    lit_bad f ne =
        level_bad (word_at text p) f (level_of (word_at text p).chars) (end_at text p) (λ z. ne (ap (λ (x : Lit). x.condition) level_is ∙ z))
        ∙ ap (λ (x : Lit). Faulty (blame (word_at text p) x.condition)) (sym level_is)

-- ---- an item from its fields
bad_channel_lem : bad_channel ≡ 0 → ⊥
bad_channel_lem e = omega (arith, e)

bad_dimmer_lem : bad_dimmer ≡ 0 → ⊥
bad_dimmer_lem e = omega (arith, e)

-- the fields that the code reads: each is the first from where the one before it ends
pub record Fields (d : Desk) (g : Group) (text : List ℕ) (at : ℕ) (c m : Read) (l : Lit) : Type 0 where
  pub starts : start_at text at ≡ at
  pub channel : c ≡ ranged_at d.channels bad_channel text at
  pub middle : m ≡ between_at d g text c.end
  pub level : l ≡ lit_at text (start_at text m.end)

module _ (text : List ℕ) where
  level_start_lem : {k p : ℕ} → k ≡ p → start_at text k ≡ start_at text p
  level_start_lem e = ap (λ (j : ℕ). start_at text j) e

  -- the blamed field is the first from a place on
  blamed_is : {f : Fault} (p q : ℕ) (n : ℕ) → f ≡ blame (head_of (words_from text p)) n → p ≡ q → Faulty f ≡ Faulty (blame (word_at text q) n)
  blamed_is p q n e r = ap Faulty (e ∙ ap (λ (k : ℕ). blame (head_of (words_from text k)) n) r ∙ ap (λ (w : Word). blame w n) (words_head text q))

module _ (d : Desk) (text : List ℕ) (at : ℕ) {c m : Read} {l : Lit} where
  second : {g : Group} → Fields d g text at c m l → c.end ≡ end_at text at
  second h = number_end text at (sym h.starts) d.channels bad_channel h.channel

  third_pair : Fields d Pair text at c m l → m.end ≡ end_at text at
  unfolding between_at
  third_pair h = ap (λ (x : Read). x.end) h.middle ∙ second h

  dimmer_start : Fields d Triple text at c m l → start_at text c.end ≡ start_at text (end_at text at)
  dimmer_start h = level_start_lem text (second h)

  dimmer_read : Fields d Triple text at c m l → m ≡ ranged_at d.dimmers bad_dimmer text (start_at text c.end)
  unfolding between_at
  dimmer_read h = h.middle

  third_triple : Fields d Triple text at c m l → m.end ≡ end_at text (end_at text at)
  third_triple h = number_end text (end_at text at) (dimmer_start h) d.dimmers bad_dimmer (dimmer_read h)

  item_end : (g : Group) → Fields d g text at c m l → l.end ≡ (item_at d g text at).end
  unfolding item_at
  item_end Pair h = level_end text (end_at text at) (level_start_lem text (third_pair h)) h.level
  item_end Triple h = level_end text (end_at text (end_at text at)) (level_start_lem text (third_triple h)) h.level

  item_of : (g : Group) → Fields d g text at c m l → {e : Entry} → e ≡ (item_at d g text at).entry
      → ◌≡◌ {A = Item} (record { entry = e; end = l.end }) (item_at d g text at)
  item_of g h a = let b = item_end g h in λ i. record { entry = a i; end = b i }

  channel_blamed : (g : Group) → Fields d g text at c m l → (c.condition ≡ 0 → ⊥)
      → Faulty (blame (word_at text at) c.condition) ≡ (item_at d g text at).entry
  unfolding item_at pair_of triple_of
  channel_blamed Pair h ne = sym (number_bad text at (sym h.starts) d.channels bad_channel h.channel _ ne)
  channel_blamed Triple h ne = sym (number_bad text at (sym h.starts) d.channels bad_channel h.channel _ ne)

  pub item_channel : (g : Group) {f : Fault} → Fields d g text at c m l → (c.condition ≡ 0 → ⊥) → f ≡ blame (head_of (words_from text at)) c.condition
      → ◌≡◌ {A = Item} (record { entry = Faulty f; end = l.end }) (item_at d g text at)
  item_channel g h ne e = item_of g h (blamed_is text at at c.condition e refl ∙ channel_blamed g h ne)

  middle_blamed : (g : Group) → Fields d g text at c m l → c.condition ≡ 0 → (m.condition ≡ 0 → ⊥)
      → Faulty (blame (word_at text (end_at text at)) m.condition) ≡ (item_at d g text at).entry
  unfolding item_at triple_of between_at
  middle_blamed Pair h z ne = absurd (ne (ap (λ (x : Read). x.condition) h.middle))
  middle_blamed Triple h z ne =
      sym
      (number_good text at (sym h.starts) d.channels bad_channel h.channel _ bad_channel_lem z
      ∙ number_bad text (end_at text at) (dimmer_start h) d.dimmers bad_dimmer (dimmer_read h) _ ne)

  pub item_middle : (g : Group) {f : Fault} → Fields d g text at c m l → c.condition ≡ 0 → (m.condition ≡ 0 → ⊥)
      → f ≡ blame (head_of (words_from text c.end)) m.condition
      → ◌≡◌ {A = Item} (record { entry = Faulty f; end = l.end }) (item_at d g text at)
  item_middle g h z ne e = item_of g h (blamed_is text c.end (end_at text at) m.condition e (second h) ∙ middle_blamed g h z ne)

  level_blamed : (g : Group) {f : Fault} → Fields d g text at c m l → c.condition ≡ 0 → m.condition ≡ 0 → (l.condition ≡ 0 → ⊥)
      → f ≡ blame (head_of (words_from text m.end)) l.condition → Faulty f ≡ (item_at d g text at).entry
  unfolding item_at pair_of triple_of
  level_blamed Pair h z y ne e =
      blamed_is text m.end (end_at text at) l.condition e (third_pair h)
      ∙ sym
      (number_good text at (sym h.starts) d.channels bad_channel h.channel _ bad_channel_lem z
      ∙ lit_bad text (end_at text at) (level_start_lem text (third_pair h)) h.level _ ne)
  level_blamed Triple h z y ne e =
      blamed_is text m.end (end_at text (end_at text at)) l.condition e (third_triple h)
      ∙ sym
      (number_good text at (sym h.starts) d.channels bad_channel h.channel _ bad_channel_lem z
      ∙ number_good text (end_at text at) (dimmer_start h) d.dimmers bad_dimmer (dimmer_read h) _ bad_dimmer_lem y
      ∙ lit_bad text (end_at text (end_at text at)) (level_start_lem text (third_triple h)) h.level _ ne)

  pub item_level : (g : Group) {f : Fault} → Fields d g text at c m l → c.condition ≡ 0 → m.condition ≡ 0 → (l.condition ≡ 0 → ⊥)
      → f ≡ blame (head_of (words_from text m.end)) l.condition
      → ◌≡◌ {A = Item} (record { entry = Faulty f; end = l.end }) (item_at d g text at)
  item_level g h z y ne e = item_of g h (level_blamed g h z y ne e)

  obeyed_is : (g : Group) → Fields d g text at c m l → c.condition ≡ 0 → m.condition ≡ 0 → l.condition ≡ 0
      → entry_of g c.value m.value l.level ≡ (item_at d g text at).entry
  unfolding item_at pair_of triple_of entry_of
  obeyed_is Pair h z y x =
      sym
      (number_good text at (sym h.starts) d.channels bad_channel h.channel _ bad_channel_lem z
      ∙ lit_good text (end_at text at) (level_start_lem text (third_pair h)) h.level _ x)
  obeyed_is Triple h z y x =
      sym
      (number_good text at (sym h.starts) d.channels bad_channel h.channel _ bad_channel_lem z
      ∙ number_good text (end_at text at) (dimmer_start h) d.dimmers bad_dimmer (dimmer_read h) _ bad_dimmer_lem y
      ∙ lit_good text (end_at text (end_at text at)) (level_start_lem text (third_triple h)) h.level _ x)

  pub item_obeyed : (g : Group) {e : Entry} → Fields d g text at c m l → c.condition ≡ 0 → m.condition ≡ 0 → l.condition ≡ 0
      → e ≡ entry_of g c.value m.value l.level
      → ◌≡◌ {A = Item} (record { entry = e; end = l.end }) (item_at d g text at)
  item_obeyed g h z y x q = item_of g h (q ∙ obeyed_is g h z y x)

-- as the code reads them
pub fields_read : (d : Desk) (g : Group) (text : List ℕ) (at : ℕ) {c m : Read} {l : Lit} {s : ℕ} → start_at text at ≡ at
    → c ≡ ranged_at d.channels bad_channel text at → m ≡ between_at d g text c.end → s ≡ start_at text m.end → l ≡ lit_at text s
    → Fields d g text at c m l
fields_read d g text at e c m s l =
    record { starts = e; channel = c; middle = m; level = l ∙ ap (λ (k : ℕ). lit_at text k) s }

-- all of them lie within the text, and each ends
pub start_fits : (text : List ℕ) (place : ℕ) {s : ℕ} → s ≡ start_at text place → place ≤ length text → s ≤ length text
start_fits text place e h = subst (λ (k : ℕ). k ≤ length text) (sym e) (start_within text place h)

module _ (limit beyond : ℕ) (text : List ℕ) (at : ℕ) (s : start_at text at ≡ at) (h : at ≤ length text) {c : Read}
    (e : c ≡ ranged_at limit beyond text at) where
  pub second_ended : Ended text c.end
  second_ended = subst (λ (k : ℕ). Ended text k) (sym (number_end text at (sym s) limit beyond e)) (end_ended text at h)

  pub third_ended : (d : Desk) (g : Group) {m : Read} → m ≡ between_at d g text c.end → Ended text m.end
  unfolding between_at
  third_ended d g {m} f = subst (λ (x : Read). Ended text x.end) (sym f) (middle_ended g c.end second_ended)
    where
      middle_ended : (g : Group) (p : ℕ) → Ended text p → Ended text (between_at d g text p).end
      middle_ended Pair p w = w
      middle_ended Triple p w =
          subst (λ (k : ℕ). Ended text k) (sym (number_end text p refl d.dimmers bad_dimmer refl)) (end_ended text p w.within)

-- ---- items that are obeyed are in range, and faults fit a word
abbrev Placed : Entry → Type 0
Placed (Level n v) = Unit {0}
Placed (Patch n k v) = Unit {0}
Placed (Faulty f) = f.place ≤ longest

module _ (w : Word) (h : w.place ≤ longest) where
  ranged_placed : (r : Result ℕ ℕ) (f : ℕ → Entry) → ((n : ℕ) → Placed (f n)) → Placed (on_ranged w r f)
  unfolding on_ranged
  ranged_placed (Ok n) f g = g n
  ranged_placed (Err c) f g = h

  level_placed : (x : Result ℕ LevelError) (f : ℕ → Entry) → ((n : ℕ) → Placed (f n)) → Placed (on_level w x f)
  unfolding on_level
  level_placed (Err NotPercent) f g = h
  level_placed (Err NotHex) f g = h
  level_placed (Ok v) f g = g v

fits_place : (d : Desk) (e : Entry) → EntryFits d e → Placed e → PlaceFits e
fits_place d (Level n v) h p = tt
fits_place d (Patch n k v) h p = tt
fits_place d (Faulty f) h p = (p, h)

module _ (text : List ℕ) (s : length text ≤ longest) where
  word_placed : (place : ℕ) → (word_at text place).place ≤ longest
  word_placed place =
      by_bool (is_more text place)
      (λ e.
      let h : start_at text place < length text = ltb-true (start_at text place) (length text) e in
      let p : (word_at text place).place ≡ start_at text place + 1 = cond-false (is_missing (field_at text place)) 0 (start_at text place + 1) (missing_some text place e) in
      omega arith)
      (λ e.
      let p : (word_at text place).place ≡ 0 = cond-true (is_missing (field_at text place)) 0 (start_at text place + 1) (missing_none text place e) in
      omega arith)

  item_placed : (d : Desk) (g : Group) (place : ℕ) → Placed (item_at d g text place).entry
  unfolding item_at pair_of triple_of
  item_placed d Pair place =
      ranged_placed (word_at text place) (word_placed place) _ _
      (λ n. level_placed (word_at text (end_at text place)) (word_placed (end_at text place)) _ _ (λ v. tt))
  item_placed d Triple place =
      ranged_placed (word_at text place) (word_placed place) _ _
      (λ n.
      ranged_placed (word_at text (end_at text place)) (word_placed (end_at text place)) _ _
      (λ k. level_placed (word_at text (end_at text (end_at text place))) (word_placed (end_at text (end_at text place))) _ _ (λ v. tt)))

module _ (d : Desk) where
  at_fits : (g : Group) (text : List ℕ) (place : ℕ) → EntryFits d (item_at d g text place).entry
  unfolding item_at
  at_fits Pair text place = pair_fits d (word_at text place) (word_at text (end_at text place))
  at_fits Triple text place =
      triple_fits d (word_at text place) (word_at text (end_at text place)) (word_at text (end_at text (end_at text place)))

  module _ (g : Group) (text : List ℕ) (place : ℕ) {x : Item} (e : x ≡ item_at d g text place) where
    pub item_fits : EntryFits d x.entry
    item_fits = subst (λ (y : Item). EntryFits d y.entry) (sym e) (at_fits g text place)

    pub item_noted : length text ≤ longest → PlaceFits x.entry
    item_noted s =
        subst (λ (y : Item). PlaceFits y.entry) (sym e)
        (fits_place d (item_at d g text place).entry (at_fits g text place) (item_placed text s d g place))

-- ---- an item goes forward, and stays within
item_from : (text : List ℕ) (place : ℕ) → place ≤ end_at text place
item_from text place =
    let a : place ≤ start_at text place = start_from text place in
    let b : start_at text place ≤ end_at text place = end_from_lem text place in
    omega arith

at_ended : (d : Desk) (g : Group) (text : List ℕ) (place : ℕ) → place ≤ length text → Ended text (item_at d g text place).end
unfolding item_at
at_ended d Pair text place h = end_ended text (end_at text place) (end_within text place h)
at_ended d Triple text place h = end_ended text (end_at text (end_at text place)) (end_within text (end_at text place) (end_within text place h))

at_forward : (d : Desk) (g : Group) (text : List ℕ) (place : ℕ) → is_more text place ≡ true → place < (item_at d g text place).end
unfolding item_at
at_forward d Pair text place e =
    let a : place < end_at text place = end_forward text place e in
    let b : end_at text place ≤ end_at text (end_at text place) = item_from text (end_at text place) in
    omega arith
at_forward d Triple text place e =
    let a : place < end_at text place = end_forward text place e in
    let b : end_at text place ≤ end_at text (end_at text place) = item_from text (end_at text place) in
    let c : end_at text (end_at text place) ≤ end_at text (end_at text (end_at text place)) = item_from text (end_at text (end_at text place)) in
    omega arith

-- a field starts before the text ends
more_at : (text : List ℕ) (place : ℕ) → start_at text place ≡ place → place < length text → is_more text place ≡ true
more_at text place s h = lt-ltb (start_at text place) (length text) (subst (λ (k : ℕ). k < length text) (sym s) h)

module _ (d : Desk) (g : Group) (text : List ℕ) (place : ℕ) {x : Item} (e : x ≡ item_at d g text place) where
  pub item_ended : place ≤ length text → Ended text x.end
  item_ended h = subst (λ (y : Item). Ended text y.end) (sym e) (at_ended d g text place h)

  pub item_forward : start_at text place ≡ place → place < length text → place < x.end
  item_forward s h = subst (λ (y : Item). place < y.end) (sym e) (at_forward d g text place (more_at text place s h))

-- the next field starts further on
pub next_less : (text : List ℕ) (place : ℕ) {k p : ℕ} → k ≡ start_at text p → place < p → place < length text → length text - k < length text - place
next_less text place {k} {p} q h l =
    let b : p ≤ start_at text p = start_from text p in
    omega arith

-- ---- it is the first of the items from there on
pairs_step : (d : Desk) (w : Word) (ws : List Word) → pairs_of d (w ∷ ws) ≡ pair_of d w (head_of ws) ∷ pairs_of d (tail_of ws)
unfolding pairs_of
pairs_step d w [] = refl
pairs_step d w (l ∷ ws) = refl

triples_step : (d : Desk) (w : Word) (ws : List Word)
    → triples_of d (w ∷ ws) ≡ triple_of d w (head_of ws) (head_of (tail_of ws)) ∷ triples_of d (tail_of (tail_of ws))
unfolding triples_of
triples_step d w [] = refl
triples_step d w (m ∷ []) = refl
triples_step d w (m ∷ (l ∷ ws)) = refl

-- the items from a place on
abbrev pub entries_from : Desk → Group → List ℕ → ℕ → List Entry
entries_from d g text place = entries_in g d (words_from text place)

entries_more : (d : Desk) (g : Group) (text : List ℕ) (place : ℕ) → is_more text place ≡ true
    → entries_from d g text place ≡ (item_at d g text place).entry ∷ entries_from d g text (item_at d g text place).end
unfolding entries_in item_at
entries_more d Pair text place e =
    let m : ℕ = end_at text place in
    ap (pairs_of d) (words_some text place e)
    ∙ pairs_step d (word_at text place) (words_from text m)
    ∙ (λ i. pair_of d (word_at text place) (words_head text m i) ∷ pairs_of d (words_tail text m i))
entries_more d Triple text place e =
    let m : ℕ = end_at text place in
    let k : ℕ = end_at text m in
    let t : tail_of (words_from text m) ≡ words_from text k = words_tail text m in
    let h : head_of (tail_of (words_from text m)) ≡ word_at text k = ap head_of t ∙ words_head text k in
    let r : tail_of (tail_of (words_from text m)) ≡ words_from text (end_at text k) = ap tail_of t ∙ words_tail text k in
    ap (triples_of d) (words_some text place e)
    ∙ triples_step d (word_at text place) (words_from text m)
    ∙ (λ i. triple_of d (word_at text place) (words_head text m i) (h i) ∷ triples_of d (r i))

none_in : (d : Desk) (g : Group) → entries_in g d [] ≡ []
unfolding entries_in pairs_of triples_of
none_in d Pair = refl
none_in d Triple = refl

entries_none : (d : Desk) (g : Group) (text : List ℕ) (place : ℕ) → length text ≤ place → entries_from d g text place ≡ []
entries_none d g text place h =
    let s : place ≤ start_at text place = start_from text place in
    let m : length text ≤ start_at text place = omega arith in
    ap (entries_in g d) (words_none text place (le-ltb (start_at text place) (length text) m)) ∙ none_in d g

entries_start : (d : Desk) (g : Group) (text : List ℕ) (place : ℕ) {k : ℕ} → k ≡ start_at text place → entries_from d g text k ≡ entries_from d g text place
entries_start d g text place e = ap (entries_in g d) (ap (λ (j : ℕ). words_from text j) e ∙ words_start text place)

-- ---- there are no more than forty items: two fields make one, and there are no more fields than characters
items_few : (d : Desk) (g : Group) (ws : List Word) → 2 * length (entries_in g d ws) ≤ length ws + 1
unfolding entries_in
items_few d Pair ws = pairs_few d ws
items_few d Triple ws = triples_few d ws

entries_few : (d : Desk) (g : Group) (text : List ℕ) (place : ℕ) → length text ≤ longest → length (entries_from d g text place) ≤ most_faults
entries_few d g text place h =
    let a : 2 * length (entries_from d g text place) ≤ length (words_from text place) + 1 = items_few d g (words_from text place) in
    let b : length (words_from text place) ≤ length (drop place text) = words_few place (drop place text) in
    let c : length (drop place text) ≡ length text - place = length-drop place text in
    omega arith

-- ---- the loop: the faults so far with those from here on are those from the start on, and what is done likewise
pub record Going (d : Desk) (g : Group) (text : List ℕ) (place : ℕ) (aim : Aim) (s₀ fs₀ : List ℕ) (i : ℕ) (s : List ℕ) (n : ℕ) (fs : List ℕ)
    : Type 0 where
  pub within : i ≤ length text
  pub starts : start_at text i ≡ i
  pub long : length s ≡ length s₀
  pub xs : List Fault
  pub count : n ≡ length xs
  pub held : fs ≡ faults_in fs₀ xs
  pub room : length xs + length (entries_from d g text i) ≤ most_faults
  pub told : xs ++ faults_of (entries_from d g text i) ≡ faults_of (entries_from d g text place)
  pub same : all_done_at d aim s (entries_from d g text i) ≡ all_done_at d aim s₀ (entries_from d g text place)

module _ (d : Desk) (g : Group) (text : List ℕ) (place : ℕ) (aim : Aim) (s₀ fs₀ : List ℕ) (lent : most_faults ≤ length fs₀) where
  pub loop_start : place ≤ length text → length text ≤ longest → start_at text place ≡ place → Going d g text place aim s₀ fs₀ place s₀ 0 fs₀
  loop_start w h s =
      let n : length (entries_from d g text place) ≤ most_faults = entries_few d g text place h in
      record {
        within = w;
        starts = s;
        long = refl;
        xs = [];
        count = refl;
        held = sym (faults_none fs₀);
        room = omega arith;
        told = refl;
        same = refl;
      }

  module _ {i : ℕ} {s : List ℕ} {n : ℕ} {fs : List ℕ} (now : Going d g text place aim s₀ fs₀ i s n fs) where
    pub loop_lent : length fs ≡ length fs₀
    loop_lent =
        let r : length now.xs + length (entries_from d g text i) ≤ most_faults = now.room in
        ap length now.held ∙ faults_length fs₀ now.xs (omega arith)

    pub loop_end : length text ≤ i → taken_as n s fs ≡ taken_of d aim s₀ fs₀ (entries_from d g text place)
    unfolding taken_of all_done_at faults_of
    loop_end h =
        let e : entries_from d g text i ≡ [] = entries_none d g text i h in
        let x : now.xs ≡ faults_of (entries_from d g text place) =
        sym (append-nil now.xs) ∙ ap (λ (es : List Entry). now.xs ++ faults_of es) (sym e) ∙ now.told in
        let t : s ≡ all_done_at d aim s₀ (entries_from d g text place) = ap (λ (es : List Entry). all_done_at d aim s es) (sym e) ∙ now.same in
        let k : n ≡ length (faults_of (entries_from d g text place)) = now.count ∙ ap length x in
        let f : fs ≡ faults_in fs₀ (faults_of (entries_from d g text place)) = now.held ∙ ap (faults_in fs₀) x in
        λ j. taken_as (k j) (t j) (f j)

    module _ (m : i < length text) where
      here : entries_from d g text i ≡ (item_at d g text i).entry ∷ entries_from d g text (item_at d g text i).end
      here = entries_more d g text i (more_at text i now.starts m)

      few : n < most_faults
      few =
          let r : length now.xs + length (entries_from d g text i) ≤ most_faults = now.room in
          let l : length (entries_from d g text i) ≡ suc (length (entries_from d g text (item_at d g text i).end)) = ap length here in
          let c : n ≡ length now.xs = now.count in
          omega arith

      pub loop_room : n < length fs
      loop_room =
          let l : length fs ≡ length fs₀ = loop_lent in
          let f : n < most_faults = few in
          omega arith

      pub loop_turn : {x : Item} {t : List ℕ} {k : ℕ} {hs : List ℕ} {j : ℕ} → x ≡ item_at d g text i → t ≡ done_at d aim s x.entry → length t ≡ length s
          → noted k hs ≡ noted_in n fs x.entry → j ≡ start_at text x.end → Going d g text place aim s₀ fs₀ j t k hs
      unfolding all_done_at
      loop_turn {x} {t} {k} {hs} {j} e b l a q =
          let es : List Entry = entries_from d g text j in
          let ys : List Fault = now.xs ++ faults_of (x.entry ∷ []) in
          let step : entries_from d g text i ≡ x.entry ∷ es =
          subst (λ (y : Item). entries_from d g text i ≡ y.entry ∷ entries_from d g text y.end) (sym e) here
          ∙ ap (λ (zs : List Entry). x.entry ∷ zs) (sym (entries_start d g text x.end q)) in
          let f : n < most_faults = few in
          let all : noted k hs ≡ noted (length ys) (faults_in fs₀ ys) = a ∙ noted_more fs₀ now.xs now.count now.held (omega arith) x.entry in
          let c : length (entries_from d g text i) ≡ suc (length es) = ap length step in
          let u : length ys ≡ length now.xs + length (faults_of (x.entry ∷ [])) = length-append now.xs (faults_of (x.entry ∷ [])) in
          let o : length (faults_of (x.entry ∷ [])) ≤ 1 = faults_one x.entry in
          let r : length now.xs + length (entries_from d g text i) ≤ most_faults = now.room in
          let w : x.end ≤ length text = (item_ended d g text i e now.within).within in
          record {
            within = subst (λ (p : ℕ). p ≤ length text) (sym q) (start_within text x.end w);
            starts = ap (λ (p : ℕ). start_at text p) q ∙ start_start text x.end ∙ sym q;
            long = l ∙ now.long;
            xs = ys;
            count = ap (λ (y : Noted). y.count) all;
            held = ap (λ (y : Noted). y.faults) all;
            room = omega arith;
            told =
                append_assoc now.xs (faults_of (x.entry ∷ [])) (faults_of es)
                ∙ ap (λ (zs : List Fault). now.xs ++ zs) (sym (faults_cons x.entry es))
                ∙ ap (λ (zs : List Entry). now.xs ++ faults_of zs) (sym step)
                ∙ now.told;
            same =
                ap (λ (z : List ℕ). all_done_at d aim z es) b
                ∙ ap (λ (zs : List Entry). all_done_at d aim s zs) (sym step)
                ∙ now.same;
          }

-- ---- from a place on: the items from where the first field starts
pub starts_start : (text : List ℕ) (at : ℕ) {i : ℕ} → i ≡ start_at text at → start_at text i ≡ i
starts_start text at e = ap (λ (k : ℕ). start_at text k) e ∙ start_start text at ∙ sym e

module _ (d : Desk) (text : List ℕ) (at : ℕ) (aim : Aim) (s fs : List ℕ) {i : ℕ} (e : i ≡ start_at text at) where
  -- where no field starts there is no item
  none_taken : (g : Group) → i ≡ length text → taken_as 0 s fs ≡ taken_of d aim s fs (entries_from d g text at)
  unfolding taken_of all_done_at faults_of
  none_taken g h =
      let n : [] ≡ entries_from d g text at = sym (entries_none d g text i (omega arith)) ∙ entries_start d g text at e in
      (λ j. taken_as 0 s (sym (faults_none fs) j)) ∙ ap (λ (es : List Entry). taken_of d aim s fs es) n

  pub pairs_none : i ≡ length text → taken_as 0 s fs ≡ taken_of d aim s fs (pairs_of d (words_from text at))
  unfolding entries_in
  pairs_none h = none_taken Pair h

  pub triples_none : i ≡ length text → taken_as 0 s fs ≡ taken_of d aim s fs (triples_of d (words_from text at))
  unfolding entries_in
  triples_none h = none_taken Triple h

  pub pairs_taken : {n : ℕ} {t gs : List ℕ} → taken_as n t gs ≡ taken_of d aim s fs (entries_in Pair d (words_from text i))
      → taken_as n t gs ≡ taken_of d aim s fs (pairs_of d (words_from text at))
  unfolding entries_in
  pairs_taken q = q ∙ ap (λ (es : List Entry). taken_of d aim s fs es) (entries_start d Pair text at e)

  pub triples_taken : {n : ℕ} {t gs : List ℕ} → taken_as n t gs ≡ taken_of d aim s fs (entries_in Triple d (words_from text i))
      → taken_as n t gs ≡ taken_of d aim s fs (triples_of d (words_from text at))
  unfolding entries_in
  triples_taken q = q ∙ ap (λ (es : List Entry). taken_of d aim s fs es) (entries_start d Triple text at e)

  -- what is ready at a place is ready where the next field starts
  pub ready_start : ItemsReady d text at s aim fs → ItemsReady d text i s aim fs
  ready_start r =
      record {
        fitting = r.fitting;
        within = subst (λ (k : ℕ). k ≤ length text) (sym e) (start_within text at r.within);
        short = r.short;
        aimed = r.aimed;
        room = r.room;
      }
