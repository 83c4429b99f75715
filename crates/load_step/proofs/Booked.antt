-- What a load with translation notes of a record, as the step tells it: a primary by its outcome, a LINK of an open cue by what it asks for, and of
-- every other record nothing. By cases on what is open and on what is heard.
-- Assumes nothing.
use mathlib.Core.Path.{◌≡◌, refl, sym, ap, ◌∙◌, subst}
use mathlib.Core.Bool.{Bool, true, false, ◌&&◌}
use mathlib.Core.List.{List, []}
use Prim.Native.Nat.{ℕ, ◌+◌, ◌≤◌, ◌<◌}
use native.Mathlib.Omega.{arith}
use lib.ListN.{length}
use borrow.Author.Tests.{lt-ltb, le-ltb}
use Rattle.cells.proofs.Split.{by_test, clash, cond-true, cond-false, cond_same, and_true, and_left, and_right, and_then, and_false_left, and_false_right}
use Rattle.store_desk.specs.declared.Desk.{Desk}
use Rattle.store_desk.specs.declared.Key.{Key}
use Rattle.store_desk.specs.declared.Kind.{Kind}
use Rattle.text_fields.specs.declared.Keyword.{Keyword}
use Rattle.text_fields.specs.declared.Said.{Said}
use Rattle.text_fields.specs.Words.{Word, words_of, head_of}
use Rattle.text_fields.specs.Places.{words_from, start_at, end_at, is_more}
use Rattle.text_fields.specs.Keywords.{keyword_of}
use Rattle.text_fields.specs.Tables.{said_at}
use Rattle.text_fields.proofs.Words.{words_none, words_some, words_head, said_head}
use Rattle.value.specs.Integer.{cap}
use Rattle.value.specs.Number.{no_number, borne_of}
use Rattle.value.proofs.Numbers.{borne_most}
use Rattle.store.specs.Form.{has_link}
use Rattle.load.specs.declared.Basic.{Basic}
use Rattle.load.specs.declared.Family.{Family}
use Rattle.load.specs.declared.Family.TheVariants.{Primary, Augments, Basic as BasicOf}
use Rattle.load.specs.declared.Heard.{Heard}
use Rattle.load.specs.declared.Heard.TheVariants.{Other, Link as Asked}
use Rattle.load.specs.declared.Numbers.{Numbers}
use Rattle.load.specs.declared.Open.{Open}
use Rattle.load.specs.declared.Open.TheVariants.{Nothing, Skipping, Memory}
use Rattle.load.specs.declared.Outcome.{Outcome}
use Rattle.load.specs.declared.Outcome.TheVariants.{Dropped, Obeyed}
use Rattle.load.specs.declared.Secondary.{Secondary}
use Rattle.load.specs.declared.Secondary.TheVariants.{Chan, Up, Down, Followon, Link}
use Rattle.load.specs.declared.State.{State}
use Rattle.load.specs.Condition.{wrong_secondary}
use Rattle.load.specs.Item.{blame}
use Rattle.load.specs.Ask.{Ask, rests, name, augments, obeyed_ask, secondary_ask, family_of}
use Rattle.load.specs.Anew.{is_link, links_in, asks_link, is_obeyed, family_heard, fields_heard}
use Rattle.load.specs.Step.{acted}
use Rattle.load_held.specs.declared.Did.{Did}
use Rattle.load_held.specs.declared.Held.{Held}
use Rattle.load_held.specs.declared.Stepped.{Stepped}
use Rattle.load_held.specs.Parts.{did_as, with_held, did_of, DeedsAll, doing_all, did_all}
use Rattle.load_hear.specs.Naming.{NamingLaws, heard_by}

-- ---- a LINK that is not one of an open cue is not obeyed
module _ (d : Desk) (s : State) (t : List ℕ) (key : Key) (w : Word) (ws : List Word) where
  abbrev obeyed : Open → Secondary → Bool
  obeyed o e = is_obeyed (acted d s t (secondary_ask d key o e w ws)).outcome

  unlinked : (o : Open) (e : Secondary) → asks_link o e ≡ false → (obeyed o e && is_link e) ≡ false
  unfolding secondary_ask augments acted is_obeyed is_link links_in
  unlinked Nothing e h = refl
  unlinked Skipping e h = refl
  unlinked (Memory k) Chan h = and_false_right (obeyed (Memory k) Chan) false refl
  unlinked (Memory k) Up h = and_false_right (obeyed (Memory k) Up) false refl
  unlinked (Memory k) Down h = and_false_right (obeyed (Memory k) Down) false refl
  unlinked (Memory k) Followon h = and_false_right (obeyed (Memory k) Followon) false refl
  unlinked (Memory k) Link h =
      by_test (λ (a : Ask). (is_obeyed (acted d s t a).outcome && true) ≡ false) (has_link k) (obeyed_ask d (name k key) Link ws)
      (rests (Dropped (blame w wrong_secondary)))
      (λ a. clash (and_true (has_link k) true a refl) h)
      (λ a. refl)

-- ---- whether a LINK is only heard
module _ (anew : Bool) (o : Open) (e : Secondary) where
  pub asks_given : anew ≡ false → false ≡ (anew && asks_link o e)
  asks_given t = sym (and_false_left anew (asks_link o e) t)

  pub asks_anew : {b : Bool} → b ≡ asks_link o e → anew ≡ true → b ≡ true → true ≡ (anew && asks_link o e)
  asks_anew h t u = sym (and_true anew (asks_link o e) t (sym h ∙ u))

  pub asks_nothing : {b : Bool} → b ≡ asks_link o e → b ≡ false → false ≡ (anew && asks_link o e)
  asks_nothing h u = sym (and_false_right anew (asks_link o e) (sym h ∙ u))

-- its number, and 1, does not wrap
pub ask_room : (s : List ℕ) {n : ℕ} → n ≡ borne_of s → n + 1 < 4294967296
ask_room s e = let h : borne_of s ≤ no_number + cap = borne_most s in omega arith

-- ---- what is noted, in either load
module _ {S : Type 0} {anew : Bool} {numbers : S → Numbers} {within : S → ℕ → Type 0} {after : S → Heard → ℕ → S}
    (laws : NamingLaws anew numbers within after) (s : S) where
  nothing_noted : (slot : ℕ) {h : Heard} → h ≡ Other → s ≡ after s (heard_by anew h) slot
  nothing_noted slot e =
      sym (ap (λ (x : Heard). after s (heard_by anew x) slot) e ∙ ap (λ (x : Heard). after s x slot) (cond_same anew Other) ∙ laws.unheard s slot)

  -- ---- of a secondary
  module _ (slot : ℕ) (o : Open) (e : Secondary) (ws : List Word) where
    abbrev AskedBy : Outcome → S → Type 0
    AskedBy x z = z ≡ after s (heard_by anew (family_heard (Augments e) ws x)) slot

    -- a LINK of an open cue: its number
    pub link_asked : true ≡ (anew && asks_link o e) → {n : ℕ} → n ≡ borne_of (head_of ws).chars → {z : S} → z ≡ after s (Asked n) slot
        → {r : Did} → r ≡ did_as Obeyed → AskedBy r.outcome z
    unfolding family_heard is_obeyed
    link_asked t {n} q {z} g {r} f =
        let y : (anew && asks_link o e) ≡ true = sym t in
        let m : ℕ = borne_of (head_of ws).chars in
        let a : heard_by anew (family_heard (Augments e) ws Obeyed) ≡ Asked m =
        cond-true anew _ Other (and_left anew (asks_link o e) y)
        ∙ cond-true (is_link e) (Asked m) Other (and_right (links_in o) (is_link e) (and_right anew (asks_link o e) y)) in
        g
        ∙ ap (λ (x : ℕ). after s (Asked x) slot) q
        ∙ sym (ap (λ (x : Heard). after s x slot) a)
        ∙ sym (ap (λ (x : Did). after s (heard_by anew (family_heard (Augments e) ws x.outcome)) slot) f)

    -- any other: nothing
    module _ (d : Desk) (st : State) (t fs : List ℕ) (key : Key) (w : Word) where
      unheard : false ≡ (anew && asks_link o e) → AskedBy (acted d st t (secondary_ask d key o e w ws)).outcome s
      unfolding family_heard
      unheard f =
          by_test (λ (x : Heard). s ≡ after s x slot) anew _ Other
          (λ a.
          sym
          (ap (λ (x : Heard). after s x slot)
          (cond-false (obeyed d st t key w ws o e && is_link e) _ Other (unlinked d st t key w ws o e (and_then anew (asks_link o e) a ∙ sym f)))
          ∙ laws.unheard s slot))
          (λ a. sym (laws.unheard s slot))

      pub not_asked : false ≡ (anew && asks_link o e) → {r : Did} {u us : List ℕ} → doing_all r u us ≡ did_all (acted d st t (secondary_ask d key o e w ws)) fs
          → AskedBy r.outcome s
      unfolding did_all did_of
      not_asked f z =
          unheard f
          ∙ sym (ap (λ (y : DeedsAll). after s (heard_by anew (family_heard (Augments e) ws y.deeds.did.outcome)) slot) z)

  -- ---- by what the keyword begins
  module _ (k : Keyword) (ws : List Word) {x : Family} (e : x ≡ family_of k) where
    abbrev BookedBy : Outcome → ℕ → S → Type 0
    BookedBy o slot z = z ≡ after s (heard_by anew (family_heard (family_of k) ws o)) slot

    family_booked : (o : Outcome) (slot : ℕ) (y : Family) → x ≡ y → {z : S} → z ≡ after s (heard_by anew (family_heard y ws o)) slot → BookedBy o slot z
    family_booked o slot y h z = z ∙ ap (λ (f : Family). after s (heard_by anew (family_heard f ws o)) slot) (sym h ∙ e)

    pub primary_booked : (o : Outcome) (slot : ℕ) {kind : Kind} → x ≡ Primary kind → {z : S}
        → z ≡ after s (heard_by anew (family_heard (Primary kind) [] o)) slot → BookedBy o slot z
    unfolding family_heard
    primary_booked o slot {kind} h z = family_booked o slot (Primary kind) h z

    pub secondary_booked : {y : Secondary} → x ≡ Augments y → {h : Held} {r : Did} {q : Stepped} {z : S}
        → z ≡ after s (heard_by anew (family_heard (Augments y) ws r.outcome)) h.slot → q ≡ with_held h r → BookedBy q.outcome q.held.slot z
    secondary_booked {y} c {h} {r} {q} {z} g v =
        subst (λ (p : Stepped). BookedBy p.outcome p.held.slot z) (sym v) (family_booked r.outcome h.slot (Augments y) c g)

    pub basic_booked : (o : Outcome) (slot : ℕ) {y : Basic} → x ≡ BasicOf y → BookedBy o slot s
    unfolding family_heard
    basic_booked o slot {y} h = family_booked o slot (BasicOf y) h (nothing_noted slot refl)

  -- ---- by a record's first field
  module _ (text : List ℕ) {start : ℕ} (e : start ≡ start_at text 0) (o : Outcome) (slot : ℕ) where
    pub blank_booked : length text ≤ start → s ≡ after s (heard_by anew (fields_heard (words_of 0 text) o)) slot
    unfolding fields_heard
    blank_booked h =
        let m : is_more text 0 ≡ false = le-ltb (start_at text 0) (length text) (subst (λ (n : ℕ). length text ≤ n) e h) in
        nothing_noted slot (ap (λ (ws : List Word). fields_heard ws o) (words_none text 0 m))

    module _ {said : Said} (g : said ≡ said_at text start) where
      fields_heard_lem : start < length text → family_heard (family_of said.keyword) (words_from text said.end) o ≡ fields_heard (words_of 0 text) o
      unfolding fields_heard
      fields_heard_lem h =
          let m : is_more text 0 ≡ true = lt-ltb (start_at text 0) (length text) (subst (λ (n : ℕ). n < length text) e h) in
          ap (λ (y : Said). family_heard (family_of y.keyword) (words_from text y.end) o) (g ∙ said_head text 0 e)
          ∙ ap (λ (v : Word). family_heard (family_of (keyword_of v.chars)) (words_from text (end_at text 0)) o) (words_head text 0)
          ∙ sym (ap (λ (ws : List Word). fields_heard ws o) (words_some text 0 m))

      pub fields_booked : start < length text → {z : S}
          → z ≡ after s (heard_by anew (family_heard (family_of said.keyword) (words_from text said.end) o)) slot
          → z ≡ after s (heard_by anew (fields_heard (words_of 0 text) o)) slot
      fields_booked h z = z ∙ ap (λ (x : Heard). after s (heard_by anew x) slot) (fields_heard_lem h)
