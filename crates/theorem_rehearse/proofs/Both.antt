-- One record on two desks, a smaller and a larger one: what it asks of the one has to do with what it asks of the other. By what its
-- keyword begins, once; the views, the dimmers and the end of the load are then by these cases.
-- Assumes nothing.
use Rattle.std.specs.Prelude.{Err, None, Ok, Option, Result, Some}
use mathlib.Core.Path.{◌≡◌, refl, sym, subst}
use mathlib.Core.Bool.{Bool, true, false, cond}
use mathlib.Core.List.{List, [], ◌∷◌}
use Prim.Native.Nat.{ℕ, ◌<◌}
use Rattle.cells.proofs.Split.{clash}
use Rattle.store_desk.specs.declared.Desk.{Desk}
use Rattle.store_desk.specs.declared.Key.{Key}
use Rattle.store_desk.specs.declared.Kind.{Kind}
use Rattle.store_desk.specs.declared.Kind.TheVariants.{Cue, Group, Sub}
use Rattle.store_desk.specs.Name.{Name, pages_of, supported, ok_name}
use Rattle.text_fields.specs.declared.Item.{Item}
use Rattle.text_fields.specs.declared.Item.TheVariants.{All, Cues, Groups, Patch as Patches, Subs, Local as LocalItem, Other}
use Rattle.text_fields.specs.Words.{Word, fields_of, head_of, tail_of}
use Rattle.text_fields.specs.Keywords.{keyword_of, item_of}
use Rattle.store.specs.declared.Edit.{Edit}
use Rattle.store.specs.Change.{every_page}
use Rattle.load.specs.declared.Fault.{Fault}
use Rattle.load.specs.declared.Entry.{Entry}
use Rattle.load.specs.declared.Open.{Open}
use Rattle.load.specs.declared.Open.TheVariants.{Nothing, Skipping, Memory}
use Rattle.load.specs.declared.State.{State}
use Rattle.load.specs.declared.Outcome.{Outcome}
use Rattle.load.specs.declared.Outcome.TheVariants.{Passed, Dropped, Obeyed, Stopped}
use Rattle.load.specs.declared.Secondary.{Secondary}
use Rattle.load.specs.declared.Secondary.TheVariants.{Chan, Up, Down, Followon, Link}
use Rattle.load.specs.declared.Family.{Family}
use Rattle.load.specs.declared.Family.TheVariants.{Primary, Augments, Basic as Basically}
use Rattle.load.specs.declared.Basic.{Basic}
use Rattle.load.specs.declared.Basic.TheVariants.{Ident, Clear, Patch, Enddata, Passed as PassedOver, Local, Unknown}
use Rattle.load.specs.Condition.{bad_page, unsupported_of, wrong_secondary, bad_patch_page, over_long_record}
use Rattle.load.specs.Item.{blame, blame_none, memory, page, pairs_of, triples_of}
use Rattle.load.specs.Ask.{Wipe, table, dimmers, Ask, rests, skips, opens, edits, items, clears, name}
use Rattle.load.specs.Ask.{named_by, named_of, named_ask, primary_ask, augments, times_of, change_ask, obeyed_ask, secondary_ask, page_at, paged_ask}
use Rattle.load.specs.Ask.{kind_ask, dimmers_ask, all_wipes, item_ask, triples_ask, family_of, basic_ask, family_ask, fields_ask, is_over_long, ask_of}
use Rattle.load.specs.Fits.{highest_page}
use Rattle.load.specs.Run.{stops}
use Rattle.theorem_rehearse.specs.Rehearse.{Larger}
use Rattle.theorem_rehearse.proofs.Frame.{changes_dimmer, targets_dimmer}
use Rattle.theorem_rehearse.proofs.Fields.{by_tests, Pages, bad_pages, beyond_page, same_page, pages, pages_at, keyed}
use Rattle.theorem_rehearse.proofs.Fields.{Numerals, wrong_numbers, beyond_number, same_number, numerals}
use Rattle.theorem_rehearse.proofs.Fields.{not_supported, not_within, not_page, more_pages, supports, more_most}
use Rattle.theorem_rehearse.proofs.Items.{Pairs, Triples, Each, pairs, triples}
use Rattle.load.proofs.Tables.{all_ask_lem}
use Rattle.theorem_rehearse.proofs.Wipes.{Wipes, none, both, right, kindless, pageless, dimmerless, all_wipes_lem, all_beyond}
use Rattle.theorem_rehearse.proofs.Opens.{Opens, nothing_open_lem, skips_nothing, skips_both, skips_other, same_open}
use Rattle.value.specs.declared.Number.{Number}

-- ---- the cases
-- a record that asks for it ends the load
abbrev pub stopping : Ask → Bool
stopping (rests o) = stops o
stopping (skips o) = stops o
stopping (opens k y) = false
stopping (edits n e) = false
stopping (items target es) = false
stopping (clears xs) = false

-- the dimmers stay, and the load goes on
abbrev pub Calm : Ask → Type 0
Calm a = ((p q : ℕ) → changes_dimmer a p q ≡ false) × (stopping a ≡ false)

-- a secondary, where b says what the smaller keeps: nothing, the same of the same memory, or of one that the smaller does not keep
pub data Second (d D : Desk) (b : Name → Bool) : Ask → Ask → Type 0 where
  no_change : (o O : Outcome) → Second d D b (rests o) (rests O)
  same_change : (n : Name) (e : Edit) → Second d D b (edits n e) (edits n e)
  same_levels : (n : Name) {es ES : List Entry} → Each (Pairs d D) es ES → Second d D b (items (memory n) es) (items (memory n) ES)
  other_change : (o : Outcome) (n : Name) → b n ≡ false → (e : Edit) → Second d D b (rests o) (edits n e)
  other_levels : (o : Outcome) (n : Name) → b n ≡ false → (es : List Entry) → Second d D b (rests o) (items (memory n) es)

-- a record, on whatever states: of a secondary more is known where what is open is related
pub data Both (d D : Desk) (b : Name → Bool) (s S : State) : Ask → Ask → Type 0 where
  resting : (o O : Outcome) → stops o ≡ stops O → Both d D b s S (rests o) (rests O)
  skipping : (o O : Outcome) → stops o ≡ stops O → Both d D b s S (skips o) (skips O)
  opening : (k : Kind) (y : Key) → Both d D b s S (opens k y) (opens k y)
  opening_beyond : (o : Outcome) → stops o ≡ false → (k : Kind) (y : Key) → ok_name d (name k y) ≡ false → Both d D b s S (skips o) (opens k y)
  patching : (p : ℕ) {es ES : List Entry} → Each (Triples d D) es ES → Both d D b s S (items (page p) es) (items (page p) ES)
  patching_beyond : (o : Outcome) → stops o ≡ false → (p : ℕ) → d.patch_pages < p → (es : List Entry)
      → Both d D b s S (rests o) (items (page p) es)
  clearing : {xs XS : List Wipe} → Wipes d xs XS → Both d D b s S (clears xs) (clears XS)
  clearing_beyond : (o : Outcome) → stops o ≡ false → {XS : List Wipe} → Wipes d [] XS → Both d D b s S (rests o) (clears XS)
  augmenting : {a A : Ask} → Calm a → Calm A → (Opens b s S → Second d D b a A) → Both d D b s S a A

-- ---- secondaries: what one asks for with a memory open, on whatever desk
module _ (k : Kind) (y : Key) (ws : List Word) (P : (Desk → Ask) → Type 0) (no : (f : Fault) → P (λ d. rests (Dropped f)))
    (change : (e : Edit) → P (λ d. edits (name k y) e)) (levels : P (λ d. items (memory (name k y)) (pairs_of d ws))) where
  changed : (x : Result Edit Fault) → P (λ d. change_ask (name k y) x)
  unfolding change_ask
  changed (Err f) = no f
  changed (Ok e) = change e

  obeyed : (e : Secondary) → P (λ d. obeyed_ask d (name k y) e ws)
  unfolding obeyed_ask
  obeyed Chan = levels
  obeyed Up = changed (times_of Up ws)
  obeyed Down = changed (times_of Down ws)
  obeyed Followon = changed (times_of Followon ws)
  obeyed Link = changed (times_of Link ws)

  tested : (e : Secondary) (w : Word) (b : Bool) → P (λ d. cond b (obeyed_ask d (name k y) e ws) (rests (Dropped (blame w wrong_secondary))))
  tested e w true = obeyed e
  tested e w false = no (blame w wrong_secondary)

  augmented : (e : Secondary) (w : Word) → P (λ d. secondary_ask d y (Memory k) e w ws)
  unfolding secondary_ask
  augmented e w = tested e w (augments k e)

calm : (d : Desk) (y : Key) (o : Open) (e : Secondary) (w : Word) (ws : List Word) → Calm (secondary_ask d y o e w ws)
unfolding secondary_ask changes_dimmer targets_dimmer stops
calm d y Nothing e w ws = ((λ p q. refl), refl)
calm d y Skipping e w ws = ((λ p q. refl), refl)
calm d y (Memory k) e w ws = augmented k y ws (λ f. Calm (f d)) (λ c. ((λ p q. refl), refl)) (λ x. ((λ p q. refl), refl)) ((λ p q. refl), refl) e w

-- ---- the walk
module _ (d D : Desk) (l : Larger d D) (b : Name → Bool) where
  second : {s S : State} → Opens b s S → (e : Secondary) (w : Word) (ws : List Word)
      → Second d D b (secondary_ask d s.key s.«open» e w ws) (secondary_ask D S.key S.«open» e w ws)
  unfolding secondary_ask
  second (nothing_open_lem y Y) e w ws = no_change _ _
  second (skips_nothing y Y) e w ws = no_change _ _
  second (skips_both y Y) e w ws = no_change _ _
  second (skips_other y k Y h) e w ws =
      augmented k Y ws (λ f. Second d D b (rests Passed) (f D)) (λ c. no_change _ _) (λ x. other_change _ _ h x) (other_levels _ _ h (pairs_of D ws)) e w
  second (same_open k y h) e w ws =
      augmented k y ws (λ f. Second d D b (f d) (f D)) (λ c. no_change _ _) (λ x. same_change _ x) (same_levels _ (pairs d D l ws)) e w

  module _ (s S : State) where
    abbrev Related : Ask → Ask → Type 0
    Related a A = Both d D b s S a A

    secondary_both : (e : Secondary) (w : Word) (ws : List Word)
        → Related (secondary_ask d s.key s.«open» e w ws) (secondary_ask D S.key S.«open» e w ws)
    secondary_both e w ws = augmenting (calm d s.key s.«open» e w ws) (calm D S.key S.«open» e w ws) (λ h. second h e w ws)

    -- primaries
    named_both : (k : Kind) (v : Word) {x X : Result Number Fault} {p P : Option ℕ} → Numerals d k x X → Pages (pages_of d k) p P
        → Related (named_ask k (named_by x v p)) (named_ask k (named_by X v P))
    unfolding named_ask named_by stops
    named_both k v (wrong_numbers x X) g = skipping (Dropped x) (Dropped X) refl
    named_both k v (beyond_number x n h) bad_pages = skipping (Dropped x) _ refl
    named_both k v (beyond_number x n h) (beyond_page p g) = opening_beyond (Dropped x) refl k (keyed p n.whole n.fraction) (not_within d k (keyed p n.whole n.fraction) (h p))
    named_both k v (beyond_number x n h) (same_page p) = opening_beyond (Dropped x) refl k (keyed p n.whole n.fraction) (not_within d k (keyed p n.whole n.fraction) (h p))
    named_both k v (same_number n) bad_pages = skipping _ _ refl
    named_both k v (same_number n) (beyond_page p g) = opening_beyond (Dropped (blame v bad_page)) refl k (keyed p n.whole n.fraction) (not_page d k (keyed p n.whole n.fraction) g)
    named_both k v (same_number n) (same_page p) = opening k (keyed p n.whole n.fraction)

    -- the smaller does not have the kind
    named_right : (k : Kind) → supported d k ≡ false → (f : Fault) (X : Result Key Fault) → Related (skips (Dropped f)) (named_ask k X)
    unfolding named_ask stops
    named_right k e f (Err F) = skipping (Dropped f) (Dropped F) refl
    named_right k e f (Ok y) = opening_beyond (Dropped f) refl k y (not_supported d k y e)

    primary_both : (k : Kind) (w : Word) (ws : List Word) → Related (primary_ask d k w ws) (primary_ask D k w ws)
    unfolding primary_ask named_of
    primary_both k w ws =
        let f : Fault = blame w (unsupported_of k) in
        by_tests Related (supported d k) (supported D k) (supports d D l k)
        (named_ask k (named_of d k ws)) (skips (Dropped f)) (named_ask k (named_of D k ws)) (skips (Dropped f))
        (λ e.
        named_both k (head_of (tail_of ws)) (numerals d D l k (head_of ws)) (pages_at (pages_of d k) (pages_of D k) (more_pages d D l k) 1 (tail_of ws)))
        (λ e E. named_right k e f (named_of D k ws))
        (λ E. skipping _ _ refl)

    -- CLEAR
    paged_both : (w : Word) {limit : ℕ} {x X : Option ℕ} → Pages limit x X → (f F : ℕ → List Wipe) → ((p : ℕ) → limit < p → Wipes d [] (F p))
        → ((p : ℕ) → Wipes d (f p) (F p)) → Related (paged_ask w x f) (paged_ask w X F)
    unfolding paged_ask stops
    paged_both w bad_pages f F g h = resting _ _ refl
    paged_both w (beyond_page p m) f F g h = clearing_beyond _ refl (g p m)
    paged_both w (same_page p) f F g h = clearing (h p)

    paged_right : (k : Kind) → supported d k ≡ false → (w : Word) (X : Option ℕ) → Related (rests Obeyed) (paged_ask w X (λ p. table k p ∷ []))
    unfolding paged_ask stops
    paged_right k e w None = resting _ _ refl
    paged_right k e w (Some p) = clearing_beyond Obeyed refl (right (table k p) (kindless d k p e) none)

    kind_both : (k : Kind) (ws : List Word) → Related (kind_ask d k ws) (kind_ask D k ws)
    unfolding kind_ask
    kind_both k ws =
        let f : ℕ → List Wipe = λ p. table k p ∷ [] in
        by_tests Related (supported d k) (supported D k) (supports d D l k)
        (paged_ask (head_of ws) (page_at every_page (pages_of d k) ws) f) (rests Obeyed)
        (paged_ask (head_of ws) (page_at every_page (pages_of D k) ws) f) (rests Obeyed)
        (λ e.
        paged_both (head_of ws) (pages_at (pages_of d k) (pages_of D k) (more_pages d D l k) every_page ws) f f
        (λ p h. right (table k p) (pageless d k p h) none)
        (λ p. both (table k p) none))
        (λ e E. paged_right k e (head_of ws) (page_at every_page (pages_of D k) ws))
        (λ E. resting Obeyed Obeyed refl)

    both_as : {a b A B : Ask} → a ≡ b → A ≡ B → Related b B → Related a A
    both_as {a} {b} {A} {B} e E h = subst (λ (x : Ask). Related x A) (sym e) (subst (λ (x : Ask). Related b x) (sym E) h)

    clear_both : (i : Item) (w : Word) (ws : List Word) → Related (item_ask d i w ws) (item_ask D i w ws)
    unfolding item_ask dimmers_ask
    clear_both All w ws =
        both_as (all_ask_lem d ws) (all_ask_lem D ws)
        (paged_both (head_of ws) (pages_at (highest_page d) (highest_page D) (more_most d D l) every_page ws) (all_wipes d) (all_wipes D)
        (λ p h. all_beyond d D l p h)
        (λ p. all_wipes_lem d D l p))
    clear_both Cues w ws = kind_both Cue ws
    clear_both Groups w ws = kind_both Group ws
    clear_both Patches w ws =
        paged_both (head_of ws) (pages_at d.patch_pages D.patch_pages l.patch_pages_of every_page ws) (λ p. dimmers p ∷ []) (λ p. dimmers p ∷ [])
        (λ p h. right (dimmers p) (dimmerless d p h) none)
        (λ p. both (dimmers p) none)
    clear_both Subs w ws = kind_both Sub ws
    clear_both LocalItem w ws = resting Obeyed Obeyed refl
    clear_both Other w ws = resting _ _ refl

    -- PATCH
    patch_both : (w : Word) {x X : Option ℕ} → Pages d.patch_pages x X → (ws : List Word) → Related (triples_ask d w x ws) (triples_ask D w X ws)
    unfolding triples_ask stops
    patch_both w bad_pages ws = resting _ _ refl
    patch_both w (beyond_page p h) ws = patching_beyond (Dropped (blame w bad_patch_page)) refl p h (triples_of D ws)
    patch_both w (same_page p) ws = patching p (triples d D l ws)

    basic_both : (b : Basic) (w : Word) (ws : List Word) → Related (basic_ask d b w ws) (basic_ask D b w ws)
    unfolding basic_ask
    basic_both Ident w ws = resting _ _ refl
    basic_both Clear w ws = clear_both (item_of (head_of ws).chars) w (tail_of ws)
    basic_both Patch w ws = patch_both (head_of ws) (pages d.patch_pages D.patch_pages l.patch_pages_of (head_of ws).chars) (tail_of ws)
    basic_both Enddata w ws = resting _ _ refl
    basic_both PassedOver w ws = resting _ _ refl
    basic_both Local w ws = skipping _ _ refl
    basic_both Unknown w ws = resting _ _ refl

    family_both : (f : Family) (w : Word) (ws : List Word) → Related (family_ask d s f w ws) (family_ask D S f w ws)
    unfolding family_ask
    family_both (Primary k) w ws = primary_both k w ws
    family_both (Augments e) w ws = secondary_both e w ws
    family_both (Basically b) w ws = basic_both b w ws

    fields_both : (ws : List Word) → Related (fields_ask d s ws) (fields_ask D S ws)
    unfolding fields_ask
    fields_both [] = resting _ _ refl
    fields_both (w ∷ ws) = family_both (family_of (keyword_of w.chars)) w ws

    pub record_both : (r : List ℕ) → Related (ask_of d s r) (ask_of D S r)
    unfolding ask_of
    record_both r =
        by_tests Related (is_over_long r) (is_over_long r) (λ e. e)
        (rests (Stopped (blame_none over_long_record))) (fields_ask d s (fields_of r)) (rests (Stopped (blame_none over_long_record))) (fields_ask D S (fields_of r))
        (λ e. resting _ _ refl)
        (λ e E. clash E e)
        (λ E. fields_both (fields_of r))
