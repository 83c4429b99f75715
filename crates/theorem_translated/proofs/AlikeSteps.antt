-- A record that both loads take alike: it comes to the same in both, and leaves the stores as they were but for links. By what its keyword begins: a
-- primary opens the memory that it names, a LINK is set in one load and asked for in the other, and any other record asks for the same in both.
-- Assumes nothing.
use Rattle.std.specs.Prelude.{Err, None, Ok, Option, Result, Some}
use mathlib.Core.Path.{◌≡◌, refl, sym, ap, ◌∙◌, subst}
use mathlib.Core.Bool.{true, false, cond, ◌&&◌}
use mathlib.Core.List.{List, [], ◌∷◌}
use Prim.Native.Nat.{ℕ, suc, ◌+◌, ◌*◌, ◌/◌, ◌%◌, ◌≤◌, ◌<◌}
use native.Mathlib.Nat.{div-eq_of_lt, mod-eq_of_lt}
use native.Mathlib.Numerals.{add-one}
use native.Mathlib.Omega.{arith}
use lib.Dec.{eqb, leb, ltb, lit<}
use lib.ListN.{get_or, set}
use lib.Seq.{get_or-set_same, get_or-set_other}
use borrow.Author.Tests.{le-leb, ltb-false}
use Rattle.cells.specs.Search.{Found, at, nowhere}
use Rattle.cells.proofs.Split.{by_test, by_bool, cond-true, cond-false, clash, and_true, and_false_left, and_false_right}
use Rattle.store_desk.specs.declared.Desk.{Desk}
use Rattle.store_desk.specs.declared.Key.{Key}
use Rattle.store_desk.specs.declared.Kind.{Kind}
use Rattle.store_desk.specs.declared.Kind.TheVariants.{Cue, Group, Sub}
use Rattle.store_desk.specs.Size.{Within, slots_of}
use Rattle.store_desk.specs.Name.{Name, first_slot, slot_count, slots_end, pages_of, supported, ok_within, ok_name}
use Rattle.store_desk.proofs.Name.{kind_end, ok_number_lem, ok_sub_lem, ok_within_lem, ok_page_lem}
use Rattle.text_fields.specs.declared.Item.{Item}
use Rattle.text_fields.specs.declared.Item.TheVariants.{All, Cues, Groups, Patch as Patches, Subs, Local as LocalItem, Other as OtherItem}
use Rattle.text_fields.specs.Words.{Word, fields_of, head_of, tail_of}
use Rattle.text_fields.specs.Keywords.{keyword_of, item_of}
use Rattle.value.specs.declared.Number.{Number}
use Rattle.value.specs.Integer.{cap, integer_of}
use Rattle.value.specs.Parts.{point, cut_at, before, decimals_of}
use Rattle.value.specs.Number.{whole_max, fraction_digits, fraction_max, fraction_span, number, numbered_of, number_of, borne_by, borne_of}
use Rattle.value.specs.Field.{page_of}
use Rattle.value.proofs.Numbers.{borne_good}
use Rattle.store.specs.declared.Edit.TheVariants.{Link as SetLink, Level as SetLevel}
use Rattle.store.specs.Slots.{put_slot, on_found}
use Rattle.store.specs.Change.{seat, blank_slot, started, every_page, edit_at, edited}
use Rattle.store.specs.Form.{has_link}
use Rattle.store.specs.Good.{Ready}
use Rattle.store.proofs.Form.{placed_found}
use Rattle.store.proofs.Start.{blank_length, started-at, start_own, seat_inside, found_used}
use Rattle.store.proofs.Edits.{edited-at, in_time_fits}
use Rattle.load.specs.declared.Basic.{Basic}
use Rattle.load.specs.declared.Basic.TheVariants.{Ident, Clear, Patch as PatchRecord, Enddata, Passed as PassedOver, Local, Unknown}
use Rattle.load.specs.declared.Entry.{Entry}
use Rattle.load.specs.declared.Entry.TheVariants.{Level, Patch, Faulty}
use Rattle.load.specs.declared.Family.{Family}
use Rattle.load.specs.declared.Family.TheVariants.{Primary, Augments, Basic as Basically}
use Rattle.load.specs.declared.Heard.{Heard}
use Rattle.load.specs.declared.Heard.TheVariants.{Other, Accepted}
use Rattle.load.specs.declared.Numbers.{Numbers}
use Rattle.load.specs.declared.Open.{Open}
use Rattle.load.specs.declared.Open.TheVariants.{Nothing, Skipping, Memory}
use Rattle.load.specs.declared.Outcome.{Outcome}
use Rattle.load.specs.declared.Outcome.TheVariants.{Blank, Dropped, Obeyed, Stopped}
use Rattle.load.specs.declared.Secondary.{Secondary}
use Rattle.load.specs.declared.Secondary.TheVariants.{Chan, Up, Down, Followon, Link}
use Rattle.load.specs.declared.State.{State}
use Rattle.load.specs.Condition.{unsupported_of, full_of, wrong_secondary, over_long_record}
use Rattle.load.specs.Item.{blame, blame_none, memory, page, done, all_done}
use Rattle.load.specs.Ask.{Wipe, table, dimmers, Ask, rests, skips, opens, edits, items, clears, name}
use Rattle.load.specs.Ask.{named_of, named_ask, primary_ask, augments, link_by, numbered_by, times_of, change_ask, obeyed_ask, secondary_ask, page_at, paged_ask}
use Rattle.load.specs.Ask.{kind_ask, dimmers_ask, all_wipes, wipes_ask, tables_ask, all_ask, item_ask, triples_ask, family_of, basic_ask, family_ask, fields_ask}
use Rattle.load.specs.Ask.{is_over_long, ask_of}
use Rattle.load.specs.Anew.{last_number, next_key, accepted_of, next_named, anew_primary_ask, is_link, links_in, asks_link, is_clear, anew_family_ask}
use Rattle.load.specs.Anew.{family_ask_in, fields_ask_in, ask_in, is_obeyed, family_heard, fields_heard, heard_in}
use Rattle.load.specs.Step.{Step, ended, nothing_open, opened, slot_by, slot_of, settle_by, wiped, opened_by, acted, record_step}
use Rattle.load.specs.Translated.{step_in, asked_at}
use Rattle.load.specs.Fits.{AllFit}
use Rattle.load.proofs.Ranges.{NumberOk, number_ok}
use Rattle.load.proofs.Read.{accepted_ok}
use Rattle.load.proofs.Deed.{WipesFit, Deed, resting, skipping, opening, editing, setting, patching, clearing, dropped_idles, item_deed, basic_deed}
use Rattle.load.proofs.Deed.{secondary_deed}
use Rattle.load.proofs.Anew.{heard_long}
use Rattle.theorem_translated.proofs.Unlinked.{SetsNone, OpenBare, deed_none, secondary_none, not_obeyed}
use Rattle.theorem_translated.proofs.AlikeSlots.{link_to, linked_by, AskedFits, asked_fits, Alike, alike_find, alike_seat, put_alike, edit_alike}
use Rattle.theorem_translated.proofs.AlikeSlots.{link_alike, patch_alike, clear_patch_alike, clear_alike}
use Rattle.store.specs.declared.Edit.{Edit}
use Rattle.load.specs.declared.Fault.{Fault}
use Rattle.value.specs.declared.NumberError.{NumberError}
use Rattle.value.specs.declared.NumberError.TheVariants.{TooLarge, Malformed as BadNumber}

-- ---- a number that is read is borne by its value
parts_borne : (i j : Option ℕ) (n : Number) → numbered_of i j ≡ Ok n → borne_by i j ≡ n.whole * fraction_span + n.fraction
unfolding numbered_of
parts_borne None j n e = absurd (let z : ◌≡◌ {A = ℕ} 0 1 = cc in omega arith)
parts_borne (Some w) None n e = absurd (let z : ◌≡◌ {A = ℕ} 0 1 = cc in omega arith)
parts_borne (Some w) (Some g) n e =
    by_bool (ltb whole_max w)
    (λ t. no_number_lem (sym (cond-true (ltb whole_max w) (Err TooLarge) _ t) ∙ e))
    (λ t.
    by_bool (eqb (w + g) 0)
    (λ z. no_format (sym (cond-false (ltb whole_max w) (Err TooLarge) _ t ∙ cond-true (eqb (w + g) 0) (Err BadNumber) _ z) ∙ e))
    (λ z.
    let q : Ok (number w g) ≡ Ok n =
    sym (cond-false (ltb whole_max w) (Err TooLarge) _ t ∙ cond-false (eqb (w + g) 0) (Err BadNumber) (Ok (number w g)) z) ∙ e in
    let l : w ≤ whole_max = ltb-false whole_max w t in
    borne_good {w = w} {f = g} refl refl (omega arith)
    ∙ ap (λ (x : Number). x.whole * fraction_span + x.fraction) (number_inj q)))
  where
    no_number_lem : {X : Type 0} → ◌≡◌ {A = Result Number NumberError} (Err TooLarge) (Ok n) → X
    no_number_lem q = absurd (let z : ◌≡◌ {A = ℕ} 0 1 = cc in omega arith)

    no_format : {X : Type 0} → ◌≡◌ {A = Result Number NumberError} (Err BadNumber) (Ok n) → X
    no_format q = absurd (let z : ◌≡◌ {A = ℕ} 0 1 = cc in omega arith)

    number_inj : {a c : Number} → ◌≡◌ {A = Result Number NumberError} (Ok a) (Ok c) → a ≡ c
    number_inj q = cc

pub number_borne : (t : List ℕ) (n : Number) → number_of t ≡ Ok n → borne_of t ≡ n.whole * fraction_span + n.fraction
unfolding number_of borne_of
number_borne t n e = parts_borne (integer_of (before (cut_at point t) t)) (decimals_of fraction_digits t (cut_at point t)) n e

pub number_most : (t : List ℕ) (n : Number) → number_of t ≡ Ok n → (n.whole ≤ whole_max) × (n.fraction ≤ fraction_max)
number_most t n e = let o = ok_number_lem n.whole n.fraction (subst NumberOk e (number_ok t)) in (o.1, o.2)

-- ---- the number of a memory on page 1 is the next one
abbrev pub on_first : ℕ → Key
on_first n = record { page = 1; whole = n + 1; fraction = 0 }

last_number_lem : (d : Desk) (k : Kind) (n : ℕ) → ok_within d k (on_first n) ≡ true → n < last_number d k
unfolding ok_within last_number
last_number_lem d Cue n e = let o = ok_number_lem (n + 1) 0 e in omega arith
last_number_lem d Group n e = let o = ok_number_lem (n + 1) 0 e in omega arith
last_number_lem d Sub n e = let o = (ok_sub_lem d (n + 1) 0 e).0 in omega arith

pub next_first : (d : Desk) (k : Kind) (n : ℕ) → n < last_number d k → next_key d k n ≡ on_first n
unfolding next_key
next_first d k n h = λ i. record { page = div-eq_of_lt h i + 1; whole = mod-eq_of_lt h i + 1; fraction = 0 }

-- ---- what a record comes to in both: x with translation, y in a normal load
pub record StepsAlike (d : Desk) (asked : List ℕ) (x y : Step) : Type 0 where
  pub state : y.state ≡ x.state
  pub outcome : y.outcome ≡ x.outcome
  pub faults : y.faults ≡ x.faults
  pub fits : AskedFits d asked
  pub stores : Alike d asked x.store y.store

-- an ask that opens nothing
abbrev NotOpens : Ask → Type 0
NotOpens (rests o) = Unit {0}
NotOpens (skips o) = Unit {0}
NotOpens (opens k y) = ⊥
NotOpens (edits n e) = Unit {0}
NotOpens (items x es) = Unit {0}
NotOpens (clears ws) = Unit {0}

module _ (d : Desk) (asked : List ℕ) (f : AskedFits d asked) where
  memory_alike : (n : Name) (es : List Entry) (u v : List ℕ) → Alike d asked u v
      → Alike d asked (all_done d (memory n) u es) (all_done d (memory n) v es)
  unfolding all_done done
  memory_alike n [] u v p = p
  memory_alike n (Level channel x ∷ es) u v p = memory_alike n es _ _ (edit_alike d asked u v f p n (SetLevel channel x) tt tt)
  memory_alike n (Patch channel dimmer x ∷ es) u v p = memory_alike n es u v p
  memory_alike n (Faulty x ∷ es) u v p = memory_alike n es u v p

  page_alike : (q : ℕ) → Within 1 q d.patch_pages → (es : List Entry) → AllFit d es → (u v : List ℕ) → Alike d asked u v
      → Alike d asked (all_done d (page q) u es) (all_done d (page q) v es)
  unfolding all_done done
  page_alike q w [] g u v p = p
  page_alike q w (Level channel x ∷ es) g u v p = page_alike q w es g.1 u v p
  page_alike q w (Patch channel dimmer x ∷ es) g u v p = page_alike q w es g.1 _ _ (patch_alike d asked u v f p q dimmer channel x w g.0.1)
  page_alike q w (Faulty x ∷ es) g u v p = page_alike q w es g.1 u v p

  wiped_alike : (xs : List Wipe) → WipesFit d xs → (u v : List ℕ) → Alike d asked u v → Alike d asked (wiped d xs u) (wiped d xs v)
  unfolding wiped
  wiped_alike [] g u v p = p
  wiped_alike (table k q ∷ xs) g u v p = wiped_alike xs g.1 _ _ (clear_alike d asked f k q u v p)
  wiped_alike (dimmers q ∷ xs) g u v p = wiped_alike xs g.1 _ _ (clear_patch_alike d asked u v f p q g.0)

  settle_alike : (s : State) (o : Open) (u v : List ℕ) → Alike d asked u v → settle_by d s o v ≡ settle_by d s o u
  unfolding settle_by
  settle_alike s Nothing u v p = refl
  settle_alike s Skipping u v p = refl
  settle_alike s (Memory k) u v p = ap (λ (a : Found). on_found a (λ i. s) nothing_open) (alike_find d asked u v f p (name k s.key))

  -- the same is asked for, which sets no link and opens nothing
  deed_alike : (s : State) {n : ℕ} {a : Ask} → Deed d s n a → SetsNone d a → NotOpens a → (u v : List ℕ) → Alike d asked u v
      → StepsAlike d asked (acted d s u a) (acted d s v a)
  unfolding acted
  deed_alike s (resting o x) h g u v p = record { state = refl; outcome = refl; faults = refl; fits = f; stores = p }
  deed_alike s (skipping o x i) h g u v p = record { state = refl; outcome = refl; faults = refl; fits = f; stores = p }
  deed_alike s (opening k y o) h g u v p = absurd g
  deed_alike s (editing k o e c) h g u v p =
      record {
        state = refl;
        outcome = refl;
        faults = refl;
        fits = f;
        stores = edit_alike d asked u v f p (name k s.key) e h (in_time_fits e c.1);
      }
  deed_alike s (setting k o es x l) h g u v p =
      record { state = refl; outcome = refl; faults = refl; fits = f; stores = memory_alike (name k s.key) es u v p }
  deed_alike s (patching q w es x l) h g u v p = record { state = refl; outcome = refl; faults = refl; fits = f; stores = page_alike q w es x u v p }
  deed_alike s (clearing xs x) h g u v p =
      let z = wiped_alike xs x u v p in
      record { state = settle_alike s s.«open» (wiped d xs u) (wiped d xs v) z; outcome = refl; faults = refl; fits = f; stores = z }

-- ---- records but primaries open nothing
change_shut : (n : Name) (x : Result Edit Fault) → NotOpens (change_ask n x)
unfolding change_ask
change_shut n (Err g) = tt
change_shut n (Ok e) = tt

paged_shut : (w : Word) (x : Option ℕ) (g : ℕ → List Wipe) → NotOpens (paged_ask w x g)
unfolding paged_ask
paged_shut w None g = tt
paged_shut w (Some q) g = tt

wipes_shut : (w : Word) (xs : List Wipe) → NotOpens (wipes_ask w xs)
unfolding wipes_ask
wipes_shut w [] = tt
wipes_shut w (x ∷ xs) = tt

module _ (d : Desk) where
  tables_shut : (w : Word) (x : Option ℕ) → NotOpens (tables_ask d w x)
  unfolding tables_ask
  tables_shut w None = tt
  tables_shut w (Some q) = wipes_shut w (all_wipes d q)

  triples_shut : (w : Word) (x : Option ℕ) (ws : List Word) → NotOpens (triples_ask d w x ws)
  unfolding triples_ask
  triples_shut w None ws = tt
  triples_shut w (Some q) ws = tt

  kind_shut : (k : Kind) (ws : List Word) → NotOpens (kind_ask d k ws)
  unfolding kind_ask
  kind_shut k ws =
      by_test NotOpens (supported d k) (paged_ask (head_of ws) (page_at every_page (pages_of d k) ws) (λ q. table k q ∷ [])) (rests Obeyed)
      (λ e. paged_shut (head_of ws) (page_at every_page (pages_of d k) ws) (λ q. table k q ∷ []))
      (λ e. tt)

  item_shut : (i : Item) (w : Word) (ws : List Word) → NotOpens (item_ask d i w ws)
  unfolding item_ask all_ask dimmers_ask
  item_shut All w ws = tables_shut (head_of ws) (page_at every_page cap ws)
  item_shut Cues w ws = kind_shut Cue ws
  item_shut Groups w ws = kind_shut Group ws
  item_shut Patches w ws = paged_shut (head_of ws) (page_at every_page d.patch_pages ws) (λ q. dimmers q ∷ [])
  item_shut Subs w ws = kind_shut Sub ws
  item_shut LocalItem w ws = tt
  item_shut OtherItem w ws = tt

  basic_shut : (x : Basic) (w : Word) (ws : List Word) → NotOpens (basic_ask d x w ws)
  unfolding basic_ask
  basic_shut Ident w ws = tt
  basic_shut Clear w ws = item_shut (item_of (head_of ws).chars) w (tail_of ws)
  basic_shut PatchRecord w ws = triples_shut (head_of ws) (page_of d.patch_pages (head_of ws).chars) (tail_of ws)
  basic_shut Enddata w ws = tt
  basic_shut PassedOver w ws = tt
  basic_shut Local w ws = tt
  basic_shut Unknown w ws = tt

  obeyed_shut : (n : Name) (e : Secondary) (ws : List Word) → NotOpens (obeyed_ask d n e ws)
  unfolding obeyed_ask
  obeyed_shut n Chan ws = tt
  obeyed_shut n Up ws = change_shut n (times_of Up ws)
  obeyed_shut n Down ws = change_shut n (times_of Down ws)
  obeyed_shut n Followon ws = change_shut n (times_of Followon ws)
  obeyed_shut n Link ws = change_shut n (times_of Link ws)

  secondary_shut : (key : Key) (o : Open) (e : Secondary) (w : Word) (ws : List Word) → NotOpens (secondary_ask d key o e w ws)
  unfolding secondary_ask
  secondary_shut key Nothing e w ws = tt
  secondary_shut key Skipping e w ws = tt
  secondary_shut key (Memory k) e w ws =
      by_test NotOpens (augments k e) (obeyed_ask d (name k key) e ws) (rests (Dropped (blame w wrong_secondary)))
      (λ a. obeyed_shut (name k key) e ws)
      (λ a. tt)

-- ---- one record
-- what is asked of its fields: a primary is accepted, and named by the number that is next; CLEAR has no page; LINK has a number
abbrev begins_with : List Word → Family
begins_with fs = family_of (keyword_of (head_of fs).chars)

pub record FieldsSaid (d : Desk) (b : Numbers) (s : State) (v : List ℕ) (fs : List Word) : Type 0 where
  pub named : (k : Kind) → begins_with fs ≡ Primary k → named_of d k (tail_of fs) ≡ Ok (on_first (accepted_of b k))
  pub accepted : (k : Kind) → begins_with fs ≡ Primary k → (acted d s v (fields_ask d s fs)).outcome ≡ Obeyed
  pub unpaged : begins_with fs ≡ Basically Clear → tail_of (tail_of fs) ≡ []
  pub numbers : begins_with fs ≡ Augments Link → (n : Number) × (number_of (head_of (tail_of fs)).chars ≡ Ok n)

-- what the cue of a slot asked for, when it starts afresh
record Fresh (d : Desk) (asked after : List ℕ) (i : ℕ) : Type 0 where
  fits : AskedFits d after
  own : get_or after i 0 ≡ 0
  others : (j : ℕ) → (i ≡ j → ⊥) → get_or after j 0 ≡ get_or asked j 0

module _ (d : Desk) (asked : List ℕ) (f : AskedFits d asked) where
  fresh : (k : Kind) (i : ℕ) → first_slot d k ≤ i → i < slots_end d k → Fresh d asked (asked_at asked i (Accepted k)) i
  unfolding asked_at first_slot slot_count
  fresh Cue i a c =
      let r = f.room in
      record {
        fits = asked_fits d asked f i 0 (omega arith) (omega arith);
        own = get_or-set_same asked i 0 0 (omega arith);
        others = λ j ne. get_or-set_other asked i j 0 0 (λ q. ne (sym q));
      }
  fresh Group i a c = record { fits = f; own = f.others i (omega arith); others = λ j ne. refl }
  fresh Sub i a c = record { fits = f; own = f.others i (omega arith); others = λ j ne. refl }

  module _ (b : Numbers) (anew : b.anew ≡ true) (s : State) (u v : List ℕ) (ready : Ready d u) (bare : OpenBare d s u) (p : Alike d asked u v) where
    -- the slot of what is open then
    abbrev slot_after : Ask → ℕ
    slot_after a = slot_of d (acted d s u a).store (acted d s u a).state

    -- a in the load with translation, which hears h of it, and c in the normal one
    abbrev Goes : Ask → Ask → (Outcome → Heard) → Type 0
    Goes a c h = StepsAlike d (asked_at asked (slot_after a) (h (acted d s u a).outcome)) (acted d s u a) (acted d s v c)

    -- the same under other names
    turned : {a a' c c' : Ask} (h h' : Outcome → Heard) → a ≡ a' → c ≡ c' → ((o : Outcome) → h o ≡ h' o) → Goes a' c' h' → Goes a c h
    turned {a} {a'} {c} {c'} h h' ea ec eh x =
        subst (λ (z : Ask). Goes z c h) (sym ea)
        (subst (λ (z : Ask). Goes a' z h) (sym ec) (subst (λ (g : Outcome → Heard). Goes a' c' g) (λ i o. sym (eh o) i) x))

    same_goes : {n : ℕ} {a : Ask} → Deed d s n a → SetsNone d a → NotOpens a → (h : Outcome → Heard) → h (acted d s u a).outcome ≡ Other
        → Goes a a h
    unfolding asked_at
    same_goes {n} {a} x g o h e =
        subst (λ (y : Heard). StepsAlike d (asked_at asked (slot_after a) y) (acted d s u a) (acted d s v a)) (sym e)
        (deed_alike d asked f s x g o u v p)

    -- ---- a primary
    module _ (k : Kind) (y : Key) where
      abbrev begun : List ℕ → Step
      begun t = ended (opened k y) Obeyed (started d t (name k y))

      module _ (o : ok_name d (name k y) ≡ true) (i : ℕ) (q : seat d u (name k y) ≡ at i) where
        in_v : seat d v (name k y) ≡ at i
        in_v = alike_seat d asked u v f p (name k y) ∙ q

        begun_alike : StepsAlike d (asked_at asked i (Accepted k)) (begun u) (begun v)
        unfolding linked_by
        begun_alike =
            let n = name k y in
            let x = blank_slot d y in
            let after = asked_at asked i (Accepted k) in
            let w = seat_inside d u n o i q in
            let end = kind_end d k in
            let z = fresh k i w.0 w.1 in
            let h : i < slots_of d = (let l = w.1 in omega arith) in
            let e : x ≡ linked_by d (get_or after i 0) x = ap (λ (a : ℕ). linked_by d a x) (sym z.own) in
            record {
              state = refl;
              outcome = refl;
              faults = refl;
              fits = z.fits;
              stores =
                  subst (Alike d after (started d u n)) (sym (started-at d v n i in_v))
                  (subst (λ (t : List ℕ). Alike d after t (put_slot d v i x)) (sym (started-at d u n i q))
                  (put_alike d asked u v f p after i h x x (blank_length d y) e z.others));
            }

        opens_goes : (ws : List Word) → Goes (opens k y) (opens k y) (family_heard (Primary k) ws)
        unfolding acted opened_by family_heard is_obeyed slot_by on_found
        opens_goes ws =
            let n = name k y in
            let slot : slot_of d (started d u n) (opened k y) ≡ i =
            ap (λ (a : Found). on_found a (λ j. j) 0) (start_own d u ready.long n ready.range o i q) in
            let x : acted d s u (opens k y) ≡ begun u = ap (λ (a : Found). opened_by d k y a u) q in
            let z : acted d s v (opens k y) ≡ begun v = ap (λ (a : Found). opened_by d k y a v) in_v in
            subst
            (λ (t : Step).
            StepsAlike d (asked_at asked (slot_of d t.store t.state) (family_heard (Primary k) ws t.outcome)) t (acted d s v (opens k y)))
            (sym x)
            (subst (λ (t : Step). StepsAlike d (asked_at asked (slot_of d (started d u n) (opened k y)) (Accepted k)) (begun u) t) (sym z)
            (subst (λ (j : ℕ). StepsAlike d (asked_at asked j (Accepted k)) (begun u) (begun v)) (sym slot) begun_alike))

      seated : (a : Found) → seat d v (name k y) ≡ a → (opened_by d k y a v).outcome ≡ Obeyed → (i : ℕ) × (seat d u (name k y) ≡ at i)
      unfolding opened_by
      seated (at i) e h = (i, sym (alike_seat d asked u v f p (name k y)) ∙ e)
      seated nowhere e h = absurd ((dropped_idles (blame_none (full_of k))).0 h)

    primary_goes : (k : Kind) (w : Word) (ws : List Word) → named_of d k ws ≡ Ok (on_first (accepted_of b k))
        → (acted d s v (primary_ask d k w ws)).outcome ≡ Obeyed → Goes (anew_primary_ask d b k w ws) (primary_ask d k w ws) (family_heard (Primary k) ws)
    unfolding primary_ask anew_primary_ask next_named named_ask acted
    primary_goes k w ws e h =
        by_bool (supported d k)
        (λ t.
        let m : ℕ = accepted_of b k in
        let y : Key = on_first m in
        let o : ok_name d (name k y) ≡ true = accepted_ok d k ready.range t ws e in
        let n : next_key d k m ≡ y = next_first d k m (last_number_lem d k m (ok_within_lem d (name k y) o)) in
        let l : (next_key d k m).page ≤ pages_of d k = subst (λ (z : Key). z.page ≤ pages_of d k) (sym n) (ok_page_lem d (name k y) o).1 in
        let c : primary_ask d k w ws ≡ opens k y = cond-true (supported d k) _ _ t ∙ ap (named_ask k) e in
        let a : anew_primary_ask d b k w ws ≡ opens k y =
        cond-true (supported d k) _ _ t
        ∙ ap (named_ask k) (cond-true (leb (next_key d k m).page (pages_of d k)) _ _ (le-leb (next_key d k m).page (pages_of d k) l))
        ∙ ap (opens k) n in
        let i = seated k y (seat d v (name k y)) refl (sym (ap (λ (x : Ask). (acted d s v x).outcome) c) ∙ h) in
        turned (family_heard (Primary k) ws) (family_heard (Primary k) ws) a c (λ x. refl) (opens_goes k y o i.0 i.1 ws))
        (λ t.
        absurd
        ((dropped_idles (blame w (unsupported_of k))).0
        (sym (ap (λ (x : Ask). (acted d s v x).outcome) (cond-false (supported d k) _ _ t)) ∙ h)))

    -- ---- a secondary
    linked_goes : s.«open» ≡ Memory Cue → (ws : List Word) (n : Number) → number_of (head_of ws).chars ≡ Ok n
        → Goes (rests Obeyed) (edits (name Cue s.key) (SetLink n.whole n.fraction)) (family_heard (Augments Link) ws)
    unfolding acted family_heard is_obeyed is_link asked_at slot_by on_found first_slot slot_count
    linked_goes q ws n e =
        let c = bare Cue q in
        let i : ℕ = c.place in
        let m : ℕ = borne_of (head_of ws).chars in
        let value : m ≡ n.whole * fraction_span + n.fraction = number_borne (head_of ws).chars n e in
        let most = number_most (head_of ws).chars n e in
        let l : i < d.cues = (let z = (placed_found d u ready.form (name Cue s.key) i c.found).below in omega arith) in
        let slot : i ≡ slot_of d u s =
        sym (ap (slot_by d u s.key) q ∙ ap (λ (a : Found). on_found a (λ j. j) 0) c.found) in
        let whole : m / fraction_span ≡ n.whole = omega arith in
        let fraction : m % fraction_span ≡ n.fraction = omega arith in
        let there : edit_at d v i (link_to m) ≡ edited d v (name Cue s.key) (SetLink n.whole n.fraction) =
        (λ z. edit_at d v i (SetLink (whole z) (fraction z)))
        ∙ sym (edited-at d v (name Cue s.key) (SetLink n.whole n.fraction) i (alike_find d asked u v f p (name Cue s.key) ∙ c.found)) in
        record {
          state = refl;
          outcome = refl;
          faults = refl;
          fits = subst (λ (z : ℕ). AskedFits d (set asked z (m + 1))) slot (asked_fits d asked f i (m + 1) l (omega arith));
          stores =
              subst (λ (z : ℕ). Alike d (set asked z (m + 1)) u (edited d v (name Cue s.key) (SetLink n.whole n.fraction))) slot
              (subst (λ (z : ℕ). Alike d (set asked i z) u (edited d v (name Cue s.key) (SetLink n.whole n.fraction))) (sym (add-one m))
              (subst (Alike d (set asked i (suc m)) u) there
              (link_alike d asked u v f p i l (found_used d u (name Cue s.key) i c.found).1 m)));
        }

    link_goes : (o : Open) → s.«open» ≡ o → (e : Secondary) → asks_link o e ≡ true → (w : Word) (ws : List Word)
        → (e ≡ Link → (n : Number) × (number_of (head_of ws).chars ≡ Ok n))
        → Goes (rests Obeyed) (secondary_ask d s.key o e w ws) (family_heard (Augments e) ws)
    unfolding secondary_ask links_in is_link has_link augments obeyed_ask times_of change_ask link_by numbered_by
    link_goes Nothing q e t w ws h = clash t refl
    link_goes Skipping q e t w ws h = clash t refl
    link_goes (Memory Group) q e t w ws h = clash t refl
    link_goes (Memory Sub) q e t w ws h = clash t refl
    link_goes (Memory Cue) q Chan t w ws h = clash t refl
    link_goes (Memory Cue) q Up t w ws h = clash t refl
    link_goes (Memory Cue) q Down t w ws h = clash t refl
    link_goes (Memory Cue) q Followon t w ws h = clash t refl
    link_goes (Memory Cue) q Link t w ws h =
        let x = h refl in
        let g : Outcome → Heard = family_heard (Augments Link) ws in
        turned g g refl (ap (λ (z : Result Number NumberError). change_ask (name Cue s.key) (link_by (numbered_by (head_of ws) z))) x.1) (λ o. refl)
        (linked_goes q ws x.0 x.1)

    secondary_goes : (e : Secondary) (w : Word) (ws : List Word) → (e ≡ Link → (n : Number) × (number_of (head_of ws).chars ≡ Ok n))
        → Goes (cond (asks_link s.«open» e) (rests Obeyed) (secondary_ask d s.key s.«open» e w ws))
        (secondary_ask d s.key s.«open» e w ws) (family_heard (Augments e) ws)
    unfolding family_heard
    secondary_goes e w ws h =
        let a = secondary_ask d s.key s.«open» e w ws in
        let o = (acted d s u a).outcome in
        by_test (λ (z : Ask). Goes z a (family_heard (Augments e) ws)) (asks_link s.«open» e) (rests Obeyed) a
        (λ t. link_goes s.«open» refl e t w ws h)
        (λ t.
        same_goes (secondary_deed d s ws s.«open» refl e w) (secondary_none d s.key s.«open» e t w ws)
        (secondary_shut d s.key s.«open» e w ws) (family_heard (Augments e) ws)
        (cond-false (is_obeyed o && is_link e) _ Other
        (by_bool (is_link e)
        (λ i.
        let l : links_in s.«open» ≡ false = by_bool (links_in s.«open») (λ z. clash (and_true (links_in s.«open») (is_link e) z i) t) (λ z. z) in
        and_false_left (is_obeyed o) (is_link e) (not_obeyed d s u s.key s.«open» e i l w ws))
        (λ i. and_false_right (is_obeyed o) (is_link e) i))))

    -- ---- any other record
    basic_same : (x : Basic) (w : Word) (ws : List Word) → Goes (basic_ask d x w ws) (basic_ask d x w ws) (λ o. Other)
    basic_same x w ws =
        same_goes (basic_deed d s x w ws) (deed_none d (basic_deed d nothing_open x w ws)) (basic_shut d x w ws) (λ o. Other) refl

    basic_goes : (x : Basic) (w : Word) (ws : List Word) → (x ≡ Clear → tail_of ws ≡ [])
        → Goes (cond (is_clear x) (item_ask d (item_of (head_of ws).chars) w []) (basic_ask d x w ws)) (basic_ask d x w ws) (family_heard (Basically x) ws)
    unfolding is_clear basic_ask family_heard
    basic_goes Ident w ws h = basic_same Ident w ws
    basic_goes Clear w ws h =
        let i : Item = item_of (head_of ws).chars in
        turned (λ o. Other) (λ o. Other) refl (ap (item_ask d i w) (h refl)) (λ o. refl)
        (same_goes (item_deed d s 0 i w []) (deed_none d (item_deed d nothing_open 0 i w [])) (item_shut d i w []) (λ o. Other) refl)
    basic_goes PatchRecord w ws h = basic_same PatchRecord w ws
    basic_goes Enddata w ws h = basic_same Enddata w ws
    basic_goes PassedOver w ws h = basic_same PassedOver w ws
    basic_goes Local w ws h = basic_same Local w ws
    basic_goes Unknown w ws h = basic_same Unknown w ws

    family_goes : (x : Family) (w : Word) (ws : List Word) → family_of (keyword_of w.chars) ≡ x → FieldsSaid d b s v (w ∷ ws)
        → Goes (anew_family_ask d b s x w ws) (family_ask d s x w ws) (family_heard x ws)
    unfolding anew_family_ask family_ask fields_ask
    family_goes (Primary k) w ws e h =
        primary_goes k w ws (h.named k e)
        (sym (ap (λ (x : Family). (acted d s v (family_ask d s x w ws)).outcome) e) ∙ h.accepted k e)
    family_goes (Augments x) w ws e h = secondary_goes x w ws (λ q. h.numbers (e ∙ ap Augments q))
    family_goes (Basically x) w ws e h = basic_goes x w ws (λ q. h.unpaged (e ∙ ap Basically q))

    fields_goes : (fs : List Word) → FieldsSaid d b s v fs → Goes (fields_ask_in d b s fs) (fields_ask d s fs) (fields_heard fs)
    unfolding fields_ask_in fields_ask family_ask_in fields_heard
    fields_goes [] h = same_goes {n = 0} (resting Blank tt) tt tt (λ o. Other) refl
    fields_goes (w ∷ ws) h =
        let x : Family = family_of (keyword_of w.chars) in
        turned (family_heard x ws) (family_heard x ws) (cond-true b.anew (anew_family_ask d b s x w ws) (family_ask d s x w ws) anew) refl
        (λ o. refl)
        (family_goes x w ws refl h)

    pub record_alike : (r : List ℕ) → (is_over_long r ≡ false → FieldsSaid d b s v (fields_of r))
        → StepsAlike d (asked_at asked (slot_of d (step_in d b s r u).store (step_in d b s r u).state) (heard_in b r (step_in d b s r u).outcome))
        (step_in d b s r u) (record_step d s r v)
    unfolding step_in record_step ask_in ask_of heard_in
    record_alike r h =
        by_bool (is_over_long r)
        (λ t.
        let a : Ask = rests (Stopped (blame_none over_long_record)) in
        turned (heard_in b r) (λ o. Other) (cond-true (is_over_long r) a _ t) (cond-true (is_over_long r) a _ t) (λ o. heard_long b r o t)
        (same_goes {n = 0} (resting (Stopped (blame_none over_long_record)) (lit< tt)) tt tt (λ o. Other) refl))
        (λ t.
        turned (heard_in b r) (fields_heard (fields_of r)) (cond-false (is_over_long r) _ _ t) (cond-false (is_over_long r) _ _ t)
        (λ o. cond-true b.anew _ Other anew ∙ cond-false (is_over_long r) Other _ t)
        (fields_goes (fields_of r) (h t)))
