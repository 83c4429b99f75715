-- What a record comes to if it is neither blank nor passed over: it is obeyed, dropped, or stops the load. On a desk that has cues each
-- fault that is reported has a condition above 0 and blames a field of the record, or none. By what the keyword begins, and by cases on each
-- field.
-- Assumes nothing.
use Rattle.std.specs.Prelude.{Err, None, Ok, Option, Result, Some}
use mathlib.Core.Path.{◌≡◌, refl, sym, ap, ◌∙◌, subst}
use mathlib.Core.Bool.{Bool, true, false}
use mathlib.Core.List.{List, [], ◌∷◌}
use Prim.Native.Nat.{ℕ, ◌≤◌, ◌<◌}
use native.Mathlib.Omega.{arith}
use lib.Dec.{ltb, leb, lit<}
use lib.ListN.{length}
use borrow.Author.Tests.{ltb-true, lt-ltb}
use Rattle.cells.specs.Search.{Found, at, nowhere}
use Rattle.cells.proofs.Split.{by_test, by_bool, clash}
use Rattle.store_desk.specs.declared.Desk.{Desk}
use Rattle.store_desk.specs.declared.Key.{Key}
use Rattle.store_desk.specs.declared.Kind.{Kind}
use Rattle.store_desk.specs.declared.Kind.TheVariants.{Cue, Group, Sub}
use Rattle.store_desk.specs.Size.{is_within}
use Rattle.store_desk.specs.Name.{Name, pages_of, slot_count, supported}
use Rattle.text_fields.specs.declared.Item.{Item}
use Rattle.text_fields.specs.declared.Item.TheVariants.{All, Cues, Groups, Patch as Patches, Subs, Local as LocalItem, Other}
use Rattle.text_records.specs.Cleaning.{is_high, is_control, has}
use Rattle.text_fields.specs.Words.{Word, words_of, fields_of, head_of, tail_of}
use Rattle.text_fields.specs.Keywords.{keyword_of, item_of}
use Rattle.text_fields.proofs.Placed.{place_within}
use Rattle.value.specs.Integer.{cap, integer_of}
use Rattle.value.specs.Number.{number_of, number}
use Rattle.value.specs.Time.{time_of}
use Rattle.value.specs.Field.{version_of, page_of}
use Rattle.store.specs.declared.Edit.{Edit}
use Rattle.store.specs.Change.{every_page, seat}
use Rattle.load.specs.declared.Fault.{Fault}
use Rattle.load.specs.declared.Entry.{Entry}
use Rattle.load.specs.declared.Entry.TheVariants.{Level, Patch as Patched, Faulty}
use Rattle.load.specs.declared.Open.{Open}
use Rattle.load.specs.declared.Open.TheVariants.{Nothing, Skipping, Memory}
use Rattle.load.specs.declared.State.{State}
use Rattle.load.specs.declared.Outcome.{Outcome}
use Rattle.load.specs.declared.Outcome.TheVariants.{Blank, Passed, Obeyed, Dropped, Stopped}
use Rattle.load.specs.declared.Secondary.{Secondary}
use Rattle.load.specs.declared.Secondary.TheVariants.{Chan, Up, Down, Followon, Link}
use Rattle.load.specs.declared.Family.{Family}
use Rattle.load.specs.declared.Family.TheVariants.{Primary, Augments, Basic as Basically}
use Rattle.load.specs.declared.Basic.TheVariants.{Ident, Clear, Patch, Enddata, Passed as PassedOver, Local, Unknown}
use Rattle.load.specs.declared.Numbers.{Numbers}
use Rattle.load.specs.Condition.{bad_number, number_too_large, bad_page, bad_sub, malformed_sub, bad_time, bad_patch_page, full_of, ignored_high, ignored_control}
use Rattle.load.specs.Condition.{unsupported_of, wrong_secondary, ident_mismatch, over_long_record, unknown_keyword, blames_keyword, blames_none}
use Rattle.load.specs.Item.{blame, blame_none, faults_of}
use Rattle.load.specs.Ask.{Wipe, table, dimmers, Ask, rests, skips, opens, edits, items, clears, name}
use Rattle.load.specs.Ask.{numbered_by, sub_by, numeral_of, page_at, named_by, named_of, named_ask, primary_ask, augments, on_time, delay_of, fade_of, link_by, times_of}
use Rattle.load.specs.Ask.{change_ask, obeyed_ask, secondary_ask, paged_ask, kind_ask, dimmers_ask, all_wipes, wipes_ask, tables_ask, all_ask, item_ask, triples_ask}
use Rattle.load.specs.Ask.{is_three, ident_outcome, family_of, basic_ask, family_ask, is_over_long}
use Rattle.load.specs.Anew.{next_key, accepted_of, beyond_of, next_named, anew_primary_ask, asks_link, is_clear, anew_family_ask, family_ask_in, fields_ask_in, ask_in}
use Rattle.load.specs.Step.{Step, ended, skipping, opened_by, acted, one_if, ignored_in, outcome_faults, reported_of}
use Rattle.load.proofs.Faulted.{Blamed, AllBlamed, blamed_join, FieldOf, Fields, behind_fields, missing_field, head_field, tail_fields}
use Rattle.load.proofs.Faulted.{field_blamed, keyword_blamed, none_blamed}
use Rattle.load.proofs.Entries.{EntriesTold, pairs_told, triples_told}
use Rattle.load.specs.Translated.{step_in}
use Rattle.load.specs.Fits.{Near, text_step}
use Rattle.load.proofs.Steps.{said_by}
use Rattle.value.specs.declared.Number.{Number}
use Rattle.value.specs.declared.NumberError.{NumberError}
use Rattle.value.specs.declared.Version.{Version}
use Rattle.value.specs.declared.NumberError.TheVariants.{Malformed as BadNumber, TooLarge}

-- ---- what holds of it

-- neither blank nor passed; where it is reported, and the desk has cues, one of its fields is blamed
abbrev pub OutcomeTold : Desk → List Word → Outcome → Type 0
OutcomeTold d fs Blank = ⊥
OutcomeTold d fs Passed = ⊥
OutcomeTold d fs (Dropped f) = 0 < d.cues → Blamed fs f
OutcomeTold d fs Obeyed = Unit {0}
OutcomeTold d fs (Stopped f) = 0 < f.condition → Blamed fs f

abbrev pub AskTold : Desk → List Word → Ask → Type 0
AskTold d fs (rests o) = OutcomeTold d fs o
AskTold d fs (skips o) = OutcomeTold d fs o
AskTold d fs (opens k key) = Unit {0}
AskTold d fs (edits n e) = Unit {0}
AskTold d fs (items target es) = EntriesTold fs es
AskTold d fs (clears ws) = Unit {0}

module _ (d : Desk) (fs : List Word) where
  -- ---- primaries
  abbrev NumeralTold : Result Number Fault → Type 0
  NumeralTold (Err f) = Blamed fs f
  NumeralTold (Ok n) = Unit {0}

  numbered_told : (w : Word) (x : Result Number NumberError) → FieldOf fs w → NumeralTold (numbered_by w x)
  unfolding numbered_by blames_keyword blames_none has
  numbered_told w (Err BadNumber) o = field_blamed fs w bad_number o (lit< tt, refl, refl)
  numbered_told w (Err TooLarge) o = field_blamed fs w number_too_large o (lit< tt, refl, refl)
  numbered_told w (Ok n) o = tt

  sub_told : (w : Word) (i : Option ℕ) → FieldOf fs w → NumeralTold (sub_by d w i)
  unfolding sub_by blames_keyword blames_none has
  sub_told w None o = field_blamed fs w malformed_sub o (lit< tt, refl, refl)
  sub_told w (Some n) o =
      by_test NumeralTold (is_within 1 n d.subs) (Ok (number n 0)) (Err (blame w bad_sub))
      (λ e. tt)
      (λ e. field_blamed fs w bad_sub o (lit< tt, refl, refl))

  numeral_told : (k : Kind) (w : Word) → FieldOf fs w → NumeralTold (numeral_of d k w)
  unfolding numeral_of
  numeral_told Cue w o = numbered_told w (number_of w.chars) o
  numeral_told Group w o = numbered_told w (number_of w.chars) o
  numeral_told Sub w o = sub_told w (integer_of w.chars) o

  page_blamed : (w : Word) → FieldOf fs w → Blamed fs (blame w bad_page)
  unfolding blames_keyword blames_none has
  page_blamed w o = field_blamed fs w bad_page o (lit< tt, refl, refl)

  named_told : (k : Kind) (n : Result Number Fault) (w : Word) (p : Option ℕ) → FieldOf fs w → NumeralTold n → AskTold d fs (named_ask k (named_by n w p))
  unfolding named_by named_ask
  named_told k (Err f) w p o h = λ c. h
  named_told k (Ok n) w None o h = λ c. page_blamed w o
  named_told k (Ok n) w (Some p) o h = tt

  -- ---- secondaries
  abbrev ReadingTold : Result Edit Fault → Type 0
  ReadingTold (Err f) = Blamed fs f
  ReadingTold (Ok e) = Unit {0}

  time_told : (w : Word) (x : Option ℕ) (f : ℕ → Result Edit Fault) → FieldOf fs w → ((t : ℕ) → ReadingTold (f t)) → ReadingTold (on_time w x f)
  unfolding on_time blames_keyword blames_none has
  time_told w None f o h = field_blamed fs w bad_time o (lit< tt, refl, refl)
  time_told w (Some t) f o h = h t

  fade_told : (f : ℕ → ℕ → Edit) (ws : List Word) → Fields fs ws → ReadingTold (fade_of f ws)
  unfolding fade_of
  fade_told f ws o =
      time_told (head_of ws) (time_of (head_of ws).chars) (λ fade. on_time (head_of (tail_of ws)) (delay_of (tail_of ws)) (λ delay. Ok (f fade delay)))
      (head_field fs ws o)
      (λ fade.
      time_told (head_of (tail_of ws)) (delay_of (tail_of ws)) (λ delay. Ok (f fade delay)) (head_field fs (tail_of ws) (tail_fields fs ws o)) (λ delay. tt))

  link_told : (n : Result Number Fault) → NumeralTold n → ReadingTold (link_by n)
  unfolding link_by
  link_told (Err f) h = h
  link_told (Ok n) h = tt

  change_told : (n : Name) (x : Result Edit Fault) → ReadingTold x → AskTold d fs (change_ask n x)
  unfolding change_ask
  change_told n (Err f) h = λ c. h
  change_told n (Ok e) h = tt

  obeyed_told : (n : Name) (e : Secondary) (ws : List Word) → Fields fs ws → AskTold d fs (obeyed_ask d n e ws)
  unfolding obeyed_ask times_of
  obeyed_told n Chan ws o = pairs_told d fs ws o
  obeyed_told n Up ws o = change_told n (times_of Up ws) (fade_told _ ws o)
  obeyed_told n Down ws o = change_told n (times_of Down ws) (fade_told _ ws o)
  obeyed_told n Followon ws o =
      change_told n (times_of Followon ws) (time_told (head_of ws) (time_of (head_of ws).chars) _ (head_field fs ws o) (λ t. tt))
  obeyed_told n Link ws o =
      change_told n (times_of Link ws)
      (link_told (numbered_by (head_of ws) (number_of (head_of ws).chars)) (numbered_told (head_of ws) (number_of (head_of ws).chars) (head_field fs ws o)))

  -- ---- CLEAR
  paged_told : (w : Word) (x : Option ℕ) (f : ℕ → List Wipe) → FieldOf fs w → AskTold d fs (paged_ask w x f)
  unfolding paged_ask
  paged_told w None f o = λ c. page_blamed w o
  paged_told w (Some p) f o = tt

  kind_told : (k : Kind) (ws : List Word) → Fields fs ws → AskTold d fs (kind_ask d k ws)
  unfolding kind_ask
  kind_told k ws o =
      by_test (AskTold d fs) (supported d k) (paged_ask (head_of ws) (page_at every_page (pages_of d k) ws) (λ p. table k p ∷ [])) (rests Obeyed)
      (λ e. paged_told (head_of ws) (page_at every_page (pages_of d k) ws) (λ p. table k p ∷ []) (head_field fs ws o))
      (λ e. tt)

  wipes_told : (w : Word) (xs : List Wipe) → FieldOf fs w → AskTold d fs (wipes_ask w xs)
  unfolding wipes_ask
  wipes_told w [] o = λ c. page_blamed w o
  wipes_told w (x ∷ xs) o = tt

  tables_told : (w : Word) (x : Option ℕ) → FieldOf fs w → AskTold d fs (tables_ask d w x)
  unfolding tables_ask
  tables_told w None o = λ c. page_blamed w o
  tables_told w (Some p) o = wipes_told w (all_wipes d p) o

  -- ---- PATCH, IDENT
  triples_ask_told : (w : Word) (x : Option ℕ) (ws : List Word) → FieldOf fs w → Fields fs ws → AskTold d fs (triples_ask d w x ws)
  unfolding triples_ask blames_keyword blames_none has
  triples_ask_told w None ws o g = λ c. field_blamed fs w bad_patch_page o (lit< tt, refl, refl)
  triples_ask_told w (Some p) ws o g = triples_told d fs ws g

  ident_blamed : (w : Word) → FieldOf fs w → Blamed fs (blame w ident_mismatch)
  unfolding blames_keyword blames_none has
  ident_blamed w o = field_blamed fs w ident_mismatch o (lit< tt, refl, refl)

  ident_told : (w : Word) (v : Option Version) → FieldOf fs w → OutcomeTold d fs (ident_outcome w v)
  unfolding ident_outcome
  ident_told w None o = λ c. ident_blamed w o
  ident_told w (Some v) o =
      by_test (OutcomeTold d fs) (is_three v.major v.minor) Obeyed (Stopped (blame w ident_mismatch)) (λ e. tt) (λ e c. ident_blamed w o)

-- ---- what is blamed on the keyword
module _ (d : Desk) (w : Word) (ws : List Word) where
  -- every desk in range has cues
  unsupported_told : (k : Kind) → supported d k ≡ false → 0 < d.cues → Blamed (w ∷ ws) (blame w (unsupported_of k))
  unfolding unsupported_of supported slot_count blames_none has
  unsupported_told Cue e c = clash (lt-ltb 0 d.cues c) e
  unsupported_told Group e c = keyword_blamed w ws 51 (lit< tt, refl)
  unsupported_told Sub e c = keyword_blamed w ws 52 (lit< tt, refl)

  primary_told : (k : Kind) → AskTold d (w ∷ ws) (primary_ask d k w ws)
  unfolding primary_ask named_of
  primary_told k =
      let o = behind_fields w ws in
      by_test (AskTold d (w ∷ ws)) (supported d k) (named_ask k (named_of d k ws)) (skips (Dropped (blame w (unsupported_of k))))
      (λ e.
      named_told d (w ∷ ws) k (numeral_of d k (head_of ws)) (head_of (tail_of ws)) (page_at 1 (pages_of d k) (tail_of ws))
      (head_field (w ∷ ws) (tail_of ws) (tail_fields (w ∷ ws) ws o))
      (numeral_told d (w ∷ ws) k (head_of ws) (head_field (w ∷ ws) ws o)))
      (λ e. unsupported_told k e)

  -- beyond the last page: none is blamed, or the number
  beyond_told : (k : Kind) → Blamed (w ∷ ws) (beyond_of k (head_of ws))
  unfolding beyond_of full_of blames_keyword blames_none has
  beyond_told Cue = none_blamed (w ∷ ws) 21 (lit< tt, refl)
  beyond_told Group = none_blamed (w ∷ ws) 22 (lit< tt, refl)
  beyond_told Sub = field_blamed (w ∷ ws) (head_of ws) bad_sub (head_field (w ∷ ws) ws (behind_fields w ws)) (lit< tt, refl, refl)

  anew_primary_told : (b : Numbers) (k : Kind) → AskTold d (w ∷ ws) (anew_primary_ask d b k w ws)
  unfolding anew_primary_ask next_named named_ask
  anew_primary_told b k =
      let y : Key = next_key d k (accepted_of b k) in
      by_test (AskTold d (w ∷ ws)) (supported d k) (named_ask k (next_named d b k ws)) (skips (Dropped (blame w (unsupported_of k))))
      (λ e.
      by_test (λ (x : Result Key Fault). AskTold d (w ∷ ws) (named_ask k x)) (leb y.page (pages_of d k)) (Ok y) (Err (beyond_of k (head_of ws)))
      (λ h. tt)
      (λ h c. beyond_told k))
      (λ e. unsupported_told k e)

  unknown_blamed : Blamed (w ∷ ws) (blame w unknown_keyword)
  unfolding blames_none has
  unknown_blamed = keyword_blamed w ws unknown_keyword (lit< tt, refl)

  secondary_blamed : Blamed (w ∷ ws) (blame w wrong_secondary)
  unfolding blames_none has
  secondary_blamed = keyword_blamed w ws wrong_secondary (lit< tt, refl)

  item_told : (i : Item) (xs : List Word) → Fields (w ∷ ws) xs → AskTold d (w ∷ ws) (item_ask d i w xs)
  unfolding item_ask all_ask dimmers_ask
  item_told All xs o = tables_told d (w ∷ ws) (head_of xs) (page_at every_page cap xs) (head_field (w ∷ ws) xs o)
  item_told Cues xs o = kind_told d (w ∷ ws) Cue xs o
  item_told Groups xs o = kind_told d (w ∷ ws) Group xs o
  item_told Patches xs o =
      paged_told d (w ∷ ws) (head_of xs) (page_at every_page d.patch_pages xs) (λ p. dimmers p ∷ []) (head_field (w ∷ ws) xs o)
  item_told Subs xs o = kind_told d (w ∷ ws) Sub xs o
  item_told LocalItem xs o = tt
  item_told Other xs o = λ c. unknown_blamed

  -- ---- the families: passed over, skipped with what follows, skipped, or told
  module _ {X : Type 0} (s : State) where
    by_open : (o : Open) → s.«open» ≡ o → (e : Secondary) → (s.«open» ≡ Skipping → X) → (AskTold d (w ∷ ws) (secondary_ask d s.key o e w ws) → X) → X
    unfolding secondary_ask
    by_open Nothing h e skipped told = told (λ c. secondary_blamed)
    by_open Skipping h e skipped told = skipped h
    by_open (Memory k) h e skipped told =
        told
        (by_test (AskTold d (w ∷ ws)) (augments k e) (obeyed_ask d (name k s.key) e ws) (rests (Dropped (blame w wrong_secondary)))
        (λ a. obeyed_told d (w ∷ ws) (name k s.key) e ws (behind_fields w ws))
        (λ a c. secondary_blamed))

    pub by_family : (f : Family) → (f ≡ Basically PassedOver → X) → (f ≡ Basically Local → X)
        → ((e : Secondary) → f ≡ Augments e → s.«open» ≡ Skipping → X) → (AskTold d (w ∷ ws) (family_ask d s f w ws) → X) → X
    unfolding family_ask basic_ask
    by_family (Primary k) over local skipped told = told (primary_told k)
    by_family (Augments e) over local skipped told = by_open s.«open» refl e (skipped e refl) told
    by_family (Basically Ident) over local skipped told =
        told (ident_told d (w ∷ ws) (head_of ws) (version_of (head_of ws).chars) (head_field (w ∷ ws) ws (behind_fields w ws)))
    by_family (Basically Clear) over local skipped told =
        told (item_told (item_of (head_of ws).chars) (tail_of ws) (tail_fields (w ∷ ws) ws (behind_fields w ws)))
    by_family (Basically Patch) over local skipped told =
        told
        (triples_ask_told d (w ∷ ws) (head_of ws) (page_of d.patch_pages (head_of ws).chars) (tail_of ws) (head_field (w ∷ ws) ws (behind_fields w ws))
        (tail_fields (w ∷ ws) ws (behind_fields w ws)))
    by_family (Basically Enddata) over local skipped told = told (λ h. absurd (omega arith))
    by_family (Basically PassedOver) over local skipped told = over refl
    by_family (Basically Local) over local skipped told = local refl
    by_family (Basically Unknown) over local skipped told = told (λ c. unknown_blamed)

-- ---- passed over, or skipped: no report, and no byte changed
module _ (d : Desk) (s : State) (t : List ℕ) (w : Word) (ws : List Word) {f : Family} where
  pub over_passed : f ≡ Basically PassedOver → acted d s t (family_ask d s f w ws) ≡ ended s Passed t
  unfolding acted family_ask basic_ask
  over_passed e = ap (λ (x : Family). acted d s t (family_ask d s x w ws)) e

  pub local_passed : f ≡ Basically Local → acted d s t (family_ask d s f w ws) ≡ ended skipping Passed t
  unfolding acted family_ask basic_ask
  local_passed e = ap (λ (x : Family). acted d s t (family_ask d s x w ws)) e

  pub skipped_passed : (e : Secondary) → f ≡ Augments e → s.«open» ≡ Skipping → acted d s t (family_ask d s f w ws) ≡ ended s Passed t
  unfolding acted family_ask secondary_ask
  skipped_passed e h o =
      ap (λ (x : Family). acted d s t (family_ask d s x w ws)) h ∙ ap (λ (x : Open). acted d s t (secondary_ask d s.key x e w ws)) o

-- ---- what a step that is told comes to
module _ (d : Desk) (s : State) (t : List ℕ) where
  full_blamed : (fs : List Word) (k : Kind) → Blamed fs (blame_none (full_of k))
  unfolding full_of blames_keyword has
  full_blamed fs Cue = none_blamed fs 21 (lit< tt, refl)
  full_blamed fs Group = none_blamed fs 22 (lit< tt, refl)
  full_blamed fs Sub = none_blamed fs 44 (lit< tt, refl)

  opened_told : (fs : List Word) (k : Kind) (y : Key) (a : Found) → OutcomeTold d fs (opened_by d k y a t).outcome
  unfolding opened_by
  opened_told fs k y (at i) = tt
  opened_told fs k y nowhere = λ c. full_blamed fs k

  pub acted_told : (fs : List Word) (a : Ask) → AskTold d fs a → OutcomeTold d fs (acted d s t a).outcome
  unfolding acted
  acted_told fs (rests o) h = h
  acted_told fs (skips o) h = h
  acted_told fs (opens k y) h = opened_told fs k y (seat d t (name k y))
  acted_told fs (edits n e) h = tt
  acted_told fs (items target es) h = tt
  acted_told fs (clears ws) h = tt

  -- only an obeyed record has items, and so faults of its items
  opened_faults : (k : Kind) (y : Key) (a : Found) → (opened_by d k y a t).faults ≡ []
  unfolding opened_by
  opened_faults k y (at i) = refl
  opened_faults k y nowhere = refl

  pub acted-faults : (a : Ask) → ((acted d s t a).outcome ≡ Obeyed → ⊥) → (acted d s t a).faults ≡ []
  unfolding acted
  acted-faults (rests o) h = refl
  acted-faults (skips o) h = refl
  acted-faults (opens k y) h = opened_faults k y (seat d t (name k y))
  acted-faults (edits n e) h = refl
  acted-faults (items target es) h = absurd (h refl)
  acted-faults (clears ws) h = refl

-- ---- each fault that is reported blames a field of its record, or none
one_blamed : (fs : List Word) (b : Bool) (f : Fault) → (b ≡ true → Blamed fs f) → AllBlamed fs (one_if b f)
unfolding AllBlamed
one_blamed fs true f h = (h refl, tt)
one_blamed fs false f h = tt

entries_blamed : (fs : List Word) (es : List Entry) → EntriesTold fs es → AllBlamed fs (faults_of es)
unfolding faults_of AllBlamed
entries_blamed fs [] h = tt
entries_blamed fs (Level n v ∷ es) h = entries_blamed fs es h.1
entries_blamed fs (Patched n k v ∷ es) h = entries_blamed fs es h.1
entries_blamed fs (Faulty f ∷ es) h = (h.0, entries_blamed fs es h.1)

module _ (d : Desk) (cues : 0 < d.cues) (s : State) (t : List ℕ) where
  outcome_blamed : (fs : List Word) (o : Outcome) → OutcomeTold d fs o → AllBlamed fs (outcome_faults o)
  unfolding outcome_faults AllBlamed
  outcome_blamed fs Blank h = tt
  outcome_blamed fs Passed h = tt
  outcome_blamed fs (Dropped f) h = (h cues, tt)
  outcome_blamed fs Obeyed h = tt
  outcome_blamed fs (Stopped f) h = one_blamed fs (ltb 0 f.condition) f (λ e. h (ltb-true 0 f.condition e))

  faults_blamed : (fs : List Word) (a : Ask) → AskTold d fs a → AllBlamed fs (acted d s t a).faults
  unfolding acted AllBlamed
  faults_blamed fs (rests o) h = tt
  faults_blamed fs (skips o) h = tt
  faults_blamed fs (opens k y) h = subst (AllBlamed fs) (sym (opened_faults d s t k y (seat d t (name k y)))) tt
  faults_blamed fs (edits n e) h = tt
  faults_blamed fs (items target es) h = entries_blamed fs es h
  faults_blamed fs (clears ws) h = tt

  ask_blamed : (fs : List Word) (a : Ask) → AskTold d fs a → AllBlamed fs (said_by (acted d s t a))
  ask_blamed fs a h =
      blamed_join fs (outcome_faults (acted d s t a).outcome) (acted d s t a).faults (outcome_blamed fs _ (acted_told d s t fs a h)) (faults_blamed fs a h)

  passed_blamed : (fs : List Word) (x : Step) (p : State) → x ≡ ended p Passed t → AllBlamed fs (said_by x)
  unfolding outcome_faults AllBlamed
  passed_blamed fs x p e = subst (λ (y : Step). AllBlamed fs (said_by y)) (sym e) tt

  family_blamed : (w : Word) (ws : List Word) (f : Family) → AllBlamed (w ∷ ws) (said_by (acted d s t (family_ask d s f w ws)))
  family_blamed w ws f =
      by_family d w ws s f
      (λ e. passed_blamed (w ∷ ws) _ s (over_passed d s t w ws e))
      (λ e. passed_blamed (w ∷ ws) _ skipping (local_passed d s t w ws e))
      (λ x e o. passed_blamed (w ∷ ws) _ s (skipped_passed d s t w ws x e o))
      (λ h. ask_blamed (w ∷ ws) (family_ask d s f w ws) h)

  -- a load with translation blames as every load does, but for a primary beyond the last page
  anew_blamed : (b : Numbers) (w : Word) (ws : List Word) (f : Family) → AllBlamed (w ∷ ws) (said_by (acted d s t (anew_family_ask d b s f w ws)))
  unfolding anew_family_ask family_ask
  anew_blamed b w ws (Primary k) = ask_blamed (w ∷ ws) (anew_primary_ask d b k w ws) (anew_primary_told d w ws b k)
  anew_blamed b w ws (Augments e) =
      by_test (λ (a : Ask). AllBlamed (w ∷ ws) (said_by (acted d s t a))) (asks_link s.«open» e) (rests Obeyed) (secondary_ask d s.key s.«open» e w ws)
      (λ h. ask_blamed (w ∷ ws) (rests Obeyed) tt)
      (λ h. family_blamed w ws (Augments e))
  anew_blamed b w ws (Basically x) =
      let i : Item = item_of (head_of ws).chars in
      by_test (λ (a : Ask). AllBlamed (w ∷ ws) (said_by (acted d s t a))) (is_clear x) (item_ask d i w []) (basic_ask d x w ws)
      (λ h. ask_blamed (w ∷ ws) (item_ask d i w []) (item_told d w ws i [] (λ n. missing_field (w ∷ ws))))
      (λ h. family_blamed w ws (Basically x))

  fields_blamed : (b : Numbers) (fs : List Word) → AllBlamed fs (said_by (text_step d b s fs t))
  unfolding fields_ask_in family_ask_in acted outcome_faults AllBlamed
  fields_blamed b [] = tt
  fields_blamed b (w ∷ ws) =
      let f : Family = family_of (keyword_of w.chars) in
      by_test (λ (a : Ask). AllBlamed (w ∷ ws) (said_by (acted d s t a))) b.anew (anew_family_ask d b s f w ws) (family_ask d s f w ws)
      (λ e. anew_blamed b w ws f)
      (λ e. family_blamed w ws f)

  -- so that no place is past the text
  pub said_in_near : (b : Numbers) (text : List ℕ) → Near (length text) (said_by (text_step d b s (words_of 0 text) t))
  unfolding AllBlamed Near
  said_in_near b text = near (said_by (text_step d b s (words_of 0 text) t)) (fields_blamed b (words_of 0 text))
    where
      near : (xs : List Fault) → AllBlamed (words_of 0 text) xs → Near (length text) xs
      near [] h = tt
      near (x ∷ xs) h = (subst (λ (k : ℕ). k ≤ length text) (sym h.0.place) (place_within text h.0.index), near xs h.1)

  ignored_blamed : (fs : List Word) (r : List ℕ) → AllBlamed fs (ignored_in r)
  unfolding ignored_in blames_keyword has
  ignored_blamed fs r =
      blamed_join fs (one_if (has is_high r) (blame_none ignored_high)) (one_if (has is_control r) (blame_none ignored_control))
      (one_blamed fs (has is_high r) (blame_none ignored_high) (λ h. none_blamed fs ignored_high (lit< tt, refl)))
      (one_blamed fs (has is_control r) (blame_none ignored_control) (λ h. none_blamed fs ignored_control (lit< tt, refl)))

  long_blamed : (fs : List Word) → AllBlamed fs (blame_none over_long_record ∷ [])
  unfolding AllBlamed blames_keyword has
  long_blamed fs = (none_blamed fs over_long_record (lit< tt, refl), tt)

  pub step_in_blamed : (b : Numbers) (r : List ℕ) → AllBlamed (fields_of r) (reported_of r (step_in d b s r t))
  unfolding reported_of step_in ask_in
  step_in_blamed b r =
      by_bool (is_over_long r)
      (λ e. unfold acted outcome_faults in rw e (long_blamed (fields_of r)))
      (λ e.
      rw e
      (blamed_join (fields_of r) (ignored_in r) (said_by (text_step d b s (fields_of r) t)) (ignored_blamed (fields_of r) r) (fields_blamed b (fields_of r))))
