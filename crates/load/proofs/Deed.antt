-- What a record asks for, with what holds of it: by what its keyword begins, once; every law of a step is then by these seven cases.
-- Assumes nothing.
use Rattle.std.specs.Prelude.{Err, None, Ok, Option, Result, Some}
use mathlib.Core.Path.{◌≡◌, refl, sym, subst}
use mathlib.Core.Bool.{true, false}
use mathlib.Core.List.{List, [], ◌∷◌, ◌++◌}
use Prim.Native.Nat.{ℕ, ◌+◌, ◌*◌, ◌≤◌, ◌<◌}
use native.Mathlib.Omega.{arith}
use lib.Dec.{leb, lit<}
use lib.ListN.{length}
use borrow.Author.Tests.{leb-true}
use Rattle.cells.proofs.Split.{by_test}
use Rattle.store_desk.specs.declared.Desk.{Desk}
use Rattle.store_desk.specs.declared.Key.{Key}
use Rattle.store_desk.specs.declared.Kind.{Kind}
use Rattle.store_desk.specs.declared.Kind.TheVariants.{Cue, Group, Sub}
use Rattle.store_desk.specs.Size.{Within, InRange}
use Rattle.store_desk.specs.Name.{pages_of, supported, ok_name}
use Rattle.text_fields.specs.declared.Item.{Item}
use Rattle.text_fields.specs.declared.Item.TheVariants.{All, Cues, Groups, Patch as Patches, Subs, Local as LocalItem, Other}
use Rattle.text_fields.specs.Words.{Word, fields_of, head_of, tail_of}
use Rattle.text_fields.specs.Keywords.{keyword_of, item_of}
use Rattle.value.specs.Field.{version_of, page_of}
use Rattle.store.specs.declared.Edit.{Edit}
use Rattle.store.specs.Change.{every_page}
use Rattle.load.specs.declared.Fault.{Fault}
use Rattle.load.specs.declared.Entry.{Entry}
use Rattle.load.specs.declared.Open.{Open}
use Rattle.load.specs.declared.Open.TheVariants.{Nothing, Skipping, Memory}
use Rattle.load.specs.declared.State.{State}
use Rattle.load.specs.declared.Outcome.{Outcome}
use Rattle.load.specs.declared.Outcome.TheVariants.{Blank, Passed, Obeyed, Dropped, Stopped}
use Rattle.load.specs.declared.Secondary.{Secondary}
use Rattle.load.specs.declared.Secondary.TheVariants.{Chan, Up, Down, Followon, Link}
use Rattle.load.specs.declared.Family.{Family}
use Rattle.load.specs.declared.Family.TheVariants.{Primary, Augments, Basic as Basically}
use Rattle.load.specs.declared.Basic.{Basic}
use Rattle.load.specs.declared.Basic.TheVariants.{Ident, Clear, Patch, Enddata, Passed as PassedOver, Local, Unknown}
use Rattle.load.specs.Condition.{full_of, unsupported_of, wrong_secondary, over_long_record, ident_mismatch}
use Rattle.load.specs.Item.{blame, blame_none, memory, page, pairs_of, triples_of}
use Rattle.load.specs.Ask.{Wipe, table, dimmers, Ask, rests, skips, opens, edits, items, clears, name}
use Rattle.load.specs.Ask.{named_of, named_ask, primary_ask, augments, times_of, change_ask, obeyed_ask, secondary_ask, page_at, paged_ask, kind_ask, dimmers_ask, all_ask}
use Rattle.load.specs.Ask.{table_pages, kind_wipes, dimmer_wipes, all_wipes, item_ask, triples_ask, is_three, ident_outcome}
use Rattle.load.specs.Ask.{family_of, basic_ask, family_ask, fields_ask, is_over_long, ask_of}
use Rattle.load.specs.Fits.{AllFit, highest_page}
use Rattle.load.specs.Run.{condition_span, stops}
use Rattle.load.proofs.Entries.{pairs_fit, triples_fit, pairs_few, triples_few}
use Rattle.load.proofs.Tables.{all_ask_lem}
use Rattle.load.proofs.Read.{NamedOk, named_ok, PageIn, page_in, page_at_in, ChangeOk, ReadingOk, reading_ok}
use Rattle.value.specs.declared.Version.{Version}

-- ---- what holds of it

-- the condition of an outcome fits a report
abbrev pub OutcomeFits : Outcome → Type 0
OutcomeFits Blank = Unit {0}
OutcomeFits Passed = Unit {0}
OutcomeFits (Dropped f) = f.condition < condition_span
OutcomeFits Obeyed = Unit {0}
OutcomeFits (Stopped f) = f.condition < condition_span

-- not obeyed, and the load goes on
abbrev pub Idles : Outcome → Type 0
Idles o = (o ≡ Obeyed → ⊥) × (stops o ≡ false)

-- each page is one of its table's, or every page
abbrev pub WipeFits : Desk → Wipe → Type 0
WipeFits d (table k p) = p ≤ pages_of d k
WipeFits d (dimmers p) = p ≤ d.patch_pages

abbrev pub WipesFit : Desk → List Wipe → Type 0
WipesFit d [] = Unit {0}
WipesFit d (w ∷ ws) = WipeFits d w × WipesFit d ws

-- of a record with n fields behind its keyword
pub data Deed (d : Desk) (s : State) (n : ℕ) : Ask → Type 0 where
  resting : (o : Outcome) → OutcomeFits o → Deed d s n (rests o)
  skipping : (o : Outcome) → OutcomeFits o → Idles o → Deed d s n (skips o)
  opening : (k : Kind) (y : Key) → (InRange d → ok_name d (name k y) ≡ true) → Deed d s n (opens k y)
  editing : (k : Kind) → s.«open» ≡ Memory k → (e : Edit) → ChangeOk k e → Deed d s n (edits (name k s.key) e)
  setting : (k : Kind) → s.«open» ≡ Memory k → (es : List Entry) → AllFit d es → 2 * length es ≤ n + 1
      → Deed d s n (items (memory (name k s.key)) es)
  patching : (p : ℕ) → Within 1 p d.patch_pages → (es : List Entry) → AllFit d es → 2 * length es ≤ n + 1
      → Deed d s n (items (page p) es)
  clearing : (xs : List Wipe) → WipesFit d xs → Deed d s n (clears xs)

-- ---- conditions that fit
pub full_fits : (k : Kind) → full_of k < condition_span
unfolding full_of
full_fits Cue = lit< tt
full_fits Group = lit< tt
full_fits Sub = lit< tt

pub unsupported_fits : (k : Kind) → unsupported_of k < condition_span
unfolding unsupported_of
unsupported_fits Cue = lit< tt
unsupported_fits Group = lit< tt
unsupported_fits Sub = lit< tt

pub dropped_idles : (f : Fault) → Idles (Dropped f)
unfolding stops
dropped_idles f = ((λ e. let z : ◌≡◌ {A = ℕ} 0 1 = cc in absurd (omega arith)), refl)

passed_idles : Idles Passed
unfolding stops
passed_idles = ((λ e. let z : ◌≡◌ {A = ℕ} 0 1 = cc in absurd (omega arith)), refl)

-- ---- CLEAR ALL: the tables that have the page
table_pages_lem : (d : Desk) (k : Kind) → table_pages d k ≤ pages_of d k
unfolding table_pages
table_pages_lem d k = by_test (λ (x : ℕ). x ≤ pages_of d k) (supported d k) (pages_of d k) 0 (λ e. omega arith) (λ e. omega arith)

kind_wipes_lem : (d : Desk) (p : ℕ) (k : Kind) → WipesFit d (kind_wipes d p k)
unfolding kind_wipes
kind_wipes_lem d p k =
    by_test (WipesFit d) (leb p (table_pages d k)) (table k p ∷ []) []
    (λ e.
    let h = leb-true p (table_pages d k) e in
    let g = table_pages_lem d k in
    ((let l : p ≤ pages_of d k = omega arith in l), tt))
    (λ e. tt)

dimmer_wipes_lem : (d : Desk) (p : ℕ) → WipesFit d (dimmer_wipes d p)
unfolding dimmer_wipes
dimmer_wipes_lem d p =
    by_test (WipesFit d) (leb p d.patch_pages) (dimmers p ∷ []) [] (λ e. (leb-true p d.patch_pages e, tt)) (λ e. tt)

both_wipes : (d : Desk) (a b : List Wipe) → WipesFit d a → WipesFit d b → WipesFit d (a ++ b)
both_wipes d [] b h g = g
both_wipes d (w ∷ a) b h g = (h.0, both_wipes d a b h.1 g)

all_wipes_lem : (d : Desk) (p : ℕ) → WipesFit d (all_wipes d p)
unfolding all_wipes
all_wipes_lem d p =
    let c : List Wipe = kind_wipes d p Cue in
    let g : List Wipe = kind_wipes d p Group in
    let u : List Wipe = kind_wipes d p Sub in
    both_wipes d (dimmer_wipes d p) (c ++ (g ++ u)) (dimmer_wipes_lem d p)
    (both_wipes d c (g ++ u) (kind_wipes_lem d p Cue) (both_wipes d g u (kind_wipes_lem d p Group) (kind_wipes_lem d p Sub)))

module _ (d : Desk) (s : State) (n : ℕ) where
  -- ---- primaries
  pub named_deed : (k : Kind) (x : Result Key Fault) → NamedOk d k x → Deed d s n (named_ask k x)
  unfolding named_ask
  named_deed k (Err f) h = skipping (Dropped f) h (dropped_idles f)
  named_deed k (Ok y) h = opening k y h

  pub primary_deed : (k : Kind) (w : Word) (ws : List Word) → Deed d s n (primary_ask d k w ws)
  unfolding primary_ask
  primary_deed k w ws =
      let f : Fault = blame w (unsupported_of k) in
      by_test (Deed d s n) (supported d k) (named_ask k (named_of d k ws)) (skips (Dropped f))
      (λ e. named_deed k (named_of d k ws) (named_ok d k e ws))
      (λ e. skipping (Dropped f) (unsupported_fits k) (dropped_idles f))

  -- ---- CLEAR
  paged_deed : (limit : ℕ) (w : Word) (x : Option ℕ) → PageIn every_page limit x → (f : ℕ → List Wipe) → ((p : ℕ) → p ≤ limit → WipesFit d (f p))
      → Deed d s n (paged_ask w x f)
  unfolding paged_ask
  paged_deed limit w None h f g = resting (Dropped _) (lit< tt)
  paged_deed limit w (Some p) h f g = clearing (f p) (g p h.1)

  at_deed : (limit : ℕ) (ws : List Word) (f : ℕ → List Wipe) → ((p : ℕ) → p ≤ limit → WipesFit d (f p))
      → Deed d s n (paged_ask (head_of ws) (page_at every_page limit ws) f)
  at_deed limit ws f g = paged_deed limit (head_of ws) (page_at every_page limit ws) (page_at_in every_page every_page limit (omega arith) (omega arith) ws) f g

  pub kind_deed : (k : Kind) (ws : List Word) → Deed d s n (kind_ask d k ws)
  unfolding kind_ask
  kind_deed k ws =
      by_test (Deed d s n) (supported d k) (paged_ask (head_of ws) (page_at every_page (pages_of d k) ws) (λ p. table k p ∷ [])) (rests Obeyed)
      (λ e. at_deed (pages_of d k) ws (λ p. table k p ∷ []) (λ p h. (h, tt)))
      (λ e. resting Obeyed tt)

  pub dimmers_deed : (ws : List Word) → Deed d s n (dimmers_ask d ws)
  unfolding dimmers_ask
  dimmers_deed ws = at_deed d.patch_pages ws (λ p. dimmers p ∷ []) (λ p h. (h, tt))

  pub all_deed : (ws : List Word) → Deed d s n (all_ask d ws)
  all_deed ws = subst (Deed d s n) (sym (all_ask_lem d ws)) (at_deed (highest_page d) ws (all_wipes d) (λ p h. all_wipes_lem d p))

  pub item_deed : (i : Item) (w : Word) (ws : List Word) → Deed d s n (item_ask d i w ws)
  unfolding item_ask
  item_deed All w ws = all_deed ws
  item_deed Cues w ws = kind_deed Cue ws
  item_deed Groups w ws = kind_deed Group ws
  item_deed Patches w ws = dimmers_deed ws
  item_deed Subs w ws = kind_deed Sub ws
  item_deed LocalItem w ws = resting Obeyed tt
  item_deed Other w ws = resting (Dropped _) (lit< tt)

  ident_deed : (w : Word) (v : Option Version) → Deed d s n (rests (ident_outcome w v))
  unfolding ident_outcome
  ident_deed w None = resting (Stopped _) (lit< tt)
  ident_deed w (Some v) =
      by_test (λ (o : Outcome). Deed d s n (rests o)) (is_three v.major v.minor) Obeyed (Stopped (blame w ident_mismatch))
      (λ e. resting Obeyed tt)
      (λ e. resting (Stopped (blame w ident_mismatch)) (lit< tt))

  -- ---- PATCH
  patch_deed : (w : Word) (x : Option ℕ) → PageIn 1 d.patch_pages x → (ws : List Word) → length ws ≤ n → Deed d s n (triples_ask d w x ws)
  unfolding triples_ask
  patch_deed w None h ws l = resting (Dropped _) (lit< tt)
  patch_deed w (Some p) h ws l = patching p h (triples_of d ws) (triples_fit d ws) (let f = triples_few d ws in omega arith)

-- ---- secondaries
module _ (d : Desk) (s : State) (ws : List Word) where
  changed_deed : (k : Kind) → s.«open» ≡ Memory k → (x : Result Edit Fault) → ReadingOk k x → Deed d s (length ws) (change_ask (name k s.key) x)
  unfolding change_ask
  changed_deed k h (Err f) o = resting (Dropped f) o
  changed_deed k h (Ok e) o = editing k h e o

  obeyed_deed : (k : Kind) → s.«open» ≡ Memory k → (e : Secondary) → augments k e ≡ true → Deed d s (length ws) (obeyed_ask d (name k s.key) e ws)
  unfolding obeyed_ask
  obeyed_deed k h Chan a = setting k h (pairs_of d ws) (pairs_fit d ws) (pairs_few d ws)
  obeyed_deed k h Up a = changed_deed k h (times_of Up ws) (reading_ok k Up a ws)
  obeyed_deed k h Down a = changed_deed k h (times_of Down ws) (reading_ok k Down a ws)
  obeyed_deed k h Followon a = changed_deed k h (times_of Followon ws) (reading_ok k Followon a ws)
  obeyed_deed k h Link a = changed_deed k h (times_of Link ws) (reading_ok k Link a ws)

  pub secondary_deed : (o : Open) → s.«open» ≡ o → (e : Secondary) (w : Word)
      → Deed d s (length ws) (secondary_ask d s.key o e w ws)
  unfolding secondary_ask
  secondary_deed Nothing h e w = resting (Dropped _) (lit< tt)
  secondary_deed Skipping h e w = resting Passed tt
  secondary_deed (Memory k) h e w =
      by_test (Deed d s (length ws)) (augments k e) (obeyed_ask d (name k s.key) e ws) (rests (Dropped (blame w wrong_secondary)))
      (λ a. obeyed_deed k h e a)
      (λ a. resting (Dropped (blame w wrong_secondary)) (lit< tt))

-- ---- the families
pub tail_few : (ws : List Word) → length (tail_of ws) ≤ length ws
tail_few [] = omega arith
tail_few (w ∷ ws) = omega arith

module _ (d : Desk) (s : State) where
  pub basic_deed : (b : Basic) (w : Word) (ws : List Word) → Deed d s (length ws) (basic_ask d b w ws)
  unfolding basic_ask
  basic_deed Ident w ws = ident_deed d s (length ws) (head_of ws) (version_of (head_of ws).chars)
  basic_deed Clear w ws = item_deed d s (length ws) (item_of (head_of ws).chars) w (tail_of ws)
  basic_deed Patch w ws =
      patch_deed d s (length ws) (head_of ws) (page_of d.patch_pages (head_of ws).chars) (page_in 1 d.patch_pages (omega arith) (head_of ws).chars) (tail_of ws)
      (tail_few ws)
  basic_deed Enddata w ws = resting (Stopped _) (lit< tt)
  basic_deed PassedOver w ws = resting Passed tt
  basic_deed Local w ws = skipping Passed tt passed_idles
  basic_deed Unknown w ws = resting (Dropped _) (lit< tt)

  pub family_deed : (f : Family) (w : Word) (ws : List Word) → Deed d s (length ws) (family_ask d s f w ws)
  unfolding family_ask
  family_deed (Primary k) w ws = primary_deed d s (length ws) k w ws
  family_deed (Augments e) w ws = secondary_deed d s ws s.«open» refl e w
  family_deed (Basically b) w ws = basic_deed b w ws

  fields_deed : (ws : List Word) → Deed d s (length (tail_of ws)) (fields_ask d s ws)
  unfolding fields_ask
  fields_deed [] = resting Blank tt
  fields_deed (w ∷ ws) = family_deed (family_of (keyword_of w.chars)) w ws

  pub record_deed : (r : List ℕ) → Deed d s (length (tail_of (fields_of r))) (ask_of d s r)
  unfolding ask_of
  record_deed r =
      by_test (Deed d s (length (tail_of (fields_of r)))) (is_over_long r) (rests (Stopped (blame_none over_long_record))) (fields_ask d s (fields_of r))
      (λ e. resting (Stopped _) (lit< tt))
      (λ e. fields_deed (fields_of r))
