-- CLEAR: its page, the tables that have it, what is left open, and the item by which it goes. By cases on the page and the item.
-- Assumes nothing.
use Rattle.std.specs.Prelude.{None, Option, Some}
use mathlib.Core.Path.{◌≡◌, sym, ap, ◌∙◌, subst}
use mathlib.Core.Bool.{Bool, true, false, cond}
use mathlib.Core.List.{List, [], ◌∷◌, ◌++◌}
use Prim.Native.Nat.{ℕ, ◌+◌, ◌≤◌, ◌<◌}
use native.Mathlib.Omega.{arith}
use lib.ListN.{length}
use borrow.Author.Tests.{le-ltb}
use Rattle.cells.proofs.Split.{by_test, cond-true, cond-false}
use Rattle.store_desk.specs.declared.Desk.{Desk}
use Rattle.store_desk.specs.declared.Kind.{Kind}
use Rattle.store_desk.specs.declared.Kind.TheVariants.{Cue, Group, Sub}
use Rattle.store_desk.specs.Size.{most_pages, InRange}
use Rattle.store_desk.specs.Name.{pages_of, supported}
use Rattle.store_desk.proofs.Name.{pages_le}
use Rattle.text_fields.specs.declared.Item.{Item}
use Rattle.text_fields.specs.declared.Item.TheVariants.{Other}
use Rattle.text_fields.specs.declared.SaidItem.{SaidItem}
use Rattle.text_fields.specs.Words.{Word, head_of, tail_of}
use Rattle.text_fields.specs.Places.{words_from, start_at, end_at}
use Rattle.text_fields.specs.Keywords.{item_of}
use Rattle.text_fields.specs.Tables.{said_item_at}
use Rattle.text_fields.proofs.Words.{start_from, start_within, end_within, words_none, words_tail, said_item_head}
use Rattle.store.specs.Change.{every_page, cleared, cleared_patch}
use Rattle.load.specs.declared.Fault.{Fault}
use Rattle.load.specs.declared.State.{State}
use Rattle.load.specs.declared.Outcome.TheVariants.{Dropped, Obeyed}
use Rattle.load.specs.Condition.{bad_page, unknown_item}
use Rattle.load.specs.Item.{blame}
use Rattle.load.specs.Ask.{Wipe, table, dimmers, rests, clears, page_at, paged_ask, kind_ask, dimmers_ask, table_pages}
use Rattle.load.specs.Fits.{highest_page, clear_ask_in}
use Rattle.load.specs.Ask.{kind_wipes, dimmer_wipes, all_wipes, all_ask, item_ask}
use Rattle.load.proofs.Tables.{kind_has, kind_lacks, dimmers_have as patch-has, dimmers_lack as patch-lacks, all_ask_lem}
use Rattle.load.specs.Step.{ended, settle, wiped, acted}
use Rattle.load.proofs.Wiped.{wiped_join}
use Rattle.load_naming.specs.Line.{Line}
use Rattle.load.proofs.Read.{PageIn, page_at_in}
use Rattle.load_held.specs.declared.Stepped.{Stepped}
use Rattle.load_held.specs.Held.{stepping, stepped_of}
use Rattle.load_held.specs.Parts.{keyword_in}

-- ---- pages within a table's fit the page's six bits
pub page_le : (limit : ℕ) (ws : List Word) {x : Option ℕ} {p : ℕ} → x ≡ page_at every_page limit ws → x ≡ Some p → p ≤ limit
page_le limit ws e g =
    (subst (λ (x : Option ℕ). PageIn 0 limit x) (sym e ∙ g) (page_at_in 0 every_page limit (omega arith) (omega arith) ws)).1

pub kind_page : (d : Desk) (k : Kind) → InRange d → (ws : List Word) {limit : ℕ} {x : Option ℕ} {p : ℕ} → limit ≡ pages_of d k
    → x ≡ page_at every_page limit ws → x ≡ Some p → p < most_pages + 1
kind_page d k r ws {limit} l e g =
    let a = page_le limit ws e g in
    let b = pages_le d r k in
    omega arith

pub table_page : (d : Desk) (k : Kind) → InRange d → {n p : ℕ} → n ≡ table_pages d k → p ≤ n → p < most_pages + 1
unfolding table_pages
table_page d k r {n} {p} e h =
    let b = pages_le d r k in
    let l : table_pages d k ≤ most_pages = by_test (λ (x : ℕ). x ≤ most_pages) (supported d k) (pages_of d k) 0 (λ t. b) (λ t. omega arith) in
    omega arith

-- ---- what is asked: a page that is wrong, and one that is right
module _ (w : Word) (g : ℕ → List Wipe) {x : Option ℕ} where
  pub paged_bad : x ≡ None → {f : Fault} → f ≡ blame w bad_page → rests (Dropped f) ≡ paged_ask w x g
  unfolding paged_ask
  paged_bad e h = ap (λ (y : Fault). rests (Dropped y)) h ∙ sym (ap (λ (y : Option ℕ). paged_ask w y g) e)

  pub paged_good : {p : ℕ} → x ≡ Some p → clears (g p) ≡ paged_ask w x g
  unfolding paged_ask
  paged_good e = sym (ap (λ (y : Option ℕ). paged_ask w y g) e)

-- a kind
abbrev pub one_table : Kind → ℕ → List Wipe
one_table k p = table k p ∷ []

module _ (d : Desk) (k : Kind) (ws : List Word) {b : Bool} (s : b ≡ supported d k) where
  pub kind_unsupported : b ≡ false → rests Obeyed ≡ kind_ask d k ws
  unfolding kind_ask
  kind_unsupported e = sym (cond-false (supported d k) _ _ (sym s ∙ e))

  pub kind_as : b ≡ true → {limit : ℕ} {x : Option ℕ} → limit ≡ pages_of d k → x ≡ page_at every_page limit ws
      → paged_ask (head_of ws) x (one_table k) ≡ kind_ask d k ws
  unfolding kind_ask
  kind_as e l g =
      ap (λ (y : Option ℕ). paged_ask (head_of ws) y (one_table k)) (g ∙ ap (λ (y : ℕ). page_at every_page y ws) l)
      ∙ sym (cond-true (supported d k) _ _ (sym s ∙ e))

-- the patch, all tables
abbrev pub one_patch_of : ℕ → List Wipe
one_patch_of p = dimmers p ∷ []

pub dimmers_as : (d : Desk) (ws : List Word) {x : Option ℕ} → x ≡ page_at every_page d.patch_pages ws
    → paged_ask (head_of ws) x one_patch_of ≡ dimmers_ask d ws
unfolding dimmers_ask
dimmers_as d ws g = ap (λ (y : Option ℕ). paged_ask (head_of ws) y one_patch_of) g

pub all_as : (d : Desk) (ws : List Word) {limit : ℕ} {x : Option ℕ} → limit ≡ highest_page d → x ≡ page_at every_page limit ws
    → paged_ask (head_of ws) x (all_wipes d) ≡ all_ask d ws
all_as d ws l g =
    ap (λ (y : Option ℕ). paged_ask (head_of ws) y (all_wipes d)) (g ∙ ap (λ (y : ℕ). page_at every_page y ws) l) ∙ sym (all_ask_lem d ws)

-- ---- what the store does with it
module _ (d : Desk) (s : State) (t : List ℕ) {u : List ℕ} {r : Stepped} (z : stepping r u ≡ stepped_of d (ended (settle d s u) Obeyed u)) where
  pub clears_as : (xs : List Wipe) → u ≡ wiped d xs t → stepping r u ≡ stepped_of d (acted d s t (clears xs))
  unfolding acted
  clears_as xs q = z ∙ ap (λ (y : List ℕ). stepped_of d (ended (settle d s y) Obeyed y)) q

  pub table_cleared : (k : Kind) (p : ℕ) → u ≡ cleared d t k p → stepping r u ≡ stepped_of d (acted d s t (clears (one_table k p)))
  unfolding wiped
  table_cleared k p q = clears_as (one_table k p) q

  pub patch_cleared : (p : ℕ) → u ≡ cleared_patch d t p → stepping r u ≡ stepped_of d (acted d s t (clears (one_patch_of p)))
  unfolding wiped
  patch_cleared p q = clears_as (one_patch_of p) q

-- ---- a table that has the page, and one that has it not
module _ (d : Desk) (k : Kind) (p : ℕ) (t : List ℕ) {n : ℕ} (e : n ≡ table_pages d k) where
  pub table_has : {u : List ℕ} → p ≤ n → u ≡ cleared d t k p → u ≡ wiped d (kind_wipes d p k) t
  unfolding wiped
  table_has h q = q ∙ sym (ap (λ (xs : List Wipe). wiped d xs t) (kind_has d p k (subst (λ (m : ℕ). p ≤ m) e h)))

  pub table_lacks : n < p → t ≡ wiped d (kind_wipes d p k) t
  unfolding wiped
  table_lacks h = sym (ap (λ (xs : List Wipe). wiped d xs t) (kind_lacks d p k (subst (λ (m : ℕ). m < p) e h)))

module _ (d : Desk) (p : ℕ) (t : List ℕ) where
  pub dimmers_have : {u : List ℕ} → p ≤ d.patch_pages → u ≡ cleared_patch d t p → u ≡ wiped d (dimmer_wipes d p) t
  unfolding wiped
  dimmers_have h q = q ∙ sym (ap (λ (xs : List Wipe). wiped d xs t) (patch-has d p h))

  pub dimmers_lack : d.patch_pages < p → t ≡ wiped d (dimmer_wipes d p) t
  unfolding wiped
  dimmers_lack h = sym (ap (λ (xs : List Wipe). wiped d xs t) (patch-lacks d p h))

  pub tables_are : {a b c u : List ℕ} → a ≡ wiped d (dimmer_wipes d p) t → b ≡ wiped d (kind_wipes d p Cue) a
      → c ≡ wiped d (kind_wipes d p Group) b → u ≡ wiped d (kind_wipes d p Sub) c → u ≡ wiped d (all_wipes d p) t
  unfolding all_wipes
  tables_are x y z w =
      let cues : List Wipe = kind_wipes d p Cue in
      let groups : List Wipe = kind_wipes d p Group in
      let subs : List Wipe = kind_wipes d p Sub in
      w
      ∙ ap (λ (v : List ℕ). wiped d subs v) (z ∙ ap (λ (v : List ℕ). wiped d groups v) (y ∙ ap (λ (v : List ℕ). wiped d cues v) x))
      ∙ sym (wiped_join d (dimmer_wipes d p) (cues ++ (groups ++ subs)) t
      ∙ wiped_join d cues (groups ++ subs) _
      ∙ wiped_join d groups subs _)

-- ---- where its page is: behind the item, or, where pages are ignored, at the end of the text, behind which there is no field
module _ (text : List ℕ) (end : ℕ) {every : Bool} where
  pub page_ignored : every ≡ true → words_from text (length text) ≡ cond every [] (words_from text end)
  page_ignored e =
      words_none text (length text) (le-ltb (start_at text (length text)) (length text) (start_from text (length text)))
      ∙ sym (cond-true every [] (words_from text end) e)

  pub page_behind : every ≡ false → words_from text end ≡ cond every [] (words_from text end)
  page_behind e = sym (cond-false every [] (words_from text end) e)

-- ---- by the item
pub item_start : {text : List ℕ} {place start : ℕ} → start ≡ start_at text place → Line text place → start ≤ length text
item_start {text} {place} e l = subst (λ (n : ℕ). n ≤ length text) (sym e) (start_within text place l.within)

pub item_other : (d : Desk) (w : Word) (ws : List Word) {f : Fault} → f ≡ blame w unknown_item → rests (Dropped f) ≡ item_ask d Other w ws
unfolding item_ask
item_other d w ws e = ap (λ (x : Fault). rests (Dropped x)) e

module _ (text : List ℕ) (place : ℕ) {start : ℕ} {said : SaidItem} (e : start ≡ start_at text place) (g : said ≡ said_item_at text start) where
  item-said : said ≡ record { item = item_of (head_of (words_from text place)).chars; end = end_at text place }
  item-said = g ∙ said_item_head text place e

  pub item_line : Line text place → Line text said.end
  item_line l =
      record {
        within = subst (λ (y : SaidItem). y.end ≤ length text) (sym item-said) (end_within text place l.within);
        short = l.short;
      }

  -- its page is from q on
  pub clear_as : (d : Desk) (every : Bool) (q : ℕ) → words_from text q ≡ cond every [] (words_from text said.end) → {y : Item} → said.item ≡ y
      → item_ask d y (keyword_in text) (words_from text q) ≡ clear_ask_in every d (keyword_in text) (words_from text place)
  clear_as d every q p k =
      let a : item_of (head_of (words_from text place)).chars ≡ said.item = sym (ap (λ (y : SaidItem). y.item) item-said) in
      let b : tail_of (words_from text place) ≡ words_from text said.end =
      words_tail text place ∙ sym (ap (λ (y : SaidItem). words_from text y.end) item-said) in
      let c : words_from text q ≡ cond every [] (tail_of (words_from text place)) = p ∙ sym (ap (λ (ws : List Word). cond every [] ws) b) in
      λ i. item_ask d (sym (a ∙ k) i) (keyword_in text) (c i)
