-- PATCH's triples, IDENT's version, what a keyword begins, and a record's first field. By cases on each.
-- Assumes nothing.
use Rattle.std.specs.Prelude.{None, Option, Some}
use mathlib.Core.Path.{◌≡◌, refl, sym, ap, ◌∙◌, subst}
use mathlib.Core.Bool.{Bool, true, false, cond, ◌&&◌}
use mathlib.Core.List.{List, []}
use Prim.Native.Nat.{ℕ, ◌≤◌, ◌<◌}
use native.Mathlib.Omega.{arith}
use lib.Dec.{eqb}
use lib.ListN.{length}
use borrow.Author.Tests.{eq-eqb, ne_eqb, lt-ltb, le-ltb}
use Rattle.cells.proofs.Split.{and_true, and_false_left, and_false_right, cond-true, cond-false}
use Rattle.store_desk.specs.declared.Desk.{Desk}
use Rattle.store_desk.specs.declared.Kind.{Kind}
use Rattle.store_desk.specs.Size.{Within}
use Rattle.text_records.specs.Received.{longest}
use Rattle.text_fields.specs.declared.Field.{Field}
use Rattle.text_fields.specs.declared.Keyword.{Keyword}
use Rattle.text_fields.specs.declared.Said.{Said}
use Rattle.text_fields.specs.Words.{Word, words_of, head_of, tail_of}
use Rattle.text_fields.specs.Places.{words_from, start_at, end_at, is_more, field_at, word_in, word_at}
use Rattle.text_fields.specs.Keywords.{keyword_of, item_of}
use Rattle.text_fields.specs.Tables.{said_at}
use Rattle.text_fields.proofs.Words.{words_none, words_some, words_head}
use Rattle.value.specs.Field.{page_of, version_of}
use Rattle.store_code.specs.Fits.{Fitting}
use Rattle.load_naming.proofs.Fields.{keyword-said}
use Rattle.load_items.specs.declared.Aim.TheVariants.{Page}
use Rattle.load.specs.declared.Entry.{Entry}
use Rattle.load.specs.declared.Fault.{Fault}
use Rattle.load.specs.declared.Numbers.{Numbers}
use Rattle.load.specs.declared.State.{State}
use Rattle.load.specs.declared.Secondary.{Secondary}
use Rattle.load.specs.declared.Outcome.{Outcome}
use Rattle.load.specs.declared.Outcome.TheVariants.{Blank, Dropped, Obeyed, Stopped}
use Rattle.load.specs.Condition.{bad_patch_page, ident_mismatch, unknown_keyword}
use Rattle.load.specs.Item.{blame, blame_none, triples_of, page, all_done}
use Rattle.load.specs.Fits.{blame_field, primary_ask_in, secondary_ask_in, clear_ask_in, basic_ask_in, text_step}
use Rattle.load.specs.Ask.{rests, items, item_ask, triples_ask, patch_ask, is_three, ident_outcome, secondary_ask, family_of, basic_ask, family_ask}
use Rattle.load.specs.Anew.{asks_link, is_clear, anew_family_ask, family_ask_in, fields_ask_in}
use Rattle.load.specs.Step.{nothing_open, acted}
use Rattle.load.proofs.Entries.{triples_fit}
use Rattle.load.proofs.Read.{PageIn, page_in}
use Rattle.load.proofs.Steps.{item_faults}
use Rattle.load.proofs.Counts.{text_in_few}
use Rattle.load_naming.specs.Line.{Line}
use Rattle.load_naming.proofs.Fields.{head_at, tail_at}
use Rattle.load_items.specs.Done.{most_faults}
use Rattle.load_items.specs.Take.{Taken, taken_as, taken_of}
use Rattle.load_items.proofs.Done.{done_page, page-find}
use Rattle.load.specs.declared.Basic.{Basic}
use Rattle.load.specs.declared.Basic.TheVariants.{Ident, Clear, Patch, Enddata, Unknown}
use Rattle.load_held.specs.declared.Did.{Did}
use Rattle.load.specs.declared.Family.{Family}
use Rattle.load.specs.declared.Family.TheVariants.{Primary, Augments, Basic as BasicOf}
use Rattle.load_held.specs.declared.Held.{Held}
use Rattle.load_held.specs.declared.Stepped.{Stepped}
use Rattle.load_held.specs.Held.{held_of, HeldReady, stepping, stepped_of, ResAll, stepping_all, stepped_all}
use Rattle.load_held.specs.Parts.{keyword_in, with_held, did_of, DeedsAll, doing_all, did_all}
use Rattle.load_held.proofs.Holding.{held_stays}
use Rattle.load_held.proofs.Answers.{step_all, asked_all, held_with}
use Rattle.load_step.proofs.Primaries.{primary_all}
use Rattle.load_step.proofs.Secondaries.{secondary_stays}
use Rattle.value.specs.declared.Version.{Version}

-- ---- PATCH
pub patch_page : (limit : ℕ) (w : List ℕ) {x : Option ℕ} {p : ℕ} → x ≡ page_of limit w → x ≡ Some p → Within 1 p limit
patch_page limit w e g = subst (λ (x : Option ℕ). PageIn 1 limit x) (sym e ∙ g) (page_in 1 limit (omega arith) w)

module _ (d : Desk) {text : List ℕ} {place : ℕ} {f : Field} {w : List ℕ} {x : Option ℕ} (l : Line text place)
    (e : f ≡ field_at text place) (g : w ≡ (word_in text f).chars) (h : x ≡ page_of d.patch_pages w) where
  patch_as : {y : Option ℕ} → x ≡ y → triples_ask d (word_in text f) y (words_from text f.end) ≡ patch_ask d (words_from text place)
  patch_as k =
      let a : page_of d.patch_pages w ≡ page_of d.patch_pages (head_of (words_from text place)).chars =
      ap (λ (v : List ℕ). page_of d.patch_pages v) g ∙ sym (ap (λ (v : Word). page_of d.patch_pages v.chars) (head_at l e)) in
      let b : words_from text f.end ≡ tail_of (words_from text place) = sym (tail_at l e) in
      let c : word_in text f ≡ head_of (words_from text place) = sym (head_at l e) in
      λ i. triples_ask d (c i) ((sym k ∙ h ∙ a) i) (b i)

  pub patch_bad : x ≡ None → {r : Fault} → r ≡ blame_field f bad_patch_page → rests (Dropped r) ≡ patch_ask d (words_from text place)
  unfolding triples_ask
  patch_bad k q = ap (λ (y : Fault). rests (Dropped y)) q ∙ patch_as k

  pub patch_items : {p : ℕ} → x ≡ Some p → items (page p) (triples_of d (words_from text f.end)) ≡ patch_ask d (words_from text place)
  unfolding triples_ask
  patch_items k = patch_as k

-- what the store does with them
pub patched_did : (d : Desk) (s : State) (t : List ℕ) (ws : List Word) (fs : List ℕ) (p : ℕ) {n : ℕ} {u us : List ℕ}
    → taken_as n u us ≡ taken_of d (Page p) t fs (triples_of d ws)
    → doing_all (record { outcome = Obeyed; faults = n }) u us ≡ did_all (acted d s t (items (page p) (triples_of d ws))) fs
unfolding acted did_all did_of taken_of
patched_did d s t ws fs p {n} {u} {us} q =
    let es : List Entry = triples_of d ws in
    let a : u ≡ all_done d (page p) t es = ap (λ (z : Taken). z.store) q ∙ sym (done_page d p es t) in
    λ i. doing_all (record { outcome = Obeyed; faults = (q i).count }) (a i) (q i).faults

-- what was open plays no part, and stays open in its slot
triples_anew : (d : Desk) (s : State) (t fs : List ℕ) (w : Word) (x : Option ℕ) (ws : List Word)
    → did_all (acted d nothing_open t (triples_ask d w x ws)) fs ≡ did_all (acted d s t (triples_ask d w x ws)) fs
unfolding acted did_all did_of triples_ask
triples_anew d s t fs w None ws = refl
triples_anew d s t fs w (Some p) ws = refl

patch_anew : (d : Desk) (s : State) (t fs : List ℕ) (ws : List Word) {q : DeedsAll}
    → q ≡ did_all (acted d nothing_open t (patch_ask d ws)) fs → q ≡ did_all (acted d s t (patch_ask d ws)) fs
patch_anew d s t fs ws z = z ∙ triples_anew d s t fs (head_of ws) (page_of d.patch_pages (head_of ws).chars) (tail_of ws)

module _ (d : Desk) (t : List ℕ) {h : Held} (g : HeldReady d t h) (f : Fitting d t) where
  triples_stay : (w : Word) (x : Option ℕ) → PageIn 1 d.patch_pages x → (ws : List Word)
      → h ≡ held_of d (acted d h.state t (triples_ask d w x ws)).store (acted d h.state t (triples_ask d w x ws)).state
  unfolding acted triples_ask
  triples_stay w None r ws = g.same
  triples_stay w (Some p) r ws =
      held_stays d t (all_done d (page p) t (triples_of d ws)) (page-find d t f p r (triples_of d ws) (triples_fit d ws)) g.same

  patch_stays : (ws : List Word) → h ≡ held_of d (acted d h.state t (patch_ask d ws)).store (acted d h.state t (patch_ask d ws)).state
  patch_stays ws =
      triples_stay (head_of ws) (page_of d.patch_pages (head_of ws).chars) (page_in 1 d.patch_pages (omega arith) (head_of ws).chars) (tail_of ws)

-- ---- IDENT
no_version : (v : Option Version) → ((x : Version) → v ≡ Some x → ⊥) → v ≡ None
no_version None n = refl
no_version (Some x) n = absurd (n x refl)

module _ (w : Word) {v u : Option Version} (z : v ≡ u) {o : Outcome} where
  ident_bad : v ≡ None → o ≡ Stopped (blame w ident_mismatch) → o ≡ ident_outcome w u
  unfolding ident_outcome
  ident_bad e k = k ∙ ap (λ (x : Option Version). ident_outcome w x) (sym e ∙ z)

  pub ident_none : ((x : Version) → v ≡ Some x → ⊥) → o ≡ Stopped (blame w ident_mismatch) → o ≡ ident_outcome w u
  ident_none n k = ident_bad (no_version v n) k

  module _ {x : Version} (e : v ≡ Some x) where
    other : is_three x.major x.minor ≡ false → o ≡ Stopped (blame w ident_mismatch) → o ≡ ident_outcome w u
    unfolding ident_outcome
    other t k =
        k
        ∙ sym (cond-false (is_three x.major x.minor) Obeyed (Stopped (blame w ident_mismatch)) t)
        ∙ ap (λ (y : Option Version). ident_outcome w y) (sym e ∙ z)

    pub ident_major : (x.major ≡ 3 → ⊥) → o ≡ Stopped (blame w ident_mismatch) → o ≡ ident_outcome w u
    ident_major t k = other (and_false_left (eqb x.major 3) (eqb x.minor 0) (ne_eqb x.major 3 t)) k

    pub ident_minor : (x.minor ≡ 0 → ⊥) → o ≡ Stopped (blame w ident_mismatch) → o ≡ ident_outcome w u
    ident_minor t k = other (and_false_right (eqb x.major 3) (eqb x.minor 0) (ne_eqb x.minor 0 t)) k

module _ (w : Word) {v u : Option Version} (z : v ≡ u) {x : Version} (e : v ≡ Some x) where
  pub ident_three : x.major ≡ 3 → x.minor ≡ 0 → Obeyed ≡ ident_outcome w u
  unfolding ident_outcome
  ident_three s t =
      sym (cond-true (is_three x.major x.minor) Obeyed (Stopped (blame w ident_mismatch)) (and_true (eqb x.major 3) (eqb x.minor 0) (eq-eqb x.major 3 s) (eq-eqb x.minor 0 t)))
      ∙ ap (λ (y : Option Version). ident_outcome w y) (sym e ∙ z)

-- ---- a basic record
module _ (d : Desk) (w : Word) (ws : List Word) where
  pub basic_ident : {o : Outcome} → o ≡ ident_outcome (head_of ws) (version_of (head_of ws).chars) → rests o ≡ basic_ask d Ident w ws
  unfolding basic_ask
  basic_ident e = ap rests e

  pub basic_enddata : {f : Fault} → f ≡ blame_none 0 → rests (Stopped f) ≡ basic_ask d Enddata w ws
  unfolding basic_ask
  basic_enddata e = ap (λ (x : Fault). rests (Stopped x)) e

  pub basic_unknown : {f : Fault} → f ≡ blame w unknown_keyword → rests (Dropped f) ≡ basic_ask d Unknown w ws
  unfolding basic_ask
  basic_unknown e = ap (λ (x : Fault). rests (Dropped x)) e

  pub basic_patch : (t fs : List ℕ) {h : Held} → HeldReady d t h → Fitting d t → {r : Did} {q : Stepped} {u us : List ℕ}
      → doing_all r u us ≡ did_all (acted d nothing_open t (patch_ask d ws)) fs → q ≡ with_held h r
      → stepping_all q u us ≡ stepped_all d (acted d h.state t (basic_ask d Patch w ws)) fs
  unfolding basic_ask
  basic_patch t fs {h} g f z e =
      held_with d (acted d h.state t (patch_ask d ws)) fs (patch_stays d t g f ws) (patch_anew d h.state t fs ws z) e

  -- in either load: CLEAR, and every other
  clear_in : (anew : Bool) → clear_ask_in anew d w ws ≡ basic_ask_in anew d Clear w ws
  unfolding basic_ask is_clear
  clear_in true = refl
  clear_in false = refl

  module _ (s : State) (t fs : List ℕ) (anew : Bool) {b : Basic} where
    pub basic_clear : b ≡ Clear → {r : Stepped} {u : List ℕ} → stepping r u ≡ stepped_of d (acted d s t (clear_ask_in anew d w ws))
        → stepping_all r u fs ≡ stepped_all d (acted d s t (basic_ask_in anew d b w ws)) fs
    basic_clear e z =
        asked_all d s t fs (clear_in anew ∙ ap (λ (x : Basic). basic_ask_in anew d x w ws) (sym e))
        (step_all (acted d s t (clear_ask_in anew d w ws)) fs (item_faults d s t (item_of (head_of ws).chars) w (cond anew [] (tail_of ws))) d z)

    pub basic_as : {c : Basic} {q : ResAll} → b ≡ c → is_clear c ≡ false → q ≡ stepped_all d (acted d s t (basic_ask d c w ws)) fs
        → q ≡ stepped_all d (acted d s t (basic_ask_in anew d b w ws)) fs
    basic_as {c} e n z =
        asked_all d s t fs
        (sym (cond-false (anew && is_clear c) _ _ (and_false_right anew (is_clear c) n)) ∙ ap (λ (x : Basic). basic_ask_in anew d x w ws) (sym e))
        z

-- ---- what a keyword begins, in either load
cond_and : {A : Type 0} (a b : Bool) (x y : A) → cond (a && b) x y ≡ cond a (cond b x y) y
cond_and true b x y = refl
cond_and false b x y = refl

module _ (d : Desk) (m : Numbers) (s : State) (k : Keyword) (w : Word) (ws : List Word) {x : Family} (e : x ≡ family_of k) where
  family_as : {y : Family} → x ≡ y → family_ask_in d m s y w ws ≡ family_ask_in d m s (family_of k) w ws
  family_as h = ap (λ (z : Family). family_ask_in d m s z w ws) (sym h ∙ e)

  pub family_primary : (t fs : List ℕ) {kind : Kind} → x ≡ Primary kind → {r : Stepped} {u : List ℕ}
      → stepping r u ≡ stepped_of d (acted d nothing_open t (primary_ask_in d m kind w ws))
      → stepping_all r u fs ≡ stepped_all d (acted d s t (family_ask_in d m s (family_of k) w ws)) fs
  unfolding family_ask_in anew_family_ask family_ask
  family_primary t fs {kind} h z = asked_all d s t fs (family_as h) (primary_all d s t m kind w ws fs z)

  module _ {a : Bool} (n : a ≡ m.anew) where
    secondary_as : {y : Secondary} → x ≡ Augments y → secondary_ask_in a d s y w ws ≡ family_ask_in d m s (family_of k) w ws
    unfolding family_ask_in anew_family_ask family_ask
    secondary_as {y} h =
        ap (λ (b : Bool). secondary_ask_in b d s y w ws) n
        ∙ cond_and m.anew (asks_link s.«open» y) (rests Obeyed) (secondary_ask d s.key s.«open» y w ws)
        ∙ family_as h

    pub family_basic : {b : Basic} → x ≡ BasicOf b → basic_ask_in a d b w ws ≡ family_ask_in d m s (family_of k) w ws
    unfolding family_ask_in anew_family_ask family_ask
    family_basic {b} h =
        ap (λ (c : Bool). basic_ask_in c d b w ws) n
        ∙ cond_and m.anew (is_clear b) (item_ask d (item_of (head_of ws).chars) w []) (basic_ask d b w ws)
        ∙ family_as h

-- a secondary leaves open what was open
pub family_secondary : (d : Desk) (m : Numbers) (k : Keyword) (w : Word) (ws : List Word) {x : Family} → x ≡ family_of k → {a : Bool} → a ≡ m.anew
    → (t fs : List ℕ) {h : Held} → HeldReady d t h → Fitting d t → {y : Secondary} → x ≡ Augments y → {r : Did} {q : Stepped} {u us : List ℕ}
    → doing_all r u us ≡ did_all (acted d h.state t (secondary_ask_in a d h.state y w ws)) fs → q ≡ with_held h r
    → stepping_all q u us ≡ stepped_all d (acted d h.state t (family_ask_in d m h.state (family_of k) w ws)) fs
family_secondary d m k w ws e {a} n t fs {h} g f {y} c z v =
    asked_all d h.state t fs (secondary_as d m h.state k w ws e n c)
    (held_with d (acted d h.state t (secondary_ask_in a d h.state y w ws)) fs (secondary_stays d t g f a y w ws) z v)

-- ---- a record's first field
pub step_blank : (d : Desk) (m : Numbers) (s : State) (text : List ℕ) {start : ℕ} → start ≡ start_at text 0 → length text ≤ start
    → rests Blank ≡ fields_ask_in d m s (words_of 0 text)
unfolding fields_ask_in
step_blank d m s text e h =
    let q : is_more text 0 ≡ false = le-ltb (start_at text 0) (length text) (subst (λ (n : ℕ). length text ≤ n) e h) in
    sym (ap (λ (ws : List Word). fields_ask_in d m s ws) (words_none text 0 q))

module _ (text : List ℕ) {start : ℕ} (e : start ≡ start_at text 0) {said : Said} (g : said ≡ said_at text start) where
  pub step_as : (d : Desk) (m : Numbers) (s : State) → start < length text
      → family_ask_in d m s (family_of said.keyword) (keyword_in text) (words_from text said.end) ≡ fields_ask_in d m s (words_of 0 text)
  unfolding fields_ask_in
  step_as d m s h =
      let q : is_more text 0 ≡ true = lt-ltb (start_at text 0) (length text) (subst (λ (n : ℕ). n < length text) e h) in
      let w : keyword_in text ≡ word_at text 0 = words_head text 0 in
      ap (λ (y : Said). family_ask_in d m s (family_of y.keyword) (keyword_in text) (words_from text y.end)) (keyword-said text e g)
      ∙ (λ i. family_ask_in d m s (family_of (keyword_of (w i).chars)) (w i) (words_from text (end_at text 0)))
      ∙ sym (ap (λ (ws : List Word). fields_ask_in d m s ws) (words_some text 0 q))

-- and at most forty faults
step_few : (d : Desk) (m : Numbers) (s : State) (t text fs : List ℕ) → length text ≤ longest → {r : Stepped} {u us : List ℕ}
    → stepping_all r u us ≡ stepped_all d (text_step d m s (words_of 0 text) t) fs → r.faults ≤ most_faults
unfolding stepped_all stepped_of
step_few d m s t text fs h {r} e =
    let a : r.faults ≡ length (text_step d m s (words_of 0 text) t).faults = ap (λ (y : ResAll). y.res.stepped.faults) e in
    let b : length (text_step d m s (words_of 0 text) t).faults ≤ most_faults = text_in_few d m s text t h in
    omega arith

-- all that a step tells
pub step_told : (d : Desk) (m : Numbers) (s : State) (t text fs : List ℕ) → length text ≤ longest → {r : Stepped} {u us : List ℕ} {Noted : Type 0}
    → stepping_all r u us ≡ stepped_all d (text_step d m s (words_of 0 text) t) fs → Noted
    → (stepping_all r u us ≡ stepped_all d (text_step d m s (words_of 0 text) t) fs) × ((r.faults ≤ most_faults) × Noted)
step_told d m s t text fs h e n = (e, (step_few d m s t text fs h e, n))
