-- The links as the code makes them are those of the definition, and their reports stand behind the others; the turns of the loop that makes them.
-- By induction on the slots, and on the reports.
-- Assumes nothing.
use mathlib.Core.Path.{◌≡◌, refl, sym, ap, ◌∙◌}
use mathlib.Core.Bool.{Bool, true, false, cond, not, ◌&&◌}
use mathlib.Core.List.{List, [], ◌∷◌, ◌++◌, append-nil, append_assoc}
use Prim.Native.Nat.{ℕ, zero, suc, ◌+◌, ◌-◌, ◌%◌, ◌≤◌, ◌<◌}
use native.Mathlib.Numerals.{add-one}
use native.Mathlib.Omega.{arith}
use lib.Dec.{eqb, ltb, leb}
use lib.ListN.{length, get_or, replicate, replicate-append-replicate}
use borrow.Author.Tests.{eqb-false, eq-eqb, ne_eqb, not-true, not-false, lt-ltb, le-ltb, lt-leb, le-leb}
use Rattle.cells.proofs.Split.{by_test, by_bool, by_lt, cond-true, cond-false, and_left}
use Rattle.store_desk.specs.declared.Desk.{Desk}
use Rattle.store_desk.specs.declared.Key.{Key}
use Rattle.store_desk.specs.declared.Kind.TheVariants.{Cue}
use Rattle.store_desk.specs.Size.{slots_of}
use Rattle.store_desk.specs.Name.{slot_count, supported}
use Rattle.text_records.specs.Cleaning.{column_of}
use Rattle.store.specs.declared.Edit.TheVariants.{Link as SetLink}
use Rattle.store.specs.Slots.{head_at, is_used}
use Rattle.store.specs.Change.{edit_at}
use Rattle.store_code.specs.Fits.{Fitting, Editing}
use Rattle.store_code.proofs.Laws.{fitting_kept}
use Rattle.load.specs.declared.Outcome.{Outcome}
use Rattle.load.specs.Condition.{bad_number}
use Rattle.load.specs.Item.{blame_none}
use Rattle.load.specs.Run.{Report}
use Rattle.load.specs.Fits.{most_records}
use Rattle.load.specs.Anew.{next_key, last_number}
use Rattle.load.specs.Translated.{Linked, most_cues, bearer_of, has_asked, link_at, links_from, linked, lost_link}
use Rattle.load_tell.specs.declared.Count.{Count}
use Rattle.load_tell.specs.Count.{Told, told, told_as, counted, Reportable}
use Rattle.load_tell.proofs.Counting.{after, told_one_lem}
use Rattle.load_tell.proofs.Telling.{none_told}
use Rattle.load_translate.specs.Bearing.{sought_by}
use Rattle.load_translate.specs.Links.{Links, linking, lead_on, link_on, links_on, lost_told, linked_by, Losing}
use Rattle.load_translate.proofs.Bearers.{sought_at}

-- ---- the code's test of a used slot
pub used_test : {a : Bool} (w u : ℕ) → ltb w u ≡ not a → leb u w ≡ a
used_test {a} w u e =
    by_lt w u
    (λ g. lt-leb u w g ∙ sym (not-true a (sym e ∙ lt-ltb w u g)))
    (λ g. le-leb u w g ∙ sym (not-false a (sym e ∙ le-ltb w u g)))

pub is_asked : (a : ℕ) (b : Bool) → (a ≡ 0 → ⊥) → b ≡ (not (eqb a 0) && b)
is_asked a b n = sym (ap (λ (t : Bool). not t && b) (ne_eqb a 0 n))

-- ---- one slot
module _ (d : Desk) (i : ℕ) where
  lead_same : (bearer : ℕ) (x : Linked) (y : Told) → lead_on d i bearer (linked_by x y) ≡ linked_by (link_at d i bearer x) y
  unfolding lead_on linked_by link_at lost_told
  lead_same bearer x y =
      by_bool (eqb bearer 0)
      (λ t. rw t (ap (λ (n : ℕ). linked_by (record { store = x.store; lost = n }) y) (sym (add-one x.lost))))
      (λ t. rw t refl)

  -- a slot that did not ask does as little in both
  link_same : (asked bs : List ℕ) {f : ℕ} → ((get_or asked i 0 ≡ 0 → ⊥) → f ≡ bearer_of (get_or asked i 0) bs) → (x : Linked) (y : Told)
      → link_on d i (get_or asked i 0) f (linked_by x y)
      ≡ linked_by (cond (has_asked d asked x.store i) (link_at d i (bearer_of (get_or asked i 0) bs) x) x) y
  unfolding link_on has_asked linked_by
  link_same asked bs {f} h x y =
      let b : Bool = not (eqb (get_or asked i 0) 0) && is_used (head_at d x.store i) in
      by_bool b
      (λ t.
      let n : eqb (get_or asked i 0) 0 ≡ false = not-true _ (and_left (not (eqb (get_or asked i 0) 0)) (is_used (head_at d x.store i)) t) in
      let g : f ≡ bearer_of (get_or asked i 0) bs = h (eqb-false (get_or asked i 0) 0 n) in
      cond-true b (lead_on d i f (linked_by x y)) (linked_by x y) t
      ∙ ap (λ (z : ℕ). lead_on d i z (linked_by x y)) g
      ∙ lead_same (bearer_of (get_or asked i 0) bs) x y
      ∙ ap (λ (z : Linked). linked_by z y) (sym (cond-true b (link_at d i (bearer_of (get_or asked i 0) bs) x) x t)))
      (λ t.
      cond-false b (lead_on d i f (linked_by x y)) (linked_by x y) t
      ∙ ap (λ (z : Linked). linked_by z y) (sym (cond-false b (link_at d i (bearer_of (get_or asked i 0) bs) x) x t)))

  -- as the code goes: it did not ask, it asked for a number that none bore, or it links
  module _ (asked bearer : ℕ) (n : Count) (t reps : List ℕ) {b : Bool} (e : b ≡ (not (eqb asked 0) && is_used (head_at d t i))) where
    pub slot_still : not b ≡ true → linking n t reps ≡ link_on d i asked bearer (linking n t reps)
    unfolding link_on
    slot_still f = sym (cond-false _ (lead_on d i bearer (linking n t reps)) (linking n t reps) (sym e ∙ not-true b f))

    slot_leads : not b ≡ false → link_on d i asked bearer (linking n t reps) ≡ lead_on d i bearer (linking n t reps)
    unfolding link_on
    slot_leads f = cond-true _ (lead_on d i bearer (linking n t reps)) (linking n t reps) (sym e ∙ not-false b f)

    pub slot_lost : not b ≡ false → bearer ≡ 0 → {m : Count} {us : List ℕ} → told m us ≡ told_as (told n reps) bad_number 0
        → linking m t us ≡ link_on d i asked bearer (linking n t reps)
    unfolding lead_on
    slot_lost f z q =
        (λ j. record { told = q j; store = t }) ∙ sym (slot_leads f ∙ cond-true (eqb bearer 0) _ _ (eq-eqb bearer 0 z))

    pub slot_linked : not b ≡ false → (bearer ≡ 0 → ⊥) → {key : Key} {u : List ℕ} → key ≡ next_key d Cue (bearer - 1)
        → u ≡ edit_at d t i (SetLink key.whole 0) → linking n u reps ≡ link_on d i asked bearer (linking n t reps)
    unfolding lead_on
    slot_linked f z k q =
        (λ j. linking n (q j) reps)
        ∙ (λ j. linking n (edit_at d t i (SetLink (k j).whole 0)) reps)
        ∙ sym (slot_leads f ∙ cond-false (eqb bearer 0) _ _ (ne_eqb bearer 0 z))

  -- a cue's slot is one of all slots, and cues are supported
  pub cue_slot : i < d.cues → i < slots_of d
  unfolding slots_of
  cue_slot h = omega arith

  pub cue_supported : i < d.cues → supported d Cue ≡ true
  unfolding supported slot_count
  cue_supported h = lt-ltb 0 d.cues (omega arith)

-- a new number fits its bits
pub link_fits : (d : Desk) (n : ℕ) {key : Key} → key ≡ next_key d Cue n → Editing d (SetLink key.whole 0)
unfolding next_key last_number
link_fits d n {key} e =
    let w : key.whole ≡ n % 999 + 1 = ap (λ (k : Key). k.whole) e in
    record { fits = (omega arith, omega arith); channel = tt }

-- ---- all of them
module _ (d : Desk) (asked found bs : List ℕ)
    (h : (i : ℕ) → i < most_cues → (get_or asked i 0 ≡ 0 → ⊥) → get_or found i 0 ≡ bearer_of (get_or asked i 0) bs) where
  links_same : (n i : ℕ) → i + n ≤ most_cues → (x : Linked) (y : Told)
      → links_on d asked found n i (linked_by x y) ≡ linked_by (links_from d asked bs n i x) y
  unfolding links_on links_from
  links_same zero i l x y = refl
  links_same (suc n) i l x y =
      ap (links_on d asked found n (suc i)) (link_same d i asked bs (h i (omega arith)) x y)
      ∙ links_same n (suc i) (omega arith) (cond (has_asked d asked x.store i) (link_at d i (bearer_of (get_or asked i 0) bs) x) x) y

  linked_same : d.cues ≤ most_cues → (n : Count) (t reps : List ℕ)
      → links_on d asked found d.cues 0 (linking n t reps) ≡ linked_by (linked d asked bs t) (told n reps)
  unfolding linked linked_by lost_told
  linked_same l n t reps = links_same d.cues 0 (omega arith) (record { store = t; lost = 0 }) (told n reps)

-- from the last bearers that were sought
pub sought_linked : (d : Desk) (asked bs : List ℕ) {found : List ℕ} (n : Count) (t reps : List ℕ) {z : Links} → d.cues ≤ most_cues
    → found ≡ sought_by asked (replicate most_cues 0) bs → z ≡ links_on d asked found d.cues 0 (linking n t reps)
    → z ≡ linked_by (linked d asked bs t) (told n reps)
sought_linked d asked bs {found} n t reps l e f =
    f
    ∙ linked_same d asked found bs (λ i h a. ap (λ (z : List ℕ). get_or z i 0) e ∙ sought_at asked bs most_cues i h a) l n t reps

-- ---- the links to no cue, reported behind the others
module _ (os : List Outcome) (reps : List ℕ) where
  lost_one : (rs : List Report) → told_as (after os reps rs) bad_number 0 ≡ after os reps (rs ++ (lost_link (length os) ∷ []))
  unfolding column_of
  lost_one rs = none_told [] (after os reps rs) bad_number ∙ told_one_lem os reps [] rs (blame_none bad_number)

  pub lost_told_lem : (rs : List Report) (n : ℕ)
      → lost_told n (after os reps rs) ≡ after os reps (rs ++ replicate n (lost_link (length os)))
  unfolding lost_told
  lost_told_lem rs zero = ap (after os reps) (sym (append-nil rs))
  lost_told_lem rs (suc n) =
      let q : Report = lost_link (length os) in
      ap (λ (y : Told). told_as y bad_number 0) (lost_told_lem rs n)
      ∙ lost_one (rs ++ replicate n q)
      ∙ ap (after os reps) (append_assoc rs (replicate n q) (q ∷ []))
      ∙ ap (λ (z : List Report). after os reps (rs ++ z)) (replicate-append-replicate n 1 q ∙ ap (λ (k : ℕ). replicate k q) (add-one n))

-- ---- the loop over the slots
pub record SoFar (d : Desk) (asked found : List ℕ) (z : Links) (i : ℕ) (n : Count) (t reps : List ℕ) : Type 0 where
  pub within : i ≤ d.cues
  pub fitting : Fitting d t
  pub numbered : n.records ≤ most_records
  pub room : n.reports ≤ most_records + i
  pub same : links_on d asked found d.cues 0 z ≡ links_on d asked found (d.cues - i) i (linking n t reps)

lead_numbers : (d : Desk) (i bearer : ℕ) (z : Links)
    → ((lead_on d i bearer z).told.count.records ≡ z.told.count.records) × ((lead_on d i bearer z).told.count.reports ≤ z.told.count.reports + 1)
unfolding lead_on told_as counted
lead_numbers d i bearer z =
    by_test (λ (w : Links). (w.told.count.records ≡ z.told.count.records) × (w.told.count.reports ≤ z.told.count.reports + 1))
    (eqb bearer 0) _ _ (λ e. (refl, omega arith)) (λ e. (refl, omega arith))

link_numbers : (d : Desk) (i asked bearer : ℕ) (z : Links)
    → ((link_on d i asked bearer z).told.count.records ≡ z.told.count.records)
    × ((link_on d i asked bearer z).told.count.reports ≤ z.told.count.reports + 1)
unfolding link_on
link_numbers d i asked bearer z =
    by_test (λ (w : Links). (w.told.count.records ≡ z.told.count.records) × (w.told.count.reports ≤ z.told.count.reports + 1))
    (not (eqb asked 0) && is_used (head_at d z.store i)) _ _ (λ e. lead_numbers d i bearer z) (λ e. (refl, omega arith))

pub loop_start : (d : Desk) (asked found : List ℕ) {n : Count} {t reps : List ℕ} → Fitting d t → Losing n
    → SoFar d asked found (linking n t reps) 0 n t reps
loop_start d asked found {n} {t} {reps} f l =
    let r = l.room in
    let s : d.cues ≡ d.cues - 0 = omega arith in
    record {
      within = omega arith;
      fitting = f;
      numbered = l.numbered;
      room = omega arith;
      same = ap (λ (k : ℕ). links_on d asked found k 0 (linking n t reps)) s;
    }

module _ {d : Desk} {asked found : List ℕ} {z : Links} {i : ℕ} {n : Count} {t reps : List ℕ} (w : SoFar d asked found z i n t reps) where
  pub loop_room : i < d.cues → Reportable n bad_number 0
  loop_room h =
      let r = w.room in
      let c = w.fitting.range.cues in
      record { numbered = w.numbered; room = omega arith; small = omega arith; narrow = omega arith }

  pub loop_turn : {a b : ℕ} {m : Count} {u us : List ℕ} → i < d.cues → a ≡ get_or asked i 0 → b ≡ get_or found i 0
      → linking m u us ≡ link_on d i a b (linking n t reps) → length u ≡ length t → SoFar d asked found z (i + 1) m u us
  unfolding links_on
  loop_turn {a} {b} {m} {u} {us} h ea eb e l =
      let k = link_numbers d i a b (linking n t reps) in
      let p : m.records ≡ (link_on d i a b (linking n t reps)).told.count.records = ap (λ (y : Links). y.told.count.records) e in
      let q : m.reports ≡ (link_on d i a b (linking n t reps)).told.count.reports = ap (λ (y : Links). y.told.count.reports) e in
      let nn = w.numbered in
      let r = w.room in
      let s : d.cues - i ≡ suc (d.cues - (i + 1)) = omega arith in
      record {
        within = omega arith;
        fitting = fitting_kept d t u l w.fitting;
        numbered = omega arith;
        room = omega arith;
        same =
            w.same
            ∙ ap (λ (y : ℕ). links_on d asked found y i (linking n t reps)) s
            ∙ (λ j. links_on d asked found (d.cues - (i + 1)) (sym (add-one i) j) (link_on d i (sym ea j) (sym eb j) (linking n t reps)))
            ∙ ap (links_on d asked found (d.cues - (i + 1)) (i + 1)) (sym e);
      }

  pub loop_end : d.cues ≤ i → linking n t reps ≡ links_on d asked found d.cues 0 z
  unfolding links_on
  loop_end h =
      let s : d.cues - i ≡ 0 = omega arith in
      sym (w.same ∙ ap (λ (y : ℕ). links_on d asked found y i (linking n t reps)) s)
