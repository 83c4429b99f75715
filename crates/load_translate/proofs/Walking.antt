-- The second walk, record by record: what a record changes, and the turns of the loop. What was met so far stands in front of what the records that
-- are left bear. By unfolding one record.
-- Assumes nothing.
use Rattle.std.proofs.Common.{Option, None, Some}
use mathlib.Core.Path.{◌≡◌, refl, sym, ap, ◌∙◌, subst}
use mathlib.Core.Bool.{Bool, true, false, cond, not}
use mathlib.Core.List.{List, ◌∷◌}
use Prim.Native.Nat.{ℕ, suc, ◌+◌, ◌-◌, ◌≤◌, ◌<◌}
use native.Mathlib.Omega.{arith}
use lib.Dec.{eqb}
use lib.ListN.{length, take, drop}
use borrow.Author.Tests.{not-true, not-false, eq-eqb, ne_eqb}
use Rattle.cells.proofs.Split.{by_bool, by_lt, by_test, cond-true, cond-false}
use Rattle.text_records.specs.Stream.{records_of, record_end, next_start}
use Rattle.text_records.proofs.Stream.{records_at, records_end, start_forward, start_within, end_within}
use Rattle.value.specs.Number.{no_number}
use Rattle.load.specs.Fits.{most_records}
use Rattle.load_hear.specs.Marks.{is_marked}
use Rattle.load_translate.specs.declared.Seen.{Seen}
use Rattle.load_translate.specs.Bearing.{bearing_in, on_bearing, marked_bornes, met_from, met, found_by, Meeting, meeting, seen_as, met_by, Countable}

-- ---- one record, as the code goes
module _ (ms asked : List ℕ) (s : Seen) (found : List ℕ) {b : Option ℕ} where
  pub none_met : b ≡ None → meeting s found ≡ met_by ms asked b (meeting s found)
  unfolding met_by
  none_met e = sym (ap (λ (x : Option ℕ). met_by ms asked x (meeting s found)) e)

  module _ {m : ℕ} (e : b ≡ Some m) {a : Bool} (f : a ≡ is_marked ms s.tried) where
    pub refused_met : not a ≡ true → meeting (seen_as (s.tried + 1) s.cues) found ≡ met_by ms asked b (meeting s found)
    unfolding met_by
    refused_met t =
        sym
        (ap (λ (x : Option ℕ). met_by ms asked x (meeting s found)) e ∙ cond-false (is_marked ms s.tried) _ _ (sym f ∙ not-true a t))

    accepted_met : not a ≡ false
        → met_by ms asked b (meeting s found) ≡ meeting (seen_as (s.tried + 1) (s.cues + 1)) (met asked m (s.cues + 1) found)
    unfolding met_by
    accepted_met t =
        ap (λ (x : Option ℕ). met_by ms asked x (meeting s found)) e ∙ cond-true (is_marked ms s.tried) _ _ (sym f ∙ not-false a t)

    pub unnumbered_met : not a ≡ false → m ≡ no_number
        → meeting (seen_as (s.tried + 1) (s.cues + 1)) found ≡ met_by ms asked b (meeting s found)
    unfolding met
    unnumbered_met t z =
        sym
        (accepted_met t
        ∙ ap (meeting (seen_as (s.tried + 1) (s.cues + 1))) (cond-true (eqb m no_number) found _ (eq-eqb m no_number z)))

    pub numbered_met : not a ≡ false → (m ≡ no_number → ⊥) → {now : List ℕ} → now ≡ met_from asked m (s.cues + 1) (length found) 0 found
        → meeting (seen_as (s.tried + 1) (s.cues + 1)) now ≡ met_by ms asked b (meeting s found)
    unfolding met
    numbered_met t n q =
        ap (meeting (seen_as (s.tried + 1) (s.cues + 1))) q
        ∙ sym
        (accepted_met t
        ∙ ap (meeting (seen_as (s.tried + 1) (s.cues + 1))) (cond-false (eqb m no_number) found _ (ne_eqb m no_number n)))

-- ---- one record, in the definition
module _ (ms asked : List ℕ) (z : Meeting) (rs : List (List ℕ)) where
  abbrev onward : Meeting → List ℕ
  onward y = found_by asked (y.seen.cues + 1) y.found (marked_bornes ms y.seen.tried rs)

  bearing_step : (b : Option ℕ)
      → found_by asked (z.seen.cues + 1) z.found
      (on_bearing b (marked_bornes ms z.seen.tried rs)
      (λ m.
      cond (is_marked ms z.seen.tried) (m ∷ marked_bornes ms (z.seen.tried + 1) rs) (marked_bornes ms (z.seen.tried + 1) rs)))
      ≡ onward (met_by ms asked b z)
  unfolding on_bearing met_by found_by
  bearing_step None = refl
  bearing_step (Some m) = by_bool (is_marked ms z.seen.tried) (λ t. rw t refl) (λ t. rw t refl)

  met_step : (r : List ℕ) {b : Option ℕ} → b ≡ bearing_in r
      → found_by asked (z.seen.cues + 1) z.found (marked_bornes ms z.seen.tried (r ∷ rs)) ≡ onward (met_by ms asked b z)
  unfolding marked_bornes
  met_step r e = bearing_step (bearing_in r) ∙ ap (λ (b : Option ℕ). onward (met_by ms asked b z)) (sym e)

-- at most one more of each
met_numbers : (ms asked : List ℕ) (z : Meeting) (b : Option ℕ)
    → ((met_by ms asked b z).seen.tried ≤ z.seen.tried + 1) × ((met_by ms asked b z).seen.cues ≤ z.seen.cues + 1)
unfolding met_by
met_numbers ms asked z None = (omega arith, omega arith)
met_numbers ms asked z (Some m) =
    by_test (λ (y : Meeting). (y.seen.tried ≤ z.seen.tried + 1) × (y.seen.cues ≤ z.seen.cues + 1)) (is_marked ms z.seen.tried) _ _
    (λ t. (omega arith, omega arith)) (λ t. (omega arith, omega arith))

-- ---- the loop over the records
pub record SoFar (stream ms asked found₀ : List ℕ) (records : ℕ) (s : Seen) (n at : ℕ) (found : List ℕ) : Type 0 where
  pub long : length stream ≤ most_records
  pub within : at ≤ length stream
  pub behind : n ≤ at
  pub tries : s.tried ≤ n
  pub accepts : s.cues ≤ n
  pub remain : records - n ≤ length (records_of (drop at stream))
  pub found-length : length found ≡ length found₀
  pub same
      : found_by asked 1 found₀ (marked_bornes ms 0 (take records (records_of stream)))
      ≡ found_by asked (s.cues + 1) found (marked_bornes ms s.tried (take (records - n) (records_of (drop at stream))))

pub loop_start : (stream ms asked found : List ℕ) (records : ℕ) → records ≤ length (records_of stream) → length stream ≤ most_records
    → SoFar stream ms asked found records (seen_as 0 0) 0 0 found
loop_start stream ms asked found records h l =
    let e : records ≡ records - 0 = omega arith in
    record {
      long = l;
      within = omega arith;
      behind = omega arith;
      tries = omega arith;
      accepts = omega arith;
      remain = subst (λ (k : ℕ). k ≤ length (records_of stream)) e h;
      found-length = refl;
      same = ap (λ (k : ℕ). found_by asked 1 found (marked_bornes ms 0 (take k (records_of stream)))) e;
    }

module _ {stream ms asked found₀ : List ℕ} {records : ℕ} {s : Seen} {n at : ℕ} {found : List ℕ}
    (w : SoFar stream ms asked found₀ records s n at found) where
  -- there is a record
  module _ (h : n < records) where
    here : at < length stream
    here =
        by_lt at (length stream) (λ g. g)
        (λ g.
        let z : length (records_of (drop at stream)) ≡ 0 = ap (λ (rs : List (List ℕ)). length rs) (records_end stream at g) in
        let r = w.remain in
        absurd (omega arith))

    pub loop_countable : Countable s
    loop_countable =
        let l = w.long in
        let b = w.behind in
        let t = w.tries in
        let a = w.accepts in
        let g = here in
        record { tries = omega arith; accepts = omega arith }

    pub loop_turn : {end next : ℕ} → end ≡ record_end stream at → next ≡ next_start stream end
        → {b : Option ℕ} → b ≡ bearing_in (take (end - at) (drop at stream)) → {q : Seen} {now : List ℕ}
        → meeting q now ≡ met_by ms asked b (meeting s found) → length now ≡ length found
        → SoFar stream ms asked found₀ records q (n + 1) next now
    loop_turn {end} {next} e f {b} g {q} {now} m l =
        let r : List ℕ = take (end - at) (drop at stream) in
        let rs : records_of (drop at stream) ≡ r ∷ records_of (drop next stream) = records_at stream here e f in
        let k : length (records_of (drop at stream)) ≡ suc (length (records_of (drop next stream))) =
        ap (λ (z : List (List ℕ)). length z) rs in
        let c : records - n ≡ suc (records - (n + 1)) = omega arith in
        let a : at < next = start_forward stream here e f in
        let i : record_end stream at ≤ length stream = end_within stream at w.within in
        let j : next_start stream end ≤ length stream = start_within stream end (omega arith) in
        let v = met_numbers ms asked (meeting s found) b in
        let x : q.tried ≡ (met_by ms asked b (meeting s found)).seen.tried = ap (λ (y : Meeting). y.seen.tried) m in
        let y : q.cues ≡ (met_by ms asked b (meeting s found)).seen.cues = ap (λ (y : Meeting). y.seen.cues) m in
        let behind = w.behind in
        let tries = w.tries in
        let accepts = w.accepts in
        let remain = w.remain in
        let rest : List (List ℕ) = take (records - (n + 1)) (records_of (drop next stream)) in
        record {
          long = w.long;
          within = omega arith;
          behind = omega arith;
          tries = omega arith;
          accepts = omega arith;
          remain = omega arith;
          found-length = l ∙ w.found-length;
          same =
              w.same
              ∙ (λ o. found_by asked (s.cues + 1) found (marked_bornes ms s.tried (take (c o) (rs o))))
              ∙ met_step ms asked (meeting s found) rest r g
              ∙ ap (λ (z : Meeting). found_by asked (z.seen.cues + 1) z.found (marked_bornes ms z.seen.tried rest)) (sym m);
        }

  pub loop_end : records ≤ n → found ≡ found_by asked 1 found₀ (marked_bornes ms 0 (take records (records_of stream)))
  unfolding found_by marked_bornes
  loop_end h =
      let z : records - n ≡ 0 = omega arith in
      sym
      (w.same
      ∙ ap (λ (k : ℕ). found_by asked (s.cues + 1) found (marked_bornes ms s.tried (take k (records_of (drop at stream))))) z)
