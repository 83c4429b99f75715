-- The counters and the lent list after one more record and after more reports; what they are told as; that there is room in them. By
-- induction on the lists so far.
-- Assumes nothing.
use mathlib.Core.Path.{◌≡◌, refl, sym, ap, ◌∙◌}
use mathlib.Core.Bool.{Bool, true, false, cond, not}
use mathlib.Core.List.{List, [], ◌∷◌, ◌++◌, map, map-append, append-nil, append_assoc}
use Prim.Native.Nat.{ℕ, suc, ◌+◌, ◌≤◌, ◌<◌, min}
use native.Mathlib.Omega.{arith}
use lib.ListN.{length, set, take, length-append, length-map, length-take}
use lib.Seq.{take_all, take-append-le, set_out}
use Rattle.cells.specs.Put.{put}
use Rattle.cells.proofs.Put.{length-put, put_push}
use Rattle.cells.proofs.Split.{by_lt}
use Rattle.text_records.specs.Received.{longest}
use Rattle.load.specs.declared.Fault.{Fault}
use Rattle.load.specs.declared.Outcome.{Outcome}
use Rattle.load.specs.Condition.{is_error}
use Rattle.load.specs.Run.{Report, Run, Class, blank, passed, dropped, obeyed, class_of, eq_class, tally_of, last_of, report_of, reports_at, report_word, stored_in}
use Rattle.load.specs.Run.{all_reports, closing_of, totals_of, condition_span}
use Rattle.load.proofs.Counts.{tally_few}
use Rattle.load_tell.specs.Count.{count_of, closing_by, totals_by, with_one, tallied, counted, Told, told, told_as, told_one, told_all}
use Rattle.load_tell.specs.Count.{most_reports, Reportable, Countable}
use Rattle.load.specs.Fits.{most_records}

-- ---- one more record
both_orders : (a b : Bool) (n : ℕ) → cond a (suc (cond b (n + 1) n)) (cond b (n + 1) n) ≡ cond b (cond a (suc n) n + 1) (cond a (suc n) n)
both_orders true true n = let e : suc (n + 1) ≡ suc n + 1 = omega arith in e
both_orders true false n = refl
both_orders false true n = refl
both_orders false false n = refl

tally_snoc : (k : Class) (os : List Outcome) (o : Outcome) → tally_of k (os ++ (o ∷ [])) ≡ with_one k o (tally_of k os)
unfolding tally_of
tally_snoc k [] o = refl
tally_snoc k (p ∷ os) o =
    ap (λ (n : ℕ). cond (eq_class k (class_of p)) (suc n) n) (tally_snoc k os o)
    ∙ both_orders (eq_class k (class_of p)) (eq_class k (class_of o)) (tally_of k os)

pub count_record : (os : List Outcome) (rs : List Report) (o : Outcome) → tallied (count_of os rs) o ≡ count_of (os ++ (o ∷ [])) rs
unfolding count_of tallied
count_record os rs o =
    let l : length (os ++ (o ∷ [])) ≡ length os + 1 = length-append os (o ∷ []) in
    λ i.
    record {
      records = sym l i;
      reports = length rs;
      blank = sym (tally_snoc blank os o) i;
      obeyed = sym (tally_snoc obeyed os o) i;
      passed = sym (tally_snoc passed os o) i;
      dropped = sym (tally_snoc dropped os o) i;
      error = last_of is_error 0 rs;
      warning = last_of (λ c. not (is_error c)) 0 rs;
    }

-- ---- one more report
last_snoc : (p : ℕ → Bool) (c : ℕ) (rs : List Report) (r : Report)
    → last_of p c (rs ++ (r ∷ [])) ≡ cond (p r.condition) r.condition (last_of p c rs)
unfolding last_of
last_snoc p c [] r = refl
last_snoc p c (q ∷ rs) r = last_snoc p (cond (p q.condition) q.condition c) rs r

count_report : (os : List Outcome) (rs : List Report) (r : Report) → counted (count_of os rs) r.condition ≡ count_of os (rs ++ (r ∷ []))
unfolding count_of counted
count_report os rs r =
    let l : length (rs ++ (r ∷ [])) ≡ length rs + 1 = length-append rs (r ∷ []) in
    λ i.
    record {
      records = length os;
      reports = sym l i;
      blank = tally_of blank os;
      obeyed = tally_of obeyed os;
      passed = tally_of passed os;
      dropped = tally_of dropped os;
      error = sym (last_snoc is_error 0 rs r) i;
      warning = sym (last_snoc (λ c. not (is_error c)) 0 rs r) i;
    }

-- the words that are stored, and one more where there is room
module _ (reps : List ℕ) (rs : List Report) (r : Report) where
  stored_room : length rs < length reps → set (stored_in reps rs) (length rs) (report_word r) ≡ stored_in reps (rs ++ (r ∷ []))
  unfolding stored_in
  stored_room h =
      let ws : List ℕ = map report_word rs in
      let v : ℕ = report_word r in
      let m : map report_word (rs ++ (r ∷ [])) ≡ ws ++ (v ∷ []) = map-append report_word rs (r ∷ []) in
      let l : length ws ≡ length rs = length-map rs report_word in
      let l' : length (ws ++ (v ∷ [])) ≡ length ws + 1 = length-append ws (v ∷ []) in
      let k : length ws ≤ length reps = omega arith in
      let k' : length (ws ++ (v ∷ [])) ≤ length reps = omega arith in
      let e : length rs ≡ 0 + length ws = omega arith in
      ap (λ (z : List ℕ). set (put reps 0 z) (length rs) v) (take_all (length reps) ws k)
      ∙ put_push reps 0 ws (length rs) v e h
      ∙ ap (λ (z : List ℕ). put reps 0 z) (sym (take_all (length reps) (ws ++ (v ∷ [])) k'))
      ∙ ap (λ (z : List ℕ). put reps 0 (take (length reps) z)) (sym m)

  stored_full_lem : length reps ≤ length rs → set (stored_in reps rs) (length rs) (report_word r) ≡ stored_in reps (rs ++ (r ∷ []))
  unfolding stored_in
  stored_full_lem h =
      let ws : List ℕ = map report_word rs in
      let v : ℕ = report_word r in
      let m : map report_word (rs ++ (r ∷ [])) ≡ ws ++ (v ∷ []) = map-append report_word rs (r ∷ []) in
      let l : length ws ≡ length rs = length-map rs report_word in
      let k : length reps ≤ length ws = omega arith in
      let t : length (take (length reps) ws) ≡ min (length reps) (length ws) = length-take (length reps) ws in
      let q : 0 + length (take (length reps) ws) ≤ length reps = omega arith in
      let p : length (put reps 0 (take (length reps) ws)) ≡ length reps = length-put reps 0 (take (length reps) ws) q in
      set_out (put reps 0 (take (length reps) ws)) (length rs) v (omega arith)
      ∙ ap (λ (z : List ℕ). put reps 0 z) (sym (take-append-le (length reps) ws (v ∷ []) k))
      ∙ ap (λ (z : List ℕ). put reps 0 (take (length reps) z)) (sym m)

  stored_more : set (stored_in reps rs) (length rs) (report_word r) ≡ stored_in reps (rs ++ (r ∷ []))
  stored_more = by_lt (length rs) (length reps) stored_room stored_full_lem

-- ---- the counters and the list together
module _ (os : List Outcome) (reps : List ℕ) where
  abbrev pub after : List Report → Told
  after rs = told (count_of os rs) (stored_in reps rs)

  pub told_one_lem : (r : List ℕ) (rs : List Report) (f : Fault) → told_one r (after rs) f ≡ after (rs ++ (report_of (length os) r f ∷ []))
  unfolding told_as count_of
  told_one_lem r rs f =
      let q : Report = report_of (length os) r f in
      λ i. told (count_report os rs q i) (stored_more reps rs q i)

  pub told_all_lem : (r : List ℕ) (rs : List Report) (fs : List Fault) → told_all r (after rs) fs ≡ after (rs ++ reports_at (length os) r fs)
  unfolding told_all
  told_all_lem r rs [] = ap after (sym (append-nil rs))
  told_all_lem r rs (f ∷ fs) =
      let q : Report = report_of (length os) r f in
      ap (λ (x : Told). told_all r x fs) (told_one_lem r rs f)
      ∙ told_all_lem r (rs ++ (q ∷ [])) fs
      ∙ ap after (append_assoc rs (q ∷ []) (reports_at (length os) r fs))

-- ---- what they are told as
pub totals_same : (x : Run) → totals_by (count_of x.outcomes (all_reports x)) ≡ totals_of x
unfolding totals_by count_of closing_by totals_of closing_of
totals_same x = refl

-- ---- room for one more record, and for a report
pub count_countable : (os : List Outcome) (rs : List Report) → length os < most_records → Countable (count_of os rs)
unfolding count_of
count_countable os rs h =
    record { below = h; blanks = tally_few blank os; obeys = tally_few obeyed os; passes = tally_few passed os; drops = tally_few dropped os }

pub count_reportable : (os : List Outcome) (rs : List Report) (c k : ℕ) → length os ≤ most_records → length rs < most_reports → c < condition_span → k ≤ longest
    → Reportable (count_of os rs) c k
unfolding count_of
count_reportable os rs c k h g s l = record { numbered = h; room = g; small = s; narrow = l }

-- ---- faults told in two parts
pub told_join : (r : List ℕ) (x : Told) (fs gs : List Fault) → told_all r x (fs ++ gs) ≡ told_all r (told_all r x fs) gs
unfolding told_all
told_join r x [] gs = refl
told_join r x (f ∷ fs) gs = told_join r (told_one r x f) fs gs
