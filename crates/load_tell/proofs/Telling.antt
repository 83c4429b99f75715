-- Faults of a record told one after the other: what the code's calls come to together, and that there is room for each.
-- By induction on the faults.
-- Assumes nothing.
use mathlib.Core.Path.{◌≡◌, refl, sym, ap, ◌∙◌, subst}
use mathlib.Core.Bool.{Bool, true, false, ◌||◌, true≢false}
use mathlib.Core.List.{List, [], ◌∷◌, ◌++◌}
use Prim.Native.Nat.{ℕ, suc, ◌+◌, ◌≤◌, ◌<◌, zero-le}
use native.Mathlib.Numerals.{add-one}
use native.Mathlib.Omega.{arith}
use lib.ListN.{length, get_or, take, drop, length-append, length-map, get_or-map}
use lib.Seq.{take_all, take-suc, split_at}
use Rattle.text_records.specs.Received.{longest}
use Rattle.cells.proofs.Split.{or_left, or_right}
use Rattle.text_records.specs.Cleaning.{is_high, is_control, column_of, has}
use Rattle.text_records.proofs.Columns.{column_none, column_within, column_unmarred}
use Rattle.load.specs.declared.Outcome.{Outcome}
use Rattle.load.specs.declared.Fault.{Fault}
use Rattle.load.specs.Condition.{ignored_high, ignored_control}
use Rattle.load.specs.Item.{blame_none}
use Rattle.load.specs.Step.{one_if}
use Rattle.load.specs.Fits.{fault_in, Small, Near}
use Rattle.load.proofs.Steps.{Modest}
use Rattle.load.proofs.Counts.{small_join, ignored_small}
use Rattle.load_tell.specs.declared.Count.{Count}
use Rattle.load_tell.specs.Count.{counted, tallied, Told, told, told_as, told_if, told_one, told_all, ignored_by, faults_as}
use Rattle.load_tell.specs.Count.{most_reports, Reportable, Fit, Tellable, Marred, Countable}
use Rattle.load.specs.Fits.{most_records}
use Rattle.load_tell.proofs.Counting.{told_join}

-- ---- places within so many characters
near_join : (n : ℕ) (fs gs : List Fault) → Near n fs → Near n gs → Near n (fs ++ gs)
unfolding Near
near_join n [] gs h g = g
near_join n (f ∷ fs) gs h g = (h.0, near_join n fs gs h.1 g)

one_near : (n : ℕ) (b : Bool) (c : ℕ) → Near n (one_if b (blame_none c))
unfolding Near
one_near n true c = (zero-le, tt)
one_near n false c = tt

ignored_near : (n : ℕ) (high control : Bool) → Near n (ignored_by high control)
ignored_near n high control =
    near_join n (one_if high (blame_none ignored_high)) (one_if control (blame_none ignored_control)) (one_near n high ignored_high) (one_near n control ignored_control)

pub near_more : (n m : ℕ) → n ≤ m → (fs : List Fault) → Near n fs → Near m fs
unfolding Near
near_more n m l [] h = tt
near_more n m l (f ∷ fs) h = (let a = h.0 in omega arith, near_more n m l fs h.1)

-- ---- faults of a record with the characters xs
module _ (xs : List ℕ) where
  -- one that blames no field has column 0
  pub none_told : (x : Told) (c : ℕ) → told_as x c 0 ≡ told_one xs x (blame_none c)
  none_told x c = ap (told_as x c) (sym (column_none xs))

  pub if_told : (x : Told) (b : Bool) (c : ℕ) → told_if x b c ≡ told_all xs x (one_if b (blame_none c))
  unfolding told_all
  if_told x true c = none_told x c
  if_told x false c = refl

  pub unless_told : (x : Told) (b : Bool) (f : Fault) → b ≡ false → x ≡ told_all xs x (one_if b f)
  unfolding told_all
  unless_told x true f e = absurd (true≢false e)
  unless_told x false f e = refl

  -- one in its column
  pub column_told : (x : Told) (f : Fault) {y : Told} {k : ℕ} → y ≡ told_as x f.condition k → k ≡ column_of xs f.place → y ≡ told_one xs x f
  column_told x f e a = e ∙ ap (told_as x f.condition) a

  pub told_none : (x : Told) → x ≡ told_all xs x []
  unfolding told_all
  told_none x = refl

  pub told_single : (x : Told) (f : Fault) → told_one xs x f ≡ told_all xs x (f ∷ [])
  unfolding told_all
  told_single x f = refl

  -- the same for counters that are known by an equation
  pub all_from : (l : List ℕ) (fs : List Fault) {n m : Count} {x : Told} → x ≡ told_all xs (told n l) fs → n ≡ m → x ≡ told_all xs (told m l) fs
  all_from l fs e f = e ∙ ap (λ (k : Count). told_all xs (told k l) fs) f

  -- ---- what telling leaves of the counters
  told_records : (x : Told) (fs : List Fault) → (told_all xs x fs).count.records ≡ x.count.records
  unfolding told_all told_as counted
  told_records x [] = refl
  told_records x (f ∷ fs) = told_records (told_one xs x f) fs

  told_reports : (x : Told) (fs : List Fault) → (told_all xs x fs).count.reports ≡ x.count.reports + length fs
  unfolding told_all told_as counted
  told_reports x [] = let e : x.count.reports ≡ x.count.reports + 0 = omega arith in e
  told_reports x (f ∷ fs) =
      told_reports (told_one xs x f) fs ∙ (let e : x.count.reports + 1 + length fs ≡ x.count.reports + suc (length fs) = omega arith in e)

  -- ---- room for the first ones, and then for the others
  fit_front : (fs gs : List Fault) → Fit xs (fs ++ gs) → Fit xs fs
  unfolding Fit
  fit_front [] gs h = tt
  fit_front (f ∷ fs) gs h = (h.0, h.1, fit_front fs gs h.2)

  fit_behind : (fs gs : List Fault) → Fit xs (fs ++ gs) → Fit xs gs
  unfolding Fit
  fit_behind [] gs h = h
  fit_behind (f ∷ fs) gs h = fit_behind fs gs h.2

  front : (n : Count) (fs gs : List Fault) → Tellable n xs (fs ++ gs) → Tellable n xs fs
  front n fs gs h =
      let l : length (fs ++ gs) ≡ length fs + length gs = length-append fs gs in
      let r : n.reports + length (fs ++ gs) ≤ most_reports = h.room in
      record { numbered = h.numbered; room = omega arith; short = h.short; fit = fit_front fs gs h.fit }

  rest : (n : Count) (k : List ℕ) (fs gs : List Fault) {r : Count} {l : List ℕ} → told r l ≡ told_all xs (told n k) fs
      → Tellable n xs (fs ++ gs) → Tellable r xs gs
  rest n k fs gs {r} {l} e h =
      let a : length (fs ++ gs) ≡ length fs + length gs = length-append fs gs in
      let b : n.reports + length (fs ++ gs) ≤ most_reports = h.room in
      let p : r.reports ≡ n.reports + length fs = ap (λ (x : Told). x.count.reports) e ∙ told_reports (told n k) fs in
      let q : r.records ≡ n.records = ap (λ (x : Told). x.count.records) e ∙ told_records (told n k) fs in
      let m : n.records ≤ most_records = h.numbered in
      record { numbered = omega arith; room = omega arith; short = h.short; fit = fit_behind fs gs h.fit }

  pub tellable_from : {n m : Count} {fs : List Fault} → n ≡ m → Tellable m xs fs → Tellable n xs fs
  tellable_from {n} {m} {fs} e h = subst (λ (k : Count). Tellable k xs fs) (sym e) h

  -- a fault's report: its parts fit their bits, and its place is within the record
  pub tellable_place : {n : Count} {f : Fault} → Tellable n xs (f ∷ []) → f.place ≤ length xs
  unfolding Fit
  tellable_place h = h.fit.1

  pub tellable_report : {n : Count} {f : Fault} {k : ℕ} → Tellable n xs (f ∷ []) → k ≡ column_of xs f.place → Reportable n f.condition k
  unfolding Fit
  tellable_report {n} {f} {k} h e =
      let a : column_of xs f.place ≤ length xs = column_within xs f.place in
      let b : length xs ≤ longest = h.short in
      let c : n.reports + length (f ∷ []) ≤ most_reports = h.room in
      record { numbered = h.numbered; room = omega arith; small = h.fit.0; narrow = omega arith }

  -- of ignored characters no field is blamed
  pub tellable_if : {n : Count} {b : Bool} {c : ℕ} → Tellable n xs (one_if b (blame_none c)) → b ≡ true → Reportable n c 0
  tellable_if {n} {b} {c} h e =
      tellable_report (subst (λ (z : Bool). Tellable n xs (one_if z (blame_none c))) e h) (sym (column_none xs))

  -- where no character is ignored, the place is the column
  pub place_told : {b : Bool} {k : ℕ} → Marred b xs → b ≡ false → k ≤ length xs → k ≡ column_of xs k
  place_told {b} {k} m e h =
      let z : (has is_high xs || has is_control xs) ≡ false = sym m ∙ e in
      sym (column_unmarred xs k h (or_left (has is_high xs) (has is_control xs) z) (or_right (has is_high xs) (has is_control xs) z))

  -- ---- what fits: small conditions, places within the record
  pub fit_near : (fs : List Fault) → Small fs → Near (length xs) fs → Fit xs fs
  unfolding Small Near Fit
  fit_near [] h g = tt
  fit_near (f ∷ fs) h g = (h.0, g.0, fit_near fs h.1 g.1)

  -- a record's faults: two at most of ignored characters, and the modest ones of its step
  pub said_room : (n : Count) (o : Outcome) (size : ℕ) (high control : Bool) (said : List Fault) → Countable n → n.reports + size ≤ most_records
      → length xs ≤ longest → Modest size said → Near (length xs) said → Tellable (tallied n o) xs (ignored_by high control ++ said)
  unfolding tallied
  said_room n o size high control said h g l m q =
      let ig : List Fault = ignored_by high control in
      let a : length (ig ++ said) ≡ length ig + length said = length-append ig said in
      let w : length ig ≤ 2 = two high control in
      let f : length said ≤ size = m.few in
      let u : n.records < most_records = h.below in
      record {
        numbered = omega arith;
        room = omega arith;
        short = l;
        fit = fit_near (ig ++ said) (small_join ig said (ignored_small high control) m.small) (near_join (length xs) ig said (ignored_near (length xs) high control) q);
      }
    where
      two : (a b : Bool) → length (ignored_by a b) ≤ 2
      two true true = omega arith
      two true false = omega arith
      two false true = omega arith
      two false false = omega arith

  -- ---- two tellings, one after the other
  pub told_then : (x : Told) (fs gs : List Fault) {y z : Told} → y ≡ told_all xs x fs → z ≡ told_all xs y gs → z ≡ told_all xs x (fs ++ gs)
  told_then x fs gs e f = f ∙ ap (λ (w : Told). told_all xs w gs) e ∙ sym (told_join xs x fs gs)

  -- ---- faults as words, one by one
  module _ (ws : List ℕ) (i : ℕ) where
    abbrev fs : List Fault
    fs = faults_as ws

    faults_length : length fs ≡ length ws
    unfolding faults_as
    faults_length = length-map ws _

    fault_at : get_or fs i (fault_in 0) ≡ fault_in (get_or ws i 0)
    unfolding faults_as
    fault_at = get_or-map fault_in ws i 0

    pub turn_room : (n : Count) (k : List ℕ) {r : Count} {l : List ℕ} {f : Fault} → i < length ws → told r l ≡ told_all xs (told n k) (take i fs)
        → f ≡ fault_in (get_or ws i 0) → Tellable n xs fs → Tellable r xs (f ∷ [])
    turn_room n k {r} {l} h e q t =
        let v = get_or fs i (fault_in 0) in
        let z = drop (suc i) fs in
        let g : i < length fs = omega (arith, faults_length) in
        subst (λ (x : Fault). Tellable r xs (x ∷ [])) (sym (q ∙ sym fault_at))
        (front r (v ∷ []) z (rest n k (take i fs) (v ∷ z) e (subst (λ (w : List Fault). Tellable n xs w) (split_at fs i (fault_in 0) g) t)))

    pub turn_told : (x : Told) {y z : Told} {f : Fault} → i < length ws → y ≡ told_all xs x (take i fs) → f ≡ fault_in (get_or ws i 0)
        → z ≡ told_one xs y f → z ≡ told_all xs x (take (i + 1) fs)
    turn_told x {y} h e q f =
        let v = get_or fs i (fault_in 0) in
        let g : i < length fs = omega (arith, faults_length) in
        told_then x (take i fs) (v ∷ []) e (f ∙ ap (λ (c : Fault). told_one xs y c) (q ∙ sym fault_at) ∙ told_single _ v)
        ∙ ap (λ (w : List Fault). told_all xs x w) (sym (take-suc fs i (fault_in 0) g) ∙ ap (λ (k : ℕ). take k fs) (sym (add-one i)))

    pub turn_end : (x : Told) {y : Told} → length ws ≤ i → y ≡ told_all xs x (take i fs) → y ≡ told_all xs x fs
    turn_end x h e =
        let g : length fs ≤ i = omega (arith, faults_length) in
        e ∙ ap (λ (w : List Fault). told_all xs x w) (take_all i fs g)

  -- ---- the four groups of a record's faults
  module _ (hs bs cs ds : List Fault) where
    pub groups_length : length ((hs ++ bs) ++ (cs ++ ds)) ≡ length hs + length bs + length cs + length ds
    groups_length =
        let a : length ((hs ++ bs) ++ (cs ++ ds)) ≡ length (hs ++ bs) + length (cs ++ ds) = length-append (hs ++ bs) (cs ++ ds) in
        let b : length (hs ++ bs) ≡ length hs + length bs = length-append hs bs in
        let c : length (cs ++ ds) ≡ length cs + length ds = length-append cs ds in
        omega arith

    pub groups_fit : Fit xs ((hs ++ bs) ++ (cs ++ ds)) → Fit xs hs × Fit xs bs × Fit xs cs × Fit xs ds
    groups_fit h =
        let a = fit_front (hs ++ bs) (cs ++ ds) h in
        let b = fit_behind (hs ++ bs) (cs ++ ds) h in
        (fit_front hs bs a, fit_behind hs bs a, fit_front cs ds b, fit_behind cs ds b)

  -- room for faults where there is room for more, and for others behind those that were told
  module _ {n : Count} {zs : List Fault} (h : Tellable n xs zs) where
    pub room_a : {us : List Fault} → length us ≤ length zs → Fit xs us → Tellable n xs us
    room_a {us} k s =
        let r : n.reports + length zs ≤ most_reports = h.room in
        record { numbered = h.numbered; room = omega arith; short = h.short; fit = s }

    module _ (l : List ℕ) (ys : List Fault) {l₁ : List ℕ} {n₁ : Count} (e : told n₁ l₁ ≡ told_all xs (told n l) ys) where
      pub room_b : {us : List Fault} → length ys + length us ≤ length zs → Fit xs us → Tellable n₁ xs us
      room_b {us} k s =
          let r : n.reports + length zs ≤ most_reports = h.room in
          let m : n.records ≤ most_records = h.numbered in
          let p : n₁.reports ≡ n.reports + length ys = ap (λ (x : Told). x.count.reports) e ∙ told_reports (told n l) ys in
          let q : n₁.records ≡ n.records = ap (λ (x : Told). x.count.records) e ∙ told_records (told n l) ys in
          record { numbered = omega arith; room = omega arith; short = h.short; fit = s }

  module _ {n : Count} {zs : List Fault} (h : Tellable n xs zs) (l : List ℕ) (us vs : List Fault) {l₁ : List ℕ} {n₁ : Count}
      (e : told n₁ l₁ ≡ told_all xs (told n l) us) {l₂ : List ℕ} {n₂ : Count} (f : told n₂ l₂ ≡ told_all xs (told n₁ l₁) vs) where
    pub room_c : {ws : List Fault} → length us + length vs + length ws ≤ length zs → Fit xs ws → Tellable n₂ xs ws
    room_c {ws} k s =
        let a : length (us ++ vs) ≡ length us + length vs = length-append us vs in
        room_b h l (us ++ vs) (told_then (told n l) us vs e f) (omega arith) s

    pub room_d : (ys : List Fault) {l₃ : List ℕ} {n₃ : Count} → told n₃ l₃ ≡ told_all xs (told n₂ l₂) ys
        → {ws : List Fault} → length us + length vs + length ys + length ws ≤ length zs → Fit xs ws → Tellable n₃ xs ws
    room_d ys g {ws} k s =
        let a : length (us ++ vs) ≡ length us + length vs = length-append us vs in
        let b : length ((us ++ vs) ++ ys) ≡ length (us ++ vs) + length ys = length-append (us ++ vs) ys in
        room_b h l ((us ++ vs) ++ ys) (told_then (told n l) (us ++ vs) ys (told_then (told n l) us vs e f) g) (omega arith) s

  -- what they come to
  pub told_groups : (n : Count) (hs bs cs ds : List Fault) (l : List ℕ) {n₁ n₂ n₃ : Count} {l₁ l₂ l₃ : List ℕ} {x : Told}
      → told n₁ l₁ ≡ told_all xs (told n l) hs → told n₂ l₂ ≡ told_all xs (told n₁ l₁) bs → told n₃ l₃ ≡ told_all xs (told n₂ l₂) cs
      → x ≡ told_all xs (told n₃ l₃) ds → x ≡ told_all xs (told n l) ((hs ++ bs) ++ (cs ++ ds))
  told_groups n hs bs cs ds l {n₁} {n₂} {n₃} {l₁} {l₂} {l₃} e f g k =
      told_then (told n l) (hs ++ bs) (cs ++ ds) (told_then (told n l) hs bs e f) (told_then (told n₂ l₂) cs ds g k)
