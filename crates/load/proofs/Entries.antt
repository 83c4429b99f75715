-- CHAN's pairs and PATCH's triples on one desk: each lies in its range, or its condition fits a report and one of its fields is blamed; and
-- two fields at least make one.
-- By cases on each field.
-- Assumes nothing.
use Rattle.std.specs.Prelude.{Err, None, Ok, Option, Result, Some}
use mathlib.Core.Path.{refl}
use mathlib.Core.List.{List, [], ◌∷◌}
use Prim.Native.Nat.{ℕ, suc, ◌+◌, ◌*◌, ◌≤◌, ◌<◌}
use native.Mathlib.Omega.{arith}
use lib.ListN.{length}
use lib.Dec.{lit<}
use Rattle.cells.proofs.Split.{by_test}
use Rattle.store_desk.specs.declared.Desk.{Desk}
use Rattle.store_desk.specs.Size.{is_within}
use Rattle.store_desk.specs.Size.{Within as InLimits}
use Rattle.store_desk.proofs.Size.{within}
use Rattle.text_records.specs.Cleaning.{has}
use Rattle.text_fields.specs.Words.{Word, missing}
use Rattle.value.specs.Integer.{integer_of}
use Rattle.value_level.specs.Level.{level_of}
use Rattle.value_level.proofs.Levels.{LevelOk, level_ok}
use Rattle.load.specs.declared.Entry.{Entry}
use Rattle.load.specs.declared.Entry.TheVariants.{Level, Patch, Faulty}
use Rattle.load.specs.Condition.{malformed_integer, bad_hex, bad_channel, bad_dimmer, bad_percent, blames_keyword, blames_none}
use Rattle.load.specs.Item.{blame, ranged_of, dimmer_of, on_ranged, on_level, pair_of, triple_of, pairs_of, triples_of, faults_of}
use Rattle.load.specs.Fits.{EntryFits, AllFit}
use Rattle.load.proofs.Faulted.{Blamed, FieldOf, Fields, missing_field, field_blamed}
use Rattle.value_level.specs.declared.LevelError.{LevelError}
use Rattle.value_level.specs.declared.LevelError.TheVariants.{NotPercent, NotHex}

-- ---- a field in its range
ranged_fits : (P : Entry → Type 0) (limit beyond : ℕ) (w : Word) (i : Option ℕ) (f : ℕ → Entry)
    → P (Faulty (blame w malformed_integer)) → P (Faulty (blame w beyond)) → ((n : ℕ) → InLimits 1 n limit → P (f n))
    → P (on_ranged w (ranged_of limit beyond i) f)
unfolding ranged_of on_ranged
ranged_fits P limit beyond w None f bad high good = bad
ranged_fits P limit beyond w (Some n) f bad high good =
    by_test (λ (r : Result ℕ ℕ). P (on_ranged w r f)) (is_within 1 n limit) (Ok n) (Err beyond)
    (λ e. good n (within 1 n limit e))
    (λ e. high)

level_fits : (P : Entry → Type 0) (w : Word) (x : Result ℕ LevelError) → LevelOk x → (f : ℕ → Entry)
    → P (Faulty (blame w bad_percent)) → P (Faulty (blame w bad_hex)) → ((v : ℕ) → v < 256 → P (f v)) → P (on_level w x f)
unfolding on_level
level_fits P w (Err NotPercent) h f percent hex good = percent
level_fits P w (Err NotHex) h f percent hex good = hex
level_fits P w (Ok v) h f percent hex good = good v h

-- a fault blames one of a record's fields
abbrev EntryTold : List Word → Entry → Type 0
EntryTold fs (Level channel v) = Unit {0}
EntryTold fs (Patch channel dimmer v) = Unit {0}
EntryTold fs (Faulty f) = Blamed fs f

abbrev pub EntriesTold : List Word → List Entry → Type 0
EntriesTold fs [] = Unit {0}
EntriesTold fs (e ∷ es) = EntryTold fs e × EntriesTold fs es

-- ---- pairs and triples
module _ (d : Desk) where
  pub pair_fits : (c l : Word) → EntryFits d (pair_of d c l)
  unfolding pair_of
  pair_fits c l =
      ranged_fits (EntryFits d) d.channels bad_channel c (integer_of c.chars) (λ n. on_level l (level_of l.chars) (λ v. Level n v))
      (lit< tt) (lit< tt)
      (λ n h. level_fits (EntryFits d) l (level_of l.chars) (level_ok l.chars) (λ v. Level n v) (lit< tt) (lit< tt) (λ v b. (h, b)))

  pub triple_fits : (c m l : Word) → EntryFits d (triple_of d c m l)
  unfolding triple_of
  triple_fits c m l =
      ranged_fits (EntryFits d) d.channels bad_channel c (integer_of c.chars)
      (λ n. on_ranged m (dimmer_of d m) (λ k. on_level l (level_of l.chars) (λ v. Patch n k v)))
      (lit< tt) (lit< tt)
      (λ n h.
      ranged_fits (EntryFits d) d.dimmers bad_dimmer m (integer_of m.chars) (λ k. on_level l (level_of l.chars) (λ v. Patch n k v))
      (lit< tt) (lit< tt)
      (λ k g. level_fits (EntryFits d) l (level_of l.chars) (level_ok l.chars) (λ v. Patch n k v) (lit< tt) (lit< tt) (λ v b. (h, g, b))))

  pub pairs_fit : (ws : List Word) → AllFit d (pairs_of d ws)
  unfolding pairs_of
  pairs_fit [] = tt
  pairs_fit (c ∷ []) = (pair_fits c missing, tt)
  pairs_fit (c ∷ (l ∷ ws)) = (pair_fits c l, pairs_fit ws)

  pub triples_fit : (ws : List Word) → AllFit d (triples_of d ws)
  unfolding triples_of
  triples_fit [] = tt
  triples_fit (c ∷ []) = (triple_fits c missing missing, tt)
  triples_fit (c ∷ (m ∷ [])) = (triple_fits c m missing, tt)
  triples_fit (c ∷ (m ∷ (l ∷ ws))) = (triple_fits c m l, triples_fit ws)

  -- ---- two fields at least make one item, but for the last
  pub pairs_few : (ws : List Word) → 2 * length (pairs_of d ws) ≤ length ws + 1
  unfolding pairs_of
  pairs_few [] = omega arith
  pairs_few (c ∷ []) = omega arith
  pairs_few (c ∷ (l ∷ ws)) = let r = pairs_few ws in omega arith

  pub triples_few : (ws : List Word) → 2 * length (triples_of d ws) ≤ length ws + 1
  unfolding triples_of
  triples_few [] = omega arith
  triples_few (c ∷ []) = omega arith
  triples_few (c ∷ (m ∷ [])) = omega arith
  triples_few (c ∷ (m ∷ (l ∷ ws))) = let r = triples_few ws in omega arith

-- ---- a fault blames the first of its item's fields that is wrong
module _ (d : Desk) (fs : List Word) where
  pair_told : (c l : Word) → FieldOf fs c → FieldOf fs l → EntryTold fs (pair_of d c l)
  unfolding pair_of blames_keyword blames_none has
  pair_told c l oc ol =
      ranged_fits (EntryTold fs) d.channels bad_channel c (integer_of c.chars) (λ n. on_level l (level_of l.chars) (λ v. Level n v))
      (field_blamed fs c malformed_integer oc (lit< tt, refl, refl)) (field_blamed fs c bad_channel oc (lit< tt, refl, refl))
      (λ n h.
      level_fits (EntryTold fs) l (level_of l.chars) (level_ok l.chars) (λ v. Level n v)
      (field_blamed fs l bad_percent ol (lit< tt, refl, refl)) (field_blamed fs l bad_hex ol (lit< tt, refl, refl))
      (λ v b. tt))

  triple_told : (c m l : Word) → FieldOf fs c → FieldOf fs m → FieldOf fs l → EntryTold fs (triple_of d c m l)
  unfolding triple_of blames_keyword blames_none has
  triple_told c m l oc om ol =
      ranged_fits (EntryTold fs) d.channels bad_channel c (integer_of c.chars)
      (λ n. on_ranged m (dimmer_of d m) (λ k. on_level l (level_of l.chars) (λ v. Patch n k v)))
      (field_blamed fs c malformed_integer oc (lit< tt, refl, refl)) (field_blamed fs c bad_channel oc (lit< tt, refl, refl))
      (λ n h.
      ranged_fits (EntryTold fs) d.dimmers bad_dimmer m (integer_of m.chars) (λ k. on_level l (level_of l.chars) (λ v. Patch n k v))
      (field_blamed fs m malformed_integer om (lit< tt, refl, refl)) (field_blamed fs m bad_dimmer om (lit< tt, refl, refl))
      (λ k g.
      level_fits (EntryTold fs) l (level_of l.chars) (level_ok l.chars) (λ v. Patch n k v)
      (field_blamed fs l bad_percent ol (lit< tt, refl, refl)) (field_blamed fs l bad_hex ol (lit< tt, refl, refl))
      (λ v b. tt)))

  pub pairs_told : (ws : List Word) → Fields fs ws → EntriesTold fs (pairs_of d ws)
  unfolding pairs_of
  pairs_told [] h = tt
  pairs_told (c ∷ []) h = (pair_told c missing (h 0) (missing_field fs), tt)
  pairs_told (c ∷ (l ∷ ws)) h = (pair_told c l (h 0) (h 1), pairs_told ws (λ i. h (suc (suc i))))

  pub triples_told : (ws : List Word) → Fields fs ws → EntriesTold fs (triples_of d ws)
  unfolding triples_of
  triples_told [] h = tt
  triples_told (c ∷ []) h = (triple_told c missing missing (h 0) (missing_field fs) (missing_field fs), tt)
  triples_told (c ∷ (m ∷ [])) h = (triple_told c m missing (h 0) (h 1) (missing_field fs), tt)
  triples_told (c ∷ (m ∷ (l ∷ ws))) h = (triple_told c m l (h 0) (h 1) (h 2), triples_told ws (λ i. h (suc (suc (suc i)))))

-- and each has one fault at most
pub faults_few : (es : List Entry) → length (faults_of es) ≤ length es
unfolding faults_of
faults_few [] = omega arith
faults_few (Level n v ∷ es) = let h = faults_few es in omega arith
faults_few (Patch n k v ∷ es) = let h = faults_few es in omega arith
faults_few (Faulty f ∷ es) = let h = faults_few es in omega arith
