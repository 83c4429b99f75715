-- CHAN's pairs and PATCH's triples on two desks: a fault on both, a fault on the smaller alone since a number lies beyond its limit, or
-- the same item on both. By cases on each field.
-- Assumes nothing.
use Rattle.std.specs.Prelude.{Err, None, Ok, Option, Result, Some}
use mathlib.Core.Path.{◌≡◌}
use mathlib.Core.List.{List, [], ◌∷◌}
use Prim.Native.Nat.{ℕ, ◌≤◌, ◌<◌}
use native.Mathlib.Omega.{arith}
use Rattle.cells.proofs.Split.{by_le, clash}
use Rattle.store_desk.specs.declared.Desk.{Desk}
use Rattle.store_desk.specs.Size.{is_within}
use Rattle.store_desk.proofs.Size.{within, within_true}
use Rattle.text_fields.specs.Words.{Word, missing}
use Rattle.value.specs.Integer.{integer_of}
use Rattle.value_level.specs.Level.{level_of}
use Rattle.load.specs.declared.Fault.{Fault}
use Rattle.load.specs.declared.Entry.{Entry}
use Rattle.load.specs.declared.Entry.TheVariants.{Level, Patch, Faulty}
use Rattle.load.specs.Condition.{bad_channel, bad_dimmer}
use Rattle.load.specs.Item.{ranged_of, on_ranged, on_level, pair_of, triple_of, pairs_of, triples_of}
use Rattle.theorem_rehearse.specs.Rehearse.{Larger}
use Rattle.theorem_rehearse.proofs.Fields.{by_tests, within_more}
use Rattle.value_level.specs.declared.LevelError.{LevelError}
use Rattle.value_level.specs.declared.LevelError.TheVariants.{NotPercent, NotHex}

-- ---- a channel or dimmer
data Ranges (limit Limit : ℕ) : Result ℕ ℕ → Result ℕ ℕ → Type 0 where
  wrongs : {c C : ℕ} → Ranges limit Limit (Err c) (Err C)
  beyond : {c : ℕ} (n : ℕ) → limit < n → n ≤ Limit → Ranges limit Limit (Err c) (Ok n)
  same : (n : ℕ) → Ranges limit Limit (Ok n) (Ok n)

ranges : (limit Limit c : ℕ) → limit ≤ Limit → (i : Option ℕ) → Ranges limit Limit (ranged_of limit c i) (ranged_of Limit c i)
unfolding ranged_of
ranges limit Limit c l None = wrongs
ranges limit Limit c l (Some n) =
    by_tests (Ranges limit Limit) (is_within 1 n limit) (is_within 1 n Limit) (within_more n limit Limit l) (Ok n) (Err c) (Ok n) (Err c)
    (λ e. same n)
    (λ e E. let w = within 1 n Limit E in beyond n (by_le n limit (λ h. clash (within_true 1 n limit (w.0, h)) e) (λ h. h)) w.1)
    (λ E. wrongs)

-- ---- a pair: channel, level
pub data Pairs (d D : Desk) : Entry → Entry → Type 0 where
  pair_faults : {f F : Fault} → Pairs d D (Faulty f) (Faulty F)
  beyond_channel : {f : Fault} (n v : ℕ) → d.channels < n → Pairs d D (Faulty f) (Level n v)
  same_level : (n v : ℕ) → Pairs d D (Level n v) (Level n v)

module _ (d D : Desk) (a b : Word) where
  pair_by : {r R : Result ℕ ℕ} (w : Result ℕ LevelError) → Ranges d.channels D.channels r R
      → Pairs d D (on_ranged a r (λ n. on_level b w (λ u. Level n u))) (on_ranged a R (λ n. on_level b w (λ u. Level n u)))
  unfolding on_ranged on_level
  pair_by w wrongs = pair_faults
  pair_by (Err NotPercent) (beyond n h H) = pair_faults
  pair_by (Err NotHex) (beyond n h H) = pair_faults
  pair_by (Ok v) (beyond n h H) = beyond_channel n v h
  pair_by (Err NotPercent) (same n) = pair_faults
  pair_by (Err NotHex) (same n) = pair_faults
  pair_by (Ok v) (same n) = same_level n v

-- ---- a triple: channel, dimmer, level. With equally many channels it is a dimmer that lies beyond
pub data Triples (d D : Desk) : Entry → Entry → Type 0 where
  triple_faults : {f F : Fault} → Triples d D (Faulty f) (Faulty F)
  beyond_triple : {f : Fault} (n k v : ℕ) → (d.channels ≡ D.channels → d.dimmers < k) → Triples d D (Faulty f) (Patch n k v)
  same_triple : (n k v : ℕ) → Triples d D (Patch n k v) (Patch n k v)

module _ (d D : Desk) (a b x : Word) where
  triple_by : {r R q Q : Result ℕ ℕ} (w : Result ℕ LevelError) → Ranges d.channels D.channels r R → Ranges d.dimmers D.dimmers q Q
      → Triples d D (on_ranged a r (λ n. on_ranged b q (λ k. on_level x w (λ u. Patch n k u))))
      (on_ranged a R (λ n. on_ranged b Q (λ k. on_level x w (λ u. Patch n k u))))
  unfolding on_ranged on_level
  triple_by w wrongs g = triple_faults
  triple_by w (beyond n h H) wrongs = triple_faults
  triple_by (Err NotPercent) (beyond n h H) (beyond k g G) = triple_faults
  triple_by (Err NotHex) (beyond n h H) (beyond k g G) = triple_faults
  triple_by (Ok v) (beyond n h H) (beyond k g G) = beyond_triple n k v (λ z. g)
  triple_by (Err NotPercent) (beyond n h H) (same k) = triple_faults
  triple_by (Err NotHex) (beyond n h H) (same k) = triple_faults
  triple_by (Ok v) (beyond n h H) (same k) = beyond_triple n k v (λ z. absurd (omega arith))
  triple_by w (same n) wrongs = triple_faults
  triple_by (Err NotPercent) (same n) (beyond k g G) = triple_faults
  triple_by (Err NotHex) (same n) (beyond k g G) = triple_faults
  triple_by (Ok v) (same n) (beyond k g G) = beyond_triple n k v (λ z. g)
  triple_by (Err NotPercent) (same n) (same k) = triple_faults
  triple_by (Err NotHex) (same n) (same k) = triple_faults
  triple_by (Ok v) (same n) (same k) = same_triple n k v

-- ---- the items of a record, one by one
pub data Each (R : Entry → Entry → Type 0) : List Entry → List Entry → Type 0 where
  none : Each R [] []
  next : {e E : Entry} {es ES : List Entry} → R e E → Each R es ES → Each R (e ∷ es) (E ∷ ES)

module _ (d D : Desk) (l : Larger d D) where
  pair : (c v : Word) → Pairs d D (pair_of d c v) (pair_of D c v)
  unfolding pair_of
  pair c v = pair_by d D c v (level_of v.chars) (ranges d.channels D.channels bad_channel l.channels (integer_of c.chars))

  triple : (c m v : Word) → Triples d D (triple_of d c m v) (triple_of D c m v)
  unfolding triple_of
  triple c m v =
      triple_by d D c m v (level_of v.chars)
      (ranges d.channels D.channels bad_channel l.channels (integer_of c.chars))
      (ranges d.dimmers D.dimmers bad_dimmer l.dimmers (integer_of m.chars))

  pub pairs : (ws : List Word) → Each (Pairs d D) (pairs_of d ws) (pairs_of D ws)
  unfolding pairs_of
  pairs [] = none
  pairs (c ∷ []) = next (pair c missing) none
  pairs (c ∷ (v ∷ ws)) = next (pair c v) (pairs ws)

  pub triples : (ws : List Word) → Each (Triples d D) (triples_of d ws) (triples_of D ws)
  unfolding triples_of
  triples [] = none
  triples (c ∷ []) = next (triple c missing missing) none
  triples (c ∷ (m ∷ [])) = next (triple c m missing) none
  triples (c ∷ (m ∷ (v ∷ ws))) = next (triple c m v) (triples ws)
