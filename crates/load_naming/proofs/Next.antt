-- The next name of a kind, as the code finds it in a load with translation. By cases on the kind and on the test of the page.
-- Assumes nothing.
use mathlib.Core.Path.{◌≡◌, sym, subst}
use mathlib.Core.Bool.{true}
use Prim.Native.Nat.{ℕ, ◌≤◌, ◌<◌}
use native.Mathlib.Omega.{arith}
use Rattle.store_desk.specs.declared.Desk.{Desk}
use Rattle.store_desk.specs.declared.Kind.{Kind}
use Rattle.store_desk.specs.declared.Kind.TheVariants.{Cue, Group, Sub}
use Rattle.store_desk.specs.Name.{supported}
use Rattle.load.specs.declared.Numbers.{Numbers}
use Rattle.load.specs.Anew.{last_number, accepted_of}
use Rattle.load.specs.Fits.{most_records, NumbersFit}
use Rattle.load.proofs.Anew.{some_number}

-- ---- a page has a last number
module _ (d : Desk) (k : Kind) {last : ℕ} (e : last ≡ last_number d k) where
  pub last_pos : supported d k ≡ true → 0 < last
  last_pos h = subst (λ (x : ℕ). 0 < x) (sym e) (some_number d k h)

-- ---- few were accepted
accepted_few : (n : Numbers) (k : Kind) → NumbersFit n → accepted_of n k ≤ most_records
unfolding accepted_of
accepted_few n Cue f = f.cues
accepted_few n Group f = f.groups
accepted_few n Sub f = f.subs

pub accepted_small : (n : Numbers) (k : Kind) {a : ℕ} → NumbersFit n → a ≡ accepted_of n k → a < 4294967295
accepted_small n k {a} f e = let q : accepted_of n k ≤ most_records = accepted_few n k f in omega arith
