-- Searching the places i, i + 1, .. , n of them, with a test of a place.
-- Assumes nothing.
use Rattle.std.specs.Prelude.{Bool, true, false, cond, ◌≡◌, ℕ, zero, suc, ◌+◌, ◌<◌, ◌≤◌}

pub data Found : Type 0 where
  at : ℕ → Found
  nowhere : Found

-- the first of the n places from i on that passes the test p
unfoldable pub first_from : (ℕ → Bool) → ℕ → ℕ → Found
first_from p zero i = nowhere
first_from p (suc n) i = let r = first_from p n (suc i) in cond (p i) (at i) r

-- all of the n places from i on pass
unfoldable pub all_from : (ℕ → Bool) → ℕ → ℕ → Bool
all_from p zero i = true
all_from p (suc n) i = let r = all_from p n (suc i) in cond (p i) r false

-- how many of the n places from i on pass
unfoldable pub count_from : (ℕ → Bool) → ℕ → ℕ → ℕ
count_from p zero i = zero
count_from p (suc n) i = let r = count_from p n (suc i) in cond (p i) (suc r) r

-- j is that first place: within the range, passing, and no place before it does
pub record IsFirst (p : ℕ → Bool) (n i j : ℕ) : Type 0 where
  pub from : i ≤ j
  pub below : j < i + n
  pub passes : p j ≡ true
  pub before : (k : ℕ) → i ≤ k → k < j → p k ≡ false
