-- A computed table holds its rule's value at each place, so that rules with the same table agree; by induction on the number of entries.
-- Assumes nothing.
use mathlib.Core.Path.{◌≡◌, refl, sym, ap, ◌∙◌}
use Prim.Native.Nat.{ℕ, zero, suc, ◌+◌, ◌<◌}
use native.Mathlib.Nat.{le_of_suc-le-suc, not-suc-le-zero, zero-add, add-zero, suc-add, add-suc}
use lib.ListN.{length, get_or}
use Rattle.cells.specs.Table.{tab}

pub length-tab : {A : Type 0} (f : ℕ → A) (k n : ℕ) → length (tab f k n) ≡ n
unfolding tab
length-tab f k zero = refl
length-tab f k (suc n) = ap suc (length-tab f (suc k) n)

pub tab_from : {A : Type 0} (f : ℕ → A) (k n i : ℕ) (d : A) → i < n → get_or (tab f k n) i d ≡ f (k + i)
unfolding tab
tab_from f k zero i d h = absurd (not-suc-le-zero h)
tab_from f k (suc n) zero d h = ap f (sym (add-zero k))
tab_from f k (suc n) (suc i) d h =
    tab_from f (suc k) n i d (le_of_suc-le-suc h) ∙ ap f (suc-add k i ∙ sym (add-suc k i))

pub tab_at : {A : Type 0} (f : ℕ → A) (n k : ℕ) (d : A) → k < n → get_or (tab f 0 n) k d ≡ f k
tab_at f n k d h = tab_from f 0 n k d h ∙ ap f (zero-add k)

-- two rules whose tables are the same agree at each place
pub tab_same : {A : Type 0} (f g : ℕ → A) (n k : ℕ) (d : A) → tab f 0 n ≡ tab g 0 n → k < n → f k ≡ g k
tab_same f g n k d e h = sym (tab_at f n k d h) ∙ (ap (λ t. get_or t k d) e ∙ tab_at g n k d h)
