-- Marks as the code sets and reads them; past their end nothing is set.
-- Assumes nothing.
use mathlib.Core.Path.{◌≡◌, sym, ap, ◌∙◌}
use mathlib.Core.Bool.{false}
use mathlib.Core.List.{List}
use Prim.Native.Nat.{ℕ, ◌/◌, ◌%◌, ◌≤◌}
use lib.Dec.{eqb}
use lib.ListN.{length, get_or, set, get_or-eq_default}
use lib.Seq.{set_out}
use Rattle.load_hear.proofs.Bits.{no_bit}
use Rattle.load_hear.specs.Marks.{bit_of, with_bit, marked, is_marked}

-- ---- a mark
pub mark_none : (ms : List ℕ) (n : ℕ) → length ms ≤ n / 8 → ms ≡ marked ms n
unfolding marked
mark_none ms n h = sym (set_out ms (n / 8) (with_bit (n % 8) (get_or ms (n / 8) 0)) h)

pub mark_some : (ms : List ℕ) (n : ℕ) (b : ℕ) → b ≡ with_bit (n % 8) (get_or ms (n / 8) 0) → set ms (n / 8) b ≡ marked ms n
unfolding marked
mark_some ms n b e = ap (λ (v : ℕ). set ms (n / 8) v) e

pub none_marked : (ms : List ℕ) (n : ℕ) → length ms ≤ n / 8 → false ≡ is_marked ms n
unfolding is_marked
none_marked ms n h = sym (ap (λ (c : ℕ). eqb (bit_of (n % 8) c) 1) (get_or-eq_default ms 0 h) ∙ ap (λ (b : ℕ). eqb b 1) (no_bit (n % 8)))
