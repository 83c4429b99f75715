-- Laws of numbers that a linear argument does not give: products of two unknowns, as places of records of one length side by side. By the
-- kit's laws of products.
-- Assumes nothing.
use mathlib.Core.Path.{◌≡◌, ap, ◌∙◌, subst}
use Prim.Native.Nat.{ℕ, ◌+◌, ◌*◌, ◌<◌, ◌≤◌}
use native.Mathlib.Nat.{mul-le-mul_right, add-mul, one-mul}
use native.Mathlib.Omega.{arith}

pub product_next : (i len : ℕ) → (i + 1) * len ≡ i * len + len
product_next i len = add-mul i 1 len ∙ ap (λ (k : ℕ). i * len + k) (one-mul len)

pub products : {i j : ℕ} (len : ℕ) → i ≤ j → i * len ≤ j * len
products len h = mul-le-mul_right len h

pub apart : {i j : ℕ} (len : ℕ) → i < j → i * len + len ≤ j * len
apart {i} {j} len h =
    let l : i + 1 ≤ j = omega arith in subst (λ (k : ℕ). k ≤ j * len) (product_next i len) (mul-le-mul_right len l)

-- record i of n lies within them
pub within : {i n : ℕ} (len : ℕ) → i < n → i * len + len ≤ n * len
within len h = apart len h
