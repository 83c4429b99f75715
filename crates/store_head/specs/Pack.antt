-- Numbers packed side by side in bits, most significant first (paper 01, "The store": "fields are packed most significant bit first").
-- Assumes nothing.
use Rattle.std.specs.Prelude.{List, [], ◌∷◌, ℕ, ◌+◌, ◌*◌, ◌/◌, ◌%◌, ◌^◌, ◌<◌, get_or}

-- the bits that fields of these widths take
unfoldable pub total : List ℕ → ℕ
total [] = 0
total (w ∷ ws) = w + total ws

-- values of these widths as one number: the first in the most significant bits
unfoldable pub packed : List ℕ → List ℕ → ℕ
packed [] vs = 0
packed (w ∷ ws) [] = 0
packed (w ∷ ws) (v ∷ vs) = v * 2 ^ total ws + packed ws vs

-- the values of these widths that a number packs
unfoldable pub unpacked : List ℕ → ℕ → List ℕ
unpacked [] n = []
unpacked (w ∷ ws) n = n / 2 ^ total ws % 2 ^ w ∷ unpacked ws n

-- each value fits its width
abbrev pub FitsIn : List ℕ → List ℕ → Type 0
FitsIn [] [] = Unit
FitsIn [] (v ∷ vs) = ⊥
FitsIn (w ∷ ws) [] = ⊥
FitsIn (w ∷ ws) (v ∷ vs) = (v < 2 ^ w) × FitsIn ws vs

-- a list of bytes
abbrev pub Bytes : List ℕ → Type 0
Bytes s = (i : ℕ) → get_or s i 0 < 256
