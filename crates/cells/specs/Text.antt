-- A quoted text as the list of its characters' codes, so that a name or a line can be written as the standard writes it.
-- Assumes nothing.
use Rattle.std.specs.Prelude.{ℕ}
use Prim.Native.Char.{code}
use Prim.Native.String.{String, [], ◌∷◌}
use mathlib.Core.List as L

-- `bytes "CUE 1\r\n"`
abbrev pub bytes : String → L.List ℕ
bytes [] = L.[]
bytes (c ∷ s) = L.◌∷◌ (code c) (bytes s)
