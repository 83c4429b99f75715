-- What a call that writes answers and leaves behind.
-- Assumes nothing.
use Rattle.std.specs.Prelude.{List, ℕ, ◌+◌, length}
use Rattle.cells.specs.Put.{put}

-- the place after what was written, and the output
pub record Wrote : Type 0 where
  pub next : ℕ
  pub out : List ℕ

abbrev pub wrote : ℕ → List ℕ → Wrote
wrote n o = record { next = n; out = o }

-- xs written into t at place a
unfoldable pub wrote_at : List ℕ → ℕ → List ℕ → Wrote
wrote_at t a xs = wrote (a + length xs) (put t a xs)
