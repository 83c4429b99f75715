-- The part of a line that the code writes by itself.
-- Assumes nothing.
use Rattle.std.specs.Prelude.{List, ◌++◌, ℕ}
use Rattle.cells.specs.Text.{bytes}
use Rattle.value_written.specs.Text.{level_text}

-- `@HFF`
unfoldable pub at_level_text : ℕ → List ℕ
at_level_text level = bytes "@" ++ level_text level
