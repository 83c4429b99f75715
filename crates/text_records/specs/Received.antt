-- The longest record: paper 01, "Records (§5)", on more than 80 characters.
-- Assumes nothing.
use Rattle.std.specs.Prelude.{ℕ}

-- how many characters a record may have, the ignored ones counted with them (more: 0091)
abbrev pub longest : ℕ
longest = 80
