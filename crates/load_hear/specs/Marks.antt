-- What is noted of a load with translation while it goes: a mark, one bit, for each CUE record, in their order, set where it was accepted (paper 02,
-- C-13). No promise above the load names these.
-- Assumes nothing.
use Rattle.std.specs.Prelude.{Bool, List, [], ◌∷◌, ℕ, zero, suc, ◌+◌, ◌*◌, ◌/◌, ◌%◌, eqb, get_or, set}
use Rattle.store_desk.specs.declared.Kind.TheVariants.{Cue, Group, Sub}
use Rattle.load.specs.declared.Heard.{Heard}
use Rattle.load.specs.declared.Heard.TheVariants.{Other, Accepted, Refused, Link as Asked}
use Rattle.load.specs.Translated.{Note}

-- ---- bits of a byte, the lowest first

unfoldable pub bit_of : ℕ → ℕ → ℕ
bit_of zero c = c % 2
bit_of (suc b) c = bit_of b (c / 2)

unfoldable pub with_bit : ℕ → ℕ → ℕ
with_bit zero c = c / 2 * 2 + 1
with_bit (suc b) c = with_bit b (c / 2) * 2 + c % 2

-- ---- marks, eight to a byte

unfoldable pub marked : List ℕ → ℕ → List ℕ
marked ms n = set ms (n / 8) (with_bit (n % 8) (get_or ms (n / 8) 0))

unfoldable pub is_marked : List ℕ → ℕ → Bool
is_marked ms n = eqb (bit_of (n % 8) (get_or ms (n / 8) 0)) 1

-- ---- a record noted, after so many CUE records

unfoldable pub marked_at : List ℕ → ℕ → Heard → List ℕ
marked_at ms tried Other = ms
marked_at ms tried (Accepted Cue) = marked ms tried
marked_at ms tried (Accepted Group) = ms
marked_at ms tried (Accepted Sub) = ms
marked_at ms tried (Refused k) = ms
marked_at ms tried (Asked m) = ms

unfoldable pub tried_at : ℕ → Heard → ℕ
tried_at tried Other = tried
tried_at tried (Accepted Cue) = tried + 1
tried_at tried (Accepted Group) = tried
tried_at tried (Accepted Sub) = tried
tried_at tried (Refused Cue) = tried + 1
tried_at tried (Refused Group) = tried
tried_at tried (Refused Sub) = tried
tried_at tried (Asked m) = tried

-- ---- the marks of all the records that were read
unfoldable pub marks_by : List ℕ → ℕ → List Note → List ℕ
marks_by ms tried [] = ms
marks_by ms tried (n ∷ ns) = marks_by (marked_at ms tried n.heard) (tried_at tried n.heard) ns
