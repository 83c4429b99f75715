-- The CHAN records of a memory as the code writes them, channel by channel (paper 01, "The written stream": "then non-zero channels
-- ascending, up to eight pairs a CHAN record"). The law `channels_are` says that they are `chan_lines`.
-- Assumes nothing.
use Rattle.std.specs.Prelude.{Bool, cond, List, [], ◌∷◌, ◌++◌, ℕ, ◌+◌, ◌*◌, eqb}
use Rattle.cells.specs.Text.{bytes}
use Rattle.save_lines.specs.Line.{crlf, pair_text, most_pairs, Lit}

abbrev pub lit : ℕ → ℕ → Lit
lit channel level = record { channel = channel; level = level }

-- ahead of a pair, in a record that has so many: the keyword where none is begun, the end and the keyword where it is full
unfoldable pub lead_text : ℕ → List ℕ
lead_text pairs = cond (eqb pairs 0) (bytes "CHAN") (cond (eqb pairs most_pairs) (bytes "\r\nCHAN") [])

-- a channel at level zero is left out
unfoldable pub channel_text : ℕ → ℕ → ℕ → List ℕ
channel_text pairs channel level = cond (eqb level 0) [] (lead_text pairs ++ pair_text (lit channel level))

-- the pairs of the record with one more
abbrev pub pairs_with : ℕ → ℕ
pairs_with pairs = cond (eqb pairs most_pairs) 1 (pairs + 1)

-- the pairs of the record after a channel
unfoldable pub pairs_after : ℕ → ℕ → ℕ
pairs_after pairs level = cond (eqb level 0) pairs (pairs_with pairs)

-- the record ends, if one is begun
unfoldable pub end_of_line : ℕ → List ℕ
end_of_line pairs = cond (eqb pairs 0) [] crlf

-- the levels of the channels from one on, in a record that has so many pairs
unfoldable pub channels_text : ℕ → ℕ → List ℕ → List ℕ
channels_text pairs channel [] = end_of_line pairs
channels_text pairs channel (v ∷ vs) =
    let r = channels_text (pairs_after pairs v) (channel + 1) vs in
    channel_text pairs channel v ++ r

-- ---- passing over dark channels

-- a level of zero
unfoldable pub is_dark : ℕ → Bool
is_dark level = eqb level 0

-- levels as a number, the first of the least weight
unfoldable pub weighed : List ℕ → ℕ
weighed [] = 0
weighed (v ∷ vs) = let r = weighed vs in v + 256 * r
