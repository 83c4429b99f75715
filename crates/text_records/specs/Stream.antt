-- The records of a stream: paper 01, "Records (§5)", on terminators and the last record.
-- Assumes nothing.
use Rattle.std.specs.Prelude.{Bool, cond, not, ◌||◌, List, [], ◌∷◌, map, ℕ, zero, suc, ◌+◌, eqb, length, get_or, take, drop}
use Rattle.cells.specs.Scan.{span}

abbrev pub CR : ℕ
CR = 13

abbrev pub LF : ℕ
LF = 10

-- a character that ends a record; every other byte at all is a character of one
unfoldable pub is_end : ℕ → Bool
is_end c = eqb c CR || eqb c LF

abbrev pub is_text : ℕ → Bool
is_text c = not (is_end c)

-- the length of a terminator that begins with c and may go on with d: CR, LF, CR+LF or LF+CR, greedily; 0 where c ends nothing
unfoldable pub terminated : ℕ → ℕ → ℕ
terminated c d = cond (eqb c CR) (cond (eqb d LF) 2 1) (cond (eqb c LF) (cond (eqb d CR) 2 1) 0)

-- the length of the terminator at the front of the stream
abbrev pub terminator_of : List ℕ → ℕ
terminator_of s = terminated (get_or s 0 0) (get_or s 1 0)

-- of the record that starts at a place: where its characters end, and where the next record starts
abbrev pub record_end : List ℕ → ℕ → ℕ
record_end s at = at + span is_text (drop at s)

abbrev pub next_start : List ℕ → ℕ → ℕ
next_start s end = end + terminator_of (drop end s)

-- the length of the first record, its terminator with it
abbrev pub piece_length : List ℕ → ℕ
piece_length s = span is_text s + terminator_of (drop (span is_text s) s)

-- the first n records, each with its terminator. At the end of the stream there is none, so that a last record without a terminator
-- counts if it has a character
unfoldable pub pieces_in : ℕ → List ℕ → List (List ℕ)
pieces_in zero s = []
pieces_in (suc n) [] = []
pieces_in (suc n) (c ∷ s) =
    let k = piece_length (c ∷ s) in
    let r = pieces_in n (drop k (c ∷ s)) in
    take k (c ∷ s) ∷ r

-- all of them, in order: there are no more records than bytes
unfoldable pub pieces_of : List ℕ → List (List ℕ)
pieces_of s = pieces_in (length s) s

-- the characters of a record without its terminator
unfoldable pub bare : List ℕ → List ℕ
bare piece = take (span is_text piece) piece

-- the characters of each record of a stream
unfoldable pub records_of : List ℕ → List (List ℕ)
records_of s = map bare (pieces_of s)
