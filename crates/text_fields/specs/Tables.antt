-- What the functions below give: a word's first ten characters as one number, and what a table says of such a number. The laws say that
-- this makes what specs/Keywords.antt says. No promise above the load names these.
-- Assumes nothing.
use Rattle.std.specs.Prelude.{Bool, true, cond, ◌&&◌, ◌≡◌, List, [], ◌∷◌, ℕ, ◌+◌, ◌-◌, ◌*◌, ◌≤◌, eqb, ltb, leb, length, get_or, take, drop}
use Rattle.cells.specs.Scan.{span}
use Rattle.cells.specs.Text.{bytes}
use Rattle.text_fields.specs.declared.Keyword.{Keyword}
use Rattle.text_fields.specs.declared.Keyword.TheVariants.{Local, Comment, Unknown}
use Rattle.text_fields.specs.declared.Item.{Item}
use Rattle.text_fields.specs.declared.Item.TheVariants.{Local as localItem, Other}
use Rattle.text_fields.specs.declared.Keyed.{Keyed}
use Rattle.text_fields.specs.declared.Said.{Said}
use Rattle.text_fields.specs.declared.SaidItem.{SaidItem}
use Rattle.text_fields.specs.Words.{is_delimiter, is_word}
use Rattle.text_fields.specs.Places.{end_from}
use Rattle.text_fields.specs.Keywords.{upper, same_text, Row, keyword_rows, item_rows, dollar, keyword_of, item_of}

abbrev pub is_capital : ℕ → Bool
is_capital c = leb 65 c && leb c 90

-- a letter as a number from 1 to 26, small ones and capitals alike; 31 for every other character
unfoldable pub letter_of : ℕ → ℕ
letter_of c = cond (is_capital (upper c)) (upper c - 64) 31

-- five bits a character, the first lowest
unfoldable pub field_key : List ℕ → ℕ
field_key [] = 0
field_key (c ∷ cs) = field_key cs * 32 + letter_of c

-- the key of a row's name
abbrev pub row_key : {A : Type 0} → Row A → ℕ
row_key r = field_key (take 10 r.name)

-- what the first row says whose name has this key
unfoldable pub meaning_by : {A : Type 0} → List (Row A) → A → ℕ → A
meaning_by [] other k = other
meaning_by (r ∷ rs) other k = let m = meaning_by rs other k in cond (eqb k (row_key r)) r.means m

-- a word by its first two characters and its number
unfoldable pub keyword_by : ℕ → ℕ → ℕ → Keyword
keyword_by a b k =
    let m = meaning_by keyword_rows Unknown k in
    cond (eqb a dollar) (cond (eqb b dollar) Comment Local) m

unfoldable pub item_by : ℕ → ℕ → Item
item_by a k = let m = meaning_by item_rows Other k in cond (eqb a dollar) localItem m

-- the characters of the word that stands at a place
abbrev pub chars_at : List ℕ → ℕ → List ℕ
chars_at text at = take (span is_word (drop at text)) (drop at text)

-- its key, and where it ends
unfoldable pub keyed_at : List ℕ → ℕ → Keyed
keyed_at text at = record { key = field_key (take 10 (chars_at text at)); end = end_from text at }

-- whether a field that goes up to a place ends there: at the end of the text, or at a delimiter
unfoldable pub ends_at : List ℕ → ℕ → Bool
ends_at text at = cond (ltb at (length text)) (is_delimiter (get_or text at 0)) true

-- a place in a text where a field ended
pub record Ended (text : List ℕ) (place : ℕ) : Type 0 where
  pub within : place ≤ length text
  pub ends : ends_at text place ≡ true

-- whether CHAN stands at a place in capitals, and nothing else
unfoldable pub is_chan : List ℕ → ℕ → Bool
is_chan text at =
    leb (at + 4) (length text)
    && (same_text (take 4 (drop at text)) (bytes "CHAN") && ends_at text (at + 4))

-- what it is as a keyword, or as a CLEAR item, and where it ends
unfoldable pub said_at : List ℕ → ℕ → Said
said_at text at = record { keyword = keyword_of (chars_at text at); end = end_from text at }

unfoldable pub said_item_at : List ℕ → ℕ → SaidItem
said_item_at text at = record { item = item_of (chars_at text at); end = end_from text at }
