-- Keywords and CLEAR items: paper 01, "Records (§5)", on the first ten characters and on `$`, and "The build and its edges".
-- Assumes nothing.
use Rattle.std.specs.Prelude.{Bool, true, false, cond, ◌&&◌, List, [], ◌∷◌, map, ℕ, ◌-◌, eqb, leb, get_or, take}
use Rattle.cells.specs.Text.{bytes}
use Rattle.text_fields.specs.declared.Keyword.{Keyword}
use Rattle.text_fields.specs.declared.Keyword.TheVariants.{Ident, Clear, Patch, Cue, Group, Sub, Chan, Up, Down, Followon, Link, Enddata}
use Rattle.text_fields.specs.declared.Keyword.TheVariants.{Manufacturer, Console, Set, Text, Part, Local, Comment, Unknown}
use Rattle.text_fields.specs.declared.Item.{Item}
use Rattle.text_fields.specs.declared.Item.TheVariants.{All, Cues, Groups, Patch as patches, Subs, Local as localItem, Other}

-- a small letter as its capital
unfoldable pub upper : ℕ → ℕ
upper c = cond (leb 97 c && leb c 122) (c - 32) c

unfoldable pub same_text : List ℕ → List ℕ → Bool
same_text [] [] = true
same_text [] (d ∷ ds) = false
same_text (c ∷ cs) [] = false
same_text (c ∷ cs) (d ∷ ds) = eqb c d && same_text cs ds

-- a word compares with a name by their first ten characters, letter case ignored
unfoldable pub same_word_of : List ℕ → List ℕ → Bool
same_word_of w name = same_text (map upper (take 10 w)) (take 10 name)

-- a table of names and what they mean; a word means what the first name says that it compares with
pub record Row (A : Type 0) : Type 0 where
  pub name : List ℕ
  pub means : A

unfoldable pub meaning_of : {A : Type 0} → List (Row A) → A → List ℕ → A
meaning_of [] other w = other
meaning_of (r ∷ rs) other w = let m = meaning_of rs other w in cond (same_word_of w r.name) r.means m

-- the twelve keywords that are read, and the five that are passed over
unfoldable pub keyword_rows : List (Row Keyword)
keyword_rows =
    record { name = bytes "IDENT"; means = Ident }
    ∷ record { name = bytes "CLEAR"; means = Clear }
    ∷ record { name = bytes "PATCH"; means = Patch }
    ∷ record { name = bytes "CUE"; means = Cue }
    ∷ record { name = bytes "GROUP"; means = Group }
    ∷ record { name = bytes "SUB"; means = Sub }
    ∷ record { name = bytes "CHAN"; means = Chan }
    ∷ record { name = bytes "UP"; means = Up }
    ∷ record { name = bytes "DOWN"; means = Down }
    ∷ record { name = bytes "FOLLOWON"; means = Followon }
    ∷ record { name = bytes "LINK"; means = Link }
    ∷ record { name = bytes "ENDDATA"; means = Enddata }
    ∷ record { name = bytes "MANUFACTURER"; means = Manufacturer }
    ∷ record { name = bytes "CONSOLE"; means = Console }
    ∷ record { name = bytes "SET"; means = Set }
    ∷ record { name = bytes "TEXT"; means = Text }
    ∷ record { name = bytes "PART"; means = Part }
    ∷ []

-- the items of CLEAR (§8.1)
unfoldable pub item_rows : List (Row Item)
item_rows =
    record { name = bytes "ALL"; means = All }
    ∷ record { name = bytes "CUES"; means = Cues }
    ∷ record { name = bytes "GROUPS"; means = Groups }
    ∷ record { name = bytes "PATCH"; means = patches }
    ∷ record { name = bytes "SUBMASTERS"; means = Subs }
    ∷ []

abbrev pub dollar : ℕ
dollar = 36

-- of a `$` keyword only the second character is looked at, to see if it is another `$`
unfoldable pub keyword_of : List ℕ → Keyword
keyword_of w =
    let k = meaning_of keyword_rows Unknown w in
    cond (eqb (get_or w 0 0) dollar) (cond (eqb (get_or w 1 0) dollar) Comment Local) k

unfoldable pub item_of : List ℕ → Item
item_of w = let i = meaning_of item_rows Other w in cond (eqb (get_or w 0 0) dollar) localItem i
