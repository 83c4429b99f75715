-- The field that a fault blames, among the fields of its record: the keyword or none where the condition's number says so. By computing with
-- the conditions, each a number.
-- Assumes nothing.
use mathlib.Core.Path.{◌≡◌, refl, ap}
use mathlib.Core.Bool.{true, false}
use mathlib.Core.List.{List, [], ◌∷◌, ◌++◌}
use Prim.Native.Nat.{ℕ, suc, ◌<◌}
use lib.ListN.{length, get_or}
use Rattle.cells.proofs.Split.{clash}
use Rattle.text_fields.specs.Words.{Word, missing, head_of, tail_of}
use Rattle.load.specs.declared.Fault.{Fault}
use Rattle.load.specs.Condition.{blames_keyword, blames_none}
use Rattle.load.specs.Item.{blame, blame_none}

-- of the fields fs, field `index` is blamed; a place past them is a missing field. The keyword is field 0
pub record Blamed (fs : List Word) (f : Fault) : Type 0 where
  pub index : ℕ
  pub place : f.place ≡ (get_or fs index missing).place
  pub above : 0 < f.condition
  pub keyword : blames_keyword f.condition ≡ true → index ≡ 0
  pub nothing : blames_none f.condition ≡ true → f.place ≡ 0

unfoldable pub AllBlamed : List Word → List Fault → Type 0
AllBlamed fs [] = Unit {0}
AllBlamed fs (x ∷ xs) = Blamed fs x × AllBlamed fs xs

pub blamed_join : (fs : List Word) (xs ys : List Fault) → AllBlamed fs xs → AllBlamed fs ys → AllBlamed fs (xs ++ ys)
unfolding AllBlamed
blamed_join fs [] ys h g = g
blamed_join fs (x ∷ xs) ys h g = (h.0, blamed_join fs xs ys h.1 g)

-- ---- words that are fields of a record, or missing
pub record FieldOf (fs : List Word) (w : Word) : Type 0 where
  pub index : ℕ
  pub same : w ≡ get_or fs index missing

abbrev pub Fields : List Word → List Word → Type 0
Fields fs ws = (i : ℕ) → FieldOf fs (get_or ws i missing)

-- behind the keyword
pub behind_fields : (w : Word) (ws : List Word) → Fields (w ∷ ws) ws
behind_fields w ws i = record { index = suc i; same = refl }

past_fields : (fs : List Word) → missing ≡ get_or fs (length fs) missing
past_fields [] = refl
past_fields (w ∷ fs) = past_fields fs

pub missing_field : (fs : List Word) → FieldOf fs missing
missing_field fs = record { index = length fs; same = past_fields fs }

pub head_field : (fs ws : List Word) → Fields fs ws → FieldOf fs (head_of ws)
head_field fs [] h = missing_field fs
head_field fs (w ∷ ws) h = h 0

pub tail_fields : (fs ws : List Word) → Fields fs ws → Fields fs (tail_of ws)
tail_fields fs [] h i = missing_field fs
tail_fields fs (w ∷ ws) h i = h (suc i)

-- ---- a condition that blames a field behind the keyword, one that blames the keyword, and one that blames none
abbrev pub OfField : ℕ → Type 0
OfField c = (0 < c) × (blames_keyword c ≡ false) × (blames_none c ≡ false)

abbrev pub OfKeyword : ℕ → Type 0
OfKeyword c = (0 < c) × (blames_none c ≡ false)

abbrev pub OfNone : ℕ → Type 0
OfNone c = (0 < c) × (blames_keyword c ≡ false)

pub field_blamed : (fs : List Word) (w : Word) (c : ℕ) → FieldOf fs w → OfField c → Blamed fs (blame w c)
field_blamed fs w c o h =
    record {
      index = o.index;
      place = ap (λ (x : Word). x.place) o.same;
      above = h.0;
      keyword = λ e. clash e h.1;
      nothing = λ e. clash e h.2;
    }

pub keyword_blamed : (w : Word) (ws : List Word) (c : ℕ) → OfKeyword c → Blamed (w ∷ ws) (blame w c)
keyword_blamed w ws c h = record { index = 0; place = refl; above = h.0; keyword = λ e. refl; nothing = λ e. clash e h.1 }

pub none_blamed : (fs : List Word) (c : ℕ) → OfNone c → Blamed fs (blame_none c)
none_blamed fs c h =
    record {
      index = length fs;
      place = ap (λ (x : Word). x.place) (past_fields fs);
      above = h.0;
      keyword = λ e. clash e h.1;
      nothing = λ e. refl;
    }
