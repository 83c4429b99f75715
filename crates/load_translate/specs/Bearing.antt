-- The second walk: which number each accepted CUE bore, told by the marks of the first walk, and the last bearer of each number that was asked for
-- (paper 02, C-13). No promise above this crate names these.
-- Assumes nothing.
use Rattle.std.specs.Prelude.{Option, None, Some, cond, List, [], ◌∷◌, ℕ, zero, suc, ◌+◌, ◌<◌, eqb, length, get_or, set}
use Rattle.store_desk.specs.declared.Kind.TheVariants.{Cue, Group, Sub}
use Rattle.text_fields.specs.Words.{Word, fields_of, head_of}
use Rattle.text_fields.specs.Keywords.{keyword_of}
use Rattle.value.specs.Number.{borne_of, no_number}
use Rattle.load.specs.declared.Family.{Family}
use Rattle.load.specs.declared.Family.TheVariants.{Primary, Augments, Basic}
use Rattle.load.specs.Ask.{family_of, is_over_long}
use Rattle.load.specs.Fits.{most_records}
use Rattle.load_hear.specs.Marks.{is_marked}
use Rattle.load_translate.specs.declared.Seen.{Seen}
use Rattle.load_translate.specs.Links.{any_asked}

-- ---- a record

unfoldable pub family_bearing : Family → List Word → Option ℕ
family_bearing (Primary Cue) ws = Some (borne_of (head_of ws).chars)
family_bearing (Primary Group) ws = None
family_bearing (Primary Sub) ws = None
family_bearing (Augments e) ws = None
family_bearing (Basic b) ws = None

unfoldable pub fields_bearing : List Word → Option ℕ
fields_bearing [] = None
fields_bearing (w ∷ ws) = family_bearing (family_of (keyword_of w.chars)) ws

-- as received; of an over-long one nothing is heard
unfoldable pub bearing_in : List ℕ → Option ℕ
bearing_in r = cond (is_over_long r) None (fields_bearing (fields_of r))

-- ---- what the marked CUEs of some records bore, after so many CUE records

unfoldable pub on_bearing : {A : Type 0} → Option ℕ → A → (ℕ → A) → A
on_bearing None a f = a
on_bearing (Some m) a f = f m

unfoldable pub marked_bornes : List ℕ → ℕ → List (List ℕ) → List ℕ
marked_bornes ms tried [] = []
marked_bornes ms tried (r ∷ rs) =
    let same = marked_bornes ms tried rs in
    let next = marked_bornes ms (tried + 1) rs in
    on_bearing (bearing_in r) same (λ m. cond (is_marked ms tried) (m ∷ next) next)

-- ---- the last bearers so far of what each slot's cue asked for: the k-th accepted CUE bears the number m

unfoldable pub bearer_now : ℕ → ℕ → ℕ → ℕ → ℕ
bearer_now asked m k bearer = cond (eqb asked (m + 1)) k bearer

-- of n slots from i on
unfoldable pub met_from : List ℕ → ℕ → ℕ → ℕ → ℕ → List ℕ → List ℕ
met_from asked m k zero i found = found
met_from asked m k (suc n) i found = met_from asked m k n (suc i) (set found i (bearer_now (get_or asked i 0) m k (get_or found i 0)))

unfoldable pub met : List ℕ → ℕ → ℕ → List ℕ → List ℕ
met asked m k found = cond (eqb m no_number) found (met_from asked m k (length found) 0 found)

unfoldable pub found_by : List ℕ → ℕ → List ℕ → List ℕ → List ℕ
found_by asked k found [] = found
found_by asked k found (b ∷ bs) = found_by asked (k + 1) (met asked b k found) bs

-- where nothing was asked for, none is sought
unfoldable pub sought_by : List ℕ → List ℕ → List ℕ → List ℕ
sought_by asked found bs = cond (any_asked asked) (found_by asked 1 found bs) found

-- ---- one record, by what it bears

pub record Meeting : Type 0 where
  pub seen : Seen
  pub found : List ℕ

abbrev pub meeting : Seen → List ℕ → Meeting
meeting s found = record { seen = s; found = found }

abbrev pub seen_as : ℕ → ℕ → Seen
seen_as tried cues = record { tried = tried; cues = cues }

unfoldable pub met_by : List ℕ → List ℕ → Option ℕ → Meeting → Meeting
met_by ms asked None x = x
met_by ms asked (Some m) x =
    let s = x.seen in
    cond (is_marked ms s.tried)
    (meeting (seen_as (s.tried + 1) (s.cues + 1)) (met asked m (s.cues + 1) x.found))
    (meeting (seen_as (s.tried + 1) s.cues) x.found)

-- a number that a CUE bears is far below what wraps
abbrev pub Bearable : Option ℕ → Type 0
Bearable None = Unit {0}
Bearable (Some m) = m < 4294967295

-- so are the counts
pub record Countable (s : Seen) : Type 0 where
  pub tries : s.tried < most_records
  pub accepts : s.cues < most_records
