-- Rehearse on the small desk, ship the big one (paper 01, demand 3): what one stream leaves on two desks, of which the second is equal
-- or larger in every limit. Stated over the load that the promises name.
-- Assumes nothing.
use Rattle.std.specs.Prelude.{◌≡◌, Bool, true, false, cond, ◌&&◌, ◌||◌, List, [], ◌∷◌, ℕ, ◌≤◌, eqb, length, take}
use Rattle.store_desk.specs.declared.Desk.{Desk}
use Rattle.store_desk.specs.declared.Kind.TheVariants.{Cue, Group}
use Rattle.store_desk.specs.Size.{InRange, Within, levels_length, store_length}
use Rattle.store_desk.specs.Name.{Name, ok_name}
use Rattle.store.specs.View.{Memory, Kept, absent, kept, memory_of, patched_to}
use Rattle.store.specs.Change.{emptied}
use Rattle.load.specs.Condition.{full_of}
use Rattle.load.specs.Run.{Run, Report, load_of, all_reports, condition_in, stored_in, totals_of}

-- ---- two desks ("The size of a desk": the listed limits, in their order)

-- the second is equal or larger in every limit
pub record Larger (d D : Desk) : Type 0 where
  pub channels : d.channels ≤ D.channels
  pub dimmers : d.dimmers ≤ D.dimmers
  pub cues : d.cues ≤ D.cues
  pub groups : d.groups ≤ D.groups
  pub subs : d.subs ≤ D.subs
  pub cue_pages_of : d.cue_pages ≤ D.cue_pages
  pub group_pages_of : d.group_pages ≤ D.group_pages
  pub sub_pages_of : d.sub_pages ≤ D.sub_pages
  pub patch_pages_of : d.patch_pages ≤ D.patch_pages

-- two desks in range, the second the larger, each with lent bytes that are long enough
pub record Rehearsal (d D : Desk) (s S : List ℕ) : Type 0 where
  pub small : InRange d
  pub large : InRange D
  pub larger : Larger d D
  pub long : store_length d ≤ length s
  pub longer : store_length D ≤ length S

-- the load of a stream into the emptied store
abbrev pub loaded : Desk → List ℕ → List ℕ → Run
loaded d s stream = load_of d (emptied d s) stream

-- ---- what is reported ("Reports, tallies, closing number": a condition counted is reported, stored or not)

-- 0021 and 0022: no room for a cue, for a group
abbrev pub is_full : ℕ → Bool
is_full c = eqb c (full_of Cue) || eqb c (full_of Group)

unfoldable pub has_full : List Report → Bool
has_full [] = false
has_full (r ∷ rs) = let rest = has_full rs in cond (is_full r.condition) true rest

-- the reports of a load hold neither
abbrev pub HadRoom : Run → Type 0
HadRoom x = has_full (all_reports x) ≡ false

-- the same as a user of the call sees it: the count is at most the lent list's length, and no stored word has one of the two conditions
unfoldable pub stored_full : List ℕ → Bool
stored_full [] = false
stored_full (w ∷ ws) = let rest = stored_full ws in cond (is_full (condition_in w)) true rest

abbrev pub SawRoom : Run → List ℕ → Type 0
SawRoom x lent =
    ((totals_of x).reports ≤ length lent) × (stored_full (take (totals_of x).reports (stored_in lent (all_reports x))) ≡ false)

-- ---- what is kept ("The store")

unfoldable pub is_kept : Kept → Bool
is_kept absent = false
is_kept (kept m) = true

-- the same page, number, times and link, and the same levels on the smaller desk's channels
abbrev pub Agrees : Desk → Memory → Memory → Type 0
Agrees d m M = (M.head ≡ m.head) × (take (levels_length d) M.levels ≡ m.levels)

-- each memory that the smaller keeps is kept by the larger under the same name, and agrees with it
abbrev pub Carries : Desk → Desk → List ℕ → List ℕ → Type 0
Carries d D t T = (n : Name) (m : Memory) → memory_of d t n ≡ kept m → (M : Memory) × (memory_of D T n ≡ kept M) × Agrees d m M

-- the smaller keeps exactly those of the larger's memories that lie within its limits: its kind supported, its page and number in range
abbrev pub KeepsWithin : Desk → Desk → List ℕ → List ℕ → Type 0
KeepsWithin d D t T = (n : Name) → is_kept (memory_of d t n) ≡ (ok_name d n && is_kept (memory_of D T n))

-- every dimmer of the smaller, on the smaller's patch pages, is patched as on the larger
abbrev pub PatchedAlike : Desk → Desk → List ℕ → List ℕ → Type 0
PatchedAlike d D t T =
    (page dimmer : ℕ) → Within 1 page d.patch_pages → Within 1 dimmer d.dimmers → patched_to d t page dimmer ≡ patched_to D T page dimmer

-- ---- the three parts, of the loads x on the smaller desk d and X on the larger desk D

-- if the larger had room, it carries all that the smaller keeps
abbrev pub Ships : Desk → Desk → Run → Run → Type 0
Ships d D x X = HadRoom X → Carries d D x.store X.store

-- if both had room, the smaller keeps what lies within its limits
abbrev pub Complete : Desk → Desk → Run → Run → Type 0
Complete d D x X = HadRoom X → HadRoom x → KeepsWithin d D x.store X.store

-- if both have equally many channels, they are patched alike
abbrev pub SamePatch : Desk → Desk → Run → Run → Type 0
SamePatch d D x X = d.channels ≡ D.channels → PatchedAlike d D x.store X.store

-- demand 3
abbrev pub Rehearsed : Desk → Desk → List ℕ → List ℕ → Type 0
Rehearsed d D s S =
    Rehearsal d D s S
    → (stream : List ℕ)
    → Ships d D (loaded d s stream) (loaded D S stream)
    × Complete d D (loaded d s stream) (loaded D S stream)
    × SamePatch d D (loaded d s stream) (loaded D S stream)
