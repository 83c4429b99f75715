-- The proved edges (P) of paper 01, "Edges to hold", and of C-12: fourteen streams, and what the load of each comes to.
-- Assumes nothing.
use Rattle.std.specs.Prelude.{List, [], ◌∷◌, ◌++◌, map, ℕ, replicate}
use Rattle.cells.specs.Text.{bytes}
use Rattle.store_desk.specs.declared.Desk.{Desk}
use Rattle.store_desk.specs.declared.Key.{Key}
use Rattle.store_desk.specs.declared.Kind.TheVariants.{Cue}
use Rattle.store_desk.specs.Size.{store_length}
use Rattle.store_desk.specs.Name.{Name}
use Rattle.store.specs.View.{Kept, absent, kept, memory_of}
use Rattle.load.specs.declared.Totals.{Totals}
use Rattle.load.specs.Run.{Run, load_of, all_reports, report_word, totals_of}

-- ---- what a row says

-- a stream loaded into the empty store of a desk, the cue that is looked up afterwards, and the answer
pub record Edge : Type 0 where
  pub desk : Desk
  pub stream : List ℕ
  pub cue : Key
  -- the reports, as words
  pub reports : List ℕ
  -- blank, obeyed, passed, dropped, closing number
  pub told : List ℕ
  -- UP present, its fade and delay, and the levels; nothing where the cue is not kept
  pub kept : List ℕ

-- condition c of record n, in column k
abbrev pub word : ℕ → ℕ → ℕ → ℕ
word n c k = report_word (record { number = n; condition = c; column = k })

-- ---- the answer of a load

abbrev pub told_by : Totals → List ℕ
told_by t = t.blank ∷ t.obeyed ∷ t.passed ∷ t.dropped ∷ t.closing ∷ []

unfoldable pub kept_by_of : Kept → List ℕ
kept_by_of absent = []
kept_by_of (kept m) = m.head.up ∷ m.head.up_fade ∷ m.head.up_delay ∷ m.levels

abbrev pub cue_of : Key → Name
cue_of key = record { kind = Cue; key = key }

unfoldable pub edge_loaded : Edge → Run
edge_loaded e = load_of e.desk (replicate (store_length e.desk) 0) e.stream

unfoldable pub answer_of : Edge → List (List ℕ)
answer_of e =
    let x = edge_loaded e in
    map report_word (all_reports x) ∷ told_by (totals_of x) ∷ kept_by_of (memory_of e.desk x.store (cue_of e.cue)) ∷ []

abbrev pub wanted_of : Edge → List (List ℕ)
wanted_of e = e.reports ∷ e.told ∷ e.kept ∷ []

-- ---- the rows

-- the smallest desk there is: one channel, one dimmer, one cue, no group, no submaster
abbrev pub smallest : Desk
smallest =
    record {
      channels = 1;
      dimmers = 1;
      cues = 1;
      groups = 0;
      subs = 0;
      cue_pages = 1;
      group_pages = 1;
      sub_pages = 1;
      patch_pages = 1;
    }

-- a cue on page 1
abbrev pub cue : ℕ → ℕ → Key
cue whole fraction = record { page = 1; whole = whole; fraction = fraction }

abbrev pub edge : List ℕ → Key → List ℕ → List ℕ → List ℕ → Edge
edge stream key words told holds = record { desk = smallest; stream = stream; cue = key; reports = words; told = told; kept = holds }

-- so many spaces
abbrev pub spaces : ℕ → List ℕ
spaces n = replicate n 32

abbrev pub edges : List Edge
edges =
    -- an empty stream gives 0100 at record 0
    edge (bytes "") (cue 1 0)
    (word 0 100 0 ∷ []) (0 ∷ 0 ∷ 0 ∷ 0 ∷ 100 ∷ []) []
    -- 80 characters pass
    ∷ edge (bytes "CUE 1" ++ (spaces 75 ++ bytes "\rENDDATA\r")) (cue 1 0)
    [] (0 ∷ 2 ∷ 0 ∷ 0 ∷ 0 ∷ []) (0 ∷ 0 ∷ 0 ∷ 0 ∷ [])
    -- 81 give 0091
    ∷ edge (bytes "CUE 1" ++ (spaces 76 ++ bytes "\rENDDATA\r")) (cue 1 0)
    (word 1 91 0 ∷ []) (0 ∷ 0 ∷ 0 ∷ 1 ∷ 91 ∷ []) []
    -- CR LF CR ends two records
    ∷ edge (bytes "\r\n\r") (cue 1 0)
    (word 2 100 0 ∷ []) (2 ∷ 0 ∷ 0 ∷ 0 ∷ 100 ∷ []) []
    -- H9ABC is 9A
    ∷ edge (bytes "CUE 1\rCHAN 1@H9ABC\rENDDATA\r") (cue 1 0)
    [] (0 ∷ 3 ∷ 0 ∷ 0 ∷ 0 ∷ []) (0 ∷ 0 ∷ 0 ∷ 0x9A ∷ [])
    -- H009F is 00: the level 255 before it is gone
    ∷ edge (bytes "CUE 1\rCHAN 1@HFF\rCHAN 1@H009F\rENDDATA\r") (cue 1 0)
    [] (0 ∷ 4 ∷ 0 ∷ 0 ∷ 0 ∷ []) (0 ∷ 0 ∷ 0 ∷ 0x00 ∷ [])
    -- HF is 0F
    ∷ edge (bytes "CUE 1\rCHAN 1@HF\rENDDATA\r") (cue 1 0)
    [] (0 ∷ 3 ∷ 0 ∷ 0 ∷ 0 ∷ []) (0 ∷ 0 ∷ 0 ∷ 0x0F ∷ [])
    -- 0:03 is 3 seconds
    ∷ edge (bytes "CUE 1\rUP 0:03\rENDDATA\r") (cue 1 0)
    [] (0 ∷ 3 ∷ 0 ∷ 0 ∷ 0 ∷ []) (1 ∷ 30 ∷ 0 ∷ 0 ∷ [])
    -- 1:60 is 1,200 tenths (C-12)
    ∷ edge (bytes "CUE 1\rUP 1:60\rENDDATA\r") (cue 1 0)
    [] (0 ∷ 3 ∷ 0 ∷ 0 ∷ 0 ∷ []) (1 ∷ 1_200 ∷ 0 ∷ 0 ∷ [])
    -- 1:1000 is 0241 (C-12)
    ∷ edge (bytes "CUE 1\rUP 1:1000\rENDDATA\r") (cue 1 0)
    (word 2 241 4 ∷ []) (0 ∷ 2 ∷ 0 ∷ 1 ∷ 241 ∷ []) (0 ∷ 0 ∷ 0 ∷ 0 ∷ [])
    -- 999:59:59.9 is 35,999,999 tenths
    ∷ edge (bytes "CUE 1\rUP 999:59:59.9\rENDDATA\r") (cue 1 0)
    [] (0 ∷ 3 ∷ 0 ∷ 0 ∷ 0 ∷ []) (1 ∷ 35_999_999 ∷ 0 ∷ 0 ∷ [])
    -- 999:999:999.9 is 36,573,399 tenths, the largest time (C-12)
    ∷ edge (bytes "CUE 1\rUP 999:999:999.9\rENDDATA\r") (cue 1 0)
    [] (0 ∷ 3 ∷ 0 ∷ 0 ∷ 0 ∷ []) (1 ∷ 36_573_399 ∷ 0 ∷ 0 ∷ [])
    -- cue 999.9 is kept
    ∷ edge (bytes "CUE 999.9\rENDDATA\r") (cue 999 9)
    [] (0 ∷ 2 ∷ 0 ∷ 0 ∷ 0 ∷ []) (0 ∷ 0 ∷ 0 ∷ 0 ∷ [])
    -- cue 0 is refused
    ∷ edge (bytes "CUE 0\rENDDATA\r") (cue 0 0)
    (word 1 41 5 ∷ []) (0 ∷ 1 ∷ 0 ∷ 1 ∷ 41 ∷ []) []
    ∷ []
