-- The edges of a load with translation (paper 02, C-13): ten streams, and what the load of each comes to.
-- Assumes nothing.
use Rattle.std.specs.Prelude.{List, [], ◌∷◌, map, ℕ, replicate}
use Rattle.cells.specs.Text.{bytes}
use Rattle.store_desk.specs.declared.Desk.{Desk}
use Rattle.store_desk.specs.Size.{store_length}
use Rattle.store.specs.View.{Kept, absent, kept, memory_of}
use Rattle.load.specs.Run.{Run, all_reports, report_word, totals_of}
use Rattle.load.specs.Translated.{translated_of}
use Rattle.theorem_told.specs.Edges.{word, told_by, cue_of, cue}

-- ---- what a row says

-- a stream loaded with translation into the empty store of a desk, the cue of page 1 that is looked up afterwards, and the answer
pub record Edge : Type 0 where
  pub stream : List ℕ
  pub cue : ℕ
  -- the reports, as words
  pub reports : List ℕ
  -- blank, obeyed, passed, dropped, closing number
  pub told : List ℕ
  -- LINK present, its whole number and its fraction; nothing where the cue is not kept
  pub kept : List ℕ

-- ---- the answer of a load

-- a desk of one channel: three cues, one group, one submaster, one page of each
abbrev pub small : Desk
small =
    record {
      channels = 1;
      dimmers = 1;
      cues = 3;
      groups = 1;
      subs = 1;
      cue_pages = 1;
      group_pages = 1;
      sub_pages = 1;
      patch_pages = 1;
    }

unfoldable pub link_by : Kept → List ℕ
link_by absent = []
link_by (kept m) = m.head.link ∷ m.head.link_whole ∷ m.head.link_fraction ∷ []

unfoldable pub edge_translated : Edge → Run
edge_translated e = translated_of small (replicate (store_length small) 0) e.stream

unfoldable pub answer_of : Edge → List (List ℕ)
answer_of e =
    let x = edge_translated e in
    map report_word (all_reports x) ∷ told_by (totals_of x) ∷ link_by (memory_of small x.store (cue_of (cue e.cue 0))) ∷ []

abbrev pub wanted_of : Edge → List (List ℕ)
wanted_of e = e.reports ∷ e.told ∷ e.kept ∷ []

-- ---- the rows

abbrev pub edge : List ℕ → ℕ → List ℕ → List ℕ → List ℕ → Edge
edge stream number words told holds = record { stream = stream; cue = number; reports = words; told = told; kept = holds }

abbrev pub edges : List Edge
edges =
    -- LINK ahead of its cue: cue 7 becomes cue 2
    edge (bytes "CUE 3.2\rLINK 7\rCUE 7\rENDDATA\r") 1
    [] (0 ∷ 4 ∷ 0 ∷ 0 ∷ 0 ∷ []) (1 ∷ 2 ∷ 0 ∷ [])
    -- and behind it: cue 3.2 became cue 1
    ∷ edge (bytes "CUE 3.2\rCUE 7\rLINK 3.2\rENDDATA\r") 2
    [] (0 ∷ 4 ∷ 0 ∷ 0 ∷ 0 ∷ []) (1 ∷ 1 ∷ 0 ∷ [])
    -- a number borne by several goes to the last, by value
    ∷ edge (bytes "CUE 5\rLINK 05\rCUE 5.0\rENDDATA\r") 1
    [] (0 ∷ 4 ∷ 0 ∷ 0 ∷ 0 ∷ []) (1 ∷ 2 ∷ 0 ∷ [])
    -- bad numbers and pages do not refuse a record
    ∷ edge (bytes "CUE x\rCUE\rCUE 1000 77\rENDDATA\r") 3
    [] (0 ∷ 4 ∷ 0 ∷ 0 ∷ 0 ∷ []) (0 ∷ 0 ∷ 0 ∷ [])
    -- a LINK that asks for no number is lost: 0041 under the number of records read, ahead of 0100; its record is obeyed
    ∷ edge (bytes "CUE x\rLINK x\r") 1
    (word 2 41 0 ∷ word 2 100 0 ∷ []) (0 ∷ 2 ∷ 0 ∷ 0 ∷ 100 ∷ []) (0 ∷ 0 ∷ 0 ∷ [])
    -- a cue's last LINK stands
    ∷ edge (bytes "CUE 5\rLINK 5\rLINK 9\rENDDATA\r") 1
    (word 4 41 0 ∷ []) (0 ∷ 4 ∷ 0 ∷ 0 ∷ 41 ∷ []) (0 ∷ 0 ∷ 0 ∷ [])
    -- a CUE that was cleared later bore its number all the same; CLEAR's page is ignored, and the numbers go on
    ∷ edge (bytes "CUE 5\rCLEAR CUES 9\rCUE 6\rLINK 5\rENDDATA\r") 2
    [] (0 ∷ 5 ∷ 0 ∷ 0 ∷ 0 ∷ []) (1 ∷ 1 ∷ 0 ∷ [])
    -- no room: 0021, and what follows is skipped
    ∷ edge (bytes "CUE 1\rCUE 2\rCUE 3\rCUE 4\rLINK 1\rENDDATA\r") 3
    (word 4 21 0 ∷ []) (0 ∷ 4 ∷ 1 ∷ 1 ∷ 21 ∷ []) (0 ∷ 0 ∷ 0 ∷ [])
    -- beyond the last page: 0044, which blames the number
    ∷ edge (bytes "SUB 9\rSUB 1\rENDDATA\r") 1
    (word 2 44 5 ∷ []) (0 ∷ 2 ∷ 0 ∷ 1 ∷ 44 ∷ []) []
    -- LINK in a group is 0152
    ∷ edge (bytes "GROUP 1\rLINK 1\rENDDATA\r") 1
    (word 2 152 1 ∷ []) (0 ∷ 2 ∷ 0 ∷ 1 ∷ 152 ∷ []) []
    ∷ []
