-- How many: a load with translation reads no more records than the stream has bytes, and makes no more reports but
-- 0100 and one for each lost link, at most one a cue slot.
-- Assumes nothing.
use mathlib.Core.Path.{◌≡◌}
use mathlib.Core.List.{List, ◌++◌}
use Prim.Native.Nat.{ℕ, ◌+◌, ◌≤◌}
use native.Mathlib.Omega.{arith}
use lib.ListN.{length, replicate, length-append, length-replicate}
use Rattle.store_desk.specs.declared.Desk.{Desk}
use Rattle.store_desk.specs.Size.{InRange}
use Rattle.load.specs.Run.{Run, Report}
use Rattle.load.specs.Translated.{anew_from_one, most_cues, lost_link, linked, translated_of}
use Rattle.load.proofs.Counts.{stream_records, stream_reports, lost_few}
use Rattle.theorem_translated.specs.Links.{read_of, asked_of, bornes_of}

pub translated_records : (d : Desk) (t stream : List ℕ) → length (translated_of d t stream).outcomes ≤ length stream
unfolding translated_of
translated_records d t stream = stream_records d anew_from_one t stream

-- ---- the reports, but 0100
pub translated_reports : (d : Desk) → InRange d → (t stream : List ℕ) → length (translated_of d t stream).reports ≤ length stream + most_cues
unfolding translated_of
translated_reports d ok t stream =
    let x : Run = read_of d t stream in
    let n : ℕ = (linked d (asked_of d t stream) (bornes_of d t stream) x.store).lost in
    let ls : List Report = replicate n (lost_link (length x.outcomes)) in
    let a : length x.reports ≤ length stream = stream_reports d anew_from_one t stream in
    let f : n ≤ d.cues = lost_few d (asked_of d t stream) (bornes_of d t stream) x.store in
    let l : length ls ≡ n = length-replicate n (lost_link (length x.outcomes)) in
    let j : length (x.reports ++ ls) ≡ length x.reports + length ls = length-append x.reports ls in
    let c : d.cues ≤ most_cues = ok.cues.1 in
    let g : length (x.reports ++ ls) ≤ length stream + most_cues = omega arith in
    g
