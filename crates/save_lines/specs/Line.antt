-- One line of the written stream at a time (paper 01, "The written stream"): capitals, single spaces, each line with CR+LF.
-- Assumes nothing.
use Rattle.std.specs.Prelude.{cond, List, [], ◌∷◌, ◌++◌, ℕ, zero, suc, ◌+◌, eqb, length, take, drop}
use Rattle.cells.specs.Text.{bytes}
use Rattle.store_desk.specs.declared.Key.{Key}
use Rattle.store_desk.specs.declared.Kind.{Kind}
use Rattle.store_desk.specs.declared.Kind.TheVariants.{Cue, Group, Sub}
use Rattle.store_head.specs.declared.Head.{Head}
use Rattle.store_head.specs.declared.Patch.{Patch}
use Rattle.value_written.specs.Text.{integer_text, number_text, level_text, time_text}

abbrev pub crlf : List ℕ
crlf = bytes "\r\n"

-- lines, each with its end
unfoldable pub joined : List (List ℕ) → List ℕ
joined [] = []
joined (l ∷ ls) = let r = joined ls in l ++ (crlf ++ r)

-- ---- one PATCH record per patched dimmer

-- `PATCH 1 1<5@HFF`
unfoldable pub patch_text : ℕ → ℕ → Patch → List ℕ
patch_text page dimmer p =
    bytes "PATCH "
    ++ (integer_text page
    ++ (bytes " " ++ (integer_text p.channel ++ (bytes "<" ++ (integer_text dimmer ++ (bytes "@" ++ level_text p.level))))))

unfoldable pub patch_line : ℕ → ℕ → Patch → List (List ℕ)
patch_line page dimmer p = cond (eqb p.channel 0) [] (patch_text page dimmer p ∷ [])

-- ---- a memory: the primary with its page, then UP, DOWN, FOLLOWON, LINK, as present, then the channels

unfoldable pub kind_text : Kind → List ℕ
kind_text Cue = bytes "CUE "
kind_text Group = bytes "GROUP "
kind_text Sub = bytes "SUB "

-- `CUE 2.5 1`
unfoldable pub primary_text : Kind → Key → List ℕ
primary_text k key = kind_text k ++ (number_text key.whole key.fraction ++ (bytes " " ++ integer_text key.page))

-- a zero delay is left out
unfoldable pub delay_text : ℕ → List ℕ
delay_text delay = cond (eqb delay 0) [] (bytes " " ++ time_text delay)

-- `UP 3`, `DOWN 3 1:30`
unfoldable pub time_line : List ℕ → ℕ → ℕ → ℕ → List (List ℕ)
time_line word present fade delay = cond (eqb present 0) [] ((word ++ (time_text fade ++ delay_text delay)) ∷ [])

unfoldable pub link_line : Head → List (List ℕ)
link_line h = cond (eqb h.link 0) [] ((bytes "LINK " ++ number_text h.link_whole h.link_fraction) ∷ [])

unfoldable pub head_lines : Head → List (List ℕ)
head_lines h =
    time_line (bytes "UP ") h.up h.up_fade h.up_delay
    ++ (time_line (bytes "DOWN ") h.down h.down_fade h.down_delay
    ++ (time_line (bytes "FOLLOWON ") h.followon h.followon_time 0 ++ link_line h))

-- a channel at a level
pub record Lit : Type 0 where
  pub channel : ℕ
  pub level : ℕ

-- the non-zero channels, ascending, from one on
unfoldable pub lit_from : ℕ → List ℕ → List Lit
lit_from channel [] = []
lit_from channel (v ∷ vs) =
    let r = lit_from (channel + 1) vs in
    cond (eqb v 0) r (record { channel = channel; level = v } ∷ r)

-- ` 1@HFF`
unfoldable pub pair_text : Lit → List ℕ
pair_text p = bytes " " ++ (integer_text p.channel ++ (bytes "@" ++ level_text p.level))

unfoldable pub pairs_text : List Lit → List ℕ
pairs_text [] = []
pairs_text (p ∷ ps) = let r = pairs_text ps in pair_text p ++ r

-- up to eight pairs a CHAN record
abbrev pub most_pairs : ℕ
most_pairs = 8

unfoldable pub chan_lines_in : ℕ → List Lit → List (List ℕ)
chan_lines_in zero ps = []
chan_lines_in (suc n) [] = []
chan_lines_in (suc n) (p ∷ ps) =
    let r = chan_lines_in n (drop most_pairs (p ∷ ps)) in
    (bytes "CHAN" ++ pairs_text (take most_pairs (p ∷ ps))) ∷ r

unfoldable pub chan_lines : List Lit → List (List ℕ)
chan_lines ps = chan_lines_in (length ps) ps
