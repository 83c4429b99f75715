-- How long the lines are at most, ends and all, whatever bits the fields hold: a value by its digits, and the CHAN records of a memory by
-- all their pairs and by how many records eight pairs in each make.
-- Assumes nothing.
use mathlib.Core.Path.{◌≡◌, refl, ap, ◌∙◌}
use mathlib.Core.List.{List, [], ◌∷◌, ◌++◌}
use Prim.Native.Nat.{ℕ, zero, suc, ◌+◌, ◌-◌, ◌*◌, ◌/◌, ◌^◌, ◌≤◌, ◌<◌}
use native.Mathlib.Omega.{arith}
use lib.Dec.{eqb}
use lib.ListN.{length, take, drop, length-append, length-drop}
use Rattle.cells.specs.Text.{bytes}
use Rattle.cells.proofs.Arith.{products}
use Rattle.cells.proofs.Split.{by_test, by_eq}
use Rattle.store_desk.specs.declared.Key.{Key}
use Rattle.store_desk.specs.declared.Kind.{Kind}
use Rattle.store_head.specs.declared.Head.{Head}
use Rattle.store_head.specs.declared.Patch.{Patch}
use Rattle.store_head.specs.Fits.{page_span, whole_span, HeadFits, PatchFits}
use Rattle.value.specs.Time.{time_max}
use Rattle.value_written.specs.Text.{integer_text, number_text, time_text}
use Rattle.value_written.proofs.Texts.{integer_short, time_short}
use Rattle.save_lines.specs.Line.{crlf, joined, patch_line, kind_text, primary_text, delay_text, time_line, link_line, head_lines, Lit, lit_from, pair_text, pairs_text, most_pairs, chan_lines_in, chan_lines}
use Rattle.save_lines.proofs.Parts.{joined_nil, joined_more}
use Rattle.save_lines.proofs.Lengths.{kind_long, patch_length_none, patch_length_some, primary_length_is, delay-length_none, time_length_none, time_length_some, link-length_none, link-length_some, head_length_is, pair_length}
use Rattle.save_lines.proofs.Rules.{number_six, time_held, delay_most, lits_count}

-- ---- PATCH
pub patch_most : (page dimmer : ℕ) (p : Patch) → page < 10 → dimmer < 1000 → PatchFits p → length (joined (patch_line page dimmer p)) ≤ 22
patch_most page dimmer p hp hd f =
    let a : length (integer_text page) ≤ 1 = integer_short page 0 hp in
    let b : length (integer_text p.channel) ≤ 4 = integer_short p.channel 3 (let c = f.channel in let g : p.channel < 10000 = omega arith in g) in
    let c : length (integer_text dimmer) ≤ 3 = integer_short dimmer 2 hd in
    by_eq p.channel 0
    (λ e. let l = patch_length_none page dimmer p e in omega arith)
    (λ e. let l = patch_length_some page dimmer p {a = length (integer_text page)} refl refl refl e in omega arith)

-- ---- the primary
pub primary_most : (k : Kind) (key : Key) → key.page < page_span → key.whole < whole_span → length (joined (primary_text k key ∷ [])) ≤ 17
primary_most k key hp hw =
    let a = kind_long k in
    let b = number_six key.whole key.fraction hw in
    let c : length (integer_text key.page) ≤ 2 = integer_short key.page 1 (let g : key.page < 100 = omega arith in g) in
    let l = primary_length_is k key {a = length (kind_text k)} refl refl refl in
    omega arith

-- ---- times and LINK
-- the five times of a head, each written in n characters at most
pub record TimesWithin (n : ℕ) (h : Head) : Type 0 where
  pub up_fade_of : length (time_text h.up_fade) ≤ n
  pub up_delay_of : length (time_text h.up_delay) ≤ n
  pub down_fade_of : length (time_text h.down_fade) ≤ n
  pub down_delay_of : length (time_text h.down_delay) ≤ n
  pub followon_time_of : length (time_text h.followon_time) ≤ n

-- whatever bits they have
pub times_held : (h : Head) → HeadFits h → TimesWithin 17 h
times_held h f =
    record {
      up_fade_of = time_held h.up_fade f.up_fade_of;
      up_delay_of = time_held h.up_delay f.up_delay_of;
      down_fade_of = time_held h.down_fade f.down_fade_of;
      down_delay_of = time_held h.down_delay f.down_delay_of;
      followon_time_of = time_held h.followon_time f.followon_time_of;
    }

-- and where each is in its range
pub times_read : (h : Head) → h.up_fade ≤ time_max → h.up_delay ≤ time_max → h.down_fade ≤ time_max → h.down_delay ≤ time_max
    → h.followon_time ≤ time_max → TimesWithin 13 h
times_read h uf ud df dd ft =
    record {
      up_fade_of = time_short h.up_fade uf;
      up_delay_of = time_short h.up_delay ud;
      down_fade_of = time_short h.down_fade df;
      down_delay_of = time_short h.down_delay dd;
      followon_time_of = time_short h.followon_time ft;
    }

time_most : (word : List ℕ) (present fade delay : ℕ)
    → length (joined (time_line word present fade delay)) ≤ length word + length (time_text fade) + length (delay_text delay) + 2
time_most word present fade delay =
    by_eq present 0
    (λ e. let l = time_length_none word present fade delay e in omega arith)
    (λ e. let l = time_length_some word present fade delay {a = length (time_text fade)} refl refl e in omega arith)

link_most : (h : Head) → h.link_whole < whole_span → length (joined (link_line h)) ≤ 13
link_most h hw =
    let a = number_six h.link_whole h.link_fraction hw in
    by_eq h.link 0
    (λ e. let l = link-length_none h e in omega arith)
    (λ e. let l = link-length_some h {a = length (number_text h.link_whole h.link_fraction)} refl e in omega arith)

pub head_most : (n : ℕ) (h : Head) → TimesWithin n h → HeadFits h → length (joined (head_lines h)) ≤ 38 + 5 * n
head_most n h t f =
    let u = t.up_fade_of in
    let v = t.up_delay_of in
    let w = t.down_fade_of in
    let x = t.down_delay_of in
    let y = t.followon_time_of in
    let du = delay_most h.up_delay in
    let dd = delay_most h.down_delay in
    let none = delay-length_none 0 refl in
    let a = time_most (bytes "UP ") h.up h.up_fade h.up_delay in
    let b = time_most (bytes "DOWN ") h.down h.down_fade h.down_delay in
    let c = time_most (bytes "FOLLOWON ") h.followon h.followon_time 0 in
    let l = link_most h f.link_whole_of in
    let e =
    head_length_is h {a = length (joined (time_line (bytes "UP ") h.up h.up_fade h.up_delay))} refl refl refl refl
    in
    omega arith

-- ---- CHAN
-- the pairs of the records are all the pairs
pairs_split : (n : ℕ) (ps : List Lit) → length (pairs_text (take n ps)) + length (pairs_text (drop n ps)) ≡ length (pairs_text ps)
unfolding pairs_text
pairs_split zero ps = omega arith
pairs_split (suc n) [] = refl
pairs_split (suc n) (p ∷ ps) =
    let ih = pairs_split n ps in
    let a : length (pair_text p ++ pairs_text (take n ps)) ≡ length (pair_text p) + length (pairs_text (take n ps)) = length-append (pair_text p) (pairs_text (take n ps)) in
    let b : length (pair_text p ++ pairs_text ps) ≡ length (pair_text p) + length (pairs_text ps) = length-append (pair_text p) (pairs_text ps) in
    omega arith

-- and a keyword and an end for each record
records_long : (n : ℕ) (ps : List Lit) → length (joined (chan_lines_in n ps)) ≤ length (pairs_text ps) + 6 * length (chan_lines_in n ps)
unfolding chan_lines_in
records_long zero ps = let e : length (joined []) ≡ 0 = ap length joined_nil in omega arith
records_long (suc n) [] = let e : length (joined []) ≡ 0 = ap length joined_nil in omega arith
records_long (suc n) (p ∷ ps) =
    let x = pairs_text (take most_pairs (p ∷ ps)) in
    let r = chan_lines_in n (drop most_pairs (p ∷ ps)) in
    let ih = records_long n (drop most_pairs (p ∷ ps)) in
    let a = pairs_split most_pairs (p ∷ ps) in
    let e : length (joined ((bytes "CHAN" ++ x) ∷ r)) ≡ length (bytes "CHAN" ++ x) + suc (suc (length (joined r))) =
    ap length (joined_more (bytes "CHAN" ++ x) r) ∙ length-append (bytes "CHAN" ++ x) (crlf ++ joined r)
    in
    omega arith

records_few : (n : ℕ) (ps : List Lit) → 8 * length (chan_lines_in n ps) ≤ length ps + 7
unfolding chan_lines_in
records_few zero ps = omega arith
records_few (suc n) [] = omega arith
records_few (suc n) (p ∷ ps) =
    let ih = records_few n (drop most_pairs (p ∷ ps)) in
    let l : length (drop 7 ps) ≡ length ps - 7 = length-drop 7 ps in
    omega arith

module _ (k : ℕ) where
  -- channels of at most k + 1 digits
  pairs_most : (channel : ℕ) (vs : List ℕ) → channel + length vs ≤ 10 ^ suc k → length (pairs_text (lit_from channel vs)) ≤ length vs * (k + 6)
  unfolding lit_from pairs_text
  pairs_most channel [] h = omega arith
  pairs_most channel (v ∷ vs) h =
      let r = lit_from (channel + 1) vs in
      let p : Lit = record { channel = channel; level = v } in
      let ih : length (pairs_text r) ≤ length vs * (k + 6) = pairs_most (channel + 1) vs (omega arith) in
      let m : suc (length vs) * (k + 6) ≡ length vs * (k + 6) + (k + 6) = omega arith in
      by_test (λ (z : List Lit). length (pairs_text z) ≤ suc (length vs) * (k + 6)) (eqb v 0) r (p ∷ r)
      (λ e. omega arith)
      (λ e.
      let a : length (integer_text channel) ≤ suc k = integer_short channel k (omega arith) in
      let b : length (pair_text p) ≡ length (integer_text channel) + 5 = pair_length p in
      let c : length (pair_text p ++ pairs_text r) ≡ length (pair_text p) + length (pairs_text r) = length-append (pair_text p) (pairs_text r) in
      omega arith)

  pub chan_most : (vs : List ℕ) (n : ℕ) → length vs ≤ n → n < 10 ^ suc k
      → length (joined (chan_lines (lit_from 1 vs))) ≤ n * (k + 6) + 6 * ((n + 7) / 8)
  unfolding chan_lines
  chan_most vs n l h =
      let ps = lit_from 1 vs in
      let a = records_long (length ps) ps in
      let b = records_few (length ps) ps in
      let c = lits_count 1 vs in
      let d : length (pairs_text ps) ≤ length vs * (k + 6) = pairs_most 1 vs (omega arith) in
      let e : length vs * (k + 6) ≤ n * (k + 6) = products (k + 6) l in
      omega arith
