-- The loops over the levels: what is written or counted so far, with what is left, is the CHAN records. By the turns of the channels' text.
-- Assumes nothing.
use mathlib.Core.Path.{◌≡◌, refl, sym, ap, ◌∙◌, subst}
use mathlib.Core.List.{List, [], append-nil}
use Prim.Native.Nat.{ℕ, suc, ◌+◌, ◌≤◌, ◌<◌}
use native.Mathlib.Omega.{arith}
use lib.ListN.{length, get_or, drop}
use lib.Seq.{drop-drop}
use Rattle.cells.specs.Scan.{span}
use Rattle.cells.proofs.Scan.{span_more, span_within}
use Rattle.text_room.specs.Wrote.{wrote, wrote_at}
use Rattle.save_lines.specs.Line.{joined, lit_from, chan_lines}
use Rattle.text_room.specs.Room.{Room}
use Rattle.text_room.proofs.Chain.{room_is, Writing, writing_start, writing_room, writing_more, writing_end}
use Rattle.save_chans.specs.Chan.{channel_text, pairs_with, end_of_line, channels_text, is_dark}
use Rattle.save_chans.proofs.Channels.{channels_are, channels_dark, channels_turn, channels_end, channels_long, after_some, with_most, total_turn}
use Rattle.save_chans.proofs.Dark.{dark_of}

abbrev pub chans_text : List ℕ → List ℕ
chans_text vs = joined (chan_lines (lit_from 1 vs))

-- ---- a dark channel, and those after it, up to the place of the next lit one
module _ (vs : List ℕ) {i j : ℕ} (h : i < length vs) (e : j ≡ i + 1 + span is_dark (drop (i + 1) vs)) where
  dark_text : (pairs : ℕ) → get_or vs i 0 ≡ 0 → channels_text pairs (i + 1) (drop i vs) ≡ channels_text pairs (j + 1) (drop j vs)
  dark_text pairs z =
      let n = suc (span is_dark (drop (i + 1) vs)) in
      let m : span is_dark (drop i vs) ≡ n = span_more is_dark vs i h refl (dark_of (get_or vs i 0) z) in
      let q : i + n ≡ j = omega arith in
      let c : i + 1 + n ≡ j + 1 = omega arith in
      channels_dark n pairs (i + 1) (drop i vs) (omega arith)
      ∙ ap (channels_text pairs (i + 1 + n)) (drop-drop n i vs ∙ ap (λ (k : ℕ). drop k vs) q)
      ∙ ap (λ (k : ℕ). channels_text pairs k (drop j vs)) c

  dark_within : j ≤ length vs
  dark_within = let w : i + 1 + span is_dark (drop (i + 1) vs) ≤ length vs = span_within is_dark vs (i + 1) (omega arith) in omega arith

-- ---- writing
pub record Putting (t : List ℕ) (a : ℕ) (vs o : List ℕ) (next pairs i : ℕ) : Type 0 where
  pub most : pairs ≤ 8
  pub within : i ≤ length vs
  pub writing : Writing t a (chans_text vs) o next (channels_text pairs (i + 1) (drop i vs))

pub putting_start : {t : List ℕ} {a : ℕ} (vs : List ℕ) → Room t a (chans_text vs) → Putting t a vs t a 0 0
putting_start vs h = record { most = omega arith; within = omega arith; writing = writing_start (channels_are vs) h }

module _ {t : List ℕ} {a : ℕ} {vs o : List ℕ} {next pairs i : ℕ} (p : Putting t a vs o next pairs i) where
  -- a channel, of level v
  module _ (h : i < length vs) {v : ℕ} (e : v ≡ get_or vs i 0) where
    pub putting_room : Room o next (channel_text pairs (i + 1) v)
    putting_room = writing_room _ (channels_turn pairs (i + 1) i vs h e) p.writing

    pub putting_turn : (v ≡ 0 → ⊥) → {s q : ℕ} {z : List ℕ} → wrote s z ≡ wrote_at o next (channel_text pairs (i + 1) v) → q ≡ pairs_with pairs
        → Putting t a vs z s q (i + 1)
    putting_turn l {s} {q} {z} f g =
        let m = with_most pairs p.most in
        record {
          most = omega arith;
          within = omega arith;
          writing =
              subst (λ (y : ℕ). Writing t a (chans_text vs) z s (channels_text y (i + 1 + 1) (drop (i + 1) vs))) (after_some pairs v l ∙ sym g)
              (writing_more (channel_text pairs (i + 1) v) (channels_turn pairs (i + 1) i vs h e) p.writing f);
        }

    pub putting_dark : v ≡ 0 → {j : ℕ} → j ≡ i + 1 + span is_dark (drop (i + 1) vs) → Putting t a vs o next pairs j
    putting_dark z f =
        record {
          most = p.most;
          within = dark_within vs h f;
          writing = subst (λ (y : List ℕ). Writing t a (chans_text vs) o next y) (dark_text vs h f pairs (sym e ∙ z)) p.writing;
        }

  -- what ends the record
  module _ (h : length vs ≤ i) {end : List ℕ} (e : end ≡ end_of_line pairs) where
    pub putting_last : Room o next end
    putting_last = room_is (sym e) (writing_room [] (channels_end pairs (i + 1) i vs h ∙ sym (append-nil (end_of_line pairs))) p.writing)

    pub putting_end : {s : ℕ} {z : List ℕ} → wrote s z ≡ wrote_at o next end → wrote s z ≡ wrote_at t a (chans_text vs)
    putting_end f = writing_end (channels_end pairs (i + 1) i vs h ∙ sym e) p.writing f

-- ---- counting
pub record Adding (vs : List ℕ) (total pairs i : ℕ) : Type 0 where
  pub most : pairs ≤ 8
  pub within : i ≤ length vs
  pub sum : total + length (channels_text pairs (i + 1) (drop i vs)) ≡ length (chans_text vs)

pub adding_start : (vs : List ℕ) → Adding vs 0 0 0
adding_start vs =
    let e : length (chans_text vs) ≡ length (channels_text 0 1 vs) = ap length (channels_are vs) in
    record { most = omega arith; within = omega arith; sum = omega arith }

-- the whole is small
chans_long : (vs : List ℕ) → length vs ≤ 1024 → length (chans_text vs) ≤ 21506
chans_long vs h =
    let e : length (chans_text vs) ≡ length (channels_text 0 1 vs) = ap length (channels_are vs) in
    let l = channels_long 0 1 vs (omega arith) in
    omega arith

module _ {vs : List ℕ} {total pairs i : ℕ} (p : Adding vs total pairs i) where
  -- a channel, of level v
  module _ (h : i < length vs) {v : ℕ} (e : v ≡ get_or vs i 0) where
    pub adding_turn : (v ≡ 0 → ⊥) → {k q : ℕ} → k ≡ length (channel_text pairs (i + 1) v) → q ≡ pairs_with pairs → Adding vs (total + k) q (i + 1)
    adding_turn l {k} {q} f g =
        let m = with_most pairs p.most in
        record {
          most = omega arith;
          within = omega arith;
          sum =
              subst (λ (y : ℕ). total + k + length (channels_text y (i + 1 + 1) (drop (i + 1) vs)) ≡ length (chans_text vs)) (after_some pairs v l ∙ sym g)
              (total_turn pairs (i + 1) i vs total h e f p.sum);
        }

    pub adding_small : length vs ≤ 1024 → {k : ℕ} → k ≡ length (channel_text pairs (i + 1) v) → total + k ≤ 21506
    adding_small l f = let w = total_turn pairs (i + 1) i vs total h e f p.sum in let b = chans_long vs l in omega arith

    pub adding_dark : v ≡ 0 → {j : ℕ} → j ≡ i + 1 + span is_dark (drop (i + 1) vs) → Adding vs total pairs j
    adding_dark z f =
        record {
          most = p.most;
          within = dark_within vs h f;
          sum = subst (λ (y : List ℕ). total + length y ≡ length (chans_text vs)) (dark_text vs h f pairs (sym e ∙ z)) p.sum;
        }

  -- what ends the record
  module _ (h : length vs ≤ i) {end : List ℕ} (e : end ≡ end_of_line pairs) where
    pub adding_end : total + length end ≡ length (chans_text vs)
    adding_end =
        let l : length (channels_text pairs (i + 1) (drop i vs)) ≡ length end = ap length (channels_end pairs (i + 1) i vs h ∙ sym e) in
        let s = p.sum in
        omega arith

    pub adding_end_small : length vs ≤ 1024 → total + length end ≤ 21506
    adding_end_small l = let w = adding_end in let b = chans_long vs l in omega arith
