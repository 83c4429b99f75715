-- The channels written one after the other are the CHAN records, eight pairs in each: by induction on the pairs that a record still takes, and
-- on the records. Then the turns of the loops over the levels.
-- Assumes nothing.
use mathlib.Core.Path.{◌≡◌, refl, sym, ap, ◌∙◌}
use mathlib.Core.Bool.{Bool, false, cond}
use mathlib.Core.List.{List, [], ◌∷◌, ◌++◌, append_assoc}
use Prim.Native.Nat.{ℕ, zero, suc, ◌+◌, ◌-◌, ◌*◌, ◌≤◌, ◌<◌}
use native.Mathlib.Nat.{add-zero}
use native.Mathlib.Numerals.{add-one}
use native.Mathlib.Omega.{arith}
use lib.Dec.{eqb}
use lib.ListN.{length, get_or, take, drop, length-append, length-drop, drop_of_length-le}
use lib.Seq.{drop-cons}
use borrow.Author.Tests.{eq-eqb, ne_eqb}
use Rattle.cells.specs.Text.{bytes}
use Rattle.cells.specs.Scan.{span}
use Rattle.cells.proofs.Scan.{span_hit, span_miss}
use Rattle.cells.proofs.Split.{by_bool, by_eq, cond-true, cond-false}
use Rattle.value_written.specs.Text.{integer_text, level_text, marked_text}
use Rattle.value_written.proofs.Texts.{integer_ten, level_length}
use Rattle.save_lines.specs.Line.{crlf, joined, Lit, lit_from, pair_text, pairs_text, most_pairs, chan_lines_in, chan_lines}
use Rattle.save_lines.specs.Part.{at_level_text}
use Rattle.save_lines.proofs.Lengths.{pair_length}
use Rattle.save_chans.specs.Chan.{lit, lead_text, channel_text, pairs_with, pairs_after, end_of_line, channels_text, is_dark}

-- ---- the parts of a channel's text
pub pair_parts : (channel level : ℕ) → marked_text (bytes " ") channel ++ at_level_text level ≡ pair_text (lit channel level)
unfolding pair_text marked_text at_level_text
pair_parts channel level = refl

pub lead_first : (pairs : ℕ) → pairs ≡ 0 → bytes "CHAN" ≡ lead_text pairs
unfolding lead_text
lead_first pairs e = sym (cond-true (eqb pairs 0) (bytes "CHAN") (cond (eqb pairs most_pairs) (bytes "\r\nCHAN") []) (eq-eqb pairs 0 e))

module _ (pairs : ℕ) (ne : pairs ≡ 0 → ⊥) where
  lead_later : lead_text pairs ≡ cond (eqb pairs most_pairs) (bytes "\r\nCHAN") []
  unfolding lead_text
  lead_later = cond-false (eqb pairs 0) (bytes "CHAN") (cond (eqb pairs most_pairs) (bytes "\r\nCHAN") []) (ne_eqb pairs 0 ne)

  pub lead_full : pairs ≡ 8 → bytes "\r\nCHAN" ≡ lead_text pairs
  lead_full e = sym (lead_later ∙ cond-true (eqb pairs most_pairs) (bytes "\r\nCHAN") [] (eq-eqb pairs most_pairs e))

  pub lead_within : (pairs ≡ 8 → ⊥) → lead_text pairs ≡ []
  lead_within e = lead_later ∙ cond-false (eqb pairs most_pairs) (bytes "\r\nCHAN") [] (ne_eqb pairs most_pairs e)

channel_none : (pairs channel level : ℕ) → level ≡ 0 → channel_text pairs channel level ≡ []
unfolding channel_text
channel_none pairs channel level e = cond-true (eqb level 0) [] (lead_text pairs ++ pair_text (lit channel level)) (eq-eqb level 0 e)

pub channel_some : (pairs channel level : ℕ) {lead : List ℕ} → lead ≡ lead_text pairs → (level ≡ 0 → ⊥)
    → lead ++ pair_text (lit channel level) ≡ channel_text pairs channel level
unfolding channel_text
channel_some pairs channel level l e =
    ap (λ (z : List ℕ). z ++ pair_text (lit channel level)) l
    ∙ sym (cond-false (eqb level 0) [] (lead_text pairs ++ pair_text (lit channel level)) (ne_eqb level 0 e))

pub lit_level : {level : ℕ} → 0 < level → level ≡ 0 → ⊥
lit_level h e = omega arith

pub end_none : (pairs : ℕ) → pairs ≡ 0 → end_of_line pairs ≡ []
unfolding end_of_line
end_none pairs e = cond-true (eqb pairs 0) [] crlf (eq-eqb pairs 0 e)

pub end_some : (pairs : ℕ) → (pairs ≡ 0 → ⊥) → crlf ≡ end_of_line pairs
unfolding end_of_line
end_some pairs e = sym (cond-false (eqb pairs 0) [] crlf (ne_eqb pairs 0 e))

-- ---- the pairs of a record
after_none : (pairs level : ℕ) → level ≡ 0 → pairs ≡ pairs_after pairs level
unfolding pairs_after
after_none pairs level e = sym (cond-true (eqb level 0) pairs (pairs_with pairs) (eq-eqb level 0 e))

pub after_some : (pairs level : ℕ) → (level ≡ 0 → ⊥) → pairs_after pairs level ≡ pairs_with pairs
unfolding pairs_after
after_some pairs level ne = cond-false (eqb level 0) pairs (pairs_with pairs) (ne_eqb level 0 ne)

pub with_full : (pairs : ℕ) → pairs ≡ 8 → 1 ≡ pairs_with pairs
with_full pairs e = sym (cond-true (eqb pairs most_pairs) 1 (pairs + 1) (eq-eqb pairs most_pairs e))

pub with_more : (pairs : ℕ) → (pairs ≡ 8 → ⊥) → pairs + 1 ≡ pairs_with pairs
with_more pairs e = sym (cond-false (eqb pairs most_pairs) 1 (pairs + 1) (ne_eqb pairs most_pairs e))

pub with_most : (pairs : ℕ) → pairs ≤ 8 → pairs_with pairs ≤ 8
with_most pairs h =
    by_eq pairs 8
    (λ q. let a : 1 ≡ pairs_with pairs = with_full pairs q in omega arith)
    (λ q. let a : pairs + 1 ≡ pairs_with pairs = with_more pairs q in omega arith)

-- ---- pair by pair, in a record that has so many
chan_rest : ℕ → List Lit → List ℕ
chan_rest pairs [] = end_of_line pairs
chan_rest pairs (p ∷ ps) = lead_text pairs ++ (pair_text p ++ chan_rest (pairs_with pairs) ps)

-- a record that has some pairs takes the others that it may, and ends
rest_record : (k pairs : ℕ) (ps : List Lit) → suc pairs + k ≡ 8 → chan_rest (suc pairs) ps ≡ pairs_text (take k ps) ++ (crlf ++ chan_rest 0 (drop k ps))
unfolding chan_rest pairs_text end_of_line lead_text
rest_record zero pairs [] e = sym (end_some (suc pairs) (λ q. omega arith))
rest_record (suc k) pairs [] e = sym (end_some (suc pairs) (λ q. omega arith))
rest_record zero pairs (p ∷ ps) e =
    let q : suc pairs ≡ 8 = omega arith in
    ap (λ (z : ℕ). chan_rest z (p ∷ ps)) q
rest_record (suc k) pairs (p ∷ ps) e =
    let ne : eqb (suc pairs) most_pairs ≡ false = ne_eqb (suc pairs) 8 (λ q. omega arith) in
    let n : suc pairs + 1 ≡ suc (suc pairs) = add-one (suc pairs) in
    let ih = rest_record k (suc pairs) ps (omega arith) in
    ap (λ (z : List ℕ). z ++ (pair_text p ++ chan_rest (pairs_with (suc pairs)) ps))
    (lead_within (suc pairs) (λ q. omega arith) (λ q. omega arith))
    ∙ ap (λ (b : Bool). pair_text p ++ chan_rest (cond b 1 (suc pairs + 1)) ps) ne
    ∙ ap (λ (z : ℕ). pair_text p ++ chan_rest z ps) n
    ∙ ap (λ (z : List ℕ). pair_text p ++ z) ih
    ∙ sym (append_assoc (pair_text p) (pairs_text (take k ps)) (crlf ++ chan_rest 0 (drop k ps)))

rest_lines : (n : ℕ) (ps : List Lit) → length ps ≤ n → joined (chan_lines_in n ps) ≡ chan_rest 0 ps
unfolding chan_rest chan_lines_in joined pairs_text end_of_line lead_text
rest_lines zero [] h = refl
rest_lines zero (p ∷ ps) h = absurd (omega arith)
rest_lines (suc n) [] h = refl
rest_lines (suc n) (p ∷ ps) h =
    let l : length (drop 7 ps) ≡ length ps - 7 = length-drop 7 ps in
    let ih = rest_lines n (drop 7 ps) (omega arith) in
    ap (λ (z : List ℕ). (bytes "CHAN" ++ (pair_text p ++ pairs_text (take 7 ps))) ++ (crlf ++ z)) ih
    ∙ ap (λ (z : List ℕ). bytes "CHAN" ++ z) (append_assoc (pair_text p) (pairs_text (take 7 ps)) (crlf ++ chan_rest 0 (drop 7 ps)))
    ∙ ap (λ (z : List ℕ). bytes "CHAN" ++ (pair_text p ++ z)) (sym (rest_record 7 0 ps refl))

-- ---- channel by channel
levels_rest : (pairs channel : ℕ) (vs : List ℕ) → channels_text pairs channel vs ≡ chan_rest pairs (lit_from channel vs)
unfolding channels_text lit_from chan_rest
levels_rest pairs channel [] = refl
levels_rest pairs channel (v ∷ vs) =
    let r = lit_from (channel + 1) vs in
    let ih = levels_rest (pairs_after pairs v) (channel + 1) vs in
    by_eq v 0
    (λ e.
    ap (λ (z : List ℕ). z ++ channels_text (pairs_after pairs v) (channel + 1) vs) (channel_none pairs channel v e)
    ∙ ih
    ∙ ap (λ (z : ℕ). chan_rest z r) (sym (after_none pairs v e))
    ∙ ap (chan_rest pairs) (sym (cond-true (eqb v 0) r (lit channel v ∷ r) (eq-eqb v 0 e))))
    (λ e.
    ap (λ (z : List ℕ). z ++ channels_text (pairs_after pairs v) (channel + 1) vs) (sym (channel_some pairs channel v refl e))
    ∙ append_assoc (lead_text pairs) (pair_text (lit channel v)) (channels_text (pairs_after pairs v) (channel + 1) vs)
    ∙ ap (λ (z : List ℕ). lead_text pairs ++ (pair_text (lit channel v) ++ z)) (ih ∙ ap (λ (z : ℕ). chan_rest z r) (after_some pairs v e))
    ∙ ap (chan_rest pairs) (sym (cond-false (eqb v 0) r (lit channel v ∷ r) (ne_eqb v 0 e))))

-- dark channels add nothing: what is lit from a channel on is what is lit after them
lit_dark : (n channel : ℕ) (vs : List ℕ) → n ≤ span is_dark vs → lit_from channel vs ≡ lit_from (channel + n) (drop n vs)
unfolding lit_from is_dark
lit_dark zero channel vs h = ap (λ (k : ℕ). lit_from k vs) (sym (add-zero channel))
lit_dark (suc n) channel [] h = refl
lit_dark (suc n) channel (v ∷ vs) h =
    let r = lit_from (channel + 1) vs in
    by_bool (eqb v 0)
    (λ t.
    let m : span is_dark (v ∷ vs) ≡ suc (span is_dark vs) = span_hit is_dark v vs t in
    let k : channel + 1 + n ≡ channel + suc n = omega arith in
    cond-true (eqb v 0) r (lit channel v ∷ r) t
    ∙ lit_dark n (channel + 1) vs (omega arith)
    ∙ ap (λ (c : ℕ). lit_from c (drop n vs)) k)
    (λ f. absurd (let m : span is_dark (v ∷ vs) ≡ 0 = span_miss is_dark v vs f in omega arith))

pub channels_dark : (n pairs channel : ℕ) (vs : List ℕ) → n ≤ span is_dark vs
    → channels_text pairs channel vs ≡ channels_text pairs (channel + n) (drop n vs)
channels_dark n pairs channel vs h =
    levels_rest pairs channel vs ∙ ap (chan_rest pairs) (lit_dark n channel vs h) ∙ sym (levels_rest pairs (channel + n) (drop n vs))

pub channels_are : (vs : List ℕ) → joined (chan_lines (lit_from 1 vs)) ≡ channels_text 0 1 vs
unfolding chan_lines
channels_are vs = rest_lines (length (lit_from 1 vs)) (lit_from 1 vs) (omega arith) ∙ sym (levels_rest 0 1 vs)

-- ---- a turn of a loop over the levels: what is left from place i on is this channel's text and the rest
pub channels_turn : (pairs channel i : ℕ) (vs : List ℕ) {v : ℕ} → i < length vs → v ≡ get_or vs i 0
    → channels_text pairs channel (drop i vs) ≡ channel_text pairs channel v ++ channels_text (pairs_after pairs v) (channel + 1) (drop (i + 1) vs)
unfolding channels_text
channels_turn pairs channel i vs {v} h e =
    ap (channels_text pairs channel) (drop-cons vs i 0 h)
    ∙ ap (λ (z : ℕ). channel_text pairs channel z ++ channels_text (pairs_after pairs z) (channel + 1) (drop (suc i) vs)) (sym e)
    ∙ ap (λ (z : ℕ). channel_text pairs channel v ++ channels_text (pairs_after pairs v) (channel + 1) (drop z vs)) (sym (add-one i))

pub channels_end : (pairs channel i : ℕ) (vs : List ℕ) → length vs ≤ i → channels_text pairs channel (drop i vs) ≡ end_of_line pairs
unfolding channels_text
channels_end pairs channel i vs h = ap (channels_text pairs channel) (drop_of_length-le vs h)

-- ---- lengths
pub lead_long : (pairs : ℕ) → length (lead_text pairs) ≤ 6
lead_long pairs =
    by_eq pairs 0
    (λ e. let l : 4 ≡ length (lead_text pairs) = ap length (lead_first pairs e) in omega arith)
    (λ e.
    by_eq pairs 8
    (λ q. let l : 6 ≡ length (lead_text pairs) = ap length (lead_full pairs e q) in omega arith)
    (λ q. let l : length (lead_text pairs) ≡ 0 = ap length (lead_within pairs e q) in omega arith))

channel-length_none : (pairs channel level : ℕ) → level ≡ 0 → 0 ≡ length (channel_text pairs channel level)
channel-length_none pairs channel level e = sym (ap length (channel_none pairs channel level e))

pub channel-length_some : (pairs channel level : ℕ) {a b c : ℕ} → a ≡ length (lead_text pairs) → b ≡ length (integer_text channel) → c ≡ length (level_text level)
    → (level ≡ 0 → ⊥) → a + b + c + 2 ≡ length (channel_text pairs channel level)
channel-length_some pairs channel level ea eb ec e =
    let l = pair_length (lit channel level) in
    let v : length (level_text level) ≡ 3 = level_length level in
    let m : length (lead_text pairs ++ pair_text (lit channel level)) ≡ length (lead_text pairs) + length (pair_text (lit channel level)) =
    length-append (lead_text pairs) (pair_text (lit channel level))
    in
    let n : length (lead_text pairs ++ pair_text (lit channel level)) ≡ length (channel_text pairs channel level) = ap length (channel_some pairs channel level refl e) in
    omega arith

pub channel_long : (pairs channel level : ℕ) → channel < 4294967296 → length (channel_text pairs channel level) ≤ 21
channel_long pairs channel level h =
    by_eq level 0
    (λ e. let l = channel-length_none pairs channel level e in omega arith)
    (λ e.
    let l =
    channel-length_some pairs channel level {a = length (lead_text pairs)} {b = length (integer_text channel)} {c = length (level_text level)} refl refl refl e
    in
    let a = lead_long pairs in
    let b = integer_ten channel h in
    let c : length (level_text level) ≡ 3 = level_length level in
    omega arith)

pub end_long : (pairs : ℕ) → length (end_of_line pairs) ≤ 2
end_long pairs =
    by_eq pairs 0
    (λ e. let l : length (end_of_line pairs) ≡ 0 = ap length (end_none pairs e) in omega arith)
    (λ e. let l : 2 ≡ length (end_of_line pairs) = ap length (end_some pairs e) in omega arith)

pub channels_long : (pairs channel : ℕ) (vs : List ℕ) → channel + length vs ≤ 4294967296 → length (channels_text pairs channel vs) ≤ 2 + 21 * length vs
unfolding channels_text
channels_long pairs channel [] h = let a = end_long pairs in omega arith
channels_long pairs channel (v ∷ vs) h =
    let ih = channels_long (pairs_after pairs v) (channel + 1) vs (omega arith) in
    let a = channel_long pairs channel v (omega arith) in
    let r = channels_text (pairs_after pairs v) (channel + 1) vs in
    let b : length (channel_text pairs channel v ++ r) ≡ length (channel_text pairs channel v) + length r = length-append (channel_text pairs channel v) r in
    omega arith

-- a turn and the end, in lengths
pub total_turn : (pairs channel i : ℕ) (vs : List ℕ) (n : ℕ) {v k whole : ℕ} → i < length vs → v ≡ get_or vs i 0 → k ≡ length (channel_text pairs channel v)
    → n + length (channels_text pairs channel (drop i vs)) ≡ whole → n + k + length (channels_text (pairs_after pairs v) (channel + 1) (drop (i + 1) vs)) ≡ whole
total_turn pairs channel i vs n {v} h e ek g =
    let r = channels_text (pairs_after pairs v) (channel + 1) (drop (i + 1) vs) in
    let l : length (channels_text pairs channel (drop i vs)) ≡ length (channel_text pairs channel v) + length r =
    ap length (channels_turn pairs channel i vs h e) ∙ length-append (channel_text pairs channel v) r
    in
    omega arith
