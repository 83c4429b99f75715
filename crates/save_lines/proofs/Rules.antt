-- Each line is at most 80 characters long and has only characters that the source rules allow: its words are literals, its values are
-- written by digits, points, colons and capitals, and their fields bound how many.
-- Assumes nothing.
use mathlib.Core.Path.{◌≡◌, refl, sym, ap, ◌∙◌, subst}
use mathlib.Core.Bool.{true, not, ◌&&◌}
use mathlib.Core.List.{List, [], ◌∷◌, ◌++◌}
use Prim.Native.Nat.{ℕ, zero, suc, ◌+◌, ◌*◌, ◌/◌, ◌≤◌, ◌<◌}
use native.Mathlib.Omega.{arith}
use lib.Dec.{eqb, leb}
use lib.ListN.{length, take, drop, length-append}
use borrow.Author.Tests.{le-leb, ne_eqb, eq-eqb}
use Rattle.cells.specs.Text.{bytes}
use Rattle.cells.specs.Scan.{span}
use Rattle.cells.proofs.Scan.{all_append, span_nil}
use Rattle.cells.proofs.Split.{by_test, by_eq, and_true, not_of_false, cond-true, cond-false}
use Rattle.store_desk.specs.declared.Key.{Key}
use Rattle.store_desk.specs.declared.Kind.{Kind}
use Rattle.store_desk.specs.declared.Kind.TheVariants.{Cue, Group, Sub}
use Rattle.store_head.specs.declared.Head.{Head}
use Rattle.store_head.specs.declared.Patch.{Patch}
use Rattle.store_head.specs.Fits.{whole_span, time_span, HeadFits, PatchFits}
use Rattle.value.specs.Number.{fraction_digits}
use Rattle.value_written.specs.Text.{is_plain, integer_text, fraction_text, number_text, level_text, left_by, time_text}
use Rattle.value_written.proofs.Texts.{integer_short, number_length, fraction_short, time_by, left_few, by_plain, plain_in, integer_plain, number_plain, level_plain, time_plain}
use Rattle.save_lines.specs.Line.{crlf, joined, patch_text, patch_line, kind_text, primary_text, delay_text, time_line, link_line, head_lines, Lit, lit_from, pair_text, pairs_text, most_pairs, chan_lines_in, chan_lines}
use Rattle.save_lines.specs.Ruled.{is_source, Ruled, AllRuled}
use Rattle.save_lines.proofs.Parts.{delay_none, delay_some, joined_nil, joined_more}
use Rattle.save_lines.proofs.Lengths.{patch_text-length, kind_long, pair_length}

-- ---- lists of lines
pub ruled_append : (a b : List (List ℕ)) → AllRuled a → AllRuled b → AllRuled (a ++ b)
ruled_append [] b p q = q
ruled_append (l ∷ a) b p q = (p.0, ruled_append a b p.1 q)

-- so many lines are so long at most, ends and all
pub joined_long : (ls : List (List ℕ)) → AllRuled ls → length (joined ls) ≤ 82 * length ls
joined_long [] p = let e : length (joined []) ≡ 0 = ap length joined_nil in omega arith
joined_long (l ∷ ls) p =
    let ih = joined_long ls p.1 in
    let e : length (joined (l ∷ ls)) ≡ length l + suc (suc (length (joined ls))) =
    ap length (joined_more l ls) ∙ length-append l (crlf ++ joined ls)
    in
    let s = p.0.short in
    omega arith

-- ---- characters
abbrev pub Source : List ℕ → Type 0
Source l = span is_source l ≡ length l

source_in : (c : ℕ) → 34 ≤ c → c ≤ 126 → is_source c ≡ true
unfolding is_source
source_in c g h =
    and_true (leb 32 c && leb c 126) (not (eqb c 33))
    (and_true (leb 32 c) (leb c 126) (le-leb 32 c (omega arith)) (le-leb c 126 h))
    (not_of_false (eqb c 33) (ne_eqb c 33 (λ e. omega arith)))

plain_source : (c : ℕ) → is_plain c ≡ true → is_source c ≡ true
plain_source c e =
    by_plain c e
    (λ q. source_in c (omega arith) (omega arith))
    (λ g h. source_in c (omega arith) (omega arith))
    (λ g h. source_in c (omega arith) (omega arith))

module _ (l : List ℕ) (e : span is_plain l ≡ length l) where
  from_plain : Source l
  from_plain = plain_in is_source plain_source l e

integer_source : (n : ℕ) → Source (integer_text n)
integer_source n = from_plain (integer_text n) (integer_plain n)

number_source : (w f : ℕ) → Source (number_text w f)
number_source w f = from_plain (number_text w f) (number_plain w f)

level_source : (l : ℕ) → Source (level_text l)
level_source l = from_plain (level_text l) (level_plain l)

time_source : (t : ℕ) → Source (time_text t)
time_source t = from_plain (time_text t) (time_plain t)

-- ---- lengths, by the fields' widths
integer_four : (n : ℕ) → n < 10000 → length (integer_text n) ≤ 4
integer_four n h = integer_short n 3 h

pub number_six : (w f : ℕ) → w < whole_span → length (number_text w f) ≤ 6
number_six w f h =
    let a : length (integer_text w) ≤ 4 = integer_four w (omega arith) in
    let b : length (fraction_text fraction_digits f) ≤ fraction_digits + 1 = fraction_short fraction_digits f in
    let c = number_length w f in
    omega arith

-- whatever 26 bits hold: hours and minutes up to 999, and the rest in seconds of seven digits
pub time_held : (t : ℕ) → t < time_span → length (time_text t) ≤ 17
time_held t h = time_by t 5 (let g : left_by 60 (left_by 3600 (t / 10)) < 10000000 = omega (arith, left_few t) in g)

-- ---- PATCH
patch_source : (page dimmer : ℕ) (p : Patch) → Source (patch_text page dimmer p)
unfolding patch_text is_source span
patch_source page dimmer p =
    let l : List ℕ = bytes "@" ++ level_text p.level in
    let m : List ℕ = bytes "<" ++ (integer_text dimmer ++ l) in
    let n : List ℕ = bytes " " ++ (integer_text p.channel ++ m) in
    let el : Source l = all_append is_source (bytes "@") (level_text p.level) refl (level_source p.level) in
    let em : Source m =
    all_append is_source (bytes "<") (integer_text dimmer ++ l) refl (all_append is_source (integer_text dimmer) l (integer_source dimmer) el)
    in
    let en : Source n =
    all_append is_source (bytes " ") (integer_text p.channel ++ m) refl
    (all_append is_source (integer_text p.channel) m (integer_source p.channel) em)
    in
    all_append is_source (bytes "PATCH ") (integer_text page ++ n) refl (all_append is_source (integer_text page) n (integer_source page) en)

pub patch_ruled : (page dimmer : ℕ) (p : Patch) → page < 10000 → dimmer < 10000 → PatchFits p → AllRuled (patch_line page dimmer p)
unfolding patch_line
patch_ruled page dimmer p hp hd f =
    by_eq p.channel 0
    (λ e. subst AllRuled (sym (cond-true (eqb p.channel 0) [] (patch_text page dimmer p ∷ []) (eq-eqb p.channel 0 e))) tt)
    (λ e.
    subst AllRuled (sym (cond-false (eqb p.channel 0) [] (patch_text page dimmer p ∷ []) (ne_eqb p.channel 0 e)))
    (record { short = short; source = patch_source page dimmer p }, tt))
  where
    short : length (patch_text page dimmer p) ≤ 80
    short =
        let a = integer_four page hp in
        let b = integer_four dimmer hd in
        let k = f.channel in
        let c = integer_four p.channel (omega arith) in
        let l = patch_text-length page dimmer p in
        omega arith

-- ---- the primary
kind_source : (k : Kind) → Source (kind_text k)
unfolding kind_text is_source span
kind_source Cue = refl
kind_source Group = refl
kind_source Sub = refl

primary_source : (k : Kind) (key : Key) → Source (primary_text k key)
unfolding primary_text is_source span
primary_source k key =
    let n : List ℕ = number_text key.whole key.fraction in
    let p : List ℕ = bytes " " ++ integer_text key.page in
    let ep : Source p = all_append is_source (bytes " ") (integer_text key.page) refl (integer_source key.page) in
    all_append is_source (kind_text k) (n ++ p) (kind_source k) (all_append is_source n p (number_source key.whole key.fraction) ep)

primary_short : (k : Kind) (key : Key) → key.page < 10000 → key.whole < whole_span → length (primary_text k key) ≤ 80
unfolding primary_text
primary_short k key hp hw =
    let n : List ℕ = number_text key.whole key.fraction in
    let p : List ℕ = bytes " " ++ integer_text key.page in
    let a = kind_long k in
    let b = number_six key.whole key.fraction hw in
    let c = integer_four key.page hp in
    let l : length (n ++ p) ≡ length n + length p = length-append n p in
    let m : length (kind_text k ++ (n ++ p)) ≡ length (kind_text k) + length (n ++ p) = length-append (kind_text k) (n ++ p) in
    omega arith

pub primary_ruled : (k : Kind) (key : Key) → key.page < 10000 → key.whole < whole_span → Ruled (primary_text k key)
primary_ruled k key hp hw = record { short = primary_short k key hp hw; source = primary_source k key }

-- ---- times
delay_source : (delay : ℕ) → Source (delay_text delay)
unfolding is_source span
delay_source delay =
    by_eq delay 0
    (λ e. subst Source (sym (delay_none delay e)) refl)
    (λ e. subst Source (delay_some delay e) (all_append is_source (bytes " ") (time_text delay) refl (time_source delay)))

pub delay_most : (delay : ℕ) → length (delay_text delay) ≤ 1 + length (time_text delay)
delay_most delay =
    by_eq delay 0
    (λ e. let l : length (delay_text delay) ≡ 0 = ap length (delay_none delay e) in omega arith)
    (λ e. let l : suc (length (time_text delay)) ≡ length (delay_text delay) = ap length (delay_some delay e) in omega arith)

module _ (word : List ℕ) (present fade delay : ℕ) (s : Source word) (lw : length word ≤ 9) (lf : fade < time_span) (ld : delay < time_span) where
  abbrev time_text_lem : List ℕ
  time_text_lem = word ++ (time_text fade ++ delay_text delay)

  time_short : length time_text_lem ≤ 80
  time_short =
      let a = time_held fade lf in
      let b = delay_most delay in
      let c = time_held delay ld in
      let l : length (time_text fade ++ delay_text delay) ≡ length (time_text fade) + length (delay_text delay) = length-append (time_text fade) (delay_text delay) in
      let m : length time_text_lem ≡ length word + length (time_text fade ++ delay_text delay) = length-append word (time_text fade ++ delay_text delay) in
      omega arith

  time_ruled : AllRuled (time_line word present fade delay)
  unfolding time_line
  time_ruled =
      by_eq present 0
      (λ e. subst AllRuled (sym (cond-true (eqb present 0) [] (time_text_lem ∷ []) (eq-eqb present 0 e))) tt)
      (λ e.
      subst AllRuled (sym (cond-false (eqb present 0) [] (time_text_lem ∷ []) (ne_eqb present 0 e))) (
        record {
          short = time_short;
          source =
              all_append is_source word (time_text fade ++ delay_text delay) s
              (all_append is_source (time_text fade) (delay_text delay) (time_source fade) (delay_source delay));
        },
        tt,
      ))

-- ---- LINK
link_ruled : (h : Head) → h.link_whole < whole_span → AllRuled (link_line h)
unfolding link_line is_source span
link_ruled h lw =
    let n : List ℕ = number_text h.link_whole h.link_fraction in
    let a = number_six h.link_whole h.link_fraction lw in
    by_eq h.link 0
    (λ e. subst AllRuled (sym (cond-true (eqb h.link 0) [] ((bytes "LINK " ++ n) ∷ []) (eq-eqb h.link 0 e))) tt)
    (λ e.
    subst AllRuled (sym (cond-false (eqb h.link 0) [] ((bytes "LINK " ++ n) ∷ []) (ne_eqb h.link 0 e))) (
      record { short = omega arith; source = all_append is_source (bytes "LINK ") n refl (number_source h.link_whole h.link_fraction) },
      tt,
    ))

pub head_ruled : (h : Head) → HeadFits h → AllRuled (head_lines h)
unfolding head_lines is_source span
head_ruled h f =
    let u = time_line (bytes "UP ") h.up h.up_fade h.up_delay in
    let d = time_line (bytes "DOWN ") h.down h.down_fade h.down_delay in
    let o = time_line (bytes "FOLLOWON ") h.followon h.followon_time 0 in
    let eu : AllRuled u = time_ruled (bytes "UP ") h.up h.up_fade h.up_delay refl (omega arith) f.up_fade_of f.up_delay_of in
    let ed : AllRuled d = time_ruled (bytes "DOWN ") h.down h.down_fade h.down_delay refl (omega arith) f.down_fade_of f.down_delay_of in
    let eo : AllRuled o = time_ruled (bytes "FOLLOWON ") h.followon h.followon_time 0 refl (omega arith) f.followon_time_of (omega arith) in
    ruled_append u (d ++ (o ++ link_line h)) eu
    (ruled_append d (o ++ link_line h) ed (ruled_append o (link_line h) eo (link_ruled h f.link_whole_of)))

-- ---- CHAN
abbrev pub LitsFit : List Lit → Type 0
LitsFit [] = Unit
LitsFit (p ∷ ps) = (p.channel < 10000) × LitsFit ps

lits_drop : (n : ℕ) (ps : List Lit) → LitsFit ps → LitsFit (drop n ps)
lits_drop zero ps f = f
lits_drop (suc n) [] f = tt
lits_drop (suc n) (p ∷ ps) f = lits_drop n ps f.1

lits_from : (channel : ℕ) (vs : List ℕ) → channel + length vs ≤ 10000 → LitsFit (lit_from channel vs)
unfolding lit_from
lits_from channel [] h = tt
lits_from channel (v ∷ vs) h =
    let ih : LitsFit (lit_from (channel + 1) vs) = lits_from (channel + 1) vs (omega arith) in
    by_test LitsFit (eqb v 0) (lit_from (channel + 1) vs) (record { channel = channel; level = v } ∷ lit_from (channel + 1) vs)
    (λ e. ih)
    (λ e. (omega arith, ih))

pub lits_count : (channel : ℕ) (vs : List ℕ) → length (lit_from channel vs) ≤ length vs
unfolding lit_from
lits_count channel [] = omega arith
lits_count channel (v ∷ vs) =
    let ih = lits_count (channel + 1) vs in
    by_test (λ (z : List Lit). length z ≤ suc (length vs)) (eqb v 0) (lit_from (channel + 1) vs)
    (record { channel = channel; level = v } ∷ lit_from (channel + 1) vs)
    (λ e. omega arith)
    (λ e. omega arith)

pair_source : (p : Lit) → Source (pair_text p)
unfolding pair_text is_source span
pair_source p =
    all_append is_source (bytes " ") (integer_text p.channel ++ (bytes "@" ++ level_text p.level)) refl
    (all_append is_source (integer_text p.channel) (bytes "@" ++ level_text p.level) (integer_source p.channel)
    (all_append is_source (bytes "@") (level_text p.level) refl (level_source p.level)))

pair_short : (p : Lit) → p.channel < 10000 → length (pair_text p) ≤ 9
pair_short p h = let a = integer_four p.channel h in let b = pair_length p in omega arith

pairs_source : (ps : List Lit) → Source (pairs_text ps)
unfolding pairs_text
pairs_source [] = span_nil is_source
pairs_source (p ∷ ps) = all_append is_source (pair_text p) (pairs_text ps) (pair_source p) (pairs_source ps)

pairs_short : (n : ℕ) (ps : List Lit) → LitsFit ps → length (pairs_text (take n ps)) ≤ 9 * n
unfolding pairs_text
pairs_short zero ps f = omega arith
pairs_short (suc n) [] f = omega arith
pairs_short (suc n) (p ∷ ps) f =
    let ih = pairs_short n ps f.1 in
    let a = pair_short p f.0 in
    let b : length (pair_text p ++ pairs_text (take n ps)) ≡ length (pair_text p) + length (pairs_text (take n ps)) = length-append (pair_text p) (pairs_text (take n ps)) in
    omega arith

chan_line : (ps : List Lit) → LitsFit ps → Ruled (bytes "CHAN" ++ pairs_text (take most_pairs ps))
unfolding is_source span
chan_line ps f =
    let a = pairs_short most_pairs ps f in
    record {
      short = omega arith;
      source = all_append is_source (bytes "CHAN") (pairs_text (take most_pairs ps)) refl (pairs_source (take most_pairs ps));
    }

chan_ruled_in : (n : ℕ) (ps : List Lit) → LitsFit ps → AllRuled (chan_lines_in n ps)
unfolding chan_lines_in
chan_ruled_in zero ps f = tt
chan_ruled_in (suc n) [] f = tt
chan_ruled_in (suc n) (p ∷ ps) f = (chan_line (p ∷ ps) f, chan_ruled_in n (drop most_pairs (p ∷ ps)) (lits_drop most_pairs (p ∷ ps) f))

pub chan_ruled : (vs : List ℕ) → length vs ≤ 1024 → AllRuled (chan_lines (lit_from 1 vs))
unfolding chan_lines
chan_ruled vs h = chan_ruled_in (length (lit_from 1 vs)) (lit_from 1 vs) (lits_from 1 vs (omega arith))

-- ---- how many lines
pub patch_count : (page dimmer : ℕ) (p : Patch) → length (patch_line page dimmer p) ≤ 1
unfolding patch_line
patch_count page dimmer p =
    by_test (λ (z : List (List ℕ)). length z ≤ 1) (eqb p.channel 0) [] (patch_text page dimmer p ∷ []) (λ e. omega arith) (λ e. omega arith)

time_count : (word : List ℕ) (present fade delay : ℕ) → length (time_line word present fade delay) ≤ 1
unfolding time_line
time_count word present fade delay =
    by_test (λ (z : List (List ℕ)). length z ≤ 1) (eqb present 0) [] ((word ++ (time_text fade ++ delay_text delay)) ∷ [])
    (λ e. omega arith)
    (λ e. omega arith)

link_count : (h : Head) → length (link_line h) ≤ 1
unfolding link_line
link_count h =
    by_test (λ (z : List (List ℕ)). length z ≤ 1) (eqb h.link 0) []
    ((bytes "LINK " ++ number_text h.link_whole h.link_fraction) ∷ [])
    (λ e. omega arith)
    (λ e. omega arith)

pub head_count : (h : Head) → length (head_lines h) ≤ 4
unfolding head_lines
head_count h =
    let u = time_line (bytes "UP ") h.up h.up_fade h.up_delay in
    let d = time_line (bytes "DOWN ") h.down h.down_fade h.down_delay in
    let o = time_line (bytes "FOLLOWON ") h.followon h.followon_time 0 in
    let k = link_line h in
    let a = time_count (bytes "UP ") h.up h.up_fade h.up_delay in
    let b = time_count (bytes "DOWN ") h.down h.down_fade h.down_delay in
    let c = time_count (bytes "FOLLOWON ") h.followon h.followon_time 0 in
    let e = link_count h in
    let x : length (o ++ k) ≡ length o + length k = length-append o k in
    let y : length (d ++ (o ++ k)) ≡ length d + length (o ++ k) = length-append d (o ++ k) in
    let z : length (u ++ (d ++ (o ++ k))) ≡ length u + length (d ++ (o ++ k)) = length-append u (d ++ (o ++ k)) in
    omega arith

chan_count_in : (n : ℕ) (ps : List Lit) → length (chan_lines_in n ps) ≤ n
unfolding chan_lines_in
chan_count_in zero ps = omega arith
chan_count_in (suc n) [] = omega arith
chan_count_in (suc n) (p ∷ ps) = let ih = chan_count_in n (drop most_pairs (p ∷ ps)) in omega arith

pub chan_count : (vs : List ℕ) → length (chan_lines (lit_from 1 vs)) ≤ length vs
unfolding chan_lines
chan_count vs = let a = chan_count_in (length (lit_from 1 vs)) (lit_from 1 vs) in let b = lits_count 1 vs in omega arith
