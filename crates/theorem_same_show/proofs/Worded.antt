-- Each kind of written line: its characters are kept, it has at most 80 of them, and its fields are the words that were put in. Part by
-- part from the end of the line.
-- Assumes nothing.
use mathlib.Core.Path.{◌≡◌, refl, sym, subst}
use mathlib.Core.Bool.{true, cond}
use mathlib.Core.List.{List, [], ◌∷◌, ◌++◌, append_assoc}
use Prim.Native.Nat.{ℕ, suc, ◌+◌, ◌*◌, ◌≤◌, ◌<◌}
use native.Mathlib.Omega.{arith}
use lib.Dec.{eqb}
use lib.ListN.{length, length-append}
use borrow.Author.Tests.{eq-eqb, ne_eqb}
use Rattle.cells.specs.Text.{bytes}
use Rattle.cells.specs.Scan.{span}
use Rattle.cells.proofs.Split.{by_eq}
use Rattle.cells.proofs.Scan.{span_nil, all_cons, all_append}
use Rattle.text_records.specs.Received.{longest}
use Rattle.text_records.specs.Cleaning.{has}
use Rattle.text_fields.specs.Words.{is_delimiter}
use Rattle.store_desk.specs.declared.Desk.{Desk}
use Rattle.store_desk.specs.declared.Key.{Key}
use Rattle.store_desk.specs.declared.Kind.{Kind}
use Rattle.store_desk.specs.declared.Kind.TheVariants.{Cue, Group, Sub}
use Rattle.store_desk.specs.Size.{Within}
use Rattle.store_head.specs.declared.Patch.{Patch}
use Rattle.value.specs.Number.{whole_max, fraction_digits}
use Rattle.value.specs.Time.{time_max}
use Rattle.value_written.specs.Text.{integer_text, number_text, level_text, fraction_text, time_text, is_plain}
use Rattle.value_written.proofs.Texts.{integer_some, integer_short, number_length, number_short, level_length, time_short, time_some, integer_plain, number_plain, level_plain, time_plain}
use Rattle.save_lines.specs.Line.{patch_text, kind_text, primary_text, delay_text, Lit, pair_text, pairs_text}
use Rattle.theorem_same_show.proofs.Fair.{is_fair, Fair, fair_plain}
use Rattle.theorem_same_show.proofs.Spelled.{Spells, OneWord, Ends, ends_nil, ends_at, spells_nil, spells_first, spells_next, spells_last, plain_one, space_delimits, less_delimits, at_delimits}

-- ---- a line, what follows a word in one, and a word of at most m characters
pub record Line (l : List ℕ) (xs : List (List ℕ)) : Type 0 where
  pub fair : Fair l
  pub short : length l ≤ longest
  pub words : Spells l xs

record Tail (l : List ℕ) (xs : List (List ℕ)) (n : ℕ) : Type 0 where
  fair : Fair l
  short : length l ≤ n
  words : Spells l xs
  ends : Ends l

record Valued (w : List ℕ) (m : ℕ) : Type 0 where
  one : OneWord w
  fair : Fair w
  short : length w ≤ m

tail_nil : Tail [] [] 0
tail_nil = record { fair = span_nil is_fair; short = omega arith; words = spells_nil; ends = ends_nil }

tail_next : {c m n : ℕ} {w rest : List ℕ} {xs : List (List ℕ)} → is_delimiter c ≡ true → is_fair c ≡ true → Valued w m → Tail rest xs n
    → Tail (c ∷ (w ++ rest)) (w ∷ xs) (1 + m + n)
tail_next {c} {m} {n} {w} {rest} {xs} hc hf v t =
    record {
      fair = all_cons is_fair c (w ++ rest) hf (all_append is_fair w rest v.fair t.fair);
      short = (let a : length (w ++ rest) ≡ length w + length rest = length-append w rest in
          let b : suc (length (w ++ rest)) ≤ 1 + m + n = omega (arith, v.short, t.short) in b);
      words = spells_next c w rest xs hc v.one t.ends t.words;
      ends = ends_at c (w ++ rest) hc;
    }

tail_last : {c m : ℕ} {w : List ℕ} → is_delimiter c ≡ true → is_fair c ≡ true → Valued w m → Tail (c ∷ w) (w ∷ []) (1 + m)
tail_last {c} {m} {w} hc hf v =
    record {
      fair = all_cons is_fair c w hf v.fair;
      short = (let b : suc (length w) ≤ 1 + m = omega (arith, v.short) in b);
      words = spells_last c w hc v.one;
      ends = ends_at c w hc;
    }

line_of : {m n : ℕ} {w rest : List ℕ} {xs : List (List ℕ)} → Valued w m → Tail rest xs n → m + n ≤ longest → Line (w ++ rest) (w ∷ xs)
line_of {m} {n} {w} {rest} {xs} v t h =
    record {
      fair = all_append is_fair w rest v.fair t.fair;
      short = (let a : length (w ++ rest) ≡ length w + length rest = length-append w rest in
          let b : length (w ++ rest) ≤ longest = omega (arith, v.short, t.short) in b);
      words = spells_first w rest xs v.one t.ends t.words;
    }

-- ---- the values
valued : (w : List ℕ) (m : ℕ) → span is_plain w ≡ length w → 1 ≤ length w → length w ≤ m → Valued w m
valued w m e h l = record { one = plain_one w e h; fair = fair_plain w e; short = l }

integer_valued : (n : ℕ) → n < 1000 → Valued (integer_text n) 3
integer_valued n h = valued (integer_text n) 3 (integer_plain n) (integer_some n) (integer_short n 2 h)

number_valued : (w f : ℕ) → w ≤ whole_max → Valued (number_text w f) 5
number_valued w f h =
    let a : length (number_text w f) ≡ length (integer_text w) + length (fraction_text fraction_digits f) = number_length w f in
    let b : 1 ≤ length (integer_text w) = integer_some w in
    valued (number_text w f) 5 (number_plain w f) (omega arith) (number_short w f h)

level_valued : (l : ℕ) → Valued (level_text l) 3
level_valued l =
    let a : length (level_text l) ≡ 3 = level_length l in
    valued (level_text l) 3 (level_plain l) (omega arith) (omega arith)

time_valued : (t : ℕ) → t ≤ time_max → Valued (time_text t) 13
time_valued t h = valued (time_text t) 13 (time_plain t) (time_some t) (time_short t h)

-- ---- the delimiters
space_fair : is_fair 32 ≡ true
unfolding is_fair
space_fair = refl

less_fair : is_fair 60 ≡ true
unfolding is_fair
less_fair = refl

at_fair : is_fair 64 ≡ true
unfolding is_fair
at_fair = refl

-- ---- the keywords
unfoldable pub kind_word : Kind → List ℕ
kind_word Cue = bytes "CUE"
kind_word Group = bytes "GROUP"
kind_word Sub = bytes "SUB"

kind_valued : (k : Kind) → Valued (kind_word k) 8
unfolding kind_word span is_delimiter has is_fair
kind_valued Cue = record { one = (refl, omega arith); fair = refl; short = omega arith }
kind_valued Group = record { one = (refl, omega arith); fair = refl; short = omega arith }
kind_valued Sub = record { one = (refl, omega arith); fair = refl; short = omega arith }

patch_valued : Valued (bytes "PATCH") 8
unfolding span is_delimiter has is_fair
patch_valued = record { one = (refl, omega arith); fair = refl; short = omega arith }

up_valued : Valued (bytes "UP") 8
unfolding span is_delimiter has is_fair
up_valued = record { one = (refl, omega arith); fair = refl; short = omega arith }

down_valued : Valued (bytes "DOWN") 8
unfolding span is_delimiter has is_fair
down_valued = record { one = (refl, omega arith); fair = refl; short = omega arith }

followon_valued : Valued (bytes "FOLLOWON") 8
unfolding span is_delimiter has is_fair
followon_valued = record { one = (refl, omega arith); fair = refl; short = omega arith }

link_valued : Valued (bytes "LINK") 8
unfolding span is_delimiter has is_fair
link_valued = record { one = (refl, omega arith); fair = refl; short = omega arith }

chan_valued : Valued (bytes "CHAN") 8
unfolding span is_delimiter has is_fair
chan_valued = record { one = (refl, omega arith); fair = refl; short = omega arith }

-- ---- PATCH
pub patch_line_lem : (page dimmer : ℕ) (p : Patch) → page < 1000 → dimmer < 1000 → p.channel < 1000
    → Line (patch_text page dimmer p) (bytes "PATCH" ∷ integer_text page ∷ integer_text p.channel ∷ integer_text dimmer ∷ level_text p.level ∷ [])
unfolding patch_text
patch_line_lem page dimmer p hp hd hc =
    line_of patch_valued
    (tail_next space_delimits space_fair (integer_valued page hp)
    (tail_next space_delimits space_fair (integer_valued p.channel hc)
    (tail_next less_delimits less_fair (integer_valued dimmer hd)
    (tail_last at_delimits at_fair (level_valued p.level)))))
    (omega arith)

-- ---- the primaries
primary_tail : (key : Key) → key.whole ≤ whole_max → key.page < 1000
    → Tail (32 ∷ (number_text key.whole key.fraction ++ (32 ∷ integer_text key.page))) (number_text key.whole key.fraction ∷ integer_text key.page ∷ []) (1 + 5 + (1 + 3))
primary_tail key hw hp =
    tail_next space_delimits space_fair (number_valued key.whole key.fraction hw)
    (tail_last space_delimits space_fair (integer_valued key.page hp))

pub primary_line : (k : Kind) (key : Key) → key.whole ≤ whole_max → key.page < 1000
    → Line (primary_text k key) (kind_word k ∷ number_text key.whole key.fraction ∷ integer_text key.page ∷ [])
unfolding primary_text kind_text kind_word
primary_line Cue key hw hp = line_of (kind_valued Cue) (primary_tail key hw hp) (omega arith)
primary_line Group key hw hp = line_of (kind_valued Group) (primary_tail key hw hp) (omega arith)
primary_line Sub key hw hp = line_of (kind_valued Sub) (primary_tail key hw hp) (omega arith)

-- ---- UP, DOWN, FOLLOWON, LINK
unfoldable pub delay_words : ℕ → List (List ℕ)
delay_words delay = cond (eqb delay 0) [] (time_text delay ∷ [])

delay_tail : (delay : ℕ) → delay ≤ time_max → Tail (delay_text delay) (delay_words delay) 14
unfolding delay_text delay_words
delay_tail delay h =
    by_eq delay 0
    (λ e. rw (eq-eqb delay 0 e) (record { fair = span_nil is_fair; short = omega arith; words = spells_nil; ends = ends_nil }))
    (λ e. rw (ne_eqb delay 0 e) (tail_last space_delimits space_fair (time_valued delay h)))

time_tail : (fade delay : ℕ) → fade ≤ time_max → delay ≤ time_max
    → Tail (32 ∷ (time_text fade ++ delay_text delay)) (time_text fade ∷ delay_words delay) (1 + 13 + 14)
time_tail fade delay hf hd = tail_next space_delimits space_fair (time_valued fade hf) (delay_tail delay hd)

module _ (fade delay : ℕ) (hf : fade ≤ time_max) (hd : delay ≤ time_max) where
  pub up_line : Line (bytes "UP " ++ (time_text fade ++ delay_text delay)) (bytes "UP" ∷ time_text fade ∷ delay_words delay)
  up_line = line_of up_valued (time_tail fade delay hf hd) (omega arith)

  pub down_line : Line (bytes "DOWN " ++ (time_text fade ++ delay_text delay)) (bytes "DOWN" ∷ time_text fade ∷ delay_words delay)
  down_line = line_of down_valued (time_tail fade delay hf hd) (omega arith)

  pub followon_line : Line (bytes "FOLLOWON " ++ (time_text fade ++ delay_text delay)) (bytes "FOLLOWON" ∷ time_text fade ∷ delay_words delay)
  followon_line = line_of followon_valued (time_tail fade delay hf hd) (omega arith)

pub link_line_lem : (whole fraction : ℕ) → whole ≤ whole_max → Line (bytes "LINK " ++ number_text whole fraction) (bytes "LINK" ∷ number_text whole fraction ∷ [])
link_line_lem whole fraction h = line_of link_valued (tail_last space_delimits space_fair (number_valued whole fraction h)) (omega arith)

-- ---- CHAN
unfoldable pub pair_words : List Lit → List (List ℕ)
pair_words [] = []
pair_words (p ∷ ps) = integer_text p.channel ∷ level_text p.level ∷ pair_words ps

abbrev pub AllLit : Desk → List Lit → Type 0
AllLit d [] = Unit {0}
AllLit d (p ∷ ps) = Within 1 p.channel d.channels × (p.level < 256) × AllLit d ps

pairs_tail : (d : Desk) → d.channels ≤ 512 → (ps : List Lit) → AllLit d ps → Tail (pairs_text ps) (pair_words ps) (8 * length ps)
unfolding pairs_text pair_text pair_words
pairs_tail d h [] a = tail_nil
pairs_tail d h (p ∷ ps) a =
    let ih = pairs_tail d h ps a.2 in
    let c : p.channel < 1000 = omega (arith, a.0) in
    let w : List ℕ = integer_text p.channel in
    let v : List ℕ = level_text p.level in
    let r : List ℕ = pairs_text ps in
    let e : 1 + 3 + (1 + 3 + 8 * length ps) ≡ 8 * suc (length ps) = omega arith in
    subst (λ (z : List ℕ). Tail (32 ∷ z) (w ∷ v ∷ pair_words ps) (8 * suc (length ps))) (sym (append_assoc w (64 ∷ v) r))
    (subst (λ (n : ℕ). Tail (32 ∷ (w ++ (64 ∷ (v ++ r)))) (w ∷ v ∷ pair_words ps) n) e
    (tail_next space_delimits space_fair (integer_valued p.channel c) (tail_next at_delimits at_fair (level_valued p.level) ih)))

pub chan_line : (d : Desk) → d.channels ≤ 512 → (ps : List Lit) → AllLit d ps → length ps ≤ 8 → Line (bytes "CHAN" ++ pairs_text ps) (bytes "CHAN" ∷ pair_words ps)
chan_line d h ps a l = line_of chan_valued (pairs_tail d h ps a) (omega arith)
