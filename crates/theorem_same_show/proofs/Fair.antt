-- Characters that a written line has, and the records of lines that are joined: each line is a record again. By induction on the lines.
-- Assumes nothing.
use mathlib.Core.Path.{◌≡◌, refl, sym, ap, ◌∙◌}
use mathlib.Core.Bool.{Bool, true, false, cond, not, ◌&&◌, ◌||◌}
use mathlib.Core.List.{List, [], ◌∷◌, ◌++◌}
use Prim.Native.Nat.{ℕ, suc, ◌+◌, ◌-◌, ◌≤◌, ◌<◌}
use native.Mathlib.Omega.{arith}
use lib.Dec.{eqb, ltb, leb}
use lib.ListN.{length, get_or, take, drop, length-append}
use lib.Seq.{take-append_seam, drop-append-add, drop-append_seam}
use borrow.Author.Tests.{leb-true, le-leb, le-ltb, lt-leb, ne_eqb, eqb-false}
use Rattle.cells.specs.Scan.{span}
use Rattle.cells.proofs.Split.{by_bool, cond-true, cond-false, and_true, and_left, and_right, or_false, clash, not_of_false}
use Rattle.cells.proofs.Scan.{span_hit, span_miss, span_upto, span_all, all_below}
use Rattle.text_records.specs.Stream.{is_end, is_text, terminated, record_end, next_start, records_of}
use Rattle.text_records.specs.Cleaning.{is_high, is_control, is_mark, kept_of, has}
use Rattle.text_records.proofs.Stream.{records_at, records_end}
use Rattle.value_written.specs.Text.{is_plain}
use Rattle.value_written.proofs.Texts.{by_plain, plain_in}
use Rattle.save_lines.specs.Line.{crlf, joined}
use Rattle.load.specs.Step.{ignored_in}

-- ---- a character that is kept as it is: a space to `~`, but no `!`
unfoldable pub is_fair : ℕ → Bool
is_fair c = cond (eqb c 33) false (leb 32 c && leb c 126)

pub by_fair {ℓ} : {X : Type ℓ} (c : ℕ) → is_fair c ≡ true → (32 ≤ c → c ≤ 126 → (c ≡ 33 → ⊥) → X) → X
unfolding is_fair
by_fair c e f =
    by_bool (eqb c 33)
    (λ t. clash e (cond-true (eqb c 33) false (leb 32 c && leb c 126) t))
    (λ t.
    let g : (leb 32 c && leb c 126) ≡ true = sym (cond-false (eqb c 33) false (leb 32 c && leb c 126) t) ∙ e in
    f (leb-true 32 c (and_left (leb 32 c) (leb c 126) g)) (leb-true c 126 (and_right (leb 32 c) (leb c 126) g)) (eqb-false c 33 t))

pub fair_is : (c : ℕ) → 32 ≤ c → c ≤ 126 → (c ≡ 33 → ⊥) → is_fair c ≡ true
unfolding is_fair
fair_is c g h ne =
    cond-false (eqb c 33) false (leb 32 c && leb c 126) (ne_eqb c 33 ne)
    ∙ and_true (leb 32 c) (leb c 126) (le-leb 32 c g) (le-leb c 126 h)

-- a line all of whose characters are
abbrev pub Fair : List ℕ → Type 0
Fair l = span is_fair l ≡ length l

plain_fair : (c : ℕ) → is_plain c ≡ true → is_fair c ≡ true
plain_fair c e =
    by_plain c e
    (λ (q : c ≡ 46). fair_is c (omega arith) (omega arith) (λ (z : c ≡ 33). omega arith))
    (λ (g : 48 ≤ c) (h : c ≤ 58). fair_is c (omega arith) (omega arith) (λ (z : c ≡ 33). omega arith))
    (λ (g : 65 ≤ c) (h : c ≤ 72). fair_is c (omega arith) (omega arith) (λ (z : c ≡ 33). omega arith))

pub fair_plain : (s : List ℕ) → span is_plain s ≡ length s → Fair s
fair_plain s e = plain_in is_fair plain_fair s e

-- ---- such a character is no terminator, no `!`, not ignored
fair_text : (c : ℕ) → is_fair c ≡ true → is_text c ≡ true
unfolding is_end
fair_text c e =
    by_fair c e
    (λ (g : 32 ≤ c) (h : c ≤ 126) n.
    not_of_false (eqb c 13 || eqb c 10)
    (or_false (eqb c 13) (eqb c 10) (ne_eqb c 13 (λ (z : c ≡ 13). omega arith)) (ne_eqb c 10 (λ (z : c ≡ 10). omega arith))))

fair_mark : (c : ℕ) → is_fair c ≡ true → is_mark c ≡ false
unfolding is_mark
fair_mark c e = by_fair c e (λ g h n. ne_eqb c 33 n)

fair_high : (c : ℕ) → is_fair c ≡ true → is_high c ≡ false
unfolding is_high
fair_high c e = by_fair c e (λ (g : 32 ≤ c) (h : c ≤ 126) n. lt-leb 128 c (omega arith))

fair_control : (c : ℕ) → is_fair c ≡ true → is_control c ≡ false
unfolding is_control
fair_control c e =
    by_fair c e
    (λ (g : 32 ≤ c) (h : c ≤ 126) n.
    cond-false (ltb c 32) (not (eqb c 9)) (eqb c 127) (le-ltb c 32 g) ∙ ne_eqb c 127 (λ (z : c ≡ 127). omega arith))

-- of a fair line: its first character and the others
fair_head : (c : ℕ) (s : List ℕ) → Fair (c ∷ s) → is_fair c ≡ true
fair_head c s e =
    by_bool (is_fair c) (λ t. t) (λ t. absurd (let z : span is_fair (c ∷ s) ≡ 0 = span_miss is_fair c s t in omega arith))

fair_tail : (c : ℕ) (s : List ℕ) → Fair (c ∷ s) → Fair s
fair_tail c s e = let z : span is_fair (c ∷ s) ≡ suc (span is_fair s) = span_hit is_fair c s (fair_head c s e) in omega arith

fair_all : (q : ℕ → Bool) → ((c : ℕ) → is_fair c ≡ true → q c ≡ true) → (s : List ℕ) → Fair s → span q s ≡ length s
fair_all q f s e = span_all q s (λ k h. f (get_or s k 0) (all_below is_fair s e k h))

-- ---- nothing of it is ignored
none_of : (p : ℕ → Bool) → ((c : ℕ) → is_fair c ≡ true → p c ≡ false) → (s : List ℕ) → Fair s → has p s ≡ false
unfolding has
none_of p f [] e = refl
none_of p f (c ∷ s) e = or_false (p c) (has p s) (f c (fair_head c s e)) (none_of p f s (fair_tail c s e))

pub fair_quiet : (l : List ℕ) → Fair l → ignored_in l ≡ []
unfolding ignored_in
fair_quiet l e = rw (none_of is_high fair_high l e, none_of is_control fair_control l e)

pub fair_kept : (l : List ℕ) → Fair l → kept_of l ≡ l
unfolding kept_of
fair_kept [] e = refl
fair_kept (c ∷ s) e =
    let r : List ℕ = kept_of s in
    let g : is_fair c ≡ true = fair_head c s e in
    cond-false (is_mark c) [] (cond (is_high c || is_control c) r (c ∷ r)) (fair_mark c g)
    ∙ cond-false (is_high c || is_control c) r (c ∷ r) (or_false (is_high c) (is_control c) (fair_high c g) (fair_control c g))
    ∙ ap (λ (z : List ℕ). c ∷ z) (fair_kept s (fair_tail c s e))

-- ---- records of joined lines
abbrev pub AllFair : List (List ℕ) → Type 0
AllFair [] = Unit
AllFair (l ∷ ls) = Fair l × AllFair ls

crlf_ends : is_text 13 ≡ false
unfolding is_end
crlf_ends = refl

crlf_two : terminated 13 10 ≡ 2
unfolding terminated
crlf_two = refl

record_first : (l r : List ℕ) → Fair l → records_of (l ++ (crlf ++ r)) ≡ l ∷ records_of r
record_first l r e =
    let s : List ℕ = l ++ (crlf ++ r) in
    let n : ℕ = length l in
    let a : length s ≡ length l + length (crlf ++ r) = length-append l (crlf ++ r) in
    let h : 0 < length s = omega arith in
    let t : span is_text s ≡ length l = span_upto is_text l 13 (10 ∷ r) (fair_all is_text fair_text l e) crlf_ends in
    let p : n ≡ record_end s 0 = (let z : n ≡ 0 + span is_text s = omega arith in z) in
    let dr : drop n s ≡ crlf ++ r = drop-append_seam l (crlf ++ r) in
    let w : n + 2 ≡ next_start s n = sym (ap (λ (x : List ℕ). n + terminated (get_or x 0 0) (get_or x 1 0)) dr ∙ ap (λ (k : ℕ). n + k) crlf_two) in
    records_at s {at = 0} {end = n} {next = n + 2} h p w
    ∙ ap (λ (x : List ℕ). x ∷ records_of (drop (n + 2) s)) (ap (λ (k : ℕ). take k s) (let z : n - 0 ≡ n = omega arith in z) ∙ take-append_seam l (crlf ++ r))
    ∙ ap (λ (x : List ℕ). l ∷ records_of x) (drop-append-add l (crlf ++ r) 2)

pub records_joined : (ls : List (List ℕ)) → AllFair ls → records_of (joined ls) ≡ ls
unfolding joined
records_joined [] a = records_end [] 0 (omega arith)
records_joined (l ∷ ls) a = record_first l (joined ls) a.0 ∙ ap (λ (r : List (List ℕ)). l ∷ r) (records_joined ls a.1)
