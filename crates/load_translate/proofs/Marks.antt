-- The marks of the first walk tell which CUE records were accepted, so that the second walk hears from them what the definition says that the
-- accepted CUEs bore. There are marks for all: a CUE record takes four bytes of the stream, with its terminator. By induction on the records and on
-- what was noted of them.
-- Assumes nothing.
use Rattle.std.proofs.Common.{Option, None, Some}
use mathlib.Core.Path.{◌≡◌, refl, sym, ap, ◌∙◌, subst}
use mathlib.Core.Bool.{Bool, true, false, cond, ◌&&◌, false≢true}
use mathlib.Core.List.{List, [], ◌∷◌, map}
use Prim.Native.Nat.{ℕ, zero, suc, ◌+◌, ◌-◌, ◌*◌, ◌/◌, ◌%◌, ◌≤◌, ◌<◌, zero-le}
use native.Mathlib.Nat.{le_refl, not-suc-le-zero}
use native.Mathlib.Omega.{arith}
use lib.Dec.{eqb, leb}
use lib.ListN.{length, get_or, set, take, drop, replicate, length-take, length-drop, length-map, length-set, length-replicate}
use lib.ListN.{get_or-eq_default}
use lib.Seq.{get_or-drop, get_or-set_same, get_or-set_other}
use borrow.Author.Tests.{leb-true, not-false}
use Rattle.cells.specs.Scan.{span}
use Rattle.cells.proofs.Scan.{span_at_from}
use Rattle.cells.proofs.Split.{by_test, by_bool, by_eq, by_lt, cond-true, cond-false, and_left, and_right}
use Rattle.store_desk.specs.declared.Desk.{Desk}
use Rattle.store_desk.specs.declared.Kind.TheVariants.{Cue, Group, Sub}
use Rattle.text_records.specs.Stream.{is_end, is_text, terminated, record_end, next_start, records_of}
use Rattle.text_records.specs.Cleaning.{is_high, is_control, has, kept_of}
use Rattle.text_records.proofs.Stream.{terminated_some, start_within, records_end, records_at, start_forward}
use Rattle.text_records.proofs.Counts.{tell, seen_few}
use Rattle.text_fields.specs.declared.Keyword.{Keyword}
use Rattle.text_fields.specs.declared.Keyword.TheVariants.{Unknown}
use Rattle.text_fields.specs.Words.{Word, is_delimiter, is_word, words_in, words_of, fields_of, head_of, tail_of}
use Rattle.text_fields.specs.Keywords.{Row, upper, same_text, same_word_of, meaning_of, keyword_rows, keyword_of, dollar}
use Rattle.value.specs.Number.{borne_of}
use Rattle.load.specs.declared.Family.{Family}
use Rattle.load.specs.declared.Family.TheVariants.{Primary, Augments, Basic}
use Rattle.load.specs.declared.Heard.{Heard}
use Rattle.load.specs.declared.Heard.TheVariants.{Other, Accepted, Refused, Link as Asked}
use Rattle.load.specs.declared.Numbers.{Numbers}
use Rattle.load.specs.declared.Outcome.{Outcome}
use Rattle.load.specs.declared.State.{State}
use Rattle.load.specs.Ask.{family_of, is_over_long}
use Rattle.load.specs.Anew.{is_obeyed, is_link, family_heard, fields_heard, heard_in, one_more, numbered}
use Rattle.load.specs.Step.{Step, nothing_open}
use Rattle.load.specs.Fits.{most_records}
use Rattle.load.specs.Run.{stops}
use Rattle.load.specs.Translated.{Note, anew_from_one, step_in, numbers_after_of, notes_in, is_accepted_cue, borne_in, bornes}
use Rattle.load_hear.specs.Marks.{bit_of, with_bit, marked, is_marked, marked_at, tried_at, marks_by}
use Rattle.load_hear.proofs.Bits.{no_bit, bit_same, bit_other}
use Rattle.load_translate.specs.Bearing.{family_bearing, fields_bearing, bearing_in, on_bearing, marked_bornes}

-- ---- a part of a list
take_short : (n : ℕ) (s : List ℕ) → length (take n s) ≤ length s
take_short n s = omega (arith, length-take n s)

take_few : (n : ℕ) (s : List ℕ) → length (take n s) ≤ n
take_few n s = omega (arith, length-take n s)

-- ---- a mark that is set, and the others
mark_same : (ms : List ℕ) (n : ℕ) → n / 8 < length ms → is_marked (marked ms n) n ≡ true
unfolding is_marked marked
mark_same ms n h =
    ap (λ (c : ℕ). eqb (bit_of (n % 8) c) 1) (get_or-set_same ms (n / 8) (with_bit (n % 8) (get_or ms (n / 8) 0)) 0 h)
    ∙ ap (λ (b : ℕ). eqb b 1) (bit_same (n % 8) (get_or ms (n / 8) 0))

-- in another byte, or in the same one
mark_other : (ms : List ℕ) (n k : ℕ) → (k ≡ n → ⊥) → is_marked (marked ms n) k ≡ is_marked ms k
unfolding is_marked marked
mark_other ms n k h =
    by_eq (k / 8) (n / 8)
    (λ e.
    by_lt (n / 8) (length ms)
    (λ l.
    let c = get_or ms (n / 8) 0 in
    let d : k % 8 ≡ n % 8 → ⊥ = λ f. h (omega arith) in
    ap (λ (i : ℕ). eqb (bit_of (k % 8) (get_or (set ms (n / 8) (with_bit (n % 8) c)) i 0)) 1) e
    ∙ ap (λ (v : ℕ). eqb (bit_of (k % 8) v) 1) (get_or-set_same ms (n / 8) (with_bit (n % 8) c) 0 l)
    ∙ ap (λ (b : ℕ). eqb b 1) (bit_other (k % 8) (n % 8) c d)
    ∙ ap (λ (i : ℕ). eqb (bit_of (k % 8) (get_or ms i 0)) 1) (sym e))
    (λ l.
    let f : length (set ms (n / 8) (with_bit (n % 8) (get_or ms (n / 8) 0))) ≤ k / 8 =
    omega (arith, length-set ms (n / 8) (with_bit (n % 8) (get_or ms (n / 8) 0)), e) in
    let g : length ms ≤ k / 8 = omega arith in
    ap (λ (c : ℕ). eqb (bit_of (k % 8) c) 1)
    (get_or-eq_default (set ms (n / 8) (with_bit (n % 8) (get_or ms (n / 8) 0))) 0 f ∙ sym (get_or-eq_default ms 0 g))))
    (λ e. ap (λ (c : ℕ). eqb (bit_of (k % 8) c) 1) (get_or-set_other ms (n / 8) (k / 8) (with_bit (n % 8) (get_or ms (n / 8) 0)) 0 e))

-- of zeros none is set
zero_at : (n i : ℕ) → ◌≡◌ {A = ℕ} (get_or (replicate n 0) i 0) 0
zero_at zero i = refl
zero_at (suc n) zero = refl
zero_at (suc n) (suc i) = zero_at n i

none_marked : (n k : ℕ) → is_marked (replicate n 0) k ≡ false
unfolding is_marked
none_marked n k =
    ap (λ (c : ℕ). eqb (bit_of (k % 8) c) 1) (zero_at n (k / 8)) ∙ ap (λ (b : ℕ). eqb b 1) (no_bit (k % 8))

-- ---- a record bears what is heard of it
bearing_by : Heard → ℕ → Option ℕ
bearing_by Other m = None
bearing_by (Accepted Cue) m = Some m
bearing_by (Accepted Group) m = None
bearing_by (Accepted Sub) m = None
bearing_by (Refused Cue) m = Some m
bearing_by (Refused Group) m = None
bearing_by (Refused Sub) m = None
bearing_by (Asked n) m = None

family_bears : (f : Family) (ws : List Word) (o : Outcome) → family_bearing f ws ≡ bearing_by (family_heard f ws o) (borne_of (head_of ws).chars)
unfolding family_bearing family_heard bearing_by
family_bears (Primary Cue) ws o =
    by_test (λ (h : Heard). Some (borne_of (head_of ws).chars) ≡ bearing_by h (borne_of (head_of ws).chars)) (is_obeyed o) _ _ (λ e. refl) (λ e. refl)
family_bears (Primary Group) ws o =
    by_test (λ (h : Heard). None ≡ bearing_by h (borne_of (head_of ws).chars)) (is_obeyed o) _ _ (λ e. refl) (λ e. refl)
family_bears (Primary Sub) ws o =
    by_test (λ (h : Heard). None ≡ bearing_by h (borne_of (head_of ws).chars)) (is_obeyed o) _ _ (λ e. refl) (λ e. refl)
family_bears (Augments e) ws o =
    by_test (λ (h : Heard). None ≡ bearing_by h (borne_of (head_of ws).chars)) (is_obeyed o && is_link e) _ _ (λ e. refl) (λ e. refl)
family_bears (Basic b) ws o = refl

fields_bear : (ws : List Word) (o : Outcome) → fields_bearing ws ≡ bearing_by (fields_heard ws o) (borne_of (head_of (tail_of ws)).chars)
unfolding fields_bearing fields_heard bearing_by
fields_bear [] o = refl
fields_bear (w ∷ ws) o = family_bears (family_of (keyword_of w.chars)) ws o

heard_bears : (b : Numbers) (r : List ℕ) (o : Outcome) → b.anew ≡ true → bearing_in r ≡ bearing_by (heard_in b r o) (borne_in r)
unfolding bearing_in heard_in bearing_by
heard_bears b r o a =
    by_bool (is_over_long r)
    (λ e.
    cond-true (is_over_long r) None (fields_bearing (fields_of r)) e
    ∙ ap (λ (h : Heard). bearing_by h (borne_in r)) (sym (cond-true (is_over_long r) Other (fields_heard (fields_of r) o) e)))
    (λ e.
    cond-false (is_over_long r) None (fields_bearing (fields_of r)) e
    ∙ fields_bear (fields_of r) o
    ∙ ap (λ (h : Heard). bearing_by h (borne_in r)) (sym (cond-false (is_over_long r) Other (fields_heard (fields_of r) o) e)))
    ∙ ap (λ (h : Heard). bearing_by h (borne_in r))
    (sym (cond-true b.anew (cond (is_over_long r) Other (fields_heard (fields_of r) o)) Other a))

-- each record that was noted
unfoldable Alike : List (List ℕ) → List Note → Type 0
Alike rs [] = Unit {0}
Alike [] (n ∷ ns) = ⊥
Alike (r ∷ rs) (n ∷ ns) = (bearing_in r ≡ bearing_by n.heard (borne_in r)) × Alike rs ns

still_anew : (b : Numbers) (h : Heard) → b.anew ≡ true → (numbered b h).anew ≡ true
unfolding numbered one_more
still_anew b Other a = a
still_anew b (Accepted Cue) a = a
still_anew b (Accepted Group) a = a
still_anew b (Accepted Sub) a = a
still_anew b (Refused k) a = a
still_anew b (Asked m) a = a

notes_alike : (d : Desk) (b : Numbers) (s : State) (t : List ℕ) (rs : List (List ℕ)) → b.anew ≡ true → Alike rs (notes_in d b s t rs)
unfolding notes_in Alike
notes_alike d b s t [] a = tt
notes_alike d b s t (r ∷ rs) a =
    let x : Step = step_in d b s r t in (
      heard_bears b r x.outcome a,
      by_test (λ (ns : List Note). Alike rs ns) (stops x.outcome) _ _ (λ e. tt)
          (λ e. notes_alike d (numbers_after_of b r x) x.state x.store rs (still_anew b (heard_in b r x.outcome) a)),
    )

-- ---- the marks of what was noted
unfoldable tried_by : ℕ → List Note → ℕ
tried_by tried [] = tried
tried_by tried (n ∷ ns) = tried_by (tried_at tried n.heard) ns

tried_more : (tried : ℕ) (h : Heard) → tried ≤ tried_at tried h
unfolding tried_at
tried_more tried Other = le_refl tried
tried_more tried (Accepted Cue) = omega arith
tried_more tried (Accepted Group) = le_refl tried
tried_more tried (Accepted Sub) = le_refl tried
tried_more tried (Refused Cue) = omega arith
tried_more tried (Refused Group) = le_refl tried
tried_more tried (Refused Sub) = le_refl tried
tried_more tried (Asked m) = le_refl tried

tried_on : (ns : List Note) (tried : ℕ) → tried ≤ tried_by tried ns
unfolding tried_by
tried_on [] tried = le_refl tried
tried_on (n ∷ ns) tried =
    let a : tried ≤ tried_at tried n.heard = tried_more tried n.heard in
    let b : tried_at tried n.heard ≤ tried_by (tried_at tried n.heard) ns = tried_on ns (tried_at tried n.heard) in
    omega arith

module _ (ms : List ℕ) (tried : ℕ) where
  marked_length : (h : Heard) → length (marked_at ms tried h) ≡ length ms
  unfolding marked_at marked
  marked_length Other = refl
  marked_length (Accepted Cue) = length-set ms (tried / 8) (with_bit (tried % 8) (get_or ms (tried / 8) 0))
  marked_length (Accepted Group) = refl
  marked_length (Accepted Sub) = refl
  marked_length (Refused k) = refl
  marked_length (Asked m) = refl

  -- an earlier mark stays
  mark_kept : (h : Heard) (k : ℕ) → k < tried → is_marked (marked_at ms tried h) k ≡ is_marked ms k
  unfolding marked_at
  mark_kept Other k l = refl
  mark_kept (Accepted Cue) k l = mark_other ms tried k (λ e. omega arith)
  mark_kept (Accepted Group) k l = refl
  mark_kept (Accepted Sub) k l = refl
  mark_kept (Refused x) k l = refl
  mark_kept (Asked m) k l = refl

marks_kept : (ns : List Note) (ms : List ℕ) (tried k : ℕ) → k < tried → is_marked (marks_by ms tried ns) k ≡ is_marked ms k
unfolding marks_by
marks_kept [] ms tried k l = refl
marks_kept (n ∷ ns) ms tried k l =
    let a : tried ≤ tried_at tried n.heard = tried_more tried n.heard in
    marks_kept ns (marked_at ms tried n.heard) (tried_at tried n.heard) k (omega arith)
    ∙ mark_kept ms tried n.heard k l

-- no later one is set yet
abbrev Clear : List ℕ → ℕ → Type 0
Clear ms tried = (k : ℕ) → tried ≤ k → is_marked ms k ≡ false

still_clear : (ms : List ℕ) (tried : ℕ) → Clear ms tried → (h : Heard) → Clear (marked_at ms tried h) (tried_at tried h)
unfolding marked_at tried_at
still_clear ms tried c Other k l = c k l
still_clear ms tried c (Accepted Cue) k l = mark_other ms tried k (λ e. omega arith) ∙ c k (omega arith)
still_clear ms tried c (Accepted Group) k l = c k l
still_clear ms tried c (Accepted Sub) k l = c k l
still_clear ms tried c (Refused Cue) k l = c k (omega arith)
still_clear ms tried c (Refused Group) k l = c k l
still_clear ms tried c (Refused Sub) k l = c k l
still_clear ms tried c (Asked m) k l = c k l

-- ---- one record of the second walk
module _ (ms : List ℕ) (tried : ℕ) (ns : List Note) (rest : List (List ℕ)) (bs : List ℕ) (m : ℕ) (clear : is_marked ms tried ≡ false) where
  abbrev walked : List ℕ → Heard → List ℕ
  walked fs h =
      on_bearing (bearing_by h m) (marked_bornes fs tried rest)
      (λ b. cond (is_marked fs tried) (b ∷ marked_bornes fs (tried + 1) rest) (marked_bornes fs (tried + 1) rest))

  turn_bears : (h : Heard) → tried_by (tried_at tried h) ns ≤ length ms * 8
      → marked_bornes (marks_by (marked_at ms tried h) (tried_at tried h) ns) (tried_at tried h) rest ≡ bs
      → walked (marks_by (marked_at ms tried h) (tried_at tried h) ns) h ≡ cond (is_accepted_cue h) (m ∷ bs) bs
  unfolding on_bearing bearing_by tried_at marked_at is_accepted_cue
  turn_bears Other l e = e
  turn_bears (Accepted Cue) l e =
      let fs = marks_by (marked ms tried) (tried + 1) ns in
      let g : tried + 1 ≤ tried_by (tried + 1) ns = tried_on ns (tried + 1) in
      let f : is_marked fs tried ≡ true =
      marks_kept ns (marked ms tried) (tried + 1) tried (omega arith) ∙ mark_same ms tried (omega arith) in
      cond-true (is_marked fs tried) (m ∷ marked_bornes fs (tried + 1) rest) (marked_bornes fs (tried + 1) rest) f
      ∙ ap (λ (x : List ℕ). m ∷ x) e
  turn_bears (Accepted Group) l e = e
  turn_bears (Accepted Sub) l e = e
  turn_bears (Refused Cue) l e =
      let fs = marks_by ms (tried + 1) ns in
      let f : is_marked fs tried ≡ false = marks_kept ns ms (tried + 1) tried (omega arith) ∙ clear in
      cond-false (is_marked fs tried) (m ∷ marked_bornes fs (tried + 1) rest) (marked_bornes fs (tried + 1) rest) f ∙ e
  turn_bears (Refused Group) l e = e
  turn_bears (Refused Sub) l e = e
  turn_bears (Asked n) l e = e

-- ---- the second walk, where there is a mark for each CUE record
walk_bears : (rs : List (List ℕ)) (ns : List Note) (ms : List ℕ) (tried : ℕ) → Alike rs ns → Clear ms tried → tried_by tried ns ≤ length ms * 8
    → marked_bornes (marks_by ms tried ns) tried (take (length ns) rs) ≡ bornes rs ns
unfolding Alike tried_by marks_by marked_bornes bornes
walk_bears [] [] ms tried a c l = refl
walk_bears (r ∷ rs) [] ms tried a c l = refl
walk_bears [] (n ∷ ns) ms tried a c l = absurd a
walk_bears (r ∷ rs) (n ∷ ns) ms tried a c l =
    let h : Heard = n.heard in
    let fs : List ℕ = marks_by (marked_at ms tried h) (tried_at tried h) ns in
    let rest : List (List ℕ) = take (length ns) rs in
    let q : tried_by (tried_at tried h) ns ≤ length (marked_at ms tried h) * 8 =
    subst (λ (k : ℕ). tried_by (tried_at tried h) ns ≤ k * 8) (sym (marked_length ms tried h)) l in
    ap (λ (b : Option ℕ). on_bearing b (marked_bornes fs tried rest)
    (λ x. cond (is_marked fs tried) (x ∷ marked_bornes fs (tried + 1) rest) (marked_bornes fs (tried + 1) rest))) a.0
    ∙ turn_bears ms tried ns rest (bornes rs ns) (borne_in r) (c tried (le_refl tried)) h l
    (walk_bears rs ns (marked_at ms tried h) (tried_at tried h) a.1 (still_clear ms tried c h) q)

-- ---- there are marks for all of them

-- what a CUE record takes
unfoldable weigh : Option ℕ → ℕ
weigh b = on_bearing b 0 (λ m. 4)

unfoldable weights : List (List ℕ) → ℕ
weights [] = 0
weights (r ∷ rs) = weigh (bearing_in r) + weights rs

tried_weighs : (tried : ℕ) (h : Heard) (m : ℕ) → 4 * tried_at tried h ≡ 4 * tried + weigh (bearing_by h m)
unfolding tried_at bearing_by weigh on_bearing
tried_weighs tried Other m = omega arith
tried_weighs tried (Accepted Cue) m = omega arith
tried_weighs tried (Accepted Group) m = omega arith
tried_weighs tried (Accepted Sub) m = omega arith
tried_weighs tried (Refused Cue) m = omega arith
tried_weighs tried (Refused Group) m = omega arith
tried_weighs tried (Refused Sub) m = omega arith
tried_weighs tried (Asked n) m = omega arith

tried_few : (rs : List (List ℕ)) (ns : List Note) (tried : ℕ) → Alike rs ns → 4 * tried_by tried ns ≤ 4 * tried + weights rs
unfolding Alike tried_by weights
tried_few rs [] tried a = omega arith
tried_few [] (n ∷ ns) tried a = absurd a
tried_few (r ∷ rs) (n ∷ ns) tried a =
    let h : Heard = n.heard in
    let e : 4 * tried_at tried h ≡ 4 * tried + weigh (bearing_in r) =
    tried_weighs tried h (borne_in r) ∙ ap (λ (b : Option ℕ). 4 * tried + weigh b) (sym a.0) in
    let f : 4 * tried_by (tried_at tried h) ns ≤ 4 * tried_at tried h + weights rs = tried_few rs ns (tried_at tried h) a.1 in
    omega arith

-- a word that compares with a name is as long, at least
same_length : (a b : List ℕ) → same_text a b ≡ true → length a ≡ length b
unfolding same_text
same_length [] [] e = refl
same_length [] (d ∷ ds) e = absurd (false≢true e)
same_length (c ∷ cs) [] e = absurd (false≢true e)
same_length (c ∷ cs) (d ∷ ds) e = ap suc (same_length cs ds (and_right (eqb c d) (same_text cs ds) e))

word_long : (w name : List ℕ) → same_word_of w name ≡ true → length (take 10 name) ≤ length w
unfolding same_word_of
word_long w name e =
    let a : length (map upper (take 10 w)) ≡ length (take 10 name) = same_length (map upper (take 10 w)) (take 10 name) e in
    let b : length (map upper (take 10 w)) ≡ length (take 10 w) = length-map (take 10 w) upper in
    let c : length (take 10 w) ≤ length w = take_short 10 w in
    omega arith

module _ (ws : List Word) where
  unfoldable heavy : Keyword → ℕ
  heavy k = weigh (family_bearing (family_of k) ws)

  unfoldable rows_long_of : List (Row Keyword) → Bool
  rows_long_of [] = true
  rows_long_of (x ∷ xs) = leb (heavy x.means) (length (take 10 x.name) + 1) && rows_long_of xs

  meaning_long : (xs : List (Row Keyword)) (other : Keyword) (w : List ℕ) → rows_long_of xs ≡ true → heavy other ≤ length w + 1
      → heavy (meaning_of xs other w) ≤ length w + 1
  unfolding rows_long_of meaning_of
  meaning_long [] other w e h = h
  meaning_long (x ∷ xs) other w e h =
      by_test (λ (k : Keyword). heavy k ≤ length w + 1) (same_word_of w x.name) _ _
      (λ s.
      let a : heavy x.means ≤ length (take 10 x.name) + 1 =
      leb-true (heavy x.means) (length (take 10 x.name) + 1)
      (and_left (leb (heavy x.means) (length (take 10 x.name) + 1)) (rows_long_of xs) e) in
      let b : length (take 10 x.name) ≤ length w = word_long w x.name s in
      omega arith)
      (λ s. meaning_long xs other w (and_right (leb (heavy x.means) (length (take 10 x.name) + 1)) (rows_long_of xs) e) h)

  rows_long : rows_long_of keyword_rows ≡ true
  unfolding rows_long_of heavy weigh on_bearing family_bearing family_of keyword_rows
  rows_long = refl

  keyword_long : (w : List ℕ) → heavy (keyword_of w) ≤ length w + 1
  unfolding keyword_of heavy weigh on_bearing family_bearing family_of
  keyword_long w =
      by_test (λ (k : Keyword). heavy k ≤ length w + 1) (eqb (get_or w 0 0) dollar) _ _
      (λ e. by_test (λ (k : Keyword). heavy k ≤ length w + 1) (eqb (get_or w 1 0) dollar) _ _ (λ f. zero-le) (λ f. zero-le))
      (λ e. meaning_long keyword_rows Unknown w rows_long zero-le)

-- a record is as long as its first field, at least
head_short : (n before : ℕ) (text : List ℕ) → length (head_of (words_in n before text)).chars ≤ length text
unfolding words_in
head_short zero before text = zero-le
head_short (suc n) before text =
    let i : ℕ = span is_delimiter text in
    let u : List ℕ = drop i text in
    let k : ℕ = span is_word u in
    by_test (λ (ws : List Word). length (head_of ws).chars ≤ length text) (eqb k 0) _ _ (λ e. zero-le)
    (λ e.
    let a : length (take k u) ≤ length u = take_short k u in
    let b : length u ≡ length text - i = length-drop i text in
    omega arith)

fields_long : (ws : List Word) (n : ℕ) → length (head_of ws).chars ≤ n → weigh (fields_bearing ws) ≤ n + 1
unfolding fields_bearing weigh on_bearing heavy
fields_long [] n h = zero-le
fields_long (w ∷ ws) n h = let a : heavy ws (keyword_of w.chars) ≤ length w.chars + 1 = keyword_long ws w.chars in omega arith

record_long : (r : List ℕ) → weigh (bearing_in r) ≤ length r + 1
unfolding bearing_in fields_of words_of weigh on_bearing
record_long r =
    by_test (λ (b : Option ℕ). weigh b ≤ length r + 1) (is_over_long r) _ _ (λ e. zero-le)
    (λ e.
    let a : length (head_of (words_in (length (kept_of r)) 0 (kept_of r))).chars ≤ length (kept_of r) = head_short (length (kept_of r)) 0 (kept_of r) in
    let b : tell (has is_high r) + tell (has is_control r) + length (kept_of r) ≤ length r = seen_few r in
    fields_long (words_in (length (kept_of r)) 0 (kept_of r)) (length r) (omega arith))

-- the records of a stream, each but the last with a terminator
unfoldable sizes : List (List ℕ) → ℕ
sizes [] = 0
sizes (r ∷ rs) = length r + 1 + sizes rs

weights_few : (rs : List (List ℕ)) → weights rs ≤ sizes rs
unfolding weights sizes
weights_few [] = zero-le
weights_few (r ∷ rs) =
    let a : weigh (bearing_in r) ≤ length r + 1 = record_long r in let b : weights rs ≤ sizes rs = weights_few rs in omega arith

module _ (s : List ℕ) {end next : ℕ} (h : 0 < length s) (e : end ≡ record_end s 0) (f : next ≡ next_start s end) where
  terminator_some : end < length s → end < next
  terminator_some l =
      let a : is_text (get_or s (record_end s 0) 0) ≡ false = span_at_from is_text s 0 (subst (λ (k : ℕ). k < length s) e l) in
      let z : end + 0 ≡ end = omega arith in
      let b : get_or (drop end s) 0 0 ≡ get_or s (record_end s 0) 0 = get_or-drop end s 0 0 ∙ ap (λ (k : ℕ). get_or s k 0) (z ∙ e) in
      let c : is_end (get_or (drop end s) 0 0) ≡ true = ap is_end b ∙ not-false (is_end (get_or s (record_end s 0) 0)) a in
      let g : 0 < terminated (get_or (drop end s) 0 0) (get_or (drop end s) 1 0) =
      terminated_some (get_or (drop end s) 0 0) (get_or (drop end s) 1 0) c in
      omega arith

  sizes_at : sizes (records_of (drop next s)) ≤ length (drop next s) + 1 → sizes (records_of s) ≤ length s + 1
  unfolding sizes
  sizes_at g =
      let r : List ℕ = take (end - 0) s in
      let rest : List (List ℕ) = records_of (drop next s) in
      let a : records_of s ≡ r ∷ rest = records_at s h e f in
      let b : length r ≤ end - 0 = take_few (end - 0) s in
      let c : length r ≤ length s = take_short (end - 0) s in
      let d : length (drop next s) ≡ length s - next = length-drop next s in
      let k : end ≤ next = omega arith in
      subst (λ (x : List (List ℕ)). sizes x ≤ length s + 1) (sym a)
      (by_lt end (length s)
      (λ l. let q : end < next = terminator_some l in
      let p : next ≤ length s = omega (arith, start_within s end (omega arith), f) in
      omega arith)
      (λ l. let q : sizes rest ≡ 0 = ap sizes (records_end s next (omega arith)) in omega arith))

sizes_none : sizes (records_of []) ≤ 1
unfolding sizes
sizes_none = subst (λ (x : List (List ℕ)). sizes x ≤ 1) (sym (records_end [] 0 zero-le)) zero-le

sizes_few : (n : ℕ) (s : List ℕ) → length s ≤ n → sizes (records_of s) ≤ length s + 1
sizes_few zero [] h = sizes_none
sizes_few zero (c ∷ s) h = absurd (not-suc-le-zero h)
sizes_few (suc n) [] h = sizes_none
sizes_few (suc n) (c ∷ s) h =
    let x : List ℕ = c ∷ s in
    let l : 0 < length x = omega arith in
    let next : ℕ = next_start x (record_end x 0) in
    let a : 0 < next = start_forward x l refl refl in
    let b : length (drop next x) ≡ length x - next = length-drop next x in
    sizes_at x l refl refl (sizes_few n (drop next x) (omega arith))

-- ---- both together
module _ (rs : List (List ℕ)) (ns : List Note) (a : Alike rs ns) where
  marks_enough : (n : ℕ) → tried_by 0 ns ≤ n * 8 → marked_bornes (marks_by (replicate n 0) 0 ns) 0 (take (length ns) rs) ≡ bornes rs ns
  marks_enough n h =
      walk_bears rs ns (replicate n 0) 0 a (λ k l. none_marked n k)
      (subst (λ (k : ℕ). tried_by 0 ns ≤ k * 8) (sym (length-replicate n 0)) h)

pub marks_bornes : (d : Desk) (t stream : List ℕ) → length stream ≤ most_records
    → let rs = records_of stream in
    let ns = notes_in d anew_from_one nothing_open t rs in
    marked_bornes (marks_by (replicate 8192 0) 0 ns) 0 (take (length ns) rs) ≡ bornes rs ns
marks_bornes d t stream h =
    let rs : List (List ℕ) = records_of stream in
    let ns : List Note = notes_in d anew_from_one nothing_open t rs in
    let a : Alike rs ns = notes_alike d anew_from_one nothing_open t rs refl in
    let b : 4 * tried_by 0 ns ≤ 4 * 0 + weights rs = tried_few rs ns 0 a in
    let c : weights rs ≤ sizes rs = weights_few rs in
    let e : sizes rs ≤ length stream + 1 = sizes_few (length stream) stream (le_refl (length stream)) in
    marks_enough rs ns a 8192 (omega arith)
