-- The word that stands at a place, character by character: its number made in the scan that finds its end, its first characters, the quick
-- test for CHAN, the next field behind it, and a run of some of a word's characters before a delimiter. By the laws of scans, and by induction
-- on the characters.
-- Assumes nothing.
use mathlib.Core.Path.{◌≡◌, refl, sym, ap, ◌∙◌, subst}
use mathlib.Core.Bool.{Bool, true, false, cond, not, ◌&&◌, false≢true}
use mathlib.Core.List.{List, [], ◌∷◌, ◌++◌}
use Prim.Native.Nat.{ℕ, zero, suc, ◌+◌, ◌-◌, ◌*◌, ◌^◌, ◌≤◌, ◌<◌}
use native.Mathlib.Nat.{add-zero, zero-add, suc-add, add-mul, mul_comm, mul_right_comm, mul-le-mul_right, pow-suc, pow-le-pow_right, zero-lt-suc}
use native.Mathlib.Numerals.{add-one}
use native.Mathlib.Omega.{arith}
use lib.Dec.{eqb, ltb, leb}
use lib.ListN.{length, get_or, take, drop, take-append-drop, length-take, get_or-eq_default}
use lib.Seq.{drop-drop, drop-cons, get_or-drop, get_or-take}
use borrow.Author.Tests.{eqb-true, ne_eqb, lt-leb, le-leb, lt-ltb, le-ltb, not-false}
use Rattle.cells.specs.Scan.{span}
use Rattle.cells.specs.Text.{bytes}
use Rattle.cells.proofs.Scan.{span_hit, span_miss, span_nil, span_at_from, span_more, span_stop, span_end, span_append, scan_turn, scan_stop, scan_end}
use Rattle.cells.proofs.Split.{by_bool, by_eq, by_lt, cond-true, cond-false, clash, and_left, and_right, and_false_left, and_false_right, not_of_true, not_of_false}
use Rattle.text_records.specs.Cleaning.{has}
use Rattle.text_fields.specs.declared.Keyword.{Keyword}
use Rattle.text_fields.specs.declared.Keyword.TheVariants.{Local, Comment, Chan}
use Rattle.text_fields.specs.declared.Item.{Item}
use Rattle.text_fields.specs.declared.Item.TheVariants.{Local as localItem}
use Rattle.text_fields.specs.declared.Keyed.{Keyed}
use Rattle.text_fields.specs.declared.Said.{Said}
use Rattle.text_fields.specs.declared.SaidItem.{SaidItem}
use Rattle.text_fields.specs.Words.{is_delimiter, is_word}
use Rattle.text_fields.specs.Places.{end_from, start_at, end_at}
use Rattle.text_fields.specs.Keywords.{upper, same_text, same_word_of, meaning_of, keyword_rows, dollar, keyword_of, item_of}
use Rattle.text_fields.specs.Tables.{letter_of, field_key, chars_at, keyed_at, ends_at, Ended, is_chan, keyword_by, item_by, said_at, said_item_at}
use Rattle.text_fields.proofs.Words.{end_within}
use Rattle.text_fields.proofs.Keys.{letter_high, keyword_key, item_key}

-- ---- whether a field that goes up to a place ends there
module _ (text : List ℕ) (at : ℕ) where
  pub ends_within : {b : Bool} → at < length text → b ≡ is_delimiter (get_or text at 0) → b ≡ ends_at text at
  unfolding ends_at
  ends_within h e = e ∙ sym (cond-true (ltb at (length text)) _ _ (lt-ltb at (length text) h))

  pub ends_past : length text ≤ at → true ≡ ends_at text at
  unfolding ends_at
  ends_past h = sym (cond-false (ltb at (length text)) _ _ (le-ltb at (length text) h))

  -- then no character of a word stands there, and else one does
  pub ends_none : ends_at text at ≡ true → span is_word (drop at text) ≡ 0
  ends_none e =
      by_lt at (length text)
      (λ l. span_stop is_word text at l refl (not_of_true (is_delimiter (get_or text at 0)) (ends_within l refl ∙ e)))
      (λ l. span_end is_word text at l)

  pub ends_some : ends_at text at ≡ false → 0 < span is_word (drop at text)
  ends_some e =
      by_lt at (length text)
      (λ l.
      let m : span is_word (drop at text) ≡ suc (span is_word (drop (at + 1) text)) =
      span_more is_word text at l refl (not_of_false (is_delimiter (get_or text at 0)) (ends_within l refl ∙ e)) in
      omega arith)
      (λ l. clash (sym (ends_past l)) e)

-- a field ends at a delimiter, or with the text
pub end_ended : (text : List ℕ) (at : ℕ) → at ≤ length text → Ended text (end_at text at)
unfolding end_at
end_ended text at h =
    let s : ℕ = start_at text at in
    record {
      within = end_within text at h;
      ends = by_lt (end_from text s) (length text)
          (λ l. sym (ends_within text (end_from text s) l (sym (not-false (is_delimiter (get_or text (end_from text s) 0)) (span_at_from is_word text s l)))))
          (λ l. sym (ends_past text (end_from text s) l));
    }

-- ---- the next field, sought behind the delimiter that ended this one: a place that stands behind another up to which there are only
-- delimiters
pub record Behind (text : List ℕ) (end i : ℕ) : Type 0 where
  pub back : ℕ
  pub next : back + 1 ≡ i
  pub ended : Ended text back
  pub same : start_at text back ≡ start_at text end

pub behind_start : {text : List ℕ} {end : ℕ} → Ended text end → Behind text end (end + 1)
behind_start {text} {end} h = record { back = end; next = refl; ended = h; same = refl }

module _ {text : List ℕ} {end i : ℕ} (k : Behind text end i) where
  behind_next : k.back < length text → i + span is_delimiter (drop i text) ≡ start_at text end
  unfolding start_at
  behind_next h =
      ap (λ (x : ℕ). x + span is_delimiter (drop x text)) (sym k.next)
      ∙ scan_turn is_delimiter text k.back h refl (ends_within text k.back h refl ∙ k.ended.ends) k.same

  module _ (h : i < length text) {b : Bool} (e : b ≡ is_delimiter (get_or text i 0)) where
    back_within : k.back < length text
    back_within = let n : k.back + 1 ≡ i = k.next in omega arith

    pub behind_turn : b ≡ true → Behind text end (i + 1)
    unfolding start_at
    behind_turn t =
        record {
          back = i;
          next = refl;
          ended = record { within = omega arith; ends = sym (ends_within text i h e) ∙ t };
          same = behind_next back_within;
        }

    pub behind_stop : b ≡ false → i ≡ start_at text end
    behind_stop t = scan_stop is_delimiter text i h e t (behind_next back_within)

  pub behind_end : length text ≤ i → length text ≡ start_at text end
  unfolding start_at
  behind_end h =
      let n : k.back + 1 ≡ i = k.next in
      let w : k.back ≤ length text = k.ended.within in
      by_lt k.back (length text)
      (λ l. let a : i ≡ start_at text end = scan_end is_delimiter text i h (behind_next l) in omega arith)
      (λ l. let a : k.back ≡ start_at text end = scan_end is_delimiter text k.back l k.same in omega arith)

-- ---- a run of some of the word's characters, such as its digits
run_split : (p : ℕ → Bool) → ((c : ℕ) → p c ≡ true → is_word c ≡ true) → (s : List ℕ)
    → span is_word s ≡ span p s + span is_word (drop (span p s) s)
run_split p f [] =
    let a : span p [] ≡ 0 = span_nil p in
    let e : span p [] + span is_word (drop (span p []) []) ≡ 0 + span is_word [] = ap (λ (k : ℕ). k + span is_word (drop k [])) a in
    sym (e ∙ zero-add (span is_word []))
run_split p f (c ∷ s) =
    let i : span is_word s ≡ span p s + span is_word (drop (span p s) s) = run_split p f s in
    by_bool (p c)
    (λ e.
    let a : span p (c ∷ s) ≡ suc (span p s) = span_hit p c s e in
    span_hit is_word c s (f c e) ∙ ap suc i ∙ sym (suc-add (span p s) (span is_word (drop (span p s) s)))
    ∙ ap (λ (k : ℕ). k + span is_word (drop k (c ∷ s))) (sym a))
    (λ e.
    sym (zero-add (span is_word (c ∷ s))) ∙ ap (λ (k : ℕ). k + span is_word (drop k (c ∷ s))) (sym (span_miss p c s e)))

module _ (p : ℕ → Bool) (f : (c : ℕ) → p c ≡ true → is_word c ≡ true) (text : List ℕ) (at : ℕ) where
  abbrev run : ℕ
  run = span p (drop at text)

  run_then : span is_word (drop at text) ≡ run + span is_word (drop (at + run) text)
  run_then = run_split p f (drop at text) ∙ ap (λ (s : List ℕ). run + span is_word s) (drop-drop run at text)

  pub run_le : run ≤ span is_word (drop at text)
  run_le = let e : span is_word (drop at text) ≡ run + span is_word (drop (at + run) text) = run_then in omega arith

  -- the word ends where it ends, seen from behind the run
  pub run_end : end_from text (at + run) ≡ end_from text at
  run_end = let e : span is_word (drop at text) ≡ run + span is_word (drop (at + run) text) = run_then in omega arith

  pub run_whole : ends_at text (at + run) ≡ true → run ≡ span is_word (drop at text)
  run_whole h =
      let e : span is_word (drop at text) ≡ run + span is_word (drop (at + run) text) = run_then in
      let z : span is_word (drop (at + run) text) ≡ 0 = ends_none text (at + run) h in
      omega arith

  pub run_ends : ends_at text (at + run) ≡ true → end_from text at ≡ at + run
  run_ends h = ap (λ (k : ℕ). at + k) (sym (run_whole h))

  pub run_less : ends_at text (at + run) ≡ false → run < span is_word (drop at text)
  run_less h =
      let e : span is_word (drop at text) ≡ run + span is_word (drop (at + run) text) = run_then in
      let z : 0 < span is_word (drop (at + run) text) = ends_some text (at + run) h in
      omega arith

-- ---- the characters of the word at a place, one by one
module _ (text : List ℕ) (i : ℕ) where
  chars_more : {d : Bool} → i < length text → d ≡ is_delimiter (get_or text i 0) → d ≡ false → chars_at text i ≡ get_or text i 0 ∷ chars_at text (i + 1)
  chars_more h e t =
      let m : span is_word (drop i text) ≡ suc (span is_word (drop (i + 1) text)) = span_more is_word text i h refl (ap not (sym e ∙ t)) in
      let s : drop i text ≡ get_or text i 0 ∷ drop (i + 1) text =
      drop-cons text i 0 h ∙ ap (λ (k : ℕ). get_or text i 0 ∷ drop k text) (sym (add-one i)) in
      λ j. take (m j) (s j)

  chars_stop : {d : Bool} → i < length text → d ≡ is_delimiter (get_or text i 0) → d ≡ true → chars_at text i ≡ []
  chars_stop h e t = ap (λ (k : ℕ). take k (drop i text)) (span_stop is_word text i h refl (ap not (sym e ∙ t)))

  chars_end : length text ≤ i → chars_at text i ≡ []
  chars_end h = ap (λ (k : ℕ). take k (drop i text)) (span_end is_word text i h)

-- ---- the key made on the way: that of the first n characters, and the unit of the next
pub record Keying (text : List ℕ) (at key unit i : ℕ) : Type 0 where
  pub n : ℕ
  pub within : i ≤ length text
  pub few : n ≤ 10
  pub unit_is : unit ≡ 32 ^ n
  pub low : key < unit
  pub same_end : end_from text i ≡ end_from text at
  pub same_key : field_key (take 10 (chars_at text at)) ≡ key + unit * field_key (take (10 - n) (chars_at text i))

pub keying_start : (text : List ℕ) (at : ℕ) → at ≤ length text → Keying text at 0 1 at
keying_start text at h =
    record { n = 0; within = h; few = omega arith; unit_is = refl; low = omega arith; same_end = refl; same_key = omega arith }

-- the products of a turn
unit_turn : (key unit f l : ℕ) → key + unit * (f * 32 + l) ≡ key + l * unit + unit * 32 * f
unit_turn key unit f l =
    let a : unit * (f * 32 + l) ≡ f * unit * 32 + l * unit =
    mul_comm unit (f * 32 + l) ∙ add-mul (f * 32) l unit ∙ ap (λ (k : ℕ). k + l * unit) (mul_right_comm f 32 unit) in
    let b : unit * 32 * f ≡ f * unit * 32 = mul_right_comm unit 32 f ∙ ap (λ (k : ℕ). k * 32) (mul_comm unit f) in
    sums key (unit * (f * 32 + l)) (f * unit * 32) (l * unit) (unit * 32 * f) a b
  where
    sums : (k x p q y : ℕ) → x ≡ p + q → y ≡ p → k + x ≡ k + q + y
    sums k x p q y a b = omega arith

-- no overflow
module _ {text : List ℕ} {at key unit i : ℕ} (c : ℕ) {l : ℕ} (k : Keying text at key unit i) (e : l ≡ letter_of c) where
  pub letter_product : l * unit ≤ 31 * unit
  letter_product = mul-le-mul_right unit (let h : letter_of c ≤ 31 = letter_high c in let g : l ≤ 31 = omega arith in g)

  pub key_turn_low : key + l * unit < unit * 32
  key_turn_low =
      let a : l * unit ≤ 31 * unit = letter_product in
      let b : key < unit = k.low in
      omega arith

module _ {text : List ℕ} {at key unit i : ℕ} {d : Bool} (k : Keying text at key unit i) (h : i < length text)
    (e : d ≡ is_delimiter (get_or text i 0)) where
  next_end : d ≡ false → end_from text (i + 1) ≡ end_from text at
  next_end t = scan_turn is_word text i h refl (ap not (sym e ∙ t)) k.same_end

  keying_counted : {l : ℕ} → d ≡ false → unit < 1125899906842624 → l ≡ letter_of (get_or text i 0) → Keying text at (key + l * unit) (unit * 32) (i + 1)
  unfolding field_key
  keying_counted {l} t u g =
      let m : ℕ = k.n in
      let ui : unit ≡ 32 ^ m = k.unit_is in
      let few : m ≤ 10 = k.few in
      let less : m < 10 = by_eq m 10 (λ q. let z : unit ≡ 32 ^ 10 = ui ∙ ap (λ (x : ℕ). 32 ^ x) q in absurd (omega arith)) (λ q. omega arith) in
      let left : 10 - m ≡ suc (10 - suc m) = omega arith in
      let f : ℕ = field_key (take (10 - suc m) (chars_at text (i + 1))) in
      let s : field_key (take (10 - m) (chars_at text i)) ≡ f * 32 + letter_of (get_or text i 0) =
      λ j. field_key (take (left j) (chars_more text i h e t j)) in
      record {
        n = suc m;
        within = omega arith;
        few = less;
        unit_is = ap (λ (x : ℕ). x * 32) ui ∙ sym (pow-suc 32 m);
        low = key_turn_low (get_or text i 0) k g;
        same_end = next_end t;
        same_key = k.same_key ∙ ap (λ (x : ℕ). key + unit * x) (s ∙ ap (λ (x : ℕ). f * 32 + x) (sym g)) ∙ unit_turn key unit f l;
      }

  -- past the tenth
  keying_beyond : d ≡ false → 1125899906842624 ≤ unit → Keying text at key unit (i + 1)
  keying_beyond t u =
      let m : ℕ = k.n in
      let ui : unit ≡ 32 ^ m = k.unit_is in
      let few : m ≤ 10 = k.few in
      let ten : m ≡ 10 = by_eq m 10 (λ q. q) (λ q.
      let p : 32 ^ m ≤ 32 ^ 9 = pow-le-pow_right (zero-lt-suc 31) (let z : m ≤ 9 = omega arith in z) in
      absurd (omega arith)) in
      let left : 10 - m ≡ 0 = omega arith in
      record {
        n = m;
        within = omega arith;
        few = few;
        unit_is = ui;
        low = k.low;
        same_end = next_end t;
        same_key = k.same_key ∙ ap (λ (x : ℕ). key + unit * field_key (take x (chars_at text i))) left
            ∙ ap (λ (x : ℕ). key + unit * field_key (take x (chars_at text (i + 1)))) (sym left);
      }

  -- as the two ways of the code meet
  pub keying_turn : {l key' unit' : ℕ} → d ≡ false → unit < 1125899906842624 → l ≡ letter_of (get_or text i 0) → key' ≡ key + l * unit
      → unit' ≡ unit * 32 → Keying text at key' unit' (i + 1)
  keying_turn {l} {key'} {unit'} t u g a b =
      subst (λ (x : ℕ). Keying text at x unit' (i + 1)) (sym a) (subst (λ (x : ℕ). Keying text at (key + l * unit) x (i + 1)) (sym b) (keying_counted t u g))

  pub keying_past : {key' unit' : ℕ} → d ≡ false → 1125899906842624 ≤ unit → key' ≡ key → unit' ≡ unit → Keying text at key' unit' (i + 1)
  keying_past {key'} {unit'} t u a b =
      subst (λ (x : ℕ). Keying text at x unit' (i + 1)) (sym a) (subst (λ (x : ℕ). Keying text at key x (i + 1)) (sym b) (keying_beyond t u))

module _ {text : List ℕ} {at key unit i : ℕ} (k : Keying text at key unit i) where
  all_made : chars_at text i ≡ [] → field_key (take 10 (chars_at text at)) ≡ key
  unfolding field_key
  all_made e = k.same_key ∙ ap (λ (w : List ℕ). key + unit * field_key (take (10 - k.n) w)) e ∙ none (10 - k.n)
    where
      none : (m : ℕ) → key + unit * field_key (take m []) ≡ key
      none zero = omega arith
      none (suc m) = omega arith

  pub keying_stop : {d : Bool} → i < length text → d ≡ is_delimiter (get_or text i 0) → d ≡ true
      → ◌≡◌ {A = Keyed} (record { key = key; end = i }) (keyed_at text at)
  unfolding keyed_at
  keying_stop h e t =
      let a : field_key (take 10 (chars_at text at)) ≡ key = all_made (chars_stop text i h e t) in
      let b : i ≡ end_from text at = scan_stop is_word text i h refl (ap not (sym e ∙ t)) k.same_end in
      λ j. record { key = sym a j; end = b j }

  pub keying_end : length text ≤ i → ◌≡◌ {A = Keyed} (record { key = key; end = length text }) (keyed_at text at)
  unfolding keyed_at
  keying_end h =
      let a : field_key (take 10 (chars_at text at)) ≡ key = all_made (chars_end text i h) in
      let w : i ≤ length text = k.within in
      let over : length text ≡ i = omega arith in
      let b : length text ≡ end_from text at = over ∙ scan_end is_word text i h k.same_end in
      λ j. record { key = sym a j; end = b j }

-- ---- its first characters: a `$` of the text is one of the word as long as the word goes up to it
dollar_plain : is_delimiter dollar ≡ false
unfolding is_delimiter has
dollar_plain = refl

dollar_word : (c : ℕ) → is_delimiter c ≡ true → eqb c dollar ≡ false
dollar_word c e = ne_eqb c dollar (λ f. clash (sym (ap is_delimiter f) ∙ e) dollar_plain)

module _ (text : List ℕ) (at : ℕ) where
  abbrev word_size : ℕ
  word_size = span is_word (drop at text)

  dollar-at : (k : ℕ) → k ≤ word_size → eqb (get_or (chars_at text at) k 0) dollar ≡ eqb (get_or text (at + k) 0) dollar
  dollar-at k h =
      by_lt k word_size
      (λ l. ap (λ (c : ℕ). eqb c dollar) (get_or-take word_size (drop at text) k 0 l ∙ get_or-drop at text k 0))
      (λ l.
      let t : length (chars_at text at) ≤ k = omega (arith, length-take word_size (drop at text)) in
      let a : eqb (get_or (chars_at text at) k 0) dollar ≡ false = ap (λ (c : ℕ). eqb c dollar) (get_or-eq_default (chars_at text at) 0 t) in
      let s : word_size ≡ k = omega arith in
      a ∙ sym (by_lt (at + k) (length text)
      (λ g.
      let d : not (is_delimiter (get_or text (at + word_size) 0)) ≡ false = span_at_from is_word text at (omega arith) in
      dollar_word (get_or text (at + k) 0) (ap (λ (x : ℕ). is_delimiter (get_or text (at + x) 0)) (sym s) ∙ not-false (is_delimiter (get_or text (at + word_size) 0)) d))
      (λ g. ap (λ (c : ℕ). eqb c dollar) (get_or-eq_default text 0 g))))

  first_dollar : eqb (get_or (chars_at text at) 0 0) dollar ≡ eqb (get_or text at 0) dollar
  first_dollar = dollar-at 0 (omega arith) ∙ ap (λ (k : ℕ). eqb (get_or text k 0) dollar) (add-zero at)

  second_dollar : eqb (get_or (chars_at text at) 0 0) dollar ≡ true → eqb (get_or (chars_at text at) 1 0) dollar ≡ eqb (get_or text (at + 1) 0) dollar
  second_dollar e =
      dollar-at 1
      (by_lt 0 word_size (λ l. l) (λ l.
      let t : length (chars_at text at) ≤ 0 = omega (arith, length-take word_size (drop at text)) in
      clash e (ap (λ (c : ℕ). eqb c dollar) (get_or-eq_default (chars_at text at) 0 t))))

  keyword_by_lem : keyword_by (get_or text at 0) (get_or text (at + 1) 0) (field_key (take 10 (chars_at text at))) ≡ keyword_of (chars_at text at)
  unfolding keyword_by keyword_of
  keyword_by_lem =
      let w : List ℕ = chars_at text at in
      by_bool (eqb (get_or w 0 0) dollar)
      (λ e.
      cond-true (eqb (get_or text at 0) dollar) _ _ (sym first_dollar ∙ e)
      ∙ ap (λ (b : Bool). cond b Comment Local) (sym (second_dollar e))
      ∙ sym (cond-true (eqb (get_or w 0 0) dollar) _ _ e))
      (λ e.
      cond-false (eqb (get_or text at 0) dollar) _ _ (sym first_dollar ∙ e)
      ∙ keyword_key w
      ∙ sym (cond-false (eqb (get_or w 0 0) dollar) _ _ e))

  item_by_lem : item_by (get_or text at 0) (field_key (take 10 (chars_at text at))) ≡ item_of (chars_at text at)
  unfolding item_by item_of
  item_by_lem =
      let w : List ℕ = chars_at text at in
      λ j. cond (sym first_dollar j) localItem (item_key w j)

  -- what the code gives is the word's meaning, and its end
  pub said_by_lem : {w : Keyed} {a b : ℕ} {v : Keyword} → w ≡ keyed_at text at → a ≡ get_or text at 0 → b ≡ get_or text (at + 1) 0
      → v ≡ keyword_by a b w.key → ◌≡◌ {A = Said} (record { keyword = v; end = w.end }) (said_at text at)
  unfolding said_at keyed_at
  said_by_lem {w} {a} {b} {v} e f g h =
      let m : v ≡ keyword_of (chars_at text at) = h ∙ (λ j. keyword_by (f j) (g j) (e j).key) ∙ keyword_by_lem in
      λ j. record { keyword = m j; end = (e j).end }

  pub said_item_by : {w : Keyed} {a : ℕ} {v : Item} → w ≡ keyed_at text at → a ≡ get_or text at 0
      → v ≡ item_by a w.key → ◌≡◌ {A = SaidItem} (record { item = v; end = w.end }) (said_item_at text at)
  unfolding said_item_at keyed_at
  said_item_by {w} {a} {v} e f h =
      let m : v ≡ item_of (chars_at text at) = h ∙ (λ j. item_by (f j) (e j).key) ∙ item_by_lem in
      λ j. record { item = m j; end = (e j).end }

-- ---- CHAN
same_texts : (a b : List ℕ) → same_text a b ≡ true → a ≡ b
unfolding same_text
same_texts [] [] e = refl
same_texts [] (d ∷ b) e = absurd (false≢true e)
same_texts (c ∷ a) [] e = absurd (false≢true e)
same_texts (c ∷ a) (d ∷ b) e =
    let f : c ≡ d = eqb-true c d (and_left (eqb c d) (same_text a b) e) in
    let g : a ≡ b = same_texts a b (and_right (eqb c d) (same_text a b) e) in
    λ i. f i ∷ g i

chan_word : span is_word (bytes "CHAN") ≡ 4
unfolding span is_delimiter has
chan_word = refl

chan_keyword : keyword_of (bytes "CHAN") ≡ Chan
unfolding keyword_of meaning_of keyword_rows same_word_of same_text upper
chan_keyword = refl

module _ (text : List ℕ) (at : ℕ) (e : is_chan text at ≡ true) where
  chan_front : take 4 (drop at text) ≡ bytes "CHAN"
  unfolding is_chan
  chan_front =
      same_texts (take 4 (drop at text)) (bytes "CHAN")
      (and_left (same_text (take 4 (drop at text)) (bytes "CHAN")) (ends_at text (at + 4)) (and_right (leb (at + 4) (length text)) _ e))

  chan_over : ends_at text (at + 4) ≡ true
  unfolding is_chan
  chan_over = and_right (same_text (take 4 (drop at text)) (bytes "CHAN")) (ends_at text (at + 4)) (and_right (leb (at + 4) (length text)) _ e)

  chan_size : span is_word (drop at text) ≡ 4
  chan_size =
      let s : drop at text ≡ bytes "CHAN" ++ drop 4 (drop at text) =
      sym (take-append-drop 4 (drop at text)) ∙ ap (λ (w : List ℕ). w ++ drop 4 (drop at text)) chan_front in
      let z : span is_word (drop 4 (drop at text)) ≡ 0 = ap (λ (w : List ℕ). span is_word w) (drop-drop 4 at text) ∙ ends_none text (at + 4) chan_over in
      ap (λ (w : List ℕ). span is_word w) s ∙ span_append is_word (bytes "CHAN") (drop 4 (drop at text)) chan_word ∙ ap (λ (k : ℕ). 4 + k) z

  pub said_chan : ◌≡◌ {A = Said} (record { keyword = Chan; end = at + 4 }) (said_at text at)
  unfolding said_at
  said_chan =
      let w : chars_at text at ≡ bytes "CHAN" = ap (λ (k : ℕ). take k (drop at text)) chan_size ∙ chan_front in
      let k : keyword_of (chars_at text at) ≡ Chan = ap keyword_of w ∙ chan_keyword in
      λ j. record { keyword = sym k j; end = at + sym chan_size j }

-- as the code tests it
module _ (text : List ℕ) (at : ℕ) (h : at ≤ length text) where
  pub chan_short : length text - at < 4 → false ≡ is_chan text at
  unfolding is_chan
  chan_short l = sym (and_false_left (leb (at + 4) (length text)) _ (lt-leb (at + 4) (length text) (omega arith)))

  module _ (l : 4 ≤ length text - at) where
    abbrev letter_at : ℕ → ℕ
    letter_at k = get_or text (at + k) 0

    abbrev spelt : Bool
    spelt = eqb (get_or text at 0) 67 && (eqb (letter_at 1) 72 && (eqb (letter_at 2) 65 && (eqb (letter_at 3) 78 && true)))

    four : take 4 (drop at text) ≡ get_or text at 0 ∷ letter_at 1 ∷ letter_at 2 ∷ letter_at 3 ∷ []
    four =
        let s₀ : drop at text ≡ get_or text at 0 ∷ drop (suc at) text = drop-cons text at 0 (omega arith) in
        let s₁ : drop (suc at) text ≡ letter_at 1 ∷ drop (at + 2) text = next 1 (suc at) (at + 2) (omega arith) (omega arith) (omega arith) in
        let s₂ : drop (at + 2) text ≡ letter_at 2 ∷ drop (at + 3) text = next 2 (at + 2) (at + 3) refl (omega arith) (omega arith) in
        let s₃ : drop (at + 3) text ≡ letter_at 3 ∷ drop (at + 4) text = next 3 (at + 3) (at + 4) refl (omega arith) (omega arith) in
        ap (λ (w : List ℕ). take 4 w)
        (s₀ ∙ ap (λ (w : List ℕ). get_or text at 0 ∷ w)
        (s₁ ∙ ap (λ (w : List ℕ). letter_at 1 ∷ w) (s₂ ∙ ap (λ (w : List ℕ). letter_at 2 ∷ w) s₃)))
      where
        next : (k x y : ℕ) → at + k ≡ x → suc x ≡ y → x < length text → drop x text ≡ letter_at k ∷ drop y text
        next k x y e f g = drop-cons text x 0 g ∙ (λ i. get_or text (sym e i) 0 ∷ drop (f i) text)

    chan_is : (spelt && ends_at text (at + 4)) ≡ is_chan text at
    unfolding is_chan same_text
    chan_is =
        let t : leb (at + 4) (length text) ≡ true = le-leb (at + 4) (length text) (omega arith) in
        sym ((λ i. t i && (same_text (four i) (bytes "CHAN") && ends_at text (at + 4))))

    not_spelt : spelt ≡ false → false ≡ is_chan text at
    not_spelt e = sym (and_false_left spelt (ends_at text (at + 4)) e) ∙ chan_is

    pub chan_first : (get_or text at 0 ≡ 67 → ⊥) → false ≡ is_chan text at
    chan_first f = not_spelt (and_false_left (eqb (get_or text at 0) 67) _ (ne_eqb (get_or text at 0) 67 f))

    pub chan_second : (get_or text (at + 1) 0 ≡ 72 → ⊥) → false ≡ is_chan text at
    chan_second f = not_spelt (and_false_right (eqb (get_or text at 0) 67) _ (and_false_left (eqb (letter_at 1) 72) _ (ne_eqb (letter_at 1) 72 f)))

    pub chan_third : (get_or text (at + 2) 0 ≡ 65 → ⊥) → false ≡ is_chan text at
    chan_third f =
        not_spelt (and_false_right (eqb (get_or text at 0) 67) _ (and_false_right (eqb (letter_at 1) 72) _
        (and_false_left (eqb (letter_at 2) 65) _ (ne_eqb (letter_at 2) 65 f))))

    pub chan_fourth : (get_or text (at + 3) 0 ≡ 78 → ⊥) → false ≡ is_chan text at
    chan_fourth f =
        not_spelt (and_false_right (eqb (get_or text at 0) 67) _ (and_false_right (eqb (letter_at 1) 72) _
        (and_false_right (eqb (letter_at 2) 65) _ (and_false_left (eqb (letter_at 3) 78) _ (ne_eqb (letter_at 3) 78 f)))))

    pub chan_ends : {b : Bool} → get_or text at 0 ≡ 67 → get_or text (at + 1) 0 ≡ 72 → get_or text (at + 2) 0 ≡ 65 → get_or text (at + 3) 0 ≡ 78
        → b ≡ ends_at text (at + 4) → b ≡ is_chan text at
    chan_ends e₀ e₁ e₂ e₃ g =
        let s : spelt ≡ true = λ i. eqb (e₀ i) 67 && (eqb (e₁ i) 72 && (eqb (e₂ i) 65 && (eqb (e₃ i) 78 && true))) in
        g ∙ sym (ap (λ (b : Bool). b && ends_at text (at + 4)) s) ∙ chan_is
