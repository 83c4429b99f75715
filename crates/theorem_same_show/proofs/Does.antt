-- Each written line's step: it is obeyed, with no report, and does what was written. By what reading gives back of each value.
-- Assumes nothing.
use Rattle.std.specs.Prelude.{Ok, Option, Result, Some}
use mathlib.Core.Path.{◌≡◌, refl, sym, ap, ◌∙◌}
use mathlib.Core.Bool.{true, cond}
use mathlib.Core.List.{List, [], ◌∷◌, ◌++◌}
use Prim.Native.Nat.{ℕ, ◌≤◌, ◌<◌}
use native.Mathlib.Omega.{arith}
use lib.ListN.{length, get_or, drop}
use borrow.Author.Tests.{eq-eqb, ne_eqb, le-ltb}
use Rattle.cells.specs.Text.{bytes}
use Rattle.cells.specs.Search.{Found, at}
use Rattle.cells.proofs.Split.{by_eq, cond-true, cond-false, cond_same}
use Rattle.store_desk.specs.declared.Desk.{Desk}
use Rattle.store_desk.specs.declared.Key.{Key}
use Rattle.store_desk.specs.declared.Kind.{Kind}
use Rattle.store_desk.specs.declared.Kind.TheVariants.{Cue, Group, Sub}
use Rattle.store_desk.specs.Size.{Within, is_within, InRange}
use Rattle.store_desk.specs.Name.{Name, pages_of, supported, ok_number, ok_name, ok_within}
use Rattle.store_desk.proofs.Size.{within_true}
use Rattle.store_desk.proofs.Name.{ok_number_lem, ok_sub_lem, ok_supported, ok_within_lem, ok_page_lem, ok_fits}
use Rattle.store_head.specs.declared.Patch.{Patch}
use Rattle.text_fields.specs.declared.Keyword.{Keyword}
use Rattle.text_fields.specs.declared.Keyword.TheVariants as key
use Rattle.text_fields.specs.Words.{Word, head_of}
use Rattle.text_fields.specs.Keywords.{keyword_of, meaning_of, keyword_rows, same_word_of, same_text, upper}
use Rattle.value.specs.Integer.{cap, integer_of}
use Rattle.value.specs.Number.{whole_max, number}
use Rattle.value.specs.Time.{time_max}
use Rattle.value_level.specs.Level.{level_of}
use Rattle.value_written.specs.Text.{integer_text, number_text, level_text, time_text}
use Rattle.value_written.proofs.Undone.{integer_read, page_read, number_text_none, number_read, level_read, time_read}
use Rattle.store.specs.declared.Edit.{Edit}
use Rattle.store.specs.declared.Edit.TheVariants.{Up, Down, Followon, Link, Level}
use Rattle.store.specs.Change.{seat, started, edited, patched}
use Rattle.store.specs.Form.{has_times, has_link}
use Rattle.load.specs.declared.Fault.{Fault}
use Rattle.load.specs.declared.State.{State}
use Rattle.load.specs.declared.Outcome.TheVariants.{Obeyed}
use Rattle.load.specs.declared.Entry.{Entry}
use Rattle.load.specs.declared.Entry.TheVariants.{Level as LevelOf, Patch as PatchOf}
use Rattle.load.specs.Condition.{bad_channel, bad_dimmer}
use Rattle.load.specs.Item.{ranged_of, dimmer_of, on_ranged, on_level, pair_of, triple_of, pairs_of, triples_of, faults_of, memory, page, done, all_done}
use Rattle.load.specs.Ask.{items, name, is_over_long, ask_of, fields_ask, family_of, basic_ask, family_ask, named_ask, primary_ask, change_ask, obeyed_ask, secondary_ask, triples_ask}
use Rattle.load.specs.Step.{ended, opened, acted, record_step, step_of, ignored_in}
use Rattle.load.specs.Ask.{numbered_by, sub_by, numeral_of, page_at, named_by, named_of}
use Rattle.load.specs.Step.{opened_by}
use Rattle.load.specs.Ask.{augments, on_time, delay_of, fade_of, link_by, times_of}
use Rattle.save_lines.specs.Line.{patch_text, primary_text, delay_text, Lit, pairs_text}
use Rattle.theorem_same_show.proofs.Fair.{Fair, fair_quiet}
use Rattle.theorem_same_show.proofs.Spelled.{word, spelled, fields_of_lem}
use Rattle.theorem_same_show.proofs.Worded.{Line, patch_line_lem, kind_word, primary_line, delay_words, up_line, down_line, followon_line, link_line_lem, pair_words, AllLit, chan_line}
use Rattle.value_level.specs.declared.LevelError.{LevelError}
use Rattle.value.specs.declared.Number.{Number}
use Rattle.value.specs.declared.NumberError.{NumberError}

-- ---- a line is obeyed, and nothing is reported
pub record Does (d : Desk) (s : State) (t l : List ℕ) (s₁ : State) (t₁ : List ℕ) : Type 0 where
  pub fair : Fair l
  pub quiet : cond (is_over_long l) [] (ignored_in l) ≡ []
  pub step : record_step d s l t ≡ ended s₁ Obeyed t₁

module _ {l : List ℕ} {xs : List (List ℕ)} (w : Line l xs) where
  line_quiet : cond (is_over_long l) [] (ignored_in l) ≡ []
  line_quiet = ap (λ (z : List Fault). cond (is_over_long l) [] z) (fair_quiet l w.fair) ∙ cond_same (is_over_long l) []

  line_step : (d : Desk) (s : State) (t : List ℕ) → (qs : List ℕ) × (record_step d s l t ≡ step_of d s (spelled xs qs) t)
  unfolding record_step ask_of
  line_step d s t =
      let f = fields_of_lem l xs w.fair w.words in (
        f.0,
        ap (acted d s t) (cond-false (is_over_long l) _ _ (le-ltb 80 (length l) w.short) ∙ ap (λ (ws : List Word). fields_ask d s ws) f.1),
      )

  -- a step of its fields, whatever their places
  does_of : (d : Desk) (s : State) (t : List ℕ) (s₁ : State) (t₁ : List ℕ) → ((qs : List ℕ) → step_of d s (spelled xs qs) t ≡ ended s₁ Obeyed t₁) → Does d s t l s₁ t₁
  does_of d s t s₁ t₁ f =
      let g = line_step d s t in
      record { fair = w.fair; quiet = line_quiet; step = g.1 ∙ f g.0 }

-- ---- keywords
keyed : (d : Desk) (s : State) (t x : List ℕ) (xs : List (List ℕ)) (qs : List ℕ) {k : Keyword} → keyword_of x ≡ k
    → step_of d s (spelled (x ∷ xs) qs) t ≡ acted d s t (family_ask d s (family_of k) (word x (get_or qs 0 0)) (spelled xs (drop 1 qs)))
unfolding fields_ask spelled
keyed d s t x xs qs e = ap (λ (k : Keyword). acted d s t (family_ask d s (family_of k) (word x (get_or qs 0 0)) (spelled xs (drop 1 qs)))) e

kind_keyword : Kind → Keyword
kind_keyword Cue = key.Cue
kind_keyword Group = key.Group
kind_keyword Sub = key.Sub

kind_keyword_lem : (k : Kind) → keyword_of (kind_word k) ≡ kind_keyword k
unfolding kind_word kind_keyword keyword_of meaning_of keyword_rows same_word_of same_text upper
kind_keyword_lem Cue = refl
kind_keyword_lem Group = refl
kind_keyword_lem Sub = refl

kind_ask_lem : (d : Desk) (s : State) (k : Kind) (w : Word) (ws : List Word) → family_ask d s (family_of (kind_keyword k)) w ws ≡ primary_ask d k w ws
unfolding kind_keyword family_ask family_of basic_ask
kind_ask_lem d s Cue w ws = refl
kind_ask_lem d s Group w ws = refl
kind_ask_lem d s Sub w ws = refl

-- ---- the primaries
module _ (d : Desk) (r : InRange d) where
  sub_numeral : (v : Word) (w f : ℕ) → Within 1 w d.subs → f ≡ 0 → sub_by d v (integer_of (number_text w f)) ≡ Ok (number w f)
  unfolding sub_by
  sub_numeral v w f h e =
      let l : w ≤ cap = omega (arith, r.subs.1) in
      ap (λ (x : List ℕ). sub_by d v (integer_of x)) (number_text_none w f e)
      ∙ ap (sub_by d v) (integer_read w l)
      ∙ cond-true (is_within 1 w d.subs) _ _ (within_true 1 w d.subs h)
      ∙ ap (λ (z : ℕ). Ok (number w z)) (sym e)

  numeral_of_lem : (k : Kind) (key : Key) (c : ℕ) → ok_within d k key ≡ true
      → numeral_of d k (word (number_text key.whole key.fraction) c) ≡ Ok (number key.whole key.fraction)
  unfolding numeral_of numbered_by ok_within
  numeral_of_lem Cue key c o =
      let n = ok_number_lem key.whole key.fraction o in
      ap (numbered_by (word (number_text key.whole key.fraction) c)) (number_read key.whole key.fraction n.1 n.2 (λ e. omega (arith, n.0)))
  numeral_of_lem Group key c o =
      let n = ok_number_lem key.whole key.fraction o in
      ap (numbered_by (word (number_text key.whole key.fraction) c)) (number_read key.whole key.fraction n.1 n.2 (λ e. omega (arith, n.0)))
  numeral_of_lem Sub key c o =
      let n = ok_sub_lem d key.whole key.fraction o in
      sub_numeral _ key.whole key.fraction n.0 n.1

  whole_fits : (k : Kind) (key : Key) → ok_within d k key ≡ true → key.whole ≤ whole_max
  unfolding ok_within
  whole_fits Cue key o = (ok_number_lem key.whole key.fraction o).1
  whole_fits Group key o = (ok_number_lem key.whole key.fraction o).1
  whole_fits Sub key o = let n = ok_sub_lem d key.whole key.fraction o in omega (arith, r.subs.1, n.0)

  module _ (k : Kind) (y : Key) (o : ok_name d (name k y) ≡ true) where
    named_of_lem : (qs : List ℕ) → named_of d k (spelled (number_text y.whole y.fraction ∷ integer_text y.page ∷ []) qs) ≡ Ok y
    unfolding named_of named_by page_at spelled
    named_of_lem qs =
        let p = ok_page_lem d (name k y) o in
        let f = ok_fits d (name k y) r o in
        let l : y.page ≤ cap = omega (arith, f.page) in
        (λ i.
        named_by (numeral_of_lem k y (get_or qs 0 0) (ok_within_lem d (name k y) o) i) (word (integer_text y.page) (get_or (drop 1 qs) 0 0))
        (page_read (pages_of d k) y.page p.0 p.1 l i))

    primary_step : (s : State) (t : List ℕ) (i : ℕ) → seat d t (name k y) ≡ at i → (qs : List ℕ)
        → step_of d s (spelled (kind_word k ∷ number_text y.whole y.fraction ∷ integer_text y.page ∷ []) qs) t
        ≡ ended (opened k y) Obeyed (started d t (name k y))
    unfolding primary_ask named_ask acted opened_by
    primary_step s t i e qs =
        let xs : List (List ℕ) = number_text y.whole y.fraction ∷ integer_text y.page ∷ [] in
        let ws : List Word = spelled xs (drop 1 qs) in
        keyed d s t (kind_word k) xs qs (kind_keyword_lem k)
        ∙ ap (acted d s t)
        (kind_ask_lem d s k (word (kind_word k) (get_or qs 0 0)) ws
        ∙ cond-true (supported d k) (named_ask k (named_of d k ws)) _ (ok_supported d (name k y) o)
        ∙ ap (named_ask k) (named_of_lem (drop 1 qs)))
        ∙ ap (λ (f : Found). opened_by d k y f t) e

    pub primary_does : (s : State) (t : List ℕ) (i : ℕ) → seat d t (name k y) ≡ at i
        → Does d s t (primary_text k y) (opened k y) (started d t (name k y))
    primary_does s t i e =
        let f = ok_fits d (name k y) r o in
        does_of (primary_line k y (whole_fits k y (ok_within_lem d (name k y) o)) (omega (arith, f.page)))
        d s t (opened k y) (started d t (name k y)) (primary_step s t i e)

-- ---- UP, DOWN, FOLLOWON, LINK
delay_of_lem : (delay : ℕ) → delay ≤ time_max → (qs : List ℕ) → delay_of (spelled (delay_words delay) qs) ≡ Some delay
unfolding delay_of delay_words spelled
delay_of_lem delay h qs =
    by_eq delay 0
    (λ e. rw (eq-eqb delay 0 e) (ap Some (sym e)))
    (λ e. rw (ne_eqb delay 0 e) (time_read delay h))

fade_of_lem : (f : ℕ → ℕ → Edit) (fade delay : ℕ) → fade ≤ time_max → delay ≤ time_max → (qs : List ℕ)
    → fade_of f (spelled (time_text fade ∷ delay_words delay) qs) ≡ Ok (f fade delay)
unfolding fade_of spelled on_time
fade_of_lem f fade delay hf hd qs =
    let ws : List Word = spelled (delay_words delay) (drop 1 qs) in
    ap (λ (x : Option ℕ). on_time (word (time_text fade) (get_or qs 0 0)) x (λ a. on_time (head_of ws) (delay_of ws) (λ b. Ok (f a b)))) (time_read fade hf)
    ∙ ap (λ (x : Option ℕ). on_time (head_of ws) x (λ b. Ok (f fade b))) (delay_of_lem delay hd (drop 1 qs))

-- the keywords of the secondaries, of PATCH
keyword_up : keyword_of (bytes "UP") ≡ key.Up
unfolding keyword_of meaning_of keyword_rows same_word_of same_text upper
keyword_up = refl

keyword_down : keyword_of (bytes "DOWN") ≡ key.Down
unfolding keyword_of meaning_of keyword_rows same_word_of same_text upper
keyword_down = refl

keyword_followon : keyword_of (bytes "FOLLOWON") ≡ key.Followon
unfolding keyword_of meaning_of keyword_rows same_word_of same_text upper
keyword_followon = refl

keyword_link : keyword_of (bytes "LINK") ≡ key.Link
unfolding keyword_of meaning_of keyword_rows same_word_of same_text upper
keyword_link = refl

keyword_chan : keyword_of (bytes "CHAN") ≡ key.Chan
unfolding keyword_of meaning_of keyword_rows same_word_of same_text upper
keyword_chan = refl

keyword_patch : keyword_of (bytes "PATCH") ≡ key.Patch
unfolding keyword_of meaning_of keyword_rows same_word_of same_text upper
keyword_patch = refl

-- changes of the open memory, one after the other
unfoldable pub edited_all : Desk → List ℕ → Name → List Edit → List ℕ
edited_all d t n [] = t
edited_all d t n (e ∷ es) = edited_all d (edited d t n e) n es

-- the changes that pairs ask for
unfoldable pub lit_edits : List Lit → List Edit
lit_edits [] = []
lit_edits (p ∷ ps) = Level p.channel p.level ∷ lit_edits ps

lit_entries : List Lit → List Entry
lit_entries [] = []
lit_entries (p ∷ ps) = LevelOf p.channel p.level ∷ lit_entries ps

module _ (d : Desk) (r : InRange d) where
  channel_of_lem : (n : ℕ) → Within 1 n d.channels → ranged_of d.channels bad_channel (integer_of (integer_text n)) ≡ Ok n
  unfolding ranged_of
  channel_of_lem n h =
      let l : n ≤ cap = omega (arith, r.channels.1) in
      ap (ranged_of d.channels bad_channel) (integer_read n l) ∙ cond-true (is_within 1 n d.channels) _ _ (within_true 1 n d.channels h)

  dimmer_of_lem : (n : ℕ) → Within 1 n d.dimmers → ranged_of d.dimmers bad_dimmer (integer_of (integer_text n)) ≡ Ok n
  unfolding ranged_of
  dimmer_of_lem n h =
      let l : n ≤ cap = omega (arith, r.dimmers.1) in
      ap (ranged_of d.dimmers bad_dimmer) (integer_read n l) ∙ cond-true (is_within 1 n d.dimmers) _ _ (within_true 1 n d.dimmers h)

  pair_of_lem : (n v a b : ℕ) → Within 1 n d.channels → v < 256
      → pair_of d (word (integer_text n) a) (word (level_text v) b) ≡ LevelOf n v
  unfolding pair_of on_ranged on_level
  pair_of_lem n v a b hn hv =
      let l : Word = word (level_text v) b in
      ap (λ (x : Result ℕ ℕ). on_ranged (word (integer_text n) a) x (λ c. on_level l (level_of (level_text v)) (λ u. LevelOf c u))) (channel_of_lem n hn)
      ∙ ap (λ (x : Result ℕ LevelError). on_level l x (λ u. LevelOf n u)) (level_read v hv)

  pairs_of_lem : (ps : List Lit) → AllLit d ps → (qs : List ℕ) → pairs_of d (spelled (pair_words ps) qs) ≡ lit_entries ps
  unfolding pairs_of spelled pair_words lit_entries
  pairs_of_lem [] a qs = refl
  pairs_of_lem (p ∷ ps) a qs =
      (λ i.
      pair_of_lem p.channel p.level (get_or qs 0 0) (get_or (drop 1 qs) 0 0) a.0 a.1 i
      ∷ pairs_of_lem ps a.2 (drop 1 (drop 1 qs)) i)

  triple_of_lem : (c m v a b e : ℕ) → Within 1 c d.channels → Within 1 m d.dimmers → v < 256
      → triple_of d (word (integer_text c) a) (word (integer_text m) b) (word (level_text v) e) ≡ PatchOf c m v
  unfolding triple_of on_ranged on_level
  triple_of_lem c m v a b e hc hm hv =
      let y : Word = word (integer_text m) b in
      let l : Word = word (level_text v) e in
      ap (λ (x : Result ℕ ℕ). on_ranged (word (integer_text c) a) x (λ n. on_ranged y (dimmer_of d y) (λ k. on_level l (level_of (level_text v)) (λ u. PatchOf n k u)))) (channel_of_lem c hc)
      ∙ ap (λ (x : Result ℕ ℕ). on_ranged y x (λ k. on_level l (level_of (level_text v)) (λ u. PatchOf c k u))) (dimmer_of_lem m hm)
      ∙ ap (λ (x : Result ℕ LevelError). on_level l x (λ u. PatchOf c m u)) (level_read v hv)

  -- ---- PATCH
  pub patch_does : (s : State) (t : List ℕ) (p m : ℕ) (x : Patch) → Within 1 p d.patch_pages → Within 1 m d.dimmers → Within 1 x.channel d.channels
      → x.level < 256 → Does d s t (patch_text p m x) s (patched d t p m x.channel x.level)
  patch_does s t p m x hp hm hc hv =
      let a : p < 1000 = omega (arith, r.patch_pages_of.1) in
      let b : m < 1000 = omega (arith, r.dimmers.1) in
      let c : x.channel < 1000 = omega (arith, r.channels.1) in
      does_of (patch_line_lem p m x a b c) d s t s (patched d t p m x.channel x.level) (λ qs. patch_step qs)
    where
      patch_step : (qs : List ℕ)
          → step_of d s (spelled (bytes "PATCH" ∷ integer_text p ∷ integer_text x.channel ∷ integer_text m ∷ level_text x.level ∷ []) qs) t
          ≡ ended s Obeyed (patched d t p m x.channel x.level)
      patch_step qs =
          unfold family_ask family_of basic_ask spelled triples_of triples_ask faults_of all_done done acted in
          (let l : p ≤ cap = omega (arith, r.patch_pages_of.1) in
          let xs : List (List ℕ) = integer_text x.channel ∷ integer_text m ∷ level_text x.level ∷ [] in
          let ws : List Word = spelled xs (drop 1 (drop 1 qs)) in
          keyed d s t (bytes "PATCH") (integer_text p ∷ xs) qs keyword_patch
          ∙ ap (acted d s t)
          (ap (λ (g : Option ℕ). triples_ask d (word (integer_text p) (get_or (drop 1 qs) 0 0)) g ws) (page_read d.patch_pages p hp.0 hp.1 l)
          ∙ ap (λ (e : Entry). items (page p) (e ∷ []))
          (triple_of_lem x.channel m x.level (get_or (drop 1 (drop 1 qs)) 0 0) (get_or (drop 1 (drop 1 (drop 1 qs))) 0 0) (get_or (drop 1 (drop 1 (drop 1 (drop 1 qs)))) 0 0) hc hm hv)))

-- ---- the secondaries, of the open memory
lit_faults : (ps : List Lit) → faults_of (lit_entries ps) ≡ []
unfolding faults_of lit_entries
lit_faults [] = refl
lit_faults (p ∷ ps) = lit_faults ps

lit_done : (d : Desk) (n : Name) (ps : List Lit) (t : List ℕ) → all_done d (memory n) t (lit_entries ps) ≡ edited_all d t n (lit_edits ps)
unfolding all_done done lit_entries edited_all lit_edits
lit_done d n [] t = refl
lit_done d n (p ∷ ps) t = lit_done d n ps (edited d t n (Level p.channel p.level))

module _ (d : Desk) (k : Kind) (y : Key) (t : List ℕ) where
  abbrev now : State
  now = opened k y

  module _ (fade delay : ℕ) (hf : fade ≤ time_max) (hd : delay ≤ time_max) (h : has_times k ≡ true) where
    up_step : (qs : List ℕ) → step_of d now (spelled (bytes "UP" ∷ time_text fade ∷ delay_words delay) qs) t ≡ ended now Obeyed (edited d t (name k y) (Up fade delay))
    unfolding family_ask family_of basic_ask secondary_ask obeyed_ask augments times_of change_ask acted
    up_step qs =
        keyed d now t (bytes "UP") (time_text fade ∷ delay_words delay) qs keyword_up
        ∙ ap (acted d now t)
        (cond-true (has_times k) _ _ h
        ∙ ap (change_ask (name k y)) (fade_of_lem (λ a b. Up a b) fade delay hf hd (drop 1 qs)))

    pub up_does : Does d now t (bytes "UP " ++ (time_text fade ++ delay_text delay)) now (edited d t (name k y) (Up fade delay))
    up_does = does_of (up_line fade delay hf hd) d now t now (edited d t (name k y) (Up fade delay)) up_step

    down_step : (qs : List ℕ) → step_of d now (spelled (bytes "DOWN" ∷ time_text fade ∷ delay_words delay) qs) t ≡ ended now Obeyed (edited d t (name k y) (Down fade delay))
    unfolding family_ask family_of basic_ask secondary_ask obeyed_ask augments times_of change_ask acted
    down_step qs =
        keyed d now t (bytes "DOWN") (time_text fade ∷ delay_words delay) qs keyword_down
        ∙ ap (acted d now t)
        (cond-true (has_times k) _ _ h
        ∙ ap (change_ask (name k y)) (fade_of_lem (λ a b. Down a b) fade delay hf hd (drop 1 qs)))

    pub down_does : Does d now t (bytes "DOWN " ++ (time_text fade ++ delay_text delay)) now (edited d t (name k y) (Down fade delay))
    down_does = does_of (down_line fade delay hf hd) d now t now (edited d t (name k y) (Down fade delay)) down_step

  module _ (h : has_link k ≡ true) where
    module _ (time : ℕ) (l : time ≤ time_max) where
      followon_step : (qs : List ℕ) → step_of d now (spelled (bytes "FOLLOWON" ∷ time_text time ∷ delay_words 0) qs) t ≡ ended now Obeyed (edited d t (name k y) (Followon time))
      unfolding family_ask family_of basic_ask spelled secondary_ask obeyed_ask augments times_of change_ask acted on_time
      followon_step qs =
          let w : Word = word (time_text time) (get_or (drop 1 qs) 0 0) in
          keyed d now t (bytes "FOLLOWON") (time_text time ∷ delay_words 0) qs keyword_followon
          ∙ ap (acted d now t)
          (cond-true (has_link k) _ _ h
          ∙ ap (λ (x : Option ℕ). change_ask (name k y) (on_time w x (λ a. Ok (Followon a)))) (time_read time l))

      pub followon_does : Does d now t (bytes "FOLLOWON " ++ (time_text time ++ delay_text 0)) now (edited d t (name k y) (Followon time))
      followon_does = does_of (followon_line time 0 l (omega arith)) d now t now (edited d t (name k y) (Followon time)) followon_step

    module _ (whole fraction : ℕ) (o : ok_number whole fraction ≡ true) where
      link_step : (qs : List ℕ) → step_of d now (spelled (bytes "LINK" ∷ number_text whole fraction ∷ []) qs) t ≡ ended now Obeyed (edited d t (name k y) (Link whole fraction))
      unfolding family_ask family_of basic_ask spelled secondary_ask obeyed_ask augments times_of change_ask acted link_by numbered_by
      link_step qs =
          let n = ok_number_lem whole fraction o in
          let w : Word = word (number_text whole fraction) (get_or (drop 1 qs) 0 0) in
          keyed d now t (bytes "LINK") (number_text whole fraction ∷ []) qs keyword_link
          ∙ ap (acted d now t)
          (cond-true (has_link k) _ _ h
          ∙ ap (λ (x : Result Number NumberError). change_ask (name k y) (link_by (numbered_by w x))) (number_read whole fraction n.1 n.2 (λ e. omega (arith, n.0))))

      pub link_does : Does d now t (bytes "LINK " ++ number_text whole fraction) now (edited d t (name k y) (Link whole fraction))
      link_does = does_of (link_line_lem whole fraction (ok_number_lem whole fraction o).1) d now t now (edited d t (name k y) (Link whole fraction)) link_step

  module _ (r : InRange d) (ps : List Lit) (a : AllLit d ps) where
    chan_step : (qs : List ℕ) → step_of d now (spelled (bytes "CHAN" ∷ pair_words ps) qs) t ≡ ended now Obeyed (edited_all d t (name k y) (lit_edits ps))
    unfolding family_ask family_of basic_ask secondary_ask obeyed_ask augments acted
    chan_step qs =
        keyed d now t (bytes "CHAN") (pair_words ps) qs keyword_chan
        ∙ ap (acted d now t)
        (ap (λ (es : List Entry). items (memory (name k y)) es) (pairs_of_lem d r ps a (drop 1 qs)))
        ∙ (λ i. record { state = now; outcome = Obeyed; faults = lit_faults ps i; store = lit_done d (name k y) ps t i })

    pub chan_does : length ps ≤ 8 → Does d now t (bytes "CHAN" ++ pairs_text ps) now (edited_all d t (name k y) (lit_edits ps))
    chan_does l = does_of (chan_line d r.channels.1 ps a l) d now t now (edited_all d t (name k y) (lit_edits ps)) chan_step
