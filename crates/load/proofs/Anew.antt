-- What a record asks for in either load, with what holds of it: a memory that is numbered anew has a name that the desk can have, so that
-- every law of a step is by the same seven cases.
-- Assumes nothing.
use Rattle.std.specs.Prelude.{Err, Ok}
use mathlib.Core.Path.{◌≡◌, refl, sym, ap, ◌∙◌, subst}
use mathlib.Core.Bool.{true, false, cond}
use mathlib.Core.List.{List, [], ◌∷◌}
use Prim.Native.Nat.{ℕ, suc, ◌+◌, ◌*◌, ◌%◌, ◌≤◌, ◌<◌}
use native.Mathlib.Nat.{mod-lt, zero-mul}
use native.Mathlib.Omega.{arith}
use lib.Dec.{leb, lit<}
use lib.ListN.{length}
use borrow.Author.Tests.{leb-true, lt-ltb, ltb-true}
use Rattle.cells.proofs.Split.{by_test, by_bool, by_eq, cond-false, cond_same}
use Rattle.store_desk.specs.declared.Desk.{Desk}
use Rattle.store_desk.specs.declared.Kind.{Kind}
use Rattle.store_desk.specs.declared.Kind.TheVariants.{Cue, Group, Sub}
use Rattle.store_desk.specs.Size.{Within, sub_slots}
use Rattle.store_desk.specs.Name.{pages_of, slot_count, supported, ok_number, ok_within, ok_page, ok_name}
use Rattle.store_desk.proofs.Size.{within_true, all_more, all_none}
use Rattle.store_desk.proofs.Name.{number_low}
use Rattle.text_records.specs.Cleaning.{kept_of}
use Rattle.text_fields.specs.Words.{Word, words_in, words_of, fields_of, head_of, tail_of}
use Rattle.text_fields.specs.Keywords.{keyword_of, item_of}
use Rattle.value.specs.Number.{whole_max}
use Rattle.load.specs.declared.Family.{Family}
use Rattle.load.specs.declared.Family.TheVariants.{Primary, Augments, Basic as Basically}
use Rattle.load.specs.declared.Fault.{Fault}
use Rattle.load.specs.declared.Heard.{Heard}
use Rattle.load.specs.declared.Heard.TheVariants.{Other, Accepted as Taken, Refused as NotTaken, Link as Asked}
use Rattle.load.specs.declared.Numbers.{Numbers}
use Rattle.load.specs.declared.Outcome.{Outcome}
use Rattle.load.specs.declared.Outcome.TheVariants.{Blank, Obeyed, Dropped, Stopped}
use Rattle.load.specs.declared.State.{State}
use Rattle.load.specs.Condition.{unsupported_of, over_long_record}
use Rattle.load.specs.Item.{blame, blame_none}
use Rattle.load.specs.Ask.{Ask, rests, skips, name, named_ask, primary_ask, secondary_ask, item_ask, family_of, basic_ask, family_ask, fields_ask, is_over_long, ask_of}
use Rattle.load.specs.Anew.{last_number, next_key, accepted_of, one_more, beyond_of, next_named, anew_primary_ask, asks_link, is_clear, anew_family_ask, family_ask_in, fields_ask_in, ask_in}
use Rattle.load.specs.Anew.{fields_heard, heard_in, numbered}
use Rattle.load.specs.Step.{Step, acted, record_step}
use Rattle.load.specs.Translated.{step_in, numbers_after_of, run_in, Note, notes_in}
use Rattle.load.specs.Fits.{primary_ask_in, most_records, NumbersFit}
use Rattle.load.specs.Run.{condition_span, Run, stops, only, and_then, run_from}
use Rattle.load.proofs.Read.{NamedOk, sub_within}
use Rattle.load.proofs.Deed.{Deed, resting, skipping, full_fits, unsupported_fits, dropped_idles, named_deed, primary_deed, item_deed, secondary_deed, basic_deed, family_deed}

-- ---- the next name is one that the desk can have
-- a desk that supports the kind has numbers for it
pub some_number : (d : Desk) (k : Kind) → supported d k ≡ true → 0 < last_number d k
unfolding supported slot_count last_number sub_slots
some_number d Cue e = lit< tt
some_number d Group e = lit< tt
some_number d Sub e =
    let h : 0 < d.subs * d.sub_pages = ltb-true 0 (d.subs * d.sub_pages) e in
    by_eq d.subs 0
    (λ z.
    let g : 0 < 0 * d.sub_pages = subst (λ (n : ℕ). 0 < n * d.sub_pages) z h in
    let l : 0 * d.sub_pages ≡ 0 = zero-mul d.sub_pages in
    absurd (omega arith))
    (λ z. omega arith)

number_within : (w : ℕ) → Within 1 w whole_max → ok_number w 0 ≡ true
number_within w h = sym (number_low w 0 h.1 (omega arith)) ∙ lt-ltb 0 (w + 0) (omega arith)

within_last : (d : Desk) (k : Kind) (p w : ℕ) → Within 1 w (last_number d k) → ok_within d k (record { page = p; whole = w; fraction = 0 }) ≡ true
unfolding last_number ok_within
within_last d Cue p w h = number_within w h
within_last d Group p w h = number_within w h
within_last d Sub p w h = sub_within d w h

module _ (d : Desk) (k : Kind) (e : supported d k ≡ true) where
  next_ok : (n : ℕ) → (next_key d k n).page ≤ pages_of d k → ok_name d (name k (next_key d k n)) ≡ true
  unfolding next_key ok_name ok_page
  next_ok n h =
      let m : n % last_number d k < last_number d k = mod-lt n (some_number d k e) in
      let w : Within 1 (n % last_number d k + 1) (last_number d k) = (omega arith, omega arith) in
      all_more _ _ e
      (all_more _ _ (within_last d k (next_key d k n).page (n % last_number d k + 1) w)
      (all_more _ _ (within_true 1 (next_key d k n).page (pages_of d k) (omega arith, h)) all_none))

  beyond_fits : (w : Word) → (beyond_of k w).condition < condition_span
  unfolding beyond_of
  beyond_fits w = fits k
    where
      fits : (j : Kind) → (beyond_of j w).condition < condition_span
      fits Cue = full_fits Cue
      fits Group = full_fits Group
      fits Sub = lit< tt

  pub next_named_ok : (b : Numbers) (ws : List Word) → NamedOk d k (next_named d b k ws)
  unfolding next_named
  next_named_ok b ws =
      let n : ℕ = accepted_of b k in
      by_test (NamedOk d k) (leb (next_key d k n).page (pages_of d k)) (Ok (next_key d k n)) (Err (beyond_of k (head_of ws)))
      (λ h r. next_ok n (leb-true _ _ h))
      (λ h. beyond_fits (head_of ws))

-- ---- what is asked for in either load
module _ (d : Desk) (b : Numbers) (s : State) (n : ℕ) where
  anew_primary_deed : (k : Kind) (w : Word) (ws : List Word) → Deed d s n (anew_primary_ask d b k w ws)
  unfolding anew_primary_ask
  anew_primary_deed k w ws =
      let f : Fault = blame w (unsupported_of k) in
      by_test (Deed d s n) (supported d k) (named_ask k (next_named d b k ws)) (skips (Dropped f))
      (λ e. named_deed d s n k (next_named d b k ws) (next_named_ok d k e b ws))
      (λ e. skipping (Dropped f) (unsupported_fits k) (dropped_idles f))

  pub primary_in_deed : (k : Kind) (w : Word) (ws : List Word) → Deed d s n (primary_ask_in d b k w ws)
  primary_in_deed k w ws =
      by_test (Deed d s n) b.anew (anew_primary_ask d b k w ws) (primary_ask d k w ws)
      (λ e. anew_primary_deed k w ws)
      (λ e. primary_deed d s n k w ws)

module _ (d : Desk) (b : Numbers) (s : State) where
  anew_family_deed : (f : Family) (w : Word) (ws : List Word) → Deed d s (length ws) (anew_family_ask d b s f w ws)
  unfolding anew_family_ask
  anew_family_deed (Primary k) w ws = anew_primary_deed d b s (length ws) k w ws
  anew_family_deed (Augments e) w ws =
      by_test (Deed d s (length ws)) (asks_link s.«open» e) (rests Obeyed) (secondary_ask d s.key s.«open» e w ws)
      (λ h. resting Obeyed tt)
      (λ h. secondary_deed d s ws s.«open» refl e w)
  anew_family_deed (Basically x) w ws =
      by_test (Deed d s (length ws)) (is_clear x) (item_ask d (item_of (head_of ws).chars) w []) (basic_ask d x w ws)
      (λ h. item_deed d s (length ws) (item_of (head_of ws).chars) w [])
      (λ h. basic_deed d s x w ws)

  pub anew_fields_deed : (ws : List Word) → Deed d s (length (tail_of ws)) (fields_ask_in d b s ws)
  unfolding fields_ask_in family_ask_in
  anew_fields_deed [] = resting Blank tt
  anew_fields_deed (w ∷ ws) =
      let f : Family = family_of (keyword_of w.chars) in
      by_test (Deed d s (length ws)) b.anew (anew_family_ask d b s f w ws) (family_ask d s f w ws)
      (λ e. anew_family_deed f w ws)
      (λ e. family_deed d s f w ws)

  pub anew_record_deed : (r : List ℕ) → Deed d s (length (tail_of (fields_of r))) (ask_in d b s r)
  unfolding ask_in
  anew_record_deed r =
      by_test (Deed d s (length (tail_of (fields_of r)))) (is_over_long r) (rests (Stopped (blame_none over_long_record))) (fields_ask_in d b s (fields_of r))
      (λ e. resting (Stopped _) (lit< tt))
      (λ e. anew_fields_deed (fields_of r))

-- ---- where the numbers are as given, it is a normal load
module _ (d : Desk) (b : Numbers) (s : State) where
  fields_given : (ws : List Word) → b.anew ≡ false → fields_ask_in d b s ws ≡ fields_ask d s ws
  unfolding fields_ask_in family_ask_in fields_ask
  fields_given [] e = refl
  fields_given (w ∷ ws) e = cond-false b.anew _ _ e

  ask_given : (r : List ℕ) → b.anew ≡ false → ask_in d b s r ≡ ask_of d s r
  unfolding ask_in ask_of
  ask_given r e = ap (λ (a : Ask). cond (is_over_long r) (rests (Stopped (blame_none over_long_record))) a) (fields_given (fields_of r) e)

  pub step_given : (r t : List ℕ) → b.anew ≡ false → step_in d b s r t ≡ record_step d s r t
  unfolding step_in record_step
  step_given r t e = ap (λ (a : Ask). acted d s t a) (ask_given r e)

-- of which nothing is heard
pub heard_given : (b : Numbers) (r : List ℕ) (o : Outcome) → b.anew ≡ false → heard_in b r o ≡ Other
unfolding heard_in
heard_given b r o e = cond-false b.anew _ _ e

numbers_given : (b : Numbers) (r : List ℕ) (x : Step) → b.anew ≡ false → numbers_after_of b r x ≡ b
unfolding numbered
numbers_given b r x e = ap (λ (h : Heard). numbered b h) (heard_given b r x.outcome e)

pub run_given : (d : Desk) (n : ℕ) (b : Numbers) (s : State) (t : List ℕ) (rs : List (List ℕ)) → b.anew ≡ false
    → run_in d n b s t rs ≡ run_from d n s t rs
unfolding run_in run_from
run_given d n b s t [] e = refl
run_given d n b s t (r ∷ rs) e =
    let x : Step = step_in d b s r t in
    let q : x ≡ record_step d s r t = step_given d b s r t e in
    let rest : run_in d (n + 1) (numbers_after_of b r x) x.state x.store rs ≡ run_from d (n + 1) (record_step d s r t).state (record_step d s r t).store rs =
    ap (λ (c : Numbers). run_in d (n + 1) c x.state x.store rs) (numbers_given b r x e)
    ∙ run_given d (n + 1) b x.state x.store rs e
    ∙ ap (λ (y : Step). run_from d (n + 1) y.state y.store rs) q in
    λ i. cond (stops (q i).outcome) (only (n + 1) r (q i)) (and_then (n + 1) r (q i) (rest i))

-- ---- what is heard of a record
-- an empty record, and an over-long one, says nothing
pub heard_empty : (b : Numbers) (o : Outcome) → heard_in b [] o ≡ Other
unfolding heard_in fields_heard kept_of fields_of words_of words_in
heard_empty b o = cond_same b.anew Other

pub heard_long : (b : Numbers) (r : List ℕ) (o : Outcome) → is_over_long r ≡ true → heard_in b r o ≡ Other
unfolding heard_in
heard_long b r o e = rw e (cond_same b.anew Other)

-- one more record, and of each kind at most one more
pub record NumbersAt (n : ℕ) (b : Numbers) : Type 0 where
  pub cues : b.cues ≤ n
  pub groups : b.groups ≤ n
  pub subs : b.subs ≤ n

pub numbers_fit : (n : ℕ) {b : Numbers} → n ≤ most_records → NumbersAt n b → NumbersFit b
numbers_fit n l h =
    let c = h.cues in
    let g = h.groups in
    let s = h.subs in
    record { cues = omega arith; groups = omega arith; subs = omega arith }

pub numbered_at : (n : ℕ) (b : Numbers) (h : Heard) → NumbersAt n b → NumbersAt (n + 1) (numbered b h)
unfolding numbered
numbered_at n b h g = at h
  where
    more : NumbersAt (n + 1) b
    more =
        let c = g.cues in
        let q = g.groups in
        let s = g.subs in
        record { cues = omega arith; groups = omega arith; subs = omega arith }

    one : (k : Kind) → NumbersAt (n + 1) (one_more b k)
    one Cue = unfold one_more in (let c = g.cues in record { cues = omega arith; groups = more.groups; subs = more.subs })
    one Group = unfold one_more in (let c = g.groups in record { cues = more.cues; groups = omega arith; subs = more.subs })
    one Sub = unfold one_more in (let c = g.subs in record { cues = more.cues; groups = more.groups; subs = omega arith })

    at : (x : Heard) → NumbersAt (n + 1) (numbered b x)
    at Other = more
    at (Taken k) = one k
    at (NotTaken k) = more
    at (Asked m) = more

-- a note for each record that was read
pub notes_count : (d : Desk) (n : ℕ) (b : Numbers) (s : State) (t : List ℕ) (rs : List (List ℕ))
    → length (notes_in d b s t rs) ≡ length (run_in d n b s t rs).outcomes
unfolding notes_in run_in
notes_count d n b s t [] = refl
notes_count d n b s t (r ∷ rs) =
    let x : Step = step_in d b s r t in
    let ns : List Note = notes_in d (numbers_after_of b r x) x.state x.store rs in
    let more : Run = run_in d (n + 1) (numbers_after_of b r x) x.state x.store rs in
    let ih : length ns ≡ length more.outcomes = notes_count d (n + 1) (numbers_after_of b r x) x.state x.store rs in
    by_bool (stops x.outcome) (λ e. rw e) (λ e. rw e (ap suc ih))
