-- An accepted primary has the number that comes after those accepted before it, and its memory is kept afresh. By what the record's keyword
-- begins, and by induction on the records. No number is given twice: it is told from its page and its place there.
-- Assumes nothing.
use Rattle.std.specs.Prelude.{Err, Ok, Result}
use mathlib.Core.Path.{◌≡◌, refl, sym, ap, ◌∙◌, subst}
use mathlib.Core.Bool.{Bool, true, false, cond, ◌&&◌}
use mathlib.Core.List.{List, [], ◌∷◌}
use Prim.Native.Nat.{ℕ, suc, ◌+◌, ◌*◌, ◌/◌, ◌%◌, ◌≤◌, ◌<◌}
use native.Mathlib.Nat.{div-add-mod'}
use native.Mathlib.Omega.{arith}
use lib.Dec.{leb}
use lib.ListN.{take}
use borrow.Author.Tests.{le-leb, lt-leb}
use Rattle.cells.specs.Search.{Found, at, nowhere}
use Rattle.cells.proofs.Split.{by_test, by_bool, cond-true, cond-false, and_false_right}
use Rattle.store_desk.specs.declared.Desk.{Desk}
use Rattle.store_desk.specs.declared.Key.{Key}
use Rattle.store_desk.specs.declared.Kind.{Kind}
use Rattle.store_desk.specs.declared.Kind.TheVariants.{Cue, Group, Sub}
use Rattle.store_desk.specs.Size.{InRange}
use Rattle.store_desk.specs.Name.{pages_of, supported, eq_kind, eq_name, ok_name}
use Rattle.store_desk.proofs.Name.{eq_name_refl}
use Rattle.text_records.specs.Stream.{records_of}
use Rattle.text_fields.specs.Words.{Word, fields_of, head_of, tail_of}
use Rattle.text_fields.specs.Keywords.{same_text, same_word_of, meaning_of, keyword_rows, keyword_of}
use Rattle.store.specs.Change.{seat, started}
use Rattle.store.specs.View.{kept, memory_of}
use Rattle.store.specs.Memories.{blank_memory}
use Rattle.store.specs.Good.{Ready}
use Rattle.store.proofs.Start.{start_view}
use Rattle.load.specs.declared.Family.{Family}
use Rattle.load.specs.declared.Family.TheVariants.{Primary, Augments, Basic as Basically}
use Rattle.load.specs.declared.Heard.{Heard}
use Rattle.load.specs.declared.Heard.TheVariants.{Other, Accepted, Refused, Link as Asked}
use Rattle.load.specs.declared.Numbers.{Numbers}
use Rattle.load.specs.declared.Outcome.{Outcome}
use Rattle.load.specs.declared.Outcome.TheVariants.{Dropped, Obeyed}
use Rattle.load.specs.declared.State.{State}
use Rattle.load.specs.Condition.{unsupported_of, full_of}
use Rattle.load.specs.Item.{blame, blame_none}
use Rattle.load.specs.Ask.{Ask, skips, name, named_ask, family_of, is_over_long}
use Rattle.load.specs.Anew.{last_number, next_key, accepted_of, one_more, beyond_of, next_named, anew_primary_ask, is_link, anew_family_ask, family_ask_in, fields_ask_in, ask_in, is_obeyed, family_heard, fields_heard, heard_in, numbered}
use Rattle.load.specs.Step.{Step, ended, opened, nothing_open, opened_by, acted}
use Rattle.load.specs.Translated.{anew_from_one, step_in}
use Rattle.load.proofs.Read.{NamedOk}
use Rattle.load.proofs.Deed.{dropped_idles}
use Rattle.load.proofs.Anew.{next_named_ok}
use Rattle.load.proofs.Steps.{run_in_ready}
use Rattle.theorem_told.specs.Classes.{begins}
use Rattle.theorem_translated.specs.Numbered.{numbers_by, first_run, numbers_at, record_at, is_primary, is_accepted, accepted_in, key_at, AllNumbered, AllPrimaries, NotTwice}
use Rattle.load.specs.declared.Fault.{Fault}

-- ---- no number twice
pub not_twice : (d : Desk) (k : Kind) → NotTwice d k
unfolding next_key
not_twice d k i j e =
    let m : ℕ = last_number d k in
    let p : i / m + 1 ≡ j / m + 1 = ap (λ (y : Key). y.page) e in
    let w : i % m + 1 ≡ j % m + 1 = ap (λ (y : Key). y.whole) e in
    let q : i / m ≡ j / m = omega arith in
    let r : i % m ≡ j % m = omega arith in
    sym (div-add-mod' i m) ∙ (λ z. q z * m + r z) ∙ div-add-mod' j m

-- ---- what was accepted, told from the records and their outcomes
unfoldable pub is_heard : Kind → Heard → Bool
is_heard k Other = false
is_heard k (Accepted j) = eq_kind k j
is_heard k (Refused j) = false
is_heard k (Asked m) = false

module _ (k : Kind) where
  obeyed_heard : (j : Kind) (b : Bool) → is_heard k (cond b (Accepted j) (Refused j)) ≡ (b && eq_kind k j)
  unfolding is_heard
  obeyed_heard j true = refl
  obeyed_heard j false = refl

  asked_heard : (m : ℕ) (b : Bool) → is_heard k (cond b (Asked m) Other) ≡ false
  unfolding is_heard
  asked_heard m true = refl
  asked_heard m false = refl

  family_heard_lem : (f : Family) (ws : List Word) (o : Outcome) → is_heard k (family_heard f ws o) ≡ (is_obeyed o && is_primary k f)
  unfolding family_heard is_primary is_heard
  family_heard_lem (Primary j) ws o = obeyed_heard j (is_obeyed o)
  family_heard_lem (Augments e) ws o = asked_heard _ (is_obeyed o && is_link e) ∙ sym (and_false_right (is_obeyed o) false refl)
  family_heard_lem (Basically x) ws o = sym (and_false_right (is_obeyed o) false refl)

  fields_heard_lem : (fs : List Word) (o : Outcome) → is_heard k (fields_heard fs o) ≡ (is_obeyed o && is_primary k (family_of (keyword_of (head_of fs).chars)))
  unfolding fields_heard is_heard keyword_of meaning_of keyword_rows same_word_of same_text family_of is_primary
  fields_heard_lem [] o = sym (and_false_right (is_obeyed o) false refl)
  fields_heard_lem (w ∷ ws) o = family_heard_lem (family_of (keyword_of w.chars)) ws o

  pub record_heard : (b : Numbers) → b.anew ≡ true → (r : List ℕ) (o : Outcome) → is_heard k (heard_in b r o) ≡ is_accepted k r o
  unfolding heard_in is_accepted is_heard
  record_heard b e r o =
      ap (is_heard k) (cond-true b.anew (cond (is_over_long r) Other (fields_heard (fields_of r) o)) Other e)
      ∙ by_bool (is_over_long r)
      (λ h.
      ap (is_heard k) (cond-true (is_over_long r) Other (fields_heard (fields_of r) o) h)
      ∙ sym (cond-true (is_over_long r) false (is_obeyed o && is_primary k (begins r)) h))
      (λ h.
      ap (is_heard k) (cond-false (is_over_long r) Other (fields_heard (fields_of r) o) h)
      ∙ fields_heard_lem (fields_of r) o
      ∙ sym (cond-false (is_over_long r) false (is_obeyed o && is_primary k (begins r)) h))

pub numbered-anew : (b : Numbers) (h : Heard) → (numbered b h).anew ≡ b.anew
unfolding numbered one_more
numbered-anew b Other = refl
numbered-anew b (Accepted Cue) = refl
numbered-anew b (Accepted Group) = refl
numbered-anew b (Accepted Sub) = refl
numbered-anew b (Refused k) = refl
numbered-anew b (Asked m) = refl

numbers_anew : (rs : List (List ℕ)) (os : List Outcome) (b : Numbers) → (numbers_by b rs os).anew ≡ b.anew
unfolding numbers_by
numbers_anew [] os b = refl
numbers_anew (r ∷ rs) [] b = refl
numbers_anew (r ∷ rs) (o ∷ os) b = numbers_anew rs os (numbered b (heard_in b r o)) ∙ numbered-anew b (heard_in b r o)

one_more_lem : (b : Numbers) (k j : Kind) → accepted_of (one_more b j) k ≡ cond (eq_kind k j) (accepted_of b k + 1) (accepted_of b k)
unfolding accepted_of one_more eq_kind
one_more_lem b Cue Cue = refl
one_more_lem b Cue Group = refl
one_more_lem b Cue Sub = refl
one_more_lem b Group Cue = refl
one_more_lem b Group Group = refl
one_more_lem b Group Sub = refl
one_more_lem b Sub Cue = refl
one_more_lem b Sub Group = refl
one_more_lem b Sub Sub = refl

pub numbered_more : (b : Numbers) (k : Kind) (h : Heard) → accepted_of (numbered b h) k ≡ cond (is_heard k h) (accepted_of b k + 1) (accepted_of b k)
unfolding numbered is_heard
numbered_more b k Other = refl
numbered_more b k (Accepted j) = one_more_lem b k j
numbered_more b k (Refused j) = refl
numbered_more b k (Asked m) = refl

-- as many as were accepted
numbers_by_lem : (k : Kind) (rs : List (List ℕ)) (os : List Outcome) (b : Numbers) → b.anew ≡ true
    → accepted_of (numbers_by b rs os) k ≡ accepted_of b k + accepted_in k rs os
unfolding numbers_by accepted_in
numbers_by_lem k [] os b e = omega arith
numbers_by_lem k (r ∷ rs) [] b e = omega arith
numbers_by_lem k (r ∷ rs) (o ∷ os) b e =
    let c : Numbers = numbered b (heard_in b r o) in
    let a : Bool = is_accepted k r o in
    let n : ℕ = accepted_in k rs os in
    let m : ℕ = accepted_of b k in
    let x : ℕ = accepted_of c k in
    let ih : accepted_of (numbers_by c rs os) k ≡ x + n = numbers_by_lem k rs os c (numbered-anew b (heard_in b r o) ∙ e) in
    let h : x ≡ cond a (m + 1) m = numbered_more b k (heard_in b r o) ∙ ap (λ (z : Bool). cond z (m + 1) m) (record_heard k b e r o) in
    ih ∙ counted a m n x h
  where
    counted : (a : Bool) (m n x : ℕ) → x ≡ cond a (m + 1) m → x + n ≡ m + cond a (suc n) n
    counted true m n x h = omega arith
    counted false m n x h = omega arith

-- ---- the step of a primary
module _ (d : Desk) (b : Numbers) (t : List ℕ) (k : Kind) (s : State) where
  fields_primary : b.anew ≡ true → (fs : List Word) → family_of (keyword_of (head_of fs).chars) ≡ Primary k
      → fields_ask_in d b s fs ≡ anew_primary_ask d b k (head_of fs) (tail_of fs)
  unfolding fields_ask_in family_ask_in anew_family_ask keyword_of meaning_of keyword_rows same_word_of same_text family_of
  fields_primary e [] f = let z : ◌≡◌ {A = ℕ} 0 1 = cc in absurd (omega arith)
  fields_primary e (w ∷ ws) f = cond-true b.anew _ _ e ∙ ap (λ (x : Family). anew_family_ask d b s x w ws) f

  record_primary : b.anew ≡ true → (r : List ℕ) → is_over_long r ≡ false → begins r ≡ Primary k
      → step_in d b s r t ≡ acted d s t (anew_primary_ask d b k (head_of (fields_of r)) (tail_of (fields_of r)))
  unfolding step_in ask_in
  record_primary e r l f =
      ap (λ (a : Ask). acted d s t a) (cond-false (is_over_long r) _ _ l) ∙ ap (λ (a : Ask). acted d s t a) (fields_primary e (fields_of r) f)

  long_not_obeyed : (r : List ℕ) → is_over_long r ≡ true → (step_in d b s r t).outcome ≡ Obeyed → ⊥
  unfolding step_in ask_in acted
  long_not_obeyed r l h =
      let e = sym (ap (λ (a : Ask). (acted d s t a).outcome) (cond-true (is_over_long r) _ _ l)) ∙ h in
      let z : ◌≡◌ {A = ℕ} 0 1 = cc in
      omega arith

  abbrev next : Key
  next = next_key d k (accepted_of b k)

  module _ (w : Word) (ws : List Word) where
    abbrev came : Outcome
    came = (acted d s t (anew_primary_ask d b k w ws)).outcome

    came_unsupported : supported d k ≡ false → came ≡ Dropped (blame w (unsupported_of k))
    unfolding anew_primary_ask acted
    came_unsupported e = ap (λ (a : Ask). (acted d s t a).outcome) (cond-false (supported d k) _ _ e)

    came_beyond : supported d k ≡ true → pages_of d k < next.page → came ≡ Dropped (beyond_of k (head_of ws))
    unfolding anew_primary_ask next_named named_ask acted
    came_beyond e l =
        ap (λ (a : Ask). (acted d s t a).outcome)
        (cond-true (supported d k) _ _ e ∙ ap (named_ask k) (cond-false (leb next.page (pages_of d k)) _ _ (lt-leb next.page (pages_of d k) l)))

    came-seat : supported d k ≡ true → next.page ≤ pages_of d k → (a : Found) → seat d t (name k next) ≡ a → came ≡ (opened_by d k next a t).outcome
    unfolding anew_primary_ask next_named named_ask acted
    came-seat e l a q =
        ap (λ (x : Ask). (acted d s t x).outcome)
        (cond-true (supported d k) _ _ e ∙ ap (named_ask k) (cond-true (leb next.page (pages_of d k)) _ _ (le-leb next.page (pages_of d k) l)))
        ∙ ap (λ (x : Found). (opened_by d k next x t).outcome) q

  record Opens (x : Step) : Type 0 where
    step : x ≡ ended (opened k next) Obeyed (started d t (name k next))
    place : ℕ
    seated : seat d t (name k next) ≡ at place
    ok : InRange d → ok_name d (name k next) ≡ true

  seat_opens : (InRange d → ok_name d (name k next) ≡ true) → (a : Found) → seat d t (name k next) ≡ a → (opened_by d k next a t).outcome ≡ Obeyed
      → Opens (opened_by d k next a t)
  unfolding opened_by
  seat_opens o (at i) e h = record { step = refl; place = i; seated = e; ok = o }
  seat_opens o nowhere e h = absurd ((dropped_idles (blame_none (full_of k))).0 h)

  named_opens : (ws : List Word) → NamedOk d k (next_named d b k ws) → (acted d s t (named_ask k (next_named d b k ws))).outcome ≡ Obeyed
      → Opens (acted d s t (named_ask k (next_named d b k ws)))
  unfolding next_named named_ask acted
  named_opens ws =
      by_test (λ (x : Result Key Fault). NamedOk d k x → (acted d s t (named_ask k x)).outcome ≡ Obeyed → Opens (acted d s t (named_ask k x)))
      (leb next.page (pages_of d k)) (Ok next) (Err (beyond_of k (head_of ws)))
      (λ e o h. seat_opens o (seat d t (name k next)) refl h)
      (λ e o h. absurd ((dropped_idles (beyond_of k (head_of ws))).0 h))

  primary_opens : (w : Word) (ws : List Word) → (acted d s t (anew_primary_ask d b k w ws)).outcome ≡ Obeyed
      → Opens (acted d s t (anew_primary_ask d b k w ws))
  unfolding anew_primary_ask acted
  primary_opens w ws =
      by_test (λ (a : Ask). (acted d s t a).outcome ≡ Obeyed → Opens (acted d s t a)) (supported d k) (named_ask k (next_named d b k ws))
      (skips (Dropped (blame w (unsupported_of k))))
      (λ e. named_opens ws (next_named_ok d k e b ws))
      (λ e h. absurd ((dropped_idles (blame w (unsupported_of k))).0 h))

  record_opens : b.anew ≡ true → (r : List ℕ) → begins r ≡ Primary k → (step_in d b s r t).outcome ≡ Obeyed → Opens (step_in d b s r t)
  record_opens e r f o =
      by_bool (is_over_long r)
      (λ l. absurd (long_not_obeyed r l o))
      (λ l.
      let q = record_primary e r l f in
      subst Opens (sym q) (primary_opens (head_of (fields_of r)) (tail_of (fields_of r)) (sym (ap (λ (x : Step). x.outcome) q) ∙ o)))

-- ---- of a load
pub none_yet : (j : Kind) (m : ℕ) → accepted_of anew_from_one j + m ≡ m
unfolding accepted_of
none_yet Cue m = omega arith
none_yet Group m = omega arith
none_yet Sub m = omega arith

module _ (d : Desk) (t stream : List ℕ) (k : Kind) (i : ℕ) where
  anew_at : (numbers_at d t stream i).anew ≡ true
  anew_at = numbers_anew (records_of stream) (first_run d t stream i).outcomes anew_from_one

  key_at_lem : next_key d k (accepted_of (numbers_at d t stream i) k) ≡ key_at d t stream k i
  key_at_lem =
      let os = (first_run d t stream i).outcomes in
      ap (next_key d k) (numbers_by_lem k (records_of stream) os anew_from_one refl ∙ none_yet k (accepted_in k (records_of stream) os))

pub translated_numbered : (d : Desk) (t stream : List ℕ) → Ready d t → AllNumbered d t stream
translated_numbered d t stream ready k i f o =
    let x = first_run d t stream i in
    let b = numbers_at d t stream i in
    let y = record_opens d b x.store k x.state (anew_at d t stream k i) (record_at stream i) f o in
    let r : Ready d x.store = run_in_ready d 0 anew_from_one nothing_open t (take i (records_of stream)) ready in
    let e = key_at_lem d t stream k i in
    let n = name k (next_key d k (accepted_of b k)) in
    let a : memory_of d (started d x.store n) n ≡ kept (blank_memory d n.key) =
    start_view d x.store r n (y.ok r.range) y.place y.seated n ∙ cond-true (eq_name n n) _ _ (eq_name_refl n) in
    record {
      named = ap (λ (z : Step). z.state) y.step ∙ ap (opened k) e;
      afresh = ap (λ (z : Step). memory_of d z.store (name k (key_at d t stream k i))) y.step
          ∙ subst (λ (q : Key). memory_of d (started d x.store n) (name k q) ≡ kept (blank_memory d q)) e a;
    }

pub translated_primaries : (d : Desk) (t stream : List ℕ) → AllPrimaries d t stream
unfolding opened_by
translated_primaries d t stream k i l f =
    let x = first_run d t stream i in
    let b = numbers_at d t stream i in
    let fs = fields_of (record_at stream i) in
    let q = ap (λ (y : Step). y.outcome) (record_primary d b x.store k x.state (anew_at d t stream k i) (record_at stream i) l f) in
    let e = key_at_lem d t stream k i in
    record {
      unsupported = λ u. q ∙ came_unsupported d b x.store k x.state (head_of fs) (tail_of fs) u;
      beyond =
          λ u g.
          q ∙ came_beyond d b x.store k x.state (head_of fs) (tail_of fs) u (subst (λ (y : Key). pages_of d k < y.page) (sym e) g);
      full =
          λ u g h.
          q
          ∙ came-seat d b x.store k x.state (head_of fs) (tail_of fs) u (subst (λ (y : Key). y.page ≤ pages_of d k) (sym e) g) nowhere
          (ap (λ (y : Key). seat d x.store (name k y)) e ∙ h);
      accepted =
          λ u g j h.
          q
          ∙ came-seat d b x.store k x.state (head_of fs) (tail_of fs) u (subst (λ (y : Key). y.page ≤ pages_of d k) (sym e) g) (at j)
          (ap (λ (y : Key). seat d x.store (name k y)) e ∙ h);
    }
