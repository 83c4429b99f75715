-- What the fields of a record come to on one desk: a name that the desk can have, a page of the table's, a change that the kind can have
-- with values in range; or a condition that fits a report. By cases on each field.
-- Assumes nothing.
use Rattle.std.specs.Prelude.{Err, None, Ok, Option, Result, Some}
use mathlib.Core.Path.{◌≡◌, refl, subst}
use mathlib.Core.Bool.{true, cond}
use mathlib.Core.List.{List, [], ◌∷◌}
use Prim.Native.Nat.{ℕ, ◌≤◌, ◌<◌}
use native.Mathlib.Omega.{arith}
use lib.Dec.{eqb, ltb, lit<}
use borrow.Author.Tests.{ltb-false, eqb-false}
use Rattle.cells.proofs.Split.{by_test}
use Rattle.store_desk.specs.declared.Desk.{Desk}
use Rattle.store_desk.specs.declared.Key.{Key}
use Rattle.store_desk.specs.declared.Kind.{Kind}
use Rattle.store_desk.specs.declared.Kind.TheVariants.{Cue, Group, Sub}
use Rattle.store_desk.specs.Size.{InRange, Within, is_within}
use Rattle.store_desk.specs.Name.{pages_of, supported, ok_sub, ok_within, ok_page, ok_name}
use Rattle.store_desk.proofs.Size.{within, within_true, all_more, all_none}
use Rattle.text_fields.specs.Words.{Word, head_of, tail_of}
use Rattle.value.specs.Integer.{integer_of}
use Rattle.value.specs.Number.{number_of, number}
use Rattle.value.specs.Time.{time_max, time_of}
use Rattle.value.specs.Field.{paged_of, page_of}
use Rattle.store.specs.declared.Edit.{Edit}
use Rattle.store.specs.declared.Edit.TheVariants.{Up as SetUp, Down as SetDown, Followon as SetFollowon, Link as SetLink, Level as SetLevel}
use Rattle.store.specs.Form.{has_link}
use Rattle.store.specs.Memories.{can_have}
use Rattle.store.specs.Fits.{InTime}
use Rattle.load.specs.declared.Secondary.{Secondary}
use Rattle.load.specs.declared.Secondary.TheVariants.{Chan, Up, Down, Followon, Link}
use Rattle.load.specs.Condition.{bad_sub}
use Rattle.load.specs.Item.{blame}
use Rattle.load.specs.Ask.{name, numbered_by, sub_by, numeral_of, page_at, named_by, named_of, augments, on_time, delay_of, fade_of, link_by, times_of}
use Rattle.load.specs.Run.{condition_span}
use Rattle.load.proofs.Ranges.{NumberOk, number_ok, TimeOk, time_ok}
use Rattle.load.specs.declared.Fault.{Fault}
use Rattle.value.specs.declared.Number.{Number}
use Rattle.value.specs.declared.NumberError.{NumberError}
use Rattle.value.specs.declared.NumberError.TheVariants.{Malformed as BadNumber, TooLarge}

-- ---- a memory's number, on whatever page
abbrev pub NumeralOk : Desk → Kind → Result Number Fault → Type 0
NumeralOk d k (Err f) = f.condition < condition_span
NumeralOk d k (Ok n) = (p : ℕ) → ok_within d k (record { page = p; whole = n.whole; fraction = n.fraction }) ≡ true

cue_ok : (d : Desk) (w : Word) (x : Result Number NumberError) → NumberOk x → NumeralOk d Cue (numbered_by w x)
unfolding numbered_by ok_within
cue_ok d w (Err BadNumber) h = lit< tt
cue_ok d w (Err TooLarge) h = lit< tt
cue_ok d w (Ok n) h = λ p. h

group_ok : (d : Desk) (w : Word) (x : Result Number NumberError) → NumberOk x → NumeralOk d Group (numbered_by w x)
unfolding numbered_by ok_within
group_ok d w (Err BadNumber) h = lit< tt
group_ok d w (Err TooLarge) h = lit< tt
group_ok d w (Ok n) h = λ p. h

pub sub_within : (d : Desk) (n : ℕ) → Within 1 n d.subs → ok_sub d n 0 ≡ true
unfolding ok_sub
sub_within d n h = all_more _ _ (within_true 1 n d.subs h) (all_more _ _ refl all_none)

sub_ok : (d : Desk) (w : Word) (i : Option ℕ) → NumeralOk d Sub (sub_by d w i)
unfolding sub_by ok_within
sub_ok d w None = lit< tt
sub_ok d w (Some n) =
    by_test (NumeralOk d Sub) (is_within 1 n d.subs) (Ok (number n 0)) (Err (blame w bad_sub))
    (λ e p. sub_within d n (within 1 n d.subs e))
    (λ e. lit< tt)

pub numeral_ok : (d : Desk) (k : Kind) (w : Word) → NumeralOk d k (numeral_of d k w)
unfolding numeral_of
numeral_ok d Cue w = cue_ok d w (number_of w.chars) (number_ok w.chars)
numeral_ok d Group w = group_ok d w (number_of w.chars) (number_ok w.chars)
numeral_ok d Sub w = sub_ok d w (integer_of w.chars)

-- ---- a page: 1 to the limit, or the other one
abbrev pub PageIn : ℕ → ℕ → Option ℕ → Type 0
PageIn lo limit None = Unit {0}
PageIn lo limit (Some p) = Within lo p limit

paged_in : (lo limit : ℕ) → lo ≤ 1 → (i : Option ℕ) → PageIn lo limit (paged_of limit i)
unfolding paged_of
paged_in lo limit l None = tt
paged_in lo limit l (Some v) =
    by_test (PageIn lo limit) (eqb v 0) None (cond (ltb limit v) None (Some v))
    (λ e. tt)
    (λ e.
    by_test (PageIn lo limit) (ltb limit v) None (Some v)
    (λ g. tt)
    (λ g.
    let z : v ≡ 0 → ⊥ = eqb-false v 0 e in
    let h : v ≤ limit = ltb-false limit v g in
    omega arith))

pub page_in : (lo limit : ℕ) → lo ≤ 1 → (s : List ℕ) → PageIn lo limit (page_of limit s)
unfolding page_of
page_in lo limit l s = paged_in lo limit l (integer_of s)

pub page_at_in : (lo other limit : ℕ) → lo ≤ 1 → Within lo other limit → (ws : List Word) → PageIn lo limit (page_at other limit ws)
unfolding page_at
page_at_in lo other limit l h [] = h
page_at_in lo other limit l h (w ∷ ws) = page_in lo limit l w.chars

-- ---- a desk that supports the kind can have a memory of the name
abbrev pub NamedOk : Desk → Kind → Result Key Fault → Type 0
NamedOk d k (Err f) = f.condition < condition_span
NamedOk d k (Ok key) = InRange d → ok_name d (name k key) ≡ true

first_page : (d : Desk) → InRange d → (k : Kind) → Within 1 1 (pages_of d k)
unfolding pages_of
first_page d h Cue = let l = h.cue_pages_of.0 in omega arith
first_page d h Group = let l = h.group_pages_of.0 in omega arith
first_page d h Sub = let l = h.sub_pages_of.0 in omega arith

named_by_ok : (d : Desk) (k : Kind) → supported d k ≡ true
    → (n : Result Number Fault) (w : Word) (p : Option ℕ) → NumeralOk d k n → (InRange d → PageIn 1 (pages_of d k) p) → NamedOk d k (named_by n w p)
unfolding named_by ok_name ok_page
named_by_ok d k s (Err f) w p h g = h
named_by_ok d k s (Ok n) w None h g = lit< tt
named_by_ok d k s (Ok n) w (Some p) h g =
    λ r. all_more _ _ s (all_more _ _ (h p) (all_more _ _ (within_true 1 p (pages_of d k) (g r)) all_none))

pub named_ok : (d : Desk) (k : Kind) → supported d k ≡ true → (ws : List Word) → NamedOk d k (named_of d k ws)
unfolding named_of
named_ok d k s ws =
    named_by_ok d k s (numeral_of d k (head_of ws)) (head_of (tail_of ws)) (page_at 1 (pages_of d k) (tail_of ws)) (numeral_ok d k (head_of ws))
    (λ r. page_at_in 1 1 (pages_of d k) (omega arith) (first_page d r k) (tail_of ws))

pub accepted_ok : (d : Desk) (k : Kind) → InRange d → supported d k ≡ true → (ws : List Word) {key : Key}
    → named_of d k ws ≡ Ok key → ok_name d (name k key) ≡ true
accepted_ok d k r s ws e = subst (λ (x : Result Key Fault). NamedOk d k x) e (named_ok d k s ws) r

-- ---- what UP, DOWN, FOLLOWON and LINK read is a change that the kind can have, with values in range, and no level
abbrev pub NoLevel : Edit → Type 0
NoLevel (SetUp fade delay) = Unit {0}
NoLevel (SetDown fade delay) = Unit {0}
NoLevel (SetFollowon time) = Unit {0}
NoLevel (SetLink whole fraction) = Unit {0}
NoLevel (SetLevel channel v) = ⊥

abbrev pub ChangeOk : Kind → Edit → Type 0
ChangeOk k e = (can_have k e ≡ true) × InTime e × NoLevel e

abbrev pub ReadingOk : Kind → Result Edit Fault → Type 0
ReadingOk k (Err f) = f.condition < condition_span
ReadingOk k (Ok e) = ChangeOk k e

abbrev EditOk : Kind → (ℕ → ℕ → Edit) → Type 0
EditOk k f = (fade delay : ℕ) → fade ≤ time_max → delay ≤ time_max → ChangeOk k (f fade delay)

delay_ok : (ws : List Word) → TimeOk (delay_of ws)
unfolding delay_of
delay_ok [] = let z : 0 ≤ time_max = omega arith in z
delay_ok (w ∷ ws) = time_ok w.chars

fade_by : (k : Kind) (f : ℕ → ℕ → Edit) → EditOk k f → (v w : Word) (a b : Option ℕ) → TimeOk a → TimeOk b
    → ReadingOk k (on_time v a (λ fade. on_time w b (λ delay. Ok (f fade delay))))
unfolding on_time
fade_by k f h v w None b x y = lit< tt
fade_by k f h v w (Some a) None x y = lit< tt
fade_by k f h v w (Some a) (Some b) x y = h a b x y

fade_ok : (k : Kind) (f : ℕ → ℕ → Edit) → EditOk k f → (ws : List Word) → ReadingOk k (fade_of f ws)
unfolding fade_of
fade_ok k f h ws =
    fade_by k f h (head_of ws) (head_of (tail_of ws)) (time_of (head_of ws).chars) (delay_of (tail_of ws)) (time_ok (head_of ws).chars) (delay_ok (tail_of ws))

time_by : (k : Kind) → has_link k ≡ true → (w : Word) (a : Option ℕ) → TimeOk a → ReadingOk k (on_time w a (λ t. Ok (SetFollowon t)))
unfolding on_time can_have
time_by k h w None x = lit< tt
time_by k h w (Some a) x = (h, x, tt)

link_by_lem : (k : Kind) → has_link k ≡ true → (w : Word) (x : Result Number NumberError) → NumberOk x → ReadingOk k (link_by (numbered_by w x))
unfolding link_by numbered_by can_have
link_by_lem k h w (Err BadNumber) x = lit< tt
link_by_lem k h w (Err TooLarge) x = lit< tt
link_by_lem k h w (Ok n) x = (h, x, tt)

pub reading_ok : (k : Kind) (e : Secondary) → augments k e ≡ true → (ws : List Word) → ReadingOk k (times_of e ws)
unfolding augments times_of can_have
reading_ok k Chan h ws = lit< tt
reading_ok k Up h ws = fade_ok k (λ fade delay. SetUp fade delay) (λ a b x y. (h, (x, y), tt)) ws
reading_ok k Down h ws = fade_ok k (λ fade delay. SetDown fade delay) (λ a b x y. (h, (x, y), tt)) ws
reading_ok k Followon h ws = time_by k h (head_of ws) (time_of (head_of ws).chars) (time_ok (head_of ws).chars)
reading_ok k Link h ws = link_by_lem k h (head_of ws) (number_of (head_of ws).chars) (number_ok (head_of ws).chars)
