-- What a record asks for, told apart from the store: which memory it opens, which change, which items, what it clears, or nothing, with
-- the outcome that it comes to then (paper 01, "Keywords and conditions"; §6.3, §8 to §10). Fields are tested left to right, and the first
-- fault is the one reported.
-- Assumes nothing.
use Rattle.std.specs.Prelude.{Bool, true, cond, ◌&&◌, List, [], ◌∷◌, ◌++◌, ℕ, eqb, ltb, leb, length, Err, None, Ok, Option, Result, Some}
use Rattle.store_desk.specs.declared.Desk.{Desk}
use Rattle.store_desk.specs.declared.Key.{Key}
use Rattle.store_desk.specs.declared.Kind.{Kind}
use Rattle.store_desk.specs.declared.Kind.TheVariants.{Cue, Group, Sub}
use Rattle.store_desk.specs.Size.{is_within}
use Rattle.store_desk.specs.Name.{Name, pages_of, supported}
use Rattle.text_records.specs.Received.{longest}
use Rattle.text_fields.specs.declared.Keyword.{Keyword}
use Rattle.text_fields.specs.declared.Keyword.TheVariants as key
use Rattle.text_fields.specs.declared.Item.{Item}
use Rattle.text_fields.specs.declared.Item.TheVariants.{All, Cues, Groups, Patch as Patches, Subs, Local as LocalItem, Other}
use Rattle.text_fields.specs.Words.{Word, fields_of, head_of, tail_of}
use Rattle.text_fields.specs.Keywords.{keyword_of, item_of}
use Rattle.value.specs.Integer.{cap, integer_of}
use Rattle.value.specs.Number.{number_of, number}
use Rattle.value.specs.Time.{time_of}
use Rattle.value.specs.Field.{version_of, page_of}
use Rattle.store.specs.declared.Edit.{Edit}
use Rattle.store.specs.declared.Edit.TheVariants.{Up as SetUp, Down as SetDown, Followon as SetFollowon, Link as SetLink}
use Rattle.store.specs.Change.{every_page}
use Rattle.store.specs.Form.{has_times, has_link}
use Rattle.load.specs.declared.Entry.{Entry}
use Rattle.load.specs.Item.{blame, blame_none, pairs_of, triples_of, Target, memory, page}
use Rattle.load.specs.declared.Open.{Open}
use Rattle.load.specs.declared.Open.TheVariants.{Nothing, Skipping, Memory}
use Rattle.load.specs.declared.State.{State}
use Rattle.load.specs.declared.Outcome.{Outcome}
use Rattle.load.specs.declared.Outcome.TheVariants.{Blank, Passed, Dropped, Obeyed, Stopped}
use Rattle.load.specs.declared.Secondary.{Secondary}
use Rattle.load.specs.declared.Secondary.TheVariants.{Chan, Up, Down, Followon, Link}
use Rattle.load.specs.declared.Family.{Family}
use Rattle.load.specs.declared.Family.TheVariants.{Primary, Augments, Basic as Basically}
use Rattle.load.specs.declared.Basic.{Basic}
use Rattle.load.specs.declared.Basic.TheVariants.{Ident, Clear, Patch, Enddata, Passed as PassedOver, Local, Unknown}
use Rattle.load.specs.Condition.{bad_number, number_too_large, bad_page, bad_sub, malformed_sub, unsupported_of}
use Rattle.load.specs.Condition.{over_long_record, ident_mismatch, unknown_keyword, unknown_item, wrong_secondary, bad_patch_page}
use Rattle.load.specs.Condition.{bad_time}
use Rattle.load.specs.declared.Fault.{Fault}
use Rattle.value.specs.declared.Number.{Number}
use Rattle.value.specs.declared.NumberError.{NumberError}
use Rattle.value.specs.declared.Version.{Version}
use Rattle.value.specs.declared.NumberError.TheVariants.{Malformed as BadNumber, TooLarge}

-- ---- the asks

abbrev pub name : Kind → Key → Name
name k key = record { kind = k; key = key }

-- what a CLEAR removes: the memories of a kind, or patched dimmers, of a page or of every page
pub data Wipe : Type 0 where
  table : Kind → ℕ → Wipe
  dimmers : ℕ → Wipe

pub data Ask : Type 0 where
  -- nothing of the store, and what is open stays open
  rests : Outcome → Ask
  -- nothing of the store, and what follows is skipped
  skips : Outcome → Ask
  -- a memory afresh, under its key
  opens : Kind → Key → Ask
  -- a change of the open memory
  edits : Name → Edit → Ask
  -- levels of the open memory, or dimmers of a page: obeyed, whatever is dropped of them
  items : Target → List Entry → Ask
  -- tables, or pages of them, removed
  clears : List Wipe → Ask

-- ---- primaries: support, then number, page; room is the store's to tell

-- §7.4
unfoldable pub numbered_by : Word → Result Number NumberError → Result Number Fault
numbered_by w (Err BadNumber) = Err (blame w bad_number)
numbered_by w (Err TooLarge) = Err (blame w number_too_large)
numbered_by w (Ok n) = Ok n

-- §9.3: a submaster is 1 to the highest
unfoldable pub sub_by : Desk → Word → Option ℕ → Result Number Fault
sub_by d w None = Err (blame w malformed_sub)
sub_by d w (Some n) = cond (is_within 1 n d.subs) (Ok (number n 0)) (Err (blame w bad_sub))

unfoldable pub numeral_of : Desk → Kind → Word → Result Number Fault
numeral_of d Cue w = numbered_by w (number_of w.chars)
numeral_of d Group w = numbered_by w (number_of w.chars)
numeral_of d Sub w = sub_by d w (integer_of w.chars)

-- the page of the next field, or another where there is none
unfoldable pub page_at : ℕ → ℕ → List Word → Option ℕ
page_at other limit [] = Some other
page_at other limit (w ∷ ws) = page_of limit w.chars

unfoldable pub named_by : Result Number Fault → Word → Option ℕ → Result Key Fault
named_by (Err f) w p = Err f
named_by (Ok n) w None = Err (blame w bad_page)
named_by (Ok n) w (Some p) = Ok (record { page = p; whole = n.whole; fraction = n.fraction })

unfoldable pub named_of : Desk → Kind → List Word → Result Key Fault
named_of d k ws = named_by (numeral_of d k (head_of ws)) (head_of (tail_of ws)) (page_at 1 (pages_of d k) (tail_of ws))

unfoldable pub named_ask : Kind → Result Key Fault → Ask
named_ask k (Err f) = skips (Dropped f)
named_ask k (Ok key) = opens k key

-- a refused primary starts skipping; what the desk has none of is blamed on the keyword
unfoldable pub primary_ask : Desk → Kind → Word → List Word → Ask
primary_ask d k w ws = cond (supported d k) (named_ask k (named_of d k ws)) (skips (Dropped (blame w (unsupported_of k))))

-- ---- secondaries

-- the table of §6.3: CHAN for all; UP and DOWN for cues and submasters; FOLLOWON and LINK for cues
unfoldable pub augments : Kind → Secondary → Bool
augments k Chan = true
augments k Up = has_times k
augments k Down = has_times k
augments k Followon = has_link k
augments k Link = has_link k

unfoldable pub on_time : Word → Option ℕ → (ℕ → Result Edit Fault) → Result Edit Fault
on_time w None f = Err (blame w bad_time)
on_time w (Some t) f = f t

-- the optional delay, else 0
unfoldable pub delay_of : List Word → Option ℕ
delay_of [] = Some 0
delay_of (w ∷ ws) = time_of w.chars

-- UP, DOWN: fade, optional delay
unfoldable pub fade_of : (ℕ → ℕ → Edit) → List Word → Result Edit Fault
fade_of f ws =
    on_time (head_of ws) (time_of (head_of ws).chars)
    (λ fade. on_time (head_of (tail_of ws)) (delay_of (tail_of ws)) (λ delay. Ok (f fade delay)))

unfoldable pub link_by : Result Number Fault → Result Edit Fault
link_by (Err f) = Err f
link_by (Ok n) = Ok (SetLink n.whole n.fraction)

-- UP, DOWN, FOLLOWON, LINK: the change that the fields ask for. CHAN asks for items, and never comes here
unfoldable pub times_of : Secondary → List Word → Result Edit Fault
times_of Chan ws = Err (blame_none 0)
times_of Up ws = fade_of (λ fade delay. SetUp fade delay) ws
times_of Down ws = fade_of (λ fade delay. SetDown fade delay) ws
times_of Followon ws = on_time (head_of ws) (time_of (head_of ws).chars) (λ t. Ok (SetFollowon t))
times_of Link ws = link_by (numbered_by (head_of ws) (number_of (head_of ws).chars))

unfoldable pub change_ask : Name → Result Edit Fault → Ask
change_ask n (Err f) = rests (Dropped f)
change_ask n (Ok e) = edits n e

unfoldable pub obeyed_ask : Desk → Name → Secondary → List Word → Ask
obeyed_ask d n Chan ws = items (memory n) (pairs_of d ws)
obeyed_ask d n Up ws = change_ask n (times_of Up ws)
obeyed_ask d n Down ws = change_ask n (times_of Down ws)
obeyed_ask d n Followon ws = change_ask n (times_of Followon ws)
obeyed_ask d n Link ws = change_ask n (times_of Link ws)

-- with none open, or one that it does not apply to: 0152, blamed on the keyword; while skipping: passed silently
unfoldable pub secondary_ask : Desk → Key → Open → Secondary → Word → List Word → Ask
secondary_ask d key Nothing e w ws = rests (Dropped (blame w wrong_secondary))
secondary_ask d key Skipping e w ws = rests Passed
secondary_ask d key (Memory k) e w ws =
    cond (augments k e) (obeyed_ask d (name k key) e ws) (rests (Dropped (blame w wrong_secondary)))

-- ---- CLEAR

-- a page that is malformed, 0 or beyond the table's drops the record
unfoldable pub paged_ask : Word → Option ℕ → (ℕ → List Wipe) → Ask
paged_ask w None f = rests (Dropped (blame w bad_page))
paged_ask w (Some p) f = clears (f p)

-- clearing an unsupported kind does nothing, and its page is not looked at
unfoldable pub kind_ask : Desk → Kind → List Word → Ask
kind_ask d k ws =
    cond (supported d k) (paged_ask (head_of ws) (page_at every_page (pages_of d k) ws) (λ p. table k p ∷ [])) (rests Obeyed)

unfoldable pub dimmers_ask : Desk → List Word → Ask
dimmers_ask d ws = paged_ask (head_of ws) (page_at every_page d.patch_pages ws) (λ p. dimmers p ∷ [])

-- the pages of a kind's table; a kind that is not supported has none
unfoldable pub table_pages : Desk → Kind → ℕ
table_pages d k = cond (supported d k) (pages_of d k) 0

-- CLEAR ALL with a page acts on each supported table that has that page
unfoldable pub kind_wipes : Desk → ℕ → Kind → List Wipe
kind_wipes d p k = cond (leb p (table_pages d k)) (table k p ∷ []) []

unfoldable pub dimmer_wipes : Desk → ℕ → List Wipe
dimmer_wipes d p = cond (leb p d.patch_pages) (dimmers p ∷ []) []

unfoldable pub all_wipes : Desk → ℕ → List Wipe
all_wipes d p = dimmer_wipes d p ++ (kind_wipes d p Cue ++ (kind_wipes d p Group ++ kind_wipes d p Sub))

-- if no table has that page, it is wrong
unfoldable pub wipes_ask : Word → List Wipe → Ask
wipes_ask w [] = rests (Dropped (blame w bad_page))
wipes_ask w (x ∷ xs) = clears (x ∷ xs)

unfoldable pub tables_ask : Desk → Word → Option ℕ → Ask
tables_ask d w None = rests (Dropped (blame w bad_page))
tables_ask d w (Some p) = wipes_ask w (all_wipes d p)

-- a page of any size: which tables have it is then asked
unfoldable pub all_ask : Desk → List Word → Ask
all_ask d ws = tables_ask d (head_of ws) (page_at every_page cap ws)

-- a wrong item is blamed on the keyword
unfoldable pub item_ask : Desk → Item → Word → List Word → Ask
item_ask d All w ws = all_ask d ws
item_ask d Cues w ws = kind_ask d Cue ws
item_ask d Groups w ws = kind_ask d Group ws
item_ask d Patches w ws = dimmers_ask d ws
item_ask d Subs w ws = kind_ask d Sub ws
item_ask d LocalItem w ws = rests Obeyed
item_ask d Other w ws = rests (Dropped (blame w unknown_item))

abbrev pub clear_ask : Desk → Word → List Word → Ask
clear_ask d w ws = item_ask d (item_of (head_of ws).chars) w (tail_of ws)

-- ---- PATCH, IDENT

unfoldable pub triples_ask : Desk → Word → Option ℕ → List Word → Ask
triples_ask d w None ws = rests (Dropped (blame w bad_patch_page))
triples_ask d w (Some p) ws = items (page p) (triples_of d ws)

abbrev pub patch_ask : Desk → List Word → Ask
patch_ask d ws = triples_ask d (head_of ws) (page_of d.patch_pages (head_of ws).chars) (tail_of ws)

-- the version that is read
abbrev pub is_three : ℕ → ℕ → Bool
is_three major minor = eqb major 3 && eqb minor 0

unfoldable pub ident_outcome : Word → Option Version → Outcome
ident_outcome w None = Stopped (blame w ident_mismatch)
ident_outcome w (Some v) = cond (is_three v.major v.minor) Obeyed (Stopped (blame w ident_mismatch))

-- ---- the keywords

-- what each begins: a primary record, a secondary one, or a basic one
unfoldable pub family_of : Keyword → Family
family_of key.Ident = Basically Ident
family_of key.Clear = Basically Clear
family_of key.Patch = Basically Patch
family_of key.Cue = Primary Cue
family_of key.Group = Primary Group
family_of key.Sub = Primary Sub
family_of key.Chan = Augments Chan
family_of key.Up = Augments Up
family_of key.Down = Augments Down
family_of key.Followon = Augments Followon
family_of key.Link = Augments Link
family_of key.Enddata = Basically Enddata
family_of key.Manufacturer = Basically PassedOver
family_of key.Console = Basically PassedOver
family_of key.Set = Basically PassedOver
family_of key.Text = Basically PassedOver
family_of key.Part = Basically PassedOver
family_of key.Local = Basically Local
family_of key.Comment = Basically PassedOver
family_of key.Unknown = Basically Unknown

-- a keyword with a single `$` is passed over as the others are, and starts skipping
unfoldable pub basic_ask : Desk → Basic → Word → List Word → Ask
basic_ask d Ident w ws = rests (ident_outcome (head_of ws) (version_of (head_of ws).chars))
basic_ask d Clear w ws = clear_ask d w ws
basic_ask d Patch w ws = patch_ask d ws
basic_ask d Enddata w ws = rests (Stopped (blame_none 0))
basic_ask d PassedOver w ws = rests Passed
basic_ask d Local w ws = skips Passed
basic_ask d Unknown w ws = rests (Dropped (blame w unknown_keyword))

unfoldable pub family_ask : Desk → State → Family → Word → List Word → Ask
family_ask d s (Primary k) w ws = primary_ask d k w ws
family_ask d s (Augments e) w ws = secondary_ask d s.key s.«open» e w ws
family_ask d s (Basically b) w ws = basic_ask d b w ws

-- a record with no field is blank
unfoldable pub fields_ask : Desk → State → List Word → Ask
fields_ask d s [] = rests Blank
fields_ask d s (w ∷ ws) = family_ask d s (family_of (keyword_of w.chars)) w ws

-- ---- a record as received

abbrev pub is_over_long : List ℕ → Bool
is_over_long r = ltb longest (length r)

-- more than 80 characters stop the load, whatever they are
unfoldable pub ask_of : Desk → State → List ℕ → Ask
ask_of d s r = cond (is_over_long r) (rests (Stopped (blame_none over_long_record))) (fields_ask d s (fields_of r))
