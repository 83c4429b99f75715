-- What a record asks for in a load with translation, and what is heard of it beside that (paper 02, C-13; §6.4). Cues, groups and submasters are
-- numbered anew as they are accepted; every other record is as ever.
-- Assumes nothing.
use Rattle.std.specs.Prelude.{Bool, true, false, cond, ◌&&◌, List, [], ◌∷◌, ℕ, ◌+◌, ◌/◌, ◌%◌, leb, Err, Ok, Result}
use Rattle.store_desk.specs.declared.Desk.{Desk}
use Rattle.store_desk.specs.declared.Key.{Key}
use Rattle.store_desk.specs.declared.Kind.{Kind}
use Rattle.store_desk.specs.declared.Kind.TheVariants.{Cue, Group, Sub}
use Rattle.store_desk.specs.Name.{pages_of, supported}
use Rattle.text_fields.specs.Words.{Word, fields_of, head_of}
use Rattle.text_fields.specs.Keywords.{keyword_of, item_of}
use Rattle.value.specs.Number.{whole_max, borne_of}
use Rattle.store.specs.Form.{has_link}
use Rattle.load.specs.declared.Basic.{Basic}
use Rattle.load.specs.declared.Basic.TheVariants.{Ident, Clear, Patch, Enddata, Passed as PassedOver, Local, Unknown}
use Rattle.load.specs.declared.Family.{Family}
use Rattle.load.specs.declared.Family.TheVariants.{Primary, Augments, Basic as Basically}
use Rattle.load.specs.declared.Fault.{Fault}
use Rattle.load.specs.declared.Heard.{Heard}
use Rattle.load.specs.declared.Heard.TheVariants.{Other, Accepted, Refused, Link as Asked}
use Rattle.load.specs.declared.Numbers.{Numbers}
use Rattle.load.specs.declared.Open.{Open}
use Rattle.load.specs.declared.Open.TheVariants.{Nothing, Skipping, Memory}
use Rattle.load.specs.declared.Outcome.{Outcome}
use Rattle.load.specs.declared.Outcome.TheVariants.{Blank, Passed, Dropped, Obeyed, Stopped}
use Rattle.load.specs.declared.Secondary.{Secondary}
use Rattle.load.specs.declared.Secondary.TheVariants.{Chan, Up, Down, Followon, Link}
use Rattle.load.specs.declared.State.{State}
use Rattle.load.specs.Condition.{full_of, bad_sub, unsupported_of, over_long_record}
use Rattle.load.specs.Item.{blame, blame_none}
use Rattle.load.specs.Ask.{Ask, rests, skips, named_ask, secondary_ask, item_ask, family_of, basic_ask, family_ask, is_over_long}

-- ---- the numbering: whole numbers 1, 2, 3 on page 1, then on page 2 once the page's last is used

-- the last number of a page: 999, and for submasters the highest
unfoldable pub last_number : Desk → Kind → ℕ
last_number d Cue = whole_max
last_number d Group = whole_max
last_number d Sub = d.subs

-- the key of the one that is accepted after n others of its kind
unfoldable pub next_key : Desk → Kind → ℕ → Key
next_key d k n = record { page = n / last_number d k + 1; whole = n % last_number d k + 1; fraction = 0 }

-- how many of a kind were accepted, and one more of it
unfoldable pub accepted_of : Numbers → Kind → ℕ
accepted_of n Cue = n.cues
accepted_of n Group = n.groups
accepted_of n Sub = n.subs

unfoldable pub one_more : Numbers → Kind → Numbers
one_more n Cue = record { anew = n.anew; cues = n.cues + 1; groups = n.groups; subs = n.subs }
one_more n Group = record { anew = n.anew; cues = n.cues; groups = n.groups + 1; subs = n.subs }
one_more n Sub = record { anew = n.anew; cues = n.cues; groups = n.groups; subs = n.subs + 1 }

-- ---- what a record asks for

-- beyond the last page: 0021 and 0022, which blame no field, or 0044, which blames the number
unfoldable pub beyond_of : Kind → Word → Fault
beyond_of Cue w = blame_none (full_of Cue)
beyond_of Group w = blame_none (full_of Group)
beyond_of Sub w = blame w bad_sub

-- CUE, GROUP, SUB: their fields do not name them
unfoldable pub next_named : Desk → Numbers → Kind → List Word → Result Key Fault
next_named d n k ws =
    let key = next_key d k (accepted_of n k) in
    cond (leb key.page (pages_of d k)) (Ok key) (Err (beyond_of k (head_of ws)))

unfoldable pub anew_primary_ask : Desk → Numbers → Kind → Word → List Word → Ask
anew_primary_ask d n k w ws = cond (supported d k) (named_ask k (next_named d n k ws)) (skips (Dropped (blame w (unsupported_of k))))

-- LINK in an open cue is obeyed, whatever it asks for; where it leads is told when the load ends
unfoldable pub is_link : Secondary → Bool
is_link Chan = false
is_link Up = false
is_link Down = false
is_link Followon = false
is_link Link = true

unfoldable pub links_in : Open → Bool
links_in Nothing = false
links_in Skipping = false
links_in (Memory k) = has_link k

abbrev pub asks_link : Open → Secondary → Bool
asks_link o e = links_in o && is_link e

-- CLEAR's page is ignored: it clears every page
unfoldable pub is_clear : Basic → Bool
is_clear Ident = false
is_clear Clear = true
is_clear Patch = false
is_clear Enddata = false
is_clear PassedOver = false
is_clear Local = false
is_clear Unknown = false

unfoldable pub anew_family_ask : Desk → Numbers → State → Family → Word → List Word → Ask
anew_family_ask d n s (Primary k) w ws = anew_primary_ask d n k w ws
anew_family_ask d n s (Augments e) w ws = cond (asks_link s.«open» e) (rests Obeyed) (secondary_ask d s.key s.«open» e w ws)
anew_family_ask d n s (Basically b) w ws = cond (is_clear b) (item_ask d (item_of (head_of ws).chars) w []) (basic_ask d b w ws)

-- in either load
unfoldable pub family_ask_in : Desk → Numbers → State → Family → Word → List Word → Ask
family_ask_in d n s f w ws = cond n.anew (anew_family_ask d n s f w ws) (family_ask d s f w ws)

unfoldable pub fields_ask_in : Desk → Numbers → State → List Word → Ask
fields_ask_in d n s [] = rests Blank
fields_ask_in d n s (w ∷ ws) = family_ask_in d n s (family_of (keyword_of w.chars)) w ws

unfoldable pub ask_in : Desk → Numbers → State → List ℕ → Ask
ask_in d n s r = cond (is_over_long r) (rests (Stopped (blame_none over_long_record))) (fields_ask_in d n s (fields_of r))

-- ---- what is heard of a record, by its outcome

unfoldable pub is_obeyed : Outcome → Bool
is_obeyed Blank = false
is_obeyed Passed = false
is_obeyed (Dropped f) = false
is_obeyed Obeyed = true
is_obeyed (Stopped f) = false

unfoldable pub family_heard : Family → List Word → Outcome → Heard
family_heard (Primary k) ws o = cond (is_obeyed o) (Accepted k) (Refused k)
family_heard (Augments e) ws o = cond (is_obeyed o && is_link e) (Asked (borne_of (head_of ws).chars)) Other
family_heard (Basically b) ws o = Other

unfoldable pub fields_heard : List Word → Outcome → Heard
fields_heard [] o = Other
fields_heard (w ∷ ws) o = family_heard (family_of (keyword_of w.chars)) ws o

-- a normal load hears nothing of it, and of an over-long record nothing is heard
unfoldable pub heard_in : Numbers → List ℕ → Outcome → Heard
heard_in n r o = cond n.anew (cond (is_over_long r) Other (fields_heard (fields_of r) o)) Other

-- an accepted primary uses a number; a refused one uses none
unfoldable pub numbered : Numbers → Heard → Numbers
numbered n Other = n
numbered n (Accepted k) = one_more n k
numbered n (Refused k) = n
numbered n (Asked m) = n
