-- CHAN's pairs and PATCH's triples: what each comes to (paper 01, "Keywords and conditions", CHAN and PATCH). A wrong field drops
-- its item; fields are tested left to right and the first fault is reported; an incomplete last item is dropped like one with a
-- malformed field.
-- Assumes nothing.
use Rattle.std.specs.Prelude.{cond, List, [], ◌∷◌, ℕ, Err, None, Ok, Option, Result, Some}
use Rattle.store_desk.specs.declared.Desk.{Desk}
use Rattle.store_desk.specs.Size.{is_within}
use Rattle.store_desk.specs.Name.{Name}
use Rattle.value.specs.Integer.{integer_of}
use Rattle.value_level.specs.Level.{level_of}
use Rattle.text_fields.specs.Words.{Word, missing}
use Rattle.store.specs.declared.Edit.TheVariants.{Level as SetLevel}
use Rattle.store.specs.Change.{edited, patched}
use Rattle.load.specs.declared.Fault.{Fault}
use Rattle.load.specs.declared.Entry.{Entry}
use Rattle.load.specs.declared.Entry.TheVariants.{Level, Patch, Faulty}
use Rattle.load.specs.Condition.{malformed_integer, bad_hex, bad_channel, bad_dimmer, bad_percent}
use Rattle.value_level.specs.declared.LevelError.{LevelError}
use Rattle.value_level.specs.declared.LevelError.TheVariants.{NotPercent, NotHex}

-- a field is blamed, by its place in the record's text; or none is
abbrev pub blame : Word → ℕ → Fault
blame w c = record { condition = c; place = w.place }

abbrev pub blame_none : ℕ → Fault
blame_none c = record { condition = c; place = 0 }

-- an integer from 1 to a limit, and the condition of one beyond it
unfoldable pub ranged_of : ℕ → ℕ → Option ℕ → Result ℕ ℕ
ranged_of limit beyond None = Err malformed_integer
ranged_of limit beyond (Some n) = cond (is_within 1 n limit) (Ok n) (Err beyond)

-- §7.3: a channel is 1 to C
abbrev pub channel_of : Desk → Word → Result ℕ ℕ
channel_of d w = ranged_of d.channels bad_channel (integer_of w.chars)

-- §8.6: a dimmer is 1 to D
abbrev pub dimmer_of : Desk → Word → Result ℕ ℕ
dimmer_of d w = ranged_of d.dimmers bad_dimmer (integer_of w.chars)

-- go on with what a field gives, or blame the field
unfoldable pub on_ranged : Word → Result ℕ ℕ → (ℕ → Entry) → Entry
on_ranged w (Ok n) f = f n
on_ranged w (Err condition) f = Faulty (blame w condition)

unfoldable pub on_level : Word → Result ℕ LevelError → (ℕ → Entry) → Entry
on_level w (Err NotPercent) f = Faulty (blame w bad_percent)
on_level w (Err NotHex) f = Faulty (blame w bad_hex)
on_level w (Ok v) f = f v

-- CHAN: channel, level
unfoldable pub pair_of : Desk → Word → Word → Entry
pair_of d c l = on_ranged c (channel_of d c) (λ n. on_level l (level_of l.chars) (λ v. Level n v))

-- PATCH: channel, dimmer, level
unfoldable pub triple_of : Desk → Word → Word → Word → Entry
triple_of d c m l =
    on_ranged c (channel_of d c) (λ n. on_ranged m (dimmer_of d m) (λ k. on_level l (level_of l.chars) (λ v. Patch n k v)))

-- the items of a record's fields, counted by place; a missing field is the missing word
unfoldable pub pairs_of : Desk → List Word → List Entry
pairs_of d [] = []
pairs_of d (c ∷ []) = pair_of d c missing ∷ []
pairs_of d (c ∷ (l ∷ ws)) = let r = pairs_of d ws in pair_of d c l ∷ r

unfoldable pub triples_of : Desk → List Word → List Entry
triples_of d [] = []
triples_of d (c ∷ []) = triple_of d c missing missing ∷ []
triples_of d (c ∷ (m ∷ [])) = triple_of d c m missing ∷ []
triples_of d (c ∷ (m ∷ (l ∷ ws))) = let r = triples_of d ws in triple_of d c m l ∷ r

-- the faults among the items, in their order
unfoldable pub faults_of : List Entry → List Fault
faults_of [] = []
faults_of (Level n v ∷ es) = faults_of es
faults_of (Patch n k v ∷ es) = faults_of es
faults_of (Faulty f ∷ es) = f ∷ faults_of es

-- ---- what items do to a store

-- CHAN sets levels of the open memory, PATCH patches dimmers on its page
pub data Target : Type 0 where
  memory : Name → Target
  page : ℕ → Target

unfoldable pub done : Desk → Target → List ℕ → Entry → List ℕ
done d (memory n) t (Level channel v) = edited d t n (SetLevel channel v)
done d (memory n) t (Patch channel dimmer v) = t
done d (memory n) t (Faulty f) = t
done d (page p) t (Level channel v) = t
done d (page p) t (Patch channel dimmer v) = patched d t p dimmer channel v
done d (page p) t (Faulty f) = t

-- one after the other: the last level, and a dimmer's last channel, win
unfoldable pub all_done : Desk → Target → List ℕ → List Entry → List ℕ
all_done d target t [] = t
all_done d target t (e ∷ es) = all_done d target (done d target t e) es
