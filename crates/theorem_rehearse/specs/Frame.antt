-- The frame: what a record may change, and nothing else (paper 01, "Keywords and conditions"): one statement a form of what a record asks
-- for. That a record which is not obeyed changes no byte stands in `load` (`untouched`).
-- Assumes nothing.
use Rattle.std.specs.Prelude.{◌≡◌, Bool, false, ◌&&◌, ◌||◌, List, [], ◌∷◌, ℕ, eqb, drop}
use Rattle.store_desk.specs.declared.Desk.{Desk}
use Rattle.store_desk.specs.declared.Key.{Key}
use Rattle.store_desk.specs.declared.Kind.{Kind}
use Rattle.store_desk.specs.Size.{Within, store_length}
use Rattle.store_desk.specs.Name.{Name, eq_name}
use Rattle.store.specs.declared.Edit.{Edit}
use Rattle.store.specs.View.{memory_of, patched_to}
use Rattle.store.specs.Change.{on_page, hits}
use Rattle.store.specs.Good.{Ready}
use Rattle.load.specs.declared.Entry.{Entry}
use Rattle.load.specs.declared.Entry.TheVariants.{Level, Patch, Faulty}
use Rattle.load.specs.declared.Numbers.{Numbers}
use Rattle.load.specs.declared.Open.TheVariants.{Memory}
use Rattle.load.specs.declared.Outcome.{Outcome}
use Rattle.load.specs.declared.State.{State}
use Rattle.load.specs.Item.{memory, page}
use Rattle.load.specs.Ask.{Wipe, table, dimmers, Ask, rests, skips, opens, edits, items, clears, name, ask_of}
use Rattle.load.specs.Anew.{ask_in}
use Rattle.load.specs.Step.{acted}

-- ---- what a CLEAR removes, and what a PATCH names

-- the memories of a kind, on a page or on every page
unfoldable pub wipes_memory : List Wipe → Name → Bool
wipes_memory [] m = false
wipes_memory (table k p ∷ ws) m = hits k p m || wipes_memory ws m
wipes_memory (dimmers p ∷ ws) m = wipes_memory ws m

-- the dimmers of a page or of every page
unfoldable pub wipes_dimmers : List Wipe → ℕ → Bool
wipes_dimmers [] p = false
wipes_dimmers (table k q ∷ ws) p = wipes_dimmers ws p
wipes_dimmers (dimmers q ∷ ws) p = on_page q p || wipes_dimmers ws p

-- the dimmers of good triples
unfoldable pub patches_dimmer : List Entry → ℕ → Bool
patches_dimmer [] q = false
patches_dimmer (Level n v ∷ es) q = patches_dimmer es q
patches_dimmer (Patch n k v ∷ es) q = eqb k q || patches_dimmer es q
patches_dimmer (Faulty x ∷ es) q = patches_dimmer es q

-- ---- between two stores

-- a memory or dimmer that is not named is as it was, and so are the bytes past the needed length
pub record Framed (d : Desk) (t u : List ℕ) (memory : Name → Bool) (dimmer : ℕ → ℕ → Bool) : Type 0 where
  pub memories : (m : Name) → memory m ≡ false → memory_of d u m ≡ memory_of d t m
  pub dimmers : (page q : ℕ) → Within 1 page d.patch_pages → Within 1 q d.dimmers → dimmer page q ≡ false
      → patched_to d u page q ≡ patched_to d t page q
  pub beyond : drop (store_length d) u ≡ drop (store_length d) t

-- one memory, and no dimmer
abbrev pub OnlyMemory : Desk → List ℕ → List ℕ → Name → Type 0
OnlyMemory d t u n = Framed d t u (λ m. eq_name m n) (λ p q. false)

-- no memory, and some dimmers of one page
abbrev pub OnlyDimmers : Desk → List ℕ → List ℕ → ℕ → (ℕ → Bool) → Type 0
OnlyDimmers d t u on dimmer = Framed d t u (λ m. false) (λ p q. eqb on p && dimmer q)

-- ---- the frame, of what a record asks for in a state s on a store t

-- it is the open memory
abbrev pub NamesOpen : State → Name → Type 0
NamesOpen s n = (s.«open» ≡ Memory n.kind) × (n.key ≡ s.key)

-- the store after it
abbrev pub after : Desk → List ℕ → State → Ask → List ℕ
after d t s a = (acted d s t a).store

pub record Framing (d : Desk) (t : List ℕ) (s : State) (a : Ask) : Type 0 where
  -- a primary changes only the memory that it names
  pub opens : (k : Kind) (key : Key) → a ≡ opens k key → Ready d t → OnlyMemory d t (after d t s a) (name k key)
  -- UP, DOWN, FOLLOWON and LINK name the open memory, and change only it
  pub edits : (n : Name) (e : Edit) → a ≡ edits n e → NamesOpen s n × (Ready d t → OnlyMemory d t (after d t s a) n)
  -- so does CHAN
  pub pairs : (n : Name) (es : List Entry) → a ≡ items (memory n) es → NamesOpen s n × (Ready d t → OnlyMemory d t (after d t s a) n)
  -- PATCH changes only the dimmers of its good triples, on its page
  pub triples : (p : ℕ) (es : List Entry) → a ≡ items (page p) es → Ready d t → OnlyDimmers d t (after d t s a) p (patches_dimmer es)
  -- CLEAR changes only what it removes
  pub clears : (ws : List Wipe) → a ≡ clears ws → Ready d t → Framed d t (after d t s a) (wipes_memory ws) (λ p q. wipes_dimmers ws p)
  -- every other record changes no byte, on whatever store
  pub rests : (o : Outcome) → a ≡ rests o → after d t s a ≡ t
  pub skips : (o : Outcome) → a ≡ skips o → after d t s a ≡ t

-- of a record r, whose step is `acted` of what it asks for: in a normal load, and in either, with memories numbered as b says
abbrev pub Frame : Desk → List ℕ → State → List ℕ → Type 0
Frame d t s r = Framing d t s (ask_of d s r)

abbrev pub FrameIn : Desk → List ℕ → Numbers → State → List ℕ → Type 0
FrameIn d t b s r = Framing d t s (ask_in d b s r)
