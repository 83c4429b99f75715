-- Why demand 3 asks for what it asks: for each premise two small desks and a stream where all the others hold, and what is to follow is
-- false. And one where all of them hold, with a memory kept and a dimmer patched on both desks.
-- Assumes nothing.
use Rattle.std.specs.Prelude.{◌≡◌, true, List, ℕ, ◌≤◌, length, replicate}
use Rattle.cells.specs.Text.{bytes}
use Rattle.store_desk.specs.declared.Desk.{Desk}
use Rattle.store_desk.specs.declared.Kind.TheVariants.{Cue}
use Rattle.store_desk.specs.Size.{InRange, store_length}
use Rattle.store_desk.specs.Name.{Name}
use Rattle.store.specs.View.{memory_of, patched_to}
use Rattle.load.specs.Ask.{name}
use Rattle.load.specs.Run.{Run}
use Rattle.theorem_rehearse.specs.Rehearse.{Larger, Rehearsal, loaded, HadRoom, is_kept, Carries, KeepsWithin, PatchedAlike}

-- ---- trials

-- the limits in the paper's order: channels, dimmers, cues; no groups and no submasters; pages of cues, one of each other kind
abbrev pub sized : ℕ → ℕ → ℕ → ℕ → Desk
sized channels dimmers cues pages =
    record {
      channels = channels;
      dimmers = dimmers;
      cues = cues;
      groups = 0;
      subs = 0;
      cue_pages = pages;
      group_pages = 1;
      sub_pages = 1;
      patch_pages = 1;
    }

abbrev pub lent : Desk → List ℕ
lent d = replicate (store_length d) 0

-- two desks, in the places of the smaller and of the larger, and a stream
pub record Trial : Type 0 where
  pub small : Desk
  pub large : Desk
  pub stream : List ℕ

abbrev pub on_small : Trial → Run
on_small t = loaded t.small (lent t.small) t.stream

abbrev pub on_large : Trial → Run
on_large t = loaded t.large (lent t.large) t.stream

-- ---- the premises

abbrev pub Fair : Trial → Type 0
Fair t = Rehearsal t.small t.large (lent t.small) (lent t.large)

-- the same, but that neither desk is equal or larger in every limit
pub record Crossed (t : Trial) : Type 0 where
  pub small : InRange t.small
  pub large : InRange t.large
  pub second : Larger t.small t.large → ⊥
  pub first : Larger t.large t.small → ⊥
  pub long : store_length t.small ≤ length (lent t.small)
  pub longer : store_length t.large ≤ length (lent t.large)

abbrev pub SmallRoom : Trial → Type 0
SmallRoom t = HadRoom (on_small t)

abbrev pub LargeRoom : Trial → Type 0
LargeRoom t = HadRoom (on_large t)

abbrev pub SameChannels : Trial → Type 0
SameChannels t = t.small.channels ≡ t.large.channels

-- ---- what is to follow

abbrev pub Carried : Trial → Type 0
Carried t = Carries t.small t.large (on_small t).store (on_large t).store

abbrev pub Exact : Trial → Type 0
Exact t = KeepsWithin t.small t.large (on_small t).store (on_large t).store

abbrev pub Alike : Trial → Type 0
Alike t = PatchedAlike t.small t.large (on_small t).store (on_large t).store

-- ---- the trials

-- the larger has no room for cue 3, which the smaller keeps
abbrev pub larger_full : Trial
larger_full = record { small = sized 4 4 2 1; large = sized 4 4 2 2; stream = bytes "CUE 1 2\nCUE 2 2\nCUE 3\nENDDATA\n" }

-- the smaller has no room for cue 2, which lies within its limits
abbrev pub smaller_full : Trial
smaller_full = record { small = sized 4 4 1 1; large = sized 4 4 2 1; stream = bytes "CUE 1\nCUE 2\nENDDATA\n" }

-- the larger alone has channel 5, to which it patches dimmer 1
abbrev pub more_channels : Trial
more_channels = record { small = sized 4 4 1 1; large = sized 5 4 1 1; stream = bytes "PATCH 1 1<1@50\nPATCH 1 5<1@50\nENDDATA\n" }

-- the first has more dimmers and pages, the second more cues
abbrev pub neither_larger : Trial
neither_larger = record { small = sized 4 2 1 2; large = sized 4 1 2 1; stream = bytes "PATCH 1 1<2@50\nCUE 1 2\nENDDATA\n" }

-- the smaller refuses page 2
abbrev pub all_hold : Trial
all_hold = record { small = sized 4 4 2 1; large = sized 4 5 3 2; stream = bytes "PATCH 1 3<1@50\nCUE 1\nCHAN 2@HFF\nCUE 2 2\nENDDATA\n" }

abbrev pub cue : ℕ → ℕ → Name
cue page whole = name Cue (record { page = page; whole = whole; fraction = 0 })

-- cue 1 is kept, and dimmer 1 is patched to channel 3
abbrev pub Shown : Desk → Run → Type 0
Shown d x = (is_kept (memory_of d x.store (cue 1 1)) ≡ true) × ((patched_to d x.store 1 1).channel ≡ 3)

-- ---- each premise is needed, and they can hold together

pub record Needs : Type 0 where
  pub larger_room : Fair larger_full × SmallRoom larger_full × SameChannels larger_full × (Carried larger_full → ⊥) × (Exact larger_full → ⊥)
  pub smaller_room : Fair smaller_full × LargeRoom smaller_full × SameChannels smaller_full × (Exact smaller_full → ⊥)
  pub same_channels : Fair more_channels × LargeRoom more_channels × SmallRoom more_channels × (Alike more_channels → ⊥)
  pub larger : Crossed neither_larger × LargeRoom neither_larger × SmallRoom neither_larger × SameChannels neither_larger
      × (Carried neither_larger → ⊥) × (Exact neither_larger → ⊥) × (Alike neither_larger → ⊥)
  pub together : Fair all_hold × LargeRoom all_hold × SmallRoom all_hold × SameChannels all_hold
      × Shown all_hold.small (on_small all_hold) × Shown all_hold.large (on_large all_hold)
