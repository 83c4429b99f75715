-- What taking a record's items asks for and what it comes to (paper 01, "Keywords and conditions", CHAN and PATCH).
-- Assumes nothing.
use Rattle.std.specs.Prelude.{◌≡◌, List, ℕ, ◌≤◌, ◌<◌, length}
use Rattle.store_desk.specs.declared.Desk.{Desk}
use Rattle.store_desk.specs.Size.{Within, slots_of}
use Rattle.text_records.specs.Received.{longest}
use Rattle.text_fields.specs.Places.{start_at}
use Rattle.store_code.specs.Fits.{Fitting}
use Rattle.load.specs.declared.Entry.{Entry}
use Rattle.load_items.specs.declared.Aim.{Aim}
use Rattle.load_items.specs.declared.Aim.TheVariants.{Slot, Page}
use Rattle.load.specs.Item.{faults_of}
use Rattle.load_items.specs.Done.{all_done_at, faults_in, most_faults}

-- a slot, or a patch page, that the desk has
abbrev pub AimFits : Desk → Aim → Type 0
AimFits d (Slot i) = i < slots_of d
AimFits d (Page p) = Within 1 p d.patch_pages

-- a record's text, a place in it, a store that fits the desk, where the items go, and room for their faults
pub record ItemsReady (d : Desk) (text : List ℕ) (place : ℕ) (store : List ℕ) (aim : Aim) (faults : List ℕ) : Type 0 where
  pub fitting : Fitting d store
  pub within : place ≤ length text
  pub short : length text ≤ longest
  pub aimed : AimFits d aim
  pub room : most_faults ≤ length faults

-- a place where a field starts, or the end of the text
abbrev pub Starting : List ℕ → ℕ → Type 0
Starting text place = start_at text place ≡ place

-- how many faults some items have, the store after them, and the lent list with the faults
pub record Taken : Type 0 where
  pub count : ℕ
  pub store : List ℕ
  pub faults : List ℕ

abbrev pub taken_as : ℕ → List ℕ → List ℕ → Taken
taken_as n s fs = record { count = n; store = s; faults = fs }

unfoldable pub taken_of : Desk → Aim → List ℕ → List ℕ → List Entry → Taken
taken_of d aim s fs es = taken_as (length (faults_of es)) (all_done_at d aim s es) (faults_in fs (faults_of es))
