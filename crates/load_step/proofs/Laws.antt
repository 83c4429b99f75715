-- A step keeps what holds between records: an open memory is one that the store keeps, under a key that fits the head's bits, and the
-- store stays as long as it was. By what a record asks for.
-- Assumes nothing.
use mathlib.Core.Path.{◌≡◌, refl, ap, ◌∙◌, subst}
use mathlib.Core.Bool.{true}
use mathlib.Core.List.{List}
use Prim.Native.Nat.{ℕ, ◌<◌}
use lib.ListN.{length}
use Rattle.cells.specs.Search.{Found, at, nowhere}
use Rattle.store_desk.specs.declared.Desk.{Desk}
use Rattle.store_desk.specs.declared.Key.{Key}
use Rattle.store_desk.specs.declared.Kind.{Kind}
use Rattle.store_desk.specs.Size.{slots_of}
use Rattle.store_desk.specs.Name.{Name, ok_name}
use Rattle.store_desk.proofs.Name.{ok_fits}
use Rattle.text_fields.specs.Words.{fields_of, tail_of}
use Rattle.store.specs.declared.Edit.{Edit}
use Rattle.store.specs.Slots.{find}
use Rattle.store.specs.Change.{blank_slot, seat, started, edited}
use Rattle.store.specs.Fits.{EditFits}
use Rattle.store.proofs.Places.{put_length}
use Rattle.store.proofs.Start.{blank_length, started-at, start_own, found_used}
use Rattle.store.proofs.Edits.{in_time_fits}
use Rattle.store_code.specs.Fits.{Fitting}
use Rattle.load.specs.declared.Numbers.{Numbers}
use Rattle.load.specs.declared.State.{State}
use Rattle.load.specs.declared.Open.{Open}
use Rattle.load.specs.declared.Open.TheVariants.{Memory}
use Rattle.load.specs.declared.Outcome.{Outcome}
use Rattle.load.specs.declared.Outcome.TheVariants.{Dropped}
use Rattle.load.specs.Condition.{full_of}
use Rattle.load.specs.Item.{blame_none, memory, page, all_done}
use Rattle.load.specs.Ask.{Ask, name}
use Rattle.load.specs.Step.{Step, ended, skipping as skippingState, slot_by, wiped, opened_by, acted}
use Rattle.load.specs.Translated.{step_in}
use Rattle.load.proofs.Deed.{Deed, resting, skipping, opening, editing, setting, patching, clearing}
use Rattle.load.proofs.Anew.{anew_record_deed}
use Rattle.load.proofs.Wiped.{wiped-length}
use Rattle.load_items.proofs.Done.{slot_find, slot_length_lem, page-find, page-length}
use Rattle.load_held.specs.Held.{IsKept, Settled}
use Rattle.load_held.proofs.Holding.{skipping_settled, memory_settled, settle_settled, settled_stays, edited-find, edited-length}

-- ---- what is kept
pub record Keeps (d : Desk) (t : List ℕ) (x : Step) : Type 0 where
  pub settled : Settled d x.store x.state
  pub long : length x.store ≡ length t

module _ (d : Desk) (t : List ℕ) (f : Fitting d t) where
  skips : (o : Outcome) → Keeps d t (ended skippingState o t)
  skips o = record { settled = skipping_settled d t; long = refl }

  opened_keeps : (k : Kind) (key : Key) → ok_name d (name k key) ≡ true → (a : Found) → seat d t (name k key) ≡ a → Keeps d t (opened_by d k key a t)
  unfolding opened_by
  opened_keeps k key o nowhere e = skips (Dropped (blame_none (full_of k)))
  opened_keeps k key o (at i) e =
      let n : Name = name k key in
      let g : find d (started d t n) n ≡ at i = start_own d t f.long n f.range o i e in
      let h : i < slots_of d = (found_used d (started d t n) n i g).0 in
      record {
        settled = memory_settled d (started d t n) k key (ok_fits d n f.range o) i g;
        long = ap length (started-at d t n i e) ∙ put_length d t f.long i h (blank_slot d key) (blank_length d key);
      }

  module _ (s : State) (g : Settled d t s) where
    stays : (o : Outcome) → Keeps d t (ended s o t)
    stays o = record { settled = g; long = refl }

    -- in the open memory
    module _ (k : Kind) (o : s.«open» ≡ Memory k) where
      abbrev slot : ℕ
      slot = slot_by d t s.key (Memory k)

      found : find d t (name k s.key) ≡ at slot
      found = subst (λ (x : Open). IsKept d t s.key x) o g.kept

      edited_keeps : (e : Edit) → EditFits e → Keeps d t (ended s Outcome.Obeyed (edited d t (name k s.key) e))
      edited_keeps e m =
          let n : Name = name k s.key in
          record {
            settled = settled_stays d t (edited d t n e) (edited-find d t f n slot found e m) g;
            long = edited-length d t f n slot found e m;
          }

    deed_keeps : (n : ℕ) {a : Ask} → Deed d s n a → Keeps d t (acted d s t a)
    unfolding acted
    deed_keeps n (resting o h) = stays o
    deed_keeps n (skipping o h i) = skips o
    deed_keeps n (opening k y h) = opened_keeps k y (h f.range) (seat d t (name k y)) refl
    deed_keeps n (editing k o e c) = edited_keeps k o e (in_time_fits e c.1)
    deed_keeps n (setting k o es h l) =
        let m : Name = name k s.key in
        record {
          settled = settled_stays d t (all_done d (memory m) t es) (slot_find d t f m (slot k o) (found k o) es h) g;
          long = slot_length_lem d t f m (slot k o) (found k o) es h;
        }
    deed_keeps n (patching p w es h l) =
        record { settled = settled_stays d t (all_done d (page p) t es) (page-find d t f p w es h) g; long = page-length d t f p w es h }
    deed_keeps n (clearing xs h) = record { settled = settle_settled d (wiped d xs t) s g.fits; long = wiped-length d xs h t f.long }

    -- a record as received, over-long or not, in either load
    pub step_keeps : (b : Numbers) (r : List ℕ) → Keeps d t (step_in d b s r t)
    unfolding step_in
    step_keeps b r = deed_keeps (length (tail_of (fields_of r))) (anew_record_deed d b s r)
