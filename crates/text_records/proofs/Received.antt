-- The record by value: its characters back out of it, and its array filled, one byte after the other or in one copy; by the laws of padded
-- lists.
-- Assumes nothing.
use mathlib.Core.Path.{◌≡◌, sym, ap, ◌∙◌}
use mathlib.Core.Bool.{false}
use mathlib.Core.List.{List, ◌++◌, append-nil}
use Prim.Native.Nat.{ℕ, ◌+◌, ◌-◌, ◌≤◌, min}
use lib.Dec.{ltb}
use borrow.Author.Tests.{ltb-false}
use native.Mathlib.Omega.{arith}
use lib.ListN.{length, take, drop, replicate, length-drop, length-take}
use lib.Seq.{take_all, take-take, take-append-le, length-take-le}
use Rattle.cells.specs.Pad.{padded}
use Rattle.cells.specs.Put.{put}
use Rattle.cells.proofs.Pad.{drop-replicate, length-padded}
use Rattle.cells.proofs.Put.{put_zero, tail_is}
use Rattle.text_records.specs.declared.Record.{Record}
use Rattle.text_records.specs.Received.{longest}
use Rattle.text_records.specs.Window.{window_of, over_long, text_of}

-- a record's characters are as many as lie from its place to its end
pub part_length : (s : List ℕ) (at n : ℕ) → at + n ≤ length s → length (take n (drop at s)) ≡ n
part_length s at n h =
    let e : length (drop at s) ≡ length s - at = length-drop at s in
    length-take-le n (drop at s) (omega arith)

-- ---- what callers cite of the record that was received: s is the stream from its first character on, n how many it has
module _ (s : List ℕ) (n : ℕ) {r : Record} (e : r ≡ window_of s n) where
  pub received_count : r.count ≡ n
  unfolding window_of
  received_count = ap (λ (k : Record). k.count) e

  pub received_length : length r.bytes ≡ longest
  unfolding window_of
  received_length =
      let l : length (take longest s) ≡ min longest (length s) = length-take longest s in
      ap (λ (k : Record). length k.bytes) e ∙ length-padded longest (take longest s) (omega arith)

  pub received_text : n ≤ longest → n ≤ length s → text_of r ≡ take n s
  unfolding window_of padded
  received_text h g =
      let l : length (take longest s) ≡ min longest (length s) = length-take longest s in
      ap text_of e ∙ take-append-le n (take longest s) (replicate (longest - length (take longest s)) 0) (omega arith) ∙ take-take n longest s h

  pub received_long : over_long r ≡ ltb longest n
  received_long = ap (λ (k : ℕ). ltb longest k) received_count

  -- one that is not over-long has all its characters
  pub received_short : over_long r ≡ false → n ≤ longest
  received_short f = ltb-false longest n (sym received_long ∙ f)

-- the same of the record from `at` to `end` of a stream
pub received_part : (s : List ℕ) (at end : ℕ) {r : Record} → r ≡ window_of (drop at s) (end - at) → end - at ≤ longest → end ≤ length s
    → text_of r ≡ take (end - at) (drop at s)
received_part s at end e h g =
    let l : length (drop at s) ≡ length s - at = length-drop at s in
    received_text (drop at s) (end - at) e h (omega arith)

-- ---- the first 80 bytes: the record
pub whole_all : (s : List ℕ) (n : ℕ) {b : List ℕ} → longest ≤ length s → b ≡ take longest s → ◌≡◌ {A = Record} (record { bytes = b; count = n }) (window_of s n)
unfolding window_of padded
whole_all s n h e =
    let l : length (take longest s) ≡ longest = length-take-le longest s h in
    let z : longest - length (take longest s) ≡ 0 = omega arith in
    let g = e ∙ sym (ap (λ (k : ℕ). take longest s ++ replicate k 0) z ∙ append-nil (take longest s)) in
    λ j. record { bytes = g j; count = n }

-- fewer in one copy
pub copied_all : (s : List ℕ) (n : ℕ) {b : List ℕ} → length s ≤ longest → b ≡ put (replicate longest 0) 0 s
    → ◌≡◌ {A = Record} (record { bytes = b; count = n }) (window_of s n)
unfolding window_of padded
copied_all s n h f =
    let g = f ∙ put_zero (replicate longest 0) s ∙ ap (λ (z : List ℕ). s ++ z) (drop-replicate (length s) longest)
    ∙ ap (padded longest) (sym (take_all longest s h)) in
    λ j. record { bytes = g j; count = n }

-- ---- of a stream, all that is left from a place on
pub window_rest : (s : List ℕ) (at n : ℕ) {r : Record} → r ≡ window_of (take (length s - at) (drop at s)) n → r ≡ window_of (drop at s) n
window_rest s at n f = f ∙ ap (λ (z : List ℕ). window_of z n) (tail_is s at)
