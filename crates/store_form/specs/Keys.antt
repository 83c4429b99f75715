-- The key words of cue and group slots side by side, and the slots whose word stands there before, among those of their kind: how the code
-- finds a slot that repeats an earlier one (paper 01, "The store": no two cue slots share number and page, nor two group slots).
-- Assumes nothing.
use Rattle.std.specs.Prelude.{Bool, false, cond, List, ℕ, ◌+◌, ◌-◌, ◌≤◌, ◌<◌, eqb, ltb, get_or}
use Rattle.cells.specs.Pad.{padded}
use Rattle.cells.specs.Search.{count_from}
use Rattle.cells.specs.Table.{tab}
use Rattle.store_desk.specs.declared.Desk.{Desk}
use Rattle.store_desk.specs.declared.Kind.TheVariants.{Sub}
use Rattle.store_desk.specs.Size.{most_cues, most_groups}
use Rattle.store_desk.specs.Name.{first_slot}
use Rattle.store_head.specs.Fits.{used_word}
use Rattle.store.specs.Order.{slot_word}

-- the most cue and group slots
abbrev pub most_keys : ℕ
most_keys = most_cues + most_groups

unfoldable pub key_words : Desk → List ℕ → List ℕ
key_words d s = padded most_keys (tab (slot_word d s) 0 (first_slot d Sub))

-- how often w stands at the places from a on, before e
abbrev pub is_key_word : List ℕ → ℕ → ℕ → Bool
is_key_word ks w j = eqb (get_or ks j 0) w

unfoldable pub count_word : List ℕ → ℕ → ℕ → ℕ → ℕ
count_word ks w a e = count_from (is_key_word ks w) (e - a) a

-- where the slots of slot i's kind begin: cues, then groups
unfoldable pub kind_start : ℕ → ℕ → ℕ
kind_start cues i = cond (ltb i cues) 0 cues

-- slot i is used, and a slot before it has its word
unfoldable pub seen_before : ℕ → List ℕ → ℕ → Bool
seen_before cues ks i =
    cond (ltb (get_or ks i 0) used_word) false (ltb 0 (count_word ks (get_or ks i 0) (kind_start cues i) i))

-- no word ahead of slot i, among those of its kind, is above this
pub record Topped (cues : ℕ) (ks : List ℕ) (i top : ℕ) : Type 0 where
  pub above : (j : ℕ) → kind_start cues i ≤ j → j < i → get_or ks j 0 ≤ top

-- the highest word ahead of slot `next`: another kind begins at the first group
unfoldable pub top_of : ℕ → ℕ → ℕ → ℕ → ℕ
top_of cues next top word = cond (eqb next cues) 0 (cond (ltb top word) word top)
