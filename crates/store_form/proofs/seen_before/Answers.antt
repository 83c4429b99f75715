-- `seen_before` meets its contract: the slot is unused, its word is above all those before it, or it is counted among them.
use native.Mathlib.Omega.{arith}
use mathlib.Core.Logic.{inl, inr}
use mathlib.Core.Path.{◌∙◌}
use Prim.Native.Nat.{◌-◌}
use lib.ListN.{drop}
use Rattle.std.proofs.lemmas.Bool.{lt-leb}
use Rattle.std.proofs.lemmas.List.{length-take}
use Rattle.store_form.proofs.Keys.{start_below, counted, seen_unused, seen_above, seen_used}
use Rattle.store_form.proofs.seen_before.Goals as goal
use Rattle.store_form.proofs.seen_before.Goals.{then-word-ge-USED_WORD, else-word-ge-USED_WORD}

pub offset_bounds-words-kind_start : goal.offset_bounds-words-kind_start
offset_bounds-words-kind_start c = let l = start_below _ _ c.kind_start.ensures in omega arith

pub slice_bounds-count_word-start : goal.slice_bounds-count_word-start
slice_bounds-count_word-start c = let l = start_below _ _ c.kind_start.ensures in omega arith

pub slice_bounds-count_word-count : goal.slice_bounds-count_word-count
slice_bounds-count_word-count c = let l = start_below _ _ c.kind_start.ensures in omega arith

pub count_word-requires : goal.count_word-requires
count_word-requires c = omega (arith, length-take (c.args.slot - c.kind_start.result) (drop c.kind_start.result c.args.words.now))

pub returns-then-word-top : goal.returns-then-word-top
returns-then-word-top c = seen_used _ _ _ c.if-word-top.true.0 c.kind_start.ensures (c.count_word.ensures ∙ counted _ _ _ _ (let l = start_below _ _ c.kind_start.ensures in omega arith) (omega arith))

pub returns-else-word-top : goal.returns-else-word-top
returns-else-word-top c =
    elim c.if-word-ge-USED_WORD.branch [
      | then-word-ge-USED_WORD w ↦
          elim c.if-word-top.either [
            | inl h ↦ w.t-11-is ∙ lt-leb _ _ h.1 ∙ seen_above _ _ _ _ c.requires.topped h.0 h.1
            | inr h ↦ absurd (let u = w.if-word-ge-USED_WORD.true in omega arith)
          ]
      | else-word-ge-USED_WORD w ↦ w.t-11-is ∙ lt-leb _ _ w.if-word-ge-USED_WORD.false ∙ seen_unused _ _ _ w.if-word-ge-USED_WORD.false
    ]
