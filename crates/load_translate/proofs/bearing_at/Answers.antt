-- `bearing_at` meets its contract: an over-long record by its length, any other by its text, which is itself where all is plain.
use Rattle.std.proofs.Common.{◌-◌, take, drop, sym}
use Rattle.cells.proofs.Split.{not_of_true}
use Rattle.load_run.proofs.Taking.{spans_in, is_long, short_within, short_chars, plain_texted, cleaned_texted}
use Rattle.load_translate.proofs.Reading.{Cleared, cleared_as, long_bears, text_bears, text_short}
use lib.Seq.{length-take-le}
use Rattle.load_translate.proofs.bearing_at.Goals as goal
use Rattle.load_translate.proofs.bearing_at.Goals.{then-plain, else-plain}

pub receive-r-requires : goal.receive-r-requires
receive-r-requires c = spans_in _ _ _ c.requires

pub returns-then-over_long : goal.returns-then-over_long
returns-then-over_long c = long_bears _ (is_long _ _ _ c.requires c.receive-r.ensures c.over_long.ensures c.if-over_long.true)

pub slice_bounds-clean-end : goal.slice_bounds-clean-end
slice_bounds-clean-end c = sym (length-take-le _ _ (short_within _ _ _ c.requires c.receive-r.ensures c.over_long.ensures c.if-over_long.false))

pub slice_bounds-bytes-end : goal.slice_bounds-bytes-end
slice_bounds-bytes-end c = short_within _ _ _ c.requires c.receive-r.ensures c.over_long.ensures c.if-over_long.false

pub slice_bounds-bytes-end-2 : goal.slice_bounds-bytes-end-2
slice_bounds-bytes-end-2 c =
    let x : Cleared (take (c.args.end - c.args.at) (drop c.args.at c.args.stream.now)) c.if-plain.bytes c.if-plain.n =
    elim c.if-plain.branch [
      | then-plain w ↦ cleared_as (plain_texted _ _ _ c.requires c.receive-r.ensures c.over_long.ensures c.if-over_long.false (not_of_true _ w.if-plain.true)) w.bytes-is w.n-is
      | else-plain w ↦ cleared_as (cleaned_texted _ _ _ c.requires c.receive-r.ensures c.over_long.ensures c.if-over_long.false w.clean.ensures) w.bytes-is w.n-is
    ] in
    x.within

pub slice_bounds-text_bearing-end : goal.slice_bounds-text_bearing-end
slice_bounds-text_bearing-end c =
    let x : Cleared (take (c.args.end - c.args.at) (drop c.args.at c.args.stream.now)) c.if-plain.bytes c.if-plain.n =
    elim c.if-plain.branch [
      | then-plain w ↦ cleared_as (plain_texted _ _ _ c.requires c.receive-r.ensures c.over_long.ensures c.if-over_long.false (not_of_true _ w.if-plain.true)) w.bytes-is w.n-is
      | else-plain w ↦ cleared_as (cleaned_texted _ _ _ c.requires c.receive-r.ensures c.over_long.ensures c.if-over_long.false w.clean.ensures) w.bytes-is w.n-is
    ] in
    sym (length-take-le _ _ x.within)

pub text_bearing-requires : goal.text_bearing-requires
text_bearing-requires c =
    let x : Cleared (take (c.args.end - c.args.at) (drop c.args.at c.args.stream.now)) c.if-plain.bytes c.if-plain.n =
    elim c.if-plain.branch [
      | then-plain w ↦ cleared_as (plain_texted _ _ _ c.requires c.receive-r.ensures c.over_long.ensures c.if-over_long.false (not_of_true _ w.if-plain.true)) w.bytes-is w.n-is
      | else-plain w ↦ cleared_as (cleaned_texted _ _ _ c.requires c.receive-r.ensures c.over_long.ensures c.if-over_long.false w.clean.ensures) w.bytes-is w.n-is
    ] in
    text_short x (short_chars _ _ _ c.requires c.receive-r.ensures c.over_long.ensures c.if-over_long.false)

pub returns : goal.returns
returns c =
    let x : Cleared (take (c.args.end - c.args.at) (drop c.args.at c.args.stream.now)) c.if-plain.bytes c.if-plain.n =
    elim c.if-plain.branch [
      | then-plain w ↦ cleared_as (plain_texted _ _ _ c.requires c.receive-r.ensures c.over_long.ensures c.if-over_long.false (not_of_true _ w.if-plain.true)) w.bytes-is w.n-is
      | else-plain w ↦ cleared_as (cleaned_texted _ _ _ c.requires c.receive-r.ensures c.over_long.ensures c.if-over_long.false w.clean.ensures) w.bytes-is w.n-is
    ] in
    text_bears x (is_long _ _ _ c.requires c.receive-r.ensures c.over_long.ensures c.if-over_long.false) c.text_bearing.ensures
