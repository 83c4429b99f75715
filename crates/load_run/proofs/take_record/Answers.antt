-- `take_record` meets its contract: an over-long record by its length, any other by its text, which is itself where all is plain.
use Rattle.load_run.proofs.Taking.{Texted, texted_as, spans_in, part_taking, is_long, short_within, short_chars, plain_texted, cleaned_texted}
use Rattle.load_run.proofs.Taking.{text_taken_lem, text_booked_lem, text_room_lem, long_taken, long_booked}
use lib.ListN.{take, drop}
use lib.Seq.{length-take-le}
use Prim.Native.Nat.{◌-◌}
use mathlib.Core.Bool.{not}
use mathlib.Core.Path.{sym, ap, ◌∙◌}
use Rattle.load_run.proofs.take_record.Goals as goal
use Rattle.load_run.proofs.take_record.Goals.{then-not-plain, else-not-plain}

pub receive-r-requires : goal.receive-r-requires
receive-r-requires g c = spans_in _ _ _ c.requires.spans

pub returns-then-over_long : goal.returns-then-over_long
returns-then-over_long g c =
    let m = g.N.Naming in
    let l = is_long _ _ _ c.requires.spans c.receive-r.ensures c.over_long.ensures c.if-over_long.true in
    record { reports_after = long_taken _ _ c.args.done _ _ _ l c.requires.taking.ready c.tell_long.ensures; book_after = long_booked m.laws _ c.args.done _ _ _ _ l }

pub slice_bounds-bytes-end : goal.slice_bounds-bytes-end
slice_bounds-bytes-end g c = short_within _ _ _ c.requires.spans c.receive-r.ensures c.over_long.ensures c.if-over_long.false

pub slice_bounds-clean-end : goal.slice_bounds-clean-end
slice_bounds-clean-end g c = sym (length-take-le _ _ (short_within _ _ _ c.requires.spans c.receive-r.ensures c.over_long.ensures c.if-over_long.false))

pub slice_bounds-take_text-end : goal.slice_bounds-take_text-end
slice_bounds-take_text-end g c = (spans_in _ _ _ c.requires.spans).1

pub slice_bounds-bytes-end-2 : goal.slice_bounds-bytes-end-2
slice_bounds-bytes-end-2 g c =
    let known = c.requires.spans in
    let x : Texted (take (c.args.end - c.args.at) (drop c.args.at c.args.stream.now)) c.if-not-plain.bytes c.if-not-plain.n c.if-not-plain.high c.if-not-plain.control =
    elim c.if-not-plain.branch [
      | then-not-plain w ↦
          texted_as (cleaned_texted _ _ _ known c.receive-r.ensures c.over_long.ensures c.if-over_long.false w.clean-c.ensures) w.bytes-is w.n-is w.high-is w.control-is
      | else-not-plain w ↦
          texted_as (plain_texted _ _ _ known c.receive-r.ensures c.over_long.ensures c.if-over_long.false (ap not w.if-not-plain.false)) w.bytes-is w.n-is w.high-is w.control-is
    ] in
    x.within

pub slice_bounds-take_text-end-2 : goal.slice_bounds-take_text-end-2
slice_bounds-take_text-end-2 g c =
    let known = c.requires.spans in
    let x : Texted (take (c.args.end - c.args.at) (drop c.args.at c.args.stream.now)) c.if-not-plain.bytes c.if-not-plain.n c.if-not-plain.high c.if-not-plain.control =
    elim c.if-not-plain.branch [
      | then-not-plain w ↦
          texted_as (cleaned_texted _ _ _ known c.receive-r.ensures c.over_long.ensures c.if-over_long.false w.clean-c.ensures) w.bytes-is w.n-is w.high-is w.control-is
      | else-not-plain w ↦
          texted_as (plain_texted _ _ _ known c.receive-r.ensures c.over_long.ensures c.if-over_long.false (ap not w.if-not-plain.false)) w.bytes-is w.n-is w.high-is w.control-is
    ] in
    sym (length-take-le _ _ x.within)

pub take_text-requires : goal.take_text-requires
take_text-requires g c =
    let known = c.requires.spans in
    let x : Texted (take (c.args.end - c.args.at) (drop c.args.at c.args.stream.now)) c.if-not-plain.bytes c.if-not-plain.n c.if-not-plain.high c.if-not-plain.control =
    elim c.if-not-plain.branch [
      | then-not-plain w ↦
          texted_as (cleaned_texted _ _ _ known c.receive-r.ensures c.over_long.ensures c.if-over_long.false w.clean-c.ensures) w.bytes-is w.n-is w.high-is w.control-is
      | else-not-plain w ↦
          texted_as (plain_texted _ _ _ known c.receive-r.ensures c.over_long.ensures c.if-over_long.false (ap not w.if-not-plain.false)) w.bytes-is w.n-is w.high-is w.control-is
    ] in
    let r = text_room_lem x (short_chars _ _ _ c.requires.spans c.receive-r.ensures c.over_long.ensures c.if-over_long.false) (part_taking _ _ _ c.requires.spans c.requires.taking) in
    record { text_of = r.0; taking = r.1; room = c.requires.room; counts_fit = c.requires.counts_fit }

pub returns : goal.returns
returns g c =
    let known = c.requires.spans in
    let x : Texted (take (c.args.end - c.args.at) (drop c.args.at c.args.stream.now)) c.if-not-plain.bytes c.if-not-plain.n c.if-not-plain.high c.if-not-plain.control =
    elim c.if-not-plain.branch [
      | then-not-plain w ↦
          texted_as (cleaned_texted _ _ _ known c.receive-r.ensures c.over_long.ensures c.if-over_long.false w.clean-c.ensures) w.bytes-is w.n-is w.high-is w.control-is
      | else-not-plain w ↦
          texted_as (plain_texted _ _ _ known c.receive-r.ensures c.over_long.ensures c.if-over_long.false (ap not w.if-not-plain.false)) w.bytes-is w.n-is w.high-is w.control-is
    ] in
    let m = g.N.Naming in
    let l = is_long _ _ _ c.requires.spans c.receive-r.ensures c.over_long.ensures c.if-over_long.false in
    record { reports_after = c.take_text.ensures.reports_after ∙ text_taken_lem x _ _ c.args.done _ _ l; book_after = c.take_text.ensures.book_after ∙ text_booked_lem m.laws _ c.args.done _ _ _ x l }
