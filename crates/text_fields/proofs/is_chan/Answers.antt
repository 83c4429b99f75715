-- `text_fields::is_chan` meets its contract: its four characters are looked at one by one, and then where they end.
use Rattle.text_fields.proofs.Runs.{chan_short, chan_first, chan_second, chan_third, chan_fourth, chan_ends}
use Rattle.text_fields.proofs.is_chan.Goals as goal

pub returns-then-text-at-lt4 : goal.returns-then-text-at-lt4
returns-then-text-at-lt4 c = chan_short c.args.text.now c.args.at c.requires c.if-text-at-lt4.true

pub returns-then-text-at-ne67 : goal.returns-then-text-at-ne67
returns-then-text-at-ne67 c = chan_first c.args.text.now c.args.at c.requires c.if-text-at-lt4.false c.if-text-at-ne67.true

pub returns-then-text-at-ne72 : goal.returns-then-text-at-ne72
returns-then-text-at-ne72 c = chan_second c.args.text.now c.args.at c.requires c.if-text-at-lt4.false c.if-text-at-ne72.true

pub returns-then-text-at-ne65 : goal.returns-then-text-at-ne65
returns-then-text-at-ne65 c = chan_third c.args.text.now c.args.at c.requires c.if-text-at-lt4.false c.if-text-at-ne65.true

pub returns-then-text-at-ne78 : goal.returns-then-text-at-ne78
returns-then-text-at-ne78 c = chan_fourth c.args.text.now c.args.at c.requires c.if-text-at-lt4.false c.if-text-at-ne78.true

pub returns : goal.returns
returns c = chan_ends c.args.text.now c.args.at c.requires c.if-text-at-lt4.false c.if-text-at-ne67.false c.if-text-at-ne72.false c.if-text-at-ne65.false c.if-text-at-ne78.false c.ends.ensures
