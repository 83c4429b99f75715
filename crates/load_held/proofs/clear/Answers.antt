-- `clear` meets its contract, item by item.
use mathlib.Core.Path.{◌∙◌}
use Rattle.load.specs.Ask.{item_ask}
use Rattle.load_held.proofs.Answers.{asked_as, rests_as}
use Rattle.load_held.proofs.Clearing.{item_start, item_other, item_line, clear_as}
use Rattle.load_held.proofs.clear.Goals as goal

pub item_at-said-requires : goal.item_at-said-requires
item_at-said-requires c = item_start c.field_start.ensures c.requires.line

pub page_place-end-requires : goal.page_place-end-requires
page_place-end-requires c = (item_line _ _ c.field_start.ensures c.item_at-said.ensures c.requires.line).within

pub clear_all-requires : goal.clear_all-requires
clear_all-requires c =
    record {
      fitting = c.requires.fitting;
      line = record { within = c.page_place-end.ensures.upper_bound; short = c.requires.line.short };
      held_ready = c.requires.held_ready;
    }

pub clear_kind-requires : goal.clear_kind-requires
clear_kind-requires c =
    record {
      fitting = c.requires.fitting;
      line = record { within = c.page_place-end.ensures.upper_bound; short = c.requires.line.short };
      held_ready = c.requires.held_ready;
    }

pub clear_kind-requires-in-Groups : goal.clear_kind-requires-in-Groups
clear_kind-requires-in-Groups c =
    record {
      fitting = c.requires.fitting;
      line = record { within = c.page_place-end.ensures.upper_bound; short = c.requires.line.short };
      held_ready = c.requires.held_ready;
    }

pub clear_patch-requires : goal.clear_patch-requires
clear_patch-requires c =
    record {
      fitting = c.requires.fitting;
      line = record { within = c.page_place-end.ensures.upper_bound; short = c.requires.line.short };
      held_ready = c.requires.held_ready;
    }

pub clear_kind-requires-in-Subs : goal.clear_kind-requires-in-Subs
clear_kind-requires-in-Subs c =
    record {
      fitting = c.requires.fitting;
      line = record { within = c.page_place-end.ensures.upper_bound; short = c.requires.line.short };
      held_ready = c.requires.held_ready;
    }

pub returns-in-All : goal.returns-in-All
unfolding item_ask
returns-in-All c = asked_as _ _ _ (clear_as _ _ c.field_start.ensures c.item_at-said.ensures _ c.args.every _ c.page_place-end.ensures.result_value c.in-All.is) c.clear_all.ensures

pub returns-in-Cues : goal.returns-in-Cues
unfolding item_ask
returns-in-Cues c = asked_as _ _ _ (clear_as _ _ c.field_start.ensures c.item_at-said.ensures _ c.args.every _ c.page_place-end.ensures.result_value c.in-Cues.is) c.clear_kind.ensures

pub returns-in-Groups : goal.returns-in-Groups
unfolding item_ask
returns-in-Groups c = asked_as _ _ _ (clear_as _ _ c.field_start.ensures c.item_at-said.ensures _ c.args.every _ c.page_place-end.ensures.result_value c.in-Groups.is) c.clear_kind-in-Groups.ensures

pub returns-in-Patch : goal.returns-in-Patch
unfolding item_ask
returns-in-Patch c = asked_as _ _ _ (clear_as _ _ c.field_start.ensures c.item_at-said.ensures _ c.args.every _ c.page_place-end.ensures.result_value c.in-Patch.is) c.clear_patch.ensures

pub returns-in-Subs : goal.returns-in-Subs
unfolding item_ask
returns-in-Subs c = asked_as _ _ _ (clear_as _ _ c.field_start.ensures c.item_at-said.ensures _ c.args.every _ c.page_place-end.ensures.result_value c.in-Subs.is) c.clear_kind-in-Subs.ensures

pub returns-in-Local : goal.returns-in-Local
unfolding item_ask
returns-in-Local c = asked_as _ _ _ (clear_as _ _ c.field_start.ensures c.item_at-said.ensures _ c.args.every _ c.page_place-end.ensures.result_value c.in-Local.is) (rests_as _ _ _ c.requires.held_ready c.ended.ensures)

pub returns-in-Other : goal.returns-in-Other
returns-in-Other c = asked_as _ _ _ (item_other _ _ _ c.blamed_at.ensures ∙ clear_as _ _ c.field_start.ensures c.item_at-said.ensures _ c.args.every _ c.page_place-end.ensures.result_value c.in-Other.is) (rests_as _ _ _ c.requires.held_ready c.ended-in-Other.ensures)
