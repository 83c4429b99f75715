-- `obey_basic` meets its contract, case by case.
use mathlib.Core.Path.{◌∙◌, ap, refl}
use Rattle.text_fields.specs.Places.{words_from}
use Rattle.load.specs.declared.Outcome.TheVariants.{Passed}
use Rattle.load_held.specs.declared.Held.{Held}
use Rattle.load_held.specs.Parts.{keyword_in, ended_as}
use Rattle.load.specs.Ask.{basic_ask}
use Rattle.load.specs.Anew.{is_clear}
use Rattle.load_held.proofs.Answers.{asked_all, rests_all, skips_all}
use Rattle.load_step.proofs.Basics.{basic_ident, basic_clear, basic_patch, basic_enddata, basic_unknown, basic_as}
use Rattle.load_step.proofs.obey_basic.Goals as goal

pub returns-in-Ident : goal.returns-in-Ident
unfolding is_clear
returns-in-Ident c = basic_as _ (keyword_in c.args.text.now) (words_from c.args.text.now c.args.at) _ _ _ c.args.anew c.in-Ident.is refl (asked_all _ _ _ _ (basic_ident _ _ _ c.ident.ensures) (rests_all _ _ _ c.requires.held_ready c.ended.ensures _))

pub returns-in-Clear : goal.returns-in-Clear
returns-in-Clear c = basic_clear _ (keyword_in c.args.text.now) (words_from c.args.text.now c.args.at) _ _ _ c.args.anew c.in-Clear.is c.clear.ensures

pub returns-in-Patch : goal.returns-in-Patch
unfolding is_clear
returns-in-Patch c = basic_as _ (keyword_in c.args.text.now) (words_from c.args.text.now c.args.at) _ _ _ c.args.anew c.in-Patch.is refl (basic_patch _ _ _ _ _ c.requires.held_ready c.requires.fitting c.patch.ensures c.with_held.ensures)

pub returns-in-Enddata : goal.returns-in-Enddata
unfolding is_clear
returns-in-Enddata c = basic_as _ (keyword_in c.args.text.now) (words_from c.args.text.now c.args.at) _ _ _ c.args.anew c.in-Enddata.is refl (asked_all _ _ _ _ (basic_enddata _ _ _ c.blameless.ensures) (rests_all _ _ _ c.requires.held_ready c.ended-in-Enddata.ensures _))

pub returns-in-Passed : goal.returns-in-Passed
unfolding basic_ask is_clear
returns-in-Passed c = basic_as _ (keyword_in c.args.text.now) (words_from c.args.text.now c.args.at) _ _ _ c.args.anew c.in-Passed.is refl (rests_all _ _ _ c.requires.held_ready c.ended-in-Passed.ensures _)

pub returns-in-Local : goal.returns-in-Local
unfolding basic_ask is_clear
returns-in-Local c = basic_as _ (keyword_in c.args.text.now) (words_from c.args.text.now c.args.at) _ _ _ c.args.anew c.in-Local.is refl (skips_all _ _ _ _ (c.ended-in-Local.ensures ∙ ap (λ (h : Held). ended_as h Passed) c.resting.ensures) _)

pub returns-in-Unknown : goal.returns-in-Unknown
unfolding is_clear
returns-in-Unknown c = basic_as _ (keyword_in c.args.text.now) (words_from c.args.text.now c.args.at) _ _ _ c.args.anew c.in-Unknown.is refl (asked_all _ _ _ _ (basic_unknown _ _ _ c.blamed_at.ensures) (rests_all _ _ _ c.requires.held_ready c.ended-in-Unknown.ensures _))
