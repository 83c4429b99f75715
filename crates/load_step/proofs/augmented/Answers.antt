-- `augmented` meets its contract: a LINK that is heard, and every other.
use Rattle.std.proofs.Common.{◌≡◌, false, ◌&&◌, ◌+◌, ◌<◌, refl, sym, ◌∙◌, arith}
use Rattle.text_fields.specs.Places.{words_from}
use Rattle.load.specs.Anew.{asks_link}
use Rattle.load_held.specs.Parts.{keyword_in}
use Rattle.load_held.proofs.Answers.{asked_did_all, rests-did_all}
use Rattle.load_step.proofs.Secondaries.{augment_heard, augment_obeyed}
use Rattle.load_step.proofs.Booked.{asks_given, asks_anew, asks_nothing, link_asked, not_asked, ask_room}
use Rattle.load_step.proofs.augmented.Goals as goal
use Rattle.load_step.proofs.augmented.Goals.{else-anew-via-then-anew+else-asks_link, else-anew-via-else-anew}

pub overflow_add-borne_at : goal.overflow_add-borne_at
overflow_add-borne_at g c = let h : c.borne_at.result + 1 < 4294967296 = ask_room _ c.borne_at.ensures in omega arith

pub returns-then-asks_link : goal.returns-then-asks_link
returns-then-asks_link g c =
    let m = g.N.Naming in
    let h = asks_anew m.ANEW _ _ c.asks_link.ensures (sym c.ANEW-anew.ensures ∙ c.if-anew.true) c.if-asks_link.true in
    record {
      faults_after = asked_did_all _ _ _ _ (augment_heard _ _ m.ANEW c.args.e (keyword_in c.args.text.now) (words_from c.args.text.now c.args.at) h refl) (rests-did_all _ _ _ _ c.answered.ensures _);
      book_after = link_asked m.laws _ _ _ c.args.e (words_from c.args.text.now c.args.at) h c.borne_at.ensures (c.note_link.ensures _ refl) c.answered.ensures;
    }

pub returns : goal.returns
returns g c =
    let m = g.N.Naming in
    let h : false ≡ (m.ANEW && asks_link c.args.held.state.«open» c.args.e) =
    elim c.else-anew.branch [
      | else-anew-via-then-anew+else-asks_link w ↦ asks_nothing m.ANEW _ _ w.asks_link.ensures w.if-asks_link.false
      | else-anew-via-else-anew w ↦ asks_given m.ANEW _ _ (sym c.ANEW-anew.ensures ∙ w.if-anew.false)
    ] in
    record {
      faults_after = asked_did_all _ _ _ _ (augment_obeyed _ _ m.ANEW c.args.e (keyword_in c.args.text.now) (words_from c.args.text.now c.args.at) h refl) c.secondary.ensures;
      book_after = not_asked m.laws _ _ _ c.args.e (words_from c.args.text.now c.args.at) _ _ _ _ _ (keyword_in c.args.text.now) h c.secondary.ensures;
    }
