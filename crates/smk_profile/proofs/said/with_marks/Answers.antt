use Rattle.std.proofs.Common.{◌∙◌, ◌++◌, ap, sym, append_assoc}
use Rattle.smk_model.specs.ProfileTexts.{mark_text, mark_texts_to}
use Rattle.smk_profile.proofs.MarkTexts.{marks_more}
use Rattle.smk_profile.proofs.said.with_marks.Goals as goal

pub loop-mark-preserved : goal.loop-mark-preserved
loop-mark-preserved c =
    let more = marks_more c.args.groups.now c.loop-mark.mark c.index-groups-mark.result c.loop-mark-test.true c.index-groups-mark.is in
    c.in_ok-text.ensures
    ∙ ap (λ x. x ++ mark_text c.loop-mark.mark c.index-groups-mark.result) c.loop-mark.invariant
    ∙ append_assoc c.args.front.items (mark_texts_to c.args.groups.now c.loop-mark.mark) (mark_text c.loop-mark.mark c.index-groups-mark.result)
    ∙ ap (λ x. c.args.front.items ++ x) (sym more)
