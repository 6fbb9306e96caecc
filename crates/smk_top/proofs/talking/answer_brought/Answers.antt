use Rattle.std.proofs.Common.{refl, ap, ◌∙◌, inr, arith}
use Rattle.std.specs.{Prelude.{◌||◌, nat_lt}, Option.option_to_list}
use Rattle.smk_model.specs.{Reports.next_rows, Selection.each_rows}
use Rattle.smk_session.specs.Sessions.{SessionImage, state_of}
use Rattle.smk_inputs.specs.Image.{reading_image}
use Rattle.smk_top.specs.declared.counts.Counts.{Counts}
use Rattle.smk_top.proofs.TalkLines.{replied, forgone}
use Rattle.smk_top.proofs.talking.answer_brought.Goals as goal

pub returns-in-Err-clause-answer : goal.returns-in-Err-clause-answer
returns-in-Err-clause-answer g c held read_only before after bytes short plain reads may brought =
    forgone _ _ _ _ _ _ (reading_image c.args.reading.now) (next_rows (each_rows (option_to_list c.args.brought))) _ _ _ _ _ plain reads (inr brought) refl c.refusal.ensures.words c.refusal.ensures.down (omega arith)

pub returns-in-Ok-told-clause-answer : goal.returns-in-Ok-told-clause-answer
returns-in-Ok-told-clause-answer g c held read_only before after bytes short plain reads may brought =
    let told = rw (c.in-Ok-told.is, c.in-Ok.ensures) at c.tell_line-session.ensures.text in
    let counted = rw (c.in-Ok-told.is, c.in-Ok.ensures) at c.tell_line-session.ensures.counts in
    let next = rw (c.in-Ok-told.is, c.in-Ok.ensures) at c.tell_line-session.ensures.after in
    replied _ _ _ _ _ _ (reading_image c.args.reading.now) (next_rows (each_rows (option_to_list c.args.brought))) _ _ _ _ _ short plain reads may brought next told
    (c.either.ensures ∙ ap (λ (k : Counts). nat_lt 0 k.refused || nat_lt 0 k.unread) counted) (rw c.in-Ok.ensures at c.tell_line-session.ensures.looks)

pub returns-clause-answer : goal.returns-clause-answer
returns-clause-answer g c held read_only before after bytes short plain reads may brought =
    let kept = rw c.in-Err-told.is at c.tell_line-session.ensures.kept in
    forgone _ _ _ _ _ _ (reading_image c.args.reading.now) (next_rows (each_rows (option_to_list c.args.brought))) _ _ _ _ _ plain reads (inr brought) (ap (λ (s : SessionImage). state_of s) kept)
    c.refusal-in-Err-told.ensures.words c.refusal-in-Err-told.ensures.down (rw c.in-Ok.ensures at c.tell_line-session.ensures.looks)
