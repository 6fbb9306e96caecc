use Rattle.std.proofs.Common.{◌∙◌, Ok, ap, sym}
use Rattle.smk_base.specs.declared.reply.Reply.TheVariants as shapes
use Rattle.smk_model.specs.{Replies.answer_to, Session.State}
use Rattle.smk_session.specs.Answers.{book_of, state_lent}
use Rattle.smk_session.proofs.Told.{cleared_listed}
use Rattle.smk_session.proofs.answer.answer_to.Goals as goal

pub returns-in_ok-clear-in-Clear-clause-told : goal.returns-in_ok-clear-in-Clear-clause-told
returns-in_ok-clear-in-Clear-clause-told g c =
    let told = c.in_ok-clear-in-Clear.ensures.told in
    record {
      whole = shapes.Cleared;
      asked_for = ap (answer_to (book_of c.args.held.now) (state_lent c.args.held.now)) c.in-Clear.is ∙ ap (λ (s : State). Ok (shapes.Cleared, s)) (sym told.1);
      told = record { reply = told.0 ∙ cleared_listed c.args.listed; count = c.in_ok-clear-in-Clear.ensures.count };
    }
