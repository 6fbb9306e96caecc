use Rattle.std.proofs.Common.{◌≡◌, IfOk, length, subst}
use Rattle.smk_model.specs.{OwnAnswers.selected_on, Session.{State, rows_of_table}}
use Rattle.smk_session.specs.Answers.{rids_or_all}
use Rattle.smk_session.proofs.session.Session.selected_on.Goals as goal

pub returns-clause-selected : goal.returns-clause-selected
returns-clause-selected c =
    subst (λ (s : State). IfOk c.selected.result (λ rids. rids_or_all rids (length (rows_of_table s c.args.table)) ≡ selected_on s c.args.table)) c.lent.ensures.state c.selected.ensures.selected
