use Rattle.std.proofs.Common.{◌≡◌, IfOk, length, subst}
use Rattle.smk_base.specs.CatalogImage.{CatalogImage}
use Rattle.smk_model.specs.Session as sessions
use Rattle.smk_model.specs.Session.{State, rows_of_table}
use Rattle.smk_session.specs.{Answers.{book_of, rids_or_all}, Sessions.state_of}
use Rattle.smk_session.proofs.session.Session.selected_for.Goals as goal

pub returns-clause-selected : goal.returns-clause-selected
returns-clause-selected c =
    subst (λ (b : CatalogImage). IfOk c.selected.result (λ rids. rids_or_all rids (length (rows_of_table (state_of c.args.self.now) c.args.table)) ≡ sessions.selected_for b (state_of c.args.self.now) c.args.view c.args.table)) c.lent.ensures.catalog
    (subst (λ (s : State). IfOk c.selected.result (λ rids. rids_or_all rids (length (rows_of_table s c.args.table)) ≡ sessions.selected_for (book_of c.lent.result) s c.args.view c.args.table)) c.lent.ensures.state c.selected.ensures.selected)
