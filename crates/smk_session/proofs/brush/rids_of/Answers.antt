use Rattle.std.proofs.Common.{◌∙◌, List, ℕ, IfOk, ap, subst}
use Rattle.smk_base.specs.Places.{IsPlaces, Lists}
use Rattle.smk_model.specs.{Replies.Asked, Session.view_at}
use Rattle.smk_session.specs.Answers.{Gives, book_of, members_asked, state_lent}
use Rattle.smk_session.proofs.Marked.{backs_asked}
use Rattle.smk_session.proofs.brush.rids_of.Goals as goal

pub returns-clause-gives : goal.returns-clause-gives
returns-clause-gives c =
    let held = c.args.held.now in
    subst (λ (a : Asked (List ℕ)). Gives c.marked_members.result a)
    (ap (λ (m : Lists). members_asked m c.args.marks.now) c.in_ok-map.ensures ∙ backs_asked (view_at (book_of held) c.args.v).plan (state_lent held).tables c.args.t c.args.marks.now)
    c.marked_members.ensures.gives

pub returns-clause-set : goal.returns-clause-set
returns-clause-set c = subst (λ (m : Lists). IfOk c.marked_members.result (λ rids. IsPlaces m.bound rids)) c.in_ok-map.ensures c.marked_members.ensures.set
