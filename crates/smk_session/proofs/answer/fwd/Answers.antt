use Rattle.std.proofs.Common.{ap, get_or, subst, arith}
use Rattle.smk_base.specs.declared.reply.Reply.{Reply}
use Rattle.smk_compose.specs.declared.kept_maps.Run.{Run}
use Rattle.smk_model.specs.Replies.{Asked}
use Rattle.smk_session.specs.Answers.{Gives}
use Rattle.smk_session.proofs.{OpenedViews.views_long, Opened.named_fwd_is}
use Rattle.smk_session.proofs.answer.fwd.Goals as goal

pub bounds-held-v : goal.bounds-held-v
bounds-held-v c = omega (arith, c.in_ok-v.ensures.view, views_long c.args.held.now.catalog.now c.args.held.now.tables.now c.args.held.now.views.now c.requires.opened)

pub returns-clause-gives : goal.returns-clause-gives
returns-clause-gives c =
    subst (λ (a : Asked Reply). Gives c.fwd_marks.result a)
    (named_fwd_is c.args.held.now.catalog.now c.args.held.now.tables.now c.args.held.now.brushes.now c.args.held.now.views.now c.args.view.now c.args.table.now c.in_ok-v.v c.in_ok-v.t (get_or c.args.held.now.views.now c.in_ok-v.v c.index-held-v.result) c.args.rows.now c.requires.opened
    c.in_ok-v.ensures.gives c.in_ok-v.ensures.view c.in_ok-v.ensures.table (ap (λ (r : Run). get_or c.args.held.now.views.now c.in_ok-v.v r) c.index-held-v.is))
    c.fwd_marks.ensures.gives
