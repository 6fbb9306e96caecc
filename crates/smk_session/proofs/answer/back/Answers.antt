use Rattle.std.proofs.Common.{rules, ◌≤◌, ◌+◌, subst}
use Rattle.smk_base.specs.declared.reply.Reply.{Reply}
use Rattle.smk_model.specs.{Replies.Asked, ReplyTexts.AsksRows}
use Rattle.smk_session.specs.Answers.{Gives, looks_of_asked}
use Rattle.smk_session.proofs.BackAnswers.{answered_is, backs_fit, cubes_fit, grouped_is, rows_named, splits_fit}
use Rattle.smk_session.proofs.answer.back.Goals as goal

pub rows_of-requires-clause-backs : goal.rows_of-requires-clause-backs
rows_of-requires-clause-backs g c = backs_fit c.args.held.now.tables.now c.args.held.now.views.now c.in_ok-pair.pair c.in_ok-pair.ensures.fits

pub rows_of-requires-clause-splits : goal.rows_of-requires-clause-splits
rows_of-requires-clause-splits g c = splits_fit c.args.held.now.tables.now c.args.held.now.views.now c.in_ok-pair.pair c.in_ok-pair.ensures.fits

pub groups-requires : goal.groups-requires
groups-requires g c = cubes_fit c.args.held.now.tables.now c.args.held.now.views.now c.in_ok-pair.pair c.in_ok-pair.ensures.fits

pub returns-in-Plain-clause-gives : goal.returns-in-Plain-clause-gives
returns-in-Plain-clause-gives g c =
    let asked = c.args.asked.now in
    let asks : AsksRows asked.then.now = search rules in
    subst (λ (a : Asked Reply). Gives c.rows_of.result a) (rows_named c.args.held.now c.in_ok-pair.pair asked.view.now asked.table.now asked.marks.now asked.then.now asks c.in_ok-pair.ensures) c.rows_of.ensures.gives

pub returns-in-Plain-clause-looks : goal.returns-in-Plain-clause-looks
returns-in-Plain-clause-looks g c =
    let asked = c.args.asked.now in
    let asks : AsksRows asked.then.now = search rules in
    subst (λ (a : Asked Reply). c.rows_of.new.steps ≤ c.args.steps.now + looks_of_asked a) (rows_named c.args.held.now c.in_ok-pair.pair asked.view.now asked.table.now asked.marks.now asked.then.now asks c.in_ok-pair.ensures) c.rows_of.ensures.looks

pub returns-in-Grouped-clause-gives : goal.returns-in-Grouped-clause-gives
returns-in-Grouped-clause-gives g c =
    let asked = c.args.asked.now in
    subst (λ (a : Asked Reply). Gives c.groups.result a)
    (answered_is c.args.held.now c.in_ok-pair.pair asked.view.now asked.table.now asked.marks.now asked.then.now _ _ c.in_ok-pair.ensures c.in-Grouped.is
    (grouped_is c.args.held.now.tables.now c.args.held.now.brushes.now c.args.held.now.views.now c.in_ok-pair.pair asked.marks.now c.in_ok-pair.ensures.fits))
    c.groups.ensures.gives
