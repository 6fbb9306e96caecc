use Rattle.std.proofs.lemmas.Result.{err_from_is_err_and}
use Rattle.smk_session.proofs.BackAnswers.{backs_fit, rids_fit, rids_found, rids_refused, splits_fit}
use Rattle.smk_session.proofs.answer.rids_behind.Goals as goal

pub rids_of-requires-clause-backs : goal.rids_of-requires-clause-backs
rids_of-requires-clause-backs c = backs_fit c.args.held.now.tables.now c.args.held.now.views.now c.in_ok-pair.pair c.in_ok-pair.ensures.fits

pub rids_of-requires-clause-splits : goal.rids_of-requires-clause-splits
rids_of-requires-clause-splits c = splits_fit c.args.held.now.tables.now c.args.held.now.views.now c.in_ok-pair.pair c.in_ok-pair.ensures.fits

pub returns-in_err-rids-clause-found : goal.returns-in_err-rids-clause-found
returns-in_err-rids-clause-found c =
    let asked = c.args.asked.now in
    let p = err_from_is_err_and c.from_residual-in_err-rids.result c.from_residual-in_err-rids.ensures.1 in
    rw (p.1, p.2) (rids_refused c.args.held.now c.in_ok-pair.pair asked.view.now asked.table.now asked.marks.now asked.then.now c.in_err-rids.field-0.0 c.requires.rows c.in_ok-pair.ensures c.in_err-rids.ensures.gives)

pub returns-clause-found : goal.returns-clause-found
returns-clause-found c =
    let asked = c.args.asked.now in
    rids_found c.args.held.now c.in_ok-pair.pair asked.view.now asked.table.now asked.marks.now asked.then.now c.in_ok-rids.rids c.requires.rows c.in_ok-pair.ensures c.in_ok-rids.ensures.gives

pub returns-clause-fits : goal.returns-clause-fits
returns-clause-fits c = rids_fit c.args.held.now c.in_ok-pair.pair c.args.asked.now.view.now c.args.asked.now.table.now c.in_ok-rids.rids c.in_ok-pair.ensures c.in_ok-rids.ensures.set
