use Rattle.std.proofs.Common.{arith}
use Rattle.smk_session.proofs.OpenedViews.{tables_long, views_long}
use Rattle.smk_session.proofs.answer.backward.pair_of.Goals as goal

pub bounds-held-v : goal.bounds-held-v
bounds-held-v c = omega (arith, c.in_ok-v.ensures.view, views_long c.args.held.now.catalog.now c.args.held.now.tables.now c.args.held.now.views.now c.requires.opened)

pub bounds-held-t : goal.bounds-held-t
bounds-held-t c = omega (arith, c.in_ok-v.ensures.table, tables_long c.args.held.now.catalog.now c.args.held.now.tables.now c.requires.opened.kinds)
