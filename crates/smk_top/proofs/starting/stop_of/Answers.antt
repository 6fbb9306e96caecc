use Rattle.smk_top.proofs.StartNames.{rows_named, pairs_named}
use Rattle.smk_top.proofs.starting.stop_of.Goals as goal

pub returns-in-Rows-clause-starts : goal.returns-in-Rows-clause-starts
returns-in-Rows-clause-starts c book rows is views tables =
    rows_named book _ c.args.names.views.items c.name_at-view.result c.in-Rows.view c.in-Rows.node (rw c.in-Rows.is at is) views c.name_at-view.ensures

pub returns-in-Pairs-clause-starts : goal.returns-in-Pairs-clause-starts
returns-in-Pairs-clause-starts c book rows is views tables =
    pairs_named book _ c.args.names.views.items c.args.names.tables.items c.name_at-view-in-Pairs.result c.name_at-table.result c.in-Pairs.view c.in-Pairs.node c.in-Pairs.table (rw c.in-Pairs.is at is) views tables
    c.name_at-view-in-Pairs.ensures c.name_at-table.ensures
