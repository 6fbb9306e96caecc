use Rattle.std.proofs.{Common.{[], ap, get_or, arith}, lemmas.Grind.common_steps}
use Rattle.smk_base.specs.Rels.{Relation}
use Rattle.smk_session.proofs.OpenedViews.{table_is}
use Rattle.smk_session.proofs.start.making.declared_table.Goals as goal

pub returns : goal.returns
returns c =
    let opened = c.args.opened.now in
    table_is opened.book.now opened.tables.now [] c.args.declared.now.table (get_or opened.tables.now c.args.declared.now.table c.index-opened-declared.result) c.requires.opened.kinds c.requires.declared.fits.table
    (ap (λ (r : Relation). get_or opened.tables.now c.args.declared.now.table r) c.index-opened-declared.is)

pub bounds-opened-declared : goal.bounds-opened-declared
bounds-opened-declared c = grind (arith, common_steps)
