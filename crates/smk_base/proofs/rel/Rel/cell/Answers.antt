use Rattle.std.proofs.{Common.{◌≡◌, ◌∙◌, ap, sym}, lemmas.List.{length-map, get_or_read}}
use Rattle.smk_base.specs.{Cells.value_of_cell, Rels.{value_in, row_in}, Images.ColumnImage, Relations.{column_in, kinds_of, rows_of}}
use Rattle.smk_base.proofs.{RelRows.Fits-value_in, Rows.{length-rows_of, value_in-rows_of, IsRelation-columns}, Relating.long-at, rel.Rel.cell.Goals.After-cell}
use Rattle.smk_base.proofs.rel.Rel.cell.Goals as goal

pub cell-requires : goal.cell-requires
cell-requires c =
    let row = rw (← c.self.view_is, length-rows_of) at c.requires.row in
    let below = rw (← c.self.view_is, length-map) at c.requires.column in
    let column : c.index.result.now ≡ column_in c.self.inside.columns.items c.args.c = get_or_read c.self.inside.columns.items c.args.c _ below c.index.ensures _ in
    rw (column, long-at c.self.inside.count c.self.inside.columns.items c.args.c c.self.invariant.each below) row

value_is : (c : After-cell) → value_of_cell c.cell.result ≡ value_in (row_in (rows_of c.self.inside.count c.self.inside.columns.items) c.args.i) c.args.c
value_is c =
    let row = rw (← c.self.view_is, length-rows_of) at c.requires.row in
    let below = rw (← c.self.view_is, length-map) at c.requires.column in
    let column : c.index.result.now ≡ column_in c.self.inside.columns.items c.args.c = get_or_read c.self.inside.columns.items c.args.c _ below c.index.ensures _ in
    c.cell.ensures ∙ ap (λ (column : ColumnImage). value_in column.cells c.args.i) column ∙ sym (value_in-rows_of c.self.inside.count c.self.inside.columns.items c.args.i c.args.c row below)

pub returns-clause-value : goal.returns-clause-value
returns-clause-value c = rw (← c.self.view_is) (value_is c)

pub returns-clause-fits : goal.returns-clause-fits
returns-clause-fits c =
    let row = rw (← c.self.view_is) at c.requires.row in
    let below = rw (← c.self.view_is) at c.requires.column in
    rw (value_is c, ← c.self.view_is) (Fits-value_in (kinds_of c.self.inside.columns.items) (rows_of c.self.inside.count c.self.inside.columns.items) c.args.i c.args.c (IsRelation-columns _ _ c.self.invariant).fit row below)
