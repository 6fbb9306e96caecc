use Rattle.std.proofs.{Common.{◌≡◌, ◌∙◌, ap, sym}, lemmas.List.{length-map, get_or_read}}
use Rattle.smk_base.specs.{Images.ColumnImage, Relations.column_in}
use Rattle.smk_base.proofs.Relating.{column_values-rows_of}
use Rattle.smk_base.proofs.rel.Rel.texts.Goals as goal

pub returns : goal.returns
returns c =
    let below = rw (← c.self.view_is, length-map) at c.requires.column in
    let column : c.index.result.now ≡ column_in c.self.inside.columns.items c.args.c = get_or_read c.self.inside.columns.items c.args.c _ below c.index.ensures _ in
    rw (← c.self.view_is) (column_values-rows_of c.self.inside.count c.self.inside.columns.items c.args.c c.self.invariant.each below ∙ ap (λ (column : ColumnImage). column.cells) (sym column) ∙ c.texts.ensures)
