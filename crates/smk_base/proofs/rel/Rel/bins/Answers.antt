use Rattle.std.proofs.{Common.{◌≡◌, ◌∙◌, ap, subst, rules, map, to_z, of_z, w64, IfOk}, lemmas.List.{length-map, get_or_read}}
use Rattle.smk_base.specs.{Images.ColumnImage, Rels.{Relation, bin_of}, Relations.column_in}
use Rattle.smk_base.proofs.Relating.{one-bins}
use Rattle.smk_base.proofs.rel.Rel.bins.Goals as goal

pub returns : goal.returns
returns c =
    let below = rw (← c.self.view_is, length-map) at c.requires.column in
    let column : c.index.result.now ≡ column_in c.self.inside.columns.items c.args.c = get_or_read c.self.inside.columns.items c.args.c _ below c.index.ensures _ in
    let same : to_z w64 (of_z w64 c.args.width) ≡ c.args.width = search rules in
    let kind = c.in_ok-column.ensures.kind ∙ ap (λ (column : ColumnImage). column.kind) column in
    let binned = simp same at c.in_ok-column.ensures.cells in
    let cells = binned ∙ ap (λ (column : ColumnImage). map (bin_of c.args.width) column.cells) column in
    rw (← c.self.view_is) (subst (λ (rel : Relation). IfOk c.of_column.result (λ made. made ≡ rel)) (one-bins c.self.inside.count c.self.inside.columns.items c.args.c c.args.width c.in_ok-column.column c.self.invariant.each below kind cells) c.of_column.ensures)
