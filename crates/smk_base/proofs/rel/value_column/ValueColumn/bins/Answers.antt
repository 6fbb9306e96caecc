use Rattle.std.proofs.Common.{◌≡◌, rules, length, to_z, of_z, w64}
use Rattle.smk_base.specs.{Columns.IsColumnOf, Stores.{column_of, cells_in}}
use Rattle.smk_base.proofs.{Kept.IsColumnOf-bins, rel.value_column.ValueColumn.bins.Goals.In_ok-binned}
use Rattle.smk_base.proofs.rel.value_column.ValueColumn.bins.Goals as goal

kept : (c : In_ok-binned) → IsColumnOf (length (cells_in c.self.inside.store)) (column_of c.in_ok-binned.field-0)
kept c =
    let int = rw (← c.self.view_is) at c.requires.int in
    let same : to_z w64 (of_z w64 c.args.width) ≡ c.args.width = search rules in
    let cells = simp same at c.in_ok-binned.ensures.cells in
    IsColumnOf-bins (column_of c.self.inside.store) _ _ c.args.width c.self.invariant int c.requires.width c.in_ok-binned.ensures.kind cells

pub invariant_of-result : goal.invariant_of-result
invariant_of-result c = rw (kept c).long (kept c)

pub returns-clause-keeps : goal.returns-clause-keeps
returns-clause-keeps c = rw (← c.self.view_is) (kept c)
