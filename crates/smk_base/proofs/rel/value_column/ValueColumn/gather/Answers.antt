use Rattle.std.proofs.Common.{length}
use Rattle.smk_base.specs.{Columns.IsColumnOf, Stores.column_of}
use Rattle.smk_base.proofs.{Kept.IsColumnOf-gather, rel.value_column.ValueColumn.gather.Goals.In_ok-gathered}
use Rattle.smk_base.proofs.rel.value_column.ValueColumn.gather.Goals as goal

kept : (c : In_ok-gathered) → IsColumnOf (length c.args.places.now) (column_of c.in_ok-gathered.field-0)
kept c =
    let within = rw (← c.self.view_is) at c.requires.within in
    IsColumnOf-gather (column_of c.self.inside.store) _ _ c.args.places.now c.self.invariant c.in_ok-gathered.ensures.kind c.in_ok-gathered.ensures.cells within c.requires.few

pub invariant_of-result : goal.invariant_of-result
invariant_of-result c = rw (kept c).long (kept c)

pub returns-clause-keeps : goal.returns-clause-keeps
returns-clause-keeps c = kept c
