use Rattle.std.proofs.Common.{◌+◌, length}
use Rattle.smk_base.specs.{Columns.IsColumnOf, Stores.column_of}
use Rattle.smk_base.proofs.{Kept.IsColumnOf-append, rel.value_column.ValueColumn.append.Goals.In_ok-append_store}
use Rattle.smk_base.proofs.rel.value_column.ValueColumn.append.Goals as goal

kept : (c : In_ok-append_store) → IsColumnOf (length c.args.self.now.cells + length c.args.other.now.cells) (column_of c.append_store.new.store)
kept c =
    let wider = rw (← c.self.view_is, ← c.other.view_is) at c.requires.wider in
    let few = rw (← c.self.view_is, ← c.other.view_is) at c.requires.few in
    rw (← c.self.view_is, ← c.other.view_is) (IsColumnOf-append (column_of c.self.inside.store) (column_of c.other.inside.store) _ _ _ c.self.invariant c.other.invariant wider c.in_ok-append_store.ensures.kind c.in_ok-append_store.ensures.cells few)

pub invariant_of-self-2 : goal.invariant_of-self-2
invariant_of-self-2 c = rw (kept c).long (kept c)

pub returns-clause-keeps : goal.returns-clause-keeps
returns-clause-keeps c = kept c
