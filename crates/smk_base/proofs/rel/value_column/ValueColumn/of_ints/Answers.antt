use Rattle.std.proofs.Common.{◌≡◌, rules, length}
use Rattle.std.specs.Vec.{vec_len}
use Rattle.smk_base.specs.{Columns.IsColumnOf, Stores.column_of}
use Rattle.smk_base.proofs.{Kept.IsColumnOf-ints, rel.value_column.ValueColumn.of_ints.Goals.In_ok-stored}
use Rattle.smk_base.proofs.rel.value_column.ValueColumn.of_ints.Goals as goal

kept : (c : In_ok-stored) → IsColumnOf (vec_len c.args.numbers) (column_of c.in_ok-stored.field-0)
kept c =
    let long : vec_len c.args.numbers ≡ length c.args.numbers.items = search rules in
    let few = rw long at c.requires.few in
    rw long (IsColumnOf-ints c.args.level c.args.numbers.items _ c.requires.low few c.requires.within c.in_ok-stored.ensures.kind c.in_ok-stored.ensures.cells)

pub invariant_of-result : goal.invariant_of-result
invariant_of-result c = rw (kept c).long (kept c)

pub returns-clause-keeps : goal.returns-clause-keeps
returns-clause-keeps c = kept c
