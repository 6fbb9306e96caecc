use Rattle.std.proofs.Common.{IsSome}
use Rattle.smk_report.proofs.faults.table_line.Goals as goal

pub returns-in-RepeatedColumn : goal.returns-in-RepeatedColumn
returns-in-RepeatedColumn c column is shown =
    let named : IsSome column = rw c.in-RepeatedColumn.is at is in
    rw (c.in-RepeatedColumn.is, ← shown named) c.pair_text-in-RepeatedColumn.ensures

pub returns-in-Ragged : goal.returns-in-Ragged
returns-in-Ragged c column is shown = rw c.in-Ragged.is c.line_around.ensures
