use Rattle.std.proofs.Common.{map, take}
use Rattle.smk_model.specs.{OwnTexts.column_record, Typing.column_of}
use Rattle.smk_report.proofs.Parts.{adds_pushed, mapped_more}
use Rattle.smk_report.proofs.schema.with_declared.Goals as goal

pub loop-declared-preserved : goal.loop-declared-preserved
loop-declared-preserved c =
    let columns = c.as_slice-declared-items.result.now in
    let i = c.loop-declared.declared-index in
    adds_pushed _ _ _ column_record (map column_of (take i columns)) _ (column_of c.declared-item.result) (mapped_more column_of columns i c.declared-item.result c.loop-declared-test.true c.declared-item.is) c.loop-declared.invariant c.in_ok-column.ensures
