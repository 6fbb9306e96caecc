use Rattle.std.proofs.{Common.{◌≡◌, length, take, arith}, lemmas.Grind.common_steps}
use Rattle.smk_model.specs.Tables.{declared_kinds}
use Rattle.smk_table.proofs.TableRows.{kinds_columns}
use Rattle.smk_table.proofs.records.empty_rel.Goals as goal

pub new-requires-clause-low_levels : goal.new-requires-clause-low_levels
new-requires-clause-low_levels c =
    let whole : take (length c.as_slice.result.now) c.loop-c.kinds ≡ declared_kinds c.args.cols.now = grind (arith, common_steps) in
    rw whole (kinds_columns c.args.cols.now c.requires.base)
