use Rattle.std.proofs.Common.{◌≡◌, length, take}
use Rattle.smk_model.specs.Tables.{declared_kinds}
use Rattle.smk_table.proofs.records.empty_rel.Given as goal

abbrev pub invariant-loop-c : goal.invariant-loop-c
invariant-loop-c l = (length l.kinds ≡ 16) × (take l.c l.kinds ≡ declared_kinds (take l.c l.cols))
