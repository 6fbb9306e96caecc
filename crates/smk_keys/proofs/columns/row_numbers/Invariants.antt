use Rattle.std.proofs.Common.{[], map, take}
use Rattle.std.specs.List.{slice_range}
use Rattle.smk_base.specs.Rels.{picked}
use Rattle.smk_keys.specs.Numbers.{AreNumbers}
use Rattle.smk_keys.proofs.columns.row_numbers.Given as goal

abbrev pub invariant-loop-k : goal.invariant-loop-k
invariant-loop-k l = AreNumbers [] (map (picked (take l.k l.cols)) (slice_range l.rel.rows l.from l.to)) l.made.count l.made.of.items
