use Rattle.std.proofs.Common.{◌≡◌, length, map, take}
use Rattle.smk_push.specs.Cubes.{cube_of}
use Rattle.smk_push.proofs.cubes.Cubes.of_rows.Given as goal

abbrev pub invariant-loop-mark : goal.invariant-loop-mark
invariant-loop-mark l = (l.groups.items ≡ map (cube_of l.all l.keys l.aggs) (take l.mark l.map.lists)) × (length l.table.items ≡ length l.input.classes.firsts)
