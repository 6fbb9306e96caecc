use Rattle.std.proofs.Common.{◌≡◌, ◌++◌, map, take, drop}
use Rattle.smk_grow.specs.Renewed.{moved_kept}
use Rattle.smk_grow.proofs.moving.move_maps.Given as goal

abbrev pub invariant-loop-kept : goal.invariant-loop-kept
invariant-loop-kept l = l.kepts ≡ map (moved_kept l.table l.rows l.size) (take l.kept-index l.initial.kepts) ++ drop l.kept-index l.initial.kepts
