use Rattle.std.proofs.Common.{◌≡◌, take}
use Rattle.smk_base.specs.Rels.{picked, row_in}
use Rattle.smk_defer.proofs.keys.key_at.Given as goal

abbrev pub invariant-loop-c : goal.invariant-loop-c
invariant-loop-c l = l.values.items ≡ picked (take l.c-index l.cols) (row_in l.rel.rows l.i)
