use Rattle.std.proofs.Common.{◌≡◌, take}
use Rattle.smk_base.specs.Rels.{picked, row_in}
use Rattle.smk_defer.proofs.keys.is_key_of.Given as goal

abbrev pub invariant-loop-k : goal.invariant-loop-k
invariant-loop-k l = take l.k l.key ≡ picked (take l.k l.cols) (row_in l.rel.rows l.i)
