use Rattle.std.proofs.Common.{◌≡◌, map, take}
use Rattle.smk_base.specs.Rels.{picked, rows_at}
use Rattle.smk_model.specs.Plain.{firsts}
use Rattle.smk_defer.proofs.keys.keys_at.Given as goal

abbrev pub invariant-loop-k : goal.invariant-loop-k
invariant-loop-k l = l.made ≡ firsts (map (picked l.cols) (rows_at l.rel.rows (take l.k l.places)))
