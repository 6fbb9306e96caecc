use Rattle.std.proofs.Common.{◌≡◌, map, take}
use Rattle.smk_base.specs.Rels.{picked, rows_at}
use Rattle.smk_model.specs.Classes.{places_in}
use Rattle.smk_defer.proofs.keys.found_at.Given as goal

abbrev pub invariant-loop-k : goal.invariant-loop-k
invariant-loop-k l = l.made.items ≡ places_in l.keys (map (picked l.cols) (rows_at l.rel.rows (take l.k l.places)))
