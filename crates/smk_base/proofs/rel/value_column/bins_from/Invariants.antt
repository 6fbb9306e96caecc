use Rattle.std.proofs.Common.{◌≡◌, length}
use Rattle.smk_base.specs.Rels.{AreBinsFrom}
use Rattle.smk_base.proofs.rel.value_column.bins_from.Given as goal

abbrev pub invariant-loop-k : goal.invariant-loop-k
invariant-loop-k l = (length l.bins.items ≡ l.k) × AreBinsFrom l.least l.width l.bins.items
