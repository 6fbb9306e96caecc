use Rattle.std.proofs.Common.{◌≡◌, take}
use Rattle.smk_skip.specs.Parts.{values_in}
use Rattle.smk_skip.proofs.values.values_at.Given as goal

abbrev pub invariant-loop-rid : goal.invariant-loop-rid
invariant-loop-rid l = l.values.keys ≡ values_in l.rel.rows l.col (take l.rid-index l.rids)
