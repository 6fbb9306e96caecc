use Rattle.std.proofs.Common.{arith}
use Rattle.smk_base.proofs.Recoding.{AreTexts-none}
use Rattle.smk_base.proofs.rel.dict.Dict.new.Goals as goal

pub invariant_of-result : goal.invariant_of-result
invariant_of-result c = rw (c.new.ensures.items) (record { different = AreTexts-none; few = omega arith })
