use Rattle.smk_base.proofs.Relating.{relation-one}
use Rattle.smk_base.proofs.rel.of_column.Goals as goal

pub returns : goal.returns
returns c = rw c.in_ok-vec.ensures.items (relation-one _ c.args.column c.requires)
