use Rattle.std.proofs.Common.{◌∙◌, length}
use Rattle.smk_body.proofs.Folding.{sizes_are}
use Rattle.smk_body.proofs.make.rows_of_groups.sized_and_turned.Goals as goal

pub sized_group_rows-requires-clause-sizes : goal.sized_group_rows-requires-clause-sizes
sized_group_rows-requires-clause-sizes c =
    rw (c.of-of.ensures, c.firsts.ensures) at (c.as_slice.ensures.value ∙ c.in_ok-sizes.ensures.sizes ∙ sizes_are c.of-of.result.now (length c.firsts.result.now))
