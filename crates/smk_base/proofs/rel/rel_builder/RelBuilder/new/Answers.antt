use Rattle.smk_base.proofs.Building.{rows_begun-new}
use Rattle.smk_base.proofs.rel.rel_builder.RelBuilder.new.Goals as goal

pub returns : goal.returns
returns c = rows_begun-new _ _ c.in_ok-begun_columns.ensures
