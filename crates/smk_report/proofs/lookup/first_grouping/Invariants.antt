use Rattle.std.proofs.Common.{◌≡◌, drop}
use Rattle.std.specs.List.{filter}
use Rattle.smk_base.specs.CatalogImage.{catalog_image}
use Rattle.smk_model.specs.{Replies.{first_grouping, grouping_of}, Workload.is_back}
use Rattle.smk_report.proofs.lookup.first_grouping.Given as goal

abbrev pub invariant-loop-declared : goal.invariant-loop-declared
invariant-loop-declared l = grouping_of (catalog_image l.catalog) l.view l.table ≡ first_grouping (filter (is_back l.view l.table) (drop l.declared-index l.declared-items))
