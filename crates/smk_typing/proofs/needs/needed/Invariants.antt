use Rattle.std.proofs.Common.{◌≡◌, map}
use Rattle.std.specs.List.{filter}
use Rattle.smk_base.specs.{Places.upto, Needs.is_needed, CatalogImage.catalog_image}
use Rattle.smk_model.specs.Workload.{needed_at}
use Rattle.smk_typing.proofs.needs.needed.Given as goal

abbrev pub invariant-loop-table : goal.invariant-loop-table
invariant-loop-table l = l.need ≡ filter is_needed (map (needed_at (catalog_image l.fn.book) l.view) (upto l.table))
