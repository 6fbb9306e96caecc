use Rattle.std.proofs.Common.{◌≡◌, ◌++◌, slice_index_or}
use Rattle.std.specs.List.{flat_map}
use Rattle.smk_base.specs.{CatalogImage.catalog_image, Places.upto}
use Rattle.smk_model.specs.Session.{view_at}
use Rattle.smk_report.specs.Schemas.{view_over}
use Rattle.smk_report.proofs.schema.with_views.Given as goal

abbrev pub invariant-loop-v : goal.invariant-loop-v
invariant-loop-v l = l.text.items ≡ l.initial.text.items ++ flat_map (λ v. view_over (view_at (catalog_image l.catalog) v) (slice_index_or l.rows v 0)) (upto l.v)
