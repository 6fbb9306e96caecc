use Rattle.std.proofs.Common.{◌≡◌}
use Rattle.smk_base.specs.{CatalogImage.catalog_image, Places.places}
use Rattle.smk_model.specs.Appends.{scans}
use Rattle.smk_grow.proofs.scans.scanning_views.Given as goal

abbrev pub invariant-loop-v : goal.invariant-loop-v
invariant-loop-v l = l.views ≡ places (scans (catalog_image l.book) l.table) l.v
