use Rattle.std.proofs.Common.{◌≡◌, map, take}
use Rattle.smk_base.specs.CatalogImage.{catalog_image}
use Rattle.smk_model.specs.Reports.{size_of_view}
use Rattle.smk_session.specs.Sessions.{workbook_of}
use Rattle.smk_top.proofs.summarizing.sizes_of.Given as goal

abbrev pub invariant-loop-number : goal.invariant-loop-number
invariant-loop-number l = l.sizes ≡ map (size_of_view (workbook_of l.session)) (take l.number (catalog_image l.session.catalog).views)
