use Rattle.std.proofs.Common.{◌≡◌, drop, find, map, nat_eq}
use Rattle.std.specs.Cmp.Lexicographic.{pointwise}
use Rattle.smk_base.specs.CatalogImage.{catalog_image, view_image}
use Rattle.smk_model.specs.ReplyTexts.{view_named}
use Rattle.smk_report.proofs.lookup.view_named.Given as goal

abbrev pub invariant-loop-view : goal.invariant-loop-view
invariant-loop-view l = view_named (catalog_image l.catalog) l.name ≡ find (λ view. pointwise nat_eq view.name l.name) (map view_image (drop l.view-index l.view-items))
