use Rattle.std.proofs.Common.{◌≡◌, ◌++◌, take}
use Rattle.std.specs.List.{flat_map}
use Rattle.smk_base.specs.CatalogImage.{catalog_image}
use Rattle.smk_model.specs.{Session.view_at, ViewTexts.text_of_view}
use Rattle.smk_session.specs.Sessions.{workbook_of}
use Rattle.smk_grow.proofs.said.with_views.Given as goal

abbrev pub invariant-loop-view : goal.invariant-loop-view
invariant-loop-view l = l.text.items ≡ l.initial.text.items ++ flat_map (λ v. text_of_view (workbook_of l.session) (view_at (catalog_image l.session.catalog) v)) (take l.view-index l.views)
