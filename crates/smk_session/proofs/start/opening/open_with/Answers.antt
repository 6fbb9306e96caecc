use Rattle.std.proofs.Common.{◌<◌, ◌∙◌, ℕ, All, ap, sym, subst}
use Rattle.smk_base.specs.{CatalogImage.{ViewImage, catalog_image}, declared.book.catalog.Catalog.Catalog, declared.book.need.Needed.Needed}
use Rattle.smk_model.specs.{Plain.whole, Selection.{each_kinds, each_rows, leaf_kinds}, Session.view_at}
use Rattle.smk_session.proofs.OpenedViews.{tables_long}
use Rattle.smk_session.proofs.start.opening.open_with.Goals as goal

pub run_leaves-requires-clause-need : goal.run_leaves-requires-clause-need
run_leaves-requires-clause-need g c κs within =
    subst (λ (n : ℕ). All (λ (needed : Needed). needed.table < n) c.in_ok-need.need) (sym (tables_long c.args.book.now c.args.tables.now c.requires.stocked.fit)) c.in_ok-need.ensures.tables

pub run_leaves-requires-clause-rows : goal.run_leaves-requires-clause-rows
run_leaves-requires-clause-rows g c κs within =
    c.requires.stocked.rows
    ∙ ap (λ (k : Catalog). whole (view_at (catalog_image k) c.args.stocked.view).plan (each_rows c.args.tables.now)) (sym c.catalog.ensures.value)
    ∙ ap (λ (v : ViewImage). whole v.plan (each_rows c.args.tables.now)) (sym c.view_of-view.ensures.view)

pub run_leaves-requires-clause-kinds : goal.run_leaves-requires-clause-kinds
run_leaves-requires-clause-kinds g c κs within =
    c.requires.stocked.kinds
    ∙ ap (λ (k : Catalog). leaf_kinds (view_at (catalog_image k) c.args.stocked.view).plan (each_kinds c.args.tables.now)) (sym c.catalog.ensures.value)
    ∙ ap (λ (v : ViewImage). leaf_kinds v.plan (each_kinds c.args.tables.now)) (sym c.view_of-view.ensures.view)
