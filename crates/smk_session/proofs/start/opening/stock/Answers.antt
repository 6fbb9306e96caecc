use Rattle.std.proofs.{Common.{◌∙◌, List, All, ap, sym, subst}, lemmas.List.Elements.All-nil}
use Rattle.smk_base.specs.{CatalogImage.{ViewImage, catalog_image}, declared.book.catalog.Catalog.Catalog, declared.list.table_rids.Pick.Pick, PlanImage.expr_of}
use Rattle.smk_model.specs.{Plain.whole, Selection.{PickFits, each_kinds, each_rows, leaf_kinds, over}, Session.view_at}
use Rattle.smk_session.proofs.start.opening.stock.Goals as goal

pub fetch_leaves-requires-clause-picks : goal.fetch_leaves-requires-clause-picks
fetch_leaves-requires-clause-picks g c = subst (λ (l : List Pick). All (PickFits (each_rows c.args.tables.now)) l) (sym c.new-none.ensures) (All-nil (PickFits (each_rows c.args.tables.now)))

pub returns-clause-stocked : goal.returns-clause-stocked
returns-clause-stocked g c =
    let tables = c.args.tables.now in
    let plan = expr_of c.view_of.result.now.plan in
    record {
      fit = c.requires.kinds;
      view = c.requires.view;
      rows = c.in_ok-leaves.ensures.rows
          ∙ ap (over plan (each_rows tables)) c.new-none.ensures
          ∙ ap (λ (v : ViewImage). whole v.plan (each_rows tables)) c.view_of.ensures.view
          ∙ ap (λ (k : Catalog). whole (view_at (catalog_image k) c.args.v).plan (each_rows tables)) c.catalog.ensures.value;
      kinds = c.in_ok-leaves.ensures.kinds
          ∙ ap (λ (v : ViewImage). leaf_kinds v.plan (each_kinds tables)) c.view_of.ensures.view
          ∙ ap (λ (k : Catalog). leaf_kinds (view_at (catalog_image k) c.args.v).plan (each_kinds tables)) c.catalog.ensures.value;
    }
