use Rattle.std.proofs.{Common.{◌≡◌, ◌<◌, ℕ, length, map, ap, sym, subst, arith, slice_index_or}, lemmas.Grind.common_steps}
use Rattle.smk_base.specs.CatalogImage.{ViewImage, catalog_image, view_image}
use Rattle.smk_model.specs.Session.{no_view, view_at}
use Rattle.smk_report.specs.Schemas.{view_over}
use Rattle.smk_report.proofs.Parts.{text_more}
use Rattle.smk_report.proofs.schema.with_views.Goals as goal

pub with_view-requires : goal.with_view-requires
with_view-requires c =
    let view : view_image c.index-views-v.result ≡ view_at (catalog_image c.args.catalog.now) c.loop-v.v = grind (arith, common_steps) in
    let known : c.loop-v.v < length (map view_image c.args.catalog.now.views) = grind (arith, common_steps) in
    subst (λ (view : ViewImage). length view.names ≡ length view.kinds) (sym view) (c.requires.checked.typed.views c.loop-v.v no_view known).named

pub loop-v-preserved : goal.loop-v-preserved
loop-v-preserved c =
    let catalog = catalog_image c.args.catalog.now in
    let rows = c.args.rows.now in
    let v = c.loop-v.v in
    let view : view_image c.index-views-v.result ≡ view_at catalog v = grind (arith, common_steps) in
    text_more _ _ _ (λ (v : ℕ). view_over (view_at catalog v) (slice_index_or rows v 0)) v _ c.loop-v.invariant c.in_ok-text.ensures (ap (λ (view : ViewImage). view_over view (slice_index_or rows v 0)) view)
