use Rattle.std.proofs.Common.{◌∙◌, ◌≤◌, ap, length, arith}
use Rattle.smk_base.specs.{CatalogImage.catalog_image, declared.book.catalog.Catalog.Catalog, declared.book.catalog.ViewInfo.ViewInfo}
use Rattle.smk_grow.proofs.Moved.{moved_all}
use Rattle.smk_grow.proofs.moving.move_views.Goals as goal

pub returns : goal.returns
returns c =
    let count = c.as_slice-count.ensures ∙ ap (λ (k : Catalog). k.views) c.catalog.ensures.value in
    let all : length c.args.views.now ≤ c.loop-v.v = omega (arith, c.loop-v-test.false, c.requires, ap (length {A = ViewInfo}) count) in
    moved_all (catalog_image c.args.book.now) c.args.table c.args.size c.args.views.now c.loop-v.views c.loop-v.invariant.long (λ w low. c.loop-v.invariant.done w (omega (arith, low, all)))
