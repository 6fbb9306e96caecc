use Rattle.std.proofs.Common.{◌∙◌, ◌≤◌, ◌+◌, ap, length, arith}
use Rattle.smk_base.specs.{CatalogImage.catalog_image, declared.book.catalog.Catalog.Catalog, declared.book.catalog.ViewInfo.ViewInfo}
use Rattle.smk_session.proofs.Starts.{views_more}
use Rattle.smk_grow.specs.{Grown.rows_of, Renewals.book_of, Renewed.{apart_view, looks_apart}}
use Rattle.smk_grow.proofs.{Folds.{looks_below, looks_upto}, Kept.views_count}
use Rattle.smk_grow.proofs.apart.each_apart.Goals as goal

pub returns-in_err-view_apart-clause-looks : goal.returns-in_err-view_apart-clause-looks
returns-in_err-view_apart-clause-looks g c =
    let r = c.args.renewal.now in
    let f = looks_apart r.table (catalog_image r.book.now) (length (rows_of r.tables.now r.table)) in
    let count = c.as_slice-count.ensures ∙ ap (λ (k : Catalog). k.views) c.catalog.ensures.value in
    let low : c.loop-v.v + 1 ≤ length (book_of r).catalog.views = omega (arith, c.loop-v-test.true, views_count r.book.now, ap (length {A = ViewInfo}) count) in
    looks_below f (c.loop-v.v + 1) (length (book_of r).catalog.views) c.args.steps.now c.view_apart.new.steps low
    (looks_upto f c.loop-v.v c.args.steps.now c.loop-v.steps c.view_apart.new.steps c.loop-v.invariant.looks c.view_apart.ensures.looks)

pub returns-in_err-push-clause-looks : goal.returns-in_err-push-clause-looks
returns-in_err-push-clause-looks g c =
    let r = c.args.renewal.now in
    let f = looks_apart r.table (catalog_image r.book.now) (length (rows_of r.tables.now r.table)) in
    let count = c.as_slice-count.ensures ∙ ap (λ (k : Catalog). k.views) c.catalog.ensures.value in
    let low : c.loop-v.v + 1 ≤ length (book_of r).catalog.views = omega (arith, c.loop-v-test.true, views_count r.book.now, ap (length {A = ViewInfo}) count) in
    looks_below f (c.loop-v.v + 1) (length (book_of r).catalog.views) c.args.steps.now c.view_apart.new.steps low
    (looks_upto f c.loop-v.v c.args.steps.now c.loop-v.steps c.view_apart.new.steps c.loop-v.invariant.looks c.view_apart.ensures.looks)

pub loop-v-preserved : goal.loop-v-preserved
loop-v-preserved g c =
    let r = c.args.renewal.now in
    let f = looks_apart r.table (catalog_image r.book.now) (length (rows_of r.tables.now r.table)) in
    record {
      views = views_more (apart_view r.table (book_of r)) c.loop-v.v c.loop-v.views.items c.push.new.self.items c.in_ok-view_apart.field-0 c.in_ok-push.ensures.items c.loop-v.invariant.views c.in_ok-view_apart.ensures.view;
      looks = looks_upto f c.loop-v.v c.args.steps.now c.loop-v.steps c.view_apart.new.steps c.loop-v.invariant.looks c.view_apart.ensures.looks;
    }
