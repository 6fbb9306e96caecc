use Rattle.std.proofs.{Common.{◌<◌, ◌∙◌, ℕ, subst, All}, lemmas.List.length-map}
use Rattle.smk_base.specs.CatalogImage.{view_image}
use Rattle.smk_grow.specs.Renewals.{book_of, first_book}
use Rattle.smk_grow.proofs.{Kept.now_opened, Told.scanning_known}
use Rattle.smk_grow.proofs.renewing.fresh_text.Goals as goal

pub added_now-requires-clause-scanning : goal.added_now-requires-clause-scanning
added_now-requires-clause-scanning g c κs within =
    let r = c.args.renewal.now in
    let known = scanning_known (book_of r).catalog r.table c.args.fresh.now.scanning c.requires.fresh.scanning in
    rw c.as_slice-scanning.ensures (subst (λ (n : ℕ). All (λ v. v < n) c.args.fresh.now.scanning) (length-map r.book.now.views view_image) known)

pub added_now-requires-clause-views : goal.added_now-requires-clause-views
added_now-requires-clause-views g c κs within =
    let r = c.args.renewal.now in
    now_opened r.book.now r.tables.now c.args.olds.now c.as_slice.result.now r.table (first_book r) c.requires.renewal.kinds c.requires.olds (c.as_slice.ensures.value ∙ c.requires.fresh.views)
