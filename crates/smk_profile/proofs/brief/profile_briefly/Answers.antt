use Rattle.std.proofs.Common.{◌≡◌, ◌∙◌, Some, subst, sym}
use Rattle.smk_base.specs.{CatalogImage.{catalog_image, view_place}, declared.book.catalog.Catalog.Catalog}
use Rattle.smk_model.proofs.ProfilesFit.{shown}
use Rattle.smk_profile.proofs.brief.profile_briefly.Goals as goal

pub mark_counts-requires-clause-shows : goal.mark_counts-requires-clause-shows
mark_counts-requires-clause-shows c =
    let there = sym c.view_place.ensures.place ∙ c.in-Some.is in
    let placed = subst (λ (catalog : Catalog). view_place (catalog_image catalog) c.args.view.now ≡ Some c.in-Some.v) c.catalog.ensures.book there in
    shown _ _ c.args.view.now c.in-Some.v c.requires.shown (sym c.is_among.ensures ∙ c.if-is_among.true) placed
