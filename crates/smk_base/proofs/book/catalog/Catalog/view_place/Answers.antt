use Rattle.std.proofs.Common.{◌≡◌, ◌∙◌, Bool, true, get_or, ap, sym, arith, rules, tests, position}
use Rattle.smk_base.specs.{Dicts.text_eq, CatalogImage.{ViewImage, view_image}, declared.book.catalog.ViewInfo.ViewInfo}
use Rattle.smk_base.proofs.{Search.{place_found, place_missing}, Texts.position-map}
use Rattle.smk_base.proofs.book.catalog.Catalog.view_place.Goals as goal

pub returns-then-eq-clause-place : goal.returns-then-eq-clause-place
returns-then-eq-clause-place c =
    let named : ViewInfo → Bool = λ view. text_eq view.name c.args.name.now in
    let hit : named (get_or c.as_slice-views.result.now c.loop-v.v c.index-views-v.result) ≡ true = search (rules, tests) in
    sym (place_found named c.as_slice-views.result.now c.loop-v.v c.index-views-v.result c.loop-v-test.true hit c.loop-v.invariant) ∙ ap (position named) c.as_slice-views.ensures ∙ sym (position-map (λ (view : ViewImage). text_eq view.name c.args.name.now) view_image c.args.self.now.views)

pub returns-clause-place : goal.returns-clause-place
returns-clause-place c =
    let named : ViewInfo → Bool = λ view. text_eq view.name c.args.name.now in
    sym (place_missing named c.as_slice-views.result.now c.loop-v.v (omega arith) c.loop-v.invariant) ∙ ap (position named) c.as_slice-views.ensures ∙ sym (position-map (λ (view : ViewImage). text_eq view.name c.args.name.now) view_image c.args.self.now.views)
