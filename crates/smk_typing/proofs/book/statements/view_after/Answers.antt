use Rattle.std.proofs.{Common.{◌∙◌, ◌++◌, ◌∷◌, [], List, Ok, map, sym, ap, refl}, lemmas.List.map-append, lemmas.Result.err_from_is_err_and}
use Rattle.smk_base.specs.{CatalogImage.{ViewImage, view_image}, TreeImage.tree_image}
use Rattle.smk_model.specs.{Names.is_taken, Typing.typed_plan}
use Rattle.smk_typing.specs.Drafts.{draft_image}
use Rattle.smk_typing.proofs.{Keys.view_names, Results.{first_fails, made_of, ok_same}}
use Rattle.smk_typing.proofs.book.statements.view_after.Goals as goal

pub returns-then-has : goal.returns-then-has
returns-then-has c _ = rw (ap (is_taken c.args.name.now.name) (view_names c.args.draft.now.views) ∙ sym c.has.ensures.has ∙ c.if-has.true) refl

pub returns-in_err-view : goal.returns-in_err-view
returns-in_err-view c =
    let p = err_from_is_err_and c.from_residual-in_err-view.result c.from_residual-in_err-view.ensures.1 in
    rw (p.1, p.2) (λ other. rw (ap (is_taken c.args.name.now.name) (view_names c.args.draft.now.views) ∙ sym c.has.ensures.has ∙ c.if-has.false) (first_fails (typed_plan c.args.draft.now.tables (tree_image c.args.tree.now)) _ _ _ (c.in_err-view.ensures other)))

pub returns : goal.returns
returns c =
    let first = made_of (typed_plan c.args.draft.now.tables (tree_image c.args.tree.now)) _ _ c.in_ok-view.ensures in
    rw (ap (is_taken c.args.name.now.name) (view_names c.args.draft.now.views) ∙ sym c.has.ensures.has ∙ c.if-has.false, first.1)
    (ap (λ (views : List ViewImage). Ok (record (draft_image c.args.draft.now) { views = views }))
    (ap (λ (view : ViewImage). map view_image c.args.draft.now.views ++ view ∷ []) (ok_same _ _ first.2) ∙ sym (map-append view_image c.args.draft.now.views (c.in_ok-view.view ∷ [])) ∙ ap (map view_image) (sym c.in_ok-push.ensures.put)))
