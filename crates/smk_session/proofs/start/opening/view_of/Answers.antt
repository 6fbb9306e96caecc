use Rattle.std.proofs.Common.{◌≡◌, ◌∙◌, ap, get_or, List}
use Rattle.smk_base.specs.declared.book.catalog.ViewInfo.{ViewInfo}
use Rattle.smk_session.proofs.OpenedViews.{view_is, view_fits}
use Rattle.smk_session.proofs.start.opening.view_of.Goals as goal

pub returns-clause-view : goal.returns-clause-view
returns-clause-view c =
    let view = c.index-as_slice-v.result in
    let is : view ≡ get_or c.args.catalog.now.views c.args.v view = c.index-as_slice-v.is ∙ ap (λ (l : List ViewInfo). get_or l c.args.v view) c.as_slice.ensures in
    view_is c.args.catalog.now c.args.v view c.requires.view is

pub returns-clause-fits : goal.returns-clause-fits
returns-clause-fits c =
    let view = c.index-as_slice-v.result in
    let is : view ≡ get_or c.args.catalog.now.views c.args.v view = c.index-as_slice-v.is ∙ ap (λ (l : List ViewInfo). get_or l c.args.v view) c.as_slice.ensures in
    view_fits c.args.catalog.now c.args.v view c.requires.checked c.requires.view is
