use Rattle.std.proofs.{Common.{◌≡◌, ◌∙◌, All, ap, arith, sym, subst, take, get_or}, lemmas.List.{get_or_default, take_all, take_more}, lemmas.List.Elements.All-push}
use Rattle.smk_base.specs.CatalogImage.{catalog_image}
use Rattle.smk_model.specs.Session.{concerns}
use Rattle.smk_session.specs.{Answers.{AreAlike, brushed_of}, declared.brush.choices.Choice.Choice}
use Rattle.smk_session.proofs.Selected.{chosen_alike}
use Rattle.smk_session.proofs.brush.choices.place_of.Goals as goal

pub returns-then-are_alike-clause-own : goal.returns-then-are_alike-clause-own
returns-then-are_alike-clause-own c = λ d n are.
    let catalog = catalog_image c.args.catalog.now in
    let brushes = c.args.brushes.now in
    let one = get_or c.args.choices.now c.loop-i.i c.index-choices-i.result in
    let same : get_or c.args.choices.now c.loop-i.i d ≡ one = get_or_default c.args.choices.now c.loop-i.i d c.index-choices-i.result c.loop-i-test.true in
    c.requires.choices c.loop-i.i d c.loop-i-test.true n are
    ∙ ap (λ (choice : Choice). brushed_of catalog brushes choice.view c.args.t n) same
    ∙ sym (chosen_alike (concerns catalog c.args.w c.args.t) (concerns catalog one.view c.args.t) brushes n c.if-are_alike.ensures.alike)

pub loop-i-preserved : goal.loop-i-preserved
loop-i-preserved c =
    let choices = c.args.choices.now in
    let unlike = λ (choice : Choice). ¬ AreAlike (catalog_image c.args.catalog.now) c.args.brushes.now c.args.t c.args.w choice.view in
    subst (All unlike) (sym (take_more choices c.loop-i.i c.index-choices-i.result c.loop-i-test.true)) (All-push unlike (take c.loop-i.i choices) _ c.loop-i.invariant c.if-are_alike.ensures.other)

pub returns-clause-none : goal.returns-clause-none
returns-clause-none c =
    let unlike = λ (choice : Choice). ¬ AreAlike (catalog_image c.args.catalog.now) c.args.brushes.now c.args.t c.args.w choice.view in
    subst (All unlike) (take_all c.loop-i.i c.args.choices.now (omega (arith, c.loop-i-test.false))) c.loop-i.invariant
