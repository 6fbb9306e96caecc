use Rattle.std.proofs.{Common.{All, subst, sym}, lemmas.List.Elements.All-push}
use Rattle.smk_base.specs.CatalogImage.{catalog_image}
use Rattle.smk_session.specs.Answers.{IsChoice}
use Rattle.smk_session.proofs.brush.choices.choose.Goals as goal

pub returns-clause-choices : goal.returns-clause-choices
returns-clause-choices c =
    let choice = IsChoice (catalog_image c.args.catalog.now) c.args.brushes.now c.args.t in
    subst (All choice) (sym c.in_ok-push.ensures.items) (All-push choice c.args.choices.now.items _ c.requires.choices c.in_ok-rids.ensures)
