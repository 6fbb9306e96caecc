use Rattle.std.proofs.Common.{All, take}
use Rattle.smk_base.specs.CatalogImage.{catalog_image}
use Rattle.smk_session.specs.Answers.{AreAlike}
use Rattle.smk_session.proofs.brush.choices.place_of.Given as goal

abbrev pub invariant-loop-i : goal.invariant-loop-i
invariant-loop-i l = All (λ choice. ¬ AreAlike (catalog_image l.catalog) l.brushes l.t l.w choice.view) (take l.i l.choices)
