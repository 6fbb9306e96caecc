use Rattle.std.proofs.Common.{◌≡◌, ℕ, IfSome, take}
use Rattle.smk_base.specs.{CatalogImage.catalog_image, Picks.IsAscending}
use Rattle.smk_session.specs.Answers.{AreOn, chosen_by, counts}
use Rattle.smk_session.proofs.brush.choices.brushed.Given as goal

abbrev pub invariant-loop-brush : goal.invariant-loop-brush
invariant-loop-brush l = record {
  ascending : IfSome l.chosen IsAscending;
  chosen : (n : ℕ) → AreOn l.t n l.brushes → l.chosen ≡ chosen_by (counts (catalog_image l.catalog) l.view l.t) (take l.brush-index l.brushes) n;
}
