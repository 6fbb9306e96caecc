use Rattle.std.proofs.Common.{◌≡◌, ◌<◌, ◌≤◌, ℕ, length}
use Rattle.smk_base.specs.CatalogImage.{catalog_image}
use Rattle.smk_grow.specs.Renewed.{moved_at, view_in}
use Rattle.smk_grow.proofs.moving.move_views.Given as goal

abbrev pub invariant-loop-v : goal.invariant-loop-v
invariant-loop-v l = record {
  long : length l.views ≡ length l.fn.views;
  done : (w : ℕ) → w < l.v → view_in l.views w ≡ moved_at (catalog_image l.book) l.table l.size l.fn.views w;
  rest : (w : ℕ) → l.v ≤ w → view_in l.views w ≡ view_in l.fn.views w;
}
