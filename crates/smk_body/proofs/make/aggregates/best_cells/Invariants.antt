use Rattle.std.proofs.Common.{◌≡◌, length, map, get_or}
use Rattle.smk_base.specs.Places.{upto}
use Rattle.smk_model.specs.{Values.value_at, Lineage.row_at}
use Rattle.smk_body.specs.Halves.{best_place, class_places}
use Rattle.smk_body.proofs.make.aggregates.best_cells.Given as goal

abbrev pub invariant-loop-i : goal.invariant-loop-i
invariant-loop-i l = l.best.items ≡ map (λ p. best_place l.greatest (λ i. value_at (row_at l.rel.rows i) l.c) (get_or l.classes.firsts p 0) (class_places l.classes.of l.i p)) (upto (length l.classes.firsts))
