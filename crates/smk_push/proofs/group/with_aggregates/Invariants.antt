use Rattle.std.proofs.Common.{◌≡◌, ◌++◌, length, map, take}
use Rattle.smk_base.specs.{Places.upto, Rels.{row_in, rows_at}}
use Rattle.smk_body.specs.Halves.{class_places}
use Rattle.smk_model.specs.{Kinds.kind_of_agg, Plain.aggregate}
use Rattle.smk_push.proofs.group.with_aggregates.Given as goal

abbrev pub invariant-loop-agg : goal.invariant-loop-agg
invariant-loop-agg l = l.made ≡ record {
  kinds = l.fn.keys.kinds ++ map (kind_of_agg l.rows.kinds) (take l.agg-index l.aggs);
  rows = map (λ p. row_in l.fn.keys.rows p ++ map (aggregate (rows_at l.rows.rows (class_places l.classes.of (length l.rows.rows) p))) (take l.agg-index l.aggs)) (upto (length l.classes.firsts));
}
