use Rattle.std.proofs.Common.{◌≡◌, ◌++◌, length, map, take, get_or}
use Rattle.smk_base.specs.{Places.upto, Rels.kind_in}
use Rattle.smk_model.specs.{Plain.{aggregate, key_of}, Lineage.{row_at, sub}, Kinds.kind_of_agg}
use Rattle.smk_body.specs.Halves.{class_places}
use Rattle.smk_body.proofs.make.agg_columns.sized_group_rows.Given as goal

abbrev pub invariant-loop-agg : goal.invariant-loop-agg
invariant-loop-agg l = l.made ≡ record {
  kinds = map (kind_in l.rel.kinds) l.keys ++ map (kind_of_agg l.rel.kinds) (take l.agg-index l.aggs);
  rows = map (λ p. key_of l.keys (row_at l.rel.rows (get_or l.classes.firsts p 0)) ++ map (aggregate (sub l.rel.rows (class_places l.classes.of (length l.rel.rows) p))) (take l.agg-index l.aggs)) (upto (length l.classes.firsts));
}
