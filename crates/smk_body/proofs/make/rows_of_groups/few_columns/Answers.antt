use Rattle.std.proofs.{Common.{◌≡◌, IfOk, subst}, lemmas.List.nil_from_length}
use Rattle.smk_base.specs.Rels.{Relation}
use Rattle.smk_body.proofs.Parting.{no_aggregates}
use Rattle.smk_body.proofs.make.rows_of_groups.few_columns.Goals as goal

pub returns-then-aggs-eq0 : goal.returns-then-aggs-eq0
returns-then-aggs-eq0 c =
    subst (λ (z : Relation). IfOk c.columns_at.result (λ made. made ≡ z)) (no_aggregates c.args.rel.now c.args.groups.now c.firsts.result.now c.args.aggs.now c.firsts.ensures (nil_from_length c.args.aggs.now c.if-aggs-eq0.true)) c.columns_at.ensures
