use Rattle.std.proofs.Common.{◌≡◌, ◌∷◌, [], List, length, subst, IfOk}
use Rattle.smk_base.specs.Rels.{kind_in}
use Rattle.smk_base.specs.declared.value.Kind.TheVariants as kinds
use Rattle.smk_model.specs.Values.{Row}
use Rattle.smk_body.proofs.{Aggregating.{counted_rows, least_rows, greatest_rows}, Besides.relation}
use Rattle.smk_body.proofs.make.agg_columns.agg_column.Goals as goal

pub returns-in-Count : goal.returns-in-Count
returns-in-Count c = rw c.in-Count.is (subst (λ (z : List Row). IfOk c.count_column.result (λ made. made ≡ relation (kinds.Int 0 ∷ []) z)) (counted_rows c.args.rel.now.rows c.args.classes.now (length c.args.rel.now.rows) c.requires.classes.long) c.count_column.ensures)

pub returns-in-Min : goal.returns-in-Min
returns-in-Min c = rw c.in-Min.is (subst (λ (z : List Row). IfOk c.best_column.result (λ made. made ≡ relation (kind_in c.args.rel.now.kinds c.in-Min.c ∷ []) z)) (least_rows c.args.rel.now.rows c.in-Min.c c.args.classes.now.of (length c.args.rel.now.rows) (length c.args.classes.now.firsts)) c.best_column.ensures)

pub returns-in-Max : goal.returns-in-Max
returns-in-Max c = rw c.in-Max.is (subst (λ (z : List Row). IfOk c.best_column-in-Max.result (λ made. made ≡ relation (kind_in c.args.rel.now.kinds c.in-Max.c ∷ []) z)) (greatest_rows c.args.rel.now.rows c.in-Max.c c.args.classes.now.of (length c.args.rel.now.rows) (length c.args.classes.now.firsts)) c.best_column-in-Max.ensures)
