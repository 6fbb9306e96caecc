use Rattle.std.proofs.{Common.{◌≡◌, ◌∙◌, ◌∷◌, [], ℕ, Some, sym, ap}, lemmas.Option.none-some, lemmas.Result.IfOk-weaker}
use Rattle.smk_base.specs.{Aggregates.read_by, PlanImage.expr_of, Rels.Relation}
use Rattle.smk_model.specs.Selection.{plan_kinds}
use Rattle.smk_model.proofs.Aggregates.{column_there}
use Rattle.smk_marks.specs.Views.{chain_values}
use Rattle.smk_marks.proofs.groups.column_read.Goals as goal

pub chain_column-requires-clause-fits : goal.chain_column-requires-clause-fits
chain_column-requires-clause-fits c = (c.requires.reads c.in-Some.c (sym c.column.ensures ∙ c.in-Some.is)).0

pub chain_column-requires-clause-column : goal.chain_column-requires-clause-column
chain_column-requires-clause-column c =
    let reads = sym c.column.ensures ∙ c.in-Some.is in
    column_there c.args.agg (plan_kinds (expr_of c.args.chain.now) (c.args.rows.now.kinds ∷ [])) c.in-Some.c (c.requires.reads c.in-Some.c reads).1 reads

pub returns-in-Some-clause-column : goal.returns-in-Some-clause-column
returns-in-Some-clause-column c =
    let values = chain_values (expr_of c.args.chain.now) c.args.rows.now in
    IfOk-weaker c.chain_column.result (λ (made : Relation). made ≡ values c.in-Some.c) (λ (made : Relation). (col : ℕ) → read_by c.args.agg ≡ Some col → made ≡ values col)
    (λ made is col reads. (let same : Some c.in-Some.c ≡ Some col = sym (sym c.column.ensures ∙ c.in-Some.is) ∙ reads in let e : c.in-Some.c ≡ col = cc in is ∙ ap values e)) c.chain_column.ensures

pub returns-in-None-clause-column : goal.returns-in-None-clause-column
returns-in-None-clause-column c =
    let values = chain_values (expr_of c.args.chain.now) c.args.rows.now in
    IfOk-weaker c.columns.result (λ (made : Relation). made ≡ _) (λ (made : Relation). (col : ℕ) → read_by c.args.agg ≡ Some col → made ≡ values col)
    (λ made is col reads. absurd (none-some col (sym (sym c.column.ensures ∙ c.in-None.is) ∙ reads))) c.columns.ensures
