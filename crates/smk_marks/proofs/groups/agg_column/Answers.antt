use Rattle.std.proofs.{Common.{◌≡◌, ◌∙◌, ◌∷◌, [], ℕ, List, Some, length, map, ap, sym, subst, arith}, lemmas.List.length-map}
use Rattle.smk_base.specs.{PlanImage.expr_of, Rels.{Relation, kind_in}, Aggregates.read_by, declared.book.plan.Agg.Agg, declared.value.Kind.Kind}
use Rattle.smk_model.specs.{Kinds.{AggFits, kind_of_agg}, Selection.plan_kinds}
use Rattle.smk_model.proofs.Aggregates.{kind_of_moved, moved_fits}
use Rattle.smk_base.proofs.Places.{map_map}
use Rattle.smk_body.specs.Halves.{AreNumbered, class_values}
use Rattle.smk_body.proofs.Besides.{related, relation}
use Rattle.smk_marks.specs.Marks.{made}
use Rattle.smk_marks.proofs.Counted.{class_moved, column}
use Rattle.smk_marks.proofs.groups.agg_column.Goals as goal

pub agg_column-requires-clause-fits : goal.agg_column-requires-clause-fits
agg_column-requires-clause-fits c =
    let read = c.in_ok-read.read in
    let ks = plan_kinds (expr_of c.args.chain.now) (c.args.rows.now.kinds ∷ []) in
    let one : (col : ℕ) → read_by c.args.agg ≡ Some col → read.kinds ≡ kind_in ks col ∷ [] = λ col r. ap (λ (z : Relation). z.kinds) (c.in_ok-read.ensures.column col r) in
    subst (AggFits read.kinds) (sym c.over.ensures) (moved_fits c.args.agg 0 read.kinds ks (λ col r. (omega (arith, ap length (one col r)), ap (λ (z : List Kind). kind_in z 0) (one col r))) (λ col r. (c.requires.reads col r).1))

pub agg_column-requires-clause-classes : goal.agg_column-requires-clause-classes
agg_column-requires-clause-classes c = subst (λ (n : ℕ). AreNumbered n c.args.classes.now) (sym c.in_ok-read.ensures.long) c.requires.classes

pub returns : goal.returns
returns c =
    let read = c.in_ok-read.read in
    let f = made (expr_of c.args.chain.now) in
    let rows = c.args.rows.now.rows in
    let ks = plan_kinds (expr_of c.args.chain.now) (c.args.rows.now.kinds ∷ []) in
    c.in_ok-made.ensures
    ∙ ap (λ (agg : Agg). relation (kind_of_agg read.kinds agg ∷ []) (class_values c.args.classes.now read.rows agg)) c.over.ensures
    ∙ related (ap (λ (k : Kind). k ∷ []) (kind_of_moved c.args.agg 0 read.kinds ks (λ col r. ap (λ (z : Relation). kind_in z.kinds 0) (c.in_ok-read.ensures.column col r))))
    (class_moved c.args.agg c.args.classes.now read.rows (map f rows) (c.in_ok-read.ensures.long ∙ sym (length-map rows f)) (λ col r. ap (λ (z : Relation). z.rows) (c.in_ok-read.ensures.column col r) ∙ sym (map_map (column col) f rows)))
