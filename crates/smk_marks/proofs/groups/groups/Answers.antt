use Rattle.std.proofs.{Common.{◌≡◌, ◌∙◌, ◌<◌, ◌+◌, ◌++◌, ◌∷◌, [], ℕ, List, length, map, take, ap, sym, subst, arith, get_or, append_assoc, nat_eq}, lemmas.List.{length-append, length-map, length-take-le, map_more, take_all}}
use Rattle.smk_base.specs.{PlanImage.expr_of, Places.upto, Rels.{Relation, beside_rows, kind_in}, declared.book.plan.Agg.Agg, declared.book.plan.Agg.TheVariants.Count}
use Rattle.smk_keys.specs.Classes.{ClassesImage, first_items}
use Rattle.smk_model.specs.{Kinds.kind_of_agg, Lineage.row_at, Plain.aggregate, Selection.plan_kinds}
use Rattle.smk_base.proofs.Places.{length_upto}
use Rattle.smk_body.specs.Halves.{AreNumbered}
use Rattle.smk_body.proofs.Besides.{column_more, relation, related}
use Rattle.smk_marks.specs.Marks.{made, with_mark}
use Rattle.smk_marks.proofs.Classed.{column_marked, few_marks, first_keys, first_marks_are, firsts_are, numbered}
use Rattle.smk_marks.proofs.groups.groups.Goals as goal

pub numbers_at-requires : goal.numbers_at-requires
numbers_at-requires c = rw (c.firsts.ensures ∙ ap (λ (z : ClassesImage). z.firsts) c.in_ok-classes.ensures) ((numbered c.args.marks.now).within)

pub keys_at-requires-clause-within : goal.keys_at-requires-clause-within
keys_at-requires-clause-within c =
    let marks = c.args.marks.now in
    let is = c.as_slice-firsts.ensures.value ∙ c.in_ok-first_marks.ensures ∙ ap (map (λ place. get_or marks place 0)) (c.firsts.ensures ∙ ap (λ (z : ClassesImage). z.firsts) c.in_ok-classes.ensures) ∙ firsts_are marks in
    rw is (first_marks_are marks (λ m. m < length c.args.view.now.content.now.rows) c.requires.within)

pub keys_at-requires-clause-few : goal.keys_at-requires-clause-few
keys_at-requires-clause-few c =
    let marks = c.args.marks.now in
    let is = c.as_slice-firsts.ensures.value ∙ c.in_ok-first_marks.ensures ∙ ap (map (λ place. get_or marks place 0)) (c.firsts.ensures ∙ ap (λ (z : ClassesImage). z.firsts) c.in_ok-classes.ensures) ∙ firsts_are marks in
    omega (arith, ap length is, few_marks marks, c.requires.few_marks)

pub agg_column-requires-clause-classes : goal.agg_column-requires-clause-classes
agg_column-requires-clause-classes c =
    subst (λ (n : ℕ). AreNumbered n c.in_ok-classes.classes) c.requires.long (subst (AreNumbered (length c.args.marks.now)) (sym c.in_ok-classes.ensures) (numbered c.args.marks.now))

pub loop-agg-init : goal.loop-agg-init
loop-agg-init c =
    let marks = c.args.marks.now in
    first_keys c.args.view.now.content.now (length c.args.view.now.plan.keys.now) _ marks _ c.in_ok-made.made c.in_ok-made.ensures (ap length c.as_slice-keys.ensures)
    (c.as_slice-firsts.ensures.value ∙ c.in_ok-first_marks.ensures ∙ ap (map (λ place. get_or marks place 0)) (c.firsts.ensures ∙ ap (λ (z : ClassesImage). z.firsts) c.in_ok-classes.ensures) ∙ firsts_are marks)

pub beside-requires-clause-long : goal.beside-requires-clause-long
beside-requires-clause-long c =
    let content = c.args.view.now.content.now in
    let marks = c.args.marks.now in
    let k = length c.args.view.now.plan.keys.now in
    let aggs = c.as_slice-aggs.result.now in
    let i = c.loop-agg.agg-index in
    let rows = c.args.rows.now.rows in
    let f = made (expr_of c.args.view.now.plan.chain.now) in
    let inputs = map f rows in
    let found = first_items nat_eq marks in
    let column = column_marked _ marks inputs (get_or aggs i Count) _ c.in_ok-column.column c.in_ok-column.ensures c.in_ok-classes.ensures (c.requires.long ∙ sym (length-map rows f)) in
    ap (λ (r : Relation). length r.rows) c.loop-agg.invariant ∙ length-map found (λ m. take k (row_at content.rows m) ++ map (aggregate (with_mark marks inputs m)) (take i aggs))
    ∙ sym (ap (λ (r : Relation). length r.rows) column ∙ length-map found (λ m. aggregate (with_mark marks inputs m) (get_or aggs i Count) ∷ []))

pub beside-requires-clause-few : goal.beside-requires-clause-few
beside-requires-clause-few c =
    let content = c.args.view.now.content.now in
    let k = length c.args.view.now.plan.keys.now in
    let aggs = c.as_slice-aggs.result.now in
    let i = c.loop-agg.agg-index in
    let pk = plan_kinds (expr_of c.args.view.now.plan.chain.now) (c.args.rows.now.kinds ∷ []) in
    omega (arith, ap (λ (r : Relation). length r.kinds) c.loop-agg.invariant, length-append (map (kind_in content.kinds) (upto k)) (map (kind_of_agg pk) (take i aggs)), length-map (upto k) (kind_in content.kinds), length_upto k, length-map (take i aggs) (kind_of_agg pk), length-take-le i aggs (omega arith), ap (λ (r : Relation). length r.kinds) c.in_ok-column.ensures, c.requires.few, ap length c.as_slice-aggs.ensures, c.loop-agg-test.true)

pub loop-agg-preserved : goal.loop-agg-preserved
loop-agg-preserved c =
    let content = c.args.view.now.content.now in
    let marks = c.args.marks.now in
    let k = length c.args.view.now.plan.keys.now in
    let aggs = c.as_slice-aggs.result.now in
    let i = c.loop-agg.agg-index in
    let pk = plan_kinds (expr_of c.args.view.now.plan.chain.now) (c.args.rows.now.kinds ∷ []) in
    let rows = c.args.rows.now.rows in
    let f = made (expr_of c.args.view.now.plan.chain.now) in
    let inputs = map f rows in
    let found = first_items nat_eq marks in
    let column = column_marked _ marks inputs (get_or aggs i Count) _ c.in_ok-column.column c.in_ok-column.ensures c.in_ok-classes.ensures (c.requires.long ∙ sym (length-map rows f)) in
    let F = λ (m : ℕ). take k (row_at content.rows m) in
    let G = λ (m : ℕ). aggregate (with_mark marks inputs m) in
    let K = map (kind_in content.kinds) (upto k) in
    let T = map (kind_of_agg pk) (take i aggs) in
    let kinds : c.loop-agg.made.kinds ++ c.in_ok-column.column.kinds ≡ K ++ map (kind_of_agg pk) (take (i + 1) aggs) =
    ap (λ (r : Relation). r.kinds ++ c.in_ok-column.column.kinds) c.loop-agg.invariant
    ∙ ap (λ (r : Relation). (K ++ T) ++ r.kinds) c.in_ok-column.ensures
    ∙ append_assoc K T (kind_of_agg pk (get_or aggs i Count) ∷ [])
    ∙ ap (λ z. K ++ z) (sym (map_more (kind_of_agg pk) aggs i Count c.loop-agg-test.true)) in
    let beside : beside_rows c.loop-agg.made.rows c.in_ok-column.column.rows ≡ map (λ m. F m ++ map (G m) (take (i + 1) aggs)) found =
    ap (λ (r : Relation). beside_rows r.rows c.in_ok-column.column.rows) c.loop-agg.invariant
    ∙ ap (λ (r : Relation). beside_rows (map (λ m. F m ++ map (G m) (take i aggs)) found) r.rows) column
    ∙ column_more F G aggs i Count found c.loop-agg-test.true in
    c.in_ok-made-2.ensures ∙ related kinds beside

pub returns : goal.returns
returns c =
    let content = c.args.view.now.content.now in
    let marks = c.args.marks.now in
    let k = length c.args.view.now.plan.keys.now in
    let pk = plan_kinds (expr_of c.args.view.now.plan.chain.now) (c.args.rows.now.kinds ∷ []) in
    let inputs = map (made (expr_of c.args.view.now.plan.chain.now)) c.args.rows.now.rows in
    let group = λ (aggs : List Agg). relation (map (kind_in content.kinds) (upto k) ++ map (kind_of_agg pk) aggs) (map (λ m. take k (row_at content.rows m) ++ map (aggregate (with_mark marks inputs m)) aggs) (first_items nat_eq marks)) in
    c.loop-agg.invariant ∙ ap group (take_all c.loop-agg.agg-index c.as_slice-aggs.result.now c.loop-agg-test.false ∙ c.as_slice-aggs.ensures)
