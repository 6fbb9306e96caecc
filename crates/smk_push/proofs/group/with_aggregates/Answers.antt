use Rattle.std.proofs.{Common.{◌≡◌, ◌∙◌, ◌+◌, ◌++◌, ◌∷◌, [], ℕ, List, length, map, take, get_or, ap, sym, arith, append_assoc}, lemmas.List.{map_more, length-map, length-append, length-take-le, take_all}}
use Rattle.smk_base.specs.{declared.book.plan.Agg.TheVariants.Count, declared.book.plan.Agg.Agg, Places.upto, Rels.{Relation, beside_rows, row_in, rows_at}}
use Rattle.smk_model.specs.{Plain.aggregate, Kinds.kind_of_agg}
use Rattle.smk_model.proofs.Directions.{length_each}
use Rattle.smk_body.specs.Halves.{class_places}
use Rattle.smk_body.proofs.Besides.{column_more, related, relation}
use Rattle.smk_push.proofs.Rows.{no_column}
use Rattle.smk_push.proofs.group.with_aggregates.Goals as goal

pub loop-agg-init : goal.loop-agg-init
loop-agg-init c = no_column c.args.keys (length c.args.classes.now.firsts) c.requires.keys

pub beside-requires-clause-long : goal.beside-requires-clause-long
beside-requires-clause-long c =
    let rows = c.args.rows.now.rows in
    let aggs = c.args.aggs.now in
    let classes = c.args.classes.now in
    let k = c.loop-agg.agg-index in
    let n = length classes.firsts in
    let values = λ (p : ℕ). aggregate (rows_at rows (class_places classes.of (length rows) p)) in
    ap (λ (r : Relation). length r.rows) c.loop-agg.invariant ∙ length_each (λ p. row_in c.args.keys.rows p ++ map (values p) (take k aggs)) n
    ∙ sym (ap (λ (r : Relation). length r.rows) c.in_ok-column.ensures ∙ length_each (λ p. values p (get_or aggs k Count) ∷ []) n)

pub beside-requires-clause-few : goal.beside-requires-clause-few
beside-requires-clause-few c =
    let kinds = c.args.rows.now.kinds in
    let aggs = c.args.aggs.now in
    let k = c.loop-agg.agg-index in
    omega (arith, ap (λ (r : Relation). length r.kinds) c.loop-agg.invariant, length-append c.args.keys.kinds (map (kind_of_agg kinds) (take k aggs)), length-map (take k aggs) (kind_of_agg kinds), length-take-le k aggs (omega arith), ap (λ (r : Relation). length r.kinds) c.in_ok-column.ensures, c.requires.few, c.loop-agg-test.true)

pub loop-agg-preserved : goal.loop-agg-preserved
loop-agg-preserved c =
    let rel = c.args.rows.now in
    let keys = c.args.keys in
    let aggs = c.args.aggs.now in
    let classes = c.args.classes.now in
    let k = c.loop-agg.agg-index in
    let F = λ (p : ℕ). row_in keys.rows p in
    let G = λ (p : ℕ). aggregate (rows_at rel.rows (class_places classes.of (length rel.rows) p)) in
    let U = upto (length classes.firsts) in
    let T = map (kind_of_agg rel.kinds) (take k aggs) in
    let kinds : c.loop-agg.made.kinds ++ c.in_ok-column.column.kinds ≡ keys.kinds ++ map (kind_of_agg rel.kinds) (take (k + 1) aggs) =
    ap (λ (r : Relation). r.kinds ++ c.in_ok-column.column.kinds) c.loop-agg.invariant
    ∙ ap (λ (r : Relation). (keys.kinds ++ T) ++ r.kinds) c.in_ok-column.ensures
    ∙ append_assoc keys.kinds T (kind_of_agg rel.kinds (get_or aggs k Count) ∷ [])
    ∙ ap (λ z. keys.kinds ++ z) (sym (map_more (kind_of_agg rel.kinds) aggs k Count c.loop-agg-test.true)) in
    let rows : beside_rows c.loop-agg.made.rows c.in_ok-column.column.rows ≡ map (λ p. F p ++ map (G p) (take (k + 1) aggs)) U =
    ap (λ (r : Relation). beside_rows r.rows c.in_ok-column.column.rows) c.loop-agg.invariant
    ∙ ap (λ (r : Relation). beside_rows (map (λ p. F p ++ map (G p) (take k aggs)) U) r.rows) c.in_ok-column.ensures
    ∙ column_more F G aggs k Count U c.loop-agg-test.true in
    c.in_ok-made.ensures ∙ related kinds rows

pub returns : goal.returns
returns c =
    let rel = c.args.rows.now in
    let keys = c.args.keys in
    let classes = c.args.classes.now in
    c.loop-agg.invariant
    ∙ ap (λ (more : List Agg). relation (keys.kinds ++ map (kind_of_agg rel.kinds) more) (map (λ p. row_in keys.rows p ++ map (aggregate (rows_at rel.rows (class_places classes.of (length rel.rows) p))) more) (upto (length classes.firsts))))
    (take_all c.loop-agg.agg-index c.args.aggs.now c.loop-agg-test.false)
