use Rattle.std.proofs.{Common.{◌≡◌, ◌∙◌, ◌+◌, ◌++◌, ◌∷◌, [], ℕ, List, length, map, take, ap, sym, arith, get_or, append_assoc}, lemmas.List.{map_more, take_all, append-nil}}
use Rattle.smk_base.specs.{declared.book.plan.Agg.TheVariants.Count, declared.book.plan.Agg.Agg, Places.upto, Rels.{Relation, kind_in, picked, rows_at, beside_rows}}
use Rattle.smk_keys.specs.Classes.{ClassesImage}
use Rattle.smk_model.specs.{Plain.{aggregate, key_of}, Lineage.{row_at, sub}, Kinds.kind_of_agg}
use Rattle.smk_body.specs.Halves.{class_places}
use Rattle.smk_body.proofs.{Classing.rows_numbered, Aggregating.{keys_at_firsts, groups_are}, Besides.{column_more, related}, Parting.first_places_are}
use Rattle.smk_body.proofs.make.agg_columns.sized_group_rows.Goals as goal

pub columns_at-requires : goal.columns_at-requires
columns_at-requires c =
    first_places_are c.args.rel.now c.args.classes.now c.firsts.result.now c.args.keys.now c.requires.fits.keyed (omega (arith, c.requires.fits.few)) c.len-rows.ensures.keeps.few_rows
    (rows_numbered c.args.keys.now c.args.rel.now.rows c.args.classes.now c.requires.classes) c.firsts.ensures

pub agg_column-requires-clause-classes : goal.agg_column-requires-clause-classes
agg_column-requires-clause-classes c = rows_numbered c.args.keys.now c.args.rel.now.rows c.args.classes.now c.requires.classes

pub loop-agg-init : goal.loop-agg-init
loop-agg-init c =
    let rel = c.args.rel.now in
    let keys = c.args.keys.now in
    c.in_ok-made.ensures
    ∙ related (sym (append-nil (map (kind_in rel.kinds) keys)))
    (ap (λ (z : List ℕ). map (picked keys) (rows_at rel.rows z)) c.firsts.ensures ∙ keys_at_firsts keys rel.rows c.args.classes.now.firsts)

pub loop-agg-preserved : goal.loop-agg-preserved
loop-agg-preserved c =
    let rel = c.args.rel.now in
    let keys = c.args.keys.now in
    let aggs = c.args.aggs.now in
    let classes = c.args.classes.now in
    let k = c.loop-agg.agg-index in
    let F = λ (p : ℕ). key_of keys (row_at rel.rows (get_or classes.firsts p 0)) in
    let G = λ (p : ℕ). aggregate (sub rel.rows (class_places classes.of (length rel.rows) p)) in
    let U = upto (length classes.firsts) in
    let K = map (kind_in rel.kinds) keys in
    let T = map (kind_of_agg rel.kinds) (take k aggs) in
    let kinds : c.loop-agg.made.kinds ++ c.in_ok-column.column.kinds ≡ K ++ map (kind_of_agg rel.kinds) (take (k + 1) aggs) =
    ap (λ (r : Relation). r.kinds ++ c.in_ok-column.column.kinds) c.loop-agg.invariant
    ∙ ap (λ (r : Relation). (K ++ T) ++ r.kinds) c.in_ok-column.ensures
    ∙ append_assoc K T (kind_of_agg rel.kinds (get_or aggs k Count) ∷ [])
    ∙ ap (λ z. K ++ z) (sym (map_more (kind_of_agg rel.kinds) aggs k Count c.loop-agg-test.true)) in
    let rows : beside_rows c.loop-agg.made.rows c.in_ok-column.column.rows ≡ map (λ p. F p ++ map (G p) (take (k + 1) aggs)) U =
    ap (λ (r : Relation). beside_rows r.rows c.in_ok-column.column.rows) c.loop-agg.invariant
    ∙ ap (λ (r : Relation). beside_rows (map (λ p. F p ++ map (G p) (take k aggs)) U) r.rows) c.in_ok-column.ensures
    ∙ column_more F G aggs k Count U c.loop-agg-test.true in
    c.in_ok-made-2.ensures ∙ related kinds rows

pub returns-clause-rows : goal.returns-clause-rows
returns-clause-rows c =
    let rel = c.args.rel.now in
    let keys = c.args.keys.now in
    let aggs = c.args.aggs.now in
    let K = map (key_of keys) rel.rows in
    let one = λ (m : ClassesImage) (more : List Agg). map (λ p. key_of keys (row_at rel.rows (get_or m.firsts p 0)) ++ map (aggregate (sub rel.rows (class_places m.of (length rel.rows) p))) more) (upto (length m.firsts)) in
    ap (λ (r : Relation). r.rows) c.loop-agg.invariant ∙ ap (one c.args.classes.now) (take_all c.loop-agg.agg-index aggs c.loop-agg-test.false) ∙ ap (λ (m : ClassesImage). one m aggs) c.requires.classes ∙ groups_are keys aggs rel.rows
