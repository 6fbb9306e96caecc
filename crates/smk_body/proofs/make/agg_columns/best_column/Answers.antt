use Rattle.std.proofs.{Common.{◌∙◌, ◌∷◌, ◌<◌, [], ℕ, List, length, map, ap, refl, arith, get_or, ◌≡◌, IfOk, subst}, lemmas.List.Elements.{All-cons, All-nil}}
use Rattle.smk_base.specs.Rels.{Relation, picked, rows_at}
use Rattle.smk_model.specs.{Values.value_at, Lineage.row_at}
use Rattle.smk_model.proofs.Directions.{length_each}
use Rattle.smk_body.specs.Halves.{best_place, class_places}
use Rattle.smk_body.proofs.{Aggregating.best_rows, Besides.related}
use Rattle.smk_body.proofs.make.agg_columns.best_column.Goals as goal

pub columns_at-requires : goal.columns_at-requires
columns_at-requires c =
    let rows = c.args.rel.now.rows in
    let classes = c.args.classes.now in
    let B = λ (p : ℕ). best_place c.args.greatest (λ i. value_at (row_at rows i) c.args.c) (get_or classes.firsts p 0) (class_places classes.of (length rows) p) in
    record {
      columns = All-cons (λ x. x < length c.args.rel.now.kinds) c.args.c [] c.requires.column (All-nil (λ x. x < length c.args.rel.now.kinds));
      few_columns = omega arith;
      within = rw c.as_slice.ensures.value c.in_ok-places.ensures.within;
      few = omega (arith, ap length (c.as_slice.ensures.value ∙ c.in_ok-places.ensures.places), length_each B (length classes.firsts), c.requires.classes.few, c.len-rows.ensures.keeps.few_rows);
    }

pub returns : goal.returns
returns c =
    let rel = c.args.rel.now in
    subst (λ (z : Relation). IfOk c.columns_at.result (λ made. made ≡ z))
    (related refl
    (ap (λ (z : List ℕ). map (picked (c.args.c ∷ [])) (rows_at rel.rows z)) (c.as_slice.ensures.value ∙ c.in_ok-places.ensures.places) ∙ best_rows c.args.greatest rel.rows c.args.c c.args.classes.now c.requires.classes))
    c.columns_at.ensures
