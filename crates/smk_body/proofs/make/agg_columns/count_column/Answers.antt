use Rattle.std.proofs.Common.{◌≡◌, ◌∙◌, ◌∷◌, [], ℕ, List, length, map, pos, ap, subst, arith, IfOk}
use Rattle.smk_base.specs.declared.value.Kind.TheVariants as kinds
use Rattle.smk_base.specs.declared.value.Value.TheVariants as values
use Rattle.smk_model.proofs.Directions.{length_each}
use Rattle.smk_body.specs.Halves.{class_places, class_sizes}
use Rattle.smk_body.proofs.{Besides.relation, Folding.sizes_are}
use Rattle.smk_body.proofs.make.agg_columns.count_column.Goals as goal

pub of_counts-requires-clause-few : goal.of_counts-requires-clause-few
of_counts-requires-clause-few c =
    let classes = c.args.classes.now in
    let known : c.in-Some.known.now ≡ class_sizes classes = rw c.in-Some.is at c.requires.sizes in
    omega (arith, ap length known, length_each (λ (p : ℕ). length (class_places classes.of (length classes.of) p)) (length classes.firsts), c.requires.classes.few, c.requires.few)

pub returns-in_ok-made-in-None : goal.returns-in_ok-made-in-None
returns-in_ok-made-in-None c =
    let classes = c.args.classes.now in
    let made : c.as_slice.result.now ≡ class_sizes classes = c.as_slice.ensures.value ∙ c.in_ok-made-in-None.ensures.sizes ∙ rw (c.of.ensures, c.firsts.ensures) (sizes_are classes.of (length classes.firsts)) in
    subst (λ (z : List ℕ). IfOk c.of_counts-in-None.result (λ made. made ≡ relation (kinds.Int 0 ∷ []) (map (λ size. values.Int (pos size) ∷ []) z))) made c.of_counts-in-None.ensures
