use Rattle.std.proofs.Common.{◌≡◌, ℕ, List, length, subst, IfOk, pos, get_or}
use Rattle.smk_base.specs.declared.value.Value.TheVariants as values
use Rattle.smk_model.specs.{Values.value_at, Lineage.row_at}
use Rattle.smk_body.proofs.{Folding.bests_agree, Aggregating.{ints_long, value_is}}
use Rattle.smk_body.proofs.make.aggregates.best_places.Goals as goal

pub returns-in-Small-clause-places : goal.returns-in-Small-clause-places
returns-in-Small-clause-places c =
    let rows = c.args.rel.now.rows in
    let numbers = c.in-Small.numbers.now in
    subst (λ (z : List ℕ). IfOk c.best_small.result (λ v. v.items ≡ z))
    (bests_agree c.args.greatest (λ i. values.Int (get_or numbers i (pos 0))) (λ i. value_at (row_at rows i) c.args.c) c.args.classes.now (length numbers) (length rows)
    (ints_long rows c.args.c numbers c.in-Small.ensures) (λ i h. value_is rows c.args.c numbers i c.in-Small.ensures h) c.requires.classes)
    c.best_small.ensures.places
