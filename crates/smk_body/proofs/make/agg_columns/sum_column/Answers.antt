use Rattle.std.proofs.Common.{◌≡◌, ◌∙◌, ◌∷◌, [], suc, ℤ, length, map, ap, refl}
use Rattle.smk_base.specs.{Rels.kind_in, declared.value.Kind.Kind}
use Rattle.smk_base.specs.declared.value.Value.TheVariants as values
use Rattle.smk_body.proofs.{Aggregating.{summed_rows, sums_within, level_of, sums_is, level_up}, Besides.{related, relation}}
use Rattle.smk_body.proofs.make.agg_columns.sum_column.Goals as goal

pub of_ints-requires-clause-within : goal.of_ints-requires-clause-within
of_ints-requires-clause-within c =
    let rel = c.args.rel.now in
    let level = level_of (kind_in rel.kinds c.args.c) c.requires.int in
    let up : c.sum_level-level.result ≡ suc level.0 = level_up (kind_in rel.kinds c.args.c) level.0 c.sum_level-level.result level.1 c.sum_level-level.ensures.level in
    rw (c.in_ok-numbers.ensures.sums, up) (sums_within rel.kinds rel.rows c.args.c level.0 c.of.result.now (length c.firsts.result.now) c.requires.column level.1 c.len-rows.ensures.keeps.fit c.len-rows.ensures.keeps.few_rows)

pub returns : goal.returns
returns c =
    let rel = c.args.rel.now in
    let classes = c.args.classes.now in
    c.in_ok-made.ensures
    ∙ ap (λ (k : Kind). relation (k ∷ []) (map (λ (z : ℤ). values.Int z ∷ []) c.in_ok-numbers.numbers.items)) c.sum_level-level.ensures.level
    ∙ related refl (ap (map (λ (z : ℤ). values.Int z ∷ [])) (c.in_ok-numbers.ensures.sums ∙ sums_is rel.rows c.args.c classes c.of.result.now c.firsts.result.now c.of.ensures c.firsts.ensures) ∙ summed_rows rel.rows c.args.c classes.of (length rel.rows) (length classes.firsts))
