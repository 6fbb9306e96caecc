use Rattle.std.proofs.Common.{◌∙◌, ap, arith}
use Rattle.smk_base.specs.Rels.{rows_at}
use Rattle.smk_base.proofs.Places.{length_upto, get_or_upto}
use Rattle.smk_table.proofs.Shown.{rows_at-upto}
use Rattle.smk_table.proofs.table.first_of.Goals as goal

pub gather-requires-clause-within : goal.gather-requires-clause-within
gather-requires-clause-within c =
    let places = c.as_slice.ensures.value ∙ c.in_ok-places.ensures in
    rw places (λ k d p. omega (arith, get_or_upto c.args.count k d (omega (arith, length_upto c.args.count)), length_upto c.args.count, c.requires))

pub gather-requires-clause-few : goal.gather-requires-clause-few
gather-requires-clause-few c =
    let places = c.as_slice.ensures.value ∙ c.in_ok-places.ensures in
    rw places (omega (arith, length_upto c.args.count, c.requires, c.len.ensures.keeps.few_rows))

pub returns : goal.returns
returns c =
    let places = c.as_slice.ensures.value ∙ c.in_ok-places.ensures in
    let rows = ap (rows_at c.args.rel.now.rows) places ∙ rows_at-upto c.args.count c.args.rel.now.rows c.requires in
    rw (← rows) c.gather.ensures
