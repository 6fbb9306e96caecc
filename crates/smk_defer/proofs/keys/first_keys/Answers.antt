use Rattle.std.proofs.{Common.{◌<◌, ◌∙◌, List, length, map, ap, arith, refl}, lemmas.List.Elements.All-weaker}
use Rattle.smk_base.specs.{Places.upto, Rels.picked}
use Rattle.smk_model.specs.{Values.Row, Plain.firsts}
use Rattle.smk_base.proofs.Places.{length_upto, upto_below}
use Rattle.smk_defer.proofs.Keyed.{all_rows}
use Rattle.smk_defer.proofs.keys.first_keys.Goals as goal

pub keys_at-requires-clause-columns : goal.keys_at-requires-clause-columns
keys_at-requires-clause-columns c = rw (c.as_slice.ensures.value, c.in_ok-cols.ensures) (All-weaker (λ i. i < c.args.count) (λ i. i < length c.args.rel.now.kinds) (λ i h. omega (arith, h, c.requires)) (upto c.args.count) (upto_below c.args.count))

pub keys_at-requires-clause-within : goal.keys_at-requires-clause-within
keys_at-requires-clause-within c = rw (c.as_slice-2.ensures.value, c.in_ok-places.ensures, c.len.ensures.count) (upto_below (length c.args.rel.now.rows))

pub keys_at-requires-clause-few : goal.keys_at-requires-clause-few
keys_at-requires-clause-few c = omega (arith, ap length (c.as_slice-2.ensures.value ∙ c.in_ok-places.ensures), length_upto c.len.result, c.len.ensures.count, c.len.ensures.keeps.few_rows)

pub returns : goal.returns
returns c =
    let rel = c.args.rel.now in
    c.in_ok-made.ensures
    ∙ ap (λ (z : List Row). firsts (map (picked c.as_slice.result.now) z)) (all_rows rel.rows c.as_slice-2.result.now (c.as_slice-2.ensures.value ∙ c.in_ok-places.ensures ∙ ap upto c.len.ensures.count))
    ∙ rw (c.as_slice.ensures.value, c.in_ok-cols.ensures) refl
