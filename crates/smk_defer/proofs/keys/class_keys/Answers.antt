use Rattle.std.proofs.Common.{◌≡◌, ◌∙◌, map, ap, arith}
use Rattle.smk_keys.specs.Classes.{ClassesImage}
use Rattle.smk_model.specs.{Plain.{firsts, key_of}, Classes.first_places}
use Rattle.smk_defer.proofs.Keyed.{firsts_twice, keys_first, firsts_within, firsts_few}
use Rattle.smk_defer.proofs.keys.class_keys.Goals as goal

pub keys_at-requires-clause-within : goal.keys_at-requires-clause-within
keys_at-requires-clause-within c = rw (c.firsts.ensures, c.in_ok-classes.ensures) (firsts_within c.args.cols.now c.args.rel.now.rows)

pub keys_at-requires-clause-few : goal.keys_at-requires-clause-few
keys_at-requires-clause-few c = rw (c.firsts.ensures, c.in_ok-classes.ensures) (omega (arith, firsts_few c.args.cols.now c.args.rel.now.rows, c.len-rows.ensures.keeps.few_rows))

pub returns : goal.returns
returns c =
    let cols = c.args.cols.now in
    let rows = c.args.rel.now.rows in
    let places : c.firsts.result.now ≡ first_places (map (key_of cols) rows) = c.firsts.ensures ∙ ap (λ (m : ClassesImage). m.firsts) c.in_ok-classes.ensures in
    c.in_ok-made.ensures ∙ ap firsts (keys_first cols rows c.firsts.result.now places) ∙ firsts_twice (map (key_of cols) rows)
