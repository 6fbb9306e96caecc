use Rattle.std.proofs.Common.{◌∙◌, ℕ, List, map, ap, arith, get_or}
use Rattle.smk_keys.specs.Classes.{ClassesImage}
use Rattle.smk_model.specs.{Plain.{firsts, key_of}, Classes.classes}
use Rattle.smk_defer.proofs.Keyed.{by_class, classes_within, firsts_few, firsts_within, found_first, length_places}
use Rattle.smk_defer.proofs.keys.key_places.Goals as goal

pub found_at-requires-clause-within : goal.found_at-requires-clause-within
found_at-requires-clause-within c = rw (c.firsts.ensures, c.in_ok-classes.ensures) (firsts_within c.args.cols.now c.args.rel.now.rows)

pub found_at-requires-clause-few : goal.found_at-requires-clause-few
found_at-requires-clause-few c = rw (c.firsts.ensures, c.in_ok-classes.ensures) (omega (arith, firsts_few c.args.cols.now c.args.rel.now.rows, c.len-rows.ensures.keeps.few_rows))

pub numbers_at-requires : goal.numbers_at-requires
numbers_at-requires c =
    let table = c.as_slice.ensures.value ∙ found_first c.args.cols.now c.args.rel.now.rows c.args.keys.now c.in_ok-classes.classes c.firsts.result.now c.in_ok-table.table.items c.in_ok-classes.ensures c.firsts.ensures c.in_ok-table.ensures in
    classes_within c.args.keys.now (map (key_of c.args.cols.now) c.args.rel.now.rows) c.of.result.now c.as_slice.result.now (c.of.ensures ∙ ap (λ (m : ClassesImage). m.of) c.in_ok-classes.ensures) table

pub returns-clause-places : goal.returns-clause-places
returns-clause-places c =
    let keys = c.args.keys.now in
    let all = map (key_of c.args.cols.now) c.args.rel.now.rows in
    let of = c.of.ensures ∙ ap (λ (m : ClassesImage). m.of) c.in_ok-classes.ensures in
    let table = c.as_slice.ensures.value ∙ found_first c.args.cols.now c.args.rel.now.rows keys c.in_ok-classes.classes c.firsts.result.now c.in_ok-table.table.items c.in_ok-classes.ensures c.firsts.ensures c.in_ok-table.ensures in
    c.in_ok-made.ensures ∙ ap (map (λ p. get_or c.as_slice.result.now p 0)) of ∙ ap (λ (z : List ℕ). map (λ p. get_or z p 0) (classes all)) table ∙ by_class keys all

pub returns-clause-few : goal.returns-clause-few
returns-clause-few c = omega (arith, c.len-rows.ensures.keeps.few_rows, length_places c.args.keys.now c.args.cols.now c.args.rel.now.rows c.in_ok-made.made.items (returns-clause-places c))
