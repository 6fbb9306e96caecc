use Rattle.std.proofs.{Common.{◌≡◌, ◌∙◌, length, ap}, lemmas.List.length-map}
use Rattle.smk_base.specs.Rels.{Relation, kind_in}
use Rattle.smk_base.proofs.Places.{upto_below}
use Rattle.smk_push.proofs.Rows.{cube_same, is_input}
use Rattle.smk_push.proofs.input.input_of.Goals as goal

pub of_rows-requires : goal.of_rows-requires
of_rows-requires c =
    let keys = c.args.keys.now in
    let wide : length c.in_ok-keys.keys.kinds ≡ length keys = ap (λ (r : Relation). length r.kinds) c.in_ok-keys.ensures ∙ length-map keys (kind_in c.args.all.now.kinds) in
    rw (c.as_slice.ensures.value, c.in_ok-columns.ensures, wide) (upto_below (length keys))

pub returns-clause-is : goal.returns-clause-is
returns-clause-is c = is_input c.args.all.now c.in_ok-keys.keys c.in_ok-aggs.rows c.args.keys.now c.args.aggs.now c.in_ok-aggs.aggs c.in_ok-classes.classes c.as_slice.result.now c.in_ok-keys.ensures c.in_ok-aggs.ensures c.requires.few c.in_ok-classes.ensures (c.as_slice.ensures.value ∙ c.in_ok-columns.ensures)

pub returns-clause-cubes : goal.returns-clause-cubes
returns-clause-cubes c rids low = cube_same c.args.all.now c.in_ok-keys.keys c.in_ok-aggs.rows c.args.keys.now c.args.aggs.now c.in_ok-aggs.aggs rids c.in_ok-keys.ensures c.in_ok-aggs.ensures low
