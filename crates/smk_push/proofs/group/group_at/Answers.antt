use Rattle.std.proofs.{Common.{◌≡◌, ◌∙◌, length, map, ap, arith, subst, get_or, IfOk}, lemmas.List.length-map}
use Rattle.smk_base.specs.Rels.{Relation, row_in}
use Rattle.smk_push.proofs.Rows.{cube_made, firsts_inside, numbered_at}
use Rattle.smk_push.proofs.group.group_at.Goals as goal

pub numbers_at-requires : goal.numbers_at-requires
numbers_at-requires c = rw c.firsts.ensures (numbered_at c.args.input.now.keys.rows c.in_ok-classes.classes c.args.rids.now c.in_ok-classes.ensures.classes).within

pub gather-requires-clause-within : goal.gather-requires-clause-within
gather-requires-clause-within c =
    let classes = c.in_ok-classes.classes in
    let rids = c.args.rids.now in
    let K = c.args.input.now.keys.rows in
    let firsts : c.as_slice.result.now ≡ map (λ i. get_or rids i 0) classes.firsts = c.as_slice.ensures.value ∙ c.in_ok-firsts.ensures ∙ ap (map (λ i. get_or rids i 0)) c.firsts.ensures in
    rw firsts (firsts_inside (length K) classes rids (numbered_at K classes rids c.in_ok-classes.ensures.classes) c.requires.within)

pub gather-requires-clause-few : goal.gather-requires-clause-few
gather-requires-clause-few c =
    let classes = c.in_ok-classes.classes in
    let rids = c.args.rids.now in
    let firsts : c.as_slice.result.now ≡ map (λ i. get_or rids i 0) classes.firsts = c.as_slice.ensures.value ∙ c.in_ok-firsts.ensures ∙ ap (map (λ i. get_or rids i 0)) c.firsts.ensures in
    omega (arith, ap length firsts, length-map classes.firsts (λ i. get_or rids i 0), (numbered_at c.args.input.now.keys.rows classes rids c.in_ok-classes.ensures.classes).few, c.requires.few)

pub with_aggregates-requires-clause-classes : goal.with_aggregates-requires-clause-classes
with_aggregates-requires-clause-classes c =
    let input = c.args.input.now in
    let rids = c.args.rids.now in
    let classes = c.in_ok-classes.classes in
    let long : length c.in_ok-rows.rows.rows ≡ length rids = ap (λ (r : Relation). length r.rows) c.in_ok-rows.ensures ∙ length-map rids (row_in input.rows.rows) in
    rw long (numbered_at input.keys.rows classes rids c.in_ok-classes.ensures.classes)

pub returns-clause-made : goal.returns-clause-made
returns-clause-made c =
    let input = c.args.input.now in
    let classes = c.in_ok-classes.classes in
    let rids = c.args.rids.now in
    let firsts : c.as_slice.result.now ≡ map (λ i. get_or rids i 0) classes.firsts = c.as_slice.ensures.value ∙ c.in_ok-firsts.ensures ∙ ap (map (λ i. get_or rids i 0)) c.firsts.ensures in
    subst (λ (z : Relation). IfOk c.with_aggregates.result (λ made. made ≡ z))
    (cube_made input.keys input.rows c.in_ok-keys.keys c.in_ok-rows.rows input.aggs c.as_slice-2.result.now rids c.as_slice.result.now classes c.in_ok-keys.ensures c.in_ok-rows.ensures c.as_slice-2.ensures firsts c.in_ok-classes.ensures.classes)
    c.with_aggregates.ensures
