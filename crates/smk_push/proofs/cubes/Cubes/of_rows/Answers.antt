use Rattle.std.proofs.{Common.{◌≡◌, ◌∙◌, ◌<◌, ◌++◌, All, length, drop, slice_index_or, [], ap, refl, subst, arith}, lemmas.List.{length-append, length-drop, length-take-le}}
use Rattle.smk_push.specs.Cubes.{cube_of}
use Rattle.smk_push.proofs.Rows.{few_in_set, one_more}
use Rattle.smk_push.proofs.cubes.Cubes.of_rows.Goals as goal

pub group_at-requires-clause-few : goal.group_at-requires-clause-few
group_at-requires-clause-few c = omega (arith, few_in_set c.args.map.now.bound c.at-rids.result.now c.at-rids.ensures.set, c.requires.bound, c.len-rows.ensures.count, c.len-rows.ensures.few)

pub loop-mark-preserved : goal.loop-mark-preserved
loop-mark-preserved c =
    let all = c.args.all.now in
    let cube = cube_of all c.args.keys.now c.args.aggs.now in
    let lists = c.args.map.now.lists in
    let mark = c.loop-mark.mark in
    let rids = c.at-rids.result.now in
    let inside : mark < length lists = omega (arith, c.loop-mark-test.true, c.len-mark-end.ensures) in
    let below : All (λ rid. rid < length all.rows) rids = subst (λ n. All (λ rid. rid < n) rids) c.requires.bound c.at-rids.ensures.below in
    let same : cube_of all c.as_slice.result.now c.as_slice-2.result.now rids ≡ cube (slice_index_or lists mark []) = rw (c.as_slice.ensures, c.as_slice-2.ensures, c.at-rids.ensures.rids) refl in
    let table = c.loop-mark.table.items in
    let written = c.group_at.new.table in
    let long : length (written ++ drop (length written) table) ≡ length table = omega (arith, length-append written (drop (length written) table), length-drop (length written) table, c.group_at.ensures.wide, ap length c.as_mut_slice.ensures.value) in (
      c.in_ok-push.ensures.items ∙ one_more cube lists mark c.loop-mark.groups.items c.in_ok-made.made inside c.loop-mark.invariant.0 (c.in_ok-made.ensures.made ∙ c.in_ok-input.ensures.cubes rids below ∙ same),
      omega (arith, length-take-le c.loop-mark.table.len (written ++ drop (length written) table) (omega (arith, long, c.as_mut_slice.ensures.len, ap length c.as_mut_slice.ensures.value)), c.as_mut_slice.ensures.len, ap length c.as_mut_slice.ensures.value, c.loop-mark.invariant.1),
    )
