use Rattle.std.proofs.{Common.{◌≡◌, ◌∙◌, pos, arith, get_or, rules, to_z, of_z, to_z-of_z, w64}, lemmas.List.get_or_default}
use Rattle.smk_body.proofs.Folding.{constant, sum_step, SumStep}
use Rattle.smk_body.proofs.make.aggregates.small_sums.Goals as goal

pub loop-i-init : goal.loop-i-init
loop-i-init c = c.in_ok-sums.ensures.items_if_clones_equal (λ y e. e) ∙ constant (pos 0) c.args.count

pub overflow_add-more : goal.overflow_add-more
overflow_add-more c =
    let numbers = c.args.numbers.now in
    let i = c.loop-i.i in
    let x = get_or numbers i (pos 0) in
    let s : SumStep numbers c.args.of.now c.args.count i c.loop-i.sums.items c.index.result.now x =
    sum_step numbers c.args.of.now c.args.count i c.loop-i.sums.items c.index.result.now x c.requires.long c.requires.few c.requires.within c.requires.below c.loop-i-test.true c.loop-i.invariant c.index.ensures
    (get_or_default numbers i (pos 0) x (omega (arith, c.requires.long))) in
    let same : to_z w64 (of_z w64 x) ≡ x = search rules in
    let f = s.old_fits in
    let g = s.more_fits in
    rw (to_z-of_z f, same, to_z-of_z g) s.new_fits

pub loop-i-preserved : goal.loop-i-preserved
loop-i-preserved c =
    let numbers = c.args.numbers.now in
    let i = c.loop-i.i in
    let x = get_or numbers i (pos 0) in
    let s : SumStep numbers c.args.of.now c.args.count i c.loop-i.sums.items c.index.result.now x =
    sum_step numbers c.args.of.now c.args.count i c.loop-i.sums.items c.index.result.now x c.requires.long c.requires.few c.requires.within c.requires.below c.loop-i-test.true c.loop-i.invariant c.index.ensures
    (get_or_default numbers i (pos 0) x (omega (arith, c.requires.long))) in
    let same : to_z w64 (of_z w64 x) ≡ x = search rules in
    let f = s.old_fits in
    let g = s.more_fits in
    let h = s.new_fits in
    rw (to_z-of_z f, same, to_z-of_z g, to_z-of_z h) s.next
