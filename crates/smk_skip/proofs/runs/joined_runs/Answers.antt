use Rattle.std.proofs.{Common.{◌≡◌, ◌∙◌, ◌<◌, ℕ, ap, arith}, lemmas.List.take_all, lemmas.List.Filters.dedup_is, lemmas.Grind.common_steps}
use Rattle.std.specs.List.{flat_map, All}
use Rattle.smk_base.specs.Places.{has, places, list_at}
use Rattle.smk_rid.proofs.{Sets.set_rises, Rising.set_of_sorted}
use Rattle.smk_skip.specs.Parts.{run}
use Rattle.smk_skip.proofs.Stretches.{run_below, all_below}
use Rattle.smk_skip.proofs.runs.joined_runs.Goals as goal

pub put_run-requires-clause-rises : goal.put_run-requires-clause-rises
put_run-requires-clause-rises c = set_rises c.args.lists.now.bound c.at.result.now c.at.ensures.set

pub returns : goal.returns
returns c =
    let marks = c.args.marks.now in
    let rids = c.args.rids.now in
    let f = λ (mark : ℕ). run c.args.start rids (list_at c.args.lists.now mark) in
    let made : c.loop-mark.made.items ≡ flat_map f marks = c.loop-mark.invariant ∙ ap (flat_map f) (take_all c.loop-mark.mark-index marks c.loop-mark-test.false) in
    let low : All (λ r. r < c.args.bound) c.loop-mark.made.items = rw made (all_below f marks c.args.bound (λ mark. run_below c.args.start rids (list_at c.args.lists.now mark) c.args.bound c.requires.below)) in
    c.from_vec.ensures
    ∙ set_of_sorted c.loop-mark.made.items c.sort_unstable.new.self.items c.dedup.new.self.items c.args.bound c.sort_unstable.ensures.permutation c.sort_unstable.ensures.sorted (dedup_is _ _ _ c.dedup.ensures.filtered) low
    ∙ ap (λ z. places (has z) c.args.bound) made

pub loop-mark-preserved : goal.loop-mark-preserved
loop-mark-preserved c = grind (arith, common_steps)
