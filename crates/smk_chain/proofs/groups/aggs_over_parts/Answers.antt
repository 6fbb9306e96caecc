use Rattle.std.proofs.{Common.{◌∙◌, arith}, lemmas.List.{take_all, take_more}, lemmas.Grind.common_steps}
use Rattle.smk_base.specs.declared.book.plan.Agg.TheVariants.{Count}
use Rattle.smk_model.specs.Growth.{all_over_parts}
use Rattle.smk_chain.proofs.Columns.{over_at, over_long}
use Rattle.smk_chain.proofs.groups.aggs_over_parts.Goals as goal

pub loop-i-preserved : goal.loop-i-preserved
loop-i-preserved c =
    let over = all_over_parts c.args.from c.args.aggs.now in
    let here = over_at c.args.from c.args.aggs.now c.loop-i.i Count Count (omega arith) in
    let more = take_more over c.loop-i.i Count (omega (arith, over_long c.args.from c.args.aggs.now)) in
    grind (arith, common_steps)

pub returns : goal.returns
returns c = c.loop-i.invariant ∙ take_all c.loop-i.i (all_over_parts c.args.from c.args.aggs.now) (omega (arith, over_long c.args.from c.args.aggs.now))
