use Rattle.std.proofs.{Common.{◌∙◌, arith}, lemmas.List.{take_all, take_more}, lemmas.Grind.common_steps}
use Rattle.smk_base.specs.declared.value.Kind.TheVariants as kinds
use Rattle.smk_chain.proofs.groups.rel_kinds.Goals as goal

pub loop-c-preserved : goal.loop-c-preserved
loop-c-preserved c =
    let more = take_more c.args.rel.now.kinds c.loop-c.c kinds.Text (omega arith) in
    grind (arith, common_steps)

pub returns : goal.returns
returns c = c.loop-c.invariant ∙ take_all c.loop-c.c c.args.rel.now.kinds (omega arith)
