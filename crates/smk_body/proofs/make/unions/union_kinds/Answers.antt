use Rattle.std.proofs.{Common.{◌∙◌, ◌<◌, length, arith}, lemmas.List.{take_more, take_all}, lemmas.Grind.common_steps}
use Rattle.smk_base.specs.declared.value.Kind.TheVariants as kinds
use Rattle.smk_model.specs.Kinds.{wider_kinds}
use Rattle.smk_body.proofs.Fitting.{length-wider_kinds, kind_in-wider_kinds}
use Rattle.smk_body.proofs.make.unions.union_kinds.Goals as goal

pub loop-c-preserved : goal.loop-c-preserved
loop-c-preserved c =
    let ls = c.args.left.now.kinds in
    let rs = c.args.right.now.kinds in
    let long = length-wider_kinds ls rs c.requires in
    let low : c.loop-c.c < length (wider_kinds ls rs) = omega arith in
    let here = kind_in-wider_kinds ls rs c.loop-c.c c.requires (omega arith) in
    let more = take_more (wider_kinds ls rs) c.loop-c.c kinds.Text low in
    grind (arith, common_steps)

pub returns : goal.returns
returns c =
    let long = length-wider_kinds c.args.left.now.kinds c.args.right.now.kinds c.requires in
    c.loop-c.invariant ∙ take_all c.loop-c.c (wider_kinds c.args.left.now.kinds c.args.right.now.kinds) (omega arith)
