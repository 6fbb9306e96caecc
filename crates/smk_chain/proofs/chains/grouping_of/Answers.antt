use Rattle.std.proofs.Common.{◌∙◌, ap}
use Rattle.smk_base.specs.{PlanImage.{expr_of, unary_of}, Plans.Apply, declared.book.plan.Op1.Op1}
use Rattle.smk_chain.proofs.chains.grouping_of.Goals as goal

pub returns-in-Group : goal.returns-in-Group
returns-in-Group c =
    let input = expr_of c.in-One.field-1.value in
    (input, ap expr_of c.in-One.is ∙ ap (λ (op : Op1). Apply (unary_of op) input) c.in-Group.is)
