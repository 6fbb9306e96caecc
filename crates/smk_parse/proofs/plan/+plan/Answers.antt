use Rattle.std.proofs.Common.{sym}
use Rattle.smk_parse.{specs.Vocabulary.AStep, specs.Vocabulary.step_image, specs.Vocabulary.head_of, proofs.Steps.smaller, proofs.Steps.step_reads, proofs.Steps.answered}
use Rattle.smk_parse.proofs.plan.+plan.Goals as goal

pub source-returns-in-Scan : goal.source-returns-in-Scan
source-returns-in-Scan t c = c.scan.ensures c.args.depth

pub step-returns : goal.step-returns
step-returns t c = answered step_image (λ s. ((head_of c.args.reader.now.rest).at, s)) c.operands.new.reader c.operands.result _ _ (step_reads c.args.depth c.kind-kind.result c.args.reader.now c.take_node.new.reader c.kind-kind.ensures.is (sym (c.if-not-is_step.ensures.step c.args.depth)) c.in_ok-take_node.ensures.few c.kind-kind.ensures.here c.in_ok-take_node.ensures.taken) c.operands.ensures

pub plan-steps-smaller : goal.plan-steps-smaller
plan-steps-smaller t c = smaller (AStep c.args.depth) _ _ _ _ _ c.advance.ensures c.in_ok-what.ensures
