use Rattle.std.proofs.Common.{◌≡◌, ◌+◌, ◌-◌, ◌*◌, length}
use Rattle.smk_base.specs.declared.book.limits.TheConstants.{DEPTH_LIMIT}
use Rattle.smk_parse.specs.Vocabulary.{tree_image, APlan, ASteps, reads}
use Rattle.smk_parse.proofs.plan.+plan.Given as goal

abbrev pub decreases-source : goal.decreases-source
decreases-source l = (DEPTH_LIMIT - l.depth) * 4

abbrev pub decreases-operands : goal.decreases-operands
decreases-operands l = (DEPTH_LIMIT - l.depth) * 4 + 1

abbrev pub decreases-step : goal.decreases-step
decreases-step l = (DEPTH_LIMIT - l.depth) * 4 + 2

abbrev pub decreases-plan : goal.decreases-plan
decreases-plan l = (DEPTH_LIMIT - l.depth) * 4 + 3

abbrev pub invariant-plan-steps : goal.invariant-plan-steps
invariant-plan-steps l = reads (APlan l.depth) l.fn.reader ≡ reads (ASteps l.depth (tree_image l.input.value)) l.reader

abbrev pub decreases-plan-steps : goal.decreases-plan-steps
decreases-plan-steps l = length l.reader.rest
