use Rattle.smk_typing.proofs.AskSteps.{step_keeps}
use Rattle.smk_typing.proofs.steps.add_steps.Goals as goal

pub put_step-requires-clause-kept : goal.put_step-requires-clause-kept
put_step-requires-clause-kept c = step_keeps c.args.steps.now c.loop-step.step-index c.step-item.result c.requires.kept c.loop-step-test.true c.step-item.is
