use Rattle.std.proofs.Common.{◌≤◌, length}
use Rattle.smk_base.specs.declared.rel.TheConstants.{COLUMN_LIMIT}
use Rattle.smk_typing.specs.{Images.plan_of, Steps.asked_after, Turns.Remains}
use Rattle.smk_typing.proofs.steps.add_steps.Given as goal

abbrev pub invariant-loop-step : goal.invariant-loop-step
invariant-loop-step l = Remains asked_after (plan_of l.initial.typed) l.steps (plan_of l.typed) l.step-index × (length l.typed.columns ≤ COLUMN_LIMIT)
