-- What is so of the calls that type the steps of an `ask` line.
use Rattle.std.specs.Prelude.{◌≡◌}
use Rattle.smk_base.specs.{Plans.{Expr, Leaf, Apply, Combine}, TreeImage.ask_step_image, declared.book.tree.AskStep.AskStep}
use Rattle.smk_model.specs.{Asks.step_after, Names.Typed, TypedSteps.TypedPlan}

-- one more step over a typed plan
abbrev pub asked_after : TypedPlan → AskStep → Typed TypedPlan
asked_after typed step = step_after typed (ask_step_image step)

-- whether a plan has only one leaf, the first
abbrev pub IsChain : Expr → Type 0
IsChain (Leaf table) = table ≡ 0
IsChain (Apply op input) = IsChain input
IsChain (Combine op left right) = ⊥
