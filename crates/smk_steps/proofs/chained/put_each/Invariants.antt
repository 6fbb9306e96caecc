use Rattle.std.proofs.Common.{◌≡◌, map}
use Rattle.smk_base.specs.PlanImage.{expr_of, unary_of}
use Rattle.smk_model.specs.Asks.{chain}
use Rattle.smk_steps.proofs.chained.put_each.Given as goal

abbrev pub invariant-loop-op : goal.invariant-loop-op
invariant-loop-op l = expr_of l.plan ≡ chain (map unary_of l.yielded)
