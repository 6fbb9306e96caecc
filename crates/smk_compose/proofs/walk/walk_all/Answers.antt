use Rattle.std.proofs.Common.{◌∙◌, ℕ, length, ap, arith}
use Rattle.smk_base.specs.PlanImage.{expr_of}
use Rattle.smk_base.proofs.Places.{length_upto}
use Rattle.smk_model.specs.Selection.{each_kinds, each_rows, plan_kinds}
use Rattle.smk_compose.proofs.Walks.{all_within, all_rows, all_kinds}
use Rattle.smk_compose.proofs.walk.walk_all.Goals as goal

pub walk-requires-clause-within : goal.walk-requires-clause-within
walk-requires-clause-within g c κs within =
    all_within c.plan_width-width.result.0 (length (plan_kinds (expr_of c.args.plan.now) (each_kinds c.args.leaves))) c.as_slice.result.now (c.as_slice.ensures.value ∙ c.in_ok-cols.ensures) c.plan_width-width.ensures.is.count

pub walk-requires-clause-few : goal.walk-requires-clause-few
walk-requires-clause-few g c κs within =
    omega (arith, ap (length {A = ℕ}) (c.as_slice.ensures.value ∙ c.in_ok-cols.ensures), length_upto c.plan_width-width.result.0, c.plan_width-width.ensures.is.few)

pub returns-clause-rows : goal.returns-clause-rows
returns-clause-rows g c =
    all_rows (expr_of c.args.plan.now) c.as_slice.result.now c.args.leaves (each_rows c.args.traced.now.tables.now) c.args.traced.now.need.now c.plan_width-width.result.0 c.walk.result (c.as_slice.ensures.value ∙ c.in_ok-cols.ensures) c.plan_width-width.ensures.is c.walk.ensures.made

pub returns-clause-kinds : goal.returns-clause-kinds
returns-clause-kinds g c =
    all_kinds (expr_of c.args.plan.now) c.as_slice.result.now c.args.leaves (each_rows c.args.traced.now.tables.now) c.args.traced.now.need.now c.plan_width-width.result.0 c.walk.result (c.as_slice.ensures.value ∙ c.in_ok-cols.ensures) c.plan_width-width.ensures.is c.walk.ensures.made
