use Rattle.std.proofs.Common.{ap}
use Rattle.smk_base.specs.Trees.{ViewNode}
use Rattle.smk_expand.proofs.Placed.{two_put}
use Rattle.smk_expand.proofs.expanding.put_dependency.Goals as goal

pub returns-clause-stmts : goal.returns-clause-stmts
returns-clause-stmts c = two_put _ _ _ _ _ _ _ c.in_ok-push-2.ensures.pushed c.in_ok-push-3.ensures.pushed (ap (ViewNode c.args.name) c.in_ok-plan.ensures) c.in_ok-back.ensures
