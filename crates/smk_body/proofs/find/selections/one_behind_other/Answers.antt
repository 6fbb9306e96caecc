use Rattle.std.proofs.Common.{◌≡◌, ◌∙◌, length, ap, arith}
use Rattle.smk_base.specs.PlanImage.{formula_of}
use Rattle.smk_body.specs.Halves.{meeting_below}
use Rattle.smk_jobs.proofs.Cutting.{cut_end}
use Rattle.smk_body.proofs.find.selections.one_behind_other.Goals as goal

pub returns : goal.returns
returns c =
    let rows = c.args.rel.now.rows in
    let all : c.loop-p.p ≡ c.args.workers = omega (arith, c.loop-p.auto.p-end, c.loop-p-test.false, c.requires.made.0) in
    c.loop-p.invariant ∙ ap (meeting_below (formula_of c.args.pred.now) rows) (cut_end c.args.workers (length rows) c.loop-p.p c.requires.some all)
