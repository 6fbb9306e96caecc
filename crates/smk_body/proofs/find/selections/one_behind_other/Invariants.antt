use Rattle.std.proofs.Common.{◌≡◌, length}
use Rattle.smk_base.specs.PlanImage.{formula_of}
use Rattle.smk_body.specs.Halves.{meeting_below}
use Rattle.smk_jobs.specs.Cuts.{cut_at}
use Rattle.smk_body.proofs.find.selections.one_behind_other.Given as goal

-- the places of the parts so far are those below where the next one begins
abbrev pub invariant-loop-p : goal.invariant-loop-p
invariant-loop-p l = l.places.items ≡ meeting_below (formula_of l.pred) l.rel.rows (cut_at l.workers (length l.rel.rows) l.p)
