use Rattle.std.proofs.Common.{Ok, ◌≡◌, ◌++◌, List, length, All}
use Rattle.std.specs.List.{AllZip}
use Rattle.smk_jobs.proofs.jobs.each_or_first.Given as goal

abbrev pub invariant-loop-rest : goal.invariant-loop-rest
invariant-loop-rest g l = record {
  jobs : All (goal.F-pre g l.f) l.rest.items;
  done : (before : List _) × (before ++ l.rest.items ≡ l.fn.jobs.items) × AllZip (λ job one. goal.F-post g l.f job (Ok one)) before l.all.items;
}

abbrev pub decreases-loop-rest : goal.decreases-loop-rest
decreases-loop-rest g l = length l.rest.items
