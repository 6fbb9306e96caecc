use Rattle.std.proofs.Common.{◌≡◌, ◌++◌, ◌-◌, map, take, get_or}
use Rattle.smk_skip.proofs.runs.put_run.Given as goal

abbrev pub invariant-loop-k : goal.invariant-loop-k
invariant-loop-k l = l.made.items ≡ l.fn.made.items ++ map (λ k. get_or l.rids (k - l.start) 0) (take l.k-index l.part)
