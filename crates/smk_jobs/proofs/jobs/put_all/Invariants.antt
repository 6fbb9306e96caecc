use Rattle.std.proofs.Common.{◌≡◌, ◌++◌, Ok, List, length, take}
use Rattle.std.specs.List.{AllZip}
use Rattle.smk_jobs.proofs.jobs.put_all.Given as goal

abbrev pub invariant-loop-result : goal.invariant-loop-result
invariant-loop-result g l = (ones : List _) × AllZip (λ r one. r ≡ Ok one) (take (length l.yielded) l.fn.results.items) ones × (l.all.items ≡ l.initial.all.items ++ ones)
