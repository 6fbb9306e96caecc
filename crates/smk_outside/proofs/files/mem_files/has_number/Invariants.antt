use Rattle.std.proofs.Common.{◌≡◌, drop, nat_eq}
use Rattle.std.specs.List.{list_any}
use Rattle.smk_outside.proofs.files.mem_files.has_number.Given as goal

abbrev pub invariant-loop-n : goal.invariant-loop-n
invariant-loop-n l = list_any (nat_eq l.number) (drop l.n-index l.numbers) ≡ list_any (nat_eq l.number) l.numbers
