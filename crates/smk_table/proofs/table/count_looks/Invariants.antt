use Rattle.std.proofs.Common.{◌≡◌, ◌+◌}
use Rattle.smk_table.proofs.table.count_looks.Given as goal

abbrev pub invariant-loop-look : goal.invariant-loop-look
invariant-loop-look g l = l.steps ≡ l.initial.steps + l._look
