use Rattle.std.proofs.Common.{◌≤◌, length}
use Rattle.std.specs.Prelude.{vec_capacity}
use Rattle.smk_keys.proofs.Coded.{IsCoded}
use Rattle.smk_keys.proofs.hashed.numbers_in.Given as goal

abbrev pub invariant-loop-i : goal.invariant-loop-i
invariant-loop-i g l = (length l.seen.keys ≤ l.i) × (length l.items ≤ vec_capacity l.of) × ((none : g.row.T.Denot) → IsCoded g.T.PartialEq.eq none l.items l.i l.of.items l.seen.keys)
