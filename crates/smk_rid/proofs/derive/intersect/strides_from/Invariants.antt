use Rattle.std.proofs.Common.{ℕ, ◌-◌, ◌<◌, ◌≤◌, get_or, length}
use Rattle.smk_rid.proofs.derive.intersect.strides_from.Given as goal

abbrev pub invariant-loop-place : goal.invariant-loop-place
invariant-loop-place l = record {
  after : l.fn.from ≤ l.place;
  within : l.place ≤ length l.rids;
  less : (k : ℕ) → l.fn.from ≤ k → k < l.place → get_or l.rids k 0 < l.rid;
}

abbrev pub decreases-loop-place : goal.decreases-loop-place
decreases-loop-place l = length l.rids - l.place
