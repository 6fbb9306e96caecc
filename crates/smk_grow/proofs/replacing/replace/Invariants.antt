use Rattle.std.proofs.Common.{◌≡◌, ◌≤◌, length, vec_len}
use Rattle.smk_grow.specs.Renewed.{replaced}
use Rattle.smk_grow.proofs.replacing.replace.Given as goal

-- with those that are left the values come to the same
abbrev pub invariant-loop-one : goal.invariant-loop-one
invariant-loop-one g l = record {
  left : replaced l.rest.items l.olds ≡ replaced l.initial.rest.items l.initial.olds;
  few : length l.rest.items ≤ length l.olds;
}

abbrev pub decreases-loop-one : goal.decreases-loop-one
decreases-loop-one g l = vec_len l.rest
