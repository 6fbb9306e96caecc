use Rattle.std.proofs.Common.{◌≡◌, ◌≤◌, length, map, take, get_or}
use Rattle.std.specs.Prelude.{vec_capacity}
use Rattle.smk_base.proofs.numbers.numbers_at.Given as goal

abbrev pub invariant-loop-place : goal.invariant-loop-place
invariant-loop-place l = (l.made.items ≡ map (λ place. get_or l.numbers place 0) (take l.place-index l.places)) × (length l.places ≤ vec_capacity l.made)
