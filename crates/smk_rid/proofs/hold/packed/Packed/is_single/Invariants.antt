use Rattle.std.proofs.Common.{◌≤◌, ◌<◌, ◌+◌, ℕ, get_or}
use Rattle.smk_rid.proofs.hold.packed.Packed.is_single.Given as goal

abbrev pub invariant-loop-i : goal.invariant-loop-i
invariant-loop-i l = (k : ℕ) → k < l.i → get_or l.self-inside.starts.items (k + 1) 0 ≤ get_or l.self-inside.starts.items k 0 + 1
