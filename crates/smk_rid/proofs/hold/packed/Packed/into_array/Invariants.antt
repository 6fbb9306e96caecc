use Rattle.std.proofs.Common.{◌≡◌, ◌≤◌, ◌<◌, ℕ, [], get_or, length}
use Rattle.smk_rid.specs.Packing.{one_of}
use Rattle.smk_rid.proofs.hold.packed.Packed.into_array.Given as goal

abbrev pub invariant-loop-i : goal.invariant-loop-i
invariant-loop-i l = record {
  len : length l.starts.items ≡ length l.initial.starts.items;
  done : (k : ℕ) → k < l.i → one_of (get_or l.starts.items k 0) ≡ get_or l.fn.self k [];
  left : (k : ℕ) → l.i ≤ k → get_or l.starts.items k 0 ≡ get_or l.initial.starts.items k 0;
}
