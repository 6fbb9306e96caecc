use Rattle.std.proofs.Common.{◌≡◌, ◌++◌, [], take, get_or}
use Rattle.std.specs.List.{flat_map}
use Rattle.smk_rid.proofs.hold.packed.Packed.put_at.Given as goal

abbrev pub invariant-loop-p : goal.invariant-loop-p
invariant-loop-p l = l.rids.items ≡ l.initial.rids.items ++ flat_map (λ p. get_or l.self p []) (take l.p-index l.places)
