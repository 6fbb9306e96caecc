use Rattle.std.proofs.Common.{◌≡◌, map, take, get_or}
use Rattle.smk_keys.specs.Joined.{key_total, numbers_from}
use Rattle.smk_keys.proofs.joining.renumbered.Given as goal

-- the parts so far have their entries
abbrev pub invariant-loop-part : goal.invariant-loop-part
invariant-loop-part l = (l.of.items ≡ map (λ k. get_or l.table k 0) (numbers_from 0 (take l.part-index l.parts))) × (l.from ≡ key_total (take l.part-index l.parts))
