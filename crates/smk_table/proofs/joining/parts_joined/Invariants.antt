use Rattle.std.proofs.Common.{◌≡◌, length, take}
use Rattle.std.specs.List.{flat_map}
use Rattle.smk_base.specs.Rels.{Relation}
use Rattle.smk_table.specs.Joined.{end_to_end}
use Rattle.smk_table.proofs.joining.parts_joined.Given as goal

abbrev pub invariant-loop-part : goal.invariant-loop-part
invariant-loop-part l = l.whole ≡ record { kinds = (end_to_end l.fn.parts.items).kinds; rows = flat_map (λ (part : Relation). part.rows) (take (length l.yielded) l.fn.parts.items) }
