use Rattle.std.proofs.Common.{◌≡◌, length}
use Rattle.smk_base.specs.Places.{upto}
use Rattle.smk_table.specs.Joined.{end_to_end, columns_of}
use Rattle.smk_table.proofs.joining.parts_joined_by_columns.Given as goal

abbrev pub invariant-loop-column : goal.invariant-loop-column
invariant-loop-column g l = l.whole ≡ columns_of (upto (length l.yielded)) (end_to_end l.fn.parts.items)
