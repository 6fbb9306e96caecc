use Rattle.std.proofs.Common.{◌≤◌, length}
use Rattle.std.specs.Prelude.{vec_capacity}
use Rattle.smk_push.proofs.Found.{IsFound}
use Rattle.smk_push.proofs.classes.number_classes.Given as goal

abbrev pub invariant-loop-i : goal.invariant-loop-i
invariant-loop-i l = IsFound l.numbers (length l.initial.table) l.i l.of.items l.firsts.items l.table × (length l.numbers ≤ vec_capacity l.of)
