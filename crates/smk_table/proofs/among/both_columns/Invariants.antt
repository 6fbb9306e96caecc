use Rattle.std.proofs.Common.{◌≡◌, ◌++◌, take}
use Rattle.smk_table.specs.Named.{behind}
use Rattle.smk_table.proofs.among.both_columns.Given as goal

abbrev pub invariant-loop-c : goal.invariant-loop-c
invariant-loop-c l = l.cols.items ≡ l.lefts ++ behind l.width (take l.c-index l.rights)
