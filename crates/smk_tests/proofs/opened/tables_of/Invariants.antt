use Rattle.std.proofs.Common.{◌≡◌, take}
use Rattle.smk_model.specs.{Catalogs.each_table_kinds, Selection.each_kinds}
use Rattle.smk_tests.proofs.opened.tables_of.Given as goal

abbrev pub invariant-loop-i : goal.invariant-loop-i
invariant-loop-i l = each_kinds l.tables.items ≡ each_table_kinds (take l.i l.infos)
