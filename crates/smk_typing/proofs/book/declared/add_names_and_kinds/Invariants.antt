use Rattle.std.proofs.Common.{◌≡◌, take}
use Rattle.smk_model.specs.Names.{names_of, column_kinds}
use Rattle.smk_typing.proofs.book.declared.add_names_and_kinds.Given as goal

abbrev pub invariant-loop-column : goal.invariant-loop-column
invariant-loop-column l = (l.names ≡ names_of (take l.column-index l.columns)) × (l.kinds ≡ column_kinds (take l.column-index l.columns))
