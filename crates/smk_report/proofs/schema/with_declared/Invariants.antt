use Rattle.std.proofs.Common.{map, take}
use Rattle.std.specs.List.{flat_map}
use Rattle.smk_model.specs.{OwnTexts.column_record, Typing.column_of}
use Rattle.smk_report.specs.Pages.{Adds}
use Rattle.smk_report.proofs.schema.with_declared.Given as goal

abbrev pub invariant-loop-declared : goal.invariant-loop-declared
invariant-loop-declared l = Adds l.initial.page l.page (flat_map column_record (map column_of (take l.declared-index l.declared-items)))
