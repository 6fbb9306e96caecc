use Rattle.std.proofs.Common.{[], map, slice_index_or}
use Rattle.std.specs.List.{flat_map}
use Rattle.smk_base.specs.{Places.upto, declared.value.Kind.TheVariants.Text}
use Rattle.smk_model.specs.OwnTexts.{column_record}
use Rattle.smk_report.specs.Pages.{Adds}
use Rattle.smk_report.proofs.schema.with_view_columns.Given as goal

abbrev pub invariant-loop-c : goal.invariant-loop-c
invariant-loop-c l = Adds l.initial.page l.page (flat_map column_record (map (λ c. record { name = slice_index_or l.view.names c []; kind = slice_index_or l.view.kinds c Text }) (upto l.c)))
