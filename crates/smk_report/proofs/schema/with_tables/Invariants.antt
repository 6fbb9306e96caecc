use Rattle.std.proofs.Common.{◌≡◌, ◌++◌, slice_index_or}
use Rattle.std.specs.List.{flat_map}
use Rattle.smk_base.specs.Places.{upto}
use Rattle.smk_model.specs.{OwnTexts.table_info_text, Typing.info_at}
use Rattle.smk_report.proofs.schema.with_tables.Given as goal

abbrev pub invariant-loop-t : goal.invariant-loop-t
invariant-loop-t l = l.text.items ≡ l.initial.text.items ++ flat_map (λ t. table_info_text (info_at l.catalog.tables t) (slice_index_or l.rows t 0)) (upto l.t)
