use Rattle.std.proofs.{Common.{◌≡◌, ℕ, ap, ◌∙◌, slice_index_or}, lemmas.List.get_or_read}
use Rattle.smk_base.specs.declared.book.catalog.TableInfo.{TableInfo}
use Rattle.smk_model.specs.{OwnTexts.table_info_text, Typing.{info_at, no_table}}
use Rattle.smk_report.proofs.Parts.{text_more}
use Rattle.smk_report.proofs.schema.with_tables.Goals as goal

pub loop-t-preserved : goal.loop-t-preserved
loop-t-preserved c =
    let tables = c.args.catalog.now.tables in
    let rows = c.args.rows.now in
    let t = c.loop-t.t in
    let table : c.index-tables-t.result ≡ info_at tables t = get_or_read c.as_slice-tables.result.now t c.index-tables-t.result c.loop-t-test.true c.index-tables-t.is no_table ∙ ap (λ ts. slice_index_or ts t no_table) c.as_slice-tables.ensures in
    text_more _ _ _ (λ (t : ℕ). table_info_text (info_at tables t) (slice_index_or rows t 0)) t _ c.loop-t.invariant c.in_ok-text.ensures (ap (λ (table : TableInfo). table_info_text table (slice_index_or rows t 0)) table)
