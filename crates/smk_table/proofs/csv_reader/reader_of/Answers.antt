use Rattle.std.proofs.Common.{◌≡◌, ◌∙◌, Some, ap}
use Rattle.smk_table.specs.CsvReader.{records_after, text_left}
use Rattle.smk_table.proofs.RecordsAfter.{strip_bom-none, records_left_is}
use Rattle.smk_table.proofs.csv_reader.reader_of.Goals as goal

pub returns-clause-left : goal.returns-clause-left
unfolding records_after
returns-clause-left c =
    let same = strip_bom-none c.args.text.now c.requires in
    let source : text_left c.from_reader.result ≡ Some c.args.text.now = c.from_reader.ensures.source ∙ ap (λ l. Some l) same in
    records_left_is c.from_reader.result c.args.text.now source ∙ ap (λ s. records_after s c.args.text.now) c.from_reader.ensures.state
