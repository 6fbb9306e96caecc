use Rattle.smk_table.proofs.TableRows.{kinds_base}
use Rattle.smk_table.proofs.records.read_records.Goals as goal

pub of_rel-requires : goal.of_rel-requires
of_rel-requires c = rw (c.in_ok-shared.ensures, c.in_ok-finish.ensures, c.in_ok-read_rows.ensures.kinds) (kinds_base c.args.cols.now c.requires.columns.base)
