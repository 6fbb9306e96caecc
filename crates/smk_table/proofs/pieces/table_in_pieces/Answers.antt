use Rattle.smk_table.proofs.TableRows.{kinds_base}
use Rattle.smk_table.proofs.pieces.table_in_pieces.Goals as goal

pub of_rel-requires : goal.of_rel-requires
of_rel-requires g c = rw (c.in_ok-shared-in-Ok.ensures, c.in-Ok.ensures.1) (kinds_base c.args.cols.now c.requires.columns.base)
