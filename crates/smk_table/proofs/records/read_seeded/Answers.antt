use Rattle.smk_table.specs.CsvReader.{records_left}
use Rattle.smk_table.proofs.TableRows.{table_of-left}
use Rattle.smk_table.proofs.records.read_seeded.Goals as goal

pub returns-clause-rows : goal.returns-clause-rows
returns-clause-rows c =
    rw (table_of-left c.args.cols.now c.args.bytes.now c.without_mark.result.now (records_left c.reader_of-reader.result) c.without_mark.ensures.rest c.reader_of-reader.ensures.left) c.read_records.ensures.rows

pub returns-clause-fault : goal.returns-clause-fault
returns-clause-fault c =
    rw (table_of-left c.args.cols.now c.args.bytes.now c.without_mark.result.now (records_left c.reader_of-reader.result) c.without_mark.ensures.rest c.reader_of-reader.ensures.left) c.read_records.ensures.fault
