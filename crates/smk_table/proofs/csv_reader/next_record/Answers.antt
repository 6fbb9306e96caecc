use Rattle.csv.specs.Records.{fields_of}
use Rattle.smk_table.proofs.RecordsAfter.{found-says, ended-says}
use Rattle.smk_table.proofs.csv_reader.next_record.Goals as goal

pub returns-clause-found : goal.returns-clause-found
returns-clause-found c =
    found-says c.args.reader.now c.read_byte_record.new.self (fields_of c.read_byte_record.new.row) c.in-Ok.found c.requires
    (c.in-Ok.ensures.reads c.requires.untrimmed c.requires.ready) (c.in-Ok.ensures.ready c.requires.untrimmed)

pub returns-clause-ended : goal.returns-clause-ended
returns-clause-ended c =
    ended-says c.args.reader.now c.read_byte_record.new.self (fields_of c.read_byte_record.new.row) c.in-Ok.found c.requires
    (c.in-Ok.ensures.reads c.requires.untrimmed c.requires.ready)
