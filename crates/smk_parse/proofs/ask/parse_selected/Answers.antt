use Rattle.std.specs.Prelude.{Ok, map}
use Rattle.smk_parse.{specs.Vocabulary.ask_step_image, specs.Vocabulary.ASelected, proofs.Whole.whole, proofs.Whole.selected_unread}
use Rattle.smk_parse.proofs.ask.parse_selected.Goals as goal

pub returns-in-Ok : goal.returns-in-Ok
returns-in-Ok c = whole ASelected c.new-reader.result c.args.text.now (Ok (c.in-Ok.read.0, map ask_step_image c.in-Ok.read.1)) c.new-reader.ensures c.in-Ok.ensures

pub returns-in-Err : goal.returns-in-Err
returns-in-Err c = selected_unread c.new-reader.result c.args.text.now c.in-Err.fault c.as_line_fault.result c.new-reader.ensures c.in-Err.ensures c.as_line_fault.ensures
