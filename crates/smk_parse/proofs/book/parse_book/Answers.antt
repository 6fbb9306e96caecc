use Rattle.std.specs.Prelude.{Ok, map}
use Rattle.smk_parse.{specs.Vocabulary.stmt_image, specs.Vocabulary.AStmts, specs.Vocabulary.no_tally, proofs.Whole.whole}
use Rattle.smk_parse.proofs.book.parse_book.Goals as goal

pub returns : goal.returns
returns c = whole (AStmts no_tally) c.new-reader.result c.args.text.now (Ok (map stmt_image c.in_ok-stmts.stmts)) c.new-reader.ensures c.in_ok-stmts.ensures
