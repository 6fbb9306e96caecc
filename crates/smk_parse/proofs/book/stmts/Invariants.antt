use Rattle.std.proofs.Common.{◌≡◌, length, map}
use Rattle.smk_parse.specs.{Vocabulary.{stmt_image, AStmts, no_tally, reads}, Reads.{tally_of, before}}
use Rattle.smk_parse.proofs.book.stmts.Given as goal

abbrev pub invariant-stmts : goal.invariant-stmts
invariant-stmts l = reads (AStmts no_tally) l.fn.reader ≡ before (map stmt_image l.stmts) (reads (AStmts (tally_of l.tally)) l.reader)

abbrev pub decreases-stmts : goal.decreases-stmts
decreases-stmts l = length l.reader.rest
