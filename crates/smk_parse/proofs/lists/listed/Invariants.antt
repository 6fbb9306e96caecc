use Rattle.std.proofs.Common.{◌≡◌, length}
use Rattle.smk_parse.{specs.Reads.reads_list, specs.Reads.before, proofs.Steps.reads_rest}
use Rattle.smk_parse.proofs.lists.listed.Given as goal

abbrev pub invariant-members : goal.invariant-members
invariant-members g l = reads_list g.M.Member.rule l.fn.reader ≡ before l.list (reads_rest g.M.Member.rule (length l.list) l.reader)

abbrev pub decreases-members : goal.decreases-members
decreases-members g l = length l.reader.rest
