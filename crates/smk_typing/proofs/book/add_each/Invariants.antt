use Rattle.std.proofs.Common.{map, drop}
use Rattle.smk_typing.specs.{Drafts.draft_image, Rest.IsBefore}
use Rattle.smk_base.specs.TreeImage.{stmt_image}
use Rattle.smk_typing.proofs.book.add_each.Given as goal

abbrev pub invariant-loop-stmt : goal.invariant-loop-stmt
invariant-loop-stmt l = IsBefore (map stmt_image l.stmts) (draft_image l.draft) (map stmt_image (drop l.stmt-index l.stmts))
