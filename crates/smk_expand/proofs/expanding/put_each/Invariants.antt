use Rattle.std.proofs.Common.{◌≡◌, map}
use Rattle.smk_base.specs.TreeImage.{stmt_image}
use Rattle.smk_model.specs.Expanded as books
use Rattle.smk_expand.proofs.expanding.put_each.Given as goal

abbrev pub invariant-loop-stmt : goal.invariant-loop-stmt
invariant-loop-stmt l = record {
  stmts : map stmt_image l.made.book.stmts ≡ books.expanded (map stmt_image l.yielded);
  fds : l.made.fds ≡ books.dependency_names (map stmt_image l.yielded);
}
