use Rattle.std.proofs.Common.{◌++◌, ◌∙◌, ap}
use Rattle.smk_base.specs.TreeImage.{stmt_image}
use Rattle.smk_model.specs.Expanded as books
use Rattle.smk_expand.proofs.Placed.{one_more}
use Rattle.smk_expand.proofs.expanding.put_each.Goals as goal

pub loop-stmt-preserved : goal.loop-stmt-preserved
loop-stmt-preserved c = record {
  stmts = c.in_ok-put_in_place.ensures.stmts ∙ ap (λ l. l ++ books.in_its_place (stmt_image c.in-Some.stmt)) c.loop-stmt.invariant.stmts ∙ one_more books.in_its_place c.loop-stmt.yielded c.in-Some.stmt;
  fds = c.in_ok-put_in_place.ensures.fds ∙ ap (λ l. l ++ books.dependency_name (stmt_image c.in-Some.stmt)) c.loop-stmt.invariant.fds ∙ one_more books.dependency_name c.loop-stmt.yielded c.in-Some.stmt;
}
