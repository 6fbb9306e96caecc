use Rattle.std.proofs.Common.{map}
use Rattle.smk_base.specs.TreeImage.{stmt_image}
use Rattle.smk_typing.proofs.Books.{at_next, next_kept, next_replaced, rest_at}
use Rattle.smk_typing.proofs.book.add_each.Goals as goal

pub stmt_after-requires-clause-kept : goal.stmt_after-requires-clause-kept
stmt_after-requires-clause-kept c =
    let before = rest_at (map stmt_image c.args.stmts.now) _ c.args.stmts.now c.loop-stmt.stmt-index c.stmt-item.result c.loop-stmt-test.true c.stmt-item.is c.loop-stmt.invariant in
    next_kept _ _ _ _ before

pub stmt_after-requires-clause-replaced : goal.stmt_after-requires-clause-replaced
stmt_after-requires-clause-replaced c =
    let before = rest_at (map stmt_image c.args.stmts.now) _ c.args.stmts.now c.loop-stmt.stmt-index c.stmt-item.result c.loop-stmt-test.true c.stmt-item.is c.loop-stmt.invariant in
    next_replaced _ _ _ _ before

pub loop-stmt-preserved : goal.loop-stmt-preserved
loop-stmt-preserved c =
    let before = rest_at (map stmt_image c.args.stmts.now) _ c.args.stmts.now c.loop-stmt.stmt-index c.stmt-item.result c.loop-stmt-test.true c.stmt-item.is c.loop-stmt.invariant in
    at_next _ _ _ _ _ before c.in_ok-stmt_after.ensures
