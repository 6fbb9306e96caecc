use Rattle.std.proofs.{Common.arith, lemmas.Result.err_from_is_err_and}
use Rattle.smk_parse.proofs.Steps.{in_order}
use Rattle.smk_parse.proofs.book.lineage_stmt.Goals as goal

pub returns-in_err-extra-in-Back : goal.returns-in_err-extra-in-Back
returns-in_err-extra-in-Back c =
    let p = err_from_is_err_and c.from_residual-in_err-extra-in-Back.result c.from_residual-in_err-extra-in-Back.ensures.1 in
    rw (p.1, p.2) (λ m. grind (arith, in_order, c.in_err-extra-in-Back.ensures m))
