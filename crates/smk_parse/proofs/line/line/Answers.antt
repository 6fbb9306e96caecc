use Rattle.std.proofs.{Common.arith, lemmas.Result.err_from_is_err_and}
use Rattle.smk_parse.proofs.Steps.{in_order}
use Rattle.smk_parse.proofs.line.line.Goals as goal

pub returns-in_err-view-in-Back : goal.returns-in_err-view-in-Back
returns-in_err-view-in-Back c =
    let p = err_from_is_err_and c.from_residual-in_err-view-in-Back.result c.from_residual-in_err-view-in-Back.ensures.1 in
    rw (p.1, p.2) (λ m. grind (arith, in_order, c.in_err-view-in-Back.ensures m))

pub returns-in_err-then-in-Back : goal.returns-in_err-then-in-Back
returns-in_err-then-in-Back c =
    let p = err_from_is_err_and c.from_residual-in_err-then-in-Back.result c.from_residual-in_err-then-in-Back.ensures.1 in
    rw (p.1, p.2) (λ m. grind (arith, in_order, c.in_err-then-in-Back.ensures m))
