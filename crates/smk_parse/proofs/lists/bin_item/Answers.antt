use Rattle.std.proofs.{Common.arith, lemmas.Result.err_from_is_err_and}
use Rattle.smk_parse.{proofs.Steps.in_order}
use Rattle.smk_parse.proofs.lists.bin_item.Goals as goal

pub returns-in_err-expect : goal.returns-in_err-expect
returns-in_err-expect c = grind (arith, in_order)

pub returns-in_err-col : goal.returns-in_err-col
returns-in_err-col c = grind (arith, in_order)

pub returns-in_err-expect-2 : goal.returns-in_err-expect-2
returns-in_err-expect-2 c = grind (arith, in_order)

pub returns-in_err-width : goal.returns-in_err-width
returns-in_err-width c = grind (arith, in_order)

pub returns-in_err-expect-3 : goal.returns-in_err-expect-3
returns-in_err-expect-3 c =
    let p = err_from_is_err_and c.from_residual-in_err-expect-3.result c.from_residual-in_err-expect-3.ensures.1 in
    rw (p.1, p.2) (λ m. grind (arith, in_order, c.in_err-expect-3.ensures m))

pub returns-in_err-expect-4 : goal.returns-in_err-expect-4
returns-in_err-expect-4 c =
    let p = err_from_is_err_and c.from_residual-in_err-expect-4.result c.from_residual-in_err-expect-4.ensures.1 in
    rw (p.1, p.2) (λ m. grind (arith, in_order, c.in_err-expect-4.ensures m))

pub returns-in_err-name : goal.returns-in_err-name
returns-in_err-name c =
    let p = err_from_is_err_and c.from_residual-in_err-name.result c.from_residual-in_err-name.ensures.1 in
    rw (p.1, p.2) (λ m. grind (arith, in_order, c.in_err-name.ensures m))
