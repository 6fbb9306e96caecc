use Rattle.std.proofs.Common.{sym, ◌∙◌, ap, arith}
use Rattle.smk_base.specs.Dicts.{code_in}
use Rattle.smk_base.proofs.Codes.{text_same, code_in-at}
use Rattle.smk_base.proofs.rel.hashed.Hashed.seated.Goals as goal

pub returns-then-are_same : goal.returns-then-are_same
returns-then-are_same c =
    let same = (text_same c.text.result.now c.args.text.now).0 (sym c.are_same.ensures ∙ c.if-are_same.true) in
    ap (code_in c.args.self.now.texts) (sym same ∙ c.text.ensures)
    ∙ code_in-at c.args.self.now.texts c.in_ok-code.field-0.now c.len.ensures.distinct (omega (arith, c.if-code-len.true, c.len.ensures.count))
