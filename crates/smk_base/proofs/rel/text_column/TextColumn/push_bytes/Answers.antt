use Rattle.smk_base.proofs.Recoding.{text-code}
use Rattle.smk_base.proofs.rel.text_column.TextColumn.push_bytes.Goals as goal

pub returns-in-Some-clause-pushed : goal.returns-in-Some-clause-pushed
returns-in-Some-clause-pushed c =
    let same = (text-code c.self.inside.dict.texts c.args.text.now c.in-Some.code c.in-Some.ensures).1 in
    rw (← c.self.view_is) (rw (← c.self.view_is, ← c.self.invariant.firsts, same) at c.push_code.ensures.pushed)
