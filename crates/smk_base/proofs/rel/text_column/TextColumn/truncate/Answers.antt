use Rattle.std.proofs.{Common.arith, lemmas.List.length-map}
use Rattle.smk_base.proofs.Recoding.{AreCodes-first}
use Rattle.smk_base.proofs.rel.text_column.TextColumn.truncate.Goals as goal

pub invariant_of-self : goal.invariant_of-self
invariant_of-self c =
    let low = rw (← c.self.view_is, length-map) at c.len.ensures.count in
    let firsts = rw (← c.self.view_is) at c.used-used.ensures.firsts in
    let within = rw (← c.self.view_is) at c.used-used.ensures.within in
    let first = AreCodes-first c.self.inside.dict.texts c.self.inside.codes.items c.args.len c.used-used.result c.self.invariant (omega (arith, c.if-len.true, low)) firsts within in
    rw (c.truncate-then-len.ensures, c.truncate.ensures.items) first.are

pub returns-then-len : goal.returns-then-len
returns-then-len c =
    let low = rw (← c.self.view_is, length-map) at c.len.ensures.count in
    let firsts = rw (← c.self.view_is) at c.used-used.ensures.firsts in
    let within = rw (← c.self.view_is) at c.used-used.ensures.within in
    let first = AreCodes-first c.self.inside.dict.texts c.self.inside.codes.items c.args.len c.used-used.result c.self.invariant (omega (arith, c.if-len.true, low)) firsts within in
    rw (c.truncate-then-len.ensures, c.truncate.ensures.items, ← c.self.view_is) first.texts
