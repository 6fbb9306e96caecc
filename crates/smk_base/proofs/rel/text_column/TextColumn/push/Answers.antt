use Rattle.std.proofs.{Common.arith, lemmas.List.length-map}
use Rattle.smk_base.proofs.Recoding.{dict_short, AreCodes-add, texts_at_add}
use Rattle.smk_base.proofs.rel.text_column.TextColumn.push.Goals as goal

pub add-requires : goal.add-requires
add-requires c =
    let room = rw (← c.self.view_is, length-map) at c.requires in
    omega (arith, dict_short _ _ c.self.invariant, room)

pub invariant_of-self-2 : goal.invariant_of-self-2
invariant_of-self-2 c =
    let room = rw (← c.self.view_is, length-map) at c.requires in
    rw (c.in_ok-code.ensures.texts, c.push_reserved.ensures.items, c.reserve.ensures.items, c.in_ok-code.ensures.code) (AreCodes-add _ _ c.args.text c.self.invariant room)

pub returns-clause-pushed : goal.returns-clause-pushed
returns-clause-pushed c = rw (c.in_ok-code.ensures.texts, c.push_reserved.ensures.items, c.reserve.ensures.items, c.in_ok-code.ensures.code, ← c.self.view_is) (texts_at_add _ _ c.args.text c.self.invariant.within)
