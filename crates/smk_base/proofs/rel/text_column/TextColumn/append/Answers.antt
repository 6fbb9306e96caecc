use Rattle.std.proofs.{Common.{◌≡◌, ◌++◌, map, take, get_or, arith}, lemmas.List.{length-map, take_all}}
use Rattle.smk_base.specs.TextColumns.{text_in}
use Rattle.smk_base.proofs.{Recoding.dict_short, Appended.AreCodes-join}
use Rattle.smk_base.proofs.rel.text_column.TextColumn.append.Goals as goal

pub recoded_whole-requires : goal.recoded_whole-requires
recoded_whole-requires c =
    let room = rw (← c.self.view_is, ← c.other.view_is) at c.requires in
    omega (arith, dict_short _ _ c.self.invariant, dict_short _ _ c.other.invariant, room, length-map c.self.inside.codes.items (text_in c.self.inside.dict.texts), length-map c.other.inside.codes.items (text_in c.other.inside.dict.texts))

pub invariant_of-self-in-loop-code : goal.invariant_of-self-in-loop-code
invariant_of-self-in-loop-code c =
    let few = rw (← c.self.view_is, ← c.other.view_is, length-map, length-map) at c.requires in
    let others = c.other.inside.codes.items in
    let all : take c.loop-code.code-index others ≡ others = take_all c.loop-code.code-index others (omega (arith, c.loop-code-test.false, c.deref-code-items.ensures.len)) in
    let items : c.loop-code.self-inside.codes.items ≡ c.self.inside.codes.items ++ map (λ code. get_or c.in_ok-recoded.recoded.items code 0) others = rw (c.in_ok-reserve.ensures.items, c.deref-code-items.ensures.value, all) at c.loop-code.invariant.put in
    let joined = AreCodes-join _ _ _ _ _ _ c.self.invariant c.other.invariant few c.in_ok-recoded.ensures.added in
    rw (c.loop-code.invariant.dict, items) joined.are

pub returns-clause-appended : goal.returns-clause-appended
returns-clause-appended c =
    let few = rw (← c.self.view_is, ← c.other.view_is, length-map, length-map) at c.requires in
    let others = c.other.inside.codes.items in
    let all : take c.loop-code.code-index others ≡ others = take_all c.loop-code.code-index others (omega (arith, c.loop-code-test.false, c.deref-code-items.ensures.len)) in
    let items : c.loop-code.self-inside.codes.items ≡ c.self.inside.codes.items ++ map (λ code. get_or c.in_ok-recoded.recoded.items code 0) others = rw (c.in_ok-reserve.ensures.items, c.deref-code-items.ensures.value, all) at c.loop-code.invariant.put in
    let joined = AreCodes-join _ _ _ _ _ _ c.self.invariant c.other.invariant few c.in_ok-recoded.ensures.added in
    rw (c.loop-code.invariant.dict, items, ← c.self.view_is, ← c.other.view_is) joined.texts
