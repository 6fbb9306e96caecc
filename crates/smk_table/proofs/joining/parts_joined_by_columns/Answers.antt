use Rattle.std.proofs.{Common.{◌≡◌, ◌∙◌, ◌<◌, [], IfOk, length, get_or, ap, sym, subst, arith}, lemmas.List.length_push, lemmas.Iterator.Consumers.{YieldsList-turn, YieldsList-end}, lemmas.Iterator.Adapters.YieldsList-from_vec}
use Rattle.smk_base.specs.Rels.{Relation}
use Rattle.smk_table.specs.Joined.{end_to_end}
use Rattle.smk_table.proofs.Parts.{AreParts-columns, columns_end_to_end, column_is, columns_beside, beside_fits, all_columns}
use Rattle.smk_table.proofs.joining.parts_joined_by_columns.Goals as goal

pub parts_joined-requires : goal.parts_joined-requires
parts_joined-requires g c = rw c.in_ok-none.ensures.none (AreParts-columns [] c.args.parts.items c.requires.parts)

pub loop-column-init : goal.loop-column-init
loop-column-init g c = c.in_ok-whole.ensures ∙ ap end_to_end c.in_ok-none.ensures.none ∙ columns_end_to_end [] c.args.parts.items c.requires.parts.some

pub beside-requires-clause-long : goal.beside-requires-clause-long
beside-requires-clause-long g c =
    let parts = c.args.parts.items in
    let n = length c.loop-column.yielded in
    let joined = c.in_ok-column-items.column-items in
    let given_items = c.into_iter-column-iterator.ensures.into_iter_gives in
    let turn = YieldsList-turn (YieldsList-from_vec {s = c.into_iter-column-iterator.result} joined.items given_items.0 (omega (arith, given_items.1, joined.ok))) c.loop-column.yielded c.loop-column.column-iterator c.loop-column.yielded_by c.next.result c.next.new.self c.in-Some.column c.in-Some.is c.next.ensures.steps in
    let low : n < length c.in_ok-none.columns.items = omega (arith, turn.0, c.in_ok-column-items.ensures.all) in
    let items = get_or c.in_ok-none.columns.items n c.in_ok-none.none in
    let made = subst (λ r. IfOk r (λ (made : Relation). made ≡ end_to_end items.items)) (sym turn.1) (c.in_ok-column-items.ensures.each n c.in-Some.column c.in_ok-none.none low) in
    let column = column_is parts n items.items c.in-Some.column c.in_ok-column.field-0 c.requires.parts made (c.in_ok-none.ensures.each n c.in_ok-none.none (omega (arith, low, c.in_ok-none.ensures.count))) c.in_ok-column.was in
    (beside_fits n (end_to_end parts) _ c.in_ok-column.field-0 (c.whole-in-loop-column.view_is ∙ c.loop-column.invariant) column).0

pub beside-requires-clause-few : goal.beside-requires-clause-few
beside-requires-clause-few g c =
    let parts = c.args.parts.items in
    let n = length c.loop-column.yielded in
    let joined = c.in_ok-column-items.column-items in
    let given_items = c.into_iter-column-iterator.ensures.into_iter_gives in
    let turn = YieldsList-turn (YieldsList-from_vec {s = c.into_iter-column-iterator.result} joined.items given_items.0 (omega (arith, given_items.1, joined.ok))) c.loop-column.yielded c.loop-column.column-iterator c.loop-column.yielded_by c.next.result c.next.new.self c.in-Some.column c.in-Some.is c.next.ensures.steps in
    let low : n < length c.in_ok-none.columns.items = omega (arith, turn.0, c.in_ok-column-items.ensures.all) in
    let items = get_or c.in_ok-none.columns.items n c.in_ok-none.none in
    let made = subst (λ r. IfOk r (λ (made : Relation). made ≡ end_to_end items.items)) (sym turn.1) (c.in_ok-column-items.ensures.each n c.in-Some.column c.in_ok-none.none low) in
    let column = column_is parts n items.items c.in-Some.column c.in_ok-column.field-0 c.requires.parts made (c.in_ok-none.ensures.each n c.in_ok-none.none (omega (arith, low, c.in_ok-none.ensures.count))) c.in_ok-column.was in
    omega (arith, (beside_fits n (end_to_end parts) _ c.in_ok-column.field-0 (c.whole-in-loop-column.view_is ∙ c.loop-column.invariant) column).1, low, c.in_ok-none.ensures.count, (c.requires.relations 0 (record { kinds = []; rows = [] }) c.requires.parts.some).few_columns)

pub loop-column-preserved : goal.loop-column-preserved
loop-column-preserved g c =
    let parts = c.args.parts.items in
    let n = length c.loop-column.yielded in
    let joined = c.in_ok-column-items.column-items in
    let given_items = c.into_iter-column-iterator.ensures.into_iter_gives in
    let turn = YieldsList-turn (YieldsList-from_vec {s = c.into_iter-column-iterator.result} joined.items given_items.0 (omega (arith, given_items.1, joined.ok))) c.loop-column.yielded c.loop-column.column-iterator c.loop-column.yielded_by c.next.result c.next.new.self c.in-Some.column c.in-Some.is c.next.ensures.steps in
    let low : n < length c.in_ok-none.columns.items = omega (arith, turn.0, c.in_ok-column-items.ensures.all) in
    let items = get_or c.in_ok-none.columns.items n c.in_ok-none.none in
    let made = subst (λ r. IfOk r (λ (made : Relation). made ≡ end_to_end items.items)) (sym turn.1) (c.in_ok-column-items.ensures.each n c.in-Some.column c.in_ok-none.none low) in
    let column = column_is parts n items.items c.in-Some.column c.in_ok-column.field-0 c.requires.parts made (c.in_ok-none.ensures.each n c.in_ok-none.none (omega (arith, low, c.in_ok-none.ensures.count))) c.in_ok-column.was in
    rw (length_push c.loop-column.yielded c.in-Some.column) (c.in_ok-whole-2.ensures ∙ columns_beside n (end_to_end parts) _ c.in_ok-column.field-0 (c.whole-in-loop-column.view_is ∙ c.loop-column.invariant) column)

pub returns : goal.returns
returns g c =
    let parts = c.args.parts.items in
    let joined = c.in_ok-column-items.column-items in
    let given_items = c.into_iter-column-iterator.ensures.into_iter_gives in
    let end = YieldsList-end (YieldsList-from_vec {s = c.into_iter-column-iterator.result} joined.items given_items.0 (omega (arith, given_items.1, joined.ok))) c.loop-column.yielded c.loop-column.column-iterator c.loop-column.yielded_by c.next.result c.next.new.self c.in-None.is c.next.ensures.steps in
    c.loop-column.invariant ∙ all_columns (length c.loop-column.yielded) parts c.requires.relations c.requires.parts (end.1 ∙ c.in_ok-column-items.ensures.all ∙ c.in_ok-none.ensures.count)
