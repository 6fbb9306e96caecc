use Rattle.std.proofs.Common.{◌≡◌, ◌<◌, ◌+◌, ◌∙◌, ap, sym, arith, rules, length, map, ◌++◌, ◌∷◌, []}
use Rattle.smk_base.specs.{Cells.value_of_cell, Rels.{Relation, RowFits, value_in}, Relations.{column_in, kinds_of, rows_of, relation_of}}
use Rattle.smk_base.proofs.{Pushed.{value_in-cells, long_cells, cells_fit, AreMade-alike}, Rows.{length-rows_of, AreColumns-made}, Relating.{made-copy, made-push}, rel.Rel.push_cells.Goals.After-self-1}
use Rattle.smk_base.proofs.rel.Rel.push_cells.Goals as goal

pub make_each_ready-requires-clause-long : goal.make_each_ready-requires-clause-long
make_each_ready-requires-clause-long c =
    let fits = rw (← c.self.view_is) at c.requires.fits in
    long_cells _ _ fits

pub make_each_ready-requires-clause-fits : goal.make_each_ready-requires-clause-fits
make_each_ready-requires-clause-fits c =
    let fits = rw (← c.self.view_is) at c.requires.fits in
    cells_fit _ _ fits

pub returns-in_err-make_each_ready-clause-kinds : goal.returns-in_err-make_each_ready-clause-kinds
returns-in_err-make_each_ready-clause-kinds c = ap (λ (rel : Relation). rel.kinds) (made-copy c.self.inside.count c.self.inside.columns.items _ c.in_err-make_each_ready.ensures.same ∙ c.self.view_is)

pub returns-in_err-make_each_ready-clause-kept : goal.returns-in_err-make_each_ready-clause-kept
returns-in_err-make_each_ready-clause-kept c =
    let same = made-copy c.self.inside.count c.self.inside.columns.items _ c.in_err-make_each_ready.ensures.same ∙ c.self.view_is in
    search (rules, same)

pub push_each-requires-clause-few : goal.push_each-requires-clause-few
push_each-requires-clause-few c = rw (← c.self.view_is, length-rows_of) at c.requires.room

pub push_each-requires-clause-long : goal.push_each-requires-clause-long
push_each-requires-clause-long c =
    let fits = rw (← c.self.view_is) at c.requires.fits in
    long_cells _ _ fits ∙ sym c.in_ok-make_each_ready.ensures.same.long

pub push_each-requires-clause-fits : goal.push_each-requires-clause-fits
push_each-requires-clause-fits c =
    let fits = rw (← c.self.view_is) at c.requires.fits in
    let so = c.in_ok-make_each_ready.ensures.same in
    (λ k h.
    let low : k < length c.self.inside.columns.items = omega (arith, h, so.long) in
    rw (so.kinds k low) (cells_fit c.self.inside.columns.items c.args.cells.now fits k low))

pub invariant_of-self-2 : goal.invariant_of-self-2
invariant_of-self-2 c =
    let room = rw (← c.self.view_is, length-rows_of) at c.requires.room in
    AreColumns-made _ _ _ _ _ c.push_each.ensures (omega (arith, c.in_ok-make_each_ready.ensures.same.long, c.self.invariant.few_columns)) (omega (arith, room))

before : (c : After-self-1) → relation_of c.self.inside.count c.make_each_ready.new.columns.items ≡ relation_of c.self.inside.count c.self.inside.columns.items
before c = made-copy c.self.inside.count c.self.inside.columns.items c.make_each_ready.new.columns.items c.in_ok-make_each_ready.ensures.same

made : (c : After-self-1) → relation_of (c.self.inside.count + 1) c.push_each.new.columns.items
    ≡ (let pushed : Relation = record { kinds = kinds_of c.make_each_ready.new.columns.items; rows = rows_of c.self.inside.count c.make_each_ready.new.columns.items ++ map value_of_cell c.args.cells.now ∷ [] } in pushed)
made c =
    let columns = c.make_each_ready.new.columns.items in
    let fits = rw (← c.self.view_is) at c.requires.fits in
    let same = ap (λ (rel : Relation). rel.kinds) (before c) in
    let row = map value_of_cell c.args.cells.now in
    let now : RowFits (kinds_of columns) row = rw same fits in
    let long = long_cells columns c.args.cells.now now in
    made-push c.self.inside.count columns c.push_each.new.columns.items row c.in_ok-make_each_ready.ensures.same.each now
    (AreMade-alike _ _ _ _ (λ k. (column_in columns k).cells ++ value_in row k ∷ []) _
    (λ k h. ap (λ value. (column_in columns k).cells ++ value ∷ []) (sym (value_in-cells c.args.cells.now k (omega (arith, h, long))))) c.push_each.ensures)

pub returns-clause-kinds : goal.returns-clause-kinds
returns-clause-kinds c = ap (λ (rel : Relation). rel.kinds) (made c) ∙ ap (λ (rel : Relation). rel.kinds) (before c) ∙ ap (λ (rel : Relation). rel.kinds) c.self.view_is

pub returns-clause-pushed : goal.returns-clause-pushed
returns-clause-pushed c = ap (λ (rel : Relation). rel.rows) (made c) ∙ ap (λ (rel : Relation). rel.rows ++ map value_of_cell c.args.cells.now ∷ []) (before c ∙ c.self.view_is)
