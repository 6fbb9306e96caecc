use Rattle.std.proofs.{Common.{◌≡◌, ◌∙◌, ◌<◌, ℕ, List, Some, All, length, nat_eq, sym, ap, subst, eqb-true, arith}, lemmas.Grind.common_steps}
use Rattle.std.specs.List.{find}
use Rattle.smk_base.specs.{declared.list.table_rids.Pick.Pick, Picks.IsAscending}
use Rattle.smk_model.specs.Selection.{PickFits, each_rows}
use Rattle.smk_compose.proofs.Lists.{found, found_passes, rids_inside, leaf_found, leaf_whole, leaf_rows}
use Rattle.smk_compose.proofs.fetch.fetch_leaf.Goals as goal

pub choose_rids-requires-clause-ascending : goal.choose_rids-requires-clause-ascending
choose_rids-requires-clause-ascending g c =
    let test = λ (pick : Pick). nat_eq pick.table c.args.table in
    let e : Some c.in-Some.pick.now ≡ find test c.args.picks.now = c.in-Some.ensures ∙ ap (find test) c.as_slice.ensures.picks in
    subst IsAscending (sym c.as_slice-in-Some.ensures) (found (λ (pick : Pick). IsAscending pick.rids) test c.args.picks.now c.in-Some.pick.now e c.as_slice.ensures.keeps.by_rid)

pub choose_rids-requires-clause-inside : goal.choose_rids-requires-clause-inside
choose_rids-requires-clause-inside g c =
    let test = λ (pick : Pick). nat_eq pick.table c.args.table in
    let e : Some c.in-Some.pick.now ≡ find test c.args.picks.now = c.in-Some.ensures ∙ ap (find test) c.as_slice.ensures.picks in
    let same : c.in-Some.pick.now.table ≡ c.args.table = eqb-true c.in-Some.pick.now.table c.args.table (found_passes test c.args.picks.now c.in-Some.pick.now e) in
    let fits = found (PickFits (each_rows c.args.tables.now)) test c.args.picks.now c.in-Some.pick.now e c.requires.picks in
    subst (λ (rids : List ℕ). All (λ rid. rid < length c.index-tables-table.result.rows) rids) (sym c.as_slice-in-Some.ensures)
    (rids_inside c.args.tables.now c.in-Some.pick.now c.args.table c.index-tables-table.result fits same c.requires.known c.index-tables-table.is)

pub returns-in-Some-clause-looks : goal.returns-in-Some-clause-looks
returns-in-Some-clause-looks g c = grind (arith, common_steps, leaf_found, leaf_whole, leaf_rows)

pub returns-in-Some-clause-leaf : goal.returns-in-Some-clause-leaf
returns-in-Some-clause-leaf g c = grind (arith, common_steps, leaf_found, leaf_whole, leaf_rows)

pub returns-in-None-clause-looks : goal.returns-in-None-clause-looks
returns-in-None-clause-looks g c = grind (arith, common_steps, leaf_found, leaf_whole, leaf_rows)
