use Rattle.std.proofs.{Common.{◌∙◌, ◌<◌, ◌++◌, ◌∷◌, [], length, take, sym, ap, arith}, lemmas.List.{take_more, take_all}}
use Rattle.smk_base.specs.Rels.{row_in}
use Rattle.smk_table.proofs.TableRows.{row_long}
use Rattle.smk_table.proofs.table.fill_row.Goals as goal

pub loop-c-preserved : goal.loop-c-preserved
loop-c-preserved c =
    let row = row_in c.args.rel.now.rows c.args.row in
    let long = row_long c.args.rel.now c.width-c-end.ensures.keeps c.args.row c.requires.place in
    let inside : c.loop-c.c < length row = omega (arith, long) in
    c.in_ok-push.ensures.pushed
    ∙ ap (λ l. l ++ c.in_ok-to_value.field-0 ∷ []) c.loop-c.invariant
    ∙ ap (λ v. take c.loop-c.c row ++ v ∷ []) (c.in_ok-to_value.ensures ∙ c.cell.ensures.value)
    ∙ sym (take_more row c.loop-c.c _ inside)

pub returns : goal.returns
returns c =
    let row = row_in c.args.rel.now.rows c.args.row in
    let long = row_long c.args.rel.now c.width-c-end.ensures.keeps c.args.row c.requires.place in
    c.loop-c.invariant ∙ take_all c.loop-c.c row (omega (arith, long))
