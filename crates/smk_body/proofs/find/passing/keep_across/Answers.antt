use Rattle.std.proofs.{Common.{◌≡◌, ◌∙◌, [], length, sym}, lemmas.List.Elements.filter_agree, lemmas.Result.IfOk-equal, lemmas.Slice.Zip.AllZip-long}
use Rattle.smk_base.specs.{Cells.value_of_cell, Rels.Fits}
use Rattle.smk_model.specs.Lineage.{row_at}
use Rattle.smk_body.proofs.Comparing.{across, turned_across, turned_says}
use Rattle.smk_body.proofs.find.passing.keep_across.Goals as goal

pub returns-then-width-d : goal.returns-then-width-d
returns-then-width-d c =
    let left = c.args.left.now in
    let l = row_at left.rows c.args.i in
    let rows = c.args.rel.now.rows in
    let w = c.width-width.result in
    let long : length l ≡ w = AllZip-long Fits left.kinds l (c.width-width.ensures.keeps.fit c.args.i [] c.requires.row) ∙ sym c.width-width.ensures.count in
    let says = turned_says c.args.op c.turned.result c.turned.ensures.less c.turned.ensures.equal c.turned.ensures.greater in
    IfOk-equal c.keep_standing.result _ _ _ c.keep_standing.ensures
    (filter_agree _ _ (λ j. sym (turned_across l (row_at rows j) w c.args.c c.args.d c.args.op (value_of_cell c.cell.result) long c.turned.result says c.if-c-width.true c.if-width-d.true c.cell.ensures.value)) c.args.places.now.items)

pub returns-then-width-c : goal.returns-then-width-c
returns-then-width-c c =
    let left = c.args.left.now in
    let l = row_at left.rows c.args.i in
    let rows = c.args.rel.now.rows in
    let w = c.width-width.result in
    let long : length l ≡ w = AllZip-long Fits left.kinds l (c.width-width.ensures.keeps.fit c.args.i [] c.requires.row) ∙ sym c.width-width.ensures.count in
    IfOk-equal c.keep_standing-then-width-c.result _ _ _ c.keep_standing-then-width-c.ensures
    (filter_agree _ _ (λ j. sym (across l (row_at rows j) w c.args.c c.args.d c.args.op (value_of_cell c.cell-then-width-c.result) long c.if-d-width.true c.if-width-c.true c.cell-then-width-c.ensures.value)) c.args.places.now.items)
