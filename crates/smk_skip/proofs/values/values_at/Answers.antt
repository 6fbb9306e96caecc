use Rattle.std.proofs.{Common.{◌≡◌, ◌∙◌, ◌<◌, ◌++◌, ◌∷◌, [], List, cond, take, length, sym, ap, arith, get_or, false}, lemmas.List.map_more, lemmas.Grind.common_steps}
use Rattle.std.specs.List.{list_any}
use Rattle.smk_base.specs.{declared.value.Value.Value, Values.value_eq}
use Rattle.smk_model.specs.{Values.value_at, Lineage.row_at}
use Rattle.smk_skip.specs.Parts.{values_in}
use Rattle.smk_skip.proofs.Valued.{value_new}
use Rattle.smk_skip.proofs.values.values_at.Goals as goal

pub loop-rid-preserved : goal.loop-rid-preserved
loop-rid-preserved c =
    let rows = c.args.rel.now.rows in
    let rids = c.args.rids.now in
    let i = c.loop-rid.rid-index in
    let x = c.in_ok-value.value in
    let low : i < length rids = omega arith in
    let is : x ≡ value_at (row_at rows (get_or rids i 0)) c.args.col = c.in_ok-value.ensures ∙ c.cell.ensures.value in
    let new : list_any (value_eq x) (values_in rows c.args.col (take i rids)) ≡ false = value_new rows c.args.col rids i x c.requires.apart low is in
    let old : list_any (value_eq x) c.loop-rid.values.keys ≡ false = ap (list_any (value_eq x)) c.loop-rid.invariant ∙ new in
    c.in_ok-insert_full.ensures.keys
    ∙ ap (λ b. cond b c.loop-rid.values.keys (c.loop-rid.values.keys ++ x ∷ [])) old
    ∙ ap (λ (z : List Value). z ++ x ∷ []) c.loop-rid.invariant
    ∙ ap (λ (v : Value). values_in rows c.args.col (take i rids) ++ v ∷ []) is
    ∙ sym (map_more (λ rid. value_at (row_at rows rid) c.args.col) rids i 0 low)

pub returns : goal.returns
returns c = grind (arith, common_steps)
