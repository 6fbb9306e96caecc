use Rattle.std.proofs.{Common.{◌≡◌, ◌∙◌, ◌+◌, ◌++◌, [], map, take, ap, sym, get_or}, lemmas.List.map_more}
use Rattle.smk_base.specs.{declared.book.plan.Item.TheVariants.Col, Rels.{Relation, beside_rows}}
use Rattle.smk_model.specs.{Values.Row, Plain.{image, item_at}, Kinds.kind_of_item}
use Rattle.smk_body.proofs.Besides.{column_more, related}
use Rattle.smk_body.proofs.make.project.images.Goals as goal

pub loop-item-preserved : goal.loop-item-preserved
loop-item-preserved c =
    let rel = c.args.rel.now in
    let items = c.args.items.now in
    let k = c.loop-item.item-index in
    let item = get_or items k (Col 0) in
    let kinds : c.loop-item.made.kinds ++ c.in_ok-column.column.kinds ≡ map (kind_of_item rel.kinds) (take (k + 1) items) =
    ap (λ (r : Relation). r.kinds ++ c.in_ok-column.column.kinds) c.loop-item.invariant
    ∙ ap (λ (r : Relation). map (kind_of_item rel.kinds) (take k items) ++ r.kinds) c.in_ok-column.ensures
    ∙ sym (map_more (kind_of_item rel.kinds) items k (Col 0) c.loop-item-test.true) in
    let rows : beside_rows c.loop-item.made.rows c.in_ok-column.column.rows ≡ map (image (take (k + 1) items)) rel.rows =
    ap (λ (r : Relation). beside_rows r.rows c.in_ok-column.column.rows) c.loop-item.invariant
    ∙ ap (λ (r : Relation). beside_rows (map (image (take k items)) rel.rows) r.rows) c.in_ok-column.ensures
    ∙ column_more (λ (row : Row). []) item_at items k (Col 0) rel.rows c.loop-item-test.true in
    c.in_ok-made-2.ensures ∙ related kinds rows
