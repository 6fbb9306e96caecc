use Rattle.std.proofs.{Common.{◌≡◌, ◌∙◌, List, ℕ, length, map, ap, All, IfOk, subst}, lemmas.List.Elements.All-weaker, lemmas.Slice.Zip.AllZip-long}
use Rattle.smk_base.specs.{Places.upto, Rels.{Fits, RowFits, picked}}
use Rattle.smk_keys.specs.Classes.{classes_of, ClassesImage}
use Rattle.smk_model.specs.Values.{Row}
use Rattle.smk_base.proofs.Places.{upto_below}
use Rattle.smk_model.proofs.Bulk.{bulk}
use Rattle.smk_body.proofs.find.classes.row_classes.Goals as goal

pub of_rows-requires : goal.of_rows-requires
of_rows-requires c = rw (c.as_slice.ensures.value, c.in_ok-columns.ensures, c.width.ensures.count) (upto_below (length c.args.rel.now.kinds))

pub returns : goal.returns
returns c =
    let rel = c.args.rel.now in
    let long : All (λ (row : Row). length row ≡ length rel.kinds) rel.rows = All-weaker (RowFits rel.kinds) (λ row. length row ≡ length rel.kinds) (λ row fits. AllZip-long Fits rel.kinds row fits) rel.rows c.width.ensures.keeps.fit in
    subst (λ (z : ClassesImage). IfOk c.of_rows.result (λ made. made ≡ z))
    (ap (λ (cols : List ℕ). classes_of (map (picked cols) rel.rows)) (c.as_slice.ensures.value ∙ c.in_ok-columns.ensures ∙ ap upto c.width.ensures.count)
    ∙ ap classes_of (bulk.whole (length rel.kinds) rel.rows long))
    c.of_rows.ensures
