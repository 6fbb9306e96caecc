use Rattle.std.proofs.Common.{◌≡◌, ◌∙◌, ◌∷◌, [], ap, map, nat_eq, subst, sym, IfOk}
use Rattle.smk_base.specs.Rels.{Relation, picked}
use Rattle.smk_keys.specs.Classes.{ClassesImage, classes_of, classing_of}
use Rattle.smk_keys.proofs.Placed.{classes-numbers_alone}
use Rattle.smk_base.proofs.Places.{map_map}
use Rattle.smk_marks.specs.Marks.{mark_row}
use Rattle.smk_marks.proofs.columns.mark_classes.Goals as goal

pub returns : goal.returns
returns c =
    let marks = c.args.marks.now in
    let same : classes_of (map (picked (0 ∷ [])) c.in_ok-column.column.rows) ≡ classing_of nat_eq marks =
    ap (λ (r : Relation). classes_of (map (picked (0 ∷ [])) r.rows)) c.in_ok-column.ensures ∙ ap classes_of (map_map (picked (0 ∷ [])) mark_row marks) ∙ sym (classes-numbers_alone marks) in
    subst (λ (z : ClassesImage). IfOk c.of_rows.result (λ made. made ≡ z)) same c.of_rows.ensures
