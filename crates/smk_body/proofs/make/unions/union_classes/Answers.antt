use Rattle.std.proofs.Common.{◌≡◌, ◌∙◌, ◌++◌, List, ℕ, length, map, ap, arith}
use Rattle.smk_base.specs.{Places.upto, Rels.picked}
use Rattle.smk_keys.specs.Classes.{ClassesImage, classes_of}
use Rattle.smk_body.proofs.{Classing.length_firsts, Partnering.alike_all, Uniting.all_columns_of}
use Rattle.smk_body.proofs.make.unions.union_classes.Goals as goal

pub of_both-requires : goal.of_both-requires
of_both-requires c = rw (c.as_slice.ensures.value, c.as_slice-2.ensures.value, c.in_ok-columns.ensures, c.width.ensures.count) (alike_all c.args.left.now.kinds c.args.right.now.kinds (length c.args.left.now.kinds) c.requires (omega arith))

pub returns-clause-classes : goal.returns-clause-classes
returns-clause-classes c =
    let left = c.args.left.now in
    let right = c.args.right.now in
    let cols = c.in_ok-columns.ensures ∙ ap upto c.width.ensures.count in
    c.in_ok-classes.ensures
    ∙ ap (λ (z : List ℕ). classes_of (map (picked z) left.rows ++ map (picked c.as_slice-2.result.now) right.rows)) (c.as_slice.ensures.value ∙ cols)
    ∙ ap (λ (z : List ℕ). classes_of (map (picked (upto (length left.kinds))) left.rows ++ map (picked z) right.rows)) (c.as_slice-2.ensures.value ∙ cols)
    ∙ ap classes_of (all_columns_of left.kinds right.kinds left.rows right.rows c.requires c.width.ensures.keeps.fit c.len-right_rows.ensures.keeps.fit)

pub returns-then-firsts-clause-many : goal.returns-then-firsts-clause-many
returns-then-firsts-clause-many c = λ e.
    let left = c.args.left.now in
    let right = c.args.right.now in
    let cols = c.in_ok-columns.ensures ∙ ap upto c.width.ensures.count in
    let is : c.in_ok-classes.classes ≡ classes_of (left.rows ++ right.rows) = c.in_ok-classes.ensures
    ∙ ap (λ (z : List ℕ). classes_of (map (picked z) left.rows ++ map (picked c.as_slice-2.result.now) right.rows)) (c.as_slice.ensures.value ∙ cols)
    ∙ ap (λ (z : List ℕ). classes_of (map (picked (upto (length left.kinds))) left.rows ++ map (picked z) right.rows)) (c.as_slice-2.ensures.value ∙ cols)
    ∙ ap classes_of (all_columns_of left.kinds right.kinds left.rows right.rows c.requires c.width.ensures.keeps.fit c.len-right_rows.ensures.keeps.fit) in
    omega (arith, ap length (c.firsts.ensures ∙ ap (λ (m : ClassesImage). m.firsts) is), length_firsts (left.rows ++ right.rows))
