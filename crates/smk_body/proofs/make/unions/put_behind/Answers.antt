use Rattle.std.proofs.{Common.{◌∙◌, ap, length}, lemmas.List.Elements.All-weaker}
use Rattle.smk_base.specs.Rels.{Relation, RowFits}
use Rattle.smk_body.proofs.{Fitting.{length-wider_kinds, wider_columns}, Uniting.{left_wider, right_wider, row_wider}}
use Rattle.smk_model.specs.Kinds.{wider_kinds}
use Rattle.smk_body.proofs.make.unions.put_behind.Goals as goal

pub with_kinds-requires-clause-low_levels : goal.with_kinds-requires-clause-low_levels
with_kinds-requires-clause-low_levels c =
    let e = c.as_slice.ensures.value ∙ c.in_ok-kinds.ensures in
    rw e (wider_columns c.args.left.kinds c.args.right.now.kinds c.len-left_rows.ensures.keeps.low_levels c.len-right_rows.ensures.keeps.low_levels)

pub with_kinds-requires-clause-long : goal.with_kinds-requires-clause-long
with_kinds-requires-clause-long c = ap length (c.as_slice.ensures.value ∙ c.in_ok-kinds.ensures) ∙ length-wider_kinds c.args.left.kinds c.args.right.now.kinds c.requires.alike

pub with_kinds-requires-clause-fits : goal.with_kinds-requires-clause-fits
with_kinds-requires-clause-fits c =
    let e = c.as_slice.ensures.value ∙ c.in_ok-kinds.ensures in
    rw e (All-weaker (RowFits c.args.left.kinds) (RowFits (wider_kinds c.args.left.kinds c.args.right.now.kinds)) (λ row fits. row_wider _ _ row (left_wider c.args.left.kinds c.args.right.now.kinds c.requires.alike) fits) c.args.left.rows c.len-left_rows.ensures.keeps.fit)

pub followed_by-requires-clause-wider : goal.followed_by-requires-clause-wider
followed_by-requires-clause-wider c =
    let e = c.as_slice.ensures.value ∙ c.in_ok-kinds.ensures in
    let kinds = ap (λ (r : Relation). r.kinds) c.in_ok-wide.ensures ∙ e in
    rw kinds (right_wider c.args.left.kinds c.args.right.now.kinds c.requires.alike)
