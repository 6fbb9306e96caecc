use Rattle.std.proofs.{Common.{◌∙◌, ◌<◌, ℕ, All, ap, arith, length, map, subst, sym}, lemmas.List.length-map}
use Rattle.smk_base.specs.Rels.{Relation, kind_in, picked}
use Rattle.smk_model.specs.Lineage.{sub}
use Rattle.smk_base.proofs.Places.{length_upto}
use Rattle.smk_body.proofs.Besides.{related}
use Rattle.smk_marks.proofs.Marked.{keys_at_marks, upto_within}
use Rattle.smk_marks.proofs.columns.keys_at.Goals as goal

pub pick_columns-requires-clause-within : goal.pick_columns-requires-clause-within
pick_columns-requires-clause-within c = rw (c.as_slice.ensures.value ∙ c.in_ok-columns.ensures) (upto_within c.args.width (length c.args.content.now.kinds) c.requires.keyed)

pub pick_columns-requires-clause-few : goal.pick_columns-requires-clause-few
pick_columns-requires-clause-few c = omega (arith, ap length (c.as_slice.ensures.value ∙ c.in_ok-columns.ensures), length_upto c.args.width, c.requires.keyed, c.len-rows.ensures.keeps.few_columns)

pub gather-requires-clause-within : goal.gather-requires-clause-within
gather-requires-clause-within c =
    subst (λ (n : ℕ). All (λ m. m < n) c.args.marks.now)
    (sym (ap (λ (r : Relation). length r.rows) c.in_ok-keys.ensures ∙ length-map c.args.content.now.rows (picked c.as_slice.result.now))) c.requires.within

pub returns : goal.returns
returns c =
    let content = c.args.content.now in
    let columns = c.as_slice.ensures.value ∙ c.in_ok-columns.ensures in
    c.in_ok-made.ensures
    ∙ related
    (ap (λ (r : Relation). r.kinds) c.in_ok-keys.ensures ∙ ap (map (kind_in content.kinds)) columns)
    (ap (λ (r : Relation). sub r.rows c.args.marks.now) c.in_ok-keys.ensures ∙ ap (λ A. sub (map (picked A) content.rows) c.args.marks.now) columns
    ∙ keys_at_marks content.kinds content.rows c.args.width c.args.marks.now c.len-rows.ensures.keeps.fit c.requires.keyed c.requires.within)
