use Rattle.std.proofs.{Common.{◌≡◌, ◌∙◌, ℕ, List, length, map, sym, ap, subst, arith, All}, lemmas.List.{length-append, length-map}}
use Rattle.smk_base.specs.{Places.upto, Plans.Grouping, Rels.{RowFits, kind_in}, declared.book.plan.Agg.Agg, declared.value.Kind.Kind}
use Rattle.smk_model.specs.{Plain.step1, Kinds.kind_of_agg}
use Rattle.smk_base.proofs.Places.{length_upto}
use Rattle.smk_body.proofs.Besides.{related}
use Rattle.smk_chain.specs.Runs.{joint_groups}
use Rattle.smk_chain.proofs.Columns.{over_group, over_long}
use Rattle.smk_chain.proofs.groups.regrouped.Goals as goal

pub of_rows-requires : goal.of_rows-requires
of_rows-requires c =
    rw (c.as_slice-columns.ensures.value ∙ c.in_ok-columns.ensures)
    ((over_group c.args.both.now.kinds c.args.keys c.args.aggs.now c.requires.some c.requires.columns c.len-rows.ensures.keeps.few_columns c.requires.each).keyed)

pub aggs_over_parts-requires : goal.aggs_over_parts-requires
aggs_over_parts-requires c = omega (arith, c.requires.columns, c.len-rows.ensures.keeps.few_columns)

pub group_rows-requires-clause-fits : goal.group_rows-requires-clause-fits
group_rows-requires-clause-fits c =
    rw (c.as_slice-columns.ensures.value ∙ c.in_ok-columns.ensures, c.as_slice-over.ensures ∙ c.in_ok-over.ensures)
    (over_group c.args.both.now.kinds c.args.keys c.args.aggs.now c.requires.some c.requires.columns c.len-rows.ensures.keeps.few_columns c.requires.each)

pub with_kinds-requires-clause-low_levels : goal.with_kinds-requires-clause-low_levels
with_kinds-requires-clause-low_levels c = rw (c.as_slice-kinds.ensures.value ∙ c.in_ok-kinds.ensures) c.len-rows.ensures.keeps.low_levels

pub with_kinds-requires-clause-long : goal.with_kinds-requires-clause-long
with_kinds-requires-clause-long c =
    let ks = c.args.both.now.kinds in
    let columns = c.as_slice-columns.result.now in
    let over = c.as_slice-over.result.now in
    omega (arith, ap length (c.as_slice-kinds.ensures.value ∙ c.in_ok-kinds.ensures), ap length c.in_ok-groups.ensures.kinds, length-append (map (kind_in ks) columns) (map (kind_of_agg ks) over), length-map columns (kind_in ks), length-map over (kind_of_agg ks), ap length (c.as_slice-columns.ensures.value ∙ c.in_ok-columns.ensures), length_upto c.args.keys, ap length (c.as_slice-over.ensures ∙ c.in_ok-over.ensures), over_long c.args.keys c.args.aggs.now, c.requires.columns)

pub with_kinds-requires-clause-fits : goal.with_kinds-requires-clause-fits
with_kinds-requires-clause-fits c =
    let both = c.args.both.now in
    let rows : c.in_ok-groups.groups.rows ≡ joint_groups c.args.keys c.args.aggs.now both.rows =
    c.in_ok-groups.ensures.rows ∙ ap (λ (z : List ℕ). step1 (Grouping z c.as_slice-over.result.now) both.rows) (c.as_slice-columns.ensures.value ∙ c.in_ok-columns.ensures)
    ∙ ap (λ (z : List Agg). step1 (Grouping (upto c.args.keys) z) both.rows) (c.as_slice-over.ensures ∙ c.in_ok-over.ensures) in
    rw rows (subst (λ (z : List Kind). All (RowFits z) (joint_groups c.args.keys c.args.aggs.now both.rows)) (sym (c.as_slice-kinds.ensures.value ∙ c.in_ok-kinds.ensures)) c.requires.fits)

pub returns-clause-rows : goal.returns-clause-rows
returns-clause-rows c =
    let both = c.args.both.now in
    c.in_ok-rel.ensures
    ∙ related (c.as_slice-kinds.ensures.value ∙ c.in_ok-kinds.ensures)
    (c.in_ok-groups.ensures.rows ∙ ap (λ (z : List ℕ). step1 (Grouping z c.as_slice-over.result.now) both.rows) (c.as_slice-columns.ensures.value ∙ c.in_ok-columns.ensures)
    ∙ ap (λ (z : List Agg). step1 (Grouping (upto c.args.keys) z) both.rows) (c.as_slice-over.ensures ∙ c.in_ok-over.ensures))
