use Rattle.std.proofs.{Common.{◌≡◌, ◌∙◌, map, sym, ap, subst, arith}, lemmas.Grind.common_steps}
use Rattle.smk_base.specs.PlanImage.{unary_of}
use Rattle.smk_compose.specs.Through.{through, IsFirst, want_of}
use Rattle.smk_compose.proofs.Wants.{one_fault_is, one_maps}
use Rattle.smk_compose.proofs.step.run_one.Goals as goal

pub returns-in_ok-at_columns-in-Ok-finish_one-clause-kept : goal.returns-in_ok-at_columns-in-Ok-finish_one-clause-kept
returns-in_ok-at_columns-in-Ok-finish_one-clause-kept g c =
    let op = unary_of c.args.step.now.op in
    let L = c.args.below.rel.rows in
    let m = g.B.OpBody.meaning c.args.work.now.crew.now c.in-Ok.pending in
    let made : c.in_ok-at_columns-in-Ok-finish_one.field-0.kept ≡ map (through m.left) c.args.below.kept = grind (arith, common_steps) in
    made ∙ one_maps op L c.args.below.kept c.wants-want.result m (c.wants-want.ensures ∙ ap want_of c.as_slice.ensures) c.in-Ok.ensures.lineage

pub returns-in_ok-at_columns-in-Ok-finish_one-clause-none : goal.returns-in_ok-at_columns-in-Ok-finish_one-clause-none
returns-in_ok-at_columns-in-Ok-finish_one-clause-none g c =
    let items : c.deref_mut.result.now ≡ c.args.below.kept = grind (arith, common_steps) in
    sym (one_fault_is (unary_of c.args.step.now.op) c.args.below.rel.rows c.args.node (c.wants-want.ensures ∙ ap want_of c.as_slice.ensures) c.in-Ok.ensures.lineage items c.len-rows.ensures.keeps.few_rows) ∙ c.in-Ok-finish_one.ensures.none

pub returns-in-Err-finish_one-clause-fault : goal.returns-in-Err-finish_one-clause-fault
returns-in-Err-finish_one-clause-fault g c =
    let items : c.deref_mut.result.now ≡ c.args.below.kept = grind (arith, common_steps) in
    subst (IsFirst c.in-Err-finish_one.fault) (one_fault_is (unary_of c.args.step.now.op) c.args.below.rel.rows c.args.node (c.wants-want.ensures ∙ ap want_of c.as_slice.ensures) c.in-Ok.ensures.lineage items c.len-rows.ensures.keeps.few_rows) c.in-Err-finish_one.ensures.fault
