use Rattle.std.proofs.{Common.{◌≡◌, ◌∙◌, sym, ap, subst, arith}, lemmas.Grind.common_steps}
use Rattle.smk_base.specs.PlanImage.{binary_of}
use Rattle.smk_compose.specs.Through.{together_all, right_of, want_of, IsFirst}
use Rattle.smk_compose.proofs.Togethers.{two_fault_is, two_maps}
use Rattle.smk_compose.proofs.step.run_two.Goals as goal

pub returns-in_ok-at_columns-in-Ok-met-clause-kept : goal.returns-in_ok-at_columns-in-Ok-met-clause-kept
returns-in_ok-at_columns-in-Ok-met-clause-kept g c =
    let op = binary_of c.args.step.now.op in
    let L = c.args.left.rel.rows in
    let R = c.args.right.rel.rows in
    let m = g.B.OpBody.meaning c.args.work.now.crew.now c.in-Ok.pending in
    let made : c.in_ok-at_columns-in-Ok-met.field-0.kept ≡ together_all m.left (right_of m) c.args.left.kept c.args.right.kept = grind (arith, common_steps) in
    made
    ∙ two_maps op L R c.args.left.kept c.args.right.kept (record { left = c.wants.result; right = c.wants-2.result }) m (c.wants.ensures ∙ ap want_of c.as_slice.ensures) (c.wants-2.ensures ∙ ap want_of c.as_slice-2.ensures) c.in-Ok.ensures.lineage

pub returns-in_ok-at_columns-in-Ok-met-clause-none : goal.returns-in_ok-at_columns-in-Ok-met-clause-none
returns-in_ok-at_columns-in-Ok-met-clause-none g c =
    let lefts : c.deref_mut.result.now ≡ c.args.left.kept = grind (arith, common_steps) in
    let rights : c.deref_mut-in-Ok.result.now ≡ c.args.right.kept = grind (arith, common_steps) in
    sym (two_fault_is (binary_of c.args.step.now.op) c.args.left.rel.rows c.args.right.rel.rows c.args.node (c.wants.ensures ∙ ap want_of c.as_slice.ensures) (c.wants-2.ensures ∙ ap want_of c.as_slice-2.ensures) c.in-Ok.ensures.lineage lefts rights c.in-Ok.ensures.few) ∙ c.in-Ok-met.ensures.none

pub returns-in-Err-met-clause-fault : goal.returns-in-Err-met-clause-fault
returns-in-Err-met-clause-fault g c =
    let lefts : c.deref_mut.result.now ≡ c.args.left.kept = grind (arith, common_steps) in
    let rights : c.deref_mut-in-Ok.result.now ≡ c.args.right.kept = grind (arith, common_steps) in
    subst (IsFirst c.in-Err-met.fault) (two_fault_is (binary_of c.args.step.now.op) c.args.left.rel.rows c.args.right.rel.rows c.args.node (c.wants.ensures ∙ ap want_of c.as_slice.ensures) (c.wants-2.ensures ∙ ap want_of c.as_slice-2.ensures) c.in-Ok.ensures.lineage lefts rights c.in-Ok.ensures.few) c.in-Err-met.ensures.fault
