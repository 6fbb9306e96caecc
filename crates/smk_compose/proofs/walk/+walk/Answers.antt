use Rattle.std.proofs.{Common.{◌≡◌, ◌∙◌, ◌+◌, ◌<◌, ℕ, List, All, Option, sym, ap, subst, arith}, lemmas.Result.err_from_is_err_and}
use Rattle.smk_base.specs.{PlanImage.{binary_of, expr_of, unary_of}, Plans.{Expr, Apply, Combine}}
use Rattle.smk_model.specs.{Plain.width, Selection.{each_rows, each_kinds, nodes, PlanFits}, NodeFaults.{NodeFault, asked_of, last_node_fault, first_fault_from}}
use Rattle.smk_compose.specs.{Through.IsFirst, Walk.WholeWhereNeeded, declared.fault.RunFault.RunFault}
use Rattle.smk_compose.proofs.{Bridge.whole_left, Walks.{IsOne, IsTwo, leaf_walked, is_one, one_passes, one_walked, one_fault, is_two, two_meet, two_walked, two_fault, combine_same, fits_right, needed_right, width_right, fault_right, first_of_right}}
use Rattle.smk_compose.proofs.walk.+walk.Given as given
use Rattle.smk_compose.proofs.walk.+walk.Goals as goal

pub returns-in_ok-leaf-in-Scan-clause-made : goal.returns-in_ok-leaf-in-Scan-clause-made
returns-in_ok-leaf-in-Scan-clause-made g t c =
    leaf_walked (expr_of c.args.plan.now) c.args.cols.now c.in-Scan.table c.args.leaves.now c.take_first.new.self (each_rows c.args.traced.now.tables.now) c.args.traced.now.need.now c.args.number.now c.take_first.result c.in_ok-leaf-in-Scan.leaf
    (ap expr_of c.in-Scan.is) c.requires.directed c.requires.whole c.take_first.ensures c.in_ok-leaf-in-Scan.ensures.rel c.in_ok-leaf-in-Scan.ensures.few c.in_ok-leaf-in-Scan.ensures.kept

-- what the arm of a step with one input knows, before the step is run and behind it

one_before : (g : given.Over) (t : ℕ) (c : goal.After-step-in-One-1 g t)
    → IsOne (expr_of c.args.plan.now) (unary_of c.in-One.op) (expr_of c.deref-input.result.now) c.args.cols.now c.args.leaves.now (each_rows c.args.traced.now.tables.now) c.args.traced.now.need.now c.args.number.now c.walk.new.number c.in_ok-step-in-One.step c.in_ok-below-in-One.below
one_before g t c =
    let e : expr_of c.args.plan.now ≡ Apply (unary_of c.in-One.op) (expr_of c.deref-input.result.now) = ap expr_of c.in-One.is ∙ ap (λ (x : Expr). Apply (unary_of c.in-One.op) x) (ap expr_of (sym c.deref-input.ensures)) in
    is_one e c.requires.directed c.requires.whole c.requires.fits c.requires.within c.plan_width-width.ensures.is c.in_ok-step-in-One.ensures.op c.in_ok-step-in-One.ensures.read c.in_ok-step-in-One.ensures.after c.as_slice.ensures c.in_ok-below-in-One.ensures.made c.in_ok-below-in-One.ensures.counted

one_behind : (g : given.Over) (t : ℕ) (c : goal.After-drop-step-in-One-3 g t)
    → IsOne (expr_of c.args.plan.now) (unary_of c.in-One.op) (expr_of c.deref-input.result.now) c.args.cols.now c.args.leaves.now (each_rows c.args.traced.now.tables.now) c.args.traced.now.need.now c.args.number.now c.walk.new.number c.in_ok-step-in-One.step c.in_ok-below-in-One.below
one_behind g t c =
    let e : expr_of c.args.plan.now ≡ Apply (unary_of c.in-One.op) (expr_of c.deref-input.result.now) = ap expr_of c.in-One.is ∙ ap (λ (x : Expr). Apply (unary_of c.in-One.op) x) (ap expr_of (sym c.deref-input.ensures)) in
    is_one e c.requires.directed c.requires.whole c.requires.fits c.requires.within c.plan_width-width.ensures.is c.in_ok-step-in-One.ensures.op c.in_ok-step-in-One.ensures.read c.in_ok-step-in-One.ensures.after c.as_slice.ensures c.in_ok-below-in-One.ensures.made c.in_ok-below-in-One.ensures.counted

pub run_one-requires-clause-fits : goal.run_one-requires-clause-fits
run_one-requires-clause-fits g t c κs within = (one_before g t c).narrows.fits

pub run_one-requires-clause-passes : goal.run_one-requires-clause-passes
run_one-requires-clause-passes g t c κs within = one_passes (one_before g t c)

pub run_one-requires-clause-within : goal.run_one-requires-clause-within
run_one-requires-clause-within g t c κs within = (one_before g t c).narrows.inside

pub returns-in_ok-below-in-One-clause-made : goal.returns-in_ok-below-in-One-clause-made
returns-in_ok-below-in-One-clause-made g t c = one_walked (one_behind g t c) c.run_one.result c.run_one.ensures.rows c.run_one.ensures.kinds c.run_one.ensures.kept c.run_one.ensures.none

pub returns-in_ok-below-in-One-clause-fault : goal.returns-in_ok-below-in-One-clause-fault
returns-in_ok-below-in-One-clause-fault g t c = one_fault (one_behind g t c) c.run_one.result c.run_one.ensures.fault

pub walk-requires-in-Two-clause-whole : goal.walk-requires-in-Two-clause-whole
walk-requires-in-Two-clause-whole g t c κs within =
    let op = binary_of c.in-Two.op in
    let a = expr_of c.deref-left.result.now in
    let b = expr_of c.deref-right.result.now in
    let e : expr_of c.args.plan.now ≡ Combine op a b = ap expr_of c.in-Two.is ∙ combine_same op (ap expr_of (sym c.deref-left.ensures)) (ap expr_of (sym c.deref-right.ensures)) in
    let E = each_rows c.args.leaves.now in
    let T = each_rows c.args.traced.now.tables.now in
    λ some. whole_left op a b E T (subst (λ (p : Expr). WholeWhereNeeded p E T c.args.traced.now.need.now) e c.requires.whole some)

-- what the right input is walked with

right_input : (g : given.Over) (t : ℕ) (c : goal.After-walk-arg-in-Two-4-1 g t) → expr_of c.args.plan.now ≡ Combine (binary_of c.in-Two.op) (expr_of c.deref-left.result.now) (expr_of c.deref-right.result.now)
right_input g t c = ap expr_of c.in-Two.is ∙ combine_same (binary_of c.in-Two.op) (ap expr_of (sym c.deref-left.ensures)) (ap expr_of (sym c.deref-right.ensures))

pub walk-requires-in-Two-2-clause-fits : goal.walk-requires-in-Two-2-clause-fits
walk-requires-in-Two-2-clause-fits g t c κs within =
    fits_right _ _ _ c.args.leaves.now c.walk-in-Two.new.leaves (subst (λ (p : Expr). PlanFits p (each_kinds c.args.leaves.now)) (right_input g t c) c.requires.fits) c.in_ok-l-in-Two.ensures.rest

pub walk-requires-in-Two-2-clause-whole : goal.walk-requires-in-Two-2-clause-whole
walk-requires-in-Two-2-clause-whole g t c κs within =
    let T = each_rows c.args.traced.now.tables.now in
    let need = c.args.traced.now.need.now in
    needed_right (binary_of c.in-Two.op) (expr_of c.deref-left.result.now) (expr_of c.deref-right.result.now) c.args.leaves.now c.walk-in-Two.new.leaves T need (subst (λ (p : Expr). WholeWhereNeeded p (each_rows c.args.leaves.now) T need) (right_input g t c) c.requires.whole) c.in_ok-l-in-Two.ensures.rest

pub walk-requires-in-Two-2-clause-within : goal.walk-requires-in-Two-2-clause-within
walk-requires-in-Two-2-clause-within g t c κs within =
    let a = expr_of c.deref-left.result.now in
    let b = expr_of c.deref-right.result.now in
    let next : c.plan_width-width-in-Two.result.1 ≡ width a = omega (arith, c.plan_width-width-in-Two.ensures.next) in
    let behind = width_right a b c.args.leaves.now c.walk-in-Two.new.leaves c.plan_width-width-in-Two.result.1 c.plan_width-behind.result.0 next c.in_ok-l-in-Two.ensures.rest c.plan_width-behind.ensures.is in
    subst (λ n. All (λ i. i < n) c.as_slice-in-Two-2.result.now) behind.count (subst (λ (cols : List ℕ). All (λ i. i < c.plan_width-behind.result.0) cols) (sym c.as_slice-in-Two-2.ensures) c.in_ok-step-in-Two.ensures.right_within)

pub returns-in_err-r-in-Two-clause-fault : goal.returns-in_err-r-in-Two-clause-fault
returns-in_err-r-in-Two-clause-fault g t c =
    let op = binary_of c.in-Two.op in
    let a = expr_of c.deref-left.result.now in
    let b = expr_of c.deref-right.result.now in
    let e : expr_of c.args.plan.now ≡ Combine op a b = ap expr_of c.in-Two.is ∙ combine_same op (ap expr_of (sym c.deref-left.ensures)) (ap expr_of (sym c.deref-right.ensures)) in
    let L = c.args.leaves.now in
    let T = each_rows c.args.traced.now.tables.now in
    let need = c.args.traced.now.need.now in
    let n = c.args.number.now in
    let last = last_node_fault (Combine op a b) (each_rows L) (asked_of T need) (n + nodes a + nodes b) in
    let same = ap (λ (p : Expr). first_fault_from p (each_rows L) (asked_of T need) n) e
    ∙ fault_right op a b c.as_slice-in-Two.result.now L c.walk-in-Two.new.leaves T need n c.walk-in-Two.new.number c.in_ok-l-in-Two.l c.in_ok-l-in-Two.ensures.rest c.in_ok-l-in-Two.ensures.counted c.in_ok-l-in-Two.ensures.made in
    let p = err_from_is_err_and c.from_residual-in_err-r-in-Two.result c.from_residual-in_err-r-in-Two.ensures.1 in
    rw p.1 (subst (λ (x : RunFault). IsFirst x (first_fault_from (expr_of c.args.plan.now) (each_rows L) (asked_of T need) n)) (sym p.2)
    (subst (λ (f : Option NodeFault). IsFirst c.in_err-r-in-Two.field-0.0 f) (sym same) (first_of_right c.in_err-r-in-Two.field-0.0 (first_fault_from b (each_rows c.walk-in-Two.new.leaves) (asked_of T need) c.walk-in-Two.new.number) last c.in_err-r-in-Two.ensures.fault)))

-- what the arm of a step with two inputs knows, before the step is run and behind it

two_before : (g : given.Over) (t : ℕ) (c : goal.After-step-in-Two-1 g t)
    → IsTwo (expr_of c.args.plan.now) (binary_of c.in-Two.op) (expr_of c.deref-left.result.now) (expr_of c.deref-right.result.now) c.args.cols.now c.args.leaves.now c.walk-in-Two.new.leaves (each_rows c.args.traced.now.tables.now) c.args.traced.now.need.now c.args.number.now c.walk-in-Two.new.number c.walk-in-Two-2.new.number c.in_ok-step-in-Two.step c.in_ok-l-in-Two.l c.in_ok-r-in-Two.r
two_before g t c =
    let op = binary_of c.in-Two.op in
    let a = expr_of c.deref-left.result.now in
    let b = expr_of c.deref-right.result.now in
    let e : expr_of c.args.plan.now ≡ Combine op a b = ap expr_of c.in-Two.is ∙ combine_same op (ap expr_of (sym c.deref-left.ensures)) (ap expr_of (sym c.deref-right.ensures)) in
    let next : c.plan_width-width-in-Two.result.1 ≡ width a = omega (arith, c.plan_width-width-in-Two.ensures.next) in
    is_two e c.requires.directed c.requires.whole c.requires.fits c.requires.within c.plan_width-width-in-Two.ensures.is next c.plan_width-behind.ensures.is
    c.in_ok-step-in-Two.ensures.op c.in_ok-step-in-Two.ensures.left c.in_ok-step-in-Two.ensures.right c.in_ok-step-in-Two.ensures.after c.in_ok-l-in-Two.ensures.rest c.in_ok-l-in-Two.ensures.counted
    c.as_slice-in-Two.ensures c.in_ok-l-in-Two.ensures.made c.as_slice-in-Two-2.ensures c.in_ok-r-in-Two.ensures.made c.in_ok-r-in-Two.ensures.counted

two_behind : (g : given.Over) (t : ℕ) (c : goal.After-drop-step-in-Two-4 g t)
    → IsTwo (expr_of c.args.plan.now) (binary_of c.in-Two.op) (expr_of c.deref-left.result.now) (expr_of c.deref-right.result.now) c.args.cols.now c.args.leaves.now c.walk-in-Two.new.leaves (each_rows c.args.traced.now.tables.now) c.args.traced.now.need.now c.args.number.now c.walk-in-Two.new.number c.walk-in-Two-2.new.number c.in_ok-step-in-Two.step c.in_ok-l-in-Two.l c.in_ok-r-in-Two.r
two_behind g t c =
    let op = binary_of c.in-Two.op in
    let a = expr_of c.deref-left.result.now in
    let b = expr_of c.deref-right.result.now in
    let e : expr_of c.args.plan.now ≡ Combine op a b = ap expr_of c.in-Two.is ∙ combine_same op (ap expr_of (sym c.deref-left.ensures)) (ap expr_of (sym c.deref-right.ensures)) in
    let next : c.plan_width-width-in-Two.result.1 ≡ width a = omega (arith, c.plan_width-width-in-Two.ensures.next) in
    is_two e c.requires.directed c.requires.whole c.requires.fits c.requires.within c.plan_width-width-in-Two.ensures.is next c.plan_width-behind.ensures.is
    c.in_ok-step-in-Two.ensures.op c.in_ok-step-in-Two.ensures.left c.in_ok-step-in-Two.ensures.right c.in_ok-step-in-Two.ensures.after c.in_ok-l-in-Two.ensures.rest c.in_ok-l-in-Two.ensures.counted
    c.as_slice-in-Two.ensures c.in_ok-l-in-Two.ensures.made c.as_slice-in-Two-2.ensures c.in_ok-r-in-Two.ensures.made c.in_ok-r-in-Two.ensures.counted

pub run_two-requires-clause-fits : goal.run_two-requires-clause-fits
run_two-requires-clause-fits g t c κs within = (two_before g t c).narrows.fits

pub run_two-requires-clause-meets : goal.run_two-requires-clause-meets
run_two-requires-clause-meets g t c κs within = two_meet (two_before g t c)

pub run_two-requires-clause-within : goal.run_two-requires-clause-within
run_two-requires-clause-within g t c κs within = (two_before g t c).narrows.inside

pub returns-in_ok-r-in-Two-clause-made : goal.returns-in_ok-r-in-Two-clause-made
returns-in_ok-r-in-Two-clause-made g t c = two_walked (two_behind g t c) c.run_two.result c.run_two.ensures.rows c.run_two.ensures.kinds c.run_two.ensures.kept c.run_two.ensures.none

pub returns-in_ok-r-in-Two-clause-fault : goal.returns-in_ok-r-in-Two-clause-fault
returns-in_ok-r-in-Two-clause-fault g t c = two_fault (two_behind g t c) c.run_two.result c.run_two.ensures.fault
