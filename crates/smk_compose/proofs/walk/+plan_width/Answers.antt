use Rattle.std.proofs.{Common.{◌≡◌, ◌∙◌, List, drop, sym, ap, subst}, lemmas.List.drop-drop}
use Rattle.smk_base.specs.{PlanImage.{binary_of, expr_of, unary_of}, Plans.{Expr, Apply, Combine}, declared.value.Kind.Kind}
use Rattle.smk_model.specs.{Values.Row, Plain.width, Selection.{each_kinds, each_rows}}
use Rattle.smk_compose.specs.Walk.{IsWidth}
use Rattle.smk_compose.proofs.{Walks.combine_same, Wide.{one_width, two_width}}
use Rattle.smk_compose.proofs.walk.+plan_width.Goals as goal

pub returns-in-Scan-clause-is : goal.returns-in-Scan-clause-is
returns-in-Scan-clause-is t c =
    subst (λ (p : Expr). IsWidth p (drop c.args.k (each_kinds c.args.leaves.now)) (drop c.args.k (each_rows c.args.leaves.now)) c.width_at.result) (sym (ap expr_of c.in-Scan.is)) (c.width_at.ensures.is c.in-Scan.field-0)

pub returns-in-One-clause-is : goal.returns-in-One-clause-is
returns-in-One-clause-is t c =
    let op = unary_of c.in-One.op in
    let e : expr_of c.args.plan.now ≡ Apply op (expr_of c.deref.result.now) = ap expr_of c.in-One.is ∙ ap (λ (x : Expr). Apply op x) (ap expr_of (sym c.deref.ensures)) in
    rw c.width_one.ensures (one_width e c.requires.fits c.plan_width-below.ensures.is)

pub returns-in-Two-clause-is : goal.returns-in-Two-clause-is
returns-in-Two-clause-is t c =
    let op = binary_of c.in-Two.op in
    let a = expr_of c.deref-in-Two.result.now in
    let b = expr_of c.deref-in-Two-2.result.now in
    let k = c.args.k in
    let K = each_kinds c.args.leaves.now in
    let E = each_rows c.args.leaves.now in
    let v = c.plan_width-r.result.0 in
    let e : expr_of c.args.plan.now ≡ Combine op a b = ap expr_of c.in-Two.is ∙ combine_same op (ap expr_of (sym c.deref-in-Two.ensures)) (ap expr_of (sym c.deref-in-Two-2.ensures)) in
    let kinds : drop (width a) (drop k K) ≡ drop c.plan_width-l.result.1 K = drop-drop (width a) k K ∙ ap (λ n. drop n K) (sym c.plan_width-l.ensures.next) in
    let rows : drop (width a) (drop k E) ≡ drop c.plan_width-l.result.1 E = drop-drop (width a) k E ∙ ap (λ n. drop n E) (sym c.plan_width-l.ensures.next) in
    let right : IsWidth b (drop (width a) (drop k K)) (drop (width a) (drop k E)) v =
    subst (λ (F : List (List Row)). IsWidth b (drop (width a) (drop k K)) F v) (sym rows) (subst (λ (J : List (List Kind)). IsWidth b J (drop c.plan_width-l.result.1 E) v) (sym kinds) c.plan_width-r.ensures.is) in
    rw c.width_two.ensures (two_width e c.requires.fits c.plan_width-l.ensures.is right)
