use Rattle.std.proofs.{Common.{◌≡◌, ◌∙◌, ◌<◌, ℕ, List, length, map, get_or, Option, sym, ap, subst, arith}, lemmas.Result.err_from_is_err_and}
use Rattle.smk_base.specs.{PlanImage.expr_of, Rels.Relation, declared.book.need.Needed.Needed}
use Rattle.smk_model.specs.{Values.Row, Plain.{eval, whole}, Composed.{table_at, rows_over}, Selection.{each_rows, plan_kinds, PlanFits}, NodeFaults.{NodeFault, first_fault_from, first_fault, asked_of}}
use Rattle.smk_compose.specs.{KeptMaps.held_at, Through.{IsFirst, filled, map_at, no_need}, declared.fault.RunFault.RunFault, Walk.AreDirected}
use Rattle.smk_compose.proofs.{Bridge.kept_whole, Walks.{whole_leaves, whole_long}}
use Rattle.smk_compose.proofs.run.run_leaves.Goals as goal

pub walk_all-requires-clause-enough : goal.walk_all-requires-clause-enough
walk_all-requires-clause-enough g c κs within = omega (arith, whole_long (expr_of c.args.plan.now) c.args.leaves (each_rows c.args.tables.now) c.requires.rows)

pub walk_all-requires-clause-fits : goal.walk_all-requires-clause-fits
walk_all-requires-clause-fits g c κs within = subst (PlanFits (expr_of c.args.plan.now)) (sym c.requires.kinds) c.requires.fits

pub walk_all-requires-clause-whole : goal.walk_all-requires-clause-whole
walk_all-requires-clause-whole g c κs within =
    let plan = expr_of c.args.plan.now in
    let T = each_rows c.args.tables.now in
    whole_leaves plan (each_rows c.args.leaves) T c.as_slice-need.result.now c.requires.rows

pub walk_all-requires-clause-directed : goal.walk_all-requires-clause-directed
walk_all-requires-clause-directed g c κs within = subst AreDirected (sym c.as_slice-need.ensures.needed) c.as_slice-need.ensures.keeps.directed

pub returns-in_err-walked-clause-fault : goal.returns-in_err-walked-clause-fault
returns-in_err-walked-clause-fault g c =
    let p = err_from_is_err_and c.from_residual.result c.from_residual.ensures.1 in
    let plan = expr_of c.args.plan.now in
    let T = each_rows c.args.tables.now in
    let same : first_fault_from plan (each_rows c.args.leaves) (asked_of T c.as_slice-need.result.now) 0 ≡ first_fault plan (whole plan T) (asked_of T c.args.need.now) =
    ap (λ (E : List (List Row)). first_fault_from plan E (asked_of T c.as_slice-need.result.now) 0) c.requires.rows ∙ ap (λ (n : List Needed). first_fault plan (whole plan T) (asked_of T n)) c.as_slice-need.ensures.needed in
    rw p.1 (subst (λ (e : RunFault). IsFirst e (first_fault plan (whole plan T) (asked_of T c.args.need.now))) (sym p.2)
    (subst (λ (f : Option NodeFault). IsFirst c.in_err-walked.field-0.0 f) same c.in_err-walked.ensures.fault))

pub returns-clause-rows : goal.returns-clause-rows
returns-clause-rows g c =
    let plan = expr_of c.args.plan.now in
    let T = each_rows c.args.tables.now in
    ap (λ (rel : Relation). rel.rows) c.in_ok-filled_run.ensures.rel ∙ c.in_ok-walked.ensures.rows ∙ ap (eval plan) c.requires.rows

pub returns-clause-kinds : goal.returns-clause-kinds
returns-clause-kinds g c = ap (λ (rel : Relation). rel.kinds) c.in_ok-filled_run.ensures.rel ∙ c.in_ok-walked.ensures.kinds ∙ ap (plan_kinds (expr_of c.args.plan.now)) c.requires.kinds

pub returns-clause-kept : goal.returns-clause-kept
returns-clause-kept g c =
    let plan = expr_of c.args.plan.now in
    let T = each_rows c.args.tables.now in
    let held = c.in_ok-walked.walked.kept in
    let need = c.args.need.now in
    let maps : held ≡ map (held_at plan T) need = c.in_ok-walked.ensures.kept ∙ ap (map (held_at plan T)) c.as_slice-need.ensures.needed in
    let size : length c.in_ok-walked.walked.rel.rows ≡ length (rows_over plan T) = ap (length {A = Row}) (c.in_ok-walked.ensures.rows ∙ ap (eval plan) c.requires.rows) in
    let each = subst (λ (n : List Needed). (i : ℕ) → i < length n → map_at c.in_ok-filled_run.field-0.kept i ≡ filled (get_or n i no_need).dir (length c.in_ok-walked.walked.rel.rows) (length (table_at T (get_or n i no_need).table)) (map_at held i))
    c.as_slice-need.ensures.needed c.in_ok-filled_run.ensures.each in
    kept_whole plan T need held c.in_ok-filled_run.field-0.kept (length c.in_ok-walked.walked.rel.rows) maps size c.in_ok-filled_run.ensures.long each

pub returns-clause-none : goal.returns-clause-none
returns-clause-none g c =
    let plan = expr_of c.args.plan.now in
    let T = each_rows c.args.tables.now in
    let same : first_fault_from plan (each_rows c.args.leaves) (asked_of T c.as_slice-need.result.now) 0 ≡ first_fault plan (whole plan T) (asked_of T c.args.need.now) =
    ap (λ (E : List (List Row)). first_fault_from plan E (asked_of T c.as_slice-need.result.now) 0) c.requires.rows ∙ ap (λ (n : List Needed). first_fault plan (whole plan T) (asked_of T n)) c.as_slice-need.ensures.needed in
    sym same ∙ c.in_ok-walked.ensures.none
