-- No node of a growing chain has too many rows or pairs.
use Rattle.std.proofs.{Common.{◌≡◌, ℕ, ◌+◌, ◌≤◌, true, List, length, None, ap, sym, ◌∙◌, subst, arith, nat_eq, inl, inr}, lemmas.Bool.{cases_Bool, eqb-true, false≢true}}
use Rattle.smk_base.specs.{Places.has, declared.book.need.Needed.Needed, Plans.{Expr, Leaf, Apply, Combine}}
use Rattle.smk_model.specs.{Values.Row, Plain.{leaves, whole, table_at}, Annotated.pairs, Selection.{nodes, row_limit}, NodeFaults.{asked_of, first_fault_from}, LineageLaws.selected_table, Growth.is_growing, GrowthLaws.GrowingNeverFull}
use Rattle.smk_model.proofs.{Anys.or_false, NodeFaults.either, FewPairs.{IsSmall, none_at}, Thin.growing_is_thin, Unscanned.no_pairs}

growing_small : (plan : Expr) (tables : List (List Row)) → is_growing plan ≡ true → length (table_at tables (selected_table plan)) ≤ row_limit → IsSmall tables plan
growing_small plan tables c few = record {
  rows = omega (arith, few, growing_is_thin.rows plan tables c);
  pairs = λ t. elim (cases_Bool (has (leaves plan) t)) [
    | inl p ↦ (let s = selected_table plan in
        let own : s ≡ t = sym (eqb-true t s (sym (or_false (nat_eq t s)) ∙ ap (λ (scans : List ℕ). has scans t) (sym (growing_is_thin.scans plan c)) ∙ p)) in
        let all : pairs plan (whole plan tables) t (length (table_at tables t)) ≤ length (table_at tables t) =
        subst (λ (u : ℕ). pairs plan (whole plan tables) u (length (table_at tables u)) ≤ length (table_at tables u)) own (growing_is_thin.pairs plan tables c) in
        omega (arith, all, few, ap (λ (u : ℕ). length (table_at tables u)) own))
    | inr p ↦ omega (arith, no_pairs plan (whole plan tables) t (length (table_at tables t)) p)
  ];
}

never_full : (plan : Expr) (tables : List (List Row)) (need : List Needed) (node : ℕ) → is_growing plan ≡ true → length (table_at tables (selected_table plan)) ≤ row_limit
    → first_fault_from plan (whole plan tables) (asked_of tables need) node ≡ None
never_full (Leaf table) tables need node c few = none_at tables (Leaf table) need node (growing_small (Leaf table) tables c few)
never_full (Apply op input) tables need node c few =
    either (never_full input tables need node (growing_is_thin.below op input c) few) (none_at tables (Apply op input) need (node + nodes input) (growing_small (Apply op input) tables c few))
never_full (Combine op left right) tables need node c few = absurd (false≢true c)

pub growing_never_full : GrowingNeverFull
growing_never_full plan tables need c few = never_full plan tables need 0 c few
