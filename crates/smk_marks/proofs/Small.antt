-- No node of a grouping over a chain has more rows than the chain's table.
use Rattle.std.proofs.{Common.{◌≡◌, true, List, [], ◌∷◌, ◌++◌, position, refl, ap, sym, ◌∙◌}, lemmas.Bool.false≢true}
use Rattle.smk_base.specs.Plans.{Unary, Grouping, Expr, Leaf, Apply, Combine}
use Rattle.smk_model.specs.{Values.Row, Plain.{eval, step1}, Asks.chain, Growth.is_growing, Selection.{is_full, node_rows}}
use Rattle.smk_model.proofs.{Asks.{chain_more, chains_are_small}, Thin.below}
use Rattle.smk_marks.specs.MarkLaws.{NeverFull}

-- the steps of a growing chain
abbrev steps : Expr → List Unary
steps (Apply op input) = steps input ++ op ∷ []
steps _ = []

same_rows : (plan : Expr) (rows : List Row) → is_growing plan ≡ true → eval plan (rows ∷ []) ≡ eval (chain (steps plan)) (rows ∷ [])
same_rows (Leaf table) rows c = refl
same_rows (Apply op input) rows c = ap (step1 op) (same_rows input rows (below op input c)) ∙ sym (ap (λ (p : Expr). eval p (rows ∷ [])) (chain_more (steps input) op))
same_rows (Combine op left right) rows c = absurd (false≢true c)

same_nodes : (plan : Expr) (rows : List Row) → is_growing plan ≡ true → node_rows plan (rows ∷ []) ≡ node_rows (chain (steps plan)) (rows ∷ [])
same_nodes (Leaf table) rows c = refl
same_nodes (Apply op input) rows c =
    ap (λ (z : List (List Row)). z ++ eval (Apply op input) (rows ∷ []) ∷ []) (same_nodes input rows (below op input c))
    ∙ ap (λ (z : List Row). node_rows (chain (steps input)) (rows ∷ []) ++ step1 op z ∷ []) (same_rows input rows (below op input c))
    ∙ sym (ap (λ (p : Expr). node_rows p (rows ∷ [])) (chain_more (steps input) op))
same_nodes (Combine op left right) rows c = absurd (false≢true c)

pub never_full : NeverFull
never_full keys aggs input rows c few =
    let plan = Apply (Grouping keys aggs) input in
    ap (position is_full) (same_nodes plan rows c) ∙ chains_are_small (steps plan) rows few
