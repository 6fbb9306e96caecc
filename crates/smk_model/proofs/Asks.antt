-- Chains of steps with one input over one list of rows.
use Rattle.std.proofs.{Common.{◌≡◌, ◌+◌, ◌≤◌, ℕ, true, List, [], ◌∷◌, ◌++◌, length, get_or, Option, Some, None, position, refl, arith, All}, lemmas.Bool.Decides.nat_tests, lemmas.List.Elements.{All-push, All-nil}, lemmas.List.Quantifiers.position-Some}
use Rattle.std.specs.Prelude.{nat_lt}
use Rattle.smk_base.specs.Plans.{Unary, Expr, Leaf, Apply}
use Rattle.smk_model.specs.{Values.Row, Plain.{eval, width}, Asks.{chain, chain_onto}, AskLaws.{ChainsAddNoRows, ChainsAreSmall}, Selection.{is_full, node_rows, nodes, row_limit}}
use Rattle.smk_model.proofs.Sizes.{adds_no_rows}

-- lists of at most n rows
abbrev AreShort : ℕ → List (List Row) → Type 0
AreShort n lists = All (λ node. length node ≤ n) lists

chain_short : (n : ℕ) (plan : Expr) (ops : List Unary) (E : List (List Row)) → AreShort n (node_rows plan E) → length (eval plan E) ≤ n → AreShort n (node_rows (chain_onto plan ops) E)
chain_short n plan [] E short last = short
chain_short n plan (op ∷ ops) E short last =
    let here : length (eval (Apply op plan) E) ≤ n = omega (arith, adds_no_rows op (eval plan E), last) in
    chain_short n (Apply op plan) ops E (All-push (λ (node : List Row). length node ≤ n) (node_rows plan E) (eval (Apply op plan) E) short here) here

pub chains_add_no_rows : ChainsAddNoRows
chains_add_no_rows ops rows =
    let whole : length rows ≤ length rows = omega arith in
    chain_short (length rows) (Leaf 0) ops (rows ∷ []) (All-push (λ (node : List Row). length node ≤ length rows) [] rows (All-nil _) whole) whole

none_full : (lists : List (List Row)) → AreShort row_limit lists → position is_full lists ≡ None
none_full lists short = by (position is_full lists) refl
  where
    by : (found : Option ℕ) → position is_full lists ≡ found → found ≡ None
    by None e = refl
    by (Some i) e =
        let here = position-Some is_full lists i [] e in
        let fits : length (get_or lists i []) ≤ row_limit = short i [] here.0 in
        let full : nat_lt row_limit (length (get_or lists i [])) ≡ true = here.1 in
        absurd (grind (arith, nat_tests))

pub chains_are_small : ChainsAreSmall
chains_are_small ops rows few =
    none_full (node_rows (chain ops) (rows ∷ [])) (λ k d low. let here = chains_add_no_rows ops rows k d low in omega (arith, here, few))

-- the leaf and the nodes of a chain
onto_width : (plan : Expr) (ops : List Unary) → width (chain_onto plan ops) ≡ width plan
onto_width plan [] = refl
onto_width plan (op ∷ ops) = onto_width (Apply op plan) ops

onto_nodes : (plan : Expr) (ops : List Unary) → nodes (chain_onto plan ops) ≡ nodes plan + length ops
onto_nodes plan [] = omega arith
onto_nodes plan (op ∷ ops) = omega (arith, onto_nodes (Apply op plan) ops)

pub chain_width : (ops : List Unary) → width (chain ops) ≡ 1
chain_width ops = onto_width (Leaf 0) ops

pub chain_nodes : (ops : List Unary) → nodes (chain ops) ≡ length ops + 1
chain_nodes ops = omega (arith, onto_nodes (Leaf 0) ops)

-- one more step at the end of a chain
onto_more : (plan : Expr) (ops : List Unary) (op : Unary) → chain_onto plan (ops ++ op ∷ []) ≡ Apply op (chain_onto plan ops)
onto_more plan [] op = refl
onto_more plan (first ∷ ops) op = onto_more (Apply first plan) ops op

pub chain_more : (ops : List Unary) (op : Unary) → chain (ops ++ op ∷ []) ≡ Apply op (chain ops)
chain_more ops op = onto_more (Leaf 0) ops op
