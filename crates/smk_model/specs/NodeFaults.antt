-- The first fault of a plan's nodes: too many rows, or too many pairs with a table that is needed.
use Rattle.std.specs.{Prelude.{◌≡◌, ℕ, ◌+◌, Bool, cond, nat_lt, List, [], ◌∷◌, ◌++◌, length, map, drop, Option, Some, None, option_map}, List.{find, filter}, Option.option_or}
use Rattle.smk_base.specs.{Plans.{Expr, Leaf, Apply, Combine}, declared.book.need.Needed.Needed}
use Rattle.smk_model.specs.{Values.Row, Plain.{width, eval, table_at}, Annotated.pairs, Selection.{nodes, is_full, first_full}}

-- too many rows at a node, or too many pairs there with a table, each by its number
pub data NodeFault : Type 0 where
  FullRows : ℕ → NodeFault
  FullPairs : ℕ → ℕ → NodeFault

-- the most pairs that a node may have with a table
abbrev pub pair_limit : ℕ
pair_limit = 16777216

-- a table that is needed, and the number of its rows
abbrev pub AskedTable : Type 0
AskedTable = ℕ × ℕ

-- the tables that are needed, each with the number of its rows
abbrev pub asked_of : List (List Row) → List Needed → List AskedTable
asked_of tables need = map (λ n. (n.table, length (table_at tables n.table))) need

-- whether the last node of a plan has more pairs with a table than the limit
abbrev pub is_crowded : Expr → List (List Row) → AskedTable → Bool
is_crowded plan E asked = nat_lt pair_limit (pairs plan E asked.0 asked.1)

-- the fault of the last node of a plan, which has this number: its rows, then its pairs with each table in order
abbrev pub last_node_fault : Expr → List (List Row) → List AskedTable → ℕ → Option NodeFault
last_node_fault plan E asked node = cond (is_full (eval plan E)) (Some (FullRows node)) (option_map (λ a. FullPairs node a.0) (find (is_crowded plan E) asked))

-- the first fault in post-order, the nodes being numbered from any number on
abbrev pub first_fault_from : Expr → List (List Row) → List AskedTable → ℕ → Option NodeFault
first_fault_from (Leaf table) E asked node = last_node_fault (Leaf table) E asked node
first_fault_from (Apply op input) E asked node = option_or (first_fault_from input E asked node) (last_node_fault (Apply op input) E asked (node + nodes input))
first_fault_from (Combine op left right) E asked node =
    option_or (first_fault_from left E asked node)
    (option_or (first_fault_from right (drop (width left) E) asked (node + nodes left))
    (last_node_fault (Combine op left right) E asked (node + nodes left + nodes right)))

-- the first fault of a plan's nodes in post-order, numbered from 0
abbrev pub first_fault : Expr → List (List Row) → List AskedTable → Option NodeFault
first_fault plan E asked = first_fault_from plan E asked 0

-- all faults of the last node of a plan: its rows, then its pairs with each table in order
abbrev pub faults_at : Expr → List (List Row) → List AskedTable → ℕ → List NodeFault
faults_at plan E asked node = cond (is_full (eval plan E)) (FullRows node ∷ []) [] ++ map (λ a. FullPairs node a.0) (filter (is_crowded plan E) asked)

-- all faults of a plan's nodes, node by node in post-order
abbrev pub all_faults : Expr → List (List Row) → List AskedTable → ℕ → List NodeFault
all_faults (Leaf table) E asked node = faults_at (Leaf table) E asked node
all_faults (Apply op input) E asked node = all_faults input E asked node ++ faults_at (Apply op input) E asked (node + nodes input)
all_faults (Combine op left right) E asked node =
    all_faults left E asked node ++ (all_faults right (drop (width left) E) asked (node + nodes left) ++ faults_at (Combine op left right) E asked (node + nodes left + nodes right))

-- the first member of a list
abbrev pub first_of : {X : Type 0} → List X → Option X
first_of [] = None
first_of (x ∷ xs) = Some x

-- the first fault is the first of all
abbrev pub FirstOfAll : Type 0
FirstOfAll = (plan : Expr) (E : List (List Row)) (asked : List AskedTable) → first_fault plan E asked ≡ first_of (all_faults plan E asked 0)

-- where no table is needed, it is the first node with too many rows
abbrev pub NothingAsked : Type 0
NothingAsked = (plan : Expr) (E : List (List Row)) → first_fault plan E [] ≡ option_map FullRows (first_full plan E)
