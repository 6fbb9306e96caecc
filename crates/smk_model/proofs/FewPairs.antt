-- Plans that have few rows and pairs, and so no fault.
use Rattle.std.proofs.{Common.{◌≡◌, ◌≤◌, ℕ, List, [], ◌∷◌, length, None, refl}, lemmas.Bool.le-ltb}
use Rattle.std.specs.List.{find}
use Rattle.smk_base.specs.{declared.book.need.Needed.Needed, Plans.Expr}
use Rattle.smk_model.specs.{Values.Row, Plain.whole, Annotated.pairs, Composed.{table_at, rows_over}, Selection.row_limit, NodeFaults.{pair_limit, asked_of, is_crowded, last_node_fault}}

-- plans that have few rows and pairs

pub record IsSmall (tables : List (List Row)) (plan : Expr) : Type 0 where
  pub rows : length (rows_over plan tables) ≤ row_limit
  pub pairs : (t : ℕ) → pairs plan (whole plan tables) t (length (table_at tables t)) ≤ pair_limit

-- such a plan's last node has no fault

unfound : (tables : List (List Row)) (plan : Expr) → IsSmall tables plan → (need : List Needed) → find (is_crowded plan (whole plan tables)) (asked_of tables need) ≡ None
unfound tables plan small [] = refl
unfound tables plan small (n ∷ need) =
    rw (le-ltb pair_limit (pairs plan (whole plan tables) n.table (length (table_at tables n.table))) (small.pairs n.table)) (unfound tables plan small need)

pub none_at : (tables : List (List Row)) (plan : Expr) (need : List Needed) (node : ℕ) → IsSmall tables plan → last_node_fault plan (whole plan tables) (asked_of tables need) node ≡ None
none_at tables plan need node small = rw (le-ltb row_limit (length (rows_over plan tables)) small.rows, unfound tables plan small need) refl
