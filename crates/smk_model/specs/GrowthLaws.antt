-- Laws of tables that grow. For a growing chain, the old rows and lists, followed by those of the new rows alone, are those of all rows. A plan that doesn't scan the table stays as it is.
use Rattle.std.specs.{Prelude.{◌≡◌, ℕ, ◌≤◌, true, false, List, [], ◌∷◌, ◌++◌, length, nat_eq, None}, List.{flat_map, All}}
use Rattle.smk_base.specs.{Places.{has, composed, followed}, declared.book.need.Needed.Needed, declared.book.plan.Agg.Agg, Plans.{Unary, Grouping, Expr, Apply}}
use Rattle.smk_model.specs.{Values.Row, Plain.{step1, leaves, whole}, Annotated.pairs, Locals.{back1, fwd1}, Composed.{table_at, rows_over, backs, forwards}, Selection.row_limit, NodeFaults.{asked_of, first_fault}, LineageLaws.selected_table, LocalLaws.together, Growth.{is_chain, is_growing, regrouping}}

-- a grouping of parts, one after the other, is the regrouping of the groupings of the parts
pub record GroupsRegroup : Type 0 where
  pub parts : (keys : List ℕ) (aggs : List Agg) (parts : List (List Row)) → step1 (Grouping keys aggs) (together parts) ≡ step1 (regrouping keys aggs) (flat_map (step1 (Grouping keys aggs)) parts)
  pub two : (keys : List ℕ) (aggs : List Agg) (L M : List Row) → step1 (Grouping keys aggs) (L ++ M) ≡ step1 (regrouping keys aggs) (step1 (Grouping keys aggs) L ++ step1 (Grouping keys aggs) M)

-- a table has its old rows, and new ones after them; nothing is said of the other tables
abbrev pub HasGrown : ℕ → List (List Row) → List (List Row) → List (List Row) → Type 0
HasGrown table old new grown = table_at grown table ≡ table_at old table ++ table_at new table

-- what a chain gives over the grown table
pub record ChainGrows : Type 0 where
  pub rows : (plan : Expr) (old new grown : List (List Row)) → is_chain plan ≡ true → HasGrown (selected_table plan) old new grown
      → rows_over plan grown ≡ rows_over plan old ++ rows_over plan new
  pub backs : (plan : Expr) (old new grown : List (List Row)) → is_chain plan ≡ true → HasGrown (selected_table plan) old new grown
      → backs plan grown (selected_table plan) ≡ followed (backs plan old (selected_table plan)) (backs plan new (selected_table plan))
  pub forwards : (plan : Expr) (old new grown : List (List Row)) → is_chain plan ≡ true → HasGrown (selected_table plan) old new grown
      → forwards plan grown (selected_table plan) ≡ followed (forwards plan old (selected_table plan)) (forwards plan new (selected_table plan))

-- the rows of a plan over the old table, followed by those over the new rows
abbrev pub both_rows : Expr → List (List Row) → List (List Row) → List Row
both_rows plan old new = rows_over plan old ++ rows_over plan new

-- what a grouping over a chain gives over the grown table: what the regrouping gives over both
pub record GroupGrows : Type 0 where
  pub rows : (keys : List ℕ) (aggs : List Agg) (input : Expr) (old new grown : List (List Row)) → is_chain input ≡ true → HasGrown (selected_table input) old new grown
      → rows_over (Apply (Grouping keys aggs) input) grown ≡ step1 (regrouping keys aggs) (both_rows (Apply (Grouping keys aggs) input) old new)
  pub backs : (keys : List ℕ) (aggs : List Agg) (input : Expr) (old new grown : List (List Row)) → is_chain input ≡ true → HasGrown (selected_table input) old new grown
      → backs (Apply (Grouping keys aggs) input) grown (selected_table input)
      ≡ composed (back1 (regrouping keys aggs) (both_rows (Apply (Grouping keys aggs) input) old new)) (followed (backs (Apply (Grouping keys aggs) input) old (selected_table input)) (backs (Apply (Grouping keys aggs) input) new (selected_table input)))
  pub forwards : (keys : List ℕ) (aggs : List Agg) (input : Expr) (old new grown : List (List Row)) → is_chain input ≡ true → HasGrown (selected_table input) old new grown
      → forwards (Apply (Grouping keys aggs) input) grown (selected_table input)
      ≡ composed (followed (forwards (Apply (Grouping keys aggs) input) old (selected_table input)) (forwards (Apply (Grouping keys aggs) input) new (selected_table input))) (fwd1 (regrouping keys aggs) (both_rows (Apply (Grouping keys aggs) input) old new))

-- a growing chain has no more rows and no more pairs than its table has rows, and each of these reaches at most one row
pub record GrowingIsThin : Type 0 where
  -- its only leaf scans the table
  pub scans : (plan : Expr) → is_growing plan ≡ true → leaves plan ≡ selected_table plan ∷ []
  -- the plans of its nodes are growing chains on the same table
  pub below : (op : Unary) (input : Expr) → is_growing (Apply op input) ≡ true → is_growing input ≡ true
  pub rows : (plan : Expr) (tables : List (List Row)) → is_growing plan ≡ true → length (rows_over plan tables) ≤ length (table_at tables (selected_table plan))
  pub single : (plan : Expr) (tables : List (List Row)) → is_growing plan ≡ true → All (λ (rows : List ℕ). length rows ≤ 1) (forwards plan tables (selected_table plan)).lists
  pub pairs : (plan : Expr) (tables : List (List Row)) → is_growing plan ≡ true
      → pairs plan (whole plan tables) (selected_table plan) (length (table_at tables (selected_table plan))) ≤ length (table_at tables (selected_table plan))

-- so if its table hasn't too many rows, no node has too many rows or pairs, whichever tables are needed
abbrev pub GrowingNeverFull : Type 0
GrowingNeverFull = (plan : Expr) (tables : List (List Row)) (need : List Needed) → is_growing plan ≡ true → length (table_at tables (selected_table plan)) ≤ row_limit → first_fault plan (whole plan tables) (asked_of tables need) ≡ None

-- two lists of tables are the same at every leaf of a plan
abbrev pub AgreeAtLeaves : Expr → List (List Row) → List (List Row) → Type 0
AgreeAtLeaves plan A B = (table : ℕ) → has (leaves plan) table ≡ true → table_at A table ≡ table_at B table

-- a plan gives the same over tables that are the same at its leaves
pub record UnscannedStays : Type 0 where
  -- tables are the same there if they differ only in one that the plan doesn't scan
  pub other : (plan : Expr) (table : ℕ) (A B : List (List Row)) → has (leaves plan) table ≡ false → ((u : ℕ) → nat_eq u table ≡ false → table_at A u ≡ table_at B u) → AgreeAtLeaves plan A B
  pub tables : (plan : Expr) (A B : List (List Row)) → AgreeAtLeaves plan A B → whole plan A ≡ whole plan B
  pub rows : (plan : Expr) (A B : List (List Row)) → AgreeAtLeaves plan A B → rows_over plan A ≡ rows_over plan B
  -- the lists to a table have a place for each of its rows
  pub backs : (plan : Expr) (A B : List (List Row)) (table : ℕ) → AgreeAtLeaves plan A B → length (table_at A table) ≡ length (table_at B table) → backs plan A table ≡ backs plan B table
  pub forwards : (plan : Expr) (A B : List (List Row)) (table : ℕ) → AgreeAtLeaves plan A B → length (table_at A table) ≡ length (table_at B table) → forwards plan A table ≡ forwards plan B table
  -- pairs and faults are the same for tables of any length
  pub pairs : (plan : Expr) (A B : List (List Row)) (table : ℕ) → AgreeAtLeaves plan A B → pairs plan (whole plan A) table (length (table_at A table)) ≡ pairs plan (whole plan B) table (length (table_at B table))
  pub fault : (plan : Expr) (A B : List (List Row)) (need : List Needed) → AgreeAtLeaves plan A B → first_fault plan (whole plan A) (asked_of A need) ≡ first_fault plan (whole plan B) (asked_of B need)
