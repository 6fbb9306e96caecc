-- Laws of composed lineage, each a statement over all arguments.
use Rattle.std.specs.{Prelude.{◌≡◌, ℕ, ◌<◌, ◌≤◌, false, List, [], ◌∷◌, ◌++◌, length, take, drop, nat_eq}, List.All}
use Rattle.smk_base.specs.{Places.{Lists, has, IsPlaces, pairs_of, list_at, own_lists, empty_lists, members_at, composed, merged, inverted}, Plans.{Unary, Binary, Expr, Leaf, Apply, Combine}}
use Rattle.smk_model.specs.{Values.Row, Plain.{step1, step2, leaves, width, eval, whole}, Locals.{back1, fwd1, back_left, fwd_left, back_right, fwd_right}, Annotated.{back, fwd, pairs}, Composed.{table_at, rows_over, backs, forwards}}

-- the rows over whole tables and the backward lists, node by node
pub record BacksCompose : Type 0 where
  pub rows_scan : (table : ℕ) (tables : List (List Row)) → rows_over (Leaf table) tables ≡ table_at tables table
  pub rows_one : (op : Unary) (input : Expr) (tables : List (List Row)) → rows_over (Apply op input) tables ≡ step1 op (rows_over input tables)
  pub rows_two : (op : Binary) (left right : Expr) (tables : List (List Row)) → rows_over (Combine op left right) tables ≡ step2 op (rows_over left tables) (rows_over right tables)
  -- each row of a scanned table comes from itself, and from no row of another table
  pub scan : (table : ℕ) (tables : List (List Row)) → backs (Leaf table) tables table ≡ own_lists (length (table_at tables table))
  pub other : (scanned table : ℕ) (tables : List (List Row)) → nat_eq scanned table ≡ false → backs (Leaf scanned) tables table ≡ empty_lists (length (table_at tables scanned)) (length (table_at tables table))
  -- a step's own lists are composed with those of its inputs, and those by two inputs are merged
  pub one : (op : Unary) (input : Expr) (tables : List (List Row)) (table : ℕ) → backs (Apply op input) tables table ≡ composed (back1 op (rows_over input tables)) (backs input tables table)
  pub two : (op : Binary) (left right : Expr) (tables : List (List Row)) (table : ℕ)
      → backs (Combine op left right) tables table ≡ merged (composed (back_left op (rows_over left tables) (rows_over right tables)) (backs left tables table)) (composed (back_right op (rows_over left tables) (rows_over right tables)) (backs right tables table))

-- the forward lists, node by node: those of the inputs, composed with a step's own
pub record ForwardsCompose : Type 0 where
  pub scan : (table : ℕ) (tables : List (List Row)) → forwards (Leaf table) tables table ≡ own_lists (length (table_at tables table))
  pub other : (scanned table : ℕ) (tables : List (List Row)) → nat_eq scanned table ≡ false → forwards (Leaf scanned) tables table ≡ empty_lists (length (table_at tables table)) (length (table_at tables scanned))
  pub one : (op : Unary) (input : Expr) (tables : List (List Row)) (table : ℕ) → forwards (Apply op input) tables table ≡ composed (forwards input tables table) (fwd1 op (rows_over input tables))
  pub two : (op : Binary) (left right : Expr) (tables : List (List Row)) (table : ℕ)
      → forwards (Combine op left right) tables table ≡ merged (composed (forwards left tables table) (fwd_left op (rows_over left tables) (rows_over right tables))) (composed (forwards right tables table) (fwd_right op (rows_over left tables) (rows_over right tables)))

-- what is so of the lists of a plan
pub record ListsStand : Type 0 where
  -- as many lists as rows, and as rids, each ascending, without repeats and in range
  pub backs_long : (plan : Expr) (tables : List (List Row)) (table : ℕ) → length (backs plan tables table).lists ≡ length (rows_over plan tables)
  pub forwards_long : (plan : Expr) (tables : List (List Row)) (table : ℕ) → length (forwards plan tables table).lists ≡ length (table_at tables table)
  pub backs_places : (plan : Expr) (tables : List (List Row)) (table : ℕ) → All (IsPlaces (length (table_at tables table))) (backs plan tables table).lists
  pub forwards_places : (plan : Expr) (tables : List (List Row)) (table : ℕ) → All (IsPlaces (length (rows_over plan tables))) (forwards plan tables table).lists
  -- the list of one place is its lineage
  pub back_at : (plan : Expr) (tables : List (List Row)) (table o : ℕ) → o < length (rows_over plan tables) → list_at (backs plan tables table) o ≡ back plan (whole plan tables) (o ∷ []) table (length (table_at tables table))
  pub forward_at : (plan : Expr) (tables : List (List Row)) (table rid : ℕ) → rid < length (table_at tables table) → list_at (forwards plan tables table) rid ≡ fwd plan (whole plan tables) (rid ∷ []) table
  -- the lineage of some places is the members of their lists
  pub back_of : (plan : Expr) (tables : List (List Row)) (O : List ℕ) (table : ℕ) → All (λ o. o < length (rows_over plan tables)) O → members_at (backs plan tables table) O ≡ back plan (whole plan tables) O table (length (table_at tables table))
  pub forward_of : (plan : Expr) (tables : List (List Row)) (S : List ℕ) (table : ℕ) → All (λ rid. rid < length (table_at tables table)) S → members_at (forwards plan tables table) S ≡ fwd plan (whole plan tables) S table
  -- each direction is the other inverted
  pub forwards_invert : (plan : Expr) (tables : List (List Row)) (table : ℕ) → inverted (backs plan tables table) ≡ forwards plan tables table
  pub backs_invert : (plan : Expr) (tables : List (List Row)) (table : ℕ) → inverted (forwards plan tables table) ≡ backs plan tables table
  -- the members of all lists together are the pairs
  pub pairs_are : (plan : Expr) (tables : List (List Row)) (table : ℕ) → pairs_of (backs plan tables table).lists ≡ pairs plan (whole plan tables) table (length (table_at tables table))
  -- a table that the plan doesn't scan has empty lists
  pub unscanned : (plan : Expr) (tables : List (List Row)) (O : List ℕ) (table n : ℕ) → has (leaves plan) table ≡ false → back plan (whole plan tables) O table n ≡ []
  pub unscanned_backs : (plan : Expr) (tables : List (List Row)) (table : ℕ) → has (leaves plan) table ≡ false → backs plan tables table ≡ empty_lists (length (rows_over plan tables)) (length (table_at tables table))
  pub unscanned_forwards : (plan : Expr) (tables : List (List Row)) (table : ℕ) → has (leaves plan) table ≡ false → forwards plan tables table ≡ empty_lists (length (table_at tables table)) (length (rows_over plan tables))

-- the rows of a plan of two inputs, whose leaves' lists are those of the left input and then those of the right one
pub record LeavesSplit : Type 0 where
  pub append : (op : Binary) (left right : Expr) (E F : List (List Row)) → length E ≡ width left → eval (Combine op left right) (E ++ F) ≡ step2 op (eval left E) (eval right F)
  pub cut : (op : Binary) (left right : Expr) (E : List (List Row)) → eval (Combine op left right) E ≡ step2 op (eval left (take (width left) E)) (eval right (drop (width left) E))

-- merged lists have at least the members of each side, so a side with too many has too many merged
pub record MergedHasBoth : Type 0 where
  pub left : (a b : Lists) → All (IsPlaces a.bound) a.lists → pairs_of a.lists ≤ pairs_of (merged a b).lists
  pub right : (a b : Lists) → length b.lists ≡ length a.lists → b.bound ≡ a.bound → All (IsPlaces b.bound) b.lists → pairs_of b.lists ≤ pairs_of (merged a b).lists
