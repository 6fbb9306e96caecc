-- Laws of groups by marks: for a grouping over a chain, the forward lists of its first content say which rows of its table pass, and which of these have equal keys.
use Rattle.std.specs.{Prelude.{◌≡◌, ℕ, pos, ◌<◌, nat_eq, true, List, [], ◌∷◌, ◌≤◌, length, map, All, None, Some}, List.{filter, list_all}}
use Rattle.smk_base.specs.{Places.Lists, declared.book.plan.Agg.Agg, declared.list.table_rids.Pick.Pick, declared.book.plan.Agg.TheVariants.{Count, Sum}, declared.book.plan.CmpOp.TheVariants.Ne, declared.book.plan.Operand.TheVariants.Lit, declared.value.Value.Value, declared.value.Value.TheVariants.{Int, Text}, Plans.{Comparison, Selection, Grouping, Expr, Leaf, Apply}}
use Rattle.smk_model.specs.{Values.Row, Growth.is_chain, Plain.{key_of, eval, leaves}, Lineage.{row_at, sub}, Composed.{table_at, rows_over, forwards}, LineageLaws.selected_table, Selection.{picked, over, first_full, row_limit}}
use Rattle.smk_keys.specs.{Classes.{classes_of, classing_of}, Numbers.AreNumbers}
use Rattle.smk_marks.specs.Marks.{reads_none, made, passes, kept, marks_at, marked_groups}

-- a chain is one selection, and one image of each row that is left
pub record ChainPicks : Type 0 where
  pub scans : (plan : Expr) → is_chain plan ≡ true → leaves plan ≡ selected_table plan ∷ []
  -- so if some rids of its table are picked, its rows are over these alone
  pub over_picked : (plan : Expr) (tables : List (List Row)) (picks : List Pick) (S : List ℕ) → is_chain plan ≡ true → picked picks (selected_table plan) ≡ Some S
      → over plan tables picks ≡ sub (table_at tables (selected_table plan)) S ∷ []
  pub rows : (plan : Expr) (L : List Row) → is_chain plan ≡ true → eval plan (L ∷ []) ≡ map (made plan) (filter (passes plan) L)
  pub sub_rows : (plan : Expr) (L : List Row) (S : List ℕ) → is_chain plan ≡ true → eval plan (sub L S ∷ []) ≡ map (made plan) (sub L (filter (λ s. passes plan (row_at L s)) S))

-- the forward lists of a grouping's first content
abbrev pub marks_of : List ℕ → List Agg → Expr → List (List Row) → Lists
marks_of keys aggs input tables = forwards (Apply (Grouping keys aggs) input) tables (selected_table input)

-- the grouping's input over the rows of its table at S
abbrev pub input_at : Expr → List (List Row) → List ℕ → List Row
input_at input tables S = eval input (sub (table_at tables (selected_table input)) S ∷ [])

-- these are places of the table of a chain
abbrev pub AreRids : Expr → List (List Row) → List ℕ → Type 0
AreRids input tables S = All (λ s. s < length (table_at tables (selected_table input))) S

-- a grouping over a chain, and the rows of its table at S: by the forward lists of the first content
pub record GroupMarks : Type 0 where
  -- the rows that pass are those that reach a mark
  pub kept_pass : (keys : List ℕ) (aggs : List Agg) (input : Expr) (tables : List (List Row)) (S : List ℕ) → is_chain input ≡ true → AreRids input tables S
      → kept (marks_of keys aggs input tables) S ≡ filter (λ s. passes input (row_at (table_at tables (selected_table input)) s)) S
  -- so the grouping's input is what the projections make of these
  pub rows : (keys : List ℕ) (aggs : List Agg) (input : Expr) (tables : List (List Row)) (S : List ℕ) → is_chain input ≡ true → AreRids input tables S
      → input_at input tables S ≡ map (made input) (sub (table_at tables (selected_table input)) (kept (marks_of keys aggs input tables) S))
  -- the marks are numbers of the keys: below the number of first groups, and equal exactly if the keys are
  pub numbers : (keys : List ℕ) (aggs : List Agg) (input : Expr) (tables : List (List Row)) (S : List ℕ) → is_chain input ≡ true → AreRids input tables S
      → AreNumbers [] (map (key_of keys) (input_at input tables S)) (length (rows_over (Apply (Grouping keys aggs) input) tables)) (marks_at (marks_of keys aggs input tables) S)
  -- so the classes of the marks are those of the keys
  pub classes : (keys : List ℕ) (aggs : List Agg) (input : Expr) (tables : List (List Row)) (S : List ℕ) → is_chain input ≡ true → AreRids input tables S
      → classing_of nat_eq (marks_at (marks_of keys aggs input tables) S) ≡ classes_of (map (key_of keys) (input_at input tables S))
  -- and the groups of the marks are the content
  pub content : (keys : List ℕ) (aggs : List Agg) (input : Expr) (tables : List (List Row)) (S : List ℕ) → is_chain input ≡ true → AreRids input tables S
      → eval (Apply (Grouping keys aggs) input) (sub (table_at tables (selected_table input)) S ∷ [])
      ≡ marked_groups (length keys) aggs (rows_over (Apply (Grouping keys aggs) input) tables) (marks_at (marks_of keys aggs input tables) S) (input_at input tables S)

-- a grouping over a chain has no more rows at any node than its table has, so it isn't refused if that has few
abbrev pub NeverFull : Type 0
NeverFull = (keys : List ℕ) (aggs : List Agg) (input : Expr) (rows : List Row) → is_chain input ≡ true → length rows ≤ row_limit → first_full (Apply (Grouping keys aggs) input) (rows ∷ []) ≡ None

-- counts over the rows of marks are the same for any rows, as many as marks
abbrev pub CountsAlone : Type 0
CountsAlone = (k : ℕ) (aggs : List Agg) (content : List Row) (marks : List ℕ) (rows others : List Row) → list_all reads_none aggs ≡ true → length rows ≡ length others
    → marked_groups k aggs content marks rows ≡ marked_groups k aggs content marks others

-- groups by marks, worked by hand: number and sum by key of the rows whose int is not 2; of the rows at 1, 2 and 4 one falls out, and c comes before a
abbrev pub int : ℕ → Value
int n = Int (pos n)

abbrev pub text : ℕ → Value
text byte = Text (byte ∷ [])

abbrev pub not_two : Expr
not_two = Apply (Selection (Comparison 1 Ne (Lit (int 2)))) (Leaf 0)

abbrev pub letters : List (List Row)
letters = ((text 97 ∷ int 1 ∷ []) ∷ (text 98 ∷ int 2 ∷ []) ∷ (text 99 ∷ int 4 ∷ []) ∷ (text 100 ∷ int 5 ∷ []) ∷ (text 97 ∷ int 3 ∷ []) ∷ []) ∷ []

pub record ExampleMarks : Type 0 where
  pub first : rows_over (Apply (Grouping (0 ∷ []) (Count ∷ Sum 1 ∷ [])) not_two) letters ≡ (text 97 ∷ int 2 ∷ int 4 ∷ []) ∷ (text 99 ∷ int 1 ∷ int 4 ∷ []) ∷ (text 100 ∷ int 1 ∷ int 5 ∷ []) ∷ []
  pub forward : (marks_of (0 ∷ []) (Count ∷ Sum 1 ∷ []) not_two letters).lists ≡ (0 ∷ []) ∷ [] ∷ (1 ∷ []) ∷ (2 ∷ []) ∷ (0 ∷ []) ∷ []
  pub kept_rids : kept (marks_of (0 ∷ []) (Count ∷ Sum 1 ∷ []) not_two letters) (1 ∷ 2 ∷ 4 ∷ []) ≡ 2 ∷ 4 ∷ []
  pub marks : marks_at (marks_of (0 ∷ []) (Count ∷ Sum 1 ∷ []) not_two letters) (1 ∷ 2 ∷ 4 ∷ []) ≡ 1 ∷ 0 ∷ []
  pub content : marked_groups 1 (Count ∷ Sum 1 ∷ []) (rows_over (Apply (Grouping (0 ∷ []) (Count ∷ Sum 1 ∷ [])) not_two) letters) (1 ∷ 0 ∷ []) ((text 99 ∷ int 4 ∷ []) ∷ (text 97 ∷ int 3 ∷ []) ∷ [])
      ≡ (text 99 ∷ int 1 ∷ int 4 ∷ []) ∷ (text 97 ∷ int 1 ∷ int 3 ∷ []) ∷ []
