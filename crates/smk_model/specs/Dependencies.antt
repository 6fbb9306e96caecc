-- Functional dependencies: the keys of a table whose rows break one, and the plan of the view that shows them.
use Rattle.std.specs.{Prelude.{ℕ, ◌+◌, Bool, not, List, [], ◌∷◌, ◌++◌, length, map, slice_index_or}, List.{list_any, filter}}
use Rattle.smk_base.specs.{Places.places, Plans.{Formula, Comparison, Selection, Grouping, Expr, Leaf, Apply}, Values.value_eq, declared.book.plan.Agg.Agg, declared.book.plan.Agg.TheVariants.{Min, Max}, declared.book.plan.CmpOp.TheVariants.Ne, declared.book.plan.Operand.TheVariants.Col, declared.value.Value.Value}
use Rattle.smk_model.specs.{Values.{Row, value_at}, Plain.{row_eq, key_of, firsts, aggregate}, Lineage.row_at}

-- a key whose rows differ, and the rids of all rows with that key, ascending
pub record Violation : Type 0 where
  pub key : Row
  pub rids : List ℕ

-- the rows with a key, and their rids
abbrev pub rows_with : List Row → List ℕ → Row → List Row
rows_with rows keys key = filter (λ row. row_eq key (key_of keys row)) rows

abbrev pub rids_with : List Row → List ℕ → Row → List ℕ
rids_with rows keys key = places (λ rid. row_eq key (key_of keys (row_at rows rid))) (length rows)

-- whether two of some values are different
abbrev pub differ : List Value → Bool
differ values = list_any (λ v. list_any (λ w. not (value_eq v w)) values) values

-- the values of a column among the rows with a key
abbrev pub values_with : List Row → List ℕ → ℕ → Row → List Value
values_with rows keys c key = map (λ row. value_at row c) (rows_with rows keys key)

-- the keys, each at its first occurrence, whose rows have different values in a column
abbrev pub violated : List Row → List ℕ → ℕ → List Row
violated rows keys c = filter (λ key. differ (values_with rows keys c key)) (firsts (map (key_of keys) rows))

-- each violated key with its rids
abbrev pub violations : List Row → List ℕ → ℕ → List Violation
violations rows keys c = map (λ key. record { key = key; rids = rids_with rows keys key }) (violated rows keys c)

abbrev pub no_violation : Violation
no_violation = record { key = []; rids = [] }

abbrev pub violation_at : List Violation → ℕ → Violation
violation_at found o = slice_index_or found o no_violation

-- a violated key, then the least and the greatest value in the column among its rows
abbrev pub violation_row : List Row → List ℕ → ℕ → Violation → Row
violation_row rows keys c violation =
    violation.key ++ aggregate (rows_with rows keys violation.key) (Min c) ∷ aggregate (rows_with rows keys violation.key) (Max c) ∷ []

-- the least and the greatest value of a column, and the test that they differ, after so many keys
abbrev pub extremes : ℕ → List Agg
extremes c = Min c ∷ Max c ∷ []

abbrev pub extremes_differ : ℕ → Formula
extremes_differ n = Comparison n Ne (Col (n + 1))

-- the plan of the view that shows a dependency: of each key the least and the greatest value, where they differ
abbrev pub dependency_plan : ℕ → List ℕ → ℕ → Expr
dependency_plan table keys c = Apply (Selection (extremes_differ (length keys))) (Apply (Grouping keys (extremes c)) (Leaf table))

-- a dependency of one column of a table on others, the keys
pub record Dependency : Type 0 where
  pub table : ℕ
  pub keys : List ℕ
  pub col : ℕ

abbrev pub plan_of : Dependency → Expr
plan_of dependency = dependency_plan dependency.table dependency.keys dependency.col

-- the dependency that a plan shows; a plan that shows none gets a placeholder
abbrev pub no_dependency : Dependency
no_dependency = record { table = 0; keys = []; col = 0 }

abbrev pub dependency_of : Expr → Dependency
dependency_of (Apply (Selection formula) (Apply (Grouping keys (Min c ∷ more)) (Leaf table))) = record { table = table; keys = keys; col = c }
dependency_of _ = no_dependency
