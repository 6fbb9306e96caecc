-- Laws of functional dependencies.
use Rattle.std.specs.Prelude.{◌≡◌, ℕ, ◌<◌, List, [], ◌∷◌, length, map}
use Rattle.smk_model.specs.{Values.Row, Plain.eval, Annotated.back, Dependencies.{violations, violation_at, violation_row, dependency_plan}}

-- the view of a dependency over some rows
pub record ShowsViolations (table : ℕ) (rows : List Row) (keys : List ℕ) (c : ℕ) : Type 0 where
  -- it has one row for each violation, in order, that begins with its key
  pub one_each : eval (dependency_plan table keys c) (rows ∷ []) ≡ map (violation_row rows keys c) (violations rows keys c)
  -- and the row comes from the rows of the violation, and from no others
  pub comes_from : (o : ℕ) → o < length (violations rows keys c) → back (dependency_plan table keys c) (rows ∷ []) (o ∷ []) table (length rows) ≡ (violation_at (violations rows keys c) o).rids

-- for all rows, keys and columns
abbrev pub DependenciesShown : Type 0
DependenciesShown = (table : ℕ) (rows : List Row) (keys : List ℕ) (c : ℕ) → ShowsViolations table rows keys c
