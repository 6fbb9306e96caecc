-- What a book still has to type after its first statements.
use Rattle.std.specs.Prelude.{◌≡◌, ℕ, ◌+◌, ◌≤◌, Bool, cond, List, length, count_by, All}
use Rattle.smk_base.specs.{Trees.StmtImage, CatalogImage.CatalogImage, declared.book.limits.TheConstants.{TABLE_LIMIT, VIEW_LIMIT}}
use Rattle.smk_model.specs.{Names.in_turn, Expanded.HasNoDependency, Limits.{KeepsStmt, is_table, is_view}, Typing.{types, stmt_after}, Catalogs.IsTyped}

abbrev pub one_if : Bool → ℕ
one_if test = cond test 1 0

-- the catalog is that of the statements before the rest, every number and kind in it is right, and the rest keeps the limits that are left and has no dependency
pub record IsBefore (book : List StmtImage) (catalog : CatalogImage) (rest : List StmtImage) : Type 0 where
  pub typed : IsTyped catalog
  pub types_rest : types book ≡ in_turn stmt_after catalog rest
  pub few_tables : length catalog.tables + count_by is_table rest ≤ TABLE_LIMIT
  pub few_views : length catalog.views + count_by is_view rest ≤ VIEW_LIMIT
  pub each : All KeepsStmt rest
  pub replaced : HasNoDependency rest
