-- What the book with each dependency replaced keeps.
use Rattle.std.specs.Prelude.{◌≡◌, List, Ok}
use Rattle.smk_base.specs.{CatalogImage.CatalogImage, Trees.StmtImage}
use Rattle.smk_model.specs.{Expanded.{expanded, dependency_names, HasNoDependency}, Limits.KeepsLimits, Profiles.AreDependencies, Typing.types}

-- it keeps the limits that the book keeps, and has no dependency; a book without one is as it was; it is typed as the book is, and then the views of the dependencies show them
pub record ExpandedStands : Type 0 where
  pub limits : (book : List StmtImage) → KeepsLimits book → KeepsLimits (expanded book)
  pub none : (book : List StmtImage) → HasNoDependency (expanded book)
  pub same : (book : List StmtImage) → HasNoDependency book → expanded book ≡ book
  pub typed : (book : List StmtImage) → types (expanded book) ≡ types book
  pub shown : (book : List StmtImage) (catalog : CatalogImage) → types (expanded book) ≡ Ok catalog → AreDependencies catalog (dependency_names book)
