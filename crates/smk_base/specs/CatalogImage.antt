-- A checked book as plain data, with no pointers.
use Rattle.std.specs.Prelude.{ℕ, List, map, Option, position}
use Rattle.smk_base.specs.{declared.value.Kind.Kind, declared.book.catalog.Catalog.Catalog, declared.book.catalog.TableInfo.TableInfo, declared.book.catalog.ViewInfo.ViewInfo, declared.book.catalog.Back.Back, declared.book.catalog.Fwd.Fwd, declared.book.catalog.LinkInfo.LinkInfo, Dicts.text_eq, Plans.Expr, PlanImage.expr_of}

-- a view
pub record ViewImage : Type 0 where
  pub name : List ℕ
  pub plan : Expr
  pub names : List (List ℕ)
  pub kinds : List Kind

-- a checked book
pub record CatalogImage : Type 0 where
  pub tables : List TableInfo
  pub views : List ViewImage
  pub backs : List Back
  pub fwds : List Fwd
  pub links : List LinkInfo

abbrev pub view_image : ViewInfo → ViewImage
view_image view = record { name = view.name; plan = expr_of view.plan; names = view.names; kinds = view.kinds }

abbrev pub catalog_image : Catalog → CatalogImage
catalog_image catalog = record {
  tables = catalog.tables;
  views = map view_image catalog.views;
  backs = catalog.backs;
  fwds = catalog.fwds;
  links = catalog.links;
}

-- the number of the view with this name, and that of the table
abbrev pub view_place : CatalogImage → List ℕ → Option ℕ
view_place catalog name = position (λ view. text_eq view.name name) catalog.views

abbrev pub table_place : CatalogImage → List ℕ → Option ℕ
table_place catalog name = position (λ table. text_eq table.name name) catalog.tables
