-- What is so of every checked book.
use Rattle.std.specs.Prelude.{◌≡◌, ◌≤◌, ◌<◌, ℕ, List, map, length, All}
use Rattle.smk_base.specs.{declared.value.Kind.Kind, declared.book.catalog.TableInfo.TableInfo, declared.book.catalog.Back.Back, declared.book.catalog.BackExtra.BackExtra, declared.book.catalog.BackExtra.TheVariants.{Plain, By, Grouped}, declared.book.catalog.Fwd.Fwd, declared.book.catalog.LinkInfo.LinkInfo, declared.book.plan.Agg.Agg, declared.book.limits.TheConstants.{TABLE_LIMIT, VIEW_LIMIT, NODE_LIMIT}, declared.rel.TheConstants.COLUMN_LIMIT, Plans.Grouping, CatalogImage.{CatalogImage, ViewImage}}
use Rattle.smk_model.specs.{Names.column_kinds, Kinds.{GroupFits, kinds1}, Tables.IsBaseColumn, Typing.{columns_of, info_at}, Selection.{ScansFit, PlanFits, leaf_kinds, plan_kinds, nodes}}

-- the limits of tables, views and declared columns
pub record IsWithinLimits (catalog : CatalogImage) : Type 0 where
  pub few_tables : length catalog.tables ≤ TABLE_LIMIT
  pub few_views : length catalog.views ≤ VIEW_LIMIT
  pub few_columns : All (λ table. length table.cols ≤ COLUMN_LIMIT) catalog.tables

-- the kinds of a table's columns, and those of each table
abbrev pub table_kinds : TableInfo → List Kind
table_kinds table = column_kinds (columns_of table)

abbrev pub each_table_kinds : List TableInfo → List (List Kind)
each_table_kinds tables = map table_kinds tables

-- a view's plan scans tables that are there and fits their kinds, its columns have the plan's kinds and a name each, and it has at most 64 nodes
pub record ViewFits (tables : List TableInfo) (view : ViewImage) : Type 0 where
  pub scans : ScansFit (length tables) view.plan
  pub fits : PlanFits view.plan (leaf_kinds view.plan (each_table_kinds tables))
  pub kinds : plan_kinds view.plan (leaf_kinds view.plan (each_table_kinds tables)) ≡ view.kinds
  pub named : length view.names ≡ length view.kinds
  pub few : nodes view.plan ≤ NODE_LIMIT

-- a grouping over these kinds fits them, and its columns have its kinds and a name each
pub record GroupingFits (kinds : List Kind) (keys : List ℕ) (aggs : List Agg) (names : List (List ℕ)) (own : List Kind) : Type 0 where
  pub fits : GroupFits kinds keys aggs
  pub kinds_are : kinds1 (Grouping keys aggs) kinds ≡ own
  pub named : length names ≡ length own

-- what a backward declaration asks for fits the kinds of its table
abbrev pub ExtraFits : List Kind → BackExtra → Type 0
ExtraFits kinds Plain = Unit {0}
ExtraFits kinds (By column) = column < length kinds
ExtraFits kinds (Grouped keys aggs names own) = GroupingFits kinds keys aggs names own

-- the tables and views of declarations are there
pub record BackFits (tables : List TableInfo) (views : ℕ) (back : Back) : Type 0 where
  pub view : back.view < views
  pub table : back.table < length tables
  pub extra : ExtraFits (table_kinds (info_at tables back.table)) back.extra

pub record FwdFits (tables views : ℕ) (fwd : Fwd) : Type 0 where
  pub table : fwd.table < tables
  pub view : fwd.view < views

pub record LinkFits (tables views : ℕ) (link : LinkInfo) : Type 0 where
  pub view : link.view < views
  pub table : link.table < tables
  pub to : All (λ w. w < views) link.to

-- every number names something, and every kind is right
pub record IsTyped (catalog : CatalogImage) : Type 0 where
  pub columns : All (λ table. All IsBaseColumn table.cols) catalog.tables
  pub views : All (ViewFits catalog.tables) catalog.views
  pub backs : All (BackFits catalog.tables (length catalog.views)) catalog.backs
  pub fwds : All (FwdFits (length catalog.tables) (length catalog.views)) catalog.fwds
  pub links : All (LinkFits (length catalog.tables) (length catalog.views)) catalog.links

-- a checked book
pub record IsCatalog (catalog : CatalogImage) : Type 0 where
  pub limits : IsWithinLimits catalog
  pub typed : IsTyped catalog
