-- The tables of the files that the lines of a script append.
use Rattle.std.specs.Prelude.{◌≡◌, ℕ, Bool, true, false, List, ◌∷◌, drop}
use Rattle.smk_base.specs.{CatalogImage.CatalogImage, Rels.Relation, declared.book.catalog.TableInfo.TableInfo}
use Rattle.smk_model.specs.{Catalogs.{table_kinds, each_table_kinds}, Outcome.appended, Readings.{Reading, AreReadings}, Selection.each_kinds}

-- there is one table for each line that appends to a table of the book, line by line, with the kinds of that table
pub record BringTables (catalog : CatalogImage) (texts : List (List ℕ)) (added : List Relation) : Type 0 where
  pub said : List Reading
  pub reads : AreReadings texts said
  pub kinds : each_kinds added ≡ each_table_kinds (appended catalog said)

-- the first of these tables has the kinds of this one
pub record BeginsWith (info : TableInfo) (added : List Relation) : Type 0 where
  pub first : Relation
  pub rest : List Relation
  pub is : added ≡ first ∷ rest
  pub kinds : first.kinds ≡ table_kinds info

-- the tables that are left after a line: all but the first if the line takes it
abbrev pub tables_left : Bool → List Relation → List Relation
tables_left true added = drop 1 added
tables_left false added = added
