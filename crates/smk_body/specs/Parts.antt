-- Columns of rows, and aggregates of classes, each of which may be made in parallel with the others.
use Rattle.std.specs.Prelude.{ℕ, ◌<◌, ◌≤◌, List, length, map, All}
use Rattle.smk_base.specs.{declared.rel.TheConstants.{COLUMN_LIMIT, ROW_LIMIT}, declared.book.plan.Agg.Agg, Places.upto, Rels.{Relation, kind_in, picked, rows_at}}
use Rattle.smk_keys.specs.Classes.{ClassesImage}
use Rattle.smk_model.specs.{Plain.aggregate, Lineage.sub, Kinds.{AggFits, kind_of_agg}}
use Rattle.smk_body.specs.Halves.{AreNumbered, class_places}

-- at most 1,048,576 places of rows, and at most 16 columns of them
pub record ArePlacesOf (rel : Relation) (places cols : List ℕ) : Type 0 where
  pub columns : All (λ c. c < length rel.kinds) cols
  pub few_columns : length cols ≤ COLUMN_LIMIT
  pub within : All (λ place. place < length rel.rows) places
  pub few : length places ≤ ROW_LIMIT

-- the values in these columns of the rows at these places
abbrev pub columns_of : Relation → List ℕ → List ℕ → Relation
columns_of rel places cols = record { kinds = map (kind_in rel.kinds) cols; rows = map (picked cols) (rows_at rel.rows places) }

-- at most 16 aggregates over the classes of rows
pub record AreAggsOf (rel : Relation) (classes : ClassesImage) (aggs : List Agg) : Type 0 where
  pub numbered : AreNumbered (length rel.rows) classes
  pub each : All (AggFits rel.kinds) aggs
  pub few : length aggs ≤ COLUMN_LIMIT

-- for each class the aggregates over its rows
abbrev pub aggregates_of : Relation → ClassesImage → List Agg → Relation
aggregates_of rel classes aggs = record { kinds = map (kind_of_agg rel.kinds) aggs; rows = map (λ p. map (aggregate (sub rel.rows (class_places classes.of (length rel.rows) p))) aggs) (upto (length classes.firsts)) }
