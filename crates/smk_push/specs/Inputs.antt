-- What the groupings of the rows at any rids are made from.
use Rattle.std.specs.{Prelude.{◌≡◌, ℕ, ◌+◌, ◌<◌, ◌≤◌, List, ◌++◌, length, map, All}, List.filter}
use Rattle.smk_base.specs.{Rels.{Relation, row_in, rows_at}, declared.book.plan.Agg.Agg, declared.rel.TheConstants.COLUMN_LIMIT}
use Rattle.smk_keys.specs.Classes.{ClassesImage, classes_of}
use Rattle.smk_model.specs.{Kinds.{AggFits, kind_of_agg}, Plain.{aggregate, firsts, row_eq}, Values.Row}

-- rows of fewer columns, and aggregates over them that give the same as others over the rows of a relation at any places
pub record AreRead (all : Relation) (aggs : List Agg) (rows : Relation) (over : List Agg) : Type 0 where
  pub fits : All (AggFits rows.kinds) over
  pub kinds : map (kind_of_agg rows.kinds) over ≡ map (kind_of_agg all.kinds) aggs
  pub long : length rows.rows ≡ length all.rows
  pub values : (places : List ℕ) → All (λ place. place < length all.rows) places → map (aggregate (rows_at rows.rows places)) over ≡ map (aggregate (rows_at all.rows places)) aggs

-- keys in their classes, and for each key the row that aggregates read
pub record IsInput (keys : Relation) (classes : ClassesImage) (rows : Relation) (aggs : List Agg) : Type 0 where
  pub classed : classes ≡ classes_of keys.rows
  pub long : length rows.rows ≡ length keys.rows
  pub fits : All (AggFits rows.kinds) aggs
  pub few : length keys.kinds + length aggs ≤ COLUMN_LIMIT

-- the rids whose key is this one
abbrev pub rids_of : List Row → List ℕ → Row → List ℕ
rids_of keys rids key = filter (λ rid. row_eq key (row_in keys rid)) rids

-- for each key at some rids, by first occurrence, the key and the aggregates over the rows at the rids that have it
abbrev pub grouped_at : List Row → List Row → List Agg → List ℕ → List Row
grouped_at keys rows aggs rids = map (λ key. key ++ map (aggregate (rows_at rows (rids_of keys rids key))) aggs) (firsts (rows_at keys rids))

-- these groups, with their kinds
abbrev pub cube_from : Relation → Relation → List Agg → List ℕ → Relation
cube_from keys rows aggs rids = record { kinds = keys.kinds ++ map (kind_of_agg rows.kinds) aggs; rows = grouped_at keys.rows rows.rows aggs rids }
