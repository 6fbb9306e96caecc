-- The run of a plan over tables, and the parts of a table that has grown.
use Rattle.std.specs.Prelude.{◌≡◌, ◌+◌, ◌<◌, ◌≤◌, ℕ, List, ◌++◌, length, map, take, drop, slice_set, Option, Some, None, All}
use Rattle.smk_base.specs.{Places.upto, Plans.{Expr, Grouping}, declared.book.need.Needed.Needed, declared.book.plan.Agg.Agg, Rels.RowFits, declared.rel.TheConstants.ROW_LIMIT, declared.value.Kind.Kind}
use Rattle.smk_keys.specs.Classes.{ClassesImage, classes_of}
use Rattle.smk_model.specs.{Values.Row, Plain.{key_of, step1}, Composed.{table_at, rows_over}, Kinds.AggFits, Selection.{leaf_kinds, plan_kinds}, Growth.all_over_parts}
use Rattle.smk_compose.specs.{declared.kept_maps.Run.Run, KeptMaps.kept_at}
use Rattle.smk_chain.specs.Parts.{joint_maps, AreMaps}

-- the rows of a plan over tables with columns of these kinds, and the needed lineage
abbrev pub run_over : Expr → List (List Kind) → List (List Row) → List Needed → Run
run_over plan K tables need = record {
  rel = record { kinds = plan_kinds plan (leaf_kinds plan K); rows = rows_over plan tables };
  kept = map (kept_at plan tables) need;
}

-- the tables, but one has only its first len rows
abbrev pub tables_before : List (List Row) → ℕ → ℕ → List (List Row)
tables_before tables table len = slice_set tables table (take len (table_at tables table))

-- the tables, but one has only the rows after its first len
abbrev pub tables_behind : List (List Row) → ℕ → ℕ → List (List Row)
tables_behind tables table len = slice_set tables table (drop len (table_at tables table))

-- groups with k keys and these aggregates, put together, each key once
abbrev pub joint_groups : ℕ → List Agg → List Row → List Row
joint_groups k aggs groups = step1 (Grouping (upto k) (all_over_parts k aggs)) groups

-- the classes of the groups' keys
abbrev pub joint_classes : ℕ → List Row → ClassesImage
joint_classes k groups = classes_of (map (key_of (upto k)) groups)

-- the runs of a chain over both parts, put together: the new rows after the old ones
abbrev pub chain_run : ℕ → List (List Row) → List Needed → Run → Run → Run
chain_run table tables need old new = record {
  rel = record { kinds = old.rel.kinds; rows = old.rel.rows ++ new.rel.rows };
  kept = joint_maps None table (length (old.rel.rows ++ new.rel.rows)) tables need old.kept new.kept;
}

-- the runs of a chain that ends in a grouping, put together: the groups of both
abbrev pub group_run : ℕ → List Agg → ℕ → List (List Row) → List Needed → Run → Run → Run
group_run k aggs table tables need old new = record {
  rel = record { kinds = old.rel.kinds; rows = joint_groups k aggs (old.rel.rows ++ new.rel.rows) };
  kept = joint_maps (Some (joint_classes k (old.rel.rows ++ new.rel.rows))) table (length (joint_groups k aggs (old.rel.rows ++ new.rel.rows))) tables need old.kept new.kept;
}

-- the runs of both parts can be put together, by the classes of their groups if they have some
pub record CanJoin (groups : Option ClassesImage) (scanned count : ℕ) (need : List Needed) (old new : Run) : Type 0 where
  pub kinds : new.rel.kinds ≡ old.rel.kinds
  pub few : length old.rel.rows + length new.rel.rows ≤ ROW_LIMIT
  pub maps : AreMaps groups scanned count need old.kept new.kept

-- they can be put together, and are groups with k keys and these aggregates
pub record CanRegroup (k : ℕ) (aggs : List Agg) (scanned count : ℕ) (need : List Needed) (old new : Run) : Type 0 where
  pub joins : CanJoin (Some (joint_classes k (old.rel.rows ++ new.rel.rows))) scanned count need old new
  pub some : 0 < k + length aggs
  pub columns : k + length aggs ≡ length old.rel.kinds
  pub each : All (AggFits old.rel.kinds) (all_over_parts k aggs)
  pub fits : All (RowFits old.rel.kinds) (joint_groups k aggs (old.rel.rows ++ new.rel.rows))
