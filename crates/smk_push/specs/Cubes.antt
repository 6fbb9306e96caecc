-- A grouping of the rows of a table, at each list of a map.
use Rattle.std.specs.Prelude.{ℕ, List, [], map, slice_index_or}
use Rattle.smk_base.specs.{Places.Lists, Plans.Grouping, Rels.Relation, declared.book.plan.Agg.Agg}
use Rattle.smk_model.specs.{Kinds.kinds1, Lineage.sub, Plain.step1}

-- the grouping of the rows of a table at some rids
abbrev pub cube_of : Relation → List ℕ → List Agg → List ℕ → Relation
cube_of table keys aggs rids = record { kinds = kinds1 (Grouping keys aggs) table.kinds; rows = step1 (Grouping keys aggs) (sub table.rows rids) }

-- for each list of a map the grouping of the rows at its rids
abbrev pub cubes_of : Lists → Relation → List ℕ → List Agg → List Relation
cubes_of m table keys aggs = map (cube_of table keys aggs) m.lists

-- the groups of a mark
abbrev pub cube_at : List Relation → ℕ → Relation
cube_at cubes mark = slice_index_or cubes mark (record { kinds = []; rows = [] })
