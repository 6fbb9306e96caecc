-- The rows and kinds of a leaf.
use Rattle.std.specs.Prelude.{ℕ, List, [], slice_index_or}
use Rattle.smk_base.specs.{Rels.Relation, declared.list.table_rids.Pick.Pick}
use Rattle.smk_model.specs.Selection.{picked, kept_rows}

abbrev pub table_of : List Relation → ℕ → Relation
table_of tables table = slice_index_or tables table (record { kinds = []; rows = [] })

-- the picked rows of a table that is picked, else all, with its kinds
abbrev pub leaf_over : List Relation → List Pick → ℕ → Relation
leaf_over tables picks table = record {
  kinds = (table_of tables table).kinds;
  rows = kept_rows (picked picks table) (table_of tables table).rows;
}
