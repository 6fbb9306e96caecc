-- Relations put together of parts.
use Rattle.std.specs.{Prelude.{◌≡◌, ℕ, ◌<◌, ◌≤◌, List, [], length, map, slice_index_or, All}, List.flat_map}
use Rattle.smk_base.specs.{declared.rel.TheConstants.ROW_LIMIT, Rels.{Relation, kind_in, picked}}

-- these columns of a relation, in this order
abbrev pub columns_of : List ℕ → Relation → Relation
columns_of cols rel = record { kinds = map (kind_in rel.kinds) cols; rows = map (picked cols) rel.rows }

-- the rows of parts, one part after the other, with the kinds of the first
abbrev pub end_to_end : List Relation → Relation
end_to_end parts = record { kinds = (slice_index_or parts 0 (record { kinds = []; rows = [] })).kinds; rows = flat_map (λ part. part.rows) parts }

-- one or more parts, all of the same kinds, with few rows together
pub record AreParts (parts : List Relation) : Type 0 where
  pub some : 0 < length parts
  pub kinds : All (λ part. part.kinds ≡ (end_to_end parts).kinds) parts
  pub few : length (end_to_end parts).rows ≤ ROW_LIMIT
