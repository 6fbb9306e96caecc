-- The invariant of a split: the rids of a table in the order of their values, and each list of the map as places in that order.
use Rattle.std.specs.{Prelude.{◌≡◌, ℕ, ◌+◌, ◌-◌, ◌<◌, ◌≤◌, ◌&&◌, true, nat_le, nat_lt, List, length, map, slice_index}, List.{filter, list_any, concat}}
use Rattle.smk_base.specs.{Places.{Lists, upto, places, has}, Values.value_eq, declared.rel.TheConstants.ROW_LIMIT, declared.value.Value.Value}
use Rattle.smk_model.specs.{Values.{Row, value_at}, Lineage.row_at, Replies.with_value}
use Rattle.smk_skip.specs.Splits.{SplitImage}

-- the values of a column at these rows
abbrev pub values_in : List Row → ℕ → List ℕ → List Value
values_in rows col rids = map (λ rid. value_at (row_at rows rid) col) rids

-- for each of these values the rids whose row has it in the column
abbrev pub lists_by : List Row → ℕ → List Value → List (List ℕ)
lists_by rows col of_values = map (λ value. with_value rows col value (upto (length rows))) of_values

-- whether the values are all that the column has
abbrev pub HasAll : List Row → ℕ → List Value → Type 0
HasAll rows col of_values = (r : ℕ) → r < length rows → list_any (value_eq (value_at (row_at rows r) col)) of_values ≡ true

-- the places in an order that have a rid of the list
abbrev pub ranks : List ℕ → List ℕ → List ℕ
ranks order list = places (λ k. has list (slice_index order k)) (length order)

-- for each list of a map the places in an order that have a rid of it
abbrev pub ranked : List ℕ → Lists → Lists
ranked order m = record { lists = map (ranks order) m.lists; bound = length order }

-- those of the places in an order that lie in a stretch from `start` on, as the rids that the stretch has there
abbrev pub run : ℕ → List ℕ → List ℕ → List ℕ
run start rids at_places = map (λ k. slice_index rids (k - start)) (filter (λ k. nat_le start k && nat_lt k (start + length rids)) at_places)

-- the values are those of the column, each once with its rids, and the lists of the map are places in the order of the values
pub record IsParted (split : SplitImage) (of_values : List Value) (by_value places_of : Lists) : Type 0 where
  pub bound : split.map.bound ≡ length split.rows
  pub whole : HasAll split.rows split.col of_values
  pub lists : by_value.lists ≡ lists_by split.rows split.col of_values
  pub low : by_value.bound ≡ length split.rows
  pub few : length (concat by_value.lists) ≤ ROW_LIMIT
  pub ranked_are : places_of ≡ ranked (concat by_value.lists) split.map
