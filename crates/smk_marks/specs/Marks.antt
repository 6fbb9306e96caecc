-- Groups of selected rows by the marks that they reach: which rows a chain keeps, what it makes of each, and the grouping of these by marks in place of keys.
use Rattle.std.specs.{Prelude.{ℕ, pos, Bool, ◌&&◌, true, is_none, nat_eq, nat_lt, List, [], ◌∷◌, ◌++◌, length, map, take, slice_index_or}, List.{flat_map, filter}}
use Rattle.smk_base.specs.{Aggregates.read_by, Places.{Lists, list_at, places}, declared.value.Value.TheVariants.Int, declared.book.plan.Agg.Agg, Plans.{Selection, Projection, Expr, Leaf, Apply, Combine}}
use Rattle.smk_model.specs.{Values.{Row, meets}, Plain.{image, aggregate}, Lineage.{row_at, sub}}
use Rattle.smk_keys.specs.Classes.{first_items}

-- what the projections of a chain make of a row
abbrev pub made : Expr → Row → Row
made (Leaf table) row = row
made (Apply (Projection items) input) row = image items (made input row)
made (Combine op left right) row = made left row
made (Apply _ input) row = made input row

-- whether a row meets every formula of a chain, as what the chain has made of it by then
abbrev pub passes : Expr → Row → Bool
passes (Leaf table) row = true
passes (Apply (Selection formula) input) row = passes input row && meets formula (made input row)
passes (Combine op left right) row = passes left row
passes (Apply _ input) row = passes input row

-- the places in S whose list has a member
abbrev pub kept : Lists → List ℕ → List ℕ
kept forward S = filter (λ s. nat_lt 0 (length (list_at forward s))) S

-- the members of the lists at the places in S, one after the other
abbrev pub marks_at : Lists → List ℕ → List ℕ
marks_at forward S = flat_map (list_at forward) S

-- the rows at the places that have this mark
abbrev pub with_mark : List ℕ → List Row → ℕ → List Row
with_mark marks rows m = sub rows (places (λ i. nat_eq (slice_index_or marks i 0) m) (length rows))

-- the group of a mark: the key of the content's row at the mark, and the aggregates over the rows that have the mark
abbrev pub marked_group : ℕ → List Agg → List Row → List ℕ → List Row → ℕ → Row
marked_group k aggs content marks rows m = take k (row_at content m) ++ map (aggregate (with_mark marks rows m)) aggs

-- the groups of the marks, in the order in which each mark comes first
abbrev pub marked_groups : ℕ → List Agg → List Row → List ℕ → List Row → List Row
marked_groups k aggs content marks rows = map (marked_group k aggs content marks rows) (first_items nat_eq marks)

-- a row of a mark alone
abbrev pub mark_row : ℕ → Row
mark_row m = Int (pos m) ∷ []

-- whether an aggregate reads no column
abbrev pub reads_none : Agg → Bool
reads_none agg = is_none (read_by agg)
