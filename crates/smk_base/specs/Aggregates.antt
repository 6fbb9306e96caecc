-- Which column an aggregate reads, and how it is computed from partial results.
use Rattle.std.specs.Prelude.{ℕ, Option, Some, None}
use Rattle.smk_base.specs.{declared.book.plan.Agg.Agg, declared.book.plan.Agg.TheVariants.{Count, Sum, Min, Max}}

-- the column that an aggregate reads
abbrev pub read_by : Agg → Option ℕ
read_by Count = None
read_by (Sum c) = Some c
read_by (Min c) = Some c
read_by (Max c) = Some c

-- this aggregate, with another column to read
abbrev pub moved_to : ℕ → Agg → Agg
moved_to column Count = Count
moved_to column (Sum c) = Sum column
moved_to column (Min c) = Min column
moved_to column (Max c) = Max column

-- the aggregate that combines partial results in a column: applied to the results over the parts, it gives the result over all rows, since each aggregate here is distributive (Gray and others, Data Cube, 1997). Counts are summed
abbrev pub over_parts : ℕ → Agg → Agg
over_parts column Count = Sum column
over_parts column (Sum c) = Sum column
over_parts column (Min c) = Min column
over_parts column (Max c) = Max column
