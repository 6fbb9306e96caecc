-- What is kept for the backward declarations that ask for more than rows: a split for each column, and the groups of each grouping.
use Rattle.std.specs.{Prelude.{ℕ, Bool, true, false, List, Option, Some, None}, List.{filter, filter_map, position_or_len}}
use Rattle.smk_base.specs.{Places.Lists, Rels.Relation, declared.book.catalog.Back.Back, declared.book.catalog.BackExtra.BackExtra, declared.book.plan.Agg.Agg}
use Rattle.smk_base.specs.declared.book.catalog.BackExtra.TheVariants as extras
use Rattle.smk_model.specs.{Catalogs.table_kinds, Composed.backs, Plain.table_at, Replies.is_split, Session.{Workbook, view_at}, Typing.info_at, Workload.is_back}
use Rattle.smk_push.specs.Cubes.{cubes_of}
use Rattle.smk_skip.specs.Splits.{SplitImage}

-- the backward lists of a view to a table
abbrev pub backs_of : Workbook → ℕ → ℕ → Lists
backs_of book v t = backs (view_at book.catalog v).plan book.tables t

-- the rows of a table, with its kinds
abbrev pub table_of : Workbook → ℕ → Relation
table_of book t = record { kinds = table_kinds (info_at book.catalog.tables t); rows = table_at book.tables t }

-- these lists, split by a column of the table
abbrev pub split_on : Workbook → ℕ → ℕ → ℕ → SplitImage
split_on book v t c = record { map = backs_of book v t; rows = (table_of book t).rows; col = c }

-- a grouping of the rows of the table, made for each of these lists
abbrev pub cubes_on : Workbook → ℕ → ℕ → List ℕ → List Agg → List Relation
cubes_on book v t keys aggs = cubes_of (backs_of book v t) (table_of book t) keys aggs

-- the split, and the groups, that a declaration asks for besides the rows
abbrev pub split_for : Workbook → ℕ → ℕ → BackExtra → Option SplitImage
split_for book v t (extras.By column) = Some (split_on book v t column)
split_for book v t _ = None

abbrev pub cubes_for : Workbook → ℕ → ℕ → BackExtra → Option (List Relation)
cubes_for book v t (extras.Grouped keys aggs names kinds) = Some (cubes_on book v t keys aggs)
cubes_for book v t _ = None

-- the same, from the declaration itself
abbrev pub split_in : Workbook → Back → Option SplitImage
split_in book declared = split_for book declared.view declared.table declared.extra

abbrev pub cubes_in : Workbook → Back → Option (List Relation)
cubes_in book declared = cubes_for book declared.view declared.table declared.extra

-- one split for each column that is declared, and the groups of each declared grouping, in the order of the declarations
abbrev pub splits_of : Workbook → List SplitImage
splits_of book = filter_map (split_in book) book.catalog.backs

abbrev pub all_cubes : Workbook → List (List Relation)
all_cubes book = filter_map (cubes_in book) book.catalog.backs

-- whether a split is asked for, and whether groups
abbrev pub asks_split : BackExtra → Bool
asks_split (extras.By column) = true
asks_split _ = false

abbrev pub asks_groups : BackExtra → Bool
asks_groups (extras.Grouped keys aggs names kinds) = true
asks_groups _ = false

-- the place of the split of a view's backward query by a column among the splits of these declarations, or how many there are where there is none
abbrev pub split_place : ℕ → ℕ → ℕ → List Back → ℕ
split_place v t c declarations = position_or_len (is_split v t c) (filter (λ (declared : Back). asks_split declared.extra) declarations)

-- the place of the first grouping of a view's backward query among the groupings of these declarations, or how many there are where there is none
abbrev pub cubes_place : ℕ → ℕ → List Back → ℕ
cubes_place v t declarations = position_or_len (is_back v t) (filter (λ (declared : Back). asks_groups declared.extra) declarations)
