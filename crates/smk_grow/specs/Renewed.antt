-- What replaces what a session keeps when a table has grown.
use Rattle.std.specs.Prelude.{ℕ, Bool, cond, ◌&&◌, List, [], ◌∷◌, length, get_or, map, set, Option, Some, None, option_map}
use Rattle.smk_base.specs.{CatalogImage.CatalogImage, Places.{empty_lists, upto}, Rels.Relation, declared.book.catalog.Back.Back}
use Rattle.smk_model.specs.{Appends.{depends_on, scans}, Growth.is_growing, Looks.looks_of_back, Opening.{ViewFault, view_fault}, Plain.whole, Selection.rows_in, Session.{Workbook, view_at}}
use Rattle.smk_compose.specs.{declared.kept_maps.KeptMap.KeptMap, declared.kept_maps.Run.Run}
use Rattle.smk_skip.specs.Splits.{SplitImage}
use Rattle.smk_session.specs.{Kept.is_of_table, Extras.{split_in, cubes_in}, Making.{is_wanted, newer}, Opened.opened}

-- the values, each replaced by a fresh one if there is one
abbrev pub replaced : {A : Type 0} → List (Option A) → List A → List A
replaced [] olds = olds
replaced (fresh ∷ more) [] = []
replaced (fresh ∷ more) (old ∷ olds) = newer fresh old ∷ replaced more olds

-- the values, with one replaced by a fresh one if there is one
abbrev pub put_at : {A : Type 0} → List A → ℕ → Option A → List A
put_at olds i (Some fresh) = set olds i fresh
put_at olds i None = olds

-- whether a view is a growing chain on a table
abbrev pub chains : CatalogImage → ℕ → ℕ → Bool
chains catalog t v = scans catalog t v && is_growing (view_at catalog v).plan

-- a view that is a growing chain, over the new rows alone
abbrev pub apart_view : ℕ → Workbook → ℕ → Option Run
apart_view t book v = cond (chains book.catalog t v) (Some (opened book v)) None

-- a view over the longer table, if it scans the table
abbrev pub fresh_view : ℕ → Workbook → ℕ → Option Run
fresh_view t book v = cond (scans book.catalog t v) (Some (opened book v)) None

-- a view until then: over the tables before if it scans the table, else already over those with the longer table
abbrev pub kept_view : ℕ → Workbook → Workbook → ℕ → Run
kept_view t before book v = opened (cond (scans book.catalog t v) before book) v

abbrev pub kept_views : ℕ → Workbook → Workbook → List Run
kept_views t before book = map (kept_view t before book) (upto (length book.catalog.views))

-- the lineage of a view of so many rows that doesn't scan a table, once the table has so many: as many empty lists
abbrev pub moved_kept : ℕ → ℕ → ℕ → KeptMap → KeptMap
moved_kept t rows size kept = cond (is_of_table t kept) (record { table = kept.table; back = option_map (λ map. empty_lists rows size) kept.back; fwd = option_map (λ map. empty_lists size rows) kept.fwd }) kept

abbrev pub moved_view : ℕ → ℕ → Run → Run
moved_view t size run = record { rel = run.rel; kept = map (moved_kept t (length run.rel.rows) size) run.kept }

-- the views, with the lineage of those that don't scan the table once it has so many rows
abbrev pub no_view : Run
no_view = record { rel = record { kinds = []; rows = [] }; kept = [] }

abbrev pub view_in : List Run → ℕ → Run
view_in views v = get_or views v no_view

abbrev pub moved_at : CatalogImage → ℕ → ℕ → List Run → ℕ → Run
moved_at catalog t size views v = cond (scans catalog t v) (view_in views v) (moved_view t size (view_in views v))

abbrev pub moved_views : CatalogImage → ℕ → ℕ → List Run → List Run
moved_views catalog t size views = map (moved_at catalog t size views) (upto (length views))

-- what a declaration asks for besides the rows, over the longer table, if it depends on the table
abbrev pub if_depends : {A : Type 0} → Bool → A → Option A
if_depends depends made = cond depends (Some made) None

abbrev pub fresh_split : ℕ → Workbook → Back → Option (Option SplitImage)
fresh_split t book declared = option_map (if_depends (depends_on book.catalog t declared)) (split_in book declared)

abbrev pub fresh_cubes : ℕ → Workbook → Back → Option (Option (List Relation))
fresh_cubes t book declared = option_map (if_depends (depends_on book.catalog t declared)) (cubes_in book declared)

-- what a declaration asks for, made anew, where it may be that no table has grown
abbrev pub split_again : Option ℕ → Workbook → Back → Option (Option SplitImage)
split_again grown book declared = option_map (if_depends (is_wanted book.catalog grown declared)) (split_in book declared)

abbrev pub cubes_again : Option ℕ → Workbook → Back → Option (Option (List Relation))
cubes_again grown book declared = option_map (if_depends (is_wanted book.catalog grown declared)) (cubes_in book declared)

-- the fault of a view, if it scans the table
abbrev pub scan_fault : ℕ → Workbook → ℕ → Option ViewFault
scan_fault t book v = cond (scans book.catalog t v) (view_fault book v) None

-- the looks for a view over only so many new rows, and for one that is evaluated again
abbrev pub looks_apart : ℕ → CatalogImage → ℕ → ℕ → ℕ
looks_apart t catalog more v = cond (chains catalog t v) more 0

abbrev pub looks_again : ℕ → Workbook → ℕ → ℕ
looks_again t book v = cond (chains book.catalog t v) 0 (cond (scans book.catalog t v) (rows_in (whole (view_at book.catalog v).plan book.tables)) 0)

-- the looks for what a declaration asks for besides the rows
abbrev pub looks_of_declared : ℕ → Workbook → Back → ℕ
looks_of_declared t book declared = cond (depends_on book.catalog t declared) (looks_of_back book declared) 0
