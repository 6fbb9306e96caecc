-- A view that is a growing chain, as the run of its plan.
use Rattle.std.proofs.Common.{◌≡◌, ℕ, ◌<◌, true, List, [], length, take, drop, set, ap, sym, ◌∙◌, subst}
use Rattle.smk_base.specs.{CatalogImage.{ViewImage, catalog_image, view_image}, PlanImage.expr_of, Plans.Expr, Rels.Relation, declared.book.catalog.Catalog.Catalog, declared.book.catalog.ViewInfo.ViewInfo, declared.book.need.Needed.Needed, declared.value.Kind.Kind}
use Rattle.smk_model.specs.{Catalogs.{ViewFits, each_table_kinds}, Growth.is_growing, LineageLaws.selected_table, Plain.table_at, Selection.{PlanFits, each_kinds, each_rows, leaf_kinds, plan_kinds}, Session.view_at, Values.Row, Workload.needs}
use Rattle.smk_chain.specs.Runs.{run_over, tables_before, tables_behind}
use Rattle.smk_compose.specs.declared.kept_maps.Run.{Run}
use Rattle.smk_session.specs.Opened.{opened, workbook_image}
use Rattle.smk_grow.specs.{Grown.{rows_of, with_rows, first_tables, last_tables}, Renewed.chains}
use Rattle.smk_grow.proofs.{Grown.{each_rows_with, rows_is}, Renewed.{book_over, chain_table, chains_grow}}

-- what a view of a checked book is, and the table that it scans

pub record IsChain (catalog : Catalog) (tables : List Relation) (t v : ℕ) (view : ViewInfo) (need : List Needed) : Type 0 where
  pub is : view_image view ≡ view_at (catalog_image catalog) v
  pub fits : ViewFits catalog.tables (view_image view)
  pub kinds : each_kinds tables ≡ each_table_kinds catalog.tables
  pub needed : need ≡ needs (catalog_image catalog) v
  pub table : t < length tables
  pub chained : chains (catalog_image catalog) t v ≡ true

pub chain_of : (catalog held : Catalog) (tables : List Relation) (t v : ℕ) (view : ViewInfo) (need : List Needed) → held ≡ catalog → view_image view ≡ view_at (catalog_image held) v → ViewFits held.tables (view_image view)
    → each_kinds tables ≡ each_table_kinds catalog.tables → need ≡ needs (catalog_image catalog) v → t < length tables → chains (catalog_image catalog) t v ≡ true → IsChain catalog tables t v view need
chain_of catalog held tables t v view need same is fits kinds needed low chained = record {
  is = is ∙ ap (λ (c : Catalog). view_at (catalog_image c) v) same;
  fits = subst (λ (c : Catalog). ViewFits c.tables (view_image view)) same fits;
  kinds = kinds;
  needed = needed;
  table = low;
  chained = chained;
}

pub chain_grows : (catalog : Catalog) (tables : List Relation) (t v : ℕ) (view : ViewInfo) (need : List Needed) → IsChain catalog tables t v view need → is_growing (expr_of view.plan) ≡ true
chain_grows catalog tables t v view need c = ap (λ (w : ViewImage). is_growing w.plan) c.is ∙ chains_grow (catalog_image catalog) t v c.chained

pub chain_scans : (catalog : Catalog) (tables : List Relation) (t v : ℕ) (view : ViewInfo) (need : List Needed) → IsChain catalog tables t v view need → t ≡ selected_table (expr_of view.plan)
chain_scans catalog tables t v view need c = chain_table (catalog_image catalog) t v c.chained ∙ ap (λ (w : ViewImage). selected_table w.plan) (sym c.is)

pub chain_fits : (catalog : Catalog) (tables : List Relation) (t v : ℕ) (view : ViewInfo) (need : List Needed) → IsChain catalog tables t v view need → PlanFits (expr_of view.plan) (leaf_kinds (expr_of view.plan) (each_kinds tables))
chain_fits catalog tables t v view need c = subst (λ (K : List (List Kind)). PlanFits (expr_of view.plan) (leaf_kinds (expr_of view.plan) K)) (sym c.kinds) c.fits.fits

-- it is the run of its plan, over any rows

abbrev run_with : List Kind → Expr → List (List Row) → List Needed → Run
run_with kinds plan T need = record (run_over plan [] T need) { rel = record (run_over plan [] T need).rel { kinds = kinds } }

abbrev opened_as : ViewImage → List (List Row) → List Needed → Run
opened_as view T need = run_with view.kinds view.plan T need

pub opened_is : (catalog : Catalog) (tables : List Relation) (t v : ℕ) (view : ViewInfo) (need : List Needed) (T : List (List Row)) → IsChain catalog tables t v view need
    → opened (book_over (catalog_image catalog) T) v ≡ run_over (expr_of view.plan) (each_kinds tables) T need
opened_is catalog tables t v view need T c =
    let plan = expr_of view.plan in
    let kinds : plan_kinds plan (leaf_kinds plan (each_kinds tables)) ≡ view.kinds = ap (λ (K : List (List Kind)). plan_kinds plan (leaf_kinds plan K)) c.kinds ∙ c.fits.kinds in
    ap (λ (w : ViewImage). opened_as w T (needs (catalog_image catalog) v)) (sym c.is)
    ∙ ap (opened_as (view_image view) T) (sym c.needed)
    ∙ ap (λ (k : List Kind). run_with k plan T need) (sym kinds)

-- over the first rows of its table, and over those behind them

rows_with : (tables : List Relation) (t s : ℕ) (part : List Row → List Row) → t < length tables → t ≡ s
    → each_rows (with_rows tables t (part (rows_of tables t))) ≡ set (each_rows tables) s (part (table_at (each_rows tables) s))
rows_with tables t s part low same =
    each_rows_with tables t (part (rows_of tables t))
    ∙ ap (λ (l : List Row). set (each_rows tables) t (part l)) (sym (rows_is tables t low))
    ∙ ap (λ (u : ℕ). set (each_rows tables) u (part (table_at (each_rows tables) u))) same

pub before_is : (catalog : Catalog) (tables : List Relation) (t v len : ℕ) (view : ViewInfo) (need : List Needed) (old : Run) → IsChain catalog tables t v view need → old ≡ opened (workbook_image catalog (first_tables tables t len)) v
    → old ≡ run_over (expr_of view.plan) (each_kinds tables) (tables_before (each_rows tables) (selected_table (expr_of view.plan)) len) need
before_is catalog tables t v len view need old c is =
    is ∙ opened_is catalog tables t v view need (each_rows (first_tables tables t len)) c
    ∙ ap (λ (T : List (List Row)). run_over (expr_of view.plan) (each_kinds tables) T need) (rows_with tables t (selected_table (expr_of view.plan)) (take len) c.table (chain_scans catalog tables t v view need c))

pub behind_is : (catalog : Catalog) (tables : List Relation) (t v len : ℕ) (view : ViewInfo) (need : List Needed) (new : Run) → IsChain catalog tables t v view need → new ≡ opened (workbook_image catalog (last_tables tables t len)) v
    → new ≡ run_over (expr_of view.plan) (each_kinds tables) (tables_behind (each_rows tables) (selected_table (expr_of view.plan)) len) need
behind_is catalog tables t v len view need new c is =
    is ∙ opened_is catalog tables t v view need (each_rows (last_tables tables t len)) c
    ∙ ap (λ (T : List (List Row)). run_over (expr_of view.plan) (each_kinds tables) T need) (rows_with tables t (selected_table (expr_of view.plan)) (drop len) c.table (chain_scans catalog tables t v view need c))

pub chain_long : (catalog : Catalog) (tables : List Relation) (t v : ℕ) (view : ViewInfo) (need : List Needed) → IsChain catalog tables t v view need
    → length (table_at (each_rows tables) (selected_table (expr_of view.plan))) ≡ length (rows_of tables t)
chain_long catalog tables t v view need c =
    ap (λ (u : ℕ). length (table_at (each_rows tables) u)) (sym (chain_scans catalog tables t v view need c)) ∙ ap length (rows_is tables t c.table)
