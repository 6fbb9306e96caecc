-- What takes the place of a view, by what the view is.
use Rattle.std.proofs.{Common.{◌≡◌, ℕ, ◌<◌, ◌≤◌, true, List, length, refl, ap, sym, ◌∙◌, arith, Option, Some, None, inl, inr}, lemmas.Bool.cases_Bool}
use Rattle.smk_base.specs.{CatalogImage.catalog_image, Rels.Relation, declared.book.catalog.Catalog.Catalog}
use Rattle.smk_model.specs.{Appends.scans, NodeFaults.{FullRows, FullPairs}, Opening.{ViewFault, view_fault}, Plain.{table_at, whole}, Selection.{each_rows, row_limit, rows_in}, Session.{Workbook, view_at}}
use Rattle.smk_compose.specs.declared.kept_maps.Run.{Run}
use Rattle.smk_session.specs.{Opened.{IsStartFault, opened, workbook_image}, declared.start.fault.StartFault.StartFault, declared.start.fault.StartFault.TheVariants.{Rows, Pairs, NoMemory}}
use Rattle.smk_grow.specs.{Grown.{rows_of, first_tables}, Renewed.{apart_view, chains, kept_view, scan_fault, looks_apart}}
use Rattle.smk_grow.proofs.{Grown.{other_with, rows_is}, Renewed.{SameBut, chain_looks, chain_never_full, chains_scan}}

-- the first rows of a table leave the others as they are
pub same_but : (tables : List Relation) (t len : ℕ) → SameBut t (each_rows (first_tables tables t len)) (each_rows tables)
same_but tables t len u ne = other_with tables t u _ ne

-- a view is a growing chain exactly where it is given over the new rows alone

pub some_apart : (t : ℕ) (book : Workbook) (v : ℕ) (run : Run) → Some run ≡ apart_view t book v → (chains book.catalog t v ≡ true) × (run ≡ opened book v)
some_apart t book v run is = elim (cases_Bool (chains book.catalog t v)) [
  | inl held ↦ (let here : Some run ≡ Some (opened book v) = rw held at is in let same : run ≡ opened book v = cc in (held, same))
  | inr failed ↦ (let here : Some run ≡ None = rw failed at is in absurd (cc))
]

-- a view that scans the table

pub scan_fault_is : (t : ℕ) (book : Workbook) (v : ℕ) → scans book.catalog t v ≡ true → scan_fault t book v ≡ view_fault book v
scan_fault_is t book v held = rw held refl

-- until then it is what it was over the tables before

pub scan_kept : (t : ℕ) (before book : Workbook) (v : ℕ) → scans book.catalog t v ≡ true → kept_view t before book v ≡ opened before v
scan_kept t before book v held = rw held refl

-- a growing chain

pub chain_no_fault : (catalog : Catalog) (tables : List Relation) (t v : ℕ) → t < length tables → length (rows_of tables t) ≤ row_limit → chains (catalog_image catalog) t v ≡ true → scan_fault t (workbook_image catalog tables) v ≡ None
chain_no_fault catalog tables t v low few chained =
    let book = workbook_image catalog tables in
    let here : length (table_at book.tables t) ≤ row_limit = omega (arith, few, ap length (rows_is tables t low)) in
    scan_fault_is t book v (chains_scan book.catalog t v chained) ∙ chain_never_full book t v chained here

pub chain_apart_looks : (catalog : Catalog) (tables : List Relation) (t v : ℕ) → t < length tables → chains (catalog_image catalog) t v ≡ true
    → rows_in (whole (view_at (catalog_image catalog) v).plan (each_rows tables)) ≡ looks_apart t (catalog_image catalog) (length (rows_of tables t)) v
chain_apart_looks catalog tables t v low chained =
    chain_looks (workbook_image catalog tables) t v chained ∙ ap length (rows_is tables t low) ∙ rw chained refl

-- so memory is what is wanting where it isn't made

pub chain_view_fault : (catalog : Catalog) (tables : List Relation) (t v : ℕ) → t < length tables → length (rows_of tables t) ≤ row_limit → chains (catalog_image catalog) t v ≡ true → view_fault (workbook_image catalog tables) v ≡ None
chain_view_fault catalog tables t v low few chained =
    let book = workbook_image catalog tables in
    sym (scan_fault_is t book v (chains_scan book.catalog t v chained)) ∙ chain_no_fault catalog tables t v low few chained

pub no_fault : (fault : StartFault) (found : Option ViewFault) → found ≡ None → IsStartFault fault found → fault ≡ NoMemory
no_fault (Rows view node) found none is = let here : ◌≡◌ {A = Option ViewFault} (Some (record { view = view; fault = FullRows node })) None = sym is ∙ none in absurd (cc)
no_fault (Pairs view node table) found none is = let here : ◌≡◌ {A = Option ViewFault} (Some (record { view = view; fault = FullPairs node table })) None = sym is ∙ none in absurd (cc)
no_fault NoMemory found none is = refl
