-- A session before and after a line that appends rows.
use Rattle.std.proofs.{Common.{◌≡◌, ℕ, ◌+◌, ◌<◌, ◌≤◌, Bool, true, false, cond, List, [], ◌++◌, length, refl, ap, sym, ◌∙◌, subst, arith, Option, Some, None, inl, inr}, lemmas.Bool.cases_Bool, lemmas.List.{length-append, length-map, length-set}}
use Rattle.std.specs.List.{filter, sum_by}
use Rattle.smk_base.specs.{CatalogImage.{CatalogImage, catalog_image}, Places.upto, Rels.Relation}
use Rattle.smk_model.specs.{Appends.{depends_on, is_too_long, longer_book, longer_fault, looks_of_longer, scanning, turn_at, turn_unless, looks_of_scan}, Looks.looks_of_back, Opening.{ViewFault, first_some, view_fault}, Selection.row_limit, Session.{State, Workbook}, Values.Row}
use Rattle.smk_compose.specs.declared.kept_maps.Run.{Run}
use Rattle.smk_session.specs.{Opened.{AreExtras, AreOpened, opened_views, opened, workbook_image}, Sessions.{IsSession, SessionImage, content_kept, state_of, workbook_of}}
use Rattle.smk_session.proofs.Shown.{none_in_force}
use Rattle.smk_grow.specs.{Grown.{rows_of, longer_tables}, Images.{lengthened, shortened, renewed, renewed_unless, grown_unless, next_image}, Renewals.IsGrown, Renewed.{kept_views, looks_apart, looks_again, looks_of_declared}}
use Rattle.smk_grow.proofs.{Folds.{looks_depending, looks_scanning}, Grown.{each_kinds_with, first_of_longer, longer_is, table_with}}

-- the longer tables are those of the longer book

abbrev book_of : CatalogImage → List (List Row) → Workbook
book_of catalog tables = record { catalog = catalog; tables = tables }

pub longer_workbook : (session : SessionImage) (t : ℕ) (more : List Row) → t < length session.tables → workbook_of (lengthened t more session) ≡ longer_book (catalog_image session.catalog) (state_of session) t more
longer_workbook session t more low = ap (λ (T : List (List Row)). book_of (catalog_image session.catalog) T) (longer_is session.tables t more low)

-- what is kept while the table is longer and nothing is made anew

pub grown_is : (session : SessionImage) (t : ℕ) (more : List Row) → IsSession session → t < length session.tables → length (rows_of session.tables t) + length more ≤ row_limit
    → IsGrown (lengthened t more session) t (length (rows_of session.tables t))
grown_is session t more keeps low few =
    let longer_rows : rows_of (longer_tables session.tables t more) t ≡ rows_of session.tables t ++ more = ap (λ (r : Relation). r.rows) (table_with session.tables t (rows_of session.tables t ++ more) low) in
    let long = ap (length {A = Row}) longer_rows ∙ length-append (rows_of session.tables t) more in
    record {
      views_are = ap (λ (T : List Relation). kept_views t (workbook_image session.catalog T) (workbook_of (lengthened t more session))) (sym (first_of_longer session.tables t more low));
      extras = subst (λ (T : List Relation). AreExtras session.catalog T session.splits session.cubes) (sym (first_of_longer session.tables t more low)) keeps.extras;
      kinds = each_kinds_with session.tables t (rows_of session.tables t ++ more) ∙ keeps.opened.kinds;
      table = omega (arith, low, length-set {A = Relation});
      within = omega (arith, long);
      few = omega (arith, long, few);
    }

-- and cut again, it is the session

abbrev pub with_tables : SessionImage → List Relation → SessionImage
with_tables session tables = record session { tables = tables }

abbrev pub placed : SessionImage → List Relation → List Run → SessionImage
placed session tables views = record session { tables = tables; views = views }

pub shortened_longer : (session : SessionImage) (t : ℕ) (more : List Row) → IsSession session → t < length session.tables → shortened t (length (rows_of session.tables t)) (lengthened t more session) ≡ session
shortened_longer session t more keeps low =
    ap (λ (T : List Relation). placed session T (opened_views (workbook_image session.catalog T))) (first_of_longer session.tables t more low)
    ∙ ap (placed session session.tables) (sym keeps.opened.views_are)

pub renewed_is : (found : Option ViewFault) (session : SessionImage) (t : ℕ) (more : List Row) → IsSession session → t < length session.tables
    → renewed_unless found t (length (rows_of session.tables t)) (lengthened t more session) ≡ grown_unless found t more session
renewed_is (Some found) session t more keeps low = shortened_longer session t more keeps low
renewed_is None session t more keeps low = refl

-- the fault and the looks

pub fault_is : (session : SessionImage) (t : ℕ) (more : List Row) → t < length session.tables
    → first_some (view_fault (workbook_of (lengthened t more session))) (scanning (catalog_image session.catalog) t) ≡ longer_fault (catalog_image session.catalog) (state_of session) t more
fault_is session t more low = ap (λ (book : Workbook). first_some (view_fault book) (scanning (catalog_image session.catalog) t)) (longer_workbook session t more low)

pub looks_are : (session : SessionImage) (t : ℕ) (more : List Row) (start between after : ℕ) → t < length session.tables
    → between ≤ start + sum_by (looks_apart t (catalog_image session.catalog) (length more)) (upto (length (catalog_image session.catalog).views))
    → after ≤ between + sum_by (looks_again t (workbook_of (lengthened t more session))) (upto (length (catalog_image session.catalog).views)) + sum_by (looks_of_declared t (workbook_of (lengthened t more session))) (catalog_image session.catalog).backs
    → after ≤ start + looks_of_longer (catalog_image session.catalog) (state_of session) t more
looks_are session t more start between after low first second =
    let catalog = catalog_image session.catalog in
    let book : Workbook = longer_book catalog (state_of session) t more in
    let n = length catalog.views in
    let same = longer_workbook session t more low in
    let again : sum_by (looks_again t (workbook_of (lengthened t more session))) (upto n) ≡ sum_by (looks_again t book) (upto n) = ap (λ (b : Workbook). sum_by (looks_again t b) (upto n)) same in
    let backs : sum_by (looks_of_declared t (workbook_of (lengthened t more session))) catalog.backs ≡ sum_by (looks_of_back book) (filter (depends_on catalog t) catalog.backs) =
    ap (λ (b : Workbook). sum_by (looks_of_declared t b) catalog.backs) same ∙ looks_depending t book catalog.backs in
    let views : sum_by (looks_apart t catalog (length more)) (upto n) + sum_by (looks_again t book) (upto n) ≡ sum_by (looks_of_scan catalog (state_of session) t more) (scanning catalog t) = looks_scanning t (length more) book n in
    let all : looks_of_longer catalog (state_of session) t more ≡ sum_by (looks_of_scan catalog (state_of session) t more) (scanning catalog t) + sum_by (looks_of_back book) (filter (depends_on catalog t) catalog.backs) = refl in
    omega (arith, first, second, again, backs, views, all)

-- the answer and the next session

grown_keeps : (found : Option ViewFault) (session : SessionImage) (t : ℕ) (more : List Row) → IsSession session → t < length session.tables → IsSession (grown_unless found t more session)
grown_keeps (Some found) session t more keeps low = keeps
grown_keeps None session t more keeps low =
    let longer_one = lengthened t more session in
    let book = workbook_of longer_one in
    let o : AreOpened session.catalog longer_one.tables (opened_views book) = record {
      checked = keeps.opened.checked;
      kinds = each_kinds_with session.tables t (rows_of session.tables t ++ more) ∙ keeps.opened.kinds;
      views_are = refl;
    } in
    let count : length session.contents ≡ length (opened_views book) =
    ap (length {A = Option Relation}) keeps.in_force.contents_are
    ∙ length-map (upto (length book.catalog.views)) (content_kept book.catalog (state_of session))
    ∙ sym (length-map (upto (length book.catalog.views)) (opened book)) in
    record {
      opened = o;
      extras = record { splits_are = refl; cubes_are = refl };
      in_force = none_in_force session.catalog longer_one.tables (opened_views book) (renewed longer_one).contents (length session.contents) o count refl;
      some_workers = keeps.some_workers;
      few_workers = keeps.few_workers;
    }

pub next_keeps : (session : SessionImage) (t : ℕ) (more : List Row) → IsSession session → t < length session.tables → IsSession (next_image session t more)
next_keeps session t more keeps low = by (is_too_long (state_of session) t more)
  where
    by : (long : Bool) → IsSession (cond long session (grown_unless (longer_fault (catalog_image session.catalog) (state_of session) t more) t more session))
    by true = keeps
    by false = grown_keeps (longer_fault (catalog_image session.catalog) (state_of session) t more) session t more keeps low

abbrev state_at : List (List Row) → State
state_at tables = record { tables = tables; brushes = [] }

grown_state : (found : Option ViewFault) (session : SessionImage) (t : ℕ) (more : List Row) → t < length session.tables
    → state_of (grown_unless found t more session) ≡ (turn_unless (catalog_image session.catalog) (state_of session) t more found).next
grown_state (Some found) session t more low = refl
grown_state None session t more low = ap (λ (T : List (List Row)). state_at T) (longer_is session.tables t more low)

pub next_state : (session : SessionImage) (t : ℕ) (more : List Row) → t < length session.tables → state_of (next_image session t more) ≡ (turn_at (catalog_image session.catalog) (state_of session) more (Some t)).next
next_state session t more low = elim (cases_Bool (is_too_long (state_of session) t more)) [
  | inl long ↦ rw long refl
  | inr short ↦ rw short (grown_state (longer_fault (catalog_image session.catalog) (state_of session) t more) session t more low)
]
