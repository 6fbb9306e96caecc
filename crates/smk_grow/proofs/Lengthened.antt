-- A session with a longer table, of which nothing is made anew yet.
use Rattle.std.proofs.Common.{◌≡◌, ℕ, ◌+◌, ◌<◌, ◌≤◌, List, length, map, set, ap, sym, ◌∙◌, subst, arith, Option, Result, Ok, Err, IfOk, OnOk, OnErr}
use Rattle.std.specs.List.{sum_by}
use Rattle.smk_base.specs.{CatalogImage.catalog_image, Places.upto, Rels.Relation}
use Rattle.smk_model.specs.{Appends.{longer_fault, looks_of_longer, scanning}, Opening.{ViewFault, first_some, view_fault}, Selection.row_limit, Session.Workbook, Values.Row}
use Rattle.smk_compose.specs.{Fetched.table_of, declared.kept_maps.Run.Run}
use Rattle.smk_session.specs.{Opened.workbook_image, Sessions.{IsSession, SessionImage, state_of, workbook_of}}
use Rattle.smk_grow.specs.{Grown.{rows_of, first_tables, longer_tables}, Images.{grown_unless, lengthened, renewed_unless, shortened, told_unless}, Renewals.{IsGrown, IsLengthened, last_of}, Renewed.{apart_view, looks_again, looks_apart, looks_of_declared, moved_views}}
use Rattle.smk_grow.proofs.{Grown.last_of_longer, Images.{fault_is, grown_is, looks_are, placed, renewed_is, shortened_longer}, Moved.{moved_back, moved_longer}}

-- more rows behind those of a table, with the views moved that don't scan it, and back

pub lengthened_parts : (session : SessionImage) (t size : ℕ) (more : List Row) (tables : List Relation) (views : List Run) → IsSession session → t < length session.tables
    → tables ≡ longer_tables session.tables t more → size ≡ length (rows_of tables t) → views ≡ moved_views (catalog_image session.catalog) t size session.views → placed session tables views ≡ lengthened t more session
lengthened_parts session t size more tables views keeps low tables_are long views_are =
    let size_is = long ∙ ap (λ (T : List Relation). length (rows_of T t)) tables_are in
    ap (λ (T : List Relation). placed session T views) tables_are
    ∙ ap (placed session (longer_tables session.tables t more)) (views_are ∙ moved_longer session.catalog session.tables t size more session.views low size_is keeps.opened.views_are)

pub shortened_parts : (session : SessionImage) (t len : ℕ) (tables : List Relation) (views : List Run) → IsGrown session t len
    → tables ≡ first_tables session.tables t len → views ≡ moved_views (catalog_image session.catalog) t len session.views → placed session tables views ≡ shortened t len session
shortened_parts session t len tables views grown tables_are views_are =
    ap (λ (T : List Relation). placed session T views) tables_are
    ∙ ap (placed session (first_tables session.tables t len)) (views_are ∙ moved_back session.catalog session.tables t len session.views grown.table grown.within grown.views_are)

-- a session lengthened so

pub lengthened_one : {session near parts : SessionImage} {t len : ℕ} {more taken : Relation} → near ≡ session → taken ≡ more → IsLengthened near parts t len taken.rows → IsLengthened session parts t len more.rows
lengthened_one {session} {near} {parts} {t} {len} {more} {taken} near_is taken_is l =
    subst (λ (i : SessionImage). IsLengthened i parts t len more.rows) near_is (subst (λ (r : Relation). IsLengthened near parts t len r.rows) taken_is l)

pub lengthened_grown : {session parts : SessionImage} {t len : ℕ} {more : List Row} → IsLengthened session parts t len more → length (rows_of session.tables t) + length more ≤ row_limit → IsGrown parts t len
lengthened_grown {session} {parts} {t} {len} {more} l few =
    subst (λ (i : SessionImage). IsGrown i t len) (sym l.same) (subst (λ (n : ℕ). IsGrown (lengthened t more session) t n) (sym l.long) (grown_is session t more l.keeps l.low few))

pub lengthened_apart : (session parts : SessionImage) (t len : ℕ) (more : Relation) → IsLengthened session parts t len more.rows → more.kinds ≡ (table_of session.tables t).kinds
    → map (apart_view t (workbook_image session.catalog (set session.tables t more))) (upto (length (catalog_image session.catalog).views)) ≡ map (apart_view t (last_of parts t len)) (upto (length (catalog_image parts.catalog).views))
lengthened_apart session parts t len more l kinds =
    let last =
    ap (λ (i : SessionImage). last_of i t len) l.same
    ∙ ap (λ (n : ℕ). last_of (lengthened t more.rows session) t n) l.long
    ∙ ap (λ (T : List Relation). workbook_image session.catalog T) (last_of_longer session.tables t more l.low kinds) in
    ap (λ (book : Workbook). map (apart_view t book) (upto (length (catalog_image session.catalog).views))) (sym last)
    ∙ ap (λ (i : SessionImage). map (apart_view t (last_of parts t len)) (upto (length (catalog_image i.catalog).views))) (sym l.same)

abbrev pub fault_in : ℕ → SessionImage → Option ViewFault
fault_in t session = first_some (view_fault (workbook_of session)) (scanning (catalog_image session.catalog) t)

pub lengthened_fault : {session parts : SessionImage} {t len : ℕ} {more : List Row} → IsLengthened session parts t len more → fault_in t parts ≡ longer_fault (catalog_image session.catalog) (state_of session) t more
lengthened_fault {session} {parts} {t} {len} {more} l = ap (fault_in t) l.same ∙ fault_is session t more l.low

pub lengthened_after : {session parts : SessionImage} {t len : ℕ} {more : List Row} → IsLengthened session parts t len more
    → renewed_unless (fault_in t parts) t len parts ≡ grown_unless (longer_fault (catalog_image session.catalog) (state_of session) t more) t more session
lengthened_after {session} {parts} {t} {len} {more} l =
    ap (λ (found : Option ViewFault). renewed_unless found t len parts) (lengthened_fault l)
    ∙ ap (λ (i : SessionImage). renewed_unless (longer_fault (catalog_image session.catalog) (state_of session) t more) t len i) l.same
    ∙ ap (λ (n : ℕ). renewed_unless (longer_fault (catalog_image session.catalog) (state_of session) t more) t n (lengthened t more session)) l.long
    ∙ renewed_is (longer_fault (catalog_image session.catalog) (state_of session) t more) session t more l.keeps l.low

pub lengthened_told : {session parts : SessionImage} {t len rows : ℕ} {more : List Row} → IsLengthened session parts t len more → rows ≡ length more
    → told_unless (fault_in t parts) rows (scanning (catalog_image parts.catalog) t) ≡ told_unless (longer_fault (catalog_image session.catalog) (state_of session) t more) (length more) (scanning (catalog_image session.catalog) t)
lengthened_told {session} {parts} {t} {len} {rows} {more} l count =
    ap (λ (found : Option ViewFault). told_unless found rows (scanning (catalog_image parts.catalog) t)) (lengthened_fault l)
    ∙ ap (λ (i : SessionImage). told_unless (longer_fault (catalog_image session.catalog) (state_of session) t more) rows (scanning (catalog_image i.catalog) t)) l.same
    ∙ ap (λ (n : ℕ). told_unless (longer_fault (catalog_image session.catalog) (state_of session) t more) n (scanning (catalog_image session.catalog) t)) count

pub lengthened_kept : {session parts : SessionImage} {t len : ℕ} {more : List Row} → IsLengthened session parts t len more → shortened t len parts ≡ session
lengthened_kept {session} {parts} {t} {len} {more} l =
    ap (shortened t len) l.same ∙ ap (λ (n : ℕ). shortened t n (lengthened t more session)) l.long ∙ shortened_longer session t more l.keeps l.low

pub lengthened_looks : {session parts : SessionImage} {t len : ℕ} {more : List Row} (start between after : ℕ) → IsLengthened session parts t len more
    → between ≤ start + sum_by (looks_apart t (catalog_image session.catalog) (length more)) (upto (length (catalog_image session.catalog).views))
    → after ≤ between + sum_by (looks_again t (workbook_of parts)) (upto (length (workbook_of parts).catalog.views)) + sum_by (looks_of_declared t (workbook_of parts)) (workbook_of parts).catalog.backs
    → after ≤ start + looks_of_longer (catalog_image session.catalog) (state_of session) t more
lengthened_looks {session} {parts} {t} {len} {more} start between after l first second =
    looks_are session t more start between after l.low first
    (subst (λ (i : SessionImage). after ≤ between + sum_by (looks_again t (workbook_of i)) (upto (length (workbook_of i).catalog.views)) + sum_by (looks_of_declared t (workbook_of i)) (workbook_of i).catalog.backs) l.same second)

-- before it is longer the looks are not more than after it

pub first_looks : (session : SessionImage) (t : ℕ) (more : List Row) (start between : ℕ) → t < length session.tables
    → between ≤ start + sum_by (looks_apart t (catalog_image session.catalog) (length more)) (upto (length (catalog_image session.catalog).views))
    → between ≤ start + looks_of_longer (catalog_image session.catalog) (state_of session) t more
first_looks session t more start between low first = looks_are session t more start between between low first (omega arith)

-- what an answer says of the same

pub ok_same : {A E X : Type 0} (r : Result A E) (x : X) {y z : X} → y ≡ z → OnOk r (x ≡ y) → OnOk r (x ≡ z)
ok_same (Ok told) x same h = h ∙ same
ok_same (Err error) x same h = tt

pub err_same : {A E X : Type 0} (r : Result A E) (x : X) {y z : X} → y ≡ z → OnErr r (x ≡ y) → OnErr r (x ≡ z)
err_same (Ok told) x same h = tt
err_same (Err error) x same h = h ∙ same

pub told_same : {A B E : Type 0} (r : Result A E) (f : A → B) {y z : B} → y ≡ z → IfOk r (λ told. f told ≡ y) → IfOk r (λ told. f told ≡ z)
told_same (Ok told) f same h = h ∙ same
told_same (Err error) f same h = tt
