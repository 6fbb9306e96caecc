-- What is so of the calls that make views, splits and groupings over a longer table.
use Rattle.std.specs.{Prelude.{◌≡◌, ◌<◌, ◌≤◌, ℕ, List, length, map}, List.filter_map}
use Rattle.smk_base.specs.Places.{upto}
use Rattle.smk_model.specs.{Appends.scanning, Catalogs.each_table_kinds, Selection.{each_kinds, row_limit}, Session.Workbook, Values.Row}
use Rattle.smk_session.specs.{Opened.{AreExtras, workbook_image}, Sessions.{IsSession, SessionImage, workbook_of}}
use Rattle.smk_grow.specs.{Grown.{rows_of, first_tables, last_tables}, Images.lengthened, Renewed.{fresh_view, fresh_split, fresh_cubes, kept_views}, declared.renewal.Renewal.Renewal, declared.renewing.Fresh.Fresh}

-- a checked book over tables of its kinds, one of which grows
pub record IsRenewal (renewal : Renewal) : Type 0 where
  pub kinds : each_kinds renewal.tables.now ≡ each_table_kinds renewal.book.now.tables
  pub table : renewal.table < length renewal.tables.now
  pub within : renewal.len ≤ length (rows_of renewal.tables.now renewal.table)
  pub few : length (rows_of renewal.tables.now renewal.table) ≤ row_limit

-- the book over the tables, over those with only the old rows of the one, and over those with only its new rows
abbrev pub book_of : Renewal → Workbook
book_of renewal = workbook_image renewal.book.now renewal.tables.now

abbrev pub first_book : Renewal → Workbook
first_book renewal = workbook_image renewal.book.now (first_tables renewal.tables.now renewal.table renewal.len)

abbrev pub last_book : Renewal → Workbook
last_book renewal = workbook_image renewal.book.now (last_tables renewal.tables.now renewal.table renewal.len)

-- what replaces what is kept over the tables without the new rows, and the views that scan the table
pub record IsFresh (t : ℕ) (book : Workbook) (fresh : Fresh) : Type 0 where
  pub views : fresh.views.items ≡ map (fresh_view t book) (upto (length book.catalog.views))
  pub splits : fresh.extras.splits.items ≡ filter_map (fresh_split t book) book.catalog.backs
  pub cubes : fresh.extras.cubes.items ≡ filter_map (fresh_cubes t book) book.catalog.backs
  pub scanning : fresh.scanning ≡ scanning book.catalog t

-- a session before and after rows are added to a table with so many; nothing is made anew yet
pub record IsLengthened (session parts : SessionImage) (t len : ℕ) (more : List Row) : Type 0 where
  pub keeps : IsSession session
  pub same : parts ≡ lengthened t more session
  pub long : len ≡ length (rows_of session.tables t)
  pub low : t < length session.tables

-- a session whose table is longer already: except for the views that don't scan it, it still keeps what it kept for the table with only so many rows
pub record IsGrown (session : SessionImage) (t len : ℕ) : Type 0 where
  pub views_are : session.views ≡ kept_views t (workbook_image session.catalog (first_tables session.tables t len)) (workbook_of session)
  pub extras : AreExtras session.catalog (first_tables session.tables t len) session.splits session.cubes
  pub kinds : each_kinds session.tables ≡ each_table_kinds session.catalog.tables
  pub table : t < length session.tables
  pub within : len ≤ length (rows_of session.tables t)
  pub few : length (rows_of session.tables t) ≤ row_limit

abbrev pub last_of : SessionImage → ℕ → ℕ → Workbook
last_of session t len = workbook_image session.catalog (last_tables session.tables t len)
