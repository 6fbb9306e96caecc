-- Worked by hand: a plan with its lineage, a whole run from bytes, words, the table of a file, a record, and texts in quotes.
use Rattle.std.specs.{Prelude.{◌≡◌, ℕ, pos, negsuc, true, nat_eq, cond, List, [], ◌∷◌, ◌++◌, Some, None, Ok, Err, codes, false}, Cmp.Lexicographic.pointwise}
use Rattle.smk_base.specs.{declared.value.Kind.Kind, declared.value.Value.Value, declared.value.Value.TheVariants.{Int, Text}, declared.fault.Fault.TheVariants.Usage, declared.book.col_decl.ColDecl.ColDecl, declared.book.plan.Agg.TheVariants.{Count, Sum}, CatalogImage.{CatalogImage, ViewImage}, Plans.{Grouping, Equijoin, Expr, Apply, Combine, Leaf}, declared.book.token.TokenKind.TheVariants.{Str, Bad, End}}
use Rattle.smk_base.specs.declared.value.Kind.TheVariants as kinds
use Rattle.smk_base.specs.declared.book.catalog.BackExtra.TheVariants as extras
use Rattle.smk_base.specs.declared.book.tree.Line.TheVariants as lines
use Rattle.smk_base.specs.declared.book.tree.Marks.TheVariants as markings
use Rattle.smk_base.specs.declared.book.tree.Then.TheVariants as thens
use Rattle.smk_model.specs.{Values.Row, Plain.whole, Annotated.{back, fwd, pairs}, Composed.{rows_over, backs, forwards}, Readings.{Reading, plain_reading}, Session.Workbook, Reports.Report, Words.{Inject, Files, Demo, Settings, invocation_of}, TalkWords.talk_call_of, Tables.table_of, Texts.record_line, Outcome.{Held, Inputs, ReadsFiles, Outcome}, Tokens.{tokens, string_len}}

abbrev pub int : ℕ → Value
int n = Int (pos n)

abbrev pub north : Value
north = Text (codes "north")

abbrev pub south : Value
south = Text (codes "south")

abbrev pub east : Value
east = Text (codes "east")

-- id, region and amount of each sale
abbrev pub sales : List Row
sales = (int 1 ∷ north ∷ int 10 ∷ []) ∷ (int 2 ∷ south ∷ int 20 ∷ []) ∷ (int 3 ∷ north ∷ int 30 ∷ []) ∷ (int 4 ∷ east ∷ int 5 ∷ []) ∷ []

-- name and zone of each region
abbrev pub regions : List Row
regions = (north ∷ Text (codes "A") ∷ []) ∷ (south ∷ Text (codes "B") ∷ []) ∷ (east ∷ Text (codes "A") ∷ []) ∷ []

abbrev pub tables : List (List Row)
tables = sales ∷ regions ∷ []

-- number and total by region
abbrev pub by_region : Expr
by_region = Apply (Grouping (1 ∷ []) (Count ∷ Sum 2 ∷ [])) (Leaf 0)

-- the total by zone
abbrev pub by_zone : Expr
by_zone = Apply (Grouping (4 ∷ []) (Sum 2 ∷ [])) (Combine (Equijoin ((1, 0) ∷ [])) (Leaf 0) (Leaf 1))

-- the rows of a grouping over a join, and where they come from
pub record PlanHolds : Type 0 where
  pub rows : rows_over by_zone tables ≡ (Text (codes "A") ∷ int 45 ∷ []) ∷ (Text (codes "B") ∷ int 20 ∷ []) ∷ []
  -- the sales and the regions behind each zone, and the zones that each of them is in
  pub sales_behind : (backs by_zone tables 0).lists ≡ (0 ∷ 2 ∷ 3 ∷ []) ∷ (1 ∷ []) ∷ []
  pub regions_behind : (backs by_zone tables 1).lists ≡ (0 ∷ 2 ∷ []) ∷ (1 ∷ []) ∷ []
  pub zones_of_sales : (forwards by_zone tables 0).lists ≡ (0 ∷ []) ∷ (1 ∷ []) ∷ (0 ∷ []) ∷ (0 ∷ []) ∷ []
  pub zones_of_regions : (forwards by_zone tables 1).lists ≡ (0 ∷ []) ∷ (1 ∷ []) ∷ (0 ∷ []) ∷ []
  -- the regions behind both zones, in any order, and the zone of two sales
  pub behind_both : back by_zone (whole by_zone tables) (1 ∷ 0 ∷ []) 1 3 ≡ 0 ∷ 1 ∷ 2 ∷ []
  pub of_two : fwd by_zone (whole by_zone tables) (3 ∷ 0 ∷ []) 0 ≡ 0 ∷ []
  pub pairs_are : pairs by_zone (whole by_zone tables) 0 4 ≡ 4

abbrev pub int_column : List ℕ → ColDecl
int_column name = record { name = name; kind = kinds.Int 0; def = None }

abbrev pub text_column : List ℕ → ColDecl
text_column name = record { name = name; kind = kinds.Text; def = None }

abbrev pub view_of : List ℕ → Expr → List (List ℕ) → List Kind → ViewImage
view_of name plan columns own = record { name = name; plan = plan; names = columns; kinds = own }

-- the first example of README: three files and no other, a book, its table and a script
abbrev pub readme_book_name : List ℕ
readme_book_name = codes "book.smk"

abbrev pub readme_script_name : List ℕ
readme_script_name = codes "script.txt"

abbrev pub readme_book_bytes : List ℕ
readme_book_bytes =
    codes "table sales from \"sales.csv\" (id int, region text, amount int)\n"
    ++ codes "view by_region = scan sales | group region {n = count, total = sum amount}\n"
    ++ codes "lineage back by_region to sales\n"
    ++ codes "lineage fwd sales to by_region\n"

abbrev pub readme_sales_bytes : List ℕ
readme_sales_bytes = codes "id,region,amount\n1,north,10\n2,south,20\n3,north,30\n4,east,5\n"

abbrev pub readme_script_bytes : List ℕ
readme_script_bytes = codes "back by_region 0 to sales\nfwd sales 1,3 to by_region\n"

abbrev pub readme_files : Held
readme_files name =
    cond (pointwise nat_eq name readme_book_name) (Some readme_book_bytes)
    (cond (pointwise nat_eq name (codes "sales.csv")) (Some readme_sales_bytes)
    (cond (pointwise nat_eq name readme_script_name) (Some readme_script_bytes)
    None))

-- what the book says, with the rows of its table
abbrev pub readme_catalog : CatalogImage
readme_catalog = record {
  tables = record { name = codes "sales"; file = codes "sales.csv"; cols = int_column (codes "id") ∷ text_column (codes "region") ∷ int_column (codes "amount") ∷ [] } ∷ [];
  views = view_of (codes "by_region") by_region (codes "region" ∷ codes "n" ∷ codes "total" ∷ []) (kinds.Text ∷ kinds.Int 0 ∷ kinds.Int 1 ∷ []) ∷ [];
  backs = record { view = 0; table = 0; extra = extras.Plain } ∷ [];
  fwds = record { table = 0; view = 0 } ∷ [];
  links = [];
}

abbrev pub readme_workbook : Workbook
readme_workbook = record { catalog = readme_catalog; tables = sales ∷ [] }

-- what the lines of the script ask
abbrev pub readme_readings : List Reading
readme_readings =
    plain_reading (lines.Back (codes "by_region") (markings.Listed (0 ∷ [])) (codes "sales") thens.Plain)
    ∷ plain_reading (lines.Fwd (codes "sales") (markings.Listed (1 ∷ 3 ∷ [])) (codes "by_region"))
    ∷ []

-- what is read of the files with these readings: no dependency, and no rows beside those of the table
abbrev pub readme_inputs : List Reading → Inputs
readme_inputs readings = record { book = readme_workbook; fds = []; readings = readings; added = [] }

abbrev pub readme_report : Report
readme_report = record {
  sizes = record { name = codes "by_region"; rows = 3 } ∷ [];
  replies = 2;
  refused = 0;
  unread = 0;
  text =
      codes "view by_region 3\nrow,region,n,total\n0,north,2,40\n1,south,1,20\n2,east,1,5\n"
      ++ codes "back by_region to sales 2\nrid,id,region,amount\n0,1,north,10\n2,3,north,30\n"
      ++ codes "fwd sales to by_region 2\nmarks 1 2\n";
}

-- the words that name the book and the script have this report as their outcome, and the book without a script is read without a fault
pub record ReadmeHolds : Type 0 where
  pub outcome : Outcome (readme_book_name ∷ readme_script_name ∷ []) readme_files (Ok readme_report)
  pub book_alone : ReadsFiles readme_files readme_book_name None (Ok (readme_inputs []))

-- how a run works that isn't told otherwise
abbrev pub plain_settings : Settings
plain_settings = record { mode = Inject; workers = 1 }

-- what words ask for; words that ask for nothing are refused, whatever the files hold
pub record WordsHold : Type 0 where
  pub book : invocation_of (codes "book.smk" ∷ []) ≡ Some (record { settings = plain_settings; texts = Files (codes "book.smk") None })
  pub demo : invocation_of (codes "--demo" ∷ codes "5" ∷ []) ≡ Some (record { settings = plain_settings; texts = Demo 5 })
  pub unknown_mode : (held : Held) → Outcome (codes "--mode" ∷ codes "fast" ∷ codes "book.smk" ∷ []) held (Err Usage)
  pub talk : talk_call_of (codes "--read-only" ∷ codes "book.smk" ∷ []) ≡ Some (record { settings = plain_settings; texts = Files (codes "book.smk") None; read_only = true; brief = false })
  pub brief_talk : talk_call_of (codes "--demo" ∷ codes "5" ∷ codes "--brief" ∷ []) ≡ Some (record { settings = plain_settings; texts = Demo 5; read_only = false; brief = true })

-- a number with a default, a name in quotes, and a text with a default
abbrev pub marked_columns : List ColDecl
marked_columns =
    record { name = codes "n"; kind = kinds.Int 0; def = Some (Int (negsuc 0)) }
    ∷ text_column (codes "a, \"b\"")
    ∷ record { name = codes "t"; kind = kinds.Text; def = Some (Text (codes "none")) }
    ∷ []

-- a file with a byte order mark, and with the columns in another order
abbrev pub marked_bytes : List ℕ
marked_bytes = 0xEF ∷ 0xBB ∷ 0xBF ∷ codes "\"a, \"\"b\"\"\",n,t\r\nx,+007,\r\n\"y,\r\n\"\"z\"\"\", ,w\r\n"

pub record TablesHold : Type 0 where
  pub rows : table_of marked_columns marked_bytes ≡ Ok ((Int (pos 7) ∷ Text (codes "x") ∷ Text (codes "none") ∷ []) ∷ (Int (negsuc 0) ∷ Text (codes "y,\r\n\"z\"") ∷ Text (codes "w") ∷ []) ∷ [])
  pub line : record_line (codes "a,b" ∷ codes "say \"hi\"" ∷ codes "plain" ∷ [] ∷ []) ≡ codes "\"a,b\",\"say \"\"hi\"\"\",plain,\n"

-- a text that isn't closed after a pair of quotes ends at the first of the pair, and the second begins no token; one without a later quote is none
pub record StringsHold : Type 0 where
  pub reopened : tokens (codes "\"a\"\"b") ≡ record { at = 0; kind = Str; text = codes "\"a\"" } ∷ record { at = 3; kind = Bad; text = [] } ∷ []
  pub doubled : tokens (codes "\"a\"\"b\"") ≡ record { at = 0; kind = Str; text = codes "\"a\"\"b\"" } ∷ record { at = 6; kind = End; text = [] } ∷ []
  pub unclosed : tokens (codes "\"a") ≡ record { at = 0; kind = Bad; text = [] } ∷ []
  pub at_line_end : tokens (codes "\"a\n\"") ≡ record { at = 0; kind = Bad; text = [] } ∷ []
  pub length_reopened : string_len None false 0 (codes "a\"\"b") ≡ Some 2
  pub length_unclosed : string_len None false 0 (codes "a") ≡ None
