-- The rows of a table's file: the records that csv reads, first the header, then each record in order, or the first fault.
use Rattle.std.specs.{Prelude.{◌≡◌, ℕ, ◌+◌, ◌≤◌, ◌==◌, List, [], ◌∷◌, length, map, slice_index_or, All, Option, Some, None, unwrap_or, IfSome, Result, Ok, Err, if◌then◌else◌, nat_eq}, List.list_all, Option.{ok_or, option_map}, Cmp.Lexicographic.pointwise}
use Rattle.csv.specs.Reading.{records, default_config}
use Rattle.smk_base.specs.{declared.value.Kind.Kind, declared.value.Value.Value, declared.book.col_decl.ColDecl.ColDecl, declared.fault.TableFault.TableFault, declared.rel.TheConstants.COLUMN_LIMIT, Rels.Fits, Ints.{is_blank, int_of}, Marks.after_marks}
use Rattle.smk_base.specs.declared.value.Kind.TheVariants as kinds
use Rattle.smk_base.specs.declared.value.Value.TheVariants as values
use Rattle.smk_base.specs.declared.fault.TableFault.TheVariants as faults
use Rattle.smk_model.specs.Names.{◌>>=◌}

-- a function of each member and its number, from n on
abbrev pub numbered : {A B : Type 0} → (ℕ → A → B) → ℕ → List A → List B
numbered f n [] = []
numbered f n (x ∷ xs) = f n x ∷ numbered f (n + 1) xs

-- all the values in order, or else the first fault
abbrev pub all_or_first : {A E : Type 0} → List (Result A E) → Result (List A) E
all_or_first [] = Ok []
all_or_first (r ∷ rs) = do
  x ← r
  xs ← all_or_first rs
  Ok (x ∷ xs)

-- the places, from n on, at which the header has this name
abbrev pub places_of : List ℕ → ℕ → List (List ℕ) → List ℕ
places_of name n [] = []
places_of name n (field ∷ fields) = if pointwise nat_eq field name then n ∷ places_of name (n + 1) fields else places_of name (n + 1) fields

-- the only place of declared column c
abbrev pub only_place : ℕ → List ℕ → Result ℕ TableFault
only_place c [] = Err (faults.MissingColumn c)
only_place c (p ∷ []) = Ok p
only_place c (p ∷ q ∷ more) = Err (faults.RepeatedColumn c)

abbrev pub header_place : List (List ℕ) → ℕ → ColDecl → Result ℕ TableFault
header_place header c decl = only_place c (places_of decl.name 0 header)

-- the value of a text field: a field of no bytes takes the default
abbrev pub text_value : Option Value → List ℕ → Value
text_value def [] = unwrap_or def (values.Text [])
text_value def (b ∷ bs) = values.Text (b ∷ bs)

-- the value of an int field, if it has one: a field of spaces and tabs alone takes the default
abbrev pub int_field_value : Option Value → List ℕ → Option Value
int_field_value None field = option_map values.Int (int_of field)
int_field_value (Some def) field = if list_all is_blank field then Some def else option_map values.Int (int_of field)

abbrev pub field_value : Kind → Option Value → List ℕ → Option Value
field_value (kinds.Int level) def field = int_field_value def field
field_value kinds.Text def field = Some (text_value def field)

-- the value of declared column c in record n
abbrev pub cell_value : List ℕ → ℕ → List (List ℕ) → ℕ → ColDecl → Result Value TableFault
cell_value places n record_fields c decl =
    ok_or (field_value decl.kind decl.def (slice_index_or record_fields (slice_index_or places c 0) [])) (faults.BadInt n c)

-- the row of record n, counted from 1 after the header
abbrev pub record_row : List ColDecl → List ℕ → ℕ → ℕ → List (List ℕ) → Result (List Value) TableFault
record_row cols places width n fields =
    if n == 1048577 then Err faults.TooManyRows
    else if length fields == width then all_or_first (numbered (cell_value places n fields) 0 cols)
    else Err (faults.Ragged n)

-- the rows of all records; the first record is the header
abbrev pub table_of_records : List ColDecl → List (List (List ℕ)) → Result (List (List Value)) TableFault
table_of_records cols [] = Err faults.NoHeader
table_of_records cols (header ∷ rest) =
    all_or_first (numbered (header_place header) 0 cols) >>= λ places.
    all_or_first (numbered (record_row cols places (length header)) 1 rest)

-- the rows of the bytes of a file, without the byte order marks at its start
unfoldable pub table_of : List ColDecl → List ℕ → Result (List (List Value)) TableFault
table_of cols bytes = table_of_records cols (records default_config (after_marks bytes))

-- the kinds of declared columns
abbrev pub declared_kinds : List ColDecl → List Kind
declared_kinds cols = map (λ decl. decl.kind) cols

-- a kind of a base column: a text, or an int of level 0
abbrev pub IsBase : Kind → Type 0
IsBase (kinds.Int level) = level ≡ 0
IsBase kinds.Text = Unit {0}

-- a declared column that a table may have: a base kind, and a default that fits it
pub record IsBaseColumn (decl : ColDecl) : Type 0 where
  pub base : IsBase decl.kind
  pub default_fits : IfSome decl.def (λ v. Fits decl.kind v)

-- declared columns that a table may have: at most 16 such columns
pub record AreColumns (cols : List ColDecl) : Type 0 where
  pub few : length cols ≤ COLUMN_LIMIT
  pub base : All IsBaseColumn cols
