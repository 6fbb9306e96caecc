-- The line that says a fault.
use Rattle.std.specs.Prelude.{◌≢◌, ⊤, ℕ, List, [], ◌∷◌, ◌++◌, Option, IsSome, IsNone, unwrap_or, codes, decimal}
use Rattle.smk_base.specs.{declared.fault.Fault.Fault, declared.fault.Fault.TheVariants.{Usage, Book, Types, Table, FileLong, TableRows, ViewRows, ViewPairs, Unread}, declared.fault.BookFault.BookFault, declared.fault.Many.Many, declared.fault.TableFault.TableFault, declared.book.type_fault.TypeFault.TypeFault}
use Rattle.smk_base.specs.declared.fault.BookFault.TheVariants as book
use Rattle.smk_base.specs.declared.fault.Many.TheVariants as many
use Rattle.smk_base.specs.declared.fault.TableFault.TheVariants as table
use Rattle.smk_base.specs.declared.book.type_fault.TypeFault.TheVariants as types
use Rattle.smk_model.specs.{Lines.place_of, ShownNames.shown, Texts.line}

-- whether a fault of a table has this line, which names a column or none
abbrev pub NamesColumn : TableFault → Option (List ℕ) → Type 0
NamesColumn table.NoHeader column = IsNone column
NamesColumn (table.Ragged nth) column = IsNone column
NamesColumn table.TooManyRows column = ⊥
NamesColumn table.NoMemory column = ⊥
NamesColumn _ column = IsSome column

-- whether a fault is said by this line. Lack of memory and too many rows of a table have texts of their own, and a column is named exactly if a table's fault is about a column
abbrev pub IsSaid : Fault → Type 0
IsSaid (Book fault) = fault ≢ book.NoMemory
IsSaid (Types fault) = fault ≢ types.NoMemory
IsSaid (Table name column fault) = NamesColumn fault column
IsSaid _ = ⊤

abbrev pub many_words : Many → List ℕ
many_words many.Tables = codes "tables"
many_words many.Views = codes "views"
many_words many.Lineages = codes "lineages"
many_words many.Links = codes "links"
many_words many.Columns = codes "columns"
many_words many.Nodes = codes "nodes"
many_words many.Compares = codes "comparisons"
many_words many.Depth = codes "levels"
many_words many.NameBytes = codes "name bytes"

-- the words for a fault of a book's text
abbrev pub book_words : BookFault → List (List ℕ)
book_words (book.BadToken at) = codes "bad token" ∷ []
book_words (book.Unexpected at) = codes "unexpected token" ∷ []
book_words (book.TooMany at what) = codes "too many " ∷ many_words what ∷ []
book_words (book.BadNumber at) = codes "bad number" ∷ []
book_words book.NoMemory = []

-- the words for a fault of typing
abbrev pub type_words : TypeFault → List ℕ
type_words (types.UnknownTable at) = codes "unknown table"
type_words (types.UnknownColumn at) = codes "unknown column"
type_words (types.UnknownView at) = codes "unknown view"
type_words (types.DuplicateName at) = codes "duplicate name"
type_words (types.KindMismatch at) = codes "kind mismatch"
type_words (types.SumTooDeep at) = codes "sum too deep"
type_words (types.UnionShape at) = codes "union shape"
type_words (types.EmptyList at) = codes "empty list"
type_words (types.SelfLink at) = codes "self link"
type_words (types.RepeatedDeclaration at) = codes "repeated declaration"
type_words (types.RowTooWide at) = codes "row too wide"
type_words types.NoMemory = []

-- the place of a fault of typing
abbrev pub type_place : TypeFault → ℕ
type_place (types.UnknownTable at) = at
type_place (types.UnknownColumn at) = at
type_place (types.UnknownView at) = at
type_place (types.DuplicateName at) = at
type_place (types.KindMismatch at) = at
type_place (types.SumTooDeep at) = at
type_place (types.UnionShape at) = at
type_place (types.EmptyList at) = at
type_place (types.SelfLink at) = at
type_place (types.RepeatedDeclaration at) = at
type_place (types.RowTooWide at) = at
type_place types.NoMemory = 0

-- the words for a fault of a table's file, with the name of the column that it is about, if any
abbrev pub table_words : TableFault → List ℕ → List (List ℕ)
table_words table.NoHeader column = codes "no header" ∷ []
table_words (table.MissingColumn col) column = codes "missing column " ∷ shown column ∷ []
table_words (table.RepeatedColumn col) column = codes "repeated column " ∷ shown column ∷ []
table_words (table.Ragged nth) column = codes "record " ∷ decimal nth ∷ codes " has a wrong number of fields" ∷ []
table_words (table.BadInt nth col) column = codes "record " ∷ decimal nth ∷ codes " column " ∷ shown column ∷ codes " is no int" ∷ []
table_words _ column = []

-- the line that says a fault
abbrev pub fault_text : Fault → List ℕ
fault_text Usage = line (codes "usage: smoke [--mode inject|defer] [--workers 1..64] (BOOK [SCRIPT] | --demo N)" ∷ [])
fault_text (Book fault) = line (codes "smoke: book: " ∷ book_words fault ++ codes " at byte " ∷ decimal (place_of fault) ∷ [])
fault_text (Types fault) = line (codes "smoke: book: " ∷ type_words fault ∷ codes " at byte " ∷ decimal (type_place fault) ∷ [])
fault_text (Table name column fault) = line (codes "smoke: table " ∷ name ∷ codes ": " ∷ table_words fault (unwrap_or column []))
fault_text (FileLong file) = line (codes "smoke: limit: file " ∷ file ∷ [])
fault_text (TableRows name) = line (codes "smoke: limit: rows of table " ∷ name ∷ [])
fault_text (ViewRows view node) = line (codes "smoke: limit: rows of view " ∷ view ∷ codes " at node " ∷ decimal node ∷ [])
fault_text (ViewPairs view node name) = line (codes "smoke: limit: lineage of view " ∷ view ∷ codes " at node " ∷ decimal node ∷ codes " to table " ∷ name ∷ [])
fault_text (Unread file) = line (codes "smoke: cannot read " ∷ file ∷ [])
