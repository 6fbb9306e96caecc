-- The texts that a run writes.
use Rattle.std.specs.{Prelude.{ℕ, List, [], ◌∷◌, ◌++◌, length, map, slice_index_or, codes, decimal}, List.flat_map, Fmt.signed_decimal}
use Rattle.csv.specs.Writing.{default_writer, row_text}
use Rattle.smk_base.specs.{declared.value.Value.Value, declared.value.Value.TheVariants.{Int, Text}}
use Rattle.smk_model.specs.{Values.Row, Lineage.{upto, row_at}}

-- a line: its parts, one after the other, and a line feed
abbrev pub line : List (List ℕ) → List ℕ
line parts = flat_map (λ part. part) parts ++ 10 ∷ []

-- one record, as csv writes it with its default writer
unfoldable pub record_line : List (List ℕ) → List ℕ
record_line fields = row_text default_writer fields

-- an int in decimal, or the bytes of a text
abbrev pub value_text : Value → List ℕ
value_text (Int n) = signed_decimal n
value_text (Text bytes) = bytes

-- a record for each of the first n rows: its number, by its place, and its values
abbrev pub row_lines_to : (ℕ → ℕ) → List Row → ℕ → List ℕ
row_lines_to number rows n = flat_map (λ i. record_line (decimal (number i) ∷ map value_text (row_at rows i))) (upto n)

abbrev pub row_lines : (ℕ → ℕ) → List Row → List ℕ
row_lines number rows = row_lines_to number rows (length rows)

-- rows under a heading: its words and how many rows there are in all, the names of the columns, and the records of these rows with their numbers
abbrev pub rows_text : List (List ℕ) → ℕ → List (List ℕ) → (ℕ → ℕ) → List Row → List ℕ
rows_text words count columns number rows = line (words ++ decimal count ∷ []) ++ record_line columns ++ row_lines number rows

-- what comes before the number of rows: of a view, of a backward answer, and of an answer to steps over one
abbrev pub view_words : List ℕ → List (List ℕ)
view_words name = codes "view " ∷ name ∷ codes " " ∷ []

abbrev pub back_words : List ℕ → List ℕ → List (List ℕ)
back_words view table = codes "back " ∷ view ∷ codes " to " ∷ table ∷ codes " " ∷ []

abbrev pub ask_words : List ℕ → List ℕ → List (List ℕ)
ask_words view table = codes "ask " ∷ view ∷ codes " to " ∷ table ∷ codes " " ∷ []

-- a view: its name and number of rows, the names of its columns, its rows with their places
abbrev pub view_text : List ℕ → List (List ℕ) → List Row → List ℕ
view_text name columns rows = rows_text (view_words name) (length rows) (codes "row" ∷ columns) (λ i. i) rows

-- a backward answer: the rows of the table with their rids
abbrev pub back_text : List ℕ → List ℕ → List (List ℕ) → List ℕ → List Row → List ℕ
back_text view table columns rids rows = rows_text (back_words view table) (length rows) (codes "rid" ∷ columns) (λ i. slice_index_or rids i 0) rows

-- a declared grouping of a backward answer: the names of its columns, its rows with their places
abbrev pub group_text : List ℕ → List ℕ → List (List ℕ) → List Row → List ℕ
group_text view table columns rows =
    line (codes "group " ∷ view ∷ codes " to " ∷ table ∷ codes " " ∷ decimal (length rows) ∷ []) ++ record_line (codes "row" ∷ columns) ++ row_lines (λ i. i) rows

-- an answer to steps over a backward answer: the names of its columns, its rows with their places
abbrev pub ask_rows_text : List ℕ → List ℕ → List (List ℕ) → List Row → List ℕ
ask_rows_text view table columns rows = rows_text (ask_words view table) (length rows) (codes "row" ∷ columns) (λ i. i) rows

-- a word, and each number after a space
abbrev pub numbers_line : List ℕ → List ℕ → List ℕ
numbers_line word numbers = line (word ∷ flat_map (λ n. codes " " ∷ decimal n ∷ []) numbers)

-- a forward answer: the marks of the view
abbrev pub fwd_text : List ℕ → List ℕ → List ℕ → List ℕ
fwd_text table view marks =
    line (codes "fwd " ∷ table ∷ codes " to " ∷ view ∷ codes " " ∷ decimal (length marks) ∷ []) ++ numbers_line (codes "marks") marks

-- the first line of the reply to a brush: how many rids it selects
abbrev pub brush_heading : List ℕ → List ℕ → ℕ → List ℕ
brush_heading view table count = line (codes "brush " ∷ view ∷ codes " on " ∷ table ∷ codes " " ∷ decimal count ∷ [])

-- the rids that a brush selects; the linked views follow
abbrev pub brush_text : List ℕ → List ℕ → List ℕ → List ℕ
brush_text view table rids = brush_heading view table (length rids) ++ numbers_line (codes "rids") rids

-- a number on a line that is not below the number of rows
abbrev pub no_row_text : ℕ → ℕ → List ℕ
no_row_text row rows = line (codes "refused no row " ∷ decimal row ∷ codes " of " ∷ decimal rows ∷ [])

-- the text of a script's line that isn't in the grammar: its number, and the place of its first wrong token
abbrev pub bad_line_text : ℕ → ℕ → List ℕ
bad_line_text number at = line (codes "line " ∷ decimal number ∷ codes " not read at byte " ∷ decimal at ∷ [])

-- the line that says that memory ran out
abbrev pub no_memory_text : List ℕ
no_memory_text = line (codes "smoke: no memory" ∷ [])
