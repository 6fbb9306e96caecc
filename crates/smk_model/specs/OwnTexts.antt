-- The texts of answers to own lines: parts of rows, answers without lists, and the schema.
use Rattle.std.specs.{Prelude.{ℕ, ◌+◌, List, [], ◌∷◌, ◌++◌, length, map, take, drop, slice_index_or, Option, Some, None, codes, decimal}, List.flat_map}
use Rattle.smk_base.specs.{CatalogImage.CatalogImage, Places.upto, Trees.AskImage, declared.book.catalog.Back.Back, declared.book.catalog.BackExtra.BackExtra, declared.book.catalog.Column.Column, declared.book.catalog.Fwd.Fwd, declared.book.catalog.LinkInfo.LinkInfo, declared.book.catalog.TableInfo.TableInfo, declared.book.tree.Line.Line, declared.reply.AskReply.AskReply, declared.reply.Linked.Linked, declared.reply.ProfileReply.ProfileReply, declared.reply.Reply.Reply, declared.value.Kind.Kind}
use Rattle.smk_base.specs.declared.book.catalog.BackExtra.TheVariants as extras
use Rattle.smk_base.specs.declared.reply.AskReply.TheVariants as answers
use Rattle.smk_base.specs.declared.reply.ProfileReply.TheVariants as found
use Rattle.smk_base.specs.declared.reply.Reply.TheVariants as replies
use Rattle.smk_base.specs.declared.value.Kind.TheVariants as sorts
use Rattle.smk_model.specs.{AskTexts.ask_text, Names.column_at, OwnLines.RowsPart, ProfileTexts.{no_group, found_line, mark_heading, profile_refusal_text}, Reports.BookSaid, ReplyTexts.{view_in, table_in, view_named, table_named, names_of_view, names_of_table, linked_rows_text, cleared_line, reply_text}, Session.{State, view_at, rows_of_table, first_content}, ShownNames.shown, Texts.{line, record_line, rows_text, view_words, back_words, brush_heading}, Typing.{info_at, columns_of}, Values.Row}

-- the members in a part, and the number of the first
abbrev pub part_of : {A : Type 0} → Option RowsPart → List A → List A
part_of None xs = xs
part_of (Some part) xs = drop part.from (take part.below xs)

abbrev pub part_from : Option RowsPart → ℕ
part_from None = 0
part_from (Some part) = part.from

-- a part of numbered rows, and of rows with their rids; the heading counts all rows
abbrev pub numbered_text : Option RowsPart → List (List ℕ) → List (List ℕ) → List Row → List ℕ
numbered_text part words columns rows = rows_text words (length rows) (codes "row" ∷ columns) (λ i. part_from part + i) (part_of part rows)

abbrev pub placed_text : Option RowsPart → List (List ℕ) → List (List ℕ) → List ℕ → List Row → List ℕ
placed_text part words columns rids rows = rows_text words (length rows) (codes "rid" ∷ columns) (λ i. slice_index_or (part_of part rids) i 0) (part_of part rows)

-- the names of the columns of the view and of the table that a line names
abbrev pub view_columns : CatalogImage → List ℕ → List (List ℕ)
view_columns catalog view = names_of_view (view_named catalog view)

abbrev pub table_columns : CatalogImage → List ℕ → List (List ℕ)
table_columns catalog table = names_of_table (table_named catalog table)

-- the text of a part of a reply; a refusal has its usual text
abbrev pub narrowed_text : CatalogImage → Option RowsPart → Line → Reply → List ℕ
narrowed_text catalog part asked (replies.View rel) = numbered_text part (view_words (view_in asked)) (view_columns catalog (view_in asked)) rel.rows
narrowed_text catalog part asked (replies.Back rids rows) = placed_text part (back_words (view_in asked) (table_in asked)) (table_columns catalog (table_in asked)) rids rows.rows
narrowed_text catalog part asked told = reply_text catalog asked told

-- the text of a part of an answer to steps, with these words in its heading
abbrev pub stepped_text : Option RowsPart → List (List ℕ) → AskImage → AskReply → List ℕ
stepped_text part words asked (answers.Rows names rel) = numbered_text part words names rel.rows
stepped_text part words asked (answers.Refused refusal) = ask_text asked (answers.Refused refusal)

-- what comes before the number of the selected rows of a table
abbrev pub selected_words : List ℕ → List (List ℕ)
selected_words table = codes "selected " ∷ table ∷ codes " " ∷ []

-- the text of a part of the selected rows of a table; a refusal has its usual text
abbrev pub selected_text : CatalogImage → Option RowsPart → Line → Reply → List ℕ
selected_text catalog part asked (replies.Back rids rows) = placed_text part (selected_words (table_in asked)) (table_columns catalog (table_in asked)) rids rows.rows
selected_text catalog part asked told = reply_text catalog asked told

-- how many rids the reply to a brush has, and a reply without its lists of rids and marks
abbrev pub brushed_rids : Reply → ℕ
brushed_rids (replies.Brush rids linked) = length rids
brushed_rids _ = 0

abbrev pub without_marks : Linked → Linked
without_marks linked = record { view = linked.view; marks = []; rel = linked.rel }

abbrev pub unlisted : Reply → Reply
unlisted (replies.Brush rids linked) = replies.Brush [] (map without_marks linked)
unlisted (replies.ClearedOne linked) = replies.ClearedOne (map without_marks linked)
unlisted told = told

-- the reply to a change of brushes without rids and marks: its first line, and the contents of the linked views
abbrev pub brief_text : CatalogImage → Line → Reply → List ℕ
brief_text catalog asked (replies.Brush rids linked) = brush_heading (view_in asked) (table_in asked) (length rids) ++ flat_map (linked_rows_text catalog) linked
brief_text catalog asked (replies.ClearedOne linked) = cleared_line (view_in asked) (table_in asked) ++ flat_map (linked_rows_text catalog) linked
brief_text catalog asked told = reply_text catalog asked told

-- what violates a dependency, without the rows: how many keys, and for each mark how many rows
abbrev pub brief_profile_text : List ℕ → ProfileReply → List ℕ
brief_profile_text view (found.Found table groups) = found_line view (length groups) ++ flat_map (λ mark. mark_heading mark (slice_index_or groups mark no_group)) (upto (length groups))
brief_profile_text view (found.Refused refusal) = profile_refusal_text view refusal

-- the columns of a table or of a view, each with its kind
abbrev pub kind_word : Kind → List ℕ
kind_word (sorts.Int level) = codes "int"
kind_word sorts.Text = codes "text"

abbrev pub column_record : Column → List ℕ
column_record column = record_line (column.name ∷ kind_word column.kind ∷ [])

abbrev pub columns_text : List Column → List ℕ
columns_text columns = record_line (codes "column" ∷ codes "kind" ∷ []) ++ flat_map column_record columns

-- the schema's text of a table, and of a view, with so many rows
abbrev pub table_info_text : TableInfo → ℕ → List ℕ
table_info_text table rows = line (codes "table " ∷ table.name ∷ codes " " ∷ decimal rows ∷ []) ++ columns_text (columns_of table)

abbrev pub columns_of_view : List (List ℕ) → List Kind → List Column
columns_of_view names kinds = map (λ c. record { name = slice_index_or names c []; kind = slice_index_or kinds c sorts.Text }) (upto (length kinds))

abbrev pub view_info_text : List ℕ → List (List ℕ) → List Kind → ℕ → List ℕ
view_info_text name names kinds rows = line (codes "view " ∷ name ∷ codes " " ∷ decimal rows ∷ []) ++ columns_text (columns_of_view names kinds)

-- this text of a table of the book, and of a view; a view has as many rows as it has marks
abbrev pub table_schema : CatalogImage → State → ℕ → List ℕ
table_schema catalog state t = table_info_text (info_at catalog.tables t) (length (rows_of_table state t))

abbrev pub view_schema : CatalogImage → State → ℕ → List ℕ
view_schema catalog state v = view_info_text (view_at catalog v).name (view_at catalog v).names (view_at catalog v).kinds (length (first_content catalog state v))

-- the line of each declaration
abbrev pub extra_words : CatalogImage → ℕ → BackExtra → List (List ℕ)
extra_words catalog t extras.Plain = []
extra_words catalog t (extras.By column) = codes " by " ∷ shown (column_at (columns_of (info_at catalog.tables t)) column).name ∷ []
extra_words catalog t (extras.Grouped keys aggs names kinds) = codes " group" ∷ []

abbrev pub back_schema : CatalogImage → Back → List ℕ
back_schema catalog declared =
    line (codes "back " ∷ (view_at catalog declared.view).name ∷ codes " to " ∷ (info_at catalog.tables declared.table).name ∷ extra_words catalog declared.table declared.extra)

abbrev pub fwd_schema : CatalogImage → Fwd → List ℕ
fwd_schema catalog declared = line (codes "fwd " ∷ (info_at catalog.tables declared.table).name ∷ codes " to " ∷ (view_at catalog declared.view).name ∷ [])

abbrev pub link_schema : CatalogImage → LinkInfo → List ℕ
link_schema catalog link =
    line (codes "link " ∷ (view_at catalog link.view).name ∷ codes " on " ∷ (info_at catalog.tables link.table).name ∷ codes " to" ∷ flat_map (λ w. codes " " ∷ (view_at catalog w).name ∷ []) link.to)

abbrev pub fd_schema : List ℕ → List ℕ
fd_schema view = line (codes "fd " ∷ view ∷ [])

-- all declarations by kind, each kind in the book's order
abbrev pub declarations_text : CatalogImage → List (List ℕ) → List ℕ
declarations_text catalog fds = flat_map (back_schema catalog) catalog.backs ++ flat_map (fwd_schema catalog) catalog.fwds ++ flat_map (link_schema catalog) catalog.links ++ flat_map fd_schema fds

-- the schema: how many tables and views, each of these with its rows and columns, and the declarations
abbrev pub schema_line : CatalogImage → List ℕ
schema_line catalog = line (codes "schema " ∷ decimal (length catalog.tables) ∷ codes " " ∷ decimal (length catalog.views) ∷ [])

abbrev pub schema_text : BookSaid → State → List ℕ
schema_text said state =
    schema_line said.catalog
    ++ flat_map (table_schema said.catalog state) (upto (length said.catalog.tables))
    ++ flat_map (view_schema said.catalog state) (upto (length said.catalog.views))
    ++ declarations_text said.catalog said.fds
