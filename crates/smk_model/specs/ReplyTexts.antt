-- The texts of replies to the lines of a script.
use Rattle.std.specs.{Prelude.{◌≡◌, ◌<◌, ⊤, ℕ, List, [], ◌∷◌, ◌++◌, length, map, find, nat_eq, Option, Some, None, IsSome, All, codes, decimal}, List.flat_map, Cmp.Lexicographic.pointwise}
use Rattle.smk_base.specs.{Rels.Relation, CatalogImage.{CatalogImage, ViewImage, view_place, table_place}, declared.book.catalog.TableInfo.TableInfo, declared.book.tree.Line.Line, declared.book.tree.Then.Then, declared.reply.Linked.Linked, declared.reply.Reply.Reply, declared.reply.Reply.TheVariants.{View, Back, Grouped, Fwd, Brush, Cleared, ClearedOne, Refused}, declared.reply.Refusal.Refusal}
use Rattle.smk_base.specs.declared.book.tree.Line.TheVariants as lines
use Rattle.smk_base.specs.declared.book.tree.Then.TheVariants as thens
use Rattle.smk_base.specs.declared.reply.Refusal.TheVariants as refusals
use Rattle.smk_model.specs.{Values.Row, ShownNames.shown, Session.view_at, Replies.grouping_of, Texts.{line, numbers_line, view_text, back_text, group_text, fwd_text, brush_text, no_row_text}}
use Rattle.smk_model.specs.Replies as asked_for

-- the view of this name, and the table
abbrev pub view_named : CatalogImage → List ℕ → Option ViewImage
view_named catalog name = find (λ view. pointwise nat_eq view.name name) catalog.views

abbrev pub table_named : CatalogImage → List ℕ → Option TableInfo
table_named catalog name = find (λ table. pointwise nat_eq table.name name) catalog.tables

-- the names of their columns
abbrev pub names_of_view : Option ViewImage → List (List ℕ)
names_of_view None = []
names_of_view (Some view) = view.names

abbrev pub names_of_table : Option TableInfo → List (List ℕ)
names_of_table None = []
names_of_table (Some table) = map (λ column. column.name) table.cols

-- the view and the table that a line names; `clear` names none, `show` no table
abbrev pub view_in : Line → List ℕ
view_in (lines.Show view) = view
view_in (lines.Back view marks table then) = view
view_in (lines.Fwd table rows view) = view
view_in (lines.Brush view marks table) = view
view_in lines.Clear = []
view_in (lines.ClearOne view table) = view

abbrev pub table_in : Line → List ℕ
table_in (lines.Back view marks table then) = table
table_in (lines.Fwd table rows view) = table
table_in (lines.Brush view marks table) = table
table_in (lines.ClearOne view table) = table
table_in _ = []

-- the column that a line names, in `back .. where`
abbrev pub column_of : Then → List ℕ
column_of (thens.Matching column value) = column
column_of _ = []

abbrev pub column_in : Line → List ℕ
column_in (lines.Back view marks table then) = column_of then
column_in _ = []

-- a query, in the words of its line
abbrev pub query_words : Line → List (List ℕ)
query_words (lines.Back view marks table then) = codes "back " ∷ view ∷ codes " to " ∷ table ∷ []
query_words (lines.Fwd table rows view) = codes "fwd " ∷ table ∷ codes " to " ∷ view ∷ []
query_words _ = []

-- the grouping of a view's backward query to a table, by their names
abbrev pub grouping_between : CatalogImage → Option ℕ → Option ℕ → Option asked_for.Grouped
grouping_between catalog (Some v) (Some t) = grouping_of catalog v t
grouping_between catalog _ _ = None

abbrev pub grouping_named : CatalogImage → List ℕ → List ℕ → Option asked_for.Grouped
grouping_named catalog view table = grouping_between catalog (view_place catalog view) (table_place catalog table)

abbrev pub names_of_grouping : Option asked_for.Grouped → List (List ℕ)
names_of_grouping None = []
names_of_grouping (Some grouped) = grouped.names

-- a content of a view: the catalog has the view, with as many columns
pub record IsContent (catalog : CatalogImage) (view : List ℕ) (rel : Relation) : Type 0 where
  pub known : IsSome (view_named catalog view)
  pub named : length (names_of_view (view_named catalog view)) ≡ length rel.kinds

-- rows of a table with their rids: the catalog has the table, with as many columns
pub record AreRowsOf (catalog : CatalogImage) (table : List ℕ) (rids : List ℕ) (rel : Relation) : Type 0 where
  pub known : IsSome (table_named catalog table)
  pub named : length (names_of_table (table_named catalog table)) ≡ length rel.kinds
  pub placed : length rids ≡ length rel.rows

-- groups: the catalog declares the grouping, with as many columns
pub record AreGroupsOf (catalog : CatalogImage) (view table : List ℕ) (rel : Relation) : Type 0 where
  pub known : IsSome (grouping_named catalog view table)
  pub named : length (names_of_grouping (grouping_named catalog view table)) ≡ length rel.kinds

-- a linked view: the catalog has the view, with as many columns
pub record IsLinkedIn (catalog : CatalogImage) (linked : Linked) : Type 0 where
  pub known : linked.view < length catalog.views
  pub named : length (view_at catalog linked.view).names ≡ length linked.rel.kinds

-- whether a `back` line asks for rows, for a grouping, or for rows with a value
abbrev pub AsksRows : Then → Type 0
AsksRows thens.Grouped = ⊥
AsksRows _ = ⊤

abbrev pub AsksGroups : Then → Type 0
AsksGroups thens.Grouped = ⊤
AsksGroups _ = ⊥

abbrev pub AsksValue : Then → Type 0
AsksValue (thens.Matching column value) = ⊤
AsksValue _ = ⊥

-- whether a change of brushes can be refused for this reason; a view with too many rows is one of the catalog
abbrev pub IsRefusalOfChange : CatalogImage → Refusal → Type 0
IsRefusalOfChange catalog refusals.UnknownView = ⊤
IsRefusalOfChange catalog refusals.UnknownTable = ⊤
IsRefusalOfChange catalog refusals.NotLinked = ⊤
IsRefusalOfChange catalog (refusals.NoRow row rows) = ⊤
IsRefusalOfChange catalog (refusals.RowsLimit view node) = view < length catalog.views
IsRefusalOfChange catalog _ = ⊥

-- whether a line can be refused for this reason
abbrev pub IsRefusalOf : CatalogImage → Line → Refusal → Type 0
IsRefusalOf catalog (lines.Show view) refusals.UnknownView = ⊤
IsRefusalOf catalog (lines.Back view marks table then) refusals.UnknownView = ⊤
IsRefusalOf catalog (lines.Back view marks table then) refusals.UnknownTable = ⊤
IsRefusalOf catalog (lines.Back view marks table then) refusals.Undeclared = ⊤
IsRefusalOf catalog (lines.Back view marks table then) (refusals.NoRow row rows) = ⊤
IsRefusalOf catalog (lines.Back view marks table then) refusals.NoSplit = AsksValue then
IsRefusalOf catalog (lines.Back view marks table then) refusals.ValueKind = AsksValue then
IsRefusalOf catalog (lines.Back view marks table then) refusals.NoGroup = AsksGroups then
IsRefusalOf catalog (lines.Back view marks table then) refusals.ManyMarks = AsksGroups then
IsRefusalOf catalog (lines.Fwd table rows view) refusals.UnknownView = ⊤
IsRefusalOf catalog (lines.Fwd table rows view) refusals.UnknownTable = ⊤
IsRefusalOf catalog (lines.Fwd table rows view) refusals.Undeclared = ⊤
IsRefusalOf catalog (lines.Fwd table rows view) (refusals.NoRow row rows_of) = ⊤
IsRefusalOf catalog (lines.Brush view marks table) refusal = IsRefusalOfChange catalog refusal
IsRefusalOf catalog (lines.ClearOne view table) refusal = IsRefusalOfChange catalog refusal
IsRefusalOf catalog _ _ = ⊥

-- whether a reply fits a line: it is of the line's kind, the catalog has what its text names, its rows have a value for each name printed over them, and there are as many rids as rows
abbrev pub IsReplyTo : CatalogImage → Line → Reply → Type 0
IsReplyTo catalog (lines.Show view) (View rel) = IsContent catalog view rel
IsReplyTo catalog (lines.Back view marks table then) (Back rids rows) = AsksRows then × AreRowsOf catalog table rids rows
IsReplyTo catalog (lines.Back view marks table then) (Grouped rel) = AsksGroups then × AreGroupsOf catalog view table rel
IsReplyTo catalog (lines.Fwd table rows view) (Fwd marks) = ⊤
IsReplyTo catalog (lines.Brush view marks table) (Brush rids linked) = All (IsLinkedIn catalog) linked
IsReplyTo catalog lines.Clear Cleared = ⊤
IsReplyTo catalog (lines.ClearOne view table) (ClearedOne linked) = All (IsLinkedIn catalog) linked
IsReplyTo catalog asked (Refused refusal) = IsRefusalOf catalog asked refusal
IsReplyTo _ _ _ = ⊥

-- why a line is refused
abbrev pub refusal_text : CatalogImage → Line → Refusal → List ℕ
refusal_text catalog asked refusals.UnknownView = line (codes "refused unknown view " ∷ view_in asked ∷ [])
refusal_text catalog asked refusals.UnknownTable = line (codes "refused unknown table " ∷ table_in asked ∷ [])
refusal_text catalog asked refusals.Undeclared = line (codes "refused undeclared " ∷ query_words asked)
refusal_text catalog asked (refusals.NoRow row rows) = no_row_text row rows
refusal_text catalog asked refusals.NoSplit = line (codes "refused no split of " ∷ view_in asked ∷ codes " to " ∷ table_in asked ∷ codes " by " ∷ shown (column_in asked) ∷ [])
refusal_text catalog asked refusals.ValueKind = line (codes "refused wrong kind for " ∷ shown (column_in asked) ∷ [])
refusal_text catalog asked refusals.NoGroup = line (codes "refused no grouping of " ∷ view_in asked ∷ codes " to " ∷ table_in asked ∷ [])
refusal_text catalog asked refusals.NotLinked = line (codes "refused not linked " ∷ view_in asked ∷ codes " on " ∷ table_in asked ∷ [])
refusal_text catalog asked (refusals.RowsLimit view node) = line (codes "refused too many rows in " ∷ (view_at catalog view).name ∷ codes " at node " ∷ decimal node ∷ [])
refusal_text catalog asked refusals.ManyMarks = line (codes "refused more than one mark" ∷ [])

-- the text of the content of a view, with the names of its columns
abbrev pub content_text : CatalogImage → List ℕ → List Row → List ℕ
content_text catalog view rows = view_text view (names_of_view (view_named catalog view)) rows

-- the text of rows of a table with their rids, with the names of its columns
abbrev pub rids_text : CatalogImage → List ℕ → List ℕ → List ℕ → List Row → List ℕ
rids_text catalog view table rids rows = back_text view table (names_of_table (table_named catalog table)) rids rows

-- the text of groups, with the names of the declared grouping
abbrev pub groups_text : CatalogImage → List ℕ → List ℕ → List Row → List ℕ
groups_text catalog view table rows = group_text view table (names_of_grouping (grouping_named catalog view table)) rows

-- the text of the content of a linked view
abbrev pub linked_rows_text : CatalogImage → Linked → List ℕ
linked_rows_text catalog linked = view_text (view_at catalog linked.view).name (view_at catalog linked.view).names linked.rel.rows

-- the text of a linked view: its marks, and its content
abbrev pub linked_text : CatalogImage → Linked → List ℕ
linked_text catalog linked =
    line (codes "linked " ∷ (view_at catalog linked.view).name ∷ codes " " ∷ decimal (length linked.marks) ∷ [])
    ++ numbers_line (codes "marks") linked.marks
    ++ linked_rows_text catalog linked

-- the first line of the reply to the end of a brush
abbrev pub cleared_line : List ℕ → List ℕ → List ℕ
cleared_line view table = line (codes "cleared " ∷ view ∷ codes " on " ∷ table ∷ [])

-- the text of a reply to a line
abbrev pub reply_text : CatalogImage → Line → Reply → List ℕ
reply_text catalog asked (View rel) = content_text catalog (view_in asked) rel.rows
reply_text catalog asked (Back rids rows) = rids_text catalog (view_in asked) (table_in asked) rids rows.rows
reply_text catalog asked (Grouped rel) = groups_text catalog (view_in asked) (table_in asked) rel.rows
reply_text catalog asked (Fwd marks) = fwd_text (table_in asked) (view_in asked) marks
reply_text catalog asked (Brush rids linked) = brush_text (view_in asked) (table_in asked) rids ++ flat_map (linked_text catalog) linked
reply_text catalog asked Cleared = line (codes "cleared" ∷ [])
reply_text catalog asked (ClearedOne linked) = cleared_line (view_in asked) (table_in asked) ++ flat_map (linked_text catalog) linked
reply_text catalog asked (Refused refusal) = refusal_text catalog asked refusal
