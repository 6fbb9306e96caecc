-- What a session answers to a line: from a state and a line, the reply and the next state.
use Rattle.std.specs.{Prelude.{ℕ, Bool, true, false, cond, ◌&&◌, nat_eq, nat_le, List, [], ◌∷◌, length, map, position, Option, Some, None, ok_or, option_map, Result, Ok, Err}, List.{find, filter, list_any, list_all}, Option.option_or}
use Rattle.smk_base.specs.{Places.upto, Plans.Grouping, Rels.Relation, Values.value_eq, CatalogImage.{CatalogImage, view_place, table_place}, declared.brush.BrushOn.BrushOn, declared.book.catalog.Back.Back, declared.book.catalog.BackExtra.BackExtra, declared.book.plan.Agg.Agg, declared.book.tree.Line.Line, declared.book.tree.Marks.Marks, declared.book.tree.Then.Then, declared.reply.Linked.Linked, declared.reply.Reply.Reply, declared.reply.Refusal.Refusal, declared.reply.Refusal.TheVariants.{UnknownView, UnknownTable, Undeclared, NoRow, NoSplit, ValueKind, NoGroup, NotLinked, RowsLimit, ManyMarks}, declared.value.Kind.Kind, declared.value.Value.Value}
use Rattle.smk_base.specs.declared.book.catalog.BackExtra.TheVariants as extras
use Rattle.smk_base.specs.declared.book.tree.Line.TheVariants as lines
use Rattle.smk_base.specs.declared.book.tree.Marks.TheVariants as markings
use Rattle.smk_base.specs.declared.book.tree.Then.TheVariants as thens
use Rattle.smk_base.specs.declared.reply.Reply.TheVariants as replies
use Rattle.smk_base.specs.declared.value.Kind.TheVariants as kinds
use Rattle.smk_base.specs.declared.value.Value.TheVariants as values
use Rattle.smk_model.specs.{Values.{Row, value_at}, Names.{◌>>=◌, same_name, column_at}, Plain.{step1, whole}, Lineage.{sub, row_at}, Annotated.{back, fwd}, Selection.first_full, Tables.all_or_first, Typing.{info_at, columns_of}, Catalogs.table_kinds, Workload.{is_back, is_link, declares_back, declares_fwd}, Session.{State, view_at, rows_of_table, first_content, linked, selected_for, leaves_now, content, with_brush, without_brush, under}}

-- an answer, or why the line is refused
abbrev pub Asked : Type 0 → Type 0
Asked A = Result A Refusal

-- the answer if the condition holds, else the refusal
abbrev pub provided : {A : Type 0} → Bool → Refusal → Asked A → Asked A
provided holds refusal asked = cond holds asked (Err refusal)

-- the numbers in a line, and which of n rows it marks
abbrev pub written : Marks → List ℕ
written markings.All = []
written (markings.Listed marks) = marks

abbrev pub marked : Marks → ℕ → List ℕ
marked markings.All n = upto n
marked (markings.Listed marks) n = marks

-- the first of the numbers that is not below n
abbrev pub first_outside : List ℕ → ℕ → Option ℕ
first_outside marks n = find (nat_le n) marks

-- the answer, unless a number is none of so many rows
abbrev pub unless_row : {A : Type 0} → Option ℕ → ℕ → Asked A → Asked A
unless_row (Some row) n asked = Err (NoRow row n)
unless_row None n asked = asked

abbrev pub unless_outside : {A : Type 0} → Marks → ℕ → Asked A → Asked A
unless_outside marks n asked = unless_row (first_outside (written marks) n) n asked

-- the view and the table with these names
abbrev pub known_view : CatalogImage → List ℕ → Asked ℕ
known_view catalog view = ok_or (view_place catalog view) UnknownView

abbrev pub known_pair : CatalogImage → List ℕ → List ℕ → Asked (ℕ × ℕ)
known_pair catalog view table = known_view catalog view >>= λ v. ok_or (option_map (λ t. (v, t)) (table_place catalog table)) UnknownTable

-- the content of a view, with its kinds
abbrev pub content_of : CatalogImage → State → ℕ → Relation
content_of catalog state v = record { kinds = (view_at catalog v).kinds; rows = content catalog state v }

-- the rows of a table at these rids, with its kinds
abbrev pub rows_at_rids : CatalogImage → State → ℕ → List ℕ → Relation
rows_at_rids catalog state t rids = record { kinds = table_kinds (info_at catalog.tables t); rows = sub (rows_of_table state t) rids }

-- the rids of a table that the marked rows of a view came from
abbrev pub rids_back : CatalogImage → State → ℕ → ℕ → List ℕ → List ℕ
rids_back catalog state v t O =
    let plan = (view_at catalog v).plan in
    back plan (whole plan state.tables) O t (length (rows_of_table state t))

-- the marks of a view that came from some of these rids of a table
abbrev pub marks_fwd : CatalogImage → State → ℕ → ℕ → List ℕ → List ℕ
marks_fwd catalog state v t S =
    let plan = (view_at catalog v).plan in
    fwd plan (whole plan state.tables) S t

-- the rids of a table behind the marks of a view, unless there is no such mark
abbrev pub rids_of : CatalogImage → State → ℕ → ℕ → Marks → Asked (List ℕ)
rids_of catalog state v t marks =
    let n = length (first_content catalog state v) in
    unless_outside marks n (Ok (rids_back catalog state v t (marked marks n)))

-- rows with their rids
abbrev pub rows_reply : CatalogImage → State → ℕ → List ℕ → Reply
rows_reply catalog state t rids = replies.Back rids (rows_at_rids catalog state t rids)

-- whether a declaration is a split of a view's backward query by a column
abbrev pub is_by : ℕ → BackExtra → Bool
is_by c (extras.By column) = nat_eq column c
is_by c _ = false

abbrev pub is_split : ℕ → ℕ → ℕ → Back → Bool
is_split v t c declared = is_back v t declared && is_by c declared.extra

-- a declared grouping
pub record Grouped : Type 0 where
  pub keys : List ℕ
  pub aggs : List Agg
  pub names : List (List ℕ)
  pub kinds : List Kind

abbrev pub grouping_in : BackExtra → Option Grouped
grouping_in (extras.Grouped keys aggs names kinds) = Some (record { keys = keys; aggs = aggs; names = names; kinds = kinds })
grouping_in _ = None

-- the first grouping among declarations
abbrev pub first_grouping : List Back → Option Grouped
first_grouping [] = None
first_grouping (declared ∷ more) = option_or (grouping_in declared.extra) (first_grouping more)

-- the grouping that is declared for a view's backward query
abbrev pub grouping_of : CatalogImage → ℕ → ℕ → Option Grouped
grouping_of catalog v t = first_grouping (filter (is_back v t) catalog.backs)

-- the column of a table with this name
abbrev pub column_place : CatalogImage → ℕ → List ℕ → Option ℕ
column_place catalog t name = position (λ column. same_name column.name name) (info_at catalog.tables t).cols

-- the column of a declared split with this name
abbrev pub split_column : CatalogImage → ℕ → ℕ → List ℕ → Asked ℕ
split_column catalog v t name =
    ok_or (column_place catalog t name) NoSplit >>= λ c.
    provided (list_any (is_split v t c) catalog.backs) NoSplit (Ok c)

-- whether a value is of the sort of a kind: an int or a text
abbrev pub is_of_sort : Kind → Value → Bool
is_of_sort (kinds.Int level) (values.Int n) = true
is_of_sort kinds.Text (values.Text bytes) = true
is_of_sort _ _ = false

-- whether a value is of the kind of a table's column
abbrev pub is_of_column : CatalogImage → ℕ → ℕ → Value → Bool
is_of_column catalog t c value = is_of_sort (column_at (columns_of (info_at catalog.tables t)) c).kind value

-- the rids whose row has this value in the column
abbrev pub with_value : List Row → ℕ → Value → List ℕ → List ℕ
with_value rows c value rids = filter (λ rid. value_eq (value_at (row_at rows rid) c) value) rids

-- the declared grouping over the rows at these rids
abbrev pub cube : State → ℕ → Grouped → List ℕ → Relation
cube state t grouped rids = record { kinds = grouped.kinds; rows = step1 (Grouping grouped.keys grouped.aggs) (sub (rows_of_table state t) rids) }

-- whether a line marks one row alone; repeats don't matter
abbrev pub is_one : Marks → Bool
is_one (markings.Listed (mark ∷ more)) = list_all (nat_eq mark) more
is_one _ = false

-- the answer to a declared backward query: rows with their rids, those with a value, or their declared grouping
abbrev pub back_reply : CatalogImage → State → ℕ → ℕ → Marks → Then → Asked Reply
back_reply catalog state v t marks thens.Plain =
    rids_of catalog state v t marks >>= λ rids. Ok (rows_reply catalog state t rids)
back_reply catalog state v t marks (thens.Matching column value) =
    split_column catalog v t column >>= λ c.
    provided (is_of_column catalog t c value) ValueKind (
    rids_of catalog state v t marks >>= λ rids.
    Ok (rows_reply catalog state t (with_value (rows_of_table state t) c value rids)))
back_reply catalog state v t marks thens.Grouped =
    ok_or (grouping_of catalog v t) NoGroup >>= λ grouped.
    provided (is_one marks) ManyMarks (
    rids_of catalog state v t marks >>= λ rids.
    Ok (replies.Grouped (cube state t grouped rids)))

abbrev pub named_back : CatalogImage → State → List ℕ → Marks → List ℕ → Then → Asked Reply
named_back catalog state view marks table then =
    known_pair catalog view table >>= λ p.
    provided (declares_back catalog p.0 p.1) Undeclared (back_reply catalog state p.0 p.1 marks then)

-- the answer to a declared forward query: the marks of the view
abbrev pub fwd_reply : CatalogImage → State → ℕ → ℕ → Marks → Asked Reply
fwd_reply catalog state v t rows =
    let n = length (rows_of_table state t) in
    unless_outside rows n (Ok (replies.Fwd (marks_fwd catalog state v t (marked rows n))))

abbrev pub named_fwd : CatalogImage → State → List ℕ → Marks → List ℕ → Asked Reply
named_fwd catalog state table rows view =
    known_pair catalog view table >>= λ p.
    provided (declares_fwd catalog p.0 p.1) Undeclared (fwd_reply catalog state p.0 p.1 rows)

-- a view and a table with a link of the view on the table
abbrev pub linked_pair : CatalogImage → List ℕ → List ℕ → Asked (ℕ × ℕ)
linked_pair catalog view table =
    known_pair catalog view table >>= λ p.
    provided (list_any (is_link p.0 p.1) catalog.links) NotLinked (Ok p)

-- the brush that a line makes
abbrev pub brush_of : CatalogImage → State → List ℕ → Marks → List ℕ → Asked BrushOn
brush_of catalog state view marks table =
    linked_pair catalog view table >>= λ p.
    rids_of catalog state p.0 p.1 marks >>= λ rids.
    Ok (record { view = p.0; table = p.1; rids = rids })

-- a linked view in a state: the marks that the rows selected for it on the table reach, and its content, or the refusal for a node with too many rows
abbrev pub unless_full : Option ℕ → Linked → Asked Linked
unless_full (Some node) view = Err (RowsLimit view.view node)
unless_full None view = Ok view

abbrev pub linked_now : CatalogImage → State → ℕ → ℕ → Asked Linked
linked_now catalog state t w =
    unless_full (first_full (view_at catalog w).plan (leaves_now catalog state w))
    (record { view = w; marks = marks_fwd catalog state w t (selected_for catalog state w t); rel = content_of catalog state w })

-- all the views that the links of a view on a table name
abbrev pub all_linked : CatalogImage → State → ℕ → ℕ → Asked (List Linked)
all_linked catalog state v t = all_or_first (map (linked_now catalog state t) (linked catalog v t))

-- the state with a new brush, and without a brush
abbrev pub brushed : State → BrushOn → State
brushed state brush = under state (with_brush brush state.brushes)

abbrev pub cleared : State → ℕ → ℕ → State
cleared state v t = under state (without_brush v t state.brushes)

-- the answer to a brush, and to the end of one, with the next state
abbrev pub named_brush : CatalogImage → State → List ℕ → Marks → List ℕ → Asked (Reply × State)
named_brush catalog state view marks table =
    brush_of catalog state view marks table >>= λ brush.
    all_linked catalog (brushed state brush) brush.view brush.table >>= λ views.
    Ok (replies.Brush brush.rids views, brushed state brush)

abbrev pub named_clear : CatalogImage → State → List ℕ → List ℕ → Asked (Reply × State)
named_clear catalog state view table =
    linked_pair catalog view table >>= λ p.
    all_linked catalog (cleared state p.0 p.1) p.0 p.1 >>= λ views.
    Ok (replies.ClearedOne views, cleared state p.0 p.1)

-- the content of a view now
abbrev pub named_view : CatalogImage → State → List ℕ → Asked Reply
named_view catalog state view = known_view catalog view >>= λ v. Ok (replies.View (content_of catalog state v))

-- a reply that leaves the state as it is
abbrev pub staying : State → Asked Reply → Asked (Reply × State)
staying state asked = asked >>= λ reply. Ok (reply, state)

-- a refused line changes nothing
abbrev pub or_refused : State → Asked (Reply × State) → Reply × State
or_refused state (Ok turn) = turn
or_refused state (Err refusal) = (replies.Refused refusal, state)

-- the answer to a line and the next state, or why the line is refused
abbrev pub answer_to : CatalogImage → State → Line → Asked (Reply × State)
answer_to catalog state (lines.Show view) = staying state (named_view catalog state view)
answer_to catalog state (lines.Back view marks table then) = staying state (named_back catalog state view marks table then)
answer_to catalog state (lines.Fwd table rows view) = staying state (named_fwd catalog state table rows view)
answer_to catalog state (lines.Brush view marks table) = named_brush catalog state view marks table
answer_to catalog state lines.Clear = Ok (replies.Cleared, under state [])
answer_to catalog state (lines.ClearOne view table) = named_clear catalog state view table

-- the reply to a line, and the next state
abbrev pub reply : CatalogImage → State → Line → Reply × State
reply catalog state asked = or_refused state (answer_to catalog state asked)

-- whether a reply is a refusal
abbrev pub is_refused : Reply → Bool
is_refused (replies.Refused refusal) = true
is_refused _ = false
