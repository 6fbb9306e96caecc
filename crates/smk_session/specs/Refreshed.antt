-- What is so of the calls that evaluate views again under other brushes.
use Rattle.std.specs.Prelude.{◌≡◌, ◌<◌, ◌^◌, ℕ, Bool, ◌&&◌, nat_eq, cond, List, [], Option, Result, Ok, MatchResult, true, Some, None, All, IfSome, length, map}
use Rattle.smk_base.specs.{CatalogImage.CatalogImage, PlanImage.expr_of, Plans.Expr, Rels.Relation, declared.reply.Linked.Linked}
use Rattle.smk_model.specs.{Composed.forwards, LineageLaws.selected_table, Plain.{eval, width}, Replies.{Asked, content_of, marks_fwd, unless_full}, Selection.{PlanFits, each_kinds, each_rows, first_full, nodes, plan_kinds, rows_in}, Session.{State, leaves_now, linked, selected_for, view_at}, Tables.all_or_first, Workload.declares_fwd}
use Rattle.smk_compose.specs.{declared.fault.EvalFault.EvalFault, declared.fault.EvalFault.TheVariants.{NoMemory, Rows}}
use Rattle.smk_marks.specs.{Views.{CanGroup, EndsInGroups, ends_in_groups, grouped_by_marks}, declared.reached.Reached.Reached, declared.view.KeptView.KeptView}
use Rattle.smk_session.specs.{Answers.{AreOn, IsChoice, IsLent, Turns, book_of, brushed_of, content_at, state_at}, Opened.{opened, workbook_image}, Sessions.BrushFits, declared.brush.choices.Choice.Choice, declared.brush.evaluating.Fetched.Fetched, declared.brush.evaluating.Source.Source, declared.brush.following.Followed.Followed, declared.lent.Lent.Lent, declared.brush.refresh.Refresh.Refresh, declared.turn.Content.Content, declared.answer.no_answer.Turned.Turned}
use Rattle.smk_session.specs.declared.brush.evaluating.Source.TheVariants as sources

-- the new brushes fit, and the table is there
pub record IsRefresh (refresh : Refresh) : Type 0 where
  pub held : IsLent refresh.held.now
  pub fit : All (BrushFits refresh.held.now.catalog.now refresh.held.now.tables.now) refresh.brushes.now
  pub table : refresh.table < length refresh.held.now.catalog.now.tables

-- the book, and the state under these brushes
abbrev pub book_at : Refresh → CatalogImage
book_at refresh = book_of refresh.held.now

abbrev pub state_next : Refresh → State
state_next refresh = state_at refresh.held.now refresh.brushes.now

-- the rows that are selected for a view, each of which is a look
abbrev pub looks_now : Refresh → ℕ → ℕ
looks_now refresh w = rows_in (leaves_now (book_at refresh) (state_next refresh) w)

-- the rids of the table that the brushes select for a view; None if no brush concerns it
abbrev pub IsBrushed : Refresh → ℕ → Option (List ℕ) → Type 0
IsBrushed refresh w chosen = (n : ℕ) → AreOn refresh.table n refresh.brushes.now → chosen ≡ brushed_of (book_at refresh) refresh.brushes.now w refresh.table n

-- the rids of each choice are those that the brushes select for its view
abbrev pub AreChoices : Refresh → List Choice → Type 0
AreChoices refresh choices = All (IsChoice (book_at refresh) refresh.brushes.now refresh.table) choices

-- the marks of a view that come from the rows selected for it on the table
abbrev pub marks_next : Refresh → ℕ → List ℕ
marks_next refresh w = marks_fwd (book_at refresh) (state_next refresh) w refresh.table (selected_for (book_at refresh) (state_next refresh) w refresh.table)

-- its marks if they are wanted, else none
abbrev pub marks_told : Refresh → ℕ → List ℕ
marks_told refresh w = cond refresh.marked (marks_next refresh w) []

-- a linked view with these marks
abbrev pub linked_told : Refresh → ℕ → Asked Linked
linked_told refresh w =
    unless_full (first_full (view_at (book_at refresh) w).plan (leaves_now (book_at refresh) (state_next refresh) w))
    (record { view = w; marks = marks_told refresh w; rel = content_of (book_at refresh) (state_next refresh) w })

-- these views are there, and their forward query is declared
pub record IsNamed (refresh : Refresh) (w : ℕ) : Type 0 where
  pub view : w < length refresh.held.now.catalog.now.views
  pub declared : declares_fwd (book_at refresh) w refresh.table ≡ true

abbrev pub Names : Refresh → List ℕ → Type 0
Names refresh views = All (IsNamed refresh) views

-- these views, or the first refusal among them
abbrev pub linked_at : Refresh → List ℕ → Asked (List Linked)
linked_at refresh views = all_or_first (map (linked_told refresh) views)

-- all the views that the links of a view on the table name
abbrev pub all_told : Refresh → ℕ → Asked (List Linked)
all_told refresh v = linked_at refresh (linked (book_at refresh) v refresh.table)

-- what is kept of these views
abbrev pub contents_at : Refresh → List ℕ → List Content
contents_at refresh views = map (content_at (book_at refresh) (state_next refresh)) views

-- a view's content, or the first node that has too many rows
pub record Shows (refresh : Refresh) (w : ℕ) (rel : Relation) : Type 0 where
  pub content : rel ≡ content_of (book_at refresh) (state_next refresh) w
  pub few : first_full (view_at (book_at refresh) w).plan (leaves_now (book_at refresh) (state_next refresh) w) ≡ None

abbrev pub IsContent : Refresh → ℕ → Result Relation EvalFault → Type 0
IsContent refresh w made = MatchResult made (Shows refresh w) (λ e. (node : ℕ) → e ≡ Rows node → first_full (view_at (book_at refresh) w).plan (leaves_now (book_at refresh) (state_next refresh) w) ≡ Some node)

-- a view evaluated again, with what is kept of it, or the refusal for its first node with too many rows
pub record Follows (refresh : Refresh) (w : ℕ) (made : Linked × Content) : Type 0 where
  pub linked : linked_told refresh w ≡ Ok made.0
  pub content : made.1 ≡ content_at (book_at refresh) (state_next refresh) w

abbrev pub FollowsAs : Refresh → ℕ → Result (Linked × Content) Turned → Type 0
FollowsAs refresh w made = MatchResult made (Follows refresh w) (λ turned. Turns turned (linked_told refresh w))

-- these views are evaluated again
pub record AreFollowed (refresh : Refresh) (views : List ℕ) (followed : Followed) : Type 0 where
  pub linked : linked_at refresh views ≡ Ok followed.linked
  pub contents : followed.contents ≡ contents_at refresh views

-- what is kept of a view that is a grouping over a chain: its first content, and its forward lists
pub record IsKept (held : Lent) (w : ℕ) (view : KeptView) : Type 0 where
  pub plan : EndsInGroups (view_at (book_of held) w).plan view.plan
  pub content : view.content.now ≡ (opened (workbook_image held.catalog.now held.tables.now) w).rel
  pub forward : view.forward.now ≡ forwards (view_at (book_of held) w).plan (each_rows held.tables.now) (selected_table (view_at (book_of held) w).plan)

-- whether a view is a grouping over a chain of the table
abbrev pub groups_table : Refresh → ℕ → Bool
groups_table refresh w = ends_in_groups (view_at (book_at refresh) w).plan && nat_eq refresh.table (selected_table (view_at (book_at refresh) w).plan)

-- a plan can be evaluated over rows of its leaves
pub record CanRun (plan : Expr) (leaves : List Relation) : Type 0 where
  pub wide : length leaves ≡ width plan
  pub few : nodes plan < 2 ^ 32
  pub fits : PlanFits plan (each_kinds leaves)

-- it gives its rows, or its first node that has too many
pub record HasRows (plan : Expr) (leaves : List Relation) (rel : Relation) : Type 0 where
  pub rows : rel.rows ≡ eval plan (each_rows leaves)
  pub kinds : rel.kinds ≡ plan_kinds plan (each_kinds leaves)
  pub few : first_full plan (each_rows leaves) ≡ None

abbrev pub IsRun : Expr → List Relation → Result Relation EvalFault → Type 0
IsRun plan leaves made = MatchResult made (HasRows plan leaves) (λ e. (node : ℕ) → e ≡ Rows node → first_full plan (each_rows leaves) ≡ Some node)

-- it is these rows, unless memory ran out
abbrev pub IsOf : Relation → Result Relation EvalFault → Type 0
IsOf rel made = MatchResult made (λ own. own ≡ rel) (λ e. e ≡ NoMemory)

-- the rows of a view, from what is kept of it: the groups that are reached, or the first content if no brush concerns it
abbrev pub read_by_marks : KeptView → Option Reached → Relation
read_by_marks view (Some reached) = grouped_by_marks view reached
read_by_marks view None = view.content.now

-- a view can be made from what is fetched
abbrev pub IsReady : Source → Type 0
IsReady (sources.Leaves plan leaves) = CanRun (expr_of plan.now) leaves
IsReady (sources.Marks view reached) = IfSome reached (CanGroup view)

-- what is made from it
abbrev pub IsMade : Source → Result Relation EvalFault → Type 0
IsMade (sources.Leaves plan leaves) made = IsRun (expr_of plan.now) leaves made
IsMade (sources.Marks view reached) made = IsOf (read_by_marks view reached) made

-- a view's plan with the rows selected for it
pub record HasLeaves (refresh : Refresh) (w : ℕ) (plan : Expr) (leaves : List Relation) : Type 0 where
  pub plan_is : plan ≡ (view_at (book_at refresh) w).plan
  pub rows : each_rows leaves ≡ leaves_now (book_at refresh) (state_next refresh) w
  pub kinds : plan_kinds plan (each_kinds leaves) ≡ (view_at (book_at refresh) w).kinds

-- what is fetched is a plan with its leaves, or the marks from which the view's rows are made
abbrev pub IsSource : Refresh → ℕ → Source → Type 0
IsSource refresh w (sources.Leaves plan leaves) = HasLeaves refresh w (expr_of plan.now) leaves
IsSource refresh w (sources.Marks view reached) = Shows refresh w (read_by_marks view reached)

-- a view can be made from what is fetched for it, with its marks
pub record IsFetched (refresh : Refresh) (fetched : Fetched) : Type 0 where
  pub source : IsSource refresh fetched.view fetched.source
  pub ready : IsReady fetched.source
  pub marks : fetched.marks ≡ marks_told refresh fetched.view

-- the views for which all is fetched
abbrev pub views_of : List Fetched → List ℕ
views_of all = map (λ (fetched : Fetched). fetched.view) all
