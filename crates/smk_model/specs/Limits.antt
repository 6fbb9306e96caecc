-- The limits and ranges of a book and of an `ask` line that typing relies on.
use Rattle.std.specs.{Prelude.{◌≡◌, ℕ, ◌+◌, ◌≤◌, pos, ◌≤ℤ◌, FitsSigned, Bool, true, false, count_by, List, [], length, All, Option, Some, None}, Int.w64}
use Rattle.smk_base.specs.{declared.value.Value.Value, declared.book.tree.Lit.Lit, declared.book.tree.Decl.Decl, declared.book.tree.ItemTree.ItemTree, declared.book.tree.ItemTree.TheVariants.{Col, Bin}, Trees.{TreeImage, ScanNode, StepNode, StepImage, SelectNode, ProjectNode, DistinctNode, GroupNode, JoinNode, ThetaNode, ProductNode, UnionAllNode, UnionNode, StmtImage, TableNode, ViewNode, DependsNode, AskStepImage, AskImage}, declared.book.tree.Marks.Marks, declared.book.limits.TheConstants.{TABLE_LIMIT, VIEW_LIMIT, NODE_LIMIT}, declared.rel.TheConstants.COLUMN_LIMIT}
use Rattle.smk_base.specs.declared.value.Value.TheVariants as values
use Rattle.smk_base.specs.declared.book.tree.Marks.TheVariants as markings

-- the second part of `bin` is at least 1
abbrev pub Divides : ItemTree → Type 0
Divides (Col col name) = Unit {0}
Divides (Bin col width name) = pos 1 ≤ℤ width

-- a list of at most 16 items
pub record KeepsItems (items : List ItemTree) : Type 0 where
  pub few : length items ≤ COLUMN_LIMIT
  pub divide : All Divides items

-- the lists of items in a plan
abbrev mutual
  pub KeepsTree : TreeImage → Type 0
  KeepsTree (ScanNode word) = Unit {0}
  KeepsTree (StepNode at input what) = KeepsTree input × KeepsStep what

  pub KeepsStep : StepImage → Type 0
  KeepsStep (SelectNode pred) = Unit {0}
  KeepsStep (ProjectNode items) = KeepsItems items
  KeepsStep (DistinctNode items) = KeepsItems items
  KeepsStep (GroupNode keys aggs) = Unit {0}
  KeepsStep (JoinNode source pairs) = KeepsTree source
  KeepsStep (ThetaNode source pred) = KeepsTree source
  KeepsStep (ProductNode source) = KeepsTree source
  KeepsStep (UnionAllNode source) = KeepsTree source
  KeepsStep (UnionNode source) = KeepsTree source

-- the nodes of a plan: each scan and each step
abbrev mutual
  pub nodes : TreeImage → ℕ
  nodes (ScanNode word) = 1
  nodes (StepNode at input what) = nodes input + nodes_of_step what

  pub nodes_of_step : StepImage → ℕ
  nodes_of_step (SelectNode pred) = 1
  nodes_of_step (ProjectNode items) = 1
  nodes_of_step (DistinctNode items) = 1
  nodes_of_step (GroupNode keys aggs) = 1
  nodes_of_step (JoinNode source pairs) = nodes source + 1
  nodes_of_step (ThetaNode source pred) = nodes source + 1
  nodes_of_step (ProductNode source) = nodes source + 1
  nodes_of_step (UnionAllNode source) = nodes source + 1
  nodes_of_step (UnionNode source) = nodes source + 1

-- an int is in the range of i64
abbrev pub IsInRange : Value → Type 0
IsInRange (values.Int n) = FitsSigned w64 n
IsInRange (values.Text t) = Unit {0}

-- the default of a declared column, where it is an int, is in the range of i64
abbrev pub DefaultInRange : Option Lit → Type 0
DefaultInRange None = Unit {0}
DefaultInRange (Some literal) = IsInRange literal.value

-- a declaration of at most 16 columns
pub record KeepsDecls (decls : List Decl) : Type 0 where
  pub few : length decls ≤ COLUMN_LIMIT
  pub ranges : All (λ decl. DefaultInRange decl.def) decls

-- a plan of at most 64 nodes
pub record KeepsPlan (tree : TreeImage) : Type 0 where
  pub lists : KeepsTree tree
  pub few : nodes tree ≤ NODE_LIMIT

abbrev pub KeepsStmt : StmtImage → Type 0
KeepsStmt (TableNode name file decls) = KeepsDecls decls
KeepsStmt (ViewNode name tree) = KeepsPlan tree
KeepsStmt _ = Unit {0}

abbrev pub is_table : StmtImage → Bool
is_table (TableNode name file decls) = true
is_table _ = false

-- a dependency counts as a view: it has one
abbrev pub is_view : StmtImage → Bool
is_view (ViewNode name tree) = true
is_view (DependsNode at name table keys col) = true
is_view _ = false

-- a book of at most 16 tables and 64 views, whose statements keep their limits
pub record KeepsLimits (book : List StmtImage) : Type 0 where
  pub few_tables : count_by is_table book ≤ TABLE_LIMIT
  pub few_views : count_by is_view book ≤ VIEW_LIMIT
  pub each : All KeepsStmt book

-- a step with one input, whose list of items keeps its limits
abbrev pub KeepsAskStep : StepImage → Type 0
KeepsAskStep (SelectNode pred) = Unit {0}
KeepsAskStep (ProjectNode items) = KeepsItems items
KeepsAskStep (DistinctNode items) = KeepsItems items
KeepsAskStep (GroupNode keys aggs) = Unit {0}
KeepsAskStep _ = ⊥

-- the steps of an `ask` line: at most 64, each with one input
pub record KeepsSteps (steps : List AskStepImage) : Type 0 where
  pub few : length steps ≤ NODE_LIMIT
  pub each : All (λ step. KeepsAskStep step.what) steps

-- a list of marks has a mark
abbrev pub HasMarks : Marks → Type 0
HasMarks markings.All = Unit {0}
HasMarks (markings.Listed marks) = marks ≡ [] → ⊥

-- an `ask` line: at least one step and at most 64, each of which keeps its limits, over some marks
pub record KeepsAsk (asked : AskImage) : Type 0 where
  pub marked : HasMarks asked.marks
  pub some : asked.steps ≡ [] → ⊥
  pub steps : KeepsSteps asked.steps
