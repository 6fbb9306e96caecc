-- From declared syntax trees to the plain data that definitions read.
use Rattle.std.specs.Prelude.{List, map}
use Rattle.smk_base.specs.{Trees.{PredImage, CompareNode, AndNode, OrNode, NotNode, TreeImage, ScanNode, StepNode, StepImage, SelectNode, ProjectNode, DistinctNode, GroupNode, JoinNode, ThetaNode, ProductNode, UnionAllNode, UnionNode, StmtImage, TableNode, ViewNode, BackNode, FwdNode, LinkNode, DependsNode, AskStepImage, AskImage, AnyLineImage, PlainLine, AskedLine, ProfiledLine, AppendedLine}, declared.book.tree.PredTree.{PredTree, And', Or', Not'}, declared.book.tree.PredTree.TheVariants.Cmp, declared.book.tree.Tree.{Tree, Step'}, declared.book.tree.Tree.TheVariants.Scan, declared.book.tree.StepTree.{StepTree, Join', Theta', Product', UnionAll', Union'}, declared.book.tree.StepTree.TheVariants.{Select, Project, Distinct, Group}, declared.book.tree.Stmt.Stmt, declared.book.tree.Stmt.TheVariants.{Table, View, Back, Fwd, Link, Depends}, declared.book.tree.Book.Book, declared.book.tree.AskStep.AskStep, declared.book.tree.AskLine.AskLine, declared.book.tree.AnyLine.AnyLine, declared.book.tree.AnyLine.TheVariants.{Plain, Ask, Profile, Append}}

abbrev pub pred_image : PredTree → PredImage
pred_image (Cmp col op term) = CompareNode col op term
pred_image (And' p left q right) = AndNode (pred_image left) (pred_image right)
pred_image (Or' p left q right) = OrNode (pred_image left) (pred_image right)
pred_image (Not' p inner) = NotNode (pred_image inner)

abbrev mutual
  pub tree_image : Tree → TreeImage
  tree_image (Scan table) = ScanNode table
  tree_image (Step' at p input what) = StepNode at (tree_image input) (step_image what)

  pub step_image : StepTree → StepImage
  step_image (Select pred) = SelectNode (pred_image pred)
  step_image (Project items) = ProjectNode items
  step_image (Distinct items) = DistinctNode items
  step_image (Group keys aggs) = GroupNode keys aggs
  step_image (Join' p right pairs) = JoinNode (tree_image right) pairs
  step_image (Theta' p right pred) = ThetaNode (tree_image right) (pred_image pred)
  step_image (Product' p right) = ProductNode (tree_image right)
  step_image (UnionAll' p right) = UnionAllNode (tree_image right)
  step_image (Union' p right) = UnionNode (tree_image right)

abbrev pub stmt_image : Stmt → StmtImage
stmt_image (Table name file cols) = TableNode name file cols
stmt_image (View name plan) = ViewNode name (tree_image plan)
stmt_image (Back at view table extra) = BackNode at view table extra
stmt_image (Fwd at table view) = FwdNode at table view
stmt_image (Link view table to) = LinkNode view table to
stmt_image (Depends at name table keys col) = DependsNode at name table keys col

-- the statements of a book, in order
abbrev pub book_image : Book → List StmtImage
book_image book = map stmt_image book.stmts

abbrev pub ask_step_image : AskStep → AskStepImage
ask_step_image step = record { at = step.at; what = step_image step.what }

abbrev pub ask_image : AskLine → AskImage
ask_image asked = record { view = asked.view; marks = asked.marks; table = asked.table; steps = map ask_step_image asked.steps }

-- a line of any kind
abbrev pub any_image : AnyLine → AnyLineImage
any_image (Plain line) = PlainLine line
any_image (Ask asked) = AskedLine (ask_image asked)
any_image (Profile view) = ProfiledLine view
any_image (Append table file) = AppendedLine table file
