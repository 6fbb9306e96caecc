-- Syntax trees of books and lines as plain data, with no pointers: the definitions of the grammar and of typing read these. Parts without a pointer stand as they are declared.
use Rattle.std.specs.Prelude.{ℕ, List}
use Rattle.smk_base.specs.{declared.book.plan.CmpOp.CmpOp, declared.book.tree.Word.Word, declared.book.tree.Decl.Decl, declared.book.tree.Extra.Extra, declared.book.tree.ItemTree.ItemTree, declared.book.tree.AggTree.AggTree, declared.book.tree.PairTree.PairTree, declared.book.tree.Term.Term, declared.book.tree.Marks.Marks, declared.book.tree.Line.Line}

-- a predicate
pub data PredImage : Type 0 where
  CompareNode : Word → CmpOp → Term → PredImage
  AndNode : PredImage → PredImage → PredImage
  OrNode : PredImage → PredImage → PredImage
  NotNode : PredImage → PredImage

-- a plan, and a step without its input; the number is the place of the step's first keyword
mutual
  pub data TreeImage : Type 0 where
    ScanNode : Word → TreeImage
    StepNode : ℕ → TreeImage → StepImage → TreeImage

  pub data StepImage : Type 0 where
    SelectNode : PredImage → StepImage
    ProjectNode : List ItemTree → StepImage
    DistinctNode : List ItemTree → StepImage
    GroupNode : List Word → List AggTree → StepImage
    JoinNode : TreeImage → List PairTree → StepImage
    ThetaNode : TreeImage → PredImage → StepImage
    ProductNode : TreeImage → StepImage
    UnionAllNode : TreeImage → StepImage
    UnionNode : TreeImage → StepImage

-- a statement; the number is the place of `lineage` or of `fd`
pub data StmtImage : Type 0 where
  TableNode : Word → List ℕ → List Decl → StmtImage
  ViewNode : Word → TreeImage → StmtImage
  BackNode : ℕ → Word → Word → Extra → StmtImage
  FwdNode : ℕ → Word → Word → StmtImage
  LinkNode : Word → Word → List Word → StmtImage
  DependsNode : ℕ → Word → Word → List Word → Word → StmtImage

-- a step of an `ask` line; the number is the place of its keyword
pub record AskStepImage : Type 0 where
  pub at : ℕ
  pub what : StepImage

-- an `ask` line: a view, its marks, a table, and the steps over the rows that these came from
pub record AskImage : Type 0 where
  pub view : List ℕ
  pub marks : Marks
  pub table : List ℕ
  pub steps : List AskStepImage

-- a line of any kind
pub data AnyLineImage : Type 0 where
  PlainLine : Line → AnyLineImage
  AskedLine : AskImage → AnyLineImage
  ProfiledLine : List ℕ → AnyLineImage
  AppendedLine : List ℕ → List ℕ → AnyLineImage
