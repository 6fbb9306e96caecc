-- The symbols of the grammar, what each of them gives, and what a rule is.
use Rattle.std.specs.Prelude.{ℕ, ℤ, List, Option, Some, None, Bool}
use Rattle.smk_base.specs.{declared.book.token.TokenKind.TokenKind, declared.book.plan.CmpOp.CmpOp, declared.book.tree.Word.Word, declared.book.tree.Lit.Lit, declared.book.tree.Decl.Decl, declared.book.tree.Extra.Extra, declared.book.tree.ItemTree.ItemTree, declared.book.tree.AggTree.AggTree, declared.book.tree.AggWhat.AggWhat, declared.book.tree.PairTree.PairTree, declared.book.tree.Term.Term, declared.book.tree.Marks.Marks, declared.book.tree.Then.Then, declared.book.tree.Line.Line, Trees.{PredImage, TreeImage, StepImage, StmtImage, AskStepImage, AnyLineImage}}
use Rattle.smk_model.specs.Tokens.{Token}

-- how many statements of each kind there are so far
pub record Tally : Type 0 where
  pub tables : ℕ
  pub views : ℕ
  pub lineages : ℕ
  pub links : ℕ

-- the nodes in this view and the comparisons in this predicate so far
pub record PlanCounts : Type 0 where
  pub nodes : ℕ
  pub compares : ℕ

abbrev pub no_counts : PlanCounts
no_counts = record { nodes = 0; compares = 0 }

-- the tokens that are left, and what is counted so far
pub record Configuration : Type 0 where
  pub rest : List Token
  pub counts : PlanCounts

-- what the members of a list with commas are
pub data Member : Type 0 where
  Declaration OutputItem KeyColumn Aggregation ColumnPair LinkedView Mark : Member

abbrev pub MemberTree : Member → Type 0
MemberTree Declaration = Decl
MemberTree OutputItem = ItemTree
MemberTree KeyColumn = Word
MemberTree Aggregation = AggTree
MemberTree ColumnPair = PairTree
MemberTree LinkedView = Word
MemberTree Mark = ℕ

-- the symbols of the grammar. The number of a member is its place in the list, that of a source, a step or a predicate is its depth, and that of a lineage the place of its keyword
pub data Symbol : Type 0 where
  AToken ANames AMarked : TokenKind → Symbol
  AName ALineName AColumn ALineColumn ALiteral AWidth AType ADefault AWhat AKeys AnAggs AnOn AnOp ATerm : Symbol
  AFirst : ℕ → Symbol
  AnAs : Word → Symbol
  One More : Member → ℕ → Symbol
  Listed : Member → Symbol
  ASource APlan AStep AUnited APrim AConj APred : ℕ → Symbol
  ASteps : ℕ → TreeImage → Symbol
  AnAnds AnOrs : ℕ → PredImage → Symbol
  AStmts : Tally → Symbol
  ALineage : ℕ → Symbol
  AnExtra AMarks AThen ACleared ALine AWholeLine AnyLine AWholeAnyLine AnAskStep AskSteps APiped ASelected : Symbol

-- what each symbol gives
abbrev pub Tree : Symbol → Type 0
Tree (AToken kind) = Token
Tree (ANames between) = Word × Word
Tree (AMarked between) = Word × Marks × Word
Tree AName = Word
Tree ALineName = Word
Tree AColumn = Word
Tree ALineColumn = Word
Tree ALiteral = Lit
Tree AWidth = ℤ
Tree AType = Bool
Tree ADefault = Option Lit
Tree AWhat = AggWhat
Tree AKeys = List Word
Tree AnAggs = List AggTree
Tree AnOn = Token
Tree AnOp = CmpOp
Tree ATerm = Term
Tree (AFirst k) = Word
Tree (AnAs word) = Word
Tree (One member k) = MemberTree member
Tree (More member k) = List (MemberTree member)
Tree (Listed member) = List (MemberTree member)
Tree (ASource depth) = TreeImage
Tree (APlan depth) = TreeImage
Tree (AStep depth) = ℕ × StepImage
Tree (AUnited depth) = StepImage
Tree (APrim depth) = PredImage
Tree (AConj depth) = PredImage
Tree (APred depth) = PredImage
Tree (ASteps depth input) = TreeImage
Tree (AnAnds depth first) = PredImage
Tree (AnOrs depth first) = PredImage
Tree (AStmts tally) = List StmtImage
Tree (ALineage at) = StmtImage
Tree AnExtra = Extra
Tree AMarks = Marks
Tree AThen = Then
Tree ACleared = Line
Tree ALine = Line
Tree AWholeLine = Line
Tree AnyLine = AnyLineImage
Tree AWholeAnyLine = AnyLineImage
Tree AnAskStep = AskStepImage
Tree AskSteps = List AskStepImage
Tree APiped = List AskStepImage
Tree ASelected = List ℕ × List AskStepImage

-- a rule: one symbol after the other, and what is made of what they give
pub data Rule (A : Type 0) : Type 0 where
  Gives : A → Rule A
  Reads : (symbol : Symbol) → (Tree symbol → Rule A) → Rule A

-- a rule, and after it another that goes on with what it gives
abbrev pub behind : {A B : Type 0} → Rule A → (A → Rule B) → Rule B
behind (Gives a) next = next a
behind (Reads symbol rest) next = Reads symbol (λ tree. behind (rest tree) next)

-- what is read after the first token of a symbol, if a symbol may begin with it
abbrev pub Opening : Type 0 → Type 0
Opening A = Option (Token → Rule A)

-- such an opening, with another rule after it
abbrev pub onward : {A B : Type 0} → Opening A → (A → Rule B) → Opening B
onward (Some rule) next = Some (λ t. behind (rule t) next)
onward None next = None
