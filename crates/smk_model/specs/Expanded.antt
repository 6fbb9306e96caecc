-- The book that is typed and answered: each dependency is replaced by other statements.
use Rattle.std.specs.{Prelude.{ℕ, List, [], ◌∷◌, All, codes}, List.flat_map}
use Rattle.smk_base.specs.{declared.book.plan.CmpOp.TheVariants.Ne, declared.book.tree.Word.Word, declared.book.tree.AggTree.AggTree, declared.book.tree.AggWhat.TheVariants.{Min, Max}, Trees.{TreeImage, ScanNode, StepNode, StepImage, SelectNode, GroupNode, CompareNode, StmtImage, TableNode, ViewNode, BackNode, FwdNode, LinkNode, DependsNode}}
use Rattle.smk_base.specs.declared.book.tree.Extra.TheVariants as extras
use Rattle.smk_base.specs.declared.book.tree.Term.TheVariants as terms

-- the least and the most value of the column for a key, named at the place of the statement
abbrev pub least_word : ℕ → Word
least_word at = record { name = codes "least"; at = at }

abbrev pub most_word : ℕ → Word
most_word at = record { name = codes "most"; at = at }

abbrev pub bounds : ℕ → Word → List AggTree
bounds at col = record { name = least_word at; what = Min col } ∷ record { name = most_word at; what = Max col } ∷ []

-- where the least value isn't the most value
abbrev pub bounds_differ : ℕ → StepImage
bounds_differ at = SelectNode (CompareNode (least_word at) Ne (terms.Col (most_word at)))

-- the keys of a table with more than one value of the column: scan T | group keys {least = min c, most = max c} | where least != most
abbrev pub violations_tree : ℕ → Word → List Word → Word → TreeImage
violations_tree at table keys col =
    StepNode at (StepNode at (ScanNode table) (GroupNode keys (bounds at col))) (bounds_differ at)

-- what a statement is replaced by: a dependency by its view and a plain backward declaration from that view to the table, any other by itself
abbrev pub in_its_place : StmtImage → List StmtImage
in_its_place (TableNode name file decls) = TableNode name file decls ∷ []
in_its_place (ViewNode name tree) = ViewNode name tree ∷ []
in_its_place (BackNode at view table extra) = BackNode at view table extra ∷ []
in_its_place (FwdNode at table view) = FwdNode at table view ∷ []
in_its_place (LinkNode view table to) = LinkNode view table to ∷ []
in_its_place (DependsNode at name table keys col) = ViewNode name (violations_tree at table keys col) ∷ BackNode at name table extras.Plain ∷ []

-- the book with each dependency replaced
abbrev pub expanded : List StmtImage → List StmtImage
expanded book = flat_map in_its_place book

-- the names of a book's dependencies, in order
abbrev pub dependency_name : StmtImage → List (List ℕ)
dependency_name (DependsNode at name table keys col) = name.name ∷ []
dependency_name _ = []

abbrev pub dependency_names : List StmtImage → List (List ℕ)
dependency_names book = flat_map dependency_name book

-- a statement that is no dependency, and a book without dependencies
abbrev pub IsNoDependency : StmtImage → Type 0
IsNoDependency (DependsNode at name table keys col) = ⊥
IsNoDependency _ = Unit {0}

abbrev pub HasNoDependency : List StmtImage → Type 0
HasNoDependency book = All IsNoDependency book
