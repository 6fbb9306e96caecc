-- When a step of a plan is well typed over the columns of its input, its plan, and its output columns.
use Rattle.std.specs.{Prelude.{ℕ, ◌+◌, Bool, not, ◌&&◌, nat_eq, nat_lt, List, [], ◌∷◌, ◌++◌, length, map, Ok, Err}, List.{list_any, list_all, zip}}
use Rattle.smk_base.specs.{declared.value.Kind.Kind, declared.book.tree.Word.Word, declared.book.tree.Term.Term, declared.book.tree.ItemTree.ItemTree, declared.book.tree.AggTree.AggTree, declared.book.tree.AggWhat.AggWhat, declared.book.tree.PairTree.PairTree, declared.book.plan.Operand.Operand, declared.book.plan.Item.Item, declared.book.plan.Agg.Agg, declared.book.catalog.Column.Column, declared.book.type_fault.TypeFault.TheVariants.{KindMismatch, DuplicateName, SumTooDeep, UnionShape, EmptyList, RowTooWide}, declared.rel.TheConstants.COLUMN_LIMIT, Plans.{Formula, Comparison, Conjunction, Disjunction, Negation, Selection, Projection, Distinction, Grouping, Binary, Equijoin, ThetaJoin, CrossProduct, Expr, Apply, Combine}, Trees.{PredImage, CompareNode, AndNode, OrNode, NotNode}}
use Rattle.smk_base.specs.declared.value.Kind.TheVariants as kinds
use Rattle.smk_base.specs.declared.book.tree.Term.TheVariants as terms
use Rattle.smk_base.specs.declared.book.tree.ItemTree.TheVariants as item_trees
use Rattle.smk_base.specs.declared.book.tree.AggWhat.TheVariants as agg_trees
use Rattle.smk_base.specs.declared.book.plan.Operand.TheVariants as operands
use Rattle.smk_base.specs.declared.book.plan.Item.TheVariants as items
use Rattle.smk_base.specs.declared.book.plan.Agg.TheVariants as aggs
use Rattle.smk_model.specs.{Kinds.{kind_of, wider}, Names.{Typed, ◌>>=◌, unless, in_turn, has_name, column_named, same_sort, is_text}}

-- a column under a name
abbrev pub named : Word → Kind → Column
named word kind = record { name = word.name; kind = kind }

-- the right side of a comparison with its kind: a column on the right is known
abbrev pub typed_term : List Column → Term → Typed (Operand × Kind)
typed_term columns (terms.Col word) = column_named columns word >>= λ found. Ok (operands.Col found.0, found.1)
typed_term columns (terms.Lit literal) = Ok (operands.Lit literal.value, kind_of literal.value)

-- the place of the right side of a comparison
abbrev pub term_place : Term → ℕ
term_place (terms.Col word) = word.at
term_place (terms.Lit literal) = literal.at

-- a predicate, its comparisons from left to right: the left column is known, then the right side, then both are ints or both texts
abbrev pub typed_pred : List Column → PredImage → Typed Formula
typed_pred columns (CompareNode word op term) = do
  left ← column_named columns word
  right ← typed_term columns term
  unless (not (same_sort left.1 right.1)) (KindMismatch (term_place term)) (Ok (Comparison left.0 op right.0))
typed_pred columns (AndNode left right) = do
  first ← typed_pred columns left
  second ← typed_pred columns right
  Ok (Conjunction first second)
typed_pred columns (OrNode left right) = do
  first ← typed_pred columns left
  second ← typed_pred columns right
  Ok (Disjunction first second)
typed_pred columns (NotNode inner) = do
  test ← typed_pred columns inner
  Ok (Negation test)

-- the word that an item has as name
abbrev pub item_name : ItemTree → Word
item_name (item_trees.Col col name) = name
item_name (item_trees.Bin col width name) = name

-- an item with its kind: its column is known, and `bin` is of an int
abbrev pub typed_item : List Column → ItemTree → Typed (Item × Kind)
typed_item columns (item_trees.Col col name) = do
  found ← column_named columns col
  Ok (items.Col found.0, found.1)
typed_item columns (item_trees.Bin col width name) = do
  found ← column_named columns col
  unless (is_text found.1) (KindMismatch col.at) (Ok (items.Bin found.0 width, found.1))

-- one more item of a list: it is well typed, and its name is new in the list
abbrev pub item_after : List Column → List Item × List Column → ItemTree → Typed (List Item × List Column)
item_after columns made tree = do
  item ← typed_item columns tree
  unless (list_any (has_name (item_name tree).name) made.1) (DuplicateName (item_name tree).at)
      (Ok (made.0 ++ item.0 ∷ [], made.1 ++ named (item_name tree) item.1 ∷ []))

-- a list of items, and the columns that it makes
abbrev pub typed_items : List Column → List ItemTree → Typed (List Item × List Column)
typed_items columns trees = in_turn (item_after columns) ([], []) trees

-- one more key: it is known, and new in the list
abbrev pub key_after : List Column → List ℕ × List Column → Word → Typed (List ℕ × List Column)
key_after columns made word = do
  found ← column_named columns word
  unless (list_any (has_name word.name) made.1) (DuplicateName word.at)
      (Ok (made.0 ++ found.0 ∷ [], made.1 ++ named word found.1 ∷ []))

-- the sum of a column: it is an int, of a level of at most 2, and the sum is one level above
abbrev pub typed_sum : Word → ℕ → Kind → Typed (Agg × Kind)
typed_sum word c kinds.Text = Err (KindMismatch word.at)
typed_sum word c (kinds.Int level) = unless (nat_lt 2 level) (SumTooDeep word.at) (Ok (aggs.Sum c, kinds.Int (level + 1)))

-- an aggregate with its kind: its column is known, and a sum is well typed
abbrev pub typed_agg : List Column → AggWhat → Typed (Agg × Kind)
typed_agg columns agg_trees.Count = Ok (aggs.Count, kinds.Int 0)
typed_agg columns (agg_trees.Sum word) = do
  found ← column_named columns word
  typed_sum word found.0 found.1
typed_agg columns (agg_trees.Min word) = do
  found ← column_named columns word
  Ok (aggs.Min found.0, found.1)
typed_agg columns (agg_trees.Max word) = do
  found ← column_named columns word
  Ok (aggs.Max found.0, found.1)

-- one more aggregate: it is well typed, and its name is new among the keys and the earlier aggregates
abbrev pub agg_after : List Column → List Agg × List Column → AggTree → Typed (List Agg × List Column)
agg_after columns made tree = do
  agg ← typed_agg columns tree.what
  unless (list_any (has_name tree.name.name) made.1) (DuplicateName tree.name.at)
      (Ok (made.0 ++ agg.0 ∷ [], made.1 ++ named tree.name agg.1 ∷ []))

-- a grouping
pub record TypedGroup : Type 0 where
  pub keys : List ℕ
  pub aggs : List Agg
  pub columns : List Column

-- a grouping as a whole, at the place of `group`: it has a key or an aggregate, and at most 16 together
abbrev pub whole_group : ℕ → List ℕ → List Agg → List Column → Typed TypedGroup
whole_group at keys listed columns =
    unless (nat_eq (length columns) 0) (EmptyList at)
    (unless (nat_lt COLUMN_LIMIT (length columns)) (RowTooWide at) (Ok (record { keys = keys; aggs = listed; columns = columns })))

-- a grouping: its keys, then its aggregates, then the whole; its columns are the keys, then the aggregates
abbrev pub typed_group : List Column → ℕ → List Word → List AggTree → Typed TypedGroup
typed_group columns at words trees = do
  keys ← in_turn (key_after columns) ([], []) words
  listed ← in_turn (agg_after columns) ([], keys.1) trees
  whole_group at keys.0 listed.0 listed.1

-- one more pair of a join: the left column is known on the left, the right one on the right, and both are ints or both texts
abbrev pub pair_after : List Column → List Column → List (ℕ × ℕ) → PairTree → Typed (List (ℕ × ℕ))
pair_after lefts rights made pair = do
  left ← column_named lefts pair.left
  right ← column_named rights pair.right
  unless (not (same_sort left.1 right.1)) (KindMismatch pair.right.at) (Ok (made ++ (left.0, right.0) ∷ []))

-- whether a name is on both sides
abbrev pub share_a_name : List Column → List Column → Bool
share_a_name lefts rights = list_any (λ left. list_any (has_name left.name) rights) lefts

-- the columns of both sides, at the place of `join`, `theta` or `product`: no name is on both sides, and there are at most 16
abbrev pub joined : ℕ → List Column → List Column → Typed (List Column)
joined at lefts rights =
    unless (share_a_name lefts rights) (DuplicateName at)
    (unless (nat_lt COLUMN_LIMIT (length lefts + length rights)) (RowTooWide at) (Ok (lefts ++ rights)))

-- whether there are as many columns on both sides, in each place both ints or both texts
abbrev pub same_shape : List Column → List Column → Bool
same_shape lefts rights = nat_eq (length lefts) (length rights) && list_all (λ sides. same_sort sides.0.kind sides.1.kind) (zip lefts rights)

-- the column of a union, under the name of the left side; an int has the greater level
abbrev pub united_column : Column × Column → Column
united_column sides = record { name = sides.0.name; kind = wider sides.0.kind sides.1.kind }

-- the columns of a union, at the place of `union`: there are as many on both sides, in each place both ints or both texts
abbrev pub united : ℕ → List Column → List Column → Typed (List Column)
united at lefts rights =
    unless (not (same_shape lefts rights)) (UnionShape at)
    (Ok (map united_column (zip lefts rights)))

-- a plan and its output columns
pub record TypedPlan : Type 0 where
  pub plan : Expr
  pub columns : List Column

-- each step over a typed input, or over two
abbrev pub selected_plan : TypedPlan → PredImage → Typed TypedPlan
selected_plan left tree = do
  formula ← typed_pred left.columns tree
  Ok (record { plan = Apply (Selection formula) left.plan; columns = left.columns })

abbrev pub projected : TypedPlan → List ItemTree → Typed TypedPlan
projected left trees = do
  made ← typed_items left.columns trees
  Ok (record { plan = Apply (Projection made.0) left.plan; columns = made.1 })

abbrev pub distinct : TypedPlan → List ItemTree → Typed TypedPlan
distinct left trees = do
  made ← typed_items left.columns trees
  Ok (record { plan = Apply (Distinction made.0) left.plan; columns = made.1 })

abbrev pub grouped_plan : ℕ → TypedPlan → List Word → List AggTree → Typed TypedPlan
grouped_plan at left words trees = do
  group ← typed_group left.columns at words trees
  Ok (record { plan = Apply (Grouping group.keys group.aggs) left.plan; columns = group.columns })

abbrev pub joined_plan : ℕ → List PairTree → TypedPlan → TypedPlan → Typed TypedPlan
joined_plan at trees left right = do
  pairs ← in_turn (pair_after left.columns right.columns) [] trees
  columns ← joined at left.columns right.columns
  Ok (record { plan = Combine (Equijoin pairs) left.plan right.plan; columns = columns })

-- a theta join, at the place of `theta`: the columns of both sides, then the predicate over the left ones followed by the right ones
abbrev pub theta_plan : ℕ → PredImage → TypedPlan → TypedPlan → Typed TypedPlan
theta_plan at tree left right = do
  columns ← joined at left.columns right.columns
  formula ← typed_pred columns tree
  Ok (record { plan = Combine (ThetaJoin formula) left.plan right.plan; columns = columns })

abbrev pub product_plan : ℕ → TypedPlan → TypedPlan → Typed TypedPlan
product_plan at left right = do
  columns ← joined at left.columns right.columns
  Ok (record { plan = Combine CrossProduct left.plan right.plan; columns = columns })

abbrev pub united_plan : Binary → ℕ → TypedPlan → TypedPlan → Typed TypedPlan
united_plan op at left right = do
  columns ← united at left.columns right.columns
  Ok (record { plan = Combine op left.plan right.plan; columns = columns })
