-- Typing never says that memory ran out: each of its faults has a place.
use Rattle.std.specs.{Prelude.{◌≢◌, Bool, true, false, not, nat_eq, nat_lt, length, map, List, [], ◌∷◌, ◌++◌, ◌+◌, ℕ, Option, Some, None, ok_or, Ok, Err}, List.{list_any, zip}}
use Rattle.smk_base.specs.{declared.value.Kind.Kind, declared.book.tree.Word.Word, declared.book.tree.Term.Term, declared.book.tree.ItemTree.ItemTree, declared.book.tree.AggTree.AggTree, declared.book.tree.AggWhat.AggWhat, declared.book.tree.PairTree.PairTree, declared.book.plan.Agg.Agg, declared.book.catalog.Column.Column, declared.book.catalog.TableInfo.TableInfo, declared.book.type_fault.TypeFault.TypeFault, declared.book.type_fault.TypeFault.TheVariants.{NoMemory, KindMismatch, DuplicateName, SumTooDeep, UnionShape, EmptyList, RowTooWide}, Plans.{Binary, BagUnion, SetUnion, Comparison}, Trees.{PredImage, CompareNode, AndNode, OrNode, NotNode, TreeImage, ScanNode, StepNode, StepImage, SelectNode, ProjectNode, DistinctNode, GroupNode, JoinNode, ThetaNode, ProductNode, UnionAllNode, UnionNode}, declared.rel.TheConstants.COLUMN_LIMIT}
use Rattle.smk_base.specs.declared.value.Kind.TheVariants as kinds
use Rattle.smk_base.specs.declared.book.tree.Term.TheVariants as terms
use Rattle.smk_base.specs.declared.book.tree.ItemTree.TheVariants as item_trees
use Rattle.smk_base.specs.declared.book.tree.AggWhat.TheVariants as agg_trees
use Rattle.smk_base.specs.declared.book.plan.Agg.TheVariants as aggs
use Rattle.smk_base.specs.declared.book.plan.Item.TheVariants as items
use Rattle.smk_model.specs.{Names.{Typed, ◌>>=◌, unless, in_turn, has_name, column_named, same_sort, is_text}, TypedSteps.{TypedPlan, TypedGroup, named, item_name, term_place, share_a_name, same_shape, united_column, typed_term, typed_pred, typed_item, item_after, typed_items, key_after, typed_sum, typed_agg, agg_after, whole_group, typed_group, pair_after, joined, united, united_plan}, Typing.{table_by_word, typed_plan, typed_step}}

-- a result, or a fault that isn't being out of memory
abbrev pub Says : {A : Type 0} → Typed A → Type 0
Says (Ok a) = Unit {0}
Says (Err fault) = fault ≢ NoMemory

pub next_says : {A B : Type 0} (first : Typed A) (next : A → Typed B) → Says first → ((a : A) → Says (next a)) → Says (first >>= next)
next_says (Ok a) next says more = more a
next_says (Err fault) next says more = says

unless_says : {A : Type 0} (fault : TypeFault) → fault ≢ NoMemory → (wrong : Bool) (found : Typed A) → Says found → Says (unless wrong fault found)
unless_says fault is true found says = is
unless_says fault is false found says = says

pub turn_says : {A X : Type 0} (rule : A → X → Typed A) → ((a : A) (x : X) → Says (rule a x)) → (a : A) (xs : List X) → Says (in_turn rule a xs)
turn_says rule says a [] = tt
turn_says rule says a (x ∷ xs) = next_says (rule a x) _ (says a x) (λ more. turn_says rule says more xs)

or_says : {A : Type 0} (found : Option A) (fault : TypeFault) → fault ≢ NoMemory → Says (ok_or found fault)
or_says (Some a) fault is = tt
or_says None fault is = is

column_says : (columns : List Column) (word : Word) → Says (column_named columns word)
column_says columns word = or_says _ _ (λ e. cc e)

term_says : (columns : List Column) (term : Term) → Says (typed_term columns term)
term_says columns (terms.Col word) = next_says (column_named columns word) _ (column_says columns word) (λ found. tt)
term_says columns (terms.Lit literal) = tt

pred_says : (columns : List Column) (pred : PredImage) → Says (typed_pred columns pred)
pred_says columns (CompareNode word op term) =
    next_says (column_named columns word) _ (column_says columns word) (λ left.
    next_says (typed_term columns term) _ (term_says columns term) (λ right. unless_says (KindMismatch (term_place term)) (λ e. cc e) (not (same_sort left.1 right.1)) (Ok (Comparison left.0 op right.0)) tt))
pred_says columns (AndNode a b) = next_says (typed_pred columns a) _ (pred_says columns a) (λ left. next_says (typed_pred columns b) _ (pred_says columns b) (λ right. tt))
pred_says columns (OrNode a b) = next_says (typed_pred columns a) _ (pred_says columns a) (λ left. next_says (typed_pred columns b) _ (pred_says columns b) (λ right. tt))
pred_says columns (NotNode a) = next_says (typed_pred columns a) _ (pred_says columns a) (λ inner. tt)

item_says : (columns : List Column) (tree : ItemTree) → Says (typed_item columns tree)
item_says columns (item_trees.Col col name) = next_says (column_named columns col) _ (column_says columns col) (λ found. tt)
item_says columns (item_trees.Bin col width name) = next_says (column_named columns col) _ (column_says columns col) (λ found. unless_says (KindMismatch col.at) (λ e. cc e) (is_text found.1) (Ok (items.Bin found.0 width, found.1)) tt)

items_say : (columns : List Column) (trees : List ItemTree) → Says (typed_items columns trees)
items_say columns trees = turn_says (item_after columns) (λ made tree. next_says (typed_item columns tree) _ (item_says columns tree) (λ item. unless_says (DuplicateName (item_name tree).at) (λ e. cc e) (list_any (has_name (item_name tree).name) made.1) (Ok (made.0 ++ item.0 ∷ [], made.1 ++ named (item_name tree) item.1 ∷ [])) tt)) _ trees

sum_says : (word : Word) (c : ℕ) (kind : Kind) → Says (typed_sum word c kind)
sum_says word c kinds.Text = λ e. cc e
sum_says word c (kinds.Int level) = unless_says (SumTooDeep word.at) (λ e. cc e) (nat_lt 2 level) (Ok (aggs.Sum c, kinds.Int (level + 1))) tt

agg_says : (columns : List Column) (what : AggWhat) → Says (typed_agg columns what)
agg_says columns agg_trees.Count = tt
agg_says columns (agg_trees.Sum word) = next_says (column_named columns word) _ (column_says columns word) (λ found. sum_says word found.0 found.1)
agg_says columns (agg_trees.Min word) = next_says (column_named columns word) _ (column_says columns word) (λ found. tt)
agg_says columns (agg_trees.Max word) = next_says (column_named columns word) _ (column_says columns word) (λ found. tt)

whole_says : (at : ℕ) (keys : List ℕ) (listed : List Agg) (columns : List Column) → Says (whole_group at keys listed columns)
whole_says at keys listed columns =
    let found : Typed TypedGroup = Ok (record { keys = keys; aggs = listed; columns = columns }) in
    unless_says (EmptyList at) (λ e. cc e) (nat_eq (length columns) 0) (unless (nat_lt COLUMN_LIMIT (length columns)) (RowTooWide at) found) (unless_says (RowTooWide at) (λ e. cc e) (nat_lt COLUMN_LIMIT (length columns)) found tt)

group_says : (columns : List Column) (at : ℕ) (words : List Word) (trees : List AggTree) → Says (typed_group columns at words trees)
group_says columns at words trees =
    next_says (in_turn (key_after columns) ([], []) words) _ (turn_says (key_after columns) (λ made word. next_says (column_named columns word) _ (column_says columns word) (λ found. unless_says (DuplicateName word.at) (λ e. cc e) (list_any (has_name word.name) made.1) (Ok (made.0 ++ found.0 ∷ [], made.1 ++ named word found.1 ∷ [])) tt)) _ words) (λ keys.
    next_says (in_turn (agg_after columns) ([], keys.1) trees) _ (turn_says (agg_after columns) (λ made tree. next_says (typed_agg columns tree.what) _ (agg_says columns tree.what) (λ agg. unless_says (DuplicateName tree.name.at) (λ e. cc e) (list_any (has_name tree.name.name) made.1) (Ok (made.0 ++ agg.0 ∷ [], made.1 ++ named tree.name agg.1 ∷ [])) tt)) _ trees) (λ listed.
    whole_says at keys.0 listed.0 listed.1))

pairs_say : (lefts rights : List Column) (pairs : List PairTree) → Says (in_turn (pair_after lefts rights) [] pairs)
pairs_say lefts rights pairs = turn_says (pair_after lefts rights) (λ made pair.
    next_says (column_named lefts pair.left) _ (column_says lefts pair.left) (λ left.
    next_says (column_named rights pair.right) _ (column_says rights pair.right) (λ right. unless_says (KindMismatch pair.right.at) (λ e. cc e) (not (same_sort left.1 right.1)) (Ok (made ++ (left.0, right.0) ∷ [])) tt))) _ pairs

joined_says : (at : ℕ) (lefts rights : List Column) → Says (joined at lefts rights)
joined_says at lefts rights =
    let found : Typed (List Column) = Ok (lefts ++ rights) in
    unless_says (DuplicateName at) (λ e. cc e) (share_a_name lefts rights) (unless (nat_lt COLUMN_LIMIT (length lefts + length rights)) (RowTooWide at) found) (unless_says (RowTooWide at) (λ e. cc e) (nat_lt COLUMN_LIMIT (length lefts + length rights)) found tt)

united_says : (op : Binary) (at : ℕ) (left right : TypedPlan) → Says (united_plan op at left right)
united_says op at left right = next_says (united at left.columns right.columns) _ (unless_says (UnionShape at) (λ e. cc e) (not (same_shape left.columns right.columns)) (Ok (map united_column (zip left.columns right.columns))) tt) (λ columns. tt)

mutual
  plan_says : (tables : List TableInfo) (tree : TreeImage) → Says (typed_plan tables tree)
  plan_says tables (ScanNode word) = next_says (table_by_word tables word) _ (or_says _ _ (λ e. cc e)) (λ t. tt)
  plan_says tables (StepNode at input what) = next_says (typed_plan tables input) _ (plan_says tables input) (λ left. step_says tables what at left)

  pub step_says : (tables : List TableInfo) (what : StepImage) (at : ℕ) (left : TypedPlan) → Says (typed_step tables what at left)
  step_says tables (SelectNode pred) at left = next_says (typed_pred left.columns pred) _ (pred_says left.columns pred) (λ formula. tt)
  step_says tables (ProjectNode items) at left = next_says (typed_items left.columns items) _ (items_say left.columns items) (λ made. tt)
  step_says tables (DistinctNode items) at left = next_says (typed_items left.columns items) _ (items_say left.columns items) (λ made. tt)
  step_says tables (GroupNode keys aggs) at left = next_says (typed_group left.columns at keys aggs) _ (group_says left.columns at keys aggs) (λ group. tt)
  step_says tables (JoinNode source pairs) at left =
      next_says (typed_plan tables source) _ (plan_says tables source) (λ right.
      next_says (in_turn (pair_after left.columns right.columns) [] pairs) _ (pairs_say left.columns right.columns pairs) (λ paired.
      next_says (joined at left.columns right.columns) _ (joined_says at left.columns right.columns) (λ columns. tt)))
  step_says tables (ThetaNode source pred) at left =
      next_says (typed_plan tables source) _ (plan_says tables source) (λ right.
      next_says (joined at left.columns right.columns) _ (joined_says at left.columns right.columns) (λ columns.
      next_says (typed_pred columns pred) _ (pred_says columns pred) (λ formula. tt)))
  step_says tables (ProductNode source) at left =
      next_says (typed_plan tables source) _ (plan_says tables source) (λ right.
      next_says (joined at left.columns right.columns) _ (joined_says at left.columns right.columns) (λ columns. tt))
  step_says tables (UnionAllNode source) at left = next_says (typed_plan tables source) _ (plan_says tables source) (λ right. united_says BagUnion at left right)
  step_says tables (UnionNode source) at left = next_says (typed_plan tables source) _ (plan_says tables source) (λ right. united_says SetUnion at left right)
