-- The lists of a step that stands fit the kinds of the columns that come to it, and the step's columns have its kinds.
use Rattle.std.proofs.{Common.{◌≡◌, ◌∙◌, ◌+◌, ◌<◌, ◌≤◌, ℕ, false, List, [], ◌∷◌, ◌++◌, length, map, Ok, refl, sym, ap, subst, arith, All, nat_eq}, lemmas.List.{length-map, length-append, map-append, append_assoc, append-nil}, lemmas.List.Elements.{All-push, All-nil}}
use Rattle.std.specs.{Prelude.nat_lt, List.list_any}
use Rattle.smk_base.specs.{declared.value.Kind.Kind, declared.book.tree.Word.Word, declared.book.tree.ItemTree.ItemTree, declared.book.tree.AggTree.AggTree, declared.book.tree.AggWhat.AggWhat, declared.book.plan.Item.Item, declared.book.plan.Agg.Agg, declared.book.catalog.Column.Column, declared.book.type_fault.TypeFault.TheVariants.{KindMismatch, DuplicateName, SumTooDeep, EmptyList, RowTooWide}, Rels.kind_in, declared.rel.TheConstants.COLUMN_LIMIT}
use Rattle.smk_base.specs.declared.value.Kind.TheVariants as kinds
use Rattle.smk_base.specs.declared.book.tree.ItemTree.TheVariants as item_trees
use Rattle.smk_base.specs.declared.book.tree.AggWhat.TheVariants as agg_trees
use Rattle.smk_base.specs.declared.book.plan.Item.TheVariants as items
use Rattle.smk_base.specs.declared.book.plan.Agg.TheVariants as aggs
use Rattle.smk_model.specs.{Names.{in_turn, column_named, has_name, column_kinds, is_text}, Kinds.{IsInt, ItemFits, AggFits, kind_of_item, kind_of_agg, ItemsFit, GroupFits}, Limits.{Divides, KeepsItems}, TypedSteps.{named, item_name, typed_item, item_after, typed_items, key_after, typed_sum, typed_agg, agg_after, TypedGroup, typed_group}}
use Rattle.smk_typing.proofs.{Results.{made_of, unless_ok, ok_keeps, in_turn_keeps, in_turn_long}, StepsFit.{named_is, kinds_long}}

-- items

is_int : (kind : Kind) → is_text kind ≡ false → IsInt kind
is_int (kinds.Int level) e = tt
is_int kinds.Text e = absurd (cc e)

abbrev ItemStands : List Column → Item × Kind → Type 0
ItemStands columns item = ItemFits (column_kinds columns) item.0 × (kind_of_item (column_kinds columns) item.0 ≡ item.1)

item_stands : (columns : List Column) (tree : ItemTree) (item : Item × Kind) → Divides tree → typed_item columns tree ≡ Ok item → ItemStands columns item
item_stands columns (item_trees.Col col name) item divides e =
    let found = made_of (column_named columns col) _ item e in
    let is = named_is columns col found.0 found.1 in
    ok_keeps (ItemStands columns) _ item found.2 (is.0, is.1)
item_stands columns (item_trees.Bin col width name) item divides e =
    let found = made_of (column_named columns col) _ item e in
    let is = named_is columns col found.0 found.1 in
    let whole = unless_ok (is_text found.0.1) (KindMismatch col.at) (Ok (items.Bin found.0.0 width, found.0.1)) item found.2 in
    ok_keeps (ItemStands columns) _ item whole.1 ((is.0, subst IsInt (sym is.1) (is_int found.0.1 whole.0), divides), is.1)

-- the columns made so far have the kinds that the list gives them, behind those before the list
abbrev Made : {X : Type 0} → (X → Type 0) → (X → Kind) → List Kind → List X × List Column → Type 0
Made Fits kind before made = All Fits made.0 × (before ++ map kind made.0 ≡ column_kinds made.1)

made_push : {X : Type 0} (Fits : X → Type 0) (kind : X → Kind) (before : List Kind) (xs : List X) (columns : List Column) (x : X) (column : Column)
    → Made Fits kind before (xs, columns) → Fits x → kind x ≡ column.kind → Made Fits kind before (xs ++ x ∷ [], columns ++ column ∷ [])
made_push Fits kind before xs columns x column made fits e = (
  All-push Fits xs x made.0 fits,
  ap (λ l. before ++ l) (map-append kind xs (x ∷ [])) ∙ sym (append_assoc before (map kind xs) (kind x ∷ [])) ∙ ap (λ l. l ++ kind x ∷ []) made.1
      ∙ ap (λ k. column_kinds columns ++ k ∷ []) e ∙ sym (map-append (λ (c : Column). c.kind) columns (column ∷ [])),
)

abbrev ItemsMade : List Column → List Item × List Column → Type 0
ItemsMade columns = Made (ItemFits (column_kinds columns)) (kind_of_item (column_kinds columns)) []

item_more : (columns : List Column) (old new : List Item × List Column) (tree : ItemTree) → ItemsMade columns old → Divides tree → item_after columns old tree ≡ Ok new → ItemsMade columns new
item_more columns old new tree made divides e =
    let item = made_of (typed_item columns tree) _ new e in
    let stands = item_stands columns tree item.0 divides item.1 in
    let whole = unless_ok (list_any (has_name (item_name tree).name) old.1) (DuplicateName (item_name tree).at) _ new item.2 in
    ok_keeps (ItemsMade columns) _ new whole.1 (made_push (ItemFits (column_kinds columns)) (kind_of_item (column_kinds columns)) [] old.0 old.1 item.0.0 (named (item_name tree) item.0.1) made stands.0 stands.1)

item_long : (columns : List Column) (old new : List Item × List Column) (tree : ItemTree) → item_after columns old tree ≡ Ok new → length new.0 ≡ length old.0 + 1
item_long columns old new tree e =
    let item = made_of (typed_item columns tree) _ new e in
    let whole = unless_ok (list_any (has_name (item_name tree).name) old.1) (DuplicateName (item_name tree).at) _ new item.2 in
    let same : (let it : List Item × List Column = (old.0 ++ item.0.0 ∷ [], old.1 ++ named (item_name tree) item.0.1 ∷ []) in it) ≡ new = cc whole.1 in
    sym (ap (λ (it : List Item × List Column). length it.0) same) ∙ length-append old.0 (item.0.0 ∷ [])

pub items_stand : (columns : List Column) (trees : List ItemTree) (made : List Item × List Column) → KeepsItems trees → typed_items columns trees ≡ Ok made
    → ItemsFit (column_kinds columns) made.0 × (map (kind_of_item (column_kinds columns)) made.0 ≡ column_kinds made.1)
items_stand columns trees made keeps e =
    let all = in_turn_keeps (ItemsMade columns) Divides (item_after columns) (item_more columns) ([], []) made trees (All-nil _, refl) keeps.divide e in
    let long = in_turn_long (λ (it : List Item × List Column). length it.0) (item_after columns) (item_long columns) ([], []) made trees e in
    (record { each = all.0; few = omega (arith, long, keeps.few) }, all.1)

-- keys and aggregates

abbrev KeysMade : List Column → List ℕ × List Column → Type 0
KeysMade columns = Made (λ c. c < length (column_kinds columns)) (kind_in (column_kinds columns)) []

key_more : (columns : List Column) (old new : List ℕ × List Column) (word : Word) → KeysMade columns old → Unit {0} → key_after columns old word ≡ Ok new → KeysMade columns new
key_more columns old new word made any e =
    let found = made_of (column_named columns word) _ new e in
    let is = named_is columns word found.0 found.1 in
    let whole = unless_ok (list_any (has_name word.name) old.1) (DuplicateName word.at) _ new found.2 in
    ok_keeps (KeysMade columns) _ new whole.1 (made_push (λ c. c < length (column_kinds columns)) (kind_in (column_kinds columns)) [] old.0 old.1 found.0.0 (named word found.0.1) made is.0 is.1)

abbrev AggStands : List Column → Agg × Kind → Type 0
AggStands columns agg = AggFits (column_kinds columns) agg.0 × (kind_of_agg (column_kinds columns) agg.0 ≡ agg.1)

sum_stands : (columns : List Column) (word : Word) (c : ℕ) (kind : Kind) (agg : Agg × Kind) → c < length (column_kinds columns) → kind_in (column_kinds columns) c ≡ kind → typed_sum word c kind ≡ Ok agg → AggStands columns agg
sum_stands columns word c kinds.Text agg below is e = absurd (cc e)
sum_stands columns word c (kinds.Int level) agg below is e =
    let whole = unless_ok (nat_lt 2 level) (SumTooDeep word.at) (Ok (aggs.Sum c, kinds.Int (level + 1))) agg e in
    let low : level ≤ 2 = grind (arith, whole.0) in
    let stands : AggStands columns (aggs.Sum c, kinds.Int (level + 1)) = rw is ((below, low), refl) in
    ok_keeps (AggStands columns) _ agg whole.1 stands

agg_stands : (columns : List Column) (what : AggWhat) (agg : Agg × Kind) → typed_agg columns what ≡ Ok agg → AggStands columns agg
agg_stands columns agg_trees.Count agg e =
    ok_keeps (AggStands columns) _ agg e (tt, refl)
agg_stands columns (agg_trees.Sum word) agg e =
    let found = made_of (column_named columns word) _ agg e in
    let is = named_is columns word found.0 found.1 in
    sum_stands columns word found.0.0 found.0.1 agg is.0 is.1 found.2
agg_stands columns (agg_trees.Min word) agg e =
    let found = made_of (column_named columns word) _ agg e in
    let is = named_is columns word found.0 found.1 in
    ok_keeps (AggStands columns) _ agg found.2 (is.0, is.1)
agg_stands columns (agg_trees.Max word) agg e =
    let found = made_of (column_named columns word) _ agg e in
    let is = named_is columns word found.0 found.1 in
    ok_keeps (AggStands columns) _ agg found.2 (is.0, is.1)

abbrev AggsMade : List Column → List Kind → List Agg × List Column → Type 0
AggsMade columns before = Made (AggFits (column_kinds columns)) (kind_of_agg (column_kinds columns)) before

agg_more : (columns : List Column) (before : List Kind) (old new : List Agg × List Column) (tree : AggTree) → AggsMade columns before old → Unit {0} → agg_after columns old tree ≡ Ok new → AggsMade columns before new
agg_more columns before old new tree made any e =
    let agg = made_of (typed_agg columns tree.what) _ new e in
    let stands = agg_stands columns tree.what agg.0 agg.1 in
    let whole = unless_ok (list_any (has_name tree.name.name) old.1) (DuplicateName tree.name.at) _ new agg.2 in
    ok_keeps (AggsMade columns before) _ new whole.1 (made_push (AggFits (column_kinds columns)) (kind_of_agg (column_kinds columns)) before old.0 old.1 agg.0.0 (named tree.name agg.0.1) made stands.0 stands.1)

abbrev pub GroupStands : List Column → TypedGroup → Type 0
GroupStands columns group = GroupFits (column_kinds columns) group.keys group.aggs × (map (kind_in (column_kinds columns)) group.keys ++ map (kind_of_agg (column_kinds columns)) group.aggs ≡ column_kinds group.columns)

group_long : (columns : List Column) (keys : List ℕ) (listed : List Agg) (made : List Column) → map (kind_in (column_kinds columns)) keys ++ map (kind_of_agg (column_kinds columns)) listed ≡ column_kinds made → length keys + length listed ≡ length made
group_long columns keys listed made e =
    let K = column_kinds columns in
    omega (arith, ap (length {A = Kind}) e, length-append (map (kind_in K) keys) (map (kind_of_agg K) listed), length-map keys (kind_in K), length-map listed (kind_of_agg K), kinds_long made)

pub group_stands : (columns : List Column) (at : ℕ) (words : List Word) (trees : List AggTree) (group : TypedGroup) → typed_group columns at words trees ≡ Ok group → GroupStands columns group
group_stands columns at words trees group e =
    let keys = made_of (in_turn (key_after columns) ([], []) words) _ group e in
    let listed = made_of (in_turn (agg_after columns) ([], keys.0.1) trees) _ group keys.2 in
    let keyed = in_turn_keeps (KeysMade columns) (λ w. Unit {0}) (key_after columns) (key_more columns) ([], []) keys.0 words (All-nil _, refl) (λ k d p. tt) keys.1 in
    let before : List Kind = map (kind_in (column_kinds columns)) keys.0.0 in
    let start : AggsMade columns before ([], keys.0.1) = (All-nil _, let e : before ++ [] ≡ before = append-nil before in e ∙ keyed.1) in
    let all = in_turn_keeps (AggsMade columns before) (λ w. Unit {0}) (agg_after columns) (agg_more columns before) ([], keys.0.1) listed.0 trees start (λ k d p. tt) listed.1 in
    let some = unless_ok (nat_eq (length listed.0.1) 0) (EmptyList at) _ group listed.2 in
    let few = unless_ok (nat_lt COLUMN_LIMIT (length listed.0.1)) (RowTooWide at) (Ok (record { keys = keys.0.0; aggs = listed.0.0; columns = listed.0.1 })) group some.1 in
    let long : length keys.0.0 + length listed.0.0 ≡ length listed.0.1 = group_long columns keys.0.0 listed.0.0 listed.0.1 all.1 in
    let not_none : 0 < length listed.0.1 = grind (arith, some.0) in
    let not_many : length listed.0.1 ≤ COLUMN_LIMIT = grind (arith, few.0) in
    ok_keeps (GroupStands columns) _ group few.1 (record { keyed = keyed.0; each = all.0; some = omega (arith, long, not_none); few = omega (arith, long, not_many) }, all.1)
