-- What typing makes of a dependency: a view that shows it.
use Rattle.std.specs.{Prelude.{All, IfSome, nat_eq, nat_lt, ok_or, Option}, List.list_any}
use Rattle.std.proofs.{Common.{◌≡◌, ◌<◌, ℕ, ◌+◌, true, false, List, [], ◌∷◌, ◌++◌, length, map, Some, None, Ok, position, refl, ap, sym, ◌∙◌, subst, arith, get_or, append_assoc, append-nil}, lemmas.Bool.{eq-eqb, or_left, or_right}, lemmas.List.{length-append, length-map, get_or_append_left, get_or-map, map_push}, lemmas.List.Folds.list_any-append, lemmas.List.Quantifiers.position-Some, lemmas.List.Elements.{All-nil, All-cons, All-append}}
use Rattle.smk_base.proofs.Codes.{text_same}
use Rattle.smk_base.specs.{CatalogImage.{CatalogImage, ViewImage, view_place, table_place}, Plans.{Formula, Comparison, Selection, Grouping, Leaf, Apply}, Trees.{StmtImage, TreeImage, TableNode, ViewNode, BackNode, FwdNode, LinkNode, DependsNode, GroupNode, ScanNode, StepNode, CompareNode}, declared.book.catalog.Back.Back, declared.book.catalog.Column.Column, declared.book.catalog.TableInfo.TableInfo, declared.book.plan.Agg.Agg, declared.book.plan.CmpOp.TheVariants.Ne, declared.book.plan.Operand.TheVariants.Col, declared.book.tree.AggWhat.AggWhat, declared.book.tree.Decl.Decl, declared.book.tree.Extra.Extra, declared.book.tree.Word.Word, declared.book.type_fault.TypeFault.TypeFault, declared.book.type_fault.TypeFault.TheVariants.{DuplicateName, EmptyList, RowTooWide}, declared.value.Kind.Kind, declared.rel.TheConstants.COLUMN_LIMIT}
use Rattle.smk_base.specs.declared.book.catalog.BackExtra.TheVariants as back_extras
use Rattle.smk_base.specs.declared.book.plan.Agg.TheVariants as aggs
use Rattle.smk_base.specs.declared.book.tree.AggWhat.TheVariants as agg_trees
use Rattle.smk_base.specs.declared.book.tree.Extra.TheVariants as extras
use Rattle.smk_base.specs.declared.book.tree.Term.TheVariants as terms
use Rattle.smk_model.specs.{Dependencies.{Dependency, dependency_of, plan_of, extremes, extremes_differ}, Expanded.{least_word, most_word, bounds, violations_tree, dependency_name, dependency_names}, Names.{Typed, ◌>>=◌, unless, in_turn, same_name, has_name, column_at, column_named}, Profiles.{shown_by, ShowsDependency, AreDependencies}, Session.{view_at, no_view}, TypedSteps.{TypedPlan, TypedGroup, named, key_after, typed_agg, agg_after, whole_group, typed_group, typed_pred, selected_plan, grouped_plan}, Typing.{table_after, view_after, view_of, back_after, fwd_after, link_after, depends_after, stmt_after, types, table_by_word, view_by_word, typed_plan, columns_of, info_at, no_table, nothing_declared, decl_after, typed_extra, to_after}, Workload.is_back}
use Rattle.smk_model.proofs.{Rules.{made_of, ok_same, unless_ok}, FirstPlaces.{first_behind, place_grows, named_place, at_end}}

place_of_ok : (place : Option ℕ) (fault : TypeFault) (n : ℕ) → (let found : Typed ℕ = ok_or place fault in found) ≡ Ok n → place ≡ Some n
place_of_ok None fault n e = absurd (cc e)
place_of_ok (Some m) fault n e = let same : m ≡ n = cc e in ap Some same

-- the tables, views and backward declarations of a catalog stand first in another
record Grows (old new : CatalogImage) : Type 0 where
  tables : (more : List TableInfo) × (new.tables ≡ old.tables ++ more)
  views : (more : List ViewImage) × (new.views ≡ old.views ++ more)
  backs : (more : List Back) × (new.backs ≡ old.backs ++ more)

abbrev StartsWith : {X : Type 0} → List X → List X → Type 0
StartsWith {X} old new = (more : List X) × (new ≡ old ++ more)

same_start : {X : Type 0} (xs : List X) → StartsWith xs xs
same_start xs = ([], sym (append-nil xs))

starts_on : {X : Type 0} (xs ys zs : List X) → StartsWith xs ys → StartsWith ys zs → StartsWith xs zs
starts_on xs ys zs h k = (h.0 ++ k.0, k.1 ∙ ap (λ l. l ++ k.0) h.1 ∙ append_assoc xs h.0 k.0)

grows_self : (catalog : CatalogImage) → Grows catalog catalog
grows_self catalog = record { tables = same_start catalog.tables; views = same_start catalog.views; backs = same_start catalog.backs }

grows_on : (a b c : CatalogImage) → Grows a b → Grows b c → Grows a c
grows_on a b c h k = record { tables = starts_on a.tables b.tables c.tables h.tables k.tables; views = starts_on a.views b.views c.views h.views k.views; backs = starts_on a.backs b.backs c.backs h.backs k.backs }

grows_to : (old made new : CatalogImage) → Grows old made → (let found : Typed CatalogImage = Ok made in found) ≡ Ok new → Grows old new
grows_to old made new h e = subst (Grows old) (ok_same made new e) h

table_grows : (old new : CatalogImage) (name : Word) (file : List ℕ) (decls : List Decl) → table_after old name file decls ≡ Ok new → Grows old new
table_grows old new name file decls e =
    let fresh = unless_ok _ _ _ new e in
    let cols = made_of (in_turn decl_after [] decls) _ new fresh.1 in
    grows_to old _ new (record { tables = (_ ∷ [], refl); views = same_start old.views; backs = same_start old.backs }) cols.2

view_grows : (old new : CatalogImage) (name : Word) (tree : TreeImage) → view_after old name tree ≡ Ok new → Grows old new
view_grows old new name tree e =
    let fresh = unless_ok _ _ _ new e in
    let typed = made_of (typed_plan old.tables tree) _ new fresh.1 in
    grows_to old _ new (record { tables = same_start old.tables; views = (_ ∷ [], refl); backs = same_start old.backs }) typed.2

back_grows : (old new : CatalogImage) (at : ℕ) (view table : Word) (extra : Extra) → back_after old at view table extra ≡ Ok new → Grows old new
back_grows old new at view table extra e =
    let v = made_of (view_by_word old.views view) _ new e in
    let t = made_of (table_by_word old.tables table) _ new v.2 in
    let asked = made_of (typed_extra (columns_of (info_at old.tables t.0)) extra) _ new t.2 in
    let fresh = unless_ok _ _ _ new asked.2 in
    grows_to old _ new (record { tables = same_start old.tables; views = same_start old.views; backs = (_ ∷ [], refl) }) fresh.1

fwd_grows : (old new : CatalogImage) (at : ℕ) (table view : Word) → fwd_after old at table view ≡ Ok new → Grows old new
fwd_grows old new at table view e =
    let t = made_of (table_by_word old.tables table) _ new e in
    let v = made_of (view_by_word old.views view) _ new t.2 in
    let fresh = unless_ok _ _ _ new v.2 in
    grows_to old _ new (record { tables = same_start old.tables; views = same_start old.views; backs = same_start old.backs }) fresh.1

link_grows : (old new : CatalogImage) (view table : Word) (words : List Word) → link_after old view table words ≡ Ok new → Grows old new
link_grows old new view table words e =
    let v = made_of (view_by_word old.views view) _ new e in
    let t = made_of (table_by_word old.tables table) _ new v.2 in
    let to = made_of (in_turn (to_after old v.0 t.0) [] words) _ new t.2 in
    grows_to old _ new (record { tables = same_start old.tables; views = same_start old.views; backs = same_start old.backs }) to.2

stmt_grows : (old new : CatalogImage) (stmt : StmtImage) → stmt_after old stmt ≡ Ok new → Grows old new
stmt_grows old new (TableNode name file decls) e = table_grows old new name file decls e
stmt_grows old new (ViewNode name tree) e = view_grows old new name tree e
stmt_grows old new (BackNode at view table extra) e = back_grows old new at view table extra e
stmt_grows old new (FwdNode at table view) e = fwd_grows old new at table view e
stmt_grows old new (LinkNode view table words) e = link_grows old new view table words e
stmt_grows old new (DependsNode at name table keys col) e =
    let first = made_of (view_after old name (violations_tree at table keys col)) (λ more. back_after more at name table extras.Plain) new e in
    grows_on old first.0 new (view_grows old first.0 name (violations_tree at table keys col) first.1) (back_grows first.0 new at name table extras.Plain first.2)

-- a view of this name shows a dependency
record Shows (catalog : CatalogImage) (name : List ℕ) : Type 0 where
  place : ℕ
  found : view_place catalog name ≡ Some place
  dependency : Dependency
  plan : (view_at catalog place).plan ≡ plan_of dependency
  back : list_any (is_back place dependency.table) catalog.backs ≡ true
  known : table_place catalog (info_at catalog.tables dependency.table).name ≡ Some dependency.table

shows_on : (old new : CatalogImage) (name : List ℕ) → Grows old new → Shows old name → Shows new name
shows_on old new name g h =
    let low = (position-Some _ old.views h.place no_view h.found).0 in
    let low_table = (position-Some _ old.tables h.dependency.table no_table h.known).0 in
    let same_view : view_at new h.place ≡ view_at old h.place = ap (λ l. get_or l h.place no_view) g.views.1 ∙ get_or_append_left old.views g.views.0 no_view h.place low in
    let same_table : info_at new.tables h.dependency.table ≡ info_at old.tables h.dependency.table = ap (λ l. get_or l h.dependency.table no_table) g.tables.1 ∙ get_or_append_left old.tables g.tables.0 no_table h.dependency.table low_table in
    record {
      place = h.place;
      found = ap (position (λ (view : ViewImage). same_name view.name name)) g.views.1 ∙ place_grows _ old.views g.views.0 h.place no_view h.found;
      dependency = h.dependency;
      plan = ap (λ (view : ViewImage). view.plan) same_view ∙ h.plan;
      back = ap (list_any (is_back h.place h.dependency.table)) g.backs.1 ∙ list_any-append (is_back h.place h.dependency.table) old.backs g.backs.0 ∙ or_left (list_any (is_back h.place h.dependency.table) old.backs) _ h.back;
      known =
          ap (λ (info : TableInfo). table_place new info.name) same_table
          ∙ ap (position (λ (table : TableInfo). same_name table.name (info_at old.tables h.dependency.table).name)) g.tables.1
          ∙ place_grows _ old.tables g.tables.0 h.dependency.table no_table h.known;
    }

-- as many keys as columns of them
keys_long : (columns : List Column) (made new : List ℕ × List Column) (words : List Word) → length made.1 ≡ length made.0 → in_turn (key_after columns) made words ≡ Ok new → length new.1 ≡ length new.0
keys_long columns made new [] h e = subst (λ (keys : List ℕ × List Column). length keys.1 ≡ length keys.0) (ok_same made new e) h
keys_long columns made new (word ∷ words) h e =
    let first = made_of (key_after columns made word) (λ more. in_turn (key_after columns) more words) new e in
    let found = made_of (column_named columns word) _ first.0 first.1 in
    let fresh = unless_ok (list_any (has_name word.name) made.1) (DuplicateName word.at) (Ok (made.0 ++ found.0.0 ∷ [], made.1 ++ named word found.0.1 ∷ [])) first.0 found.2 in
    let more : List ℕ × List Column = (made.0 ++ found.0.0 ∷ [], made.1 ++ named word found.0.1 ∷ []) in
    let a = length-append made.0 (found.0.0 ∷ []) in
    let b = length-append made.1 (named word found.0.1 ∷ []) in
    let long : length more.1 ≡ length more.0 = omega (arith, a, b, h) in
    keys_long columns first.0 new words (subst (λ (keys : List ℕ × List Column). length keys.1 ≡ length keys.0) (ok_same more first.0 fresh.1) long) first.2

-- the least and the most value: each is over the column, and its name is new
record Bound (columns : List Column) (col name : Word) (make : ℕ → Agg) (made new : List Agg × List Column) : Type 0 where
  found : ℕ × Kind
  known : column_named columns col ≡ Ok found
  fresh : list_any (has_name name.name) made.1 ≡ false
  is : new ≡ (made.0 ++ make found.0 ∷ [], made.1 ++ named name found.1 ∷ [])

bound_of : (columns : List Column) (col name : Word) (what : AggWhat) (make : ℕ → Agg) (made new : List Agg × List Column) → typed_agg columns what ≡ (column_named columns col >>= λ found. Ok (make found.0, found.1))
    → agg_after columns made (record { name = name; what = what }) ≡ Ok new → Bound columns col name make made new
bound_of columns col name what make made new is e =
    let agg = made_of (typed_agg columns what) _ new e in
    let found = made_of (column_named columns col) (λ found. Ok (make found.0, found.1)) agg.0 (sym is ∙ agg.1) in
    let fresh = unless_ok _ _ _ new agg.2 in
    let same = ok_same (make found.0.0, found.0.1) agg.0 found.2 in
    record {
      found = found.0;
      known = found.1;
      fresh = fresh.0;
      is = sym (ok_same _ new fresh.1) ∙ ap (λ (a : Agg × Kind). (made.0 ++ a.0 ∷ [], made.1 ++ named name a.1 ∷ [])) (sym same);
    }

-- a column behind others that have other names
named_behind : (xs ys : List Column) (word : Word) (kind : Kind) → list_any (has_name word.name) xs ≡ false
    → (k : Kind) × (column_named (xs ++ named word kind ∷ ys) word ≡ Ok (length xs, k))
named_behind xs ys word kind fresh = ((column_at (xs ++ named word kind ∷ ys) (length xs)).kind, rw (first_behind (has_name word.name) xs ys (named word kind) fresh ((text_same word.name word.name).1 refl)) refl)

-- the test of the view over its columns
differ_is : (at : ℕ) (xs : List Column) (a b : Kind) (formula : Formula) → list_any (has_name (least_word at).name) xs ≡ false → list_any (has_name (most_word at).name) (xs ++ named (least_word at) a ∷ []) ≡ false
    → typed_pred ((xs ++ named (least_word at) a ∷ []) ++ named (most_word at) b ∷ []) (CompareNode (least_word at) Ne (terms.Col (most_word at))) ≡ Ok formula
    → formula ≡ extremes_differ (length xs)
differ_is at xs a b formula no_least no_most e =
    let columns : List Column = (xs ++ named (least_word at) a ∷ []) ++ named (most_word at) b ∷ [] in
    let other = named_behind xs (named (most_word at) b ∷ []) (least_word at) a no_least in
    let least : column_named columns (least_word at) ≡ Ok (length xs, other.0) = ap (λ l. column_named l (least_word at)) (append_assoc xs (named (least_word at) a ∷ []) (named (most_word at) b ∷ [])) ∙ other.1 in
    let most = named_behind (xs ++ named (least_word at) a ∷ []) [] (most_word at) b no_most in
    let left = made_of (column_named columns (least_word at)) _ formula e in
    let right = made_of (column_named columns (most_word at) >>= λ found. Ok (Col found.0, found.1)) _ formula left.2 in
    let found = made_of (column_named columns (most_word at)) (λ found. Ok (Col found.0, found.1)) right.0 right.1 in
    let same_left = ok_same left.0 (length xs, other.0) (sym left.1 ∙ least) in
    let same_right = ok_same found.0 (length (xs ++ named (least_word at) a ∷ []), most.0) (sym found.1 ∙ most.1) in
    let operand = ok_same (Col found.0.0, found.0.1) right.0 found.2 in
    let one_more : length (xs ++ named (least_word at) a ∷ []) ≡ length xs + 1 = length-append xs (named (least_word at) a ∷ []) in
    let fits = unless_ok _ _ _ formula right.2 in
    sym (ok_same _ formula fits.1)
    ∙ ap (λ (l : ℕ × Kind). Comparison l.0 Ne right.0.0) same_left
    ∙ ap (λ o. Comparison (length xs) Ne o.0) (sym operand)
    ∙ ap (λ (f : ℕ × Kind). Comparison (length xs) Ne (Col f.0)) same_right
    ∙ ap (λ n. Comparison (length xs) Ne (Col n)) one_more

-- the two aggregates of the view, and the columns that they make
record Listed (at : ℕ) (xs : List Column) (l : List Agg × List Column) : Type 0 where
  col : ℕ
  first : Kind
  second : Kind
  aggregates : l.0 ≡ extremes col
  columns : l.1 ≡ (xs ++ named (least_word at) first ∷ []) ++ named (most_word at) second ∷ []
  no_least : list_any (has_name (least_word at).name) xs ≡ false
  no_most : list_any (has_name (most_word at).name) (xs ++ named (least_word at) first ∷ []) ≡ false

both_listed : (columns : List Column) (at : ℕ) (col : Word) (xs : List Column) (p q : List Agg × List Column) → Bound columns col (least_word at) aggs.Min ([], xs) p → Bound columns col (most_word at) aggs.Max p q → Listed at xs q
both_listed columns at col xs p q least most =
    let one_column = ok_same most.found least.found (sym most.known ∙ least.known) in
    record {
      col = least.found.0;
      first = least.found.1;
      second = most.found.1;
      aggregates =
          ap (λ (m : List Agg × List Column). m.0) most.is
          ∙ ap (λ (m : List Agg × List Column). m.0 ++ aggs.Max most.found.0 ∷ []) least.is
          ∙ ap (λ (f : ℕ × Kind). aggs.Min least.found.0 ∷ aggs.Max f.0 ∷ []) one_column;
      columns =
          ap (λ (m : List Agg × List Column). m.1) most.is
          ∙ ap (λ (m : List Agg × List Column). m.1 ++ named (most_word at) most.found.1 ∷ []) least.is;
      no_least = least.fresh;
      no_most = ap (λ (m : List Agg × List Column). list_any (has_name (most_word at).name) m.1) (sym least.is) ∙ most.fresh;
    }

listed_of : (columns : List Column) (at : ℕ) (col : Word) (xs : List Column) (l : List Agg × List Column) → in_turn (agg_after columns) ([], xs) (bounds at col) ≡ Ok l → Listed at xs l
listed_of columns at col xs l e =
    let p = made_of (agg_after columns ([], xs) (record { name = least_word at; what = agg_trees.Min col })) (λ more. in_turn (agg_after columns) more (record { name = most_word at; what = agg_trees.Max col } ∷ [])) l e in
    let q = made_of (agg_after columns p.0 (record { name = most_word at; what = agg_trees.Max col })) (λ more. in_turn (agg_after columns) more []) l p.2 in
    let least = bound_of columns col (least_word at) (agg_trees.Min col) aggs.Min ([], xs) p.0 refl p.1 in
    let most = bound_of columns col (most_word at) (agg_trees.Max col) aggs.Max p.0 q.0 refl q.1 in
    subst (Listed at xs) (ok_same q.0 l q.2) (both_listed columns at col xs p.0 q.0 least most)

whole_of : (at : ℕ) (keys : List ℕ) (listed : List Agg) (columns : List Column) (group : TypedGroup) → whole_group at keys listed columns ≡ Ok group → group ≡ record { keys = keys; aggs = listed; columns = columns }
whole_of at keys listed columns group e =
    let whole : TypedGroup = record { keys = keys; aggs = listed; columns = columns } in
    let some = unless_ok (nat_eq (length columns) 0) (EmptyList at) (unless (nat_lt COLUMN_LIMIT (length columns)) (RowTooWide at) (Ok whole)) group e in
    let few = unless_ok (nat_lt COLUMN_LIMIT (length columns)) (RowTooWide at) (Ok whole) group some.1 in
    sym (ok_same whole group few.1)

-- the grouping of the view
record Bounded (at : ℕ) (group : TypedGroup) : Type 0 where
  col : ℕ
  aggregates : group.aggs ≡ extremes col
  test : (formula : Formula) → typed_pred group.columns (CompareNode (least_word at) Ne (terms.Col (most_word at))) ≡ Ok formula → formula ≡ extremes_differ (length group.keys)

whole_bounded : (at : ℕ) (k : List ℕ × List Column) (l : List Agg × List Column) → length k.1 ≡ length k.0 → Listed at k.1 l → Bounded at (record { keys = k.0; aggs = l.0; columns = l.1 })
whole_bounded at k l long h = record {
  col = h.col;
  aggregates = h.aggregates;
  test = λ formula f.
      differ_is at k.1 h.first h.second formula h.no_least h.no_most (ap (λ columns. typed_pred columns (CompareNode (least_word at) Ne (terms.Col (most_word at)))) (sym h.columns) ∙ f)
      ∙ ap extremes_differ long;
}

bounded_of : (columns : List Column) (at : ℕ) (keys : List Word) (col : Word) (group : TypedGroup) → typed_group columns at keys (bounds at col) ≡ Ok group → Bounded at group
bounded_of columns at keys col group e =
    let k = made_of (in_turn (key_after columns) ([], []) keys) _ group e in
    let l = made_of (in_turn (agg_after columns) ([], k.0.1) (bounds at col)) _ group k.2 in
    subst (Bounded at) (sym (whole_of at k.0.0 l.0.0 l.0.1 group l.2)) (whole_bounded at k.0 l.0 (keys_long columns ([], []) k.0 keys refl k.1) (listed_of columns at col k.0.1 l.0 l.1))

-- the plan of the view
record Planned (tables : List TableInfo) (table : Word) (typed : TypedPlan) : Type 0 where
  dependency : Dependency
  plan : typed.plan ≡ plan_of dependency
  known : table_by_word tables table ≡ Ok dependency.table

planned_of : (tables : List TableInfo) (at : ℕ) (table : Word) (keys : List Word) (col : Word) (typed : TypedPlan) → typed_plan tables (violations_tree at table keys col) ≡ Ok typed → Planned tables table typed
planned_of tables at table keys col typed e =
    let over = made_of (typed_plan tables (StepNode at (ScanNode table) (GroupNode keys (bounds at col)))) (λ left. selected_plan left (CompareNode (least_word at) Ne (terms.Col (most_word at)))) typed e in
    let scanned = made_of (typed_plan tables (ScanNode table)) (λ left. grouped_plan at left keys (bounds at col)) over.0 over.1 in
    let t = made_of (table_by_word tables table) (λ t. Ok (record { plan = Leaf t; columns = columns_of (info_at tables t) })) scanned.0 scanned.1 in
    let group = made_of (typed_group scanned.0.columns at keys (bounds at col)) _ over.0 scanned.2 in
    let formula = made_of (typed_pred over.0.columns (CompareNode (least_word at) Ne (terms.Col (most_word at)))) _ typed over.2 in
    let leaf = ok_same (record { plan = Leaf t.0; columns = columns_of (info_at tables t.0) }) scanned.0 t.2 in
    let grouping = ok_same (record { plan = Apply (Grouping group.0.keys group.0.aggs) scanned.0.plan; columns = group.0.columns }) over.0 group.2 in
    let selection = ok_same (record { plan = Apply (Selection formula.0) over.0.plan; columns = over.0.columns }) typed formula.2 in
    let bounded = bounded_of scanned.0.columns at keys col group.0 group.1 in
    let test = bounded.test formula.0 (ap (λ (p : TypedPlan). typed_pred p.columns (CompareNode (least_word at) Ne (terms.Col (most_word at)))) grouping ∙ formula.1) in
    record {
      dependency = record { table = t.0; keys = group.0.keys; col = bounded.col };
      plan =
          ap (λ (p : TypedPlan). p.plan) (sym selection)
          ∙ ap (λ (p : TypedPlan). Apply (Selection formula.0) p.plan) (sym grouping)
          ∙ ap (λ (p : TypedPlan). Apply (Selection formula.0) (Apply (Grouping group.0.keys group.0.aggs) p.plan)) (sym leaf)
          ∙ ap (λ a. Apply (Selection formula.0) (Apply (Grouping group.0.keys a) (Leaf t.0))) bounded.aggregates
          ∙ ap (λ f. Apply (Selection f) (Apply (Grouping group.0.keys (extremes bounded.col)) (Leaf t.0))) test;
      known = t.1;
    }

-- the view is the last one, and its backward declaration stands
depends_shows : (old new : CatalogImage) (at : ℕ) (name table : Word) (keys : List Word) (col : Word) → depends_after old at name table keys col ≡ Ok new → Shows new name.name
depends_shows old new at name table keys col e =
    let first = made_of (view_after old name (violations_tree at table keys col)) (λ more. back_after more at name table extras.Plain) new e in
    let fresh = unless_ok _ _ _ first.0 first.1 in
    let typed = made_of (typed_plan old.tables (violations_tree at table keys col)) _ first.0 fresh.1 in
    let planned = planned_of old.tables at table keys col typed.0 typed.1 in
    let mid : CatalogImage = record old { views = old.views ++ view_of name typed.0 ∷ [] } in
    let after : back_after mid at name table extras.Plain ≡ Ok new = ap (λ more. back_after more at name table extras.Plain) (ok_same mid first.0 typed.2) ∙ first.2 in
    let v = made_of (view_by_word mid.views name) _ new after in
    let t = made_of (table_by_word old.tables table) _ new v.2 in
    let once = unless_ok _ _ _ new t.2 in
    let last = ok_same (record mid { backs = mid.backs ++ record { view = v.0; table = t.0; extra = back_extras.Plain } ∷ [] }) new once.1 in
    let placed : position (same_name name.name) (map (λ (view : ViewImage). view.name) mid.views) ≡ Some (length old.views) =
    ap (position (same_name name.name)) (map_push (λ (view : ViewImage). view.name) old.views (view_of name typed.0))
    ∙ first_behind (same_name name.name) (map (λ (view : ViewImage). view.name) old.views) [] name.name fresh.0 ((text_same name.name name.name).1 refl)
    ∙ ap Some (length-map old.views (λ (view : ViewImage). view.name)) in
    let same_v : v.0 ≡ length old.views = some_same v.0 (length old.views) (sym (place_of_ok _ _ v.0 v.1) ∙ placed) in
    let same_t : t.0 ≡ planned.dependency.table = ok_same t.0 planned.dependency.table (sym t.1 ∙ planned.known) in
    let found = place_of_ok _ _ planned.dependency.table planned.known in
    let named_so = position-Some (same_name table.name) (map (λ (info : TableInfo). info.name) old.tables) planned.dependency.table no_table.name found in
    let low : planned.dependency.table < length old.tables = omega (arith, named_so.0, length-map old.tables (λ (info : TableInfo). info.name)) in
    let same_name_of : table.name ≡ (info_at old.tables planned.dependency.table).name = (text_same _ _).0 named_so.1 ∙ get_or-map (λ (info : TableInfo). info.name) old.tables planned.dependency.table no_table no_table.name low in
    subst (λ (catalog : CatalogImage). Shows catalog name.name) last (record {
      place = length old.views;
      found = named_place (λ (view : ViewImage). view.name) mid.views name.name (length old.views) no_view placed;
      dependency = planned.dependency;
      plan = ap (λ (view : ViewImage). view.plan) (at_end old.views [] (view_of name typed.0) no_view) ∙ planned.plan;
      back =
          list_any-append (is_back (length old.views) planned.dependency.table) old.backs (record { view = v.0; table = t.0; extra = back_extras.Plain } ∷ [])
          ∙ or_right (list_any (is_back (length old.views) planned.dependency.table) old.backs) _ (declared v.0 t.0 (length old.views) planned.dependency.table same_v same_t);
      known = named_place (λ (info : TableInfo). info.name) old.tables (info_at old.tables planned.dependency.table).name planned.dependency.table no_table (ap (λ n. position (same_name n) (map (λ (info : TableInfo). info.name) old.tables)) (sym same_name_of) ∙ found);
    })
  where
    some_same : (m n : ℕ) → Some m ≡ Some n → m ≡ n
    some_same m n e = cc e

    declared : (v t w u : ℕ) → v ≡ w → t ≡ u → list_any (is_back w u) (record { view = v; table = t; extra = back_extras.Plain } ∷ []) ≡ true
    declared v t w u e f = rw (eq-eqb v w e, eq-eqb t u f) refl

-- and so do those of a whole book, in the end
stmt_shows : (old new last : CatalogImage) (stmt : StmtImage) → stmt_after old stmt ≡ Ok new → Grows new last → All (Shows last) (dependency_name stmt)
stmt_shows old new last (DependsNode at name table keys col) e g = All-cons (Shows last) name.name [] (shows_on new last name.name g (depends_shows old new at name table keys col e)) (All-nil (Shows last))
stmt_shows old new last _ e g = All-nil (Shows last)

book_shows : (catalog last : CatalogImage) (book : List StmtImage) → in_turn stmt_after catalog book ≡ Ok last → Grows catalog last × All (Shows last) (dependency_names book)
book_shows catalog last [] e = (grows_to catalog catalog last (grows_self catalog) e, All-nil (Shows last))
book_shows catalog last (stmt ∷ book) e =
    let first = made_of (stmt_after catalog stmt) (λ more. in_turn stmt_after more book) last e in
    let more = book_shows first.0 last book first.2 in
    (grows_on catalog first.0 last (stmt_grows catalog first.0 stmt first.1) more.0, All-append (Shows last) (dependency_name stmt) (dependency_names book) (stmt_shows catalog first.0 last stmt first.1 more.0) more.1)

shows_dependency : (catalog : CatalogImage) (name : List ℕ) → Shows catalog name → IfSome (view_place catalog name) (ShowsDependency catalog)
shows_dependency catalog name h =
    let same : shown_by catalog h.place ≡ h.dependency = ap dependency_of h.plan in
    subst (λ place. IfSome place (ShowsDependency catalog)) (sym h.found) (record {
      plan = h.plan ∙ ap plan_of (sym same);
      declared = or_left (list_any (is_back h.place (shown_by catalog h.place).table) catalog.backs) _ (ap (λ (d : Dependency). list_any (is_back h.place d.table) catalog.backs) same ∙ h.back);
      named = ap (λ (d : Dependency). table_place catalog (info_at catalog.tables d.table).name) same ∙ h.known ∙ ap (λ (d : Dependency). Some d.table) (sym same);
    })

pub dependencies_shown : (book : List StmtImage) (catalog : CatalogImage) → types book ≡ Ok catalog → AreDependencies catalog (dependency_names book)
dependencies_shown book catalog e = λ k name low. shows_dependency catalog _ ((book_shows nothing_declared catalog book e).1 k name low)
