-- What the statements of a book declare is there and fits.
use Rattle.std.proofs.{Common.{◌≡◌, ◌∙◌, ◌+◌, ◌<◌, ℕ, Bool, true, false, not, List, [], ◌∷◌, ◌++◌, length, map, get_or, Option, Some, None, Ok, refl, sym, ap, subst, arith, All, nat_eq}, lemmas.List.{length-map, length_push, map-append, append-nil, get_or_append_left}, lemmas.List.Elements.{All-push, All-nil, All-weaker}}
use Rattle.std.specs.List.{list_any}
use Rattle.smk_base.specs.{declared.value.Kind.Kind, declared.value.Value.Value, Rels.Fits, declared.book.tree.Word.Word, declared.book.tree.Lit.Lit, declared.book.tree.Decl.Decl, declared.book.tree.Extra.Extra, declared.book.col_decl.ColDecl.ColDecl, declared.book.catalog.Column.Column, declared.book.catalog.TableInfo.TableInfo, declared.book.catalog.Back.Back, declared.book.catalog.BackExtra.BackExtra, declared.book.catalog.Fwd.Fwd, declared.book.catalog.LinkInfo.LinkInfo, declared.book.type_fault.TypeFault.TheVariants.{UnknownView, DuplicateName, KindMismatch, SelfLink, RepeatedDeclaration}, Plans.{Expr, Leaf, Apply, Combine}, Trees.{TreeImage, StmtImage, TableNode, ViewNode, BackNode, FwdNode, LinkNode, DependsNode}, CatalogImage.{CatalogImage, ViewImage}}
use Rattle.smk_base.specs.declared.value.Value.TheVariants as values
use Rattle.smk_base.specs.declared.book.tree.Extra.TheVariants as extras
use Rattle.smk_model.specs.{Names.{in_turn, same_name, is_taken, column_named, column_kinds, same_sort}, Kinds.{AreAlike, kind_of}, Tables.{IsBase, IsBaseColumn}, Plain.leaves, Selection.{ScansFit, PlanFits, leaf_kinds, plan_kinds}, Expanded.IsNoDependency, Limits.{KeepsStmt, KeepsDecls, KeepsPlan, IsInRange, DefaultInRange, is_table, is_view}, TypedSteps.{TypedPlan, typed_group}, Typing.{stmt_after, columns_of, info_at, no_table, table_by_word, view_by_word, typed_plan, declared_kind, declared_column, decl_after, table_after, view_of, view_after, typed_extra, same_back, back_after, same_fwd, fwd_after, same_link, linked_to, all_links, to_after, link_after}, Catalogs.{table_kinds, each_table_kinds, ViewFits, ExtraFits, BackFits, FwdFits, LinkFits, IsTyped}}
use Rattle.smk_typing.specs.Rest.{one_if}
use Rattle.smk_typing.proofs.{Results.{made_of, unless_ok, ok_keeps, in_turn_keeps}, StepsFit.{named_is, kinds_long, alike}, ListsFit.group_stands, PlansFit.{plan_stands, table_is}, Lookups.named_within}

-- more tables

scans_more : (plan : Expr) (n : ℕ) → ScansFit n plan → ScansFit (n + 1) plan
scans_more (Leaf t) n s = omega (arith, s)
scans_more (Apply op input) n s = scans_more input n s
scans_more (Combine op a b) n s = (scans_more a n s.0, scans_more b n s.1)

kinds_more : (plan : Expr) (K : List (List Kind)) (last : List Kind) → ScansFit (length K) plan → leaf_kinds plan (K ++ last ∷ []) ≡ leaf_kinds plan K
kinds_more (Leaf t) K last s = ap (λ k. k ∷ []) (get_or_append_left K (last ∷ []) [] t s)
kinds_more (Apply op input) K last s = kinds_more input K last s
kinds_more (Combine op a b) K last s =
    map-append (λ t. get_or (K ++ last ∷ []) t []) (leaves a) (leaves b) ∙ ap (λ l. l ++ leaf_kinds b (K ++ last ∷ [])) (kinds_more a K last s.0) ∙ ap (λ l. leaf_kinds a K ++ l) (kinds_more b K last s.1)
    ∙ sym (map-append (λ t. get_or K t []) (leaves a) (leaves b))

view_over_more : (tables : List TableInfo) (table : TableInfo) (view : ViewImage) → ViewFits tables view → ViewFits (tables ++ table ∷ []) view
view_over_more tables table view fits =
    let K : List (List Kind) = each_table_kinds tables in
    let in_K : ScansFit (length K) view.plan = subst (λ n. ScansFit n view.plan) (sym (length-map tables table_kinds)) fits.scans in
    let same : leaf_kinds view.plan (each_table_kinds (tables ++ table ∷ [])) ≡ leaf_kinds view.plan K = ap (leaf_kinds view.plan) (map-append table_kinds tables (table ∷ [])) ∙ kinds_more view.plan K (table_kinds table) in_K in
    record {
      scans = subst (λ n. ScansFit n view.plan) (sym (length_push tables table)) (scans_more view.plan (length tables) fits.scans);
      fits = subst (PlanFits view.plan) (sym same) fits.fits;
      kinds = ap (plan_kinds view.plan) same ∙ fits.kinds;
      named = fits.named;
      few = fits.few;
    }

back_over_more : (tables : List TableInfo) (table : TableInfo) (views : ℕ) (back : Back) → BackFits tables views back → BackFits (tables ++ table ∷ []) views back
back_over_more tables table views back fits = record {
  view = fits.view;
  table = omega (arith, fits.table, length_push tables table);
  extra = subst (λ t. ExtraFits (table_kinds t) back.extra) (sym (get_or_append_left tables (table ∷ []) no_table back.table fits.table)) fits.extra;
}

-- more declarations

abbrev ColumnsFit : List ColDecl → Type 0
ColumnsFit cols = All IsBaseColumn cols

declared_base : (text : Bool) → IsBase (declared_kind text)
declared_base true = tt
declared_base false = refl

declared_fits : (text : Bool) (value : Value) → AreAlike (declared_kind text) (kind_of value) → IsInRange value → Fits (declared_kind text) value
declared_fits true (values.Text bytes) alike range = tt
declared_fits false (values.Int n) alike range = range
declared_fits _ _ alike range = absurd alike

column_stands : (decl : Decl) (def : Option Lit) (col : ColDecl) → DefaultInRange def → declared_column decl def ≡ Ok col → IsBaseColumn col
column_stands decl None col range e =
    ok_keeps IsBaseColumn _ col e (record { base = declared_base decl.text; default_fits = tt })
column_stands decl (Some literal) col range e =
    let whole = unless_ok (not (same_sort (declared_kind decl.text) (kind_of literal.value))) (KindMismatch literal.at) (Ok (record { name = decl.name.name; kind = declared_kind decl.text; def = Some literal.value })) col e in
    ok_keeps IsBaseColumn _ col whole.1 (record { base = declared_base decl.text; default_fits = declared_fits decl.text literal.value (alike _ _ whole.0) range })

decl_more : (old new : List ColDecl) (decl : Decl) → ColumnsFit old → DefaultInRange decl.def → decl_after old decl ≡ Ok new → ColumnsFit new
decl_more old new decl held range e =
    let fresh = unless_ok (list_any (λ col. same_name decl.name.name col.name) old) (DuplicateName decl.name.at) _ new e in
    let col = made_of (declared_column decl decl.def) _ new fresh.1 in
    ok_keeps ColumnsFit _ new col.2 (All-push IsBaseColumn old col.0 held (column_stands decl decl.def col.0 range col.1))

view_is : (views : List ViewImage) (word : Word) (v : ℕ) → view_by_word views word ≡ Ok v → v < length views
view_is views word v e = named_within (λ (view : ViewImage). view.name) views word.name (UnknownView word.at) v e

extra_stands : (columns : List Column) (extra : Extra) (asked : BackExtra) → typed_extra columns extra ≡ Ok asked → ExtraFits (column_kinds columns) asked
extra_stands columns extras.Plain asked e = ok_keeps (ExtraFits (column_kinds columns)) _ asked e tt
extra_stands columns (extras.By word) asked e =
    let found = made_of (column_named columns word) _ asked e in
    ok_keeps (ExtraFits (column_kinds columns)) _ asked found.2 (named_is columns word found.0 found.1).0
extra_stands columns (extras.Grouped at keys aggs) asked e =
    let group = made_of (typed_group columns at keys aggs) _ asked e in
    let stands = group_stands columns at keys aggs group.0 group.1 in
    ok_keeps (ExtraFits (column_kinds columns)) _ asked group.2 (record { fits = stands.0; kinds_are = stands.1; named = length-map group.0.columns (λ (c : Column). c.name) ∙ sym (kinds_long group.0.columns) })

-- a plan that stands, as a view
view_stands : (tables : List TableInfo) (name : Word) (tree : TreeImage) (typed : TypedPlan) → KeepsPlan tree → typed_plan tables tree ≡ Ok typed → ViewFits tables (view_of name typed)
view_stands tables name tree typed keeps e =
    let stands = plan_stands tables tree typed keeps.lists e in
    let K : List (List Kind) = leaf_kinds typed.plan (each_table_kinds tables) in
    record {
      scans = stands.scans;
      fits = subst (PlanFits typed.plan) (append-nil K) (stands.fits []);
      kinds = ap (plan_kinds typed.plan) (sym (append-nil K)) ∙ stands.kinds [];
      named = length-map typed.columns (λ (c : Column). c.name) ∙ sym (kinds_long typed.columns);
      few = omega (arith, keeps.few, stands.size);
    }

to_more : (catalog : CatalogImage) (v t : ℕ) (old new : List ℕ) (word : Word) → All (λ w. w < length catalog.views) old → Unit {0} → to_after catalog v t old word ≡ Ok new → All (λ w. w < length catalog.views) new
to_more catalog v t old new word held any e =
    let w = made_of (view_by_word catalog.views word) _ new e in
    let other = unless_ok (nat_eq w.0 v) (SelfLink word.at) _ new w.2 in
    let fresh = unless_ok (list_any (same_link (record { view = v; table = t; to = w.0 })) (all_links catalog.links ++ linked_to v t old)) (RepeatedDeclaration word.at) (Ok (old ++ w.0 ∷ [])) new other.1 in
    ok_keeps (All (λ u. u < length catalog.views)) _ new fresh.1 (All-push (λ u. u < length catalog.views) old w.0 held (view_is catalog.views word w.0 w.1))

-- one more statement

-- every number and kind is right, with this many more tables and views
abbrev Follows : CatalogImage → ℕ → ℕ → CatalogImage → Type 0
Follows old tables views new = IsTyped new × (length new.tables ≡ length old.tables + tables) × (length new.views ≡ length old.views + views)

table_kept : (old new : CatalogImage) (name : Word) (file : List ℕ) (decls : List Decl) → IsTyped old → KeepsDecls decls → table_after old name file decls ≡ Ok new → Follows old 1 0 new
table_kept old new name file decls typed keeps e =
    let fresh = unless_ok (is_taken name.name (map (λ table. table.name) old.tables)) (DuplicateName name.at) _ new e in
    let cols = made_of (in_turn decl_after [] decls) _ new fresh.1 in
    let table : TableInfo = record { name = name.name; file = file; cols = cols.0 } in
    let fit = in_turn_keeps ColumnsFit (λ decl. DefaultInRange decl.def) decl_after decl_more [] cols.0 decls (All-nil _) keeps.ranges cols.1 in
    let long = length_push old.tables table in
    let m = length (old.tables ++ table ∷ []) in
    ok_keeps (Follows old 1 0) _ new cols.2 (
      record {
        columns = All-push (λ (t : TableInfo). All IsBaseColumn t.cols) old.tables table typed.columns fit;
        views = All-weaker (ViewFits old.tables) (ViewFits (old.tables ++ table ∷ [])) (view_over_more old.tables table) old.views typed.views;
        backs = All-weaker (BackFits old.tables (length old.views)) (BackFits (old.tables ++ table ∷ []) (length old.views)) (back_over_more old.tables table (length old.views)) old.backs typed.backs;
        fwds = All-weaker (FwdFits (length old.tables) (length old.views)) (FwdFits m (length old.views)) (λ fwd f. record { table = omega (arith, f.table, long); view = f.view }) old.fwds typed.fwds;
        links = All-weaker (LinkFits (length old.tables) (length old.views)) (LinkFits m (length old.views)) (λ link f. record { view = f.view; table = omega (arith, f.table, long); to = f.to }) old.links typed.links;
      },
      long,
      omega arith,
    )

view_kept : (old new : CatalogImage) (name : Word) (tree : TreeImage) → IsTyped old → KeepsPlan tree → view_after old name tree ≡ Ok new → Follows old 0 1 new
view_kept old new name tree typed keeps e =
    let fresh = unless_ok (is_taken name.name (map (λ view. view.name) old.views)) (DuplicateName name.at) _ new e in
    let plan = made_of (typed_plan old.tables tree) _ new fresh.1 in
    let view : ViewImage = view_of name plan.0 in
    let long = length_push old.views view in
    let n = length old.views in
    let m = length (old.views ++ view ∷ []) in
    ok_keeps (Follows old 0 1) _ new plan.2 (
      record {
        columns = typed.columns;
        views = All-push (ViewFits old.tables) old.views view typed.views (view_stands old.tables name tree plan.0 keeps plan.1);
        backs = All-weaker (BackFits old.tables n) (BackFits old.tables m) (λ back f. record { view = omega (arith, f.view, long); table = f.table; extra = f.extra }) old.backs typed.backs;
        fwds = All-weaker (FwdFits (length old.tables) n) (FwdFits (length old.tables) m) (λ fwd f. record { table = f.table; view = omega (arith, f.view, long) }) old.fwds typed.fwds;
        links = All-weaker (LinkFits (length old.tables) n) (LinkFits (length old.tables) m) (λ link f. record { view = omega (arith, f.view, long); table = f.table; to = All-weaker (λ w. w < n) (λ w. w < m) (λ w l. omega (arith, long, l)) link.to f.to }) old.links typed.links;
      },
      omega arith,
      long,
    )

-- what is declared over the same tables and views
declares : (old : CatalogImage) (backs : List Back) (fwds : List Fwd) (links : List LinkInfo) → IsTyped old → All (BackFits old.tables (length old.views)) backs → All (FwdFits (length old.tables) (length old.views)) fwds → All (LinkFits (length old.tables) (length old.views)) links
    → Follows old 0 0 (record { tables = old.tables; views = old.views; backs = backs; fwds = fwds; links = links })
declares old backs fwds links typed b f l = (record { columns = typed.columns; views = typed.views; backs = b; fwds = f; links = l }, omega arith, omega arith)

back_kept : (old new : CatalogImage) (at : ℕ) (view table : Word) (extra : Extra) → IsTyped old → back_after old at view table extra ≡ Ok new → Follows old 0 0 new
back_kept old new at view table extra typed e =
    let v = made_of (view_by_word old.views view) _ new e in
    let t = made_of (table_by_word old.tables table) _ new v.2 in
    let asked = made_of (typed_extra (columns_of (info_at old.tables t.0)) extra) _ new t.2 in
    let back : Back = record { view = v.0; table = t.0; extra = asked.0 } in
    let fresh = unless_ok (list_any (same_back back) old.backs) (RepeatedDeclaration at) (Ok (record old { backs = old.backs ++ back ∷ [] })) new asked.2 in
    let fit : BackFits old.tables (length old.views) back = record { view = view_is old.views view v.0 v.1; table = table_is old.tables table t.0 t.1; extra = extra_stands (columns_of (info_at old.tables t.0)) extra asked.0 asked.1 } in
    ok_keeps (Follows old 0 0) _ new fresh.1 (declares old _ _ _ typed (All-push (BackFits old.tables (length old.views)) old.backs back typed.backs fit) typed.fwds typed.links)

fwd_kept : (old new : CatalogImage) (at : ℕ) (table view : Word) → IsTyped old → fwd_after old at table view ≡ Ok new → Follows old 0 0 new
fwd_kept old new at table view typed e =
    let t = made_of (table_by_word old.tables table) _ new e in
    let v = made_of (view_by_word old.views view) _ new t.2 in
    let fwd : Fwd = record { table = t.0; view = v.0 } in
    let fresh = unless_ok (list_any (same_fwd fwd) old.fwds) (RepeatedDeclaration at) (Ok (record old { fwds = old.fwds ++ fwd ∷ [] })) new v.2 in
    let fit : FwdFits (length old.tables) (length old.views) fwd = record { table = table_is old.tables table t.0 t.1; view = view_is old.views view v.0 v.1 } in
    ok_keeps (Follows old 0 0) _ new fresh.1 (declares old _ _ _ typed typed.backs (All-push (FwdFits (length old.tables) (length old.views)) old.fwds fwd typed.fwds fit) typed.links)

link_kept : (old new : CatalogImage) (view table : Word) (words : List Word) → IsTyped old → link_after old view table words ≡ Ok new → Follows old 0 0 new
link_kept old new view table words typed e =
    let v = made_of (view_by_word old.views view) _ new e in
    let t = made_of (table_by_word old.tables table) _ new v.2 in
    let to = made_of (in_turn (to_after old v.0 t.0) [] words) _ new t.2 in
    let link : LinkInfo = record { view = v.0; table = t.0; to = to.0 } in
    let low = in_turn_keeps (All (λ w. w < length old.views)) (λ w. Unit {0}) (to_after old v.0 t.0) (to_more old v.0 t.0) [] to.0 words (All-nil _) (λ k d p. tt) to.1 in
    let fit : LinkFits (length old.tables) (length old.views) link = record { view = view_is old.views view v.0 v.1; table = table_is old.tables table t.0 t.1; to = low } in
    ok_keeps (Follows old 0 0) _ new to.2 (declares old _ _ _ typed typed.backs typed.fwds (All-push (LinkFits (length old.tables) (length old.views)) old.links link typed.links fit))

-- a statement that stands keeps what the catalog keeps, and makes one table, one view or neither
pub stmt_kept : (old new : CatalogImage) (stmt : StmtImage) → IsTyped old → KeepsStmt stmt → IsNoDependency stmt → stmt_after old stmt ≡ Ok new → Follows old (one_if (is_table stmt)) (one_if (is_view stmt)) new
stmt_kept old new (TableNode name file decls) typed keeps none e = table_kept old new name file decls typed keeps e
stmt_kept old new (ViewNode name tree) typed keeps none e = view_kept old new name tree typed keeps e
stmt_kept old new (BackNode at view table extra) typed keeps none e = back_kept old new at view table extra typed e
stmt_kept old new (FwdNode at table view) typed keeps none e = fwd_kept old new at table view typed e
stmt_kept old new (LinkNode view table words) typed keeps none e = link_kept old new view table words typed e
stmt_kept old new (DependsNode at name table keys col) typed keeps none e = absurd none
