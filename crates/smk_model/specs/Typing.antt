-- Typing: a book's statements in order give its catalog, or the first fault with its place.
use Rattle.std.specs.{Prelude.{ℕ, Bool, false, true, not, ◌&&◌, nat_eq, List, [], ◌∷◌, ◌++◌, map, slice_index_or, Option, Some, None, ok_or, Ok}, List.{list_any, flat_map}}
use Rattle.smk_base.specs.{declared.value.Kind.Kind, declared.book.tree.Word.Word, declared.book.tree.Lit.Lit, declared.book.tree.Decl.Decl, declared.book.tree.Extra.Extra, declared.book.col_decl.ColDecl.ColDecl, declared.book.catalog.Column.Column, declared.book.catalog.TableInfo.TableInfo, declared.book.catalog.Back.Back, declared.book.catalog.BackExtra.BackExtra, declared.book.catalog.Fwd.Fwd, declared.book.catalog.LinkInfo.LinkInfo, declared.book.type_fault.TypeFault.TheVariants.{UnknownTable, UnknownView, DuplicateName, KindMismatch, SelfLink, RepeatedDeclaration}, Plans.{BagUnion, SetUnion, Leaf}, Trees.{TreeImage, ScanNode, StepNode, StepImage, SelectNode, ProjectNode, DistinctNode, GroupNode, JoinNode, ThetaNode, ProductNode, UnionAllNode, UnionNode, StmtImage, TableNode, ViewNode, BackNode, FwdNode, LinkNode, DependsNode}, CatalogImage.{ViewImage, CatalogImage}}
use Rattle.smk_base.specs.declared.value.Kind.TheVariants as kinds
use Rattle.smk_base.specs.declared.book.tree.Extra.TheVariants as extras
use Rattle.smk_base.specs.declared.book.catalog.BackExtra.TheVariants as back_extras
use Rattle.smk_model.specs.{Expanded.violations_tree, Kinds.kind_of, Names.{Typed, ◌>>=◌, unless, in_turn, same_name, place_of, is_taken, names_of, column_kinds, column_named, same_sort}, TypedSteps.{TypedPlan, typed_group, selected_plan, projected, distinct, grouped_plan, joined_plan, theta_plan, product_plan, united_plan}}

-- a declared column, and the columns of a table
abbrev pub column_of : ColDecl → Column
column_of col = record { name = col.name; kind = col.kind }

abbrev pub columns_of : TableInfo → List Column
columns_of table = map column_of table.cols

abbrev pub no_table : TableInfo
no_table = record { name = []; file = []; cols = [] }

-- the table with this number
abbrev pub info_at : List TableInfo → ℕ → TableInfo
info_at tables t = slice_index_or tables t no_table

-- the number of the table that a word names: declared before, else UnknownTable at the word
abbrev pub table_by_word : List TableInfo → Word → Typed ℕ
table_by_word tables word = ok_or (place_of word.name (map (λ table. table.name) tables)) (UnknownTable word.at)

-- the number of the view that a word names: declared before, else UnknownView at the word
abbrev pub view_by_word : List ViewImage → Word → Typed ℕ
view_by_word views word = ok_or (place_of word.name (map (λ view. view.name) views)) (UnknownView word.at)

-- a plan over tables, and a step over a typed input; faults come in this order: the input, the second source, the lists, the step as a whole
abbrev mutual
  pub typed_plan : List TableInfo → TreeImage → Typed TypedPlan
  typed_plan tables (ScanNode word) = table_by_word tables word >>= λ t. Ok (record { plan = Leaf t; columns = columns_of (info_at tables t) })
  typed_plan tables (StepNode at input what) = typed_plan tables input >>= λ left. typed_step tables what at left

  pub typed_step : List TableInfo → StepImage → ℕ → TypedPlan → Typed TypedPlan
  typed_step tables (SelectNode pred) at left = selected_plan left pred
  typed_step tables (ProjectNode items) at left = projected left items
  typed_step tables (DistinctNode items) at left = distinct left items
  typed_step tables (GroupNode keys aggs) at left = grouped_plan at left keys aggs
  typed_step tables (JoinNode source pairs) at left = typed_plan tables source >>= λ right. joined_plan at pairs left right
  typed_step tables (ThetaNode source pred) at left = typed_plan tables source >>= λ right. theta_plan at pred left right
  typed_step tables (ProductNode source) at left = typed_plan tables source >>= λ right. product_plan at left right
  typed_step tables (UnionAllNode source) at left = typed_plan tables source >>= λ right. united_plan BagUnion at left right
  typed_step tables (UnionNode source) at left = typed_plan tables source >>= λ right. united_plan SetUnion at left right

-- the kind that a declaration gives its column
abbrev pub declared_kind : Bool → Kind
declared_kind true = kinds.Text
declared_kind false = kinds.Int 0

-- a declared column, unless its default has another kind
abbrev pub declared_column : Decl → Option Lit → Typed ColDecl
declared_column decl None = Ok (record { name = decl.name.name; kind = declared_kind decl.text; def = None })
declared_column decl (Some literal) =
    unless (not (same_sort (declared_kind decl.text) (kind_of literal.value))) (KindMismatch literal.at)
    (Ok (record { name = decl.name.name; kind = declared_kind decl.text; def = Some literal.value }))

-- one more declared column: its name is new in the declaration, and its default has its kind
abbrev pub decl_after : List ColDecl → Decl → Typed (List ColDecl)
decl_after cols decl =
    unless (list_any (λ col. same_name decl.name.name col.name) cols) (DuplicateName decl.name.at)
    (declared_column decl decl.def >>= λ col. Ok (cols ++ col ∷ []))

-- one more table: its name is new among tables, and its columns are well typed
abbrev pub table_after : CatalogImage → Word → List ℕ → List Decl → Typed CatalogImage
table_after catalog name file decls =
    unless (is_taken name.name (map (λ table. table.name) catalog.tables)) (DuplicateName name.at)
    (in_turn decl_after [] decls >>= λ cols. Ok (record catalog { tables = catalog.tables ++ record { name = name.name; file = file; cols = cols } ∷ [] }))

-- a view under a name
abbrev pub view_of : Word → TypedPlan → ViewImage
view_of name typed = record { name = name.name; plan = typed.plan; names = names_of typed.columns; kinds = column_kinds typed.columns }

-- one more view: its name is new among views, and its plan is well typed
abbrev pub view_after : CatalogImage → Word → TreeImage → Typed CatalogImage
view_after catalog name tree =
    unless (is_taken name.name (map (λ view. view.name) catalog.views)) (DuplicateName name.at)
    (typed_plan catalog.tables tree >>= λ typed. Ok (record catalog { views = catalog.views ++ view_of name typed ∷ [] }))

-- what a backward declaration asks for over the columns of its table: with `by` the column is known, with `group` the grouping is well typed
abbrev pub typed_extra : List Column → Extra → Typed BackExtra
typed_extra columns extras.Plain = Ok back_extras.Plain
typed_extra columns (extras.By word) = column_named columns word >>= λ found. Ok (back_extras.By found.0)
typed_extra columns (extras.Grouped at keys aggs) = do
  group ← typed_group columns at keys aggs
  Ok (back_extras.Grouped group.keys group.aggs (names_of group.columns) (column_kinds group.columns))

-- whether two backward declarations have the same form: plain, `by` the same column, or `group`
abbrev pub same_form : BackExtra → BackExtra → Bool
same_form back_extras.Plain back_extras.Plain = true
same_form (back_extras.By a) (back_extras.By b) = nat_eq a b
same_form (back_extras.Grouped a b c d) (back_extras.Grouped e f g h) = true
same_form _ _ = false

-- whether two backward declarations have the same view and table and the same form
abbrev pub same_back : Back → Back → Bool
same_back a b = nat_eq a.view b.view && nat_eq a.table b.table && same_form a.extra b.extra

-- one more backward declaration, unless an earlier one is the same
abbrev pub new_back : CatalogImage → ℕ → Back → Typed CatalogImage
new_back catalog at back =
    unless (list_any (same_back back) catalog.backs) (RepeatedDeclaration at)
    (Ok (record catalog { backs = catalog.backs ++ back ∷ [] }))

abbrev pub back_after : CatalogImage → ℕ → Word → Word → Extra → Typed CatalogImage
back_after catalog at view table extra = do
  v ← view_by_word catalog.views view
  t ← table_by_word catalog.tables table
  asked ← typed_extra (columns_of (info_at catalog.tables t)) extra
  new_back catalog at (record { view = v; table = t; extra = asked })

-- whether two forward declarations have the same table and view
abbrev pub same_fwd : Fwd → Fwd → Bool
same_fwd a b = nat_eq a.table b.table && nat_eq a.view b.view

-- one more forward declaration, unless an earlier one is the same
abbrev pub new_fwd : CatalogImage → ℕ → Fwd → Typed CatalogImage
new_fwd catalog at fwd =
    unless (list_any (same_fwd fwd) catalog.fwds) (RepeatedDeclaration at)
    (Ok (record catalog { fwds = catalog.fwds ++ fwd ∷ [] }))

abbrev pub fwd_after : CatalogImage → ℕ → Word → Word → Typed CatalogImage
fwd_after catalog at table view = do
  t ← table_by_word catalog.tables table
  v ← view_by_word catalog.views view
  new_fwd catalog at (record { table = t; view = v })

-- a view, a table and a linked view, as a link has them
pub record Link : Type 0 where
  pub view : ℕ
  pub table : ℕ
  pub to : ℕ

abbrev pub same_link : Link → Link → Bool
same_link a b = nat_eq a.view b.view && nat_eq a.table b.table && nat_eq a.to b.to

-- the links of a view on a table to each of these
abbrev pub linked_to : ℕ → ℕ → List ℕ → List Link
linked_to view table to = map (λ w. record { view = view; table = table; to = w }) to

-- each of the links that a book has
abbrev pub all_links : List LinkInfo → List Link
all_links links = flat_map (λ link. linked_to link.view link.table link.to) links

-- one more linked view: it is declared, it is not the first view, and neither this link nor an earlier one has it
abbrev pub to_after : CatalogImage → ℕ → ℕ → List ℕ → Word → Typed (List ℕ)
to_after catalog v t to word = do
  w ← view_by_word catalog.views word
  unless (nat_eq w v) (SelfLink word.at)
      (unless (list_any (same_link (record { view = v; table = t; to = w })) (all_links catalog.links ++ linked_to v t to)) (RepeatedDeclaration word.at)
      (Ok (to ++ w ∷ [])))

abbrev pub link_after : CatalogImage → Word → Word → List Word → Typed CatalogImage
link_after catalog view table words = do
  v ← view_by_word catalog.views view
  t ← table_by_word catalog.tables table
  to ← in_turn (to_after catalog v t) [] words
  Ok (record catalog { links = catalog.links ++ record { view = v; table = t; to = to } ∷ [] })

-- one more dependency: the view of its violations, and a plain backward declaration from it to the table
abbrev pub depends_after : CatalogImage → ℕ → Word → Word → List Word → Word → Typed CatalogImage
depends_after catalog at name table keys col = view_after catalog name (violations_tree at table keys col) >>= λ more. back_after more at name table extras.Plain

-- one more statement
abbrev pub stmt_after : CatalogImage → StmtImage → Typed CatalogImage
stmt_after catalog (TableNode name file decls) = table_after catalog name file decls
stmt_after catalog (ViewNode name tree) = view_after catalog name tree
stmt_after catalog (BackNode at view table extra) = back_after catalog at view table extra
stmt_after catalog (FwdNode at table view) = fwd_after catalog at table view
stmt_after catalog (LinkNode view table to) = link_after catalog view table to
stmt_after catalog (DependsNode at name table keys col) = depends_after catalog at name table keys col

-- the catalog of no statement
abbrev pub nothing_declared : CatalogImage
nothing_declared = record { tables = []; views = []; backs = []; fwds = []; links = [] }

-- the catalog of a book, or the first fault
abbrev pub types : List StmtImage → Typed CatalogImage
types book = in_turn stmt_after nothing_declared book
