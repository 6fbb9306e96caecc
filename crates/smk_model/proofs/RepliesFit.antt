-- A reply is one to its line: what its text looks up stands in the catalog.
use Rattle.std.specs.{Prelude.{Option, Some, None, option_map, ok_or, Result, Ok, Err, slice_index_or}, Option.option_or, List.{All, filter, list_any, flat_map}}
use Rattle.std.proofs.{Common.{◌≡◌, ◌<◌, ℕ, Bool, true, false, List, [], ◌∷◌, length, map, refl, sym, ◌∙◌, subst}, lemmas.List.length-map, lemmas.List.Elements.{All-filter, All-nil, All-head, All-tail, All-cons, All-append}, lemmas.List.Quantifiers.position-Some}
use Rattle.smk_base.specs.{CatalogImage.{CatalogImage, ViewImage, view_place, table_place}, declared.book.catalog.Back.Back, declared.book.catalog.BackExtra.BackExtra, declared.book.catalog.LinkInfo.LinkInfo, declared.book.catalog.TableInfo.TableInfo, declared.book.tree.Line.Line, declared.book.tree.Marks.Marks, declared.book.tree.Then.Then, declared.reply.Linked.Linked, declared.reply.Refusal.Refusal, declared.reply.Refusal.TheVariants.{UnknownView, UnknownTable, Undeclared, NoRow, NoSplit, ValueKind, NoGroup, NotLinked, ManyMarks}, declared.reply.Reply.Reply, declared.value.Kind.Kind}
use Rattle.smk_base.specs.declared.book.catalog.BackExtra.TheVariants as extras
use Rattle.smk_base.specs.declared.book.tree.Line.TheVariants as lines
use Rattle.smk_base.specs.declared.book.tree.Then.TheVariants as thens
use Rattle.smk_model.specs.{Lineage.row_at, Names.{◌>>=◌, same_name}, Catalogs.{IsCatalog, ExtraFits, table_kinds}, Tables.all_or_first, Typing.{column_of, columns_of, no_table, info_at}, Workload.{is_back, is_link, declares_back, declares_fwd}, Selection.first_full, ReplyTexts.{IsReplyTo, IsRefusalOf, IsRefusalOfChange, IsLinkedIn, AreRowsOf, AreGroupsOf, IsContent, view_named, table_named, names_of_table, grouping_named}, Session.{State, view_at, no_view, rows_of_table, linked, selected_for, leaves_now}, Replies.{Asked, Grouped, provided, unless_row, unless_outside, written, first_outside, known_view, known_pair, content_of, rows_at_rids, rids_of, split_column, column_place, is_split, is_of_column, with_value, cube, is_one, grouping_in, first_grouping, grouping_of, back_reply, named_back, fwd_reply, named_fwd, marks_fwd, linked_pair, brush_of, unless_full, linked_now, all_linked, brushed, cleared, named_view, or_refused, answer_to}, ReplyLaws.RepliesFit}
use Rattle.smk_model.proofs.Finds.{find_placed}

-- what is asked for is good, or the refusal is one that the line can have
abbrev pub Fares : {A : Type 0} → (Refusal → Type 0) → (A → Type 0) → Asked A → Type 0
Fares refusable good (Ok a) = good a
Fares refusable good (Err refusal) = refusable refusal

pub next_fares : {A B : Type 0} (refusable : Refusal → Type 0) (good : A → Type 0) (better : B → Type 0) (asked : Asked A) (next : A → Asked B)
    → Fares refusable good asked → ((a : A) → good a → Fares refusable better (next a)) → Fares refusable better (asked >>= next)
next_fares refusable good better (Ok a) next h k = k a h
next_fares refusable good better (Err refusal) next h k = h

pub provided_fares : {A : Type 0} (refusable : Refusal → Type 0) (good : A → Type 0) (holds : Bool) (refusal : Refusal) (asked : Asked A)
    → refusable refusal → Fares refusable good asked → Fares refusable good (provided holds refusal asked)
provided_fares refusable good true refusal asked h k = k
provided_fares refusable good false refusal asked h k = h

-- the places that names have
abbrev pub IsPair : CatalogImage → List ℕ → List ℕ → ℕ × ℕ → Type 0
IsPair catalog view table p = (view_place catalog view ≡ Some p.0) × (table_place catalog table ≡ Some p.1)

view_fares : (refusable : Refusal → Type 0) (catalog : CatalogImage) (view : List ℕ) → refusable UnknownView
    → Fares refusable (λ v. view_place catalog view ≡ Some v) (known_view catalog view)
view_fares refusable catalog view h = by (view_place catalog view) refl
  where
    by : (place : Option ℕ) → view_place catalog view ≡ place → Fares refusable (λ v. view_place catalog view ≡ Some v) (ok_or place UnknownView)
    by (Some v) e = e
    by None e = h

pub pair_fares : (refusable : Refusal → Type 0) (catalog : CatalogImage) (view table : List ℕ) → refusable UnknownView → refusable UnknownTable
    → Fares refusable (IsPair catalog view table) (known_pair catalog view table)
pair_fares refusable catalog view table h k = next_fares refusable (λ v. view_place catalog view ≡ Some v) (IsPair catalog view table) (known_view catalog view) _ (view_fares refusable catalog view h) (λ v e. by v e (table_place catalog table) refl)
  where
    by : (v : ℕ) → view_place catalog view ≡ Some v → (place : Option ℕ) → table_place catalog table ≡ place
        → Fares refusable (IsPair catalog view table) (ok_or (option_map (λ t. (v, t)) place) UnknownTable)
    by v e (Some t) f = (e, f)
    by v e None f = k

pub outside_fares : {A : Type 0} (refusable : Refusal → Type 0) (good : A → Type 0) (marks : Marks) (n : ℕ) (asked : Asked A)
    → ((row rows : ℕ) → refusable (NoRow row rows)) → Fares refusable good asked → Fares refusable good (unless_outside marks n asked)
outside_fares {A} refusable good marks n asked h k = by (first_outside (written marks) n)
  where
    by : (row : Option ℕ) → Fares refusable good (unless_row row n asked)
    by (Some row) = h row n
    by None = k

-- the view of a name, and the table, stand where they are placed
view_found : (catalog : CatalogImage) (name : List ℕ) (v : ℕ) → view_place catalog name ≡ Some v → view_named catalog name ≡ Some (view_at catalog v)
view_found catalog name v h = find_placed (λ view. same_name view.name name) catalog.views v no_view h

pub table_found : (catalog : CatalogImage) (name : List ℕ) (t : ℕ) → table_place catalog name ≡ Some t → table_named catalog name ≡ Some (info_at catalog.tables t)
table_found catalog name t h = find_placed (λ table. same_name table.name name) catalog.tables t no_table h

-- a table has a name for each kind
names_long : (table : TableInfo) → length (names_of_table (Some table)) ≡ length (table_kinds table)
names_long table = length-map table.cols (λ column. column.name) ∙ sym (length-map (columns_of table) (λ column. column.kind) ∙ length-map table.cols column_of)

content_fits : (catalog : CatalogImage) (state : State) (view : List ℕ) (v : ℕ) → IsCatalog catalog → view_place catalog view ≡ Some v → IsContent catalog view (content_of catalog state v)
content_fits catalog state view v checked h =
    let found = view_found catalog view v h in
    let low : v < length catalog.views = (position-Some (λ (image : ViewImage). same_name image.name view) catalog.views v no_view h).0 in
    record {
      known = rw found refl;
      named = rw found (checked.typed.views v no_view low).named;
    }

rows_fit : (catalog : CatalogImage) (state : State) (table : List ℕ) (t : ℕ) (rids : List ℕ) → table_place catalog table ≡ Some t → AreRowsOf catalog table rids (rows_at_rids catalog state t rids)
rows_fit catalog state table t rids h =
    let found = table_found catalog table t h in
    record {
      known = rw found refl;
      named = rw found (names_long (info_at catalog.tables t));
      placed = sym (length-map rids (row_at (rows_of_table state t)));
    }

-- a declared grouping has a name for each kind
abbrev IsNamed : Grouped → Type 0
IsNamed grouped = length grouped.names ≡ length grouped.kinds

extra_named : (kinds : List Kind) (extra : BackExtra) → ExtraFits kinds extra → (grouped : Grouped) → grouping_in extra ≡ Some grouped → IsNamed grouped
extra_named kinds extras.Plain fits grouped h = absurd (cc)
extra_named kinds (extras.By column) fits grouped h = absurd (cc)
extra_named kinds (extras.Grouped keys aggs names own) fits grouped h =
    let made : Grouped = record { keys = keys; aggs = aggs; names = names; kinds = own } in
    let same : made ≡ grouped = cc in
    subst IsNamed same fits.named

-- all declarations ask for what has a name for each kind
abbrev HasNames : Back → Type 0
HasNames back = (grouped : Grouped) → grouping_in back.extra ≡ Some grouped → IsNamed grouped

abbrev AreNamed : List Back → Type 0
AreNamed backs = All HasNames backs

first_named : (backs : List Back) → AreNamed backs → (grouped : Grouped) → first_grouping backs ≡ Some grouped → IsNamed grouped
first_named [] all grouped h = absurd (cc)
first_named (back ∷ backs) all grouped h = by (grouping_in back.extra) (All-head HasNames back backs all) (first_named backs (All-tail HasNames back backs all) grouped) h
  where
    by : (own : Option Grouped) → ((g : Grouped) → own ≡ Some g → IsNamed g) → (first_grouping backs ≡ Some grouped → IsNamed grouped) → option_or own (first_grouping backs) ≡ Some grouped → IsNamed grouped
    by (Some own) mine later e = mine grouped e
    by None mine later e = later e

back_named : (catalog : CatalogImage) → IsCatalog catalog → AreNamed catalog.backs
back_named catalog checked k d low grouped h =
    let fits = checked.typed.backs k d low in extra_named _ (slice_index_or catalog.backs k d).extra fits.extra grouped h

grouping_named_fits : (catalog : CatalogImage) (v t : ℕ) (grouped : Grouped) → IsCatalog catalog → grouping_of catalog v t ≡ Some grouped → IsNamed grouped
grouping_named_fits catalog v t grouped checked h = first_named (filter (is_back v t) catalog.backs) (All-filter (is_back v t) HasNames catalog.backs (back_named catalog checked)) grouped h

groups_fit : (catalog : CatalogImage) (state : State) (view table : List ℕ) (p : ℕ × ℕ) (grouped : Grouped) (rids : List ℕ) → IsCatalog catalog → IsPair catalog view table p
    → grouping_of catalog p.0 p.1 ≡ Some grouped → AreGroupsOf catalog view table (cube state p.1 grouped rids)
groups_fit catalog state view table p grouped rids checked placed h =
    let named : grouping_named catalog view table ≡ Some grouped = rw placed.0 (rw placed.1 h) in
    record {
      known = rw named refl;
      named = rw named (grouping_named_fits catalog p.0 p.1 grouped checked h);
    }

or_fares : {A : Type 0} (refusable : Refusal → Type 0) (a : Option A) (refusal : Refusal) → refusable refusal → Fares refusable (λ a. Unit {0}) (ok_or a refusal)
or_fares refusable (Some a) refusal h = tt
or_fares refusable None refusal h = h

grouping_fares : (refusable : Refusal → Type 0) (found : Option Grouped) → refusable NoGroup → Fares refusable (λ grouped. found ≡ Some grouped) (ok_or found NoGroup)
grouping_fares refusable (Some grouped) h = refl
grouping_fares refusable None h = h

back_fares : (catalog : CatalogImage) (state : State) (view : List ℕ) (marks : Marks) (table : List ℕ) (then : Then) (p : ℕ × ℕ) → IsCatalog catalog → IsPair catalog view table p
    → Fares (IsRefusalOf catalog (lines.Back view marks table then)) (IsReplyTo catalog (lines.Back view marks table then)) (back_reply catalog state p.0 p.1 marks then)
back_fares catalog state view marks table thens.Plain p checked placed =
    let line = lines.Back view marks table thens.Plain in
    next_fares (IsRefusalOf catalog line) (λ rids. Unit {0}) (IsReplyTo catalog line) (rids_of catalog state p.0 p.1 marks) _
    (outside_fares (IsRefusalOf catalog line) (λ rids. Unit {0}) marks _ _ (λ row rows. tt) tt)
    (λ rids h. (tt, rows_fit catalog state table p.1 rids placed.1))
back_fares catalog state view marks table (thens.Matching column value) p checked placed =
    let line = lines.Back view marks table (thens.Matching column value) in
    next_fares (IsRefusalOf catalog line) (λ c. Unit {0}) (IsReplyTo catalog line) (split_column catalog p.0 p.1 column) _
    (next_fares (IsRefusalOf catalog line) (λ c. Unit {0}) (λ c. Unit {0}) (ok_or (column_place catalog p.1 column) NoSplit) _
    (or_fares (IsRefusalOf catalog line) (column_place catalog p.1 column) NoSplit tt)
    (λ c h. provided_fares (IsRefusalOf catalog line) (λ d. Unit {0}) (list_any (is_split p.0 p.1 c) catalog.backs) NoSplit (Ok c) tt tt))
    (λ c h. provided_fares (IsRefusalOf catalog line) (IsReplyTo catalog line) (is_of_column catalog p.1 c value) ValueKind _ tt
    (next_fares (IsRefusalOf catalog line) (λ rids. Unit {0}) (IsReplyTo catalog line) (rids_of catalog state p.0 p.1 marks) _
    (outside_fares (IsRefusalOf catalog line) (λ rids. Unit {0}) marks _ _ (λ row rows. tt) tt)
    (λ rids k. (tt, rows_fit catalog state table p.1 (with_value (rows_of_table state p.1) c value rids) placed.1))))
back_fares catalog state view marks table thens.Grouped p checked placed =
    let line = lines.Back view marks table thens.Grouped in
    next_fares (IsRefusalOf catalog line) (λ grouped. grouping_of catalog p.0 p.1 ≡ Some grouped) (IsReplyTo catalog line) (ok_or (grouping_of catalog p.0 p.1) NoGroup) _
    (grouping_fares (IsRefusalOf catalog line) (grouping_of catalog p.0 p.1) tt)
    (λ grouped h. provided_fares (IsRefusalOf catalog line) (IsReplyTo catalog line) (is_one marks) ManyMarks _ tt
    (next_fares (IsRefusalOf catalog line) (λ rids. Unit {0}) (IsReplyTo catalog line) (rids_of catalog state p.0 p.1 marks) _
    (outside_fares (IsRefusalOf catalog line) (λ rids. Unit {0}) marks _ _ (λ row rows. tt) tt)
    (λ rids k. (tt, groups_fit catalog state view table p grouped rids checked placed h))))

-- the views of links are there
abbrev IsLow : CatalogImage → ℕ → Type 0
IsLow catalog w = w < length catalog.views

abbrev LinksLow : CatalogImage → LinkInfo → Type 0
LinksLow catalog link = All (IsLow catalog) link.to

views_low : (catalog : CatalogImage) (links : List LinkInfo) → All (LinksLow catalog) links → All (IsLow catalog) (flat_map (λ (link : LinkInfo). link.to) links)
views_low catalog [] all = All-nil (IsLow catalog)
views_low catalog (link ∷ links) all =
    All-append (IsLow catalog) link.to (flat_map (λ (l : LinkInfo). l.to) links) (All-head (LinksLow catalog) link links all) (views_low catalog links (All-tail (LinksLow catalog) link links all))

linked_low : (catalog : CatalogImage) (v t : ℕ) → IsCatalog catalog → All (IsLow catalog) (linked catalog v t)
linked_low catalog v t checked =
    views_low catalog (filter (is_link v t) catalog.links) (All-filter (is_link v t) (LinksLow catalog) catalog.links (λ k d low. (checked.typed.links k d low).to))

-- a value and a list of values, or the first fault
abbrev both_or_first : {A E : Type 0} → Result A E → Result (List A) E → Result (List A) E
both_or_first first rest = do
  x ← first
  xs ← rest
  Ok (x ∷ xs)

linked_fares : (catalog : CatalogImage) (state : State) (t w : ℕ) → IsCatalog catalog → w < length catalog.views → Fares (IsRefusalOfChange catalog) (IsLinkedIn catalog) (linked_now catalog state t w)
linked_fares catalog state t w checked low = by (first_full (view_at catalog w).plan (leaves_now catalog state w))
  where
    by : (node : Option ℕ) → Fares (IsRefusalOfChange catalog) (IsLinkedIn catalog)
        (unless_full node (record { view = w; marks = marks_fwd catalog state w t (selected_for catalog state w t); rel = content_of catalog state w }))
    by (Some node) = low
    by None = record { known = low; named = (checked.typed.views w no_view low).named }

all_fare : (catalog : CatalogImage) (state : State) (t : ℕ) (ws : List ℕ) → IsCatalog catalog → All (IsLow catalog) ws
    → Fares (IsRefusalOfChange catalog) (All (IsLinkedIn catalog)) (all_or_first (map (linked_now catalog state t) ws))
all_fare catalog state t [] checked low = All-nil (IsLinkedIn catalog)
all_fare catalog state t (w ∷ ws) checked low = by (linked_now catalog state t w) (linked_fares catalog state t w checked (All-head (IsLow catalog) w ws low)) (all_or_first (map (linked_now catalog state t) ws)) (all_fare catalog state t ws checked (All-tail (IsLow catalog) w ws low))
  where
    by : (first : Asked Linked) → Fares (IsRefusalOfChange catalog) (IsLinkedIn catalog) first → (rest : Asked (List Linked)) → Fares (IsRefusalOfChange catalog) (All (IsLinkedIn catalog)) rest
        → Fares (IsRefusalOfChange catalog) (All (IsLinkedIn catalog)) (both_or_first first rest)
    by (Err refusal) h rest k = h
    by (Ok view) h (Err refusal) k = k
    by (Ok view) h (Ok more) k = All-cons (IsLinkedIn catalog) view more h k

-- a line that changes brushes
abbrev Turns : CatalogImage → Line → Reply × State → Type 0
Turns catalog asked turn = IsReplyTo catalog asked turn.0

linked_pair_fares : (catalog : CatalogImage) (view table : List ℕ) → Fares (IsRefusalOfChange catalog) (λ p. Unit {0}) (linked_pair catalog view table)
linked_pair_fares catalog view table =
    next_fares (IsRefusalOfChange catalog) (IsPair catalog view table) (λ p. Unit {0}) (known_pair catalog view table) _
    (pair_fares (IsRefusalOfChange catalog) catalog view table tt tt)
    (λ p h. provided_fares (IsRefusalOfChange catalog) (λ q. Unit {0}) (list_any (is_link p.0 p.1) catalog.links) NotLinked (Ok p) tt tt)

brush_of_fares : (catalog : CatalogImage) (state : State) (view : List ℕ) (marks : Marks) (table : List ℕ) → Fares (IsRefusalOfChange catalog) (λ brush. Unit {0}) (brush_of catalog state view marks table)
brush_of_fares catalog state view marks table =
    next_fares (IsRefusalOfChange catalog) (λ p. Unit {0}) (λ brush. Unit {0}) (linked_pair catalog view table) _ (linked_pair_fares catalog view table)
    (λ p h. next_fares (IsRefusalOfChange catalog) (λ rids. Unit {0}) (λ brush. Unit {0}) (rids_of catalog state p.0 p.1 marks) _
    (outside_fares (IsRefusalOfChange catalog) (λ rids. Unit {0}) marks _ _ (λ row rows. tt) tt) (λ rids k. tt))

-- what is asked for by a line is a reply to it, or a refusal that it can have
answer_fares : (catalog : CatalogImage) (state : State) (asked : Line) → IsCatalog catalog → Fares (IsRefusalOf catalog asked) (Turns catalog asked) (answer_to catalog state asked)
answer_fares catalog state (lines.Show view) checked =
    let line = lines.Show view in
    next_fares (IsRefusalOf catalog line) (IsReplyTo catalog line) (Turns catalog line) (named_view catalog state view) _
    (next_fares (IsRefusalOf catalog line) (λ v. view_place catalog view ≡ Some v) (IsReplyTo catalog line) (known_view catalog view) _
    (view_fares (IsRefusalOf catalog line) catalog view tt) (λ v h. content_fits catalog state view v checked h))
    (λ told h. h)
answer_fares catalog state (lines.Back view marks table then) checked =
    let line = lines.Back view marks table then in
    next_fares (IsRefusalOf catalog line) (IsReplyTo catalog line) (Turns catalog line) (named_back catalog state view marks table then) _
    (next_fares (IsRefusalOf catalog line) (IsPair catalog view table) (IsReplyTo catalog line) (known_pair catalog view table) _
    (pair_fares (IsRefusalOf catalog line) catalog view table tt tt)
    (λ p h. provided_fares (IsRefusalOf catalog line) (IsReplyTo catalog line) (declares_back catalog p.0 p.1) Undeclared _ tt (back_fares catalog state view marks table then p checked h)))
    (λ told h. h)
answer_fares catalog state (lines.Fwd table rows view) checked =
    let line = lines.Fwd table rows view in
    next_fares (IsRefusalOf catalog line) (IsReplyTo catalog line) (Turns catalog line) (named_fwd catalog state table rows view) _
    (next_fares (IsRefusalOf catalog line) (IsPair catalog view table) (IsReplyTo catalog line) (known_pair catalog view table) _
    (pair_fares (IsRefusalOf catalog line) catalog view table tt tt)
    (λ p h. provided_fares (IsRefusalOf catalog line) (IsReplyTo catalog line) (declares_fwd catalog p.0 p.1) Undeclared (fwd_reply catalog state p.0 p.1 rows) tt
    (outside_fares (IsRefusalOf catalog line) (IsReplyTo catalog line) rows _ _ (λ row count. tt) tt)))
    (λ told h. h)
answer_fares catalog state (lines.Brush view marks table) checked =
    next_fares (IsRefusalOfChange catalog) (λ brush. Unit {0}) (Turns catalog (lines.Brush view marks table)) (brush_of catalog state view marks table) _ (brush_of_fares catalog state view marks table)
    (λ brush h. next_fares (IsRefusalOfChange catalog) (All (IsLinkedIn catalog)) (Turns catalog (lines.Brush view marks table)) (all_linked catalog (brushed state brush) brush.view brush.table) _
    (all_fare catalog (brushed state brush) brush.table (linked catalog brush.view brush.table) checked (linked_low catalog brush.view brush.table checked)) (λ views k. k))
answer_fares catalog state lines.Clear checked = tt
answer_fares catalog state (lines.ClearOne view table) checked =
    next_fares (IsRefusalOfChange catalog) (λ p. Unit {0}) (Turns catalog (lines.ClearOne view table)) (linked_pair catalog view table) _ (linked_pair_fares catalog view table)
    (λ p h. next_fares (IsRefusalOfChange catalog) (All (IsLinkedIn catalog)) (Turns catalog (lines.ClearOne view table)) (all_linked catalog (cleared state p.0 p.1) p.0 p.1) _
    (all_fare catalog (cleared state p.0 p.1) p.1 (linked catalog p.0 p.1) checked (linked_low catalog p.0 p.1 checked)) (λ views k. k))

pub replies_fit : RepliesFit
replies_fit catalog state asked checked = by asked (answer_to catalog state asked) (answer_fares catalog state asked checked)
  where
    by : (line : Line) (turn : Asked (Reply × State)) → Fares (IsRefusalOf catalog line) (Turns catalog line) turn → IsReplyTo catalog line (or_refused state turn).0
    by line (Ok turn) h = h
    by (lines.Show view) (Err refusal) h = h
    by (lines.Back view marks table then) (Err refusal) h = h
    by (lines.Fwd table rows view) (Err refusal) h = h
    by (lines.Brush view marks table) (Err refusal) h = h
    by lines.Clear (Err refusal) h = h
    by (lines.ClearOne view table) (Err refusal) h = h
