-- The parts of a backward answer, by what is kept of a view and a table.
use Rattle.std.proofs.{Common.{◌≡◌, ℕ, ◌<◌, Bool, true, false, ◌&&◌, ◌||◌, cond, List, [], ◌∷◌, length, refl, ap, sym, ◌∙◌, subst, nat_eq, Ok, Err, Option, Some, None, option_map, ok_or, slice_get, All, inl, inr}, lemmas.Bool.{cases_Bool, eqb-true, false≢true}, lemmas.List.{get_or-map, length-map}, lemmas.List.Elements.All-head}
use Rattle.std.specs.List.{list_all, list_any}
use Rattle.smk_base.specs.{CatalogImage.{CatalogImage, catalog_image}, Places.{IsPlaces, Lists, has, list_at, members_at}, Plans.Grouping, Rels.Relation, declared.brush.BrushOn.BrushOn, declared.book.catalog.Catalog.Catalog, declared.reply.Refusal.TheVariants.{ManyMarks, NoGroup, NoSplit, Undeclared, ValueKind}, declared.reply.Reply.Reply, declared.book.tree.Marks.Marks, declared.book.tree.Then.Then, declared.value.Kind.Kind, declared.value.Value.Value}
use Rattle.smk_base.specs.declared.reply.Reply.TheVariants as replies
use Rattle.smk_base.specs.declared.book.tree.Marks.TheVariants as markings
use Rattle.smk_base.specs.declared.book.tree.Then.TheVariants as thens
use Rattle.smk_base.specs.declared.book.tree.Line.TheVariants as lines
use Rattle.smk_model.specs.{Catalogs.table_kinds, Composed.backs, Kinds.kinds1, Lineage.sub, Names.◌>>=◌, Plain.step1, Replies.{Asked, Grouped, back_reply, column_place, cube, first_outside, grouping_of, is_of_column, is_one, is_split, known_pair, marked, named_back, or_refused, provided, reply, rids_of, rows_reply, staying, unless_row, with_value, written}, ReplyTexts.AsksRows, Session.{State, Workbook, rows_of_table, view_at}, Typing.info_at, Values.Row, Workload.declares_back}
use Rattle.smk_model.proofs.{Anys.or_false, Composed.lists_stand}
use Rattle.smk_base.proofs.Places.{same_below}
use Rattle.smk_compose.specs.declared.kept_maps.Run.{Run}
use Rattle.smk_push.specs.Cubes.{cube_at, cube_of}
use Rattle.smk_skip.specs.Splits.{SplitImage}
use Rattle.smk_session.specs.{Kept.kept_back, Answers.{BacksFit, Turns, members_asked, rows_told, state_lent, within_asked}, Extras.{backs_of, cubes_place, split_on, split_place, table_of}, BackAnswers.{CubesFit, IsPairNamed, IsPairOf, SplitsFit, cubes_asked, grouped_by, one_asked, rids_by, rows_by, sort_asked, split_asked, split_kept, with_value_asked}, Behind.{BehindFits, IsBehind, IsRefusedAs}, Opened.{state_over, workbook_image}, declared.lent.Lent.Lent, declared.answer.backward.Pair.Pair, declared.answer.no_answer.Turned.Turned}
use Rattle.smk_session.proofs.{Declared.{cubes_found, cubes_of_grouped, grouping_fits, split_found}, KeptOf.kept_back_is, Rids.{rids_ascend, rids_low}, Marked.{backs_asked, none_outside, passed, same_row}, OpenedViews.{run_is, table_is}, Opened.{ok_is, provided_then, then_row}}

abbrev book_of : List Relation → Pair → Workbook
book_of tables pair = workbook_image pair.catalog.now tables

abbrev lists_of : List Relation → Pair → Lists
lists_of tables pair = backs_of (book_of tables pair) pair.view pair.table

-- the lists that are kept

kept_is : (tables : List Relation) (views : List Run) (pair : Pair) → IsPairOf tables views pair
    → kept_back pair.run.now.kept pair.table ≡ cond (declares_back (catalog_image pair.catalog.now) pair.view pair.table) (Ok (lists_of tables pair)) (Err Undeclared)
kept_is tables views pair p =
    let book : Workbook = book_of tables pair in
    ap (λ (r : Run). kept_back r.kept pair.table) (run_is pair.catalog.now tables views pair.view pair.run.now p.opened p.view p.run_is)
    ∙ kept_back_is book.catalog (view_at book.catalog pair.view).plan book.tables pair.view pair.table p.table

map_is : (tables : List Relation) (views : List Run) (pair : Pair) (m : Lists) → IsPairOf tables views pair → kept_back pair.run.now.kept pair.table ≡ Ok m → m ≡ lists_of tables pair
map_is tables views pair m p kept = ok_is (declares_back (catalog_image pair.catalog.now) pair.view pair.table) (lists_of tables pair) m (sym (kept_is tables views pair p) ∙ kept)

rows_are : (tables : List Relation) (views : List Run) (pair : Pair) → IsPairOf tables views pair → pair.rows.now ≡ table_of (book_of tables pair) pair.table
rows_are tables views pair p = table_is pair.catalog.now tables [] pair.table pair.rows.now p.opened.kinds p.table p.rows_are

pub backs_fit : (tables : List Relation) (views : List Run) (pair : Pair) → IsPairOf tables views pair → BacksFit pair.run.now.kept pair.table (length pair.rows.now.rows)
backs_fit tables views pair p m kept = ap (λ (l : Lists). l.bound) (map_is tables views pair m p kept) ∙ ap (λ (r : Relation). length r.rows) (sym (rows_are tables views pair p))

-- the rows with a value

abbrev by_column : Workbook → ℕ → ℕ → ℕ → ℕ × SplitImage
by_column book v t c = (c, split_on book v t c)

where_some : {A B : Type 0} (f : A → B) (b : Bool) (x : A) → option_map f (cond b (Some x) None) ≡ cond b (Some (f x)) None
where_some f true x = refl
where_some f false x = refl

split_is : (tables : List Relation) (views : List Run) (pair : Pair) (c : ℕ) → IsPairOf tables views pair
    → split_kept pair c ≡ cond (list_any (is_split pair.view pair.table c) pair.catalog.now.backs) (Some (by_column (book_of tables pair) pair.view pair.table c)) None
split_is tables views pair c p =
    let named : SplitImage → ℕ × SplitImage = λ split. (c, split) in
    ap (λ (l : List SplitImage). option_map named (slice_get l (split_place pair.view pair.table c pair.catalog.now.backs))) p.extras.splits_are
    ∙ ap (option_map named) (split_found (book_of tables pair) pair.view pair.table c pair.catalog.now.backs)
    ∙ where_some named (list_any (is_split pair.view pair.table c) pair.catalog.now.backs) (split_on (book_of tables pair) pair.view pair.table c)

split_map : (place : Option ℕ) (split_at : ℕ → Option (ℕ × SplitImage)) (declared : ℕ → Bool) (kept : ℕ → ℕ × SplitImage) (split : ℕ × SplitImage) (m : Lists) → ((c : ℕ) → split_at c ≡ cond (declared c) (Some (kept c)) None) → ((c : ℕ) → (kept c).1.map ≡ m)
    → ◌>>=◌ (ok_or place NoSplit) (λ c. ok_or (split_at c) NoSplit) ≡ Ok split → split.1.map ≡ m
split_map None split_at declared kept split m found maps h = absurd (cc)
split_map (Some c) split_at declared kept split m found maps h = by (declared c) (ap (λ o. ok_or o NoSplit) (sym (found c)) ∙ h)
  where
    by : (b : Bool) → ok_or (cond b (Some (kept c)) None) NoSplit ≡ Ok split → split.1.map ≡ m
    by true is = (let same : kept c ≡ split = cc in ap (λ (s : ℕ × SplitImage). s.1.map) (sym same) ∙ maps c)
    by false is = absurd (cc)

pub splits_fit : (tables : List Relation) (views : List Run) (pair : Pair) → IsPairOf tables views pair → SplitsFit pair
splits_fit tables views pair p m name split kept asked =
    split_map (column_place (catalog_image pair.catalog.now) pair.table name) (split_kept pair) (λ c. list_any (is_split pair.view pair.table c) pair.catalog.now.backs)
    (by_column (book_of tables pair) pair.view pair.table) split (lists_of tables pair) (λ c. split_is tables views pair c p) (λ c. refl) asked
    ∙ sym (map_is tables views pair m p kept)

-- the members with a value are the part of the rids
part_is : (tables : List Relation) (brushes : List BrushOn) (views : List Run) (pair : Pair) (c : ℕ) (marks : Marks) (value : Value) → IsPairOf tables views pair
    → ◌>>=◌ (with_value_asked (split_on (book_of tables pair) pair.view pair.table c) marks value) (λ rids. Ok (rows_told pair.rows.now rids))
    ≡ ◌>>=◌ (rids_of (catalog_image pair.catalog.now) (state_over tables brushes) pair.view pair.table marks) (λ rids. Ok (rows_reply (catalog_image pair.catalog.now) (state_over tables brushes) pair.table (with_value (rows_of_table (state_over tables brushes) pair.table) c value rids)))
part_is tables brushes views pair c marks value p =
    let image : CatalogImage = catalog_image pair.catalog.now in
    let state : State = state_over tables brushes in
    let m : Lists = lists_of tables pair in
    let n : ℕ = length m.lists in
    let members : List ℕ = members_at m (marked marks n) in
    let kept : List ℕ = with_value (rows_of_table state pair.table) c value members in
    then_row (first_outside (written marks) n) n kept (rows_told pair.rows.now)
    ∙ ap (λ (r : Relation). unless_row (first_outside (written marks) n) n (Ok (rows_told r kept))) (rows_are tables views pair p)
    ∙ sym (then_row (first_outside (written marks) n) n members (λ rids. rows_reply image state pair.table (with_value (rows_of_table state pair.table) c value rids)))
    ∙ ap (λ (a : Asked (List ℕ)). ◌>>=◌ a (λ rids. Ok (rows_reply image state pair.table (with_value (rows_of_table state pair.table) c value rids)))) (backs_asked (view_at image pair.view).plan state.tables pair.table marks)

sort_then : {B : Type 0} (b : Bool) (next : Asked B) → ◌>>=◌ (provided b ValueKind passed) (λ same. next) ≡ provided b ValueKind next
sort_then true next = refl
sort_then false next = refl

abbrev split_rows : Pair → Marks → Value → ℕ × SplitImage → Asked Reply
split_rows pair marks value split =
    ◌>>=◌ (sort_asked (catalog_image pair.catalog.now) pair.table split.0 value) (λ same.
    ◌>>=◌ (with_value_asked split.1 marks value) (λ rids. Ok (rows_told pair.rows.now rids)))

split_then : {B : Type 0} (place : Option ℕ) (split_at : ℕ → Option (ℕ × SplitImage)) (declared : ℕ → Bool) (kept : ℕ → ℕ × SplitImage) (next : ℕ × SplitImage → Asked B) (told : ℕ → Asked B) → ((c : ℕ) → split_at c ≡ cond (declared c) (Some (kept c)) None) → ((c : ℕ) → next (kept c) ≡ told c)
    → ◌>>=◌ (◌>>=◌ (ok_or place NoSplit) (λ c. ok_or (split_at c) NoSplit)) next ≡ ◌>>=◌ (◌>>=◌ (ok_or place NoSplit) (λ c. provided (declared c) NoSplit (Ok c))) told
split_then None split_at declared kept next told found same = refl
split_then {B} (Some c) split_at declared kept next told found same = ap (λ o. ◌>>=◌ (ok_or o NoSplit) next) (found c) ∙ by (declared c)
  where
    by : (b : Bool) → ◌>>=◌ (ok_or (cond b (Some (kept c)) None) NoSplit) next ≡ ◌>>=◌ (provided b NoSplit (Ok c)) told
    by true = same c
    by false = refl

matching_told : (tables : List Relation) (brushes : List BrushOn) (views : List Run) (pair : Pair) (marks : Marks) (name : List ℕ) (value : Value) → IsPairOf tables views pair
    → ◌>>=◌ (split_asked pair name) (split_rows pair marks value) ≡ back_reply (catalog_image pair.catalog.now) (state_over tables brushes) pair.view pair.table marks (thens.Matching name value)
matching_told tables brushes views pair marks name value p =
    let image : CatalogImage = catalog_image pair.catalog.now in
    let state : State = state_over tables brushes in
    split_then (column_place image pair.table name) (split_kept pair) (λ c. list_any (is_split pair.view pair.table c) pair.catalog.now.backs)
    (by_column (book_of tables pair) pair.view pair.table) (split_rows pair marks value)
    (λ c. provided (is_of_column image pair.table c value) ValueKind (◌>>=◌ (rids_of image state pair.view pair.table marks) (λ rids. Ok (rows_reply image state pair.table (with_value (rows_of_table state pair.table) c value rids)))))
    (λ c. split_is tables views pair c p)
    (λ c.
    sort_then (is_of_column image pair.table c value) (◌>>=◌ (with_value_asked (split_on (book_of tables pair) pair.view pair.table c) marks value) (λ rids. Ok (rows_told pair.rows.now rids)))
    ∙ ap (provided (is_of_column image pair.table c value) ValueKind) (part_is tables brushes views pair c marks value p))

-- an answer, where the backward query of a view to a table is declared
abbrev pub asked_of : Pair → State → Marks → Then → Asked Reply
asked_of pair state marks then = provided (declares_back (catalog_image pair.catalog.now) pair.view pair.table) Undeclared (back_reply (catalog_image pair.catalog.now) state pair.view pair.table marks then)

declared_then : {B : Type 0} (tables : List Relation) (views : List Run) (pair : Pair) (next : Lists → Asked B) (told : Asked B) → IsPairOf tables views pair → next (lists_of tables pair) ≡ told
    → ◌>>=◌ (kept_back pair.run.now.kept pair.table) next ≡ provided (declares_back (catalog_image pair.catalog.now) pair.view pair.table) Undeclared told
declared_then tables views pair next told p is =
    ap (λ (a : Asked Lists). ◌>>=◌ a next) (kept_is tables views pair p)
    ∙ provided_then (declares_back (catalog_image pair.catalog.now) pair.view pair.table) (lists_of tables pair) next
    ∙ ap (provided (declares_back (catalog_image pair.catalog.now) pair.view pair.table) Undeclared) is

-- the rows, by their rids
assoc : {A B C : Type 0} (asked : Asked A) (next : A → Asked B) (more : B → Asked C) → ◌>>=◌ (◌>>=◌ asked next) more ≡ ◌>>=◌ asked (λ a. ◌>>=◌ (next a) more)
assoc (Ok a) next more = refl
assoc (Err refusal) next more = refl

pub rows_are_asked : (tables : List Relation) (brushes : List BrushOn) (views : List Run) (pair : Pair) (marks : Marks) (then : Then) → AsksRows then → IsPairOf tables views pair → rows_by pair marks then ≡ asked_of pair (state_over tables brushes) marks then
rows_are_asked tables brushes views pair marks thens.Plain asks p =
    let image : CatalogImage = catalog_image pair.catalog.now in
    let state : State = state_over tables brushes in
    assoc (kept_back pair.run.now.kept pair.table) (λ map. members_asked map marks) (λ rids. Ok (rows_told pair.rows.now rids))
    ∙ declared_then tables views pair (λ map. ◌>>=◌ (members_asked map marks) (λ rids. Ok (rows_told pair.rows.now rids))) (back_reply image state pair.view pair.table marks thens.Plain) p
    (ap (λ (a : Asked (List ℕ)). ◌>>=◌ a (λ rids. Ok (rows_told pair.rows.now rids))) (backs_asked (view_at image pair.view).plan state.tables pair.table marks)
    ∙ ap (λ (r : Relation). ◌>>=◌ (rids_of image state pair.view pair.table marks) (λ rids. Ok (rows_told r rids))) (rows_are tables views pair p))
rows_are_asked tables brushes views pair marks (thens.Matching name value) asks p =
    by (kept_back pair.run.now.kept pair.table) (split_asked pair name)
    ∙ declared_then tables views pair (λ m. ◌>>=◌ (split_asked pair name) (split_rows pair marks value)) (back_reply (catalog_image pair.catalog.now) (state_over tables brushes) pair.view pair.table marks (thens.Matching name value)) p
    (matching_told tables brushes views pair marks name value p)
  where
    sort : ℕ × SplitImage → Asked (Unit {0})
    sort split = sort_asked (catalog_image pair.catalog.now) pair.table split.0 value

    by : (kept : Asked Lists) (split : Asked (ℕ × SplitImage)) → ◌>>=◌ (◌>>=◌ kept (λ map. ◌>>=◌ split (λ found. ◌>>=◌ (sort found) (λ same. with_value_asked found.1 marks value)))) (λ rids. Ok (rows_told pair.rows.now rids)) ≡ ◌>>=◌ kept (λ map. ◌>>=◌ split (split_rows pair marks value))
    by (Ok map) (Ok found) = assoc (sort found) (λ same. with_value_asked found.1 marks value) (λ rids. Ok (rows_told pair.rows.now rids))
    by (Ok map) (Err refusal) = refl
    by (Err refusal) split = refl
rows_are_asked tables brushes views pair marks thens.Grouped asks p = absurd asks

-- the groups of a mark

cubes_are : (tables : List Relation) (views : List Run) (pair : Pair) → IsPairOf tables views pair
    → slice_get pair.cubes.now (cubes_place pair.view pair.table pair.catalog.now.backs) ≡ option_map (cubes_of_grouped (book_of tables pair) pair.view pair.table) (grouping_of (catalog_image pair.catalog.now) pair.view pair.table)
cubes_are tables views pair p = ap (λ (l : List (List Relation)). slice_get l (cubes_place pair.view pair.table pair.catalog.now.backs)) p.extras.cubes_are ∙ cubes_found (book_of tables pair) pair.view pair.table pair.catalog.now.backs

cubes_map : (book : Workbook) (v t : ℕ) (declared : Option Grouped) (kept : List Relation) → ok_or (option_map (cubes_of_grouped book v t) declared) NoGroup ≡ Ok kept → length kept ≡ length (backs_of book v t).lists
cubes_map book v t None kept h = absurd (cc)
cubes_map book v t (Some grouped) kept h =
    let same : cubes_of_grouped book v t grouped ≡ kept = cc in
    ap (λ (k : List Relation). length k) (sym same) ∙ length-map (backs_of book v t).lists (cube_of (table_of book t) grouped.keys grouped.aggs)

pub cubes_fit : (tables : List Relation) (views : List Run) (pair : Pair) → IsPairOf tables views pair → CubesFit pair
cubes_fit tables views pair p m kept backs asked =
    cubes_map (book_of tables pair) pair.view pair.table (grouping_of (catalog_image pair.catalog.now) pair.view pair.table) kept (ap (λ o. ok_or o NoGroup) (sym (cubes_are tables views pair p)) ∙ asked)
    ∙ ap (λ (l : Lists). length l.lists) (sym (map_is tables views pair m p backs))

-- the members of one list, however often it is marked

both : (a b : Bool) → (a && b) ≡ true → (a ≡ true) × (b ≡ true)
both true true h = (refl, refl)
both _ _ h = absurd (false≢true h)

twice : (a b : Bool) → (a || b) ≡ a → (a || (a || b)) ≡ a
twice true b h = refl
twice false b h = h

any_one : (p : ℕ → Bool) (mark : ℕ) (more : List ℕ) → list_all (nat_eq mark) more ≡ true → (p mark || list_any p more) ≡ p mark
any_one p mark [] h = or_false (p mark)
any_one p mark (other ∷ more) h =
    let pair = both (nat_eq mark other) (list_all (nat_eq mark) more) h in
    let same : other ≡ mark = sym (eqb-true mark other pair.0) in
    ap (λ i. p mark || (p i || list_any p more)) same ∙ twice (p mark) (list_any p more) (any_one p mark more pair.1)

members_one : (m : Lists) (mark : ℕ) (more : List ℕ) → All (IsPlaces m.bound) m.lists → list_all (nat_eq mark) more ≡ true → mark < length m.lists → members_at m (mark ∷ more) ≡ list_at m mark
members_one m mark more sets one low =
    same_below (λ r. list_any (λ i. has (list_at m i) r) (mark ∷ more)) (has (list_at m mark)) m.bound (λ r l. any_one (λ i. has (list_at m i) r) mark more one)
    ∙ sets mark [] low

abbrev rel_of : List Kind → List Row → Relation
rel_of kinds rows = record { kinds = kinds; rows = rows }

-- the groups of a mark are the declared grouping over its rids
cube_is : (book : Workbook) (state : State) (v t mark : ℕ) (more : List ℕ) (grouped : Grouped) → state.tables ≡ book.tables → kinds1 (Grouping grouped.keys grouped.aggs) (table_kinds (info_at book.catalog.tables t)) ≡ grouped.kinds
    → list_all (nat_eq mark) more ≡ true → mark < length (backs_of book v t).lists
    → cube_at (cubes_of_grouped book v t grouped) mark ≡ cube state t grouped (members_at (backs_of book v t) (mark ∷ more))
cube_is book state v t mark more grouped tables kinds one low =
    let m : Lists = backs_of book v t in
    get_or-map (cube_of (table_of book t) grouped.keys grouped.aggs) m.lists mark [] (rel_of [] []) low
    ∙ ap (λ k. rel_of k (step1 (Grouping grouped.keys grouped.aggs) (sub (table_of book t).rows (list_at m mark)))) kinds
    ∙ ap (λ (l : List ℕ). rel_of grouped.kinds (step1 (Grouping grouped.keys grouped.aggs) (sub (table_of book t).rows l)))
    (sym (members_one m mark more (lists_stand.backs_places (view_at book.catalog v).plan book.tables t) one low))
    ∙ rw (sym tables) refl

abbrev read_off : Lists → List Relation → ℕ → Marks → Asked Reply
read_off m kept mark marks = ◌>>=◌ (within_asked marks (length m.lists)) (λ within. Ok (replies.Grouped (cube_at kept mark)))

groups_told : (tables : List Relation) (brushes : List BrushOn) (pair : Pair) (grouped : Grouped) (marks : Marks)
    → kinds1 (Grouping grouped.keys grouped.aggs) (table_kinds (info_at pair.catalog.now.tables pair.table)) ≡ grouped.kinds
    → ◌>>=◌ (one_asked marks) (λ mark. read_off (lists_of tables pair) (cubes_of_grouped (book_of tables pair) pair.view pair.table grouped) mark marks)
    ≡ provided (is_one marks) ManyMarks (◌>>=◌ (rids_of (catalog_image pair.catalog.now) (state_over tables brushes) pair.view pair.table marks) (λ rids. Ok (replies.Grouped (cube (state_over tables brushes) pair.table grouped rids))))
groups_told tables brushes pair grouped (markings.Listed (mark ∷ more)) kinds =
    let image : CatalogImage = catalog_image pair.catalog.now in
    let state : State = state_over tables brushes in
    let book : Workbook = book_of tables pair in
    let marks : List ℕ = mark ∷ more in
    let m : Lists = lists_of tables pair in
    let n : ℕ = length m.lists in
    let kept : List Relation = cubes_of_grouped book pair.view pair.table grouped in
    elim (cases_Bool (list_all (nat_eq mark) more)) [
      | inr e ↦ rw e refl
      | inl e ↦ rw e
          (then_row (first_outside marks n) n tt (λ within. replies.Grouped (cube_at kept mark))
          ∙ same_row (first_outside marks n) n (Ok (replies.Grouped (cube_at kept mark))) (Ok (replies.Grouped (cube state pair.table grouped (members_at m marks)))) (λ none.
          ap (λ r. Ok (replies.Grouped r)) (cube_is book state pair.view pair.table mark more grouped refl kinds e (All-head (λ o. o < n) mark more (none_outside marks n none))))
          ∙ sym (then_row (first_outside marks n) n (members_at m marks) (λ rids. replies.Grouped (cube state pair.table grouped rids)))
          ∙ ap (λ (a : Asked (List ℕ)). ◌>>=◌ a (λ rids. Ok (replies.Grouped (cube state pair.table grouped rids)))) (backs_asked (view_at image pair.view).plan state.tables pair.table (markings.Listed marks)))
    ]
groups_told tables brushes pair grouped _ kinds = refl

grouped_told : (tables : List Relation) (brushes : List BrushOn) (views : List Run) (pair : Pair) (marks : Marks) → IsPairOf tables views pair
    → ◌>>=◌ (cubes_asked pair) (λ kept. ◌>>=◌ (one_asked marks) (λ mark. read_off (lists_of tables pair) kept mark marks))
    ≡ back_reply (catalog_image pair.catalog.now) (state_over tables brushes) pair.view pair.table marks thens.Grouped
grouped_told tables brushes views pair marks p =
    let image : CatalogImage = catalog_image pair.catalog.now in
    let state : State = state_over tables brushes in
    ap (λ (o : Option (List Relation)). ◌>>=◌ (ok_or o NoGroup) (λ kept. ◌>>=◌ (one_asked marks) (λ mark. read_off (lists_of tables pair) kept mark marks))) (cubes_are tables views pair p)
    ∙ by (grouping_of image pair.view pair.table) refl
  where
    by : (declared : Option Grouped) → grouping_of (catalog_image pair.catalog.now) pair.view pair.table ≡ declared
        → ◌>>=◌ (ok_or (option_map (cubes_of_grouped (book_of tables pair) pair.view pair.table) declared) NoGroup) (λ kept. ◌>>=◌ (one_asked marks) (λ mark. read_off (lists_of tables pair) kept mark marks))
        ≡ ◌>>=◌ (ok_or declared NoGroup) (λ grouped. provided (is_one marks) ManyMarks (◌>>=◌ (rids_of (catalog_image pair.catalog.now) (state_over tables brushes) pair.view pair.table marks) (λ rids. Ok (replies.Grouped (cube (state_over tables brushes) pair.table grouped rids)))))
    by None e = refl
    by (Some grouped) e =
        groups_told tables brushes pair grouped marks
        (grouping_fits pair.catalog.now.tables (length (catalog_image pair.catalog.now).views) pair.view pair.table pair.catalog.now.backs grouped p.opened.checked.typed.backs e).kinds_are

pub grouped_is : (tables : List Relation) (brushes : List BrushOn) (views : List Run) (pair : Pair) (marks : Marks) → IsPairOf tables views pair
    → grouped_by pair marks ≡ asked_of pair (state_over tables brushes) marks thens.Grouped
grouped_is tables brushes views pair marks p =
    declared_then tables views pair (λ m. ◌>>=◌ (cubes_asked pair) (λ kept. ◌>>=◌ (one_asked marks) (λ mark. read_off m kept mark marks)))
    (back_reply (catalog_image pair.catalog.now) (state_over tables brushes) pair.view pair.table marks thens.Grouped) p (grouped_told tables brushes views pair marks p)

-- the answer to a line that names a view and a table
pub named_is : (catalog : CatalogImage) (state : State) (view table : List ℕ) (v t : ℕ) (marks : Marks) (then : Then) → known_pair catalog view table ≡ Ok (v, t)
    → provided (declares_back catalog v t) Undeclared (back_reply catalog state v t marks then) ≡ named_back catalog state view marks table then
named_is catalog state view table v t marks then named =
    ap (λ (a : Asked (ℕ × ℕ)). ◌>>=◌ a (λ p. provided (declares_back catalog p.0 p.1) Undeclared (back_reply catalog state p.0 p.1 marks then))) (sym named)

pub answered_is : (held : Lent) (pair : Pair) (view table : List ℕ) (marks : Marks) (then exact : Then) (by : Asked Reply) → IsPairNamed held view table pair → then ≡ exact → by ≡ asked_of pair (state_lent held) marks exact
    → by ≡ named_back (catalog_image held.catalog.now) (state_lent held) view marks table then
answered_is held pair view table marks then exact by p then_is is =
    let asked : Catalog → Then → Asked Reply = λ catalog extra. provided (declares_back (catalog_image catalog) pair.view pair.table) Undeclared (back_reply (catalog_image catalog) (state_lent held) pair.view pair.table marks extra) in
    is ∙ ap (λ catalog. asked catalog exact) p.catalog ∙ ap (asked held.catalog.now) (sym then_is) ∙ named_is (catalog_image held.catalog.now) (state_lent held) view table pair.view pair.table marks then p.named

-- what is asked for of a line of rows, by their rids

pub rows_named : (held : Lent) (pair : Pair) (view table : List ℕ) (marks : Marks) (then : Then) → AsksRows then → IsPairNamed held view table pair → rows_by pair marks then ≡ named_back (catalog_image held.catalog.now) (state_lent held) view marks table then
rows_named held pair view table marks then asks p = answered_is held pair view table marks then then (rows_by pair marks then) p refl (rows_are_asked held.tables.now held.brushes.now held.views.now pair marks then asks p.fits)

replied : (held : Lent) (pair : Pair) (view table : List ℕ) (marks : Marks) (then : Then) (found : Asked (List ℕ)) → AsksRows then → IsPairNamed held view table pair → rids_by pair marks then ≡ found
    → (reply (catalog_image held.catalog.now) (state_lent held) (lines.Back view marks table then)).0 ≡ (or_refused (state_lent held) (staying (state_lent held) (◌>>=◌ found (λ rids. Ok (rows_told pair.rows.now rids))))).0
replied held pair view table marks then found asks p is =
    ap (λ (a : Asked Reply). (or_refused (state_lent held) (staying (state_lent held) a)).0)
    (sym (rows_named held pair view table marks then asks p) ∙ ap (λ (a : Asked (List ℕ)). ◌>>=◌ a (λ rids. Ok (rows_told pair.rows.now rids))) is)

pub rids_found : (held : Lent) (pair : Pair) (view table : List ℕ) (marks : Marks) (then : Then) (rids : List ℕ) → AsksRows then → IsPairNamed held view table pair → rids_by pair marks then ≡ Ok rids
    → IsBehind (catalog_image held.catalog.now) (state_lent held) (lines.Back view marks table then) (record { view = pair.view; table = pair.table; rids = rids })
rids_found held pair view table marks then rids asks p is = record {
  pair = p.named;
  reply = replied held pair view table marks then (Ok rids) asks p is
      ∙ ap (λ (r : Relation). rows_told r rids) (rows_are held.tables.now held.views.now pair p.fits)
      ∙ ap (λ (catalog : Catalog). rows_reply (catalog_image catalog) (state_lent held) pair.table rids) p.catalog;
}

pub rids_refused : (held : Lent) (pair : Pair) (view table : List ℕ) (marks : Marks) (then : Then) (turned : Turned) → AsksRows then → IsPairNamed held view table pair → Turns turned (rids_by pair marks then)
    → IsRefusedAs (catalog_image held.catalog.now) (state_lent held) (lines.Back view marks table then) turned
rids_refused held pair view table marks then turned asks p turns = λ refusal e. replied held pair view table marks then (Err refusal) asks p (turns refusal e)

pub rids_fit : (held : Lent) (pair : Pair) (view table : List ℕ) (rids : List ℕ) → IsPairNamed held view table pair → IsPlaces (length pair.rows.now.rows) rids → BehindFits held.catalog.now held.tables.now (record { view = pair.view; table = pair.table; rids = rids })
rids_fit held pair view table rids p set =
    let same = ap (λ (r : Relation). length r.rows) (rows_are held.tables.now held.views.now pair p.fits) in
    record {
      view = subst (λ (catalog : Catalog). pair.view < length catalog.views) p.catalog p.fits.view;
      table = subst (λ (catalog : Catalog). pair.table < length catalog.tables) p.catalog p.fits.table;
      rids = record { ascending = rids_ascend (length pair.rows.now.rows) rids set; inside = rids_low (length pair.rows.now.rows) _ rids set same };
    }
