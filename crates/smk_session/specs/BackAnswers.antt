-- What is so of the calls that work out the parts of a backward answer.
use Rattle.std.specs.{Prelude.{◌≡◌, ◌<◌, ℕ, nat_eq, Option, List, ◌∷◌, length, slice_get, slice_index_or, ok_or, Ok, Err, option_map}, List.list_all}
use Rattle.smk_base.specs.{CatalogImage.{CatalogImage, catalog_image}, Places.Lists, Rels.Relation, declared.reply.Reply.Reply, declared.reply.Refusal.TheVariants.{ManyMarks, NoGroup, NoSplit, ValueKind}, declared.book.tree.Marks.Marks, declared.book.tree.Then.Then, declared.value.Value.Value}
use Rattle.smk_base.specs.declared.reply.Reply.TheVariants as replies
use Rattle.smk_base.specs.declared.book.tree.Marks.TheVariants as markings
use Rattle.smk_base.specs.declared.book.tree.Then.TheVariants as thens
use Rattle.smk_model.specs.{Names.◌>>=◌, Replies.{Asked, column_place, is_of_column, known_pair, marked, provided, unless_outside}}
use Rattle.smk_compose.specs.declared.kept_maps.Run.{Run}
use Rattle.smk_push.specs.Cubes.{cube_at}
use Rattle.smk_skip.specs.Splits.{SplitImage, members_with}
use Rattle.smk_session.specs.{Kept.kept_back, Answers.{book_of, members_asked, rows_told, within_asked}, Extras.{split_place, cubes_place}, Opened.{AreExtras, AreOpened}, declared.answer.backward.Pair.Pair, declared.lent.Lent.Lent}

-- what a session holds of a view and a table
pub record IsPairOf (tables : List Relation) (views : List Run) (pair : Pair) : Type 0 where
  pub opened : AreOpened pair.catalog.now tables views
  pub extras : AreExtras pair.catalog.now tables pair.splits.now pair.cubes.now
  pub view : pair.view < length pair.catalog.now.views
  pub table : pair.table < length pair.catalog.now.tables
  pub run_is : pair.run.now ≡ slice_index_or views pair.view pair.run.now
  pub rows_are : pair.rows.now ≡ slice_index_or tables pair.table pair.rows.now

-- it is that of the view and the table of these names
pub record IsPairNamed (held : Lent) (view table : List ℕ) (pair : Pair) : Type 0 where
  pub named : known_pair (book_of held) view table ≡ Ok (pair.view, pair.table)
  pub catalog : pair.catalog.now ≡ held.catalog.now
  pub fits : IsPairOf held.tables.now held.views.now pair

-- a column with its split; the splits are kept in the order of their declarations
abbrev pub split_kept : Pair → ℕ → Option (ℕ × SplitImage)
split_kept pair c = option_map (λ split. (c, split)) (slice_get pair.splits.now (split_place pair.view pair.table c pair.catalog.now.backs))

-- the column with this name, with its split; and the groups that are kept
abbrev pub split_asked : Pair → List ℕ → Asked (ℕ × SplitImage)
split_asked pair name = ok_or (column_place (catalog_image pair.catalog.now) pair.table name) NoSplit >>= λ c. ok_or (split_kept pair c) NoSplit

abbrev pub cubes_asked : Pair → Asked (List Relation)
cubes_asked pair = ok_or (slice_get pair.cubes.now (cubes_place pair.view pair.table pair.catalog.now.backs)) NoGroup

-- nothing, or the refusal of a value of another sort than the column's
abbrev pub sort_asked : CatalogImage → ℕ → ℕ → Value → Asked (Unit {0})
sort_asked catalog t c value = provided (is_of_column catalog t c value) ValueKind (Ok tt)

-- the members, of the lists at the marked places, that have this value
abbrev pub with_value_asked : SplitImage → Marks → Value → Asked (List ℕ)
with_value_asked split marks value = unless_outside marks (length split.map.lists) (Ok (members_with split (marked marks (length split.map.lists)) value))

-- the one mark of a line
abbrev pub one_asked : Marks → Asked ℕ
one_asked (markings.Listed (mark ∷ more)) = provided (list_all (nat_eq mark) more) ManyMarks (Ok mark)
one_asked _ = Err ManyMarks

-- the rids, the rows and the groups of an answer, from what is kept
abbrev pub rids_by : Pair → Marks → Then → Asked (List ℕ)
rids_by pair marks (thens.Matching name value) =
    kept_back pair.run.now.kept pair.table >>= λ map.
    split_asked pair name >>= λ found.
    sort_asked (catalog_image pair.catalog.now) pair.table found.0 value >>= λ same.
    with_value_asked found.1 marks value
rids_by pair marks _ = kept_back pair.run.now.kept pair.table >>= λ map. members_asked map marks

abbrev pub rows_by : Pair → Marks → Then → Asked Reply
rows_by pair marks then = rids_by pair marks then >>= λ rids. Ok (rows_told pair.rows.now rids)

abbrev pub grouped_by : Pair → Marks → Asked Reply
grouped_by pair marks =
    kept_back pair.run.now.kept pair.table >>= λ map.
    cubes_asked pair >>= λ kept.
    one_asked marks >>= λ mark.
    within_asked marks (length map.lists) >>= λ within.
    Ok (replies.Grouped (cube_at kept mark))

-- the split that is kept is of the lists that are kept, and there are groups for each of these lists
abbrev pub SplitsFit : Pair → Type 0
SplitsFit pair = (map : Lists) (name : List ℕ) (found : ℕ × SplitImage) → kept_back pair.run.now.kept pair.table ≡ Ok map → split_asked pair name ≡ Ok found → found.1.map ≡ map

abbrev pub CubesFit : Pair → Type 0
CubesFit pair = (map : Lists) (kept : List Relation) → kept_back pair.run.now.kept pair.table ≡ Ok map → cubes_asked pair ≡ Ok kept → length kept ≡ length map.lists
