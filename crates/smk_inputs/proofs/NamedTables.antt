-- A table by its name: its place, and the table.
use Rattle.std.proofs.{Common.{◌≡◌, ◌∙◌, ◌<◌, ◌≤◌, ℕ, Bool, List, length, get_or, Option, Some, None, true, position, nat_lt, refl, sym, ap, arith, inl, inr}, lemmas.Bool.cases_lt, lemmas.Bool.Decides.nat_tests, lemmas.List.Folds.find_at, lemmas.Option.slice_get_past}
use Rattle.std.specs.{Prelude.{◌⊎◌, is_some, option_map, cond}, List.{find, position_or_len}}
use Rattle.smk_base.specs.{CatalogImage.{CatalogImage, table_place}, Dicts.text_eq, Trees.AppendedLine, declared.book.catalog.TableInfo.TableInfo}
use Rattle.smk_model.specs.{Outcome.{filed, appended_by, appended_at}, Readings.{Reading, Asks}, ReplyTexts.table_named, Reports.brings_rows}
use Rattle.smk_model.proofs.Finds.{find_placed}

-- no place, no member
found_nowhere : {X : Type 0} (p : X → Bool) (xs : List X) → position p xs ≡ None → find p xs ≡ None
found_nowhere p xs none = by (cases_lt (position_or_len p xs) (length xs))
  where
    by : (position_or_len p xs < length xs) ⊎ (length xs ≤ position_or_len p xs) → find p xs ≡ None
    by (inl below) =
        let test : nat_lt (position_or_len p xs) (length xs) ≡ true = grind (arith, nat_tests) in
        let found : cond (nat_lt (position_or_len p xs) (length xs)) (Some (position_or_len p xs)) None ≡ Some (position_or_len p xs) = rw test refl in
        absurd (cc (none, found))
    by (inr past) = find_at p xs ∙ slice_get_past xs (position_or_len p xs) past

pub named_at : (catalog : CatalogImage) (name : List ℕ) (t : ℕ) (d : TableInfo) → table_place catalog name ≡ Some t → table_named catalog name ≡ Some (get_or catalog.tables t d)
named_at catalog name t d at = find_placed (λ (table : TableInfo). text_eq table.name name) catalog.tables t d at

pub named_nowhere : (catalog : CatalogImage) (name : List ℕ) → table_place catalog name ≡ None → table_named catalog name ≡ None
named_nowhere catalog name none = found_nowhere (λ (table : TableInfo). text_eq table.name name) catalog.tables none

-- the table that a line appends to
pub appended_to : (catalog : CatalogImage) (table file : List ℕ) (t : ℕ) (d : TableInfo) → table_place catalog table ≡ Some t
    → appended_by catalog (AppendedLine table file) ≡ Some (filed file (get_or catalog.tables t d))
appended_to catalog table file t d at = ap (option_map (filed file)) (named_at catalog table t d at)

pub appended_nowhere : (catalog : CatalogImage) (table file : List ℕ) → table_place catalog table ≡ None → appended_by catalog (AppendedLine table file) ≡ None
appended_nowhere catalog table file none = ap (option_map (filed file)) (named_nowhere catalog table none)

-- the same where the table is looked up by its place
pub appended_found : (catalog : CatalogImage) (infos : List TableInfo) (table file : List ℕ) (t : ℕ) (info : TableInfo) → Some t ≡ table_place catalog table → infos ≡ catalog.tables → info ≡ get_or infos t info
    → appended_by catalog (AppendedLine table file) ≡ Some (filed file info)
appended_found catalog infos table file t info at same is = appended_to catalog table file t info (sym at) ∙ ap (λ l. Some (filed file (get_or l t info))) (sym same) ∙ ap (λ i. Some (filed file i)) (sym is)

-- a line brings rows where it appends to a table of the book
appends_is : (catalog : CatalogImage) (table file : List ℕ) (d : TableInfo) → is_some (table_place catalog table) ≡ is_some (appended_by catalog (AppendedLine table file))
appends_is catalog table file d = by (table_place catalog table) refl
  where
    by : (place : Option ℕ) → table_place catalog table ≡ place → is_some (table_place catalog table) ≡ is_some (appended_by catalog (AppendedLine table file))
    by (Some t) at = ap is_some at ∙ ap is_some (sym (appended_to catalog table file t d at))
    by None none = ap is_some none ∙ ap is_some (sym (appended_nowhere catalog table file none))

pub brings_is : (catalog : CatalogImage) (d : TableInfo) (reading : Reading) → brings_rows catalog reading ≡ is_some (appended_at catalog reading)
brings_is catalog d (Asks (AppendedLine table file)) = appends_is catalog table file d
brings_is catalog d _ = refl
