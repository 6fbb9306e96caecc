-- The tables that lines bring, line by line.
use Rattle.std.proofs.Common.{◌≡◌, ◌∙◌, ℕ, Bool, true, List, [], ◌∷◌, ◌++◌, Option, Some, None, refl, sym, ap, drop, length, arith}
use Rattle.std.specs.{Prelude.{IfSome, is_some}, List.cons_option, Option.{option_to_list, IsSomeAnd}}
use Rattle.smk_base.specs.{CatalogImage.{CatalogImage, table_place}, Rels.Relation, declared.book.catalog.TableInfo.TableInfo}
use Rattle.smk_model.specs.{Catalogs.{table_kinds, each_table_kinds}, Outcome.{appended, appended_at}, Readings.{Reading, IsReading, AreReadings, one_line}, ReplyTexts.table_named, Reports.{brings_rows, next_rows, rows_left}, Selection.{each_kinds, each_rows}, Typing.{info_at, no_table}}
use Rattle.smk_model.proofs.OneOutcome.{same_reading}
use Rattle.smk_inputs.specs.Added.{BringTables, BeginsWith, tables_left}
use Rattle.smk_inputs.proofs.NamedTables.{brings_is, named_at}

-- the rows that are left
pub rows_behind : (takes : Bool) (added : List Relation) → each_rows (tables_left takes added) ≡ rows_left takes (each_rows added)
rows_behind true [] = refl
rows_behind _ _ = refl

-- the first of the tables, where kinds begin so
begins_so : (asked : Option TableInfo) (more : List TableInfo) (added : List Relation) → each_kinds added ≡ each_table_kinds (cons_option asked more) → IfSome asked (λ info. BeginsWith info added)
begins_so None more added kinds = tt
begins_so (Some info) more [] kinds = absurd (cc)
begins_so (Some info) more (table ∷ added) kinds = record { first = table; rest = added; is = refl; kinds = cc }

goes_on_so : (asked : Option TableInfo) (more : List TableInfo) (added : List Relation) → each_kinds added ≡ each_table_kinds (cons_option asked more) → each_kinds (tables_left (is_some asked) added) ≡ each_table_kinds more
goes_on_so None more added kinds = kinds
goes_on_so (Some info) more [] kinds = absurd (cc)
goes_on_so (Some info) more (table ∷ added) kinds = cc

-- what a line brings, and what is left for the lines behind it
record IsBrought (catalog : CatalogImage) (texts : List (List ℕ)) (reading : Reading) (added : List Relation) : Type 0 where
  behind : List Reading
  reads : AreReadings texts behind
  kinds : each_kinds added ≡ each_table_kinds (cons_option (appended_at catalog reading) (appended catalog behind))

brought : (catalog : CatalogImage) (text : List ℕ) (texts : List (List ℕ)) (reading : Reading) (added : List Relation) (said : List Reading) → AreReadings (text ∷ texts) said → IsReading text reading
    → each_kinds added ≡ each_table_kinds (appended catalog said) → IsBrought catalog texts reading added
brought catalog text texts reading added _ (one_line {reading = r} {readings = behind} this rest) is kinds = record {
  behind = behind;
  reads = rest;
  kinds = kinds ∙ ap (λ k. each_table_kinds (cons_option (appended_at catalog k) (appended catalog behind))) (same_reading this is);
}

pub line_begins : (catalog : CatalogImage) (text : List ℕ) (texts : List (List ℕ)) (reading : Reading) (added : List Relation) → BringTables catalog (text ∷ texts) added → IsReading text reading
    → IfSome (appended_at catalog reading) (λ info. BeginsWith info added)
line_begins catalog text texts reading added fits is =
    let here = brought catalog text texts reading added fits.said fits.reads is fits.kinds in
    begins_so (appended_at catalog reading) (appended catalog here.behind) added here.kinds

pub lines_go_on : (catalog : CatalogImage) (text : List ℕ) (texts : List (List ℕ)) (reading : Reading) (added left : List Relation) → BringTables catalog (text ∷ texts) added → IsReading text reading
    → left ≡ tables_left (brings_rows catalog reading) added → BringTables catalog texts left
lines_go_on catalog text texts reading added left fits is same =
    let here = brought catalog text texts reading added fits.said fits.reads is fits.kinds in
    record {
      said = here.behind;
      reads = here.reads;
      kinds = ap each_kinds same ∙ ap (λ takes. each_kinds (tables_left takes added)) (brings_is catalog no_table reading) ∙ goes_on_so (appended_at catalog reading) (appended catalog here.behind) added here.kinds;
    }

-- the first of the tables is taken
pub first_taken : (info : TableInfo) (added left : List Relation) (taken : Option Relation) → BeginsWith info added → added ≡ option_to_list taken ++ left → left ≡ drop 1 added
    → IsSomeAnd taken (λ table. (table.kinds ≡ table_kinds info) × (next_rows (each_rows added) ≡ table.rows))
first_taken info added left taken begins items rest = by taken (sym begins.is ∙ items) (rest ∙ ap (drop 1) begins.is)
  where
    by : (taken : Option Relation) → begins.first ∷ begins.rest ≡ option_to_list taken ++ left → left ≡ begins.rest → IsSomeAnd taken (λ table. (table.kinds ≡ table_kinds info) × (next_rows (each_rows added) ≡ table.rows))
    by None items rest = absurd (endless begins.rest begins.first (items ∙ rest))
      where
        endless : (xs : List Relation) (x : Relation) → x ∷ xs ≡ xs → ⊥
        endless xs x is = omega (arith, ap length is)
    by (Some table) items rest =
        let same : begins.first ≡ table = cc in
        (ap (λ (t : Relation). t.kinds) (sym same) ∙ begins.kinds, ap (λ l. next_rows (each_rows l)) begins.is ∙ ap (λ (t : Relation). t.rows) same)

-- the first of the tables has the kinds of the table with this name
pub named_begins : (catalog : CatalogImage) (table : List ℕ) (t : ℕ) (added : List Relation) → table_place catalog table ≡ Some t → IfSome (table_named catalog table) (λ info. BeginsWith info added) → BeginsWith (info_at catalog.tables t) added
named_begins catalog table t added at fits = rw (named_at catalog table t no_table at) at fits

pub taken_is : (P : Relation → Type 0) (taken : Option Relation) (table : Relation) → taken ≡ Some table → IsSomeAnd taken P → P table
taken_is P taken table is all = rw is at all

-- where the book has the table there is one to take
pub never_none : (catalog : CatalogImage) (table : List ℕ) (place : Option ℕ) (added left : List Relation) (taken : Option Relation) → place ≡ table_place catalog table → is_some place ≡ true
    → IfSome (table_named catalog table) (λ info. BeginsWith info added) → added ≡ option_to_list taken ++ left → left ≡ drop 1 added → taken ≡ None → ⊥
never_none catalog table None added left taken at some fits items rest none = absurd (cc)
never_none catalog table (Some t) added left taken at some fits items rest none =
    rw none at (first_taken (info_at catalog.tables t) added left taken (named_begins catalog table t added (sym at) fits) items rest)
