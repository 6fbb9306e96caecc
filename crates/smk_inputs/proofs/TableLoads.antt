-- The tables of a book, one file after the other.
use Rattle.std.proofs.{Common.{◌≡◌, ◌∙◌, ◌+◌, ◌<◌, ℕ, List, [], ◌∷◌, ◌++◌, length, take, drop, get_or, map, Option, Some, None, Result, Ok, Err, refl, inl, inr, ap, sym, subst, append_assoc, take-append-drop}, lemmas.List.{map-append, take_more}}
use Rattle.smk_base.specs.{Rels.Relation, declared.value.Kind.Kind, declared.book.col_decl.ColDecl.ColDecl, declared.book.catalog.Column.Column, declared.fault.Fault.Fault, declared.book.catalog.TableInfo.TableInfo}
use Rattle.smk_model.specs.{Values.Row, Tables.{all_or_first, declared_kinds}, Catalogs.{table_kinds, each_table_kinds}, Selection.{each_rows, each_kinds}, Outcome.{Held, load}}
use Rattle.smk_inputs.specs.{declared.stop.Stop.Stop, declared.stop.Stop.TheVariants.{At, Unwritten, Exhausted}, Collecting.{ReadsNamed, Loads, unread_among}}
use Rattle.smk_model.proofs.InOrder.{then_value, then_fault}
use Rattle.smk_base.proofs.Places.{map_map}
use Rattle.smk_inputs.proofs.Stops.{untold_within}

-- one table more
pub load_more : {X Y : Type 0} (rows : X → List (List Row)) (row : Y → List Row) (held : Option Held) (rose_first rose_here rose : Type 0) (done : List TableInfo) (info : TableInfo) (before after : X) (y : Y)
    → Loads held rose_first done rows (Ok before) → ReadsNamed held rose_here info.file (λ h answer. load h info ≡ answer) row (Ok y) → rows after ≡ rows before ++ row y ∷ []
    → Loads held rose (done ++ info ∷ []) rows (Ok after)
load_more rows row (Some held) r1 r2 r3 done info before after y is e more =
    ap all_or_first (map-append (load held) done (info ∷ [])) ∙ then_value (map (load held) done) (load held info) (rows before) (row y) is e ∙ ap Ok (sym more)
load_more rows row None r1 r2 r3 done info before after y is e more = tt

-- or none, and why
pub load_stops : {X Y Z : Type 0} (rows : X → List (List Row)) (row : Y → List Row) (whole : Z → List (List Row)) (held : Option Held) (rose_first rose_here rose : Type 0) (done : List TableInfo) (info : TableInfo) (behind : List TableInfo) (before : X) (stop : Stop)
    → (rose_here → rose) → Loads held rose_first done rows (Ok before) → ReadsNamed {X = Y} held rose_here info.file (λ h answer. load h info ≡ answer) row (Err stop)
    → Loads {X = Z} held rose (done ++ info ∷ behind) whole (Err stop)
load_stops rows row whole (Some held) r1 r2 r3 done info behind before (At fault) wide is (inl e) =
    inl (ap all_or_first (map-append (load held) done (info ∷ behind)) ∙ then_fault (map (load held) done) (load held info) (map (load held) behind) (rows before) fault is e)
load_stops rows row whole (Some held) r1 r2 r3 done info behind before (At fault) wide is (inr (up, named)) = inr (wide up, unread_among done info behind refl is named)
load_stops rows row whole (Some held) r1 r2 r3 done info behind before Unwritten wide is e = e
load_stops rows row whole (Some held) r1 r2 r3 done info behind before Exhausted wide is e = tt
load_stops rows row whole None r1 r2 r3 done info behind before (At fault) wide is e = untold_within r2 r3 fault wide e
load_stops rows row whole None r1 r2 r3 done info behind before Unwritten wide is e = e
load_stops rows row whole None r1 r2 r3 done info behind before Exhausted wide is e = tt

-- the same at a place of the tables
split_here : {X : Type 0} (xs : List X) (i : ℕ) (x d : X) → i < length xs → x ≡ get_or xs i d → xs ≡ take i xs ++ x ∷ drop (i + 1) xs
split_here xs i x d l is = sym (take-append-drop (i + 1) xs) ∙ ap (λ f. f ++ drop (i + 1) xs) (take_more xs i d l ∙ ap (λ y. take i xs ++ y ∷ []) (sym is)) ∙ append_assoc (take i xs) (x ∷ []) (drop (i + 1) xs)

pub loaded_next : {X Y : Type 0} (rows : X → List (List Row)) (row : Y → List Row) (held : Option Held) (rose_first rose_here rose : Type 0) (infos : List TableInfo) (i : ℕ) (info d : TableInfo) (before after : X) (y : Y) → i < length infos → info ≡ get_or infos i d
    → Loads held rose_first (take i infos) rows (Ok before) → ReadsNamed held rose_here info.file (λ h answer. load h info ≡ answer) row (Ok y) → rows after ≡ rows before ++ row y ∷ []
    → Loads held rose (take (i + 1) infos) rows (Ok after)
loaded_next rows row held r1 r2 r3 infos i info d before after y l is loaded read more =
    subst (λ (done : List TableInfo). Loads held r3 done rows (Ok after)) (sym (take_more infos i d l ∙ ap (λ y. take i infos ++ y ∷ []) (sym is))) (load_more rows row held r1 r2 r3 (take i infos) info before after y loaded read more)

pub stopped_here : {X Y Z : Type 0} (rows : X → List (List Row)) (row : Y → List Row) (whole : Z → List (List Row)) (held : Option Held) (rose_first rose_here rose : Type 0) (infos : List TableInfo) (i : ℕ) (info d : TableInfo) (before : X) (stop : Stop) → i < length infos → info ≡ get_or infos i d
    → (rose_here → rose) → Loads held rose_first (take i infos) rows (Ok before) → ReadsNamed {X = Y} held rose_here info.file (λ h answer. load h info ≡ answer) row (Err stop)
    → Loads {X = Z} held rose infos whole (Err stop)
stopped_here rows row whole held r1 r2 r3 infos i info d before stop l is wide loaded read =
    subst (λ (all : List TableInfo). Loads held r3 all whole (Err stop)) (sym (split_here infos i info d l is)) (load_stops rows row whole held r1 r2 r3 (take i infos) info (drop (i + 1) infos) before stop wide loaded read)

-- the kinds of tables and of their declared columns
pub kinds_declared : (info : TableInfo) (kinds : List Kind) → kinds ≡ declared_kinds info.cols → kinds ≡ table_kinds info
kinds_declared info kinds is = is ∙ sym (map_map (λ (column : Column). column.kind) (λ (col : ColDecl). record { name = col.name; kind = col.kind }) info.cols)

-- one more of the lists of rows, and of kinds
pub rows_more : (tables more : List Relation) (table : Relation) → more ≡ tables ++ table ∷ [] → each_rows more ≡ each_rows tables ++ table.rows ∷ []
rows_more tables more table is = ap each_rows is ∙ map-append (λ (rel : Relation). rel.rows) tables (table ∷ [])

pub kinds_next : (infos : List TableInfo) (i : ℕ) (info d : TableInfo) (tables more : List Relation) (table : Relation) → i < length infos → info ≡ get_or infos i d
    → each_kinds tables ≡ each_table_kinds (take i infos) → table.kinds ≡ table_kinds info → more ≡ tables ++ table ∷ [] → each_kinds more ≡ each_table_kinds (take (i + 1) infos)
kinds_next infos i info d tables more table l is kinds own e =
    ap each_kinds e ∙ map-append (λ (rel : Relation). rel.kinds) tables (table ∷ []) ∙ ap (λ k. k ++ table.kinds ∷ []) kinds ∙ ap (λ k. each_table_kinds (take i infos) ++ k ∷ []) (own ∙ ap table_kinds is)
    ∙ sym (ap each_table_kinds (take_more infos i d l) ∙ map-append table_kinds (take i infos) (get_or infos i d ∷ []))

-- the files hold the same as before
pub reads_held : {A X : Type 0} (image : X → A) (rose : Type 0) (name : List ℕ) (says : Held → Result A Fault → Type 0) (r : Result X Stop) (now before : Option Held) → now ≡ before → ReadsNamed now rose name says image r → ReadsNamed before rose name says image r
reads_held image rose name says r now before same read = subst (λ (held : Option Held). ReadsNamed held rose name says image r) same read
