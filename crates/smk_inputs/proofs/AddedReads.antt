-- The files that the lines of a script append, one after the other.
use Rattle.std.proofs.{Common.{◌≡◌, ◌∙◌, ℕ, List, [], ◌∷◌, ◌++◌, length, drop, map, Option, Some, None, Result, Ok, Err, refl, sym, ap, subst, append_assoc, append-nil, inl, inr, arith}, lemmas.List.{map-append, drop_all}, lemmas.List.Elements.filter_map-append}
use Rattle.std.specs.{List.cons_option, Option.option_to_list}
use Rattle.smk_base.specs.{CatalogImage.CatalogImage, Rels.Relation, declared.book.catalog.TableInfo.TableInfo}
use Rattle.smk_model.specs.{Catalogs.{table_kinds, each_table_kinds}, Lines.lines, Names.◌>>=◌, Outcome.{Held, load, appended, appended_at}, Readings.{Reading, IsReading, AreReadings, no_line}, Selection.{each_kinds, each_rows}, Tables.all_or_first, Values.Row}
use Rattle.smk_model.proofs.OneOutcome.{same_readings}
use Rattle.smk_inputs.specs.{declared.stop.Stop.Stop, declared.stop.Stop.TheVariants.{At, Unwritten, Exhausted}, Collecting.{ReadsNamed, Loads, unread_among}}
use Rattle.smk_inputs.proofs.{ScriptReads.{readings_more, rest_said}, Stops.untold_within, TableLoads.{load_more, load_stops}}

-- all the values of two lists, or the first fault of the second
begun_with : {A E : Type 0} (x : A) (rest : Result (List A) E) (all : List A) → ◌>>=◌ rest (λ xs. Ok (x ∷ xs)) ≡ Ok all → (ys : List A) × (rest ≡ Ok ys) × (all ≡ x ∷ ys)
begun_with x (Ok ys) all is = (ys, refl, cc)
begun_with x (Err e) all is = absurd (cc)

stopped_behind : {A E : Type 0} (x : A) (rest : Result (List A) E) (fault : E) → ◌>>=◌ rest (λ xs. Ok (x ∷ xs)) ≡ Err fault → rest ≡ Err fault
stopped_behind x (Ok ys) fault is = absurd (cc)
stopped_behind x (Err e) fault is = cc

all_then : {A E : Type 0} (rs qs : List (Result A E)) (xs ys : List A) → all_or_first rs ≡ Ok xs → all_or_first qs ≡ Ok ys → all_or_first (rs ++ qs) ≡ Ok (xs ++ ys)
all_then [] qs xs ys e f = let none : [] ≡ xs = cc e in f ∙ ap (λ l. Ok (l ++ ys)) none
all_then (Err fault ∷ rs) qs xs ys e f = absurd (cc)
all_then (Ok x ∷ rs) qs xs ys e f =
    let at = begun_with x (all_or_first rs) xs e in
    ap (λ t. ◌>>=◌ t (λ zs. Ok (x ∷ zs))) (all_then rs qs at.0 ys at.1 f) ∙ ap (λ l. Ok (l ++ ys)) (sym at.2)

fault_then : {A E : Type 0} (qs behind : List (Result A E)) (fault : E) → all_or_first qs ≡ Err fault → all_or_first (qs ++ behind) ≡ Err fault
fault_then [] behind fault e = absurd (cc)
fault_then (Err other ∷ qs) behind fault e = e
fault_then (Ok x ∷ qs) behind fault e = ap (λ t. ◌>>=◌ t (λ zs. Ok (x ∷ zs))) (fault_then qs behind fault (stopped_behind x (all_or_first qs) fault e))

then_fault : {A E : Type 0} (rs qs : List (Result A E)) (xs : List A) (fault : E) → all_or_first rs ≡ Ok xs → all_or_first qs ≡ Err fault → all_or_first (rs ++ qs) ≡ Err fault
then_fault [] qs xs fault e f = f
then_fault (Err other ∷ rs) qs xs fault e f = absurd (cc)
then_fault (Ok x ∷ rs) qs xs fault e f =
    let at = begun_with x (all_or_first rs) xs e in
    ap (λ t. ◌>>=◌ t (λ zs. Ok (x ∷ zs))) (then_fault rs qs at.0 fault at.1 f)

-- tables are loaded behind others
pub load_then : {X Y Z : Type 0} (first : X → List (List Row)) (second : Y → List (List Row)) (both : Z → List (List Row)) (held : Option Held) (rose_first rose_here rose : Type 0) (done more : List TableInfo) (x : X) (y : Y) (z : Z)
    → Loads held rose_first done first (Ok x) → Loads held rose_here more second (Ok y) → both z ≡ first x ++ second y → Loads held rose (done ++ more) both (Ok z)
load_then first second both (Some held) r1 r2 r3 done more x y z p q is =
    ap all_or_first (map-append (load held) done more) ∙ all_then (map (load held) done) (map (load held) more) (first x) (second y) p q ∙ ap Ok (sym is)
load_then first second both None r1 r2 r3 done more x y z p q is = tt

-- or they aren't, and why
pub load_then_stops : {X Y Z : Type 0} (first : X → List (List Row)) (second : Y → List (List Row)) (whole : Z → List (List Row)) (held : Option Held) (rose_first rose_here rose : Type 0) (done more behind : List TableInfo) (x : X) (stop : Stop)
    → (rose_here → rose) → Loads held rose_first done first (Ok x) → Loads {X = Y} held rose_here more second (Err stop) → Loads {X = Z} held rose ((done ++ more) ++ behind) whole (Err stop)
load_then_stops first second whole (Some held) r1 r2 r3 done more behind x (At fault) wide p (inl e) =
    let parts = map-append (load held) (done ++ more) behind ∙ ap (λ l. l ++ map (load held) behind) (map-append (load held) done more) in
    inl (ap all_or_first parts ∙ fault_then (map (load held) done ++ map (load held) more) (map (load held) behind) fault (then_fault (map (load held) done) (map (load held) more) (first x) fault p e))
load_then_stops first second whole (Some held) r1 r2 r3 done more behind x (At fault) wide p (inr (up, unread_among {rows = rows} before table after is loaded named)) =
    inr (
      wide up,
      unread_among (done ++ before) table (after ++ behind) (ap (λ l. (done ++ l) ++ behind) is ∙ regroup done before (table ∷ after) behind)
          (ap all_or_first (map-append (load held) done before) ∙ all_then (map (load held) done) (map (load held) before) (first x) rows p loaded) named,
    )
  where
    regroup : (a b c d : List TableInfo) → (a ++ (b ++ c)) ++ d ≡ (a ++ b) ++ (c ++ d)
    regroup a b c d = simp append_assoc
load_then_stops first second whole (Some held) r1 r2 r3 done more behind x Unwritten wide p q = q
load_then_stops first second whole (Some held) r1 r2 r3 done more behind x Exhausted wide p q = tt
load_then_stops first second whole None r1 r2 r3 done more behind x (At fault) wide p q = untold_within r2 r3 fault wide q
load_then_stops first second whole None r1 r2 r3 done more behind x Unwritten wide p q = q
load_then_stops first second whole None r1 r2 r3 done more behind x Exhausted wide p q = tt

-- no table
pub none_loaded : {X : Type 0} (rows : X → List (List Row)) (held : Option Held) (rose : Type 0) (x : X) → rows x ≡ [] → Loads held rose [] rows (Ok x)
none_loaded rows (Some held) rose x none = ap Ok (sym none)
none_loaded rows None rose x none = tt

-- the rows of the table that a line brings, if it brings one
abbrev pub rows_brought : Option Relation → List (List Row)
rows_brought brought = each_rows (option_to_list brought)

-- the table of a line's file
pub one_loaded : (held : Option Held) (rose : Type 0) (info : TableInfo) (table : Relation) → ReadsNamed held rose info.file (λ h answer. load h info ≡ answer) (λ (t : Relation). t.rows) (Ok table)
    → Loads held rose (info ∷ []) rows_brought (Ok (Some table))
one_loaded held rose info table read = load_more rows_brought (λ (t : Relation). t.rows) held (Unit {0}) rose rose [] info None (Some table) table (none_loaded rows_brought held (Unit {0}) None refl) read refl

pub one_stops : (held : Option Held) (rose : Type 0) (info : TableInfo) (stop : Stop) → ReadsNamed {X = Relation} held rose info.file (λ h answer. load h info ≡ answer) (λ (t : Relation). t.rows) (Err stop)
    → Loads held rose (info ∷ []) rows_brought (Err stop)
one_stops held rose info stop read = load_stops rows_brought (λ (t : Relation). t.rows) rows_brought held (Unit {0}) rose rose [] info [] None stop (λ up. up) (none_loaded rows_brought held (Unit {0}) None refl) read

-- the tables that lines append to, with one line more
appended_more : (catalog : CatalogImage) (said : List Reading) (reading : Reading) → appended catalog (said ++ reading ∷ []) ≡ appended catalog said ++ option_to_list (appended_at catalog reading)
appended_more catalog said reading = filter_map-append (appended_at catalog) said (reading ∷ []) ∙ ap (λ l. appended catalog said ++ l) (alone (appended_at catalog reading))
  where
    alone : (asked : Option TableInfo) → cons_option asked [] ≡ option_to_list asked
    alone (Some info) = refl
    alone None = refl

-- the lines of a script before a place, with what they say, and the tables that they bring
pub record ArePassed (X : Type 0) (tables : X → List Relation) (catalog : CatalogImage) (held : Option Held) (script : List ℕ) (from : ℕ) (added : X) : Type 0 where
  pub texts : List (List ℕ)
  pub said : List Reading
  pub cut : lines script ≡ texts ++ lines (drop from script)
  pub reads : AreReadings texts said
  pub loaded : Loads held (Unit {0}) (appended catalog said) (λ (x : X). each_rows (tables x)) (Ok added)
  pub kinds : each_kinds (tables added) ≡ each_table_kinds (appended catalog said)

-- before the first line
pub pass_begins : (X : Type 0) (tables : X → List Relation) (catalog : CatalogImage) (held : Option Held) (script : List ℕ) (added : X) → tables added ≡ [] → ArePassed X tables catalog held script 0 added
pass_begins X tables catalog held script added none = record {
  texts = [];
  said = [];
  cut = refl;
  reads = no_line;
  loaded = none_loaded (λ (x : X). each_rows (tables x)) held (Unit {0}) added (ap each_rows none);
  kinds = ap each_kinds none;
}

-- behind the next line
pub pass_on : (X : Type 0) (tables : X → List Relation) (catalog : CatalogImage) (held : Option Held) (script line : List ℕ) (from next : ℕ) (added more : X) (rose_here : Type 0) (reading : Reading) (brought : Option Relation)
    → ArePassed X tables catalog held script from added
    → lines (drop from script) ≡ line ∷ lines (drop next script) → IsReading line reading
    → Loads held rose_here (option_to_list (appended_at catalog reading)) rows_brought (Ok brought)
    → each_kinds (option_to_list brought) ≡ each_table_kinds (option_to_list (appended_at catalog reading))
    → tables more ≡ tables added ++ option_to_list brought
    → ArePassed X tables catalog held script next more
pass_on X tables catalog held script line from next added more rose_here reading brought passed cut is read kinds put = record {
  texts = passed.texts ++ line ∷ [];
  said = passed.said ++ reading ∷ [];
  cut = passed.cut ∙ ap (λ rest. passed.texts ++ rest) cut ∙ sym (append_assoc passed.texts (line ∷ []) (lines (drop next script)));
  reads = readings_more passed.texts passed.said line reading passed.reads is;
  loaded =
      subst (λ (infos : List TableInfo). Loads held (Unit {0}) infos (λ (x : X). each_rows (tables x)) (Ok more)) (sym (appended_more catalog passed.said reading))
      (load_then (λ (x : X). each_rows (tables x)) rows_brought (λ (x : X). each_rows (tables x)) held (Unit {0}) rose_here (Unit {0}) (appended catalog passed.said) (option_to_list (appended_at catalog reading)) added brought more passed.loaded read
      (ap each_rows put ∙ map-append (λ (rel : Relation). rel.rows) (tables added) (option_to_list brought)));
  kinds =
      ap each_kinds put ∙ map-append (λ (rel : Relation). rel.kinds) (tables added) (option_to_list brought)
      ∙ ap (λ k. k ++ each_kinds (option_to_list brought)) passed.kinds ∙ ap (λ k. each_table_kinds (appended catalog passed.said) ++ k) kinds
      ∙ sym (ap each_table_kinds (appended_more catalog passed.said reading) ∙ map-append table_kinds (appended catalog passed.said) (option_to_list (appended_at catalog reading)));
}

-- the file of the next line isn't loaded
pub pass_stops : (X : Type 0) (tables : X → List Relation) (catalog : CatalogImage) (held : Option Held) (script line : List ℕ) (from next : ℕ) (added : X) (rose_here rose : Type 0) (reading : Reading) (stop : Stop)
    → ArePassed X tables catalog held script from added
    → lines (drop from script) ≡ line ∷ lines (drop next script) → IsReading line reading → (rose_here → rose)
    → Loads held rose_here (option_to_list (appended_at catalog reading)) rows_brought (Err stop)
    → (said : List Reading) → AreReadings (lines script) said → Loads held rose (appended catalog said) (λ (x : X). each_rows (tables x)) (Err stop)
pass_stops X tables catalog held script line from next added rose_here rose reading stop passed cut is wide read said all =
    let whole : lines script ≡ (passed.texts ++ line ∷ []) ++ lines (drop next script) = passed.cut ∙ ap (λ rest. passed.texts ++ rest) cut ∙ sym (append_assoc passed.texts (line ∷ []) (lines (drop next script))) in
    let behind =
    rest_said (passed.texts ++ line ∷ []) (lines (drop next script)) (passed.said ++ reading ∷ []) said (readings_more passed.texts passed.said line reading passed.reads is) (subst (λ (l : List (List ℕ)). AreReadings l said) whole all) in
    let infos : appended catalog said ≡ (appended catalog passed.said ++ option_to_list (appended_at catalog reading)) ++ appended catalog behind.0 =
    ap (appended catalog) behind.1 ∙ filter_map-append (appended_at catalog) (passed.said ++ reading ∷ []) behind.0 ∙ ap (λ l. l ++ appended catalog behind.0) (appended_more catalog passed.said reading) in
    subst (λ (l : List TableInfo). Loads held rose l (λ (x : X). each_rows (tables x)) (Err stop)) (sym infos)
    (load_then_stops (λ (x : X). each_rows (tables x)) rows_brought (λ (x : X). each_rows (tables x)) held (Unit {0}) rose_here rose (appended catalog passed.said) (option_to_list (appended_at catalog reading)) (appended catalog behind.0) added stop wide passed.loaded read)

-- behind the last line
all_passed : (X : Type 0) (tables : X → List Relation) (catalog : CatalogImage) (held : Option Held) (script : List ℕ) (from : ℕ) (added : X) → (passed : ArePassed X tables catalog held script from added) → from ≡ length script → lines script ≡ passed.texts
all_passed X tables catalog held script from added passed end =
    let none : lines (drop from script) ≡ [] = ap lines (drop_all from script (omega (arith, end))) in
    passed.cut ∙ ap (λ l. passed.texts ++ l) none ∙ append-nil passed.texts

pub pass_ends : (X : Type 0) (tables : X → List Relation) (catalog : CatalogImage) (held : Option Held) (script : List ℕ) (from : ℕ) (added : X) (rose : Type 0) → ArePassed X tables catalog held script from added → from ≡ length script
    → (said : List Reading) → AreReadings (lines script) said → Loads held rose (appended catalog said) (λ (x : X). each_rows (tables x)) (Ok added)
pass_ends X tables catalog held script from added rose passed end said all =
    let whole = all_passed X tables catalog held script from added passed end in
    let same : passed.said ≡ said = same_readings passed.reads (subst (λ (l : List (List ℕ)). AreReadings l said) whole all) in
    whatever held (subst (λ (s : List Reading). Loads held (Unit {0}) (appended catalog s) (λ (x : X). each_rows (tables x)) (Ok added)) same passed.loaded)
  where
    whatever : (held : Option Held) → Loads held (Unit {0}) (appended catalog said) (λ (x : X). each_rows (tables x)) (Ok added) → Loads held rose (appended catalog said) (λ (x : X). each_rows (tables x)) (Ok added)
    whatever (Some held) is = is
    whatever None is = tt
