-- What a view is over a longer table.
use Rattle.std.proofs.{Common.{◌≡◌, ℕ, ◌≤◌, Bool, true, false, List, [], ◌∷◌, length, map, refl, ap, sym, ◌∙◌, subst, arith, nat_eq, Option, None, option_map, inl, inr}, lemmas.Bool.{cases_Bool, eqb-true, and_parts}}
use Rattle.smk_base.specs.{CatalogImage.CatalogImage, Places.{Lists, empty_lists, has}, Plans.Expr, Rels.Relation, declared.book.need.Needed.Needed}
use Rattle.smk_model.specs.{Appends.scans, Composed.{backs, forwards, rows_over}, Growth.is_growing, GrowthLaws.AgreeAtLeaves, LineageLaws.selected_table, NodeFaults.NodeFault, Opening.{view_fault, fault_of_view}, Plain.{leaves, table_at, whole}, Selection.{rows_in, row_limit}, Session.{Workbook, view_at}, Values.Row, Workload.needs}
use Rattle.smk_model.proofs.{Composed.lists_stand, NeverFull.growing_never_full, Thin.growing_is_thin, Unscanned.unscanned_stays}
use Rattle.smk_base.proofs.Places.{has_single}
use Rattle.smk_body.specs.Locals.{wanted}
use Rattle.smk_compose.specs.{KeptMaps.kept_at, declared.kept_maps.KeptMap.KeptMap, declared.kept_maps.Run.Run}
use Rattle.smk_session.specs.{Opened.opened, Making.newer}
use Rattle.smk_grow.specs.Renewed.{chains, fresh_view, kept_view, moved_kept, moved_view}

-- tables that are the same but for one
abbrev pub SameBut : ℕ → List (List Row) → List (List Row) → Type 0
SameBut t A B = (u : ℕ) → nat_eq u t ≡ false → table_at A u ≡ table_at B u

same_leaves : (plan : Expr) (t : ℕ) (A B : List (List Row)) → SameBut t A B → has (leaves plan) t ≡ false → AgreeAtLeaves plan A B
same_leaves plan t A B same none = unscanned_stays.other plan t A B none same

-- lineage to another table is the same

abbrev map_of : ℕ → Option Lists → Option Lists → KeptMap
map_of table back fwd = record { table = table; back = back; fwd = fwd }

same_kept : (plan : Expr) (t : ℕ) (A B : List (List Row)) (need : Needed) → SameBut t A B → has (leaves plan) t ≡ false → nat_eq need.table t ≡ false → kept_at plan A need ≡ kept_at plan B need
same_kept plan t A B need same none ne =
    let agree = same_leaves plan t A B same none in
    let long : length (table_at A need.table) ≡ length (table_at B need.table) = ap (length {A = Row}) (same need.table ne) in
    rw (unscanned_stays.backs plan A B need.table agree long, unscanned_stays.forwards plan A B need.table agree long) refl

abbrev run_of : Relation → List KeptMap → Run
run_of rel kept = record { rel = rel; kept = kept }

abbrev rel_at : CatalogImage → ℕ → List Row → Relation
rel_at catalog v rows = record { kinds = (view_at catalog v).kinds; rows = rows }

abbrev pub book_over : CatalogImage → List (List Row) → Workbook
book_over catalog tables = record { catalog = catalog; tables = tables }

-- with what takes its place a view is what it means, whatever the tables were before

pub newer_is : (t : ℕ) (before book : Workbook) (v : ℕ) → newer (fresh_view t book v) (kept_view t before book v) ≡ opened book v
newer_is t before book v = elim (cases_Bool (scans book.catalog t v)) [
  | inl held ↦ rw held refl
  | inr failed ↦ rw failed refl
]

-- a view that doesn't scan the table, over more or fewer rows of it: its lineage to it is empty lists, and all else is the same

emptied : (b : Bool) (lists : Lists) (made : Lists) → option_map (λ (map : Lists). made) (wanted b lists) ≡ wanted b made
emptied true lists made = refl
emptied false lists made = refl

moved_one : (plan : Expr) (t : ℕ) (A B : List (List Row)) (need : Needed) → SameBut t A B → has (leaves plan) t ≡ false
    → moved_kept t (length (rows_over plan A)) (length (table_at B t)) (kept_at plan A need) ≡ kept_at plan B need
moved_one plan t A B need same none = elim (cases_Bool (nat_eq need.table t)) [
  | inl held ↦
      (let is : need.table ≡ t = eqb-true need.table t held in
      let rows : length (rows_over plan A) ≡ length (rows_over plan B) = ap (length {A = Row}) (unscanned_stays.rows plan A B (same_leaves plan t A B same none)) in
      let size : length (table_at B t) ≡ length (table_at B need.table) = ap (λ (u : ℕ). length (table_at B u)) (sym is) in
      let none_there : has (leaves plan) need.table ≡ false = subst (λ (u : ℕ). has (leaves plan) u ≡ false) (sym is) none in
      let back = emptied need.dir.back (backs plan A need.table) (empty_lists (length (rows_over plan A)) (length (table_at B t)))
      ∙ ap (wanted need.dir.back) (ap (λ (n : ℕ). empty_lists n (length (table_at B t))) rows ∙ ap (empty_lists (length (rows_over plan B))) size ∙ sym (lists_stand.unscanned_backs plan B need.table none_there)) in
      let fwd = emptied need.dir.fwd (forwards plan A need.table) (empty_lists (length (table_at B t)) (length (rows_over plan A)))
      ∙ ap (wanted need.dir.fwd) (ap (λ (n : ℕ). empty_lists (length (table_at B t)) n) rows ∙ ap (λ (n : ℕ). empty_lists n (length (rows_over plan B))) size ∙ sym (lists_stand.unscanned_forwards plan B need.table none_there)) in
      rw held (ap (λ (l : Option Lists). map_of need.table l (option_map (λ (map : Lists). empty_lists (length (table_at B t)) (length (rows_over plan A))) (wanted need.dir.fwd (forwards plan A need.table)))) back
      ∙ ap (map_of need.table (wanted need.dir.back (backs plan B need.table))) fwd))
  | inr failed ↦ rw failed (same_kept plan t A B need same none failed)
]

moved_all : (plan : Expr) (t : ℕ) (A B : List (List Row)) (needs : List Needed) → SameBut t A B → has (leaves plan) t ≡ false
    → map (moved_kept t (length (rows_over plan A)) (length (table_at B t))) (map (kept_at plan A) needs) ≡ map (kept_at plan B) needs
moved_all plan t A B [] same none = refl
moved_all plan t A B (need ∷ more) same none = rw (moved_one plan t A B need same none, moved_all plan t A B more same none) refl

pub moved_is : (catalog : CatalogImage) (t v size : ℕ) (A B : List (List Row)) → SameBut t A B → scans catalog t v ≡ false → size ≡ length (table_at B t)
    → moved_view t size (opened (book_over catalog A) v) ≡ opened (book_over catalog B) v
moved_is catalog t v size A B same none is =
    let plan = (view_at catalog v).plan in
    ap (λ (n : ℕ). moved_view t n (opened (book_over catalog A) v)) is
    ∙ ap (run_of (rel_at catalog v (rows_over plan A))) (moved_all plan t A B (needs catalog v) same none)
    ∙ ap (λ (rows : List Row). run_of (rel_at catalog v rows) (map (kept_at plan B) (needs catalog v))) (unscanned_stays.rows plan A B (same_leaves plan t A B same none))

-- a growing chain: it scans the table alone, and is never too big

pub chains_scan : (catalog : CatalogImage) (t v : ℕ) → chains catalog t v ≡ true → scans catalog t v ≡ true
chains_scan catalog t v h = (and_parts (scans catalog t v) (is_growing (view_at catalog v).plan) h).0

pub chains_grow : (catalog : CatalogImage) (t v : ℕ) → chains catalog t v ≡ true → is_growing (view_at catalog v).plan ≡ true
chains_grow catalog t v h = (and_parts (scans catalog t v) (is_growing (view_at catalog v).plan) h).1

pub chain_table : (catalog : CatalogImage) (t v : ℕ) → chains catalog t v ≡ true → t ≡ selected_table (view_at catalog v).plan
chain_table catalog t v h =
    let plan = (view_at catalog v).plan in
    has_single (selected_table plan) t (subst (λ (l : List ℕ). has l t ≡ true) (growing_is_thin.scans plan (chains_grow catalog t v h)) (chains_scan catalog t v h))

pub chain_looks : (book : Workbook) (t v : ℕ) → chains book.catalog t v ≡ true → rows_in (whole (view_at book.catalog v).plan book.tables) ≡ length (table_at book.tables t)
chain_looks book t v h =
    let plan = (view_at book.catalog v).plan in
    ap (λ (l : List ℕ). rows_in (map (table_at book.tables) l)) (growing_is_thin.scans plan (chains_grow book.catalog t v h))
    ∙ ap (λ (u : ℕ). rows_in (table_at book.tables u ∷ [])) (sym (chain_table book.catalog t v h))
    ∙ omega arith

pub chain_never_full : (book : Workbook) (t v : ℕ) → chains book.catalog t v ≡ true → length (table_at book.tables t) ≤ row_limit → view_fault book v ≡ None
chain_never_full book t v h few =
    let plan = (view_at book.catalog v).plan in
    let thin : length (table_at book.tables (selected_table plan)) ≤ row_limit = subst (λ (u : ℕ). length (table_at book.tables u) ≤ row_limit) (chain_table book.catalog t v h) few in
    let none : fault_of_view book v ≡ None = growing_never_full plan book.tables (needs book.catalog v) (chains_grow book.catalog t v h) thin in
    ap (option_map (λ (fault : NodeFault). record { view = v; fault = fault })) none
