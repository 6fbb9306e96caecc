-- The maps of a plan whose last step has one input, from those of its input.
use Rattle.std.proofs.{Common.{◌≡◌, ◌∙◌, ◌<◌, ℕ, Bool, true, false, ◌&&◌, List, [], ◌∷◌, length, map, get_or, Some, refl, sym, ap, subst, arith, All}, lemmas.List.length-map, lemmas.List.Elements.All-map}
use Rattle.smk_base.specs.{Places.{Lists, has, upto, composed}, Plans.{Unary, Expr, Apply}, declared.book.need.Needed.Needed}
use Rattle.smk_model.specs.{Values.Row, Plain.{step1, leaves}, Lineage.{places, from1}, Locals.{back1, fwd1}, Composed.{rows_over, backs, forwards}}
use Rattle.smk_base.proofs.Places.{map_map, length_upto}
use Rattle.smk_model.proofs.Composed.{backs_compose, forwards_compose, lists_stand}
use Rattle.smk_body.specs.Locals.{wanted}
use Rattle.smk_compose.specs.{KeptMaps.held_at, Through.{chained, Chains, through, side1, Passes, node_fault}, declared.kept_maps.KeptMap.KeptMap}
use Rattle.smk_compose.proofs.Wants.{mk_same, map_agree}

-- one map

pub first_wants : (w : Bool) (B X Y : Lists) → composed B X ≡ Y → chained (Some B) (wanted w X) ≡ wanted w Y
first_wants true B X Y e = ap Some e
first_wants false B X Y e = refl

pub last_wants : (w : Bool) (X F Y : Lists) → composed X F ≡ Y → chained (wanted w X) (Some F) ≡ wanted w Y
last_wants true X F Y e = ap Some e
last_wants false X F Y e = refl

pub first_fits : (w : Bool) (B X : Lists) → B.bound ≡ length X.lists → Chains (Some B) (wanted w X)
first_fits true B X h = h
first_fits false B X h = tt

pub last_fits : (w : Bool) (X F : Lists) → X.bound ≡ length F.lists → Chains (wanted w X) (Some F)
last_fits true X F h = h
last_fits false X F h = tt

pub node_same : {m n : ℕ} {R S : List Row} {A B : List KeptMap} → m ≡ n → R ≡ S → A ≡ B → node_fault m R A ≡ node_fault n S B
node_same p q r = rw (p, q, r) refl

through_is : (op : Unary) (input : Expr) (tables : List (List Row)) (n : Needed) → through (side1 op (rows_over input tables)) (held_at input tables n) ≡ held_at (Apply op input) tables n
through_is op input tables n = mk_same refl
    (first_wants (n.dir.back && has (leaves input) n.table) (back1 op (rows_over input tables)) (backs input tables n.table) (backs (Apply op input) tables n.table) (sym (backs_compose.one op input tables n.table)))
    (last_wants (n.dir.fwd && has (leaves input) n.table) (forwards input tables n.table) (fwd1 op (rows_over input tables)) (forwards (Apply op input) tables n.table) (sym (forwards_compose.one op input tables n.table)))

pub maps_through : (op : Unary) (input : Expr) (tables : List (List Row)) (need : List Needed) → map (through (side1 op (rows_over input tables))) (map (held_at input tables) need) ≡ map (held_at (Apply op input) tables) need
maps_through op input tables need =
    map_map (through (side1 op (rows_over input tables))) (held_at input tables) need
    ∙ map_agree (λ n. through (side1 op (rows_over input tables)) (held_at input tables n)) (held_at (Apply op input) tables) need (λ i d l. through_is op input tables (get_or need i d))

passes_at : (op : Unary) (input : Expr) (tables : List (List Row)) (n : Needed) → Passes (side1 op (rows_over input tables)) (held_at input tables n)
passes_at op input tables n =
    let L = rows_over input tables in
    let long = lists_stand.backs_long input tables n.table in
    let size : length (fwd1 op L).lists ≡ length L = length-map (upto (length L)) (λ i. places (λ o. has (from1 op L o) i) (length (step1 op L))) ∙ length_upto (length L) in
    record {
      back = first_fits (n.dir.back && has (leaves input) n.table) (back1 op L) (backs input tables n.table) (sym long);
      fwd = last_fits (n.dir.fwd && has (leaves input) n.table) (forwards input tables n.table) (fwd1 op L) (sym size);
    }

-- where something is needed, these are the rows of a plan over whole tables
abbrev pub RowsWhereNeeded : Expr → List (List Row) → List Needed → List Row → Type 0
RowsWhereNeeded plan tables need L = 0 < length need → L ≡ rows_over plan tables

pub one_held : (op : Unary) (input : Expr) (tables : List (List Row)) (need : List Needed) (L : List Row) (below : List KeptMap) → RowsWhereNeeded input tables need L → below ≡ map (held_at input tables) need
    → map (through (side1 op L)) below ≡ map (held_at (Apply op input) tables) need
one_held op input tables [] L below rows maps = ap (map (through (side1 op L))) maps
one_held op input tables (n ∷ need) L below rows maps =
    ap (λ (M : List Row). map (through (side1 op M)) below) (rows (omega arith)) ∙ ap (map (through (side1 op (rows_over input tables)))) maps ∙ maps_through op input tables (n ∷ need)

pub one_all_pass : (op : Unary) (input : Expr) (tables : List (List Row)) (need : List Needed) (L : List Row) (below : List KeptMap) → RowsWhereNeeded input tables need L → below ≡ map (held_at input tables) need → All (Passes (side1 op L)) below
one_all_pass op input tables [] L below rows maps = subst (All (Passes (side1 op L))) (sym maps) (λ k d l. absurd (omega arith))
one_all_pass op input tables (n ∷ need) L below rows maps =
    let here : All (Passes (side1 op (rows_over input tables))) (map (held_at input tables) (n ∷ need)) = All-map (Passes (side1 op (rows_over input tables))) (held_at input tables) (n ∷ need) (λ k d l. passes_at op input tables (get_or (n ∷ need) k d)) in
    subst (λ (M : List Row). All (Passes (side1 op M)) below) (sym (rows (omega arith))) (subst (λ (l : List KeptMap). All (Passes (side1 op (rows_over input tables))) l) (sym maps) here)
