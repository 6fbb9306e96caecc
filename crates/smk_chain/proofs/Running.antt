-- The runs of a growing chain over the parts of its table, put together, are its run over the table.
use Rattle.std.proofs.{Common.{◌≡◌, ◌∙◌, ℕ, ◌+◌, ◌<◌, ◌≤◌, true, List, [], ◌++◌, length, map, refl, sym, ap, subst, arith, All, get_or, nat_eq, Option, Some, None}, lemmas.List.{length-map, length-append, get_or-map}}
use Rattle.smk_base.specs.{declared.value.Kind.Kind, declared.book.plan.Agg.Agg, declared.book.need.Needed.Needed, declared.rel.TheConstants.ROW_LIMIT, Plans.{Grouping, Expr, Apply}, Rels.{Relation, RowFits, kind_in}}
use Rattle.smk_keys.specs.Classes.{ClassesImage}
use Rattle.smk_model.specs.{Values.Row, Composed.{table_at, rows_over}, Kinds.{AggFits, kind_of_agg}, LineageLaws.selected_table, Selection.{each_kinds, each_rows, PlanFits, ScansFit, leaf_kinds, plan_kinds}, Tables.IsBase, Growth.{is_chain, is_growing, all_over_parts}}
use Rattle.smk_compose.specs.{declared.kept_maps.KeptMap.KeptMap, declared.kept_maps.Run.Run, KeptMaps.{NeedFits, kept_at}, Through.{map_at, no_need}}
use Rattle.smk_chain.specs.{Parts.{AreMaps, MapsFit}, Runs.{run_over, tables_before, tables_behind, chain_run, group_run, joint_groups, joint_classes, CanJoin, CanRegroup}}
use Rattle.smk_chain.proofs.{FitRows.growing_fits, Joining.{IsPart, scans_below, rows_few, chain_fits, chain_map, chain_rows, group_fits, group_map, group_rows, fits_at, all_maps}, Levels.{chain_kinds, over_fits}}

-- a table that is there
pub rows_there : (T : List Relation) (t : ℕ) (rel : Relation) → t < length T → rel ≡ get_or T t rel → rel.rows ≡ table_at (each_rows T) t
rows_there T t rel low is = ap (λ (r : Relation). r.rows) is ∙ sym (get_or-map (λ (r : Relation). r.rows) T t rel [] low)

pub kinds_there : (T : List Relation) (t : ℕ) (rel : Relation) → t < length T → rel ≡ get_or T t rel → rel.kinds ≡ get_or (each_kinds T) t []
kinds_there T t rel low is = ap (λ (r : Relation). r.kinds) is ∙ sym (get_or-map (λ (r : Relation). r.kinds) T t rel [] low)

-- what the runs of both parts are
pub record AreRuns (plan : Expr) (K : List (List Kind)) (tables : List (List Row)) (len : ℕ) (need : List Needed) (old new : Run) : Type 0 where
  pub part : IsPart plan tables len
  pub old_is : old ≡ run_over plan K (tables_before tables (selected_table plan) len) need
  pub new_is : new ≡ run_over plan K (tables_behind tables (selected_table plan) len) need

few_of : (plan : Expr) (K : List (List Kind)) (tables : List (List Row)) (len : ℕ) (need : List Needed) (old new : Run) → AreRuns plan K tables len need old new → length old.rel.rows + length new.rel.rows ≤ ROW_LIMIT
few_of plan K tables len need old new h = omega (arith, rows_few plan tables len h.part, ap (λ (r : Run). length r.rel.rows) h.old_is, ap (λ (r : Run). length r.rel.rows) h.new_is)

run_same : {ks : List Kind} {xs ys : List Row} {m n : List KeptMap} → xs ≡ ys → m ≡ n → (let r : Run = record { rel = record { kinds = ks; rows = xs }; kept = m } in r) ≡ record { rel = record { kinds = ks; rows = ys }; kept = n }
run_same p q = rw (p, q) refl

-- a chain without a grouping

chain_fit : (plan : Expr) (K : List (List Kind)) (tables : List (List Row)) (len : ℕ) (need : List Needed) (old new : Run) → AreRuns plan K tables len need old new → is_chain plan ≡ true
    → (i : ℕ) → i < length need → nat_eq (get_or need i no_need).table (selected_table plan) ≡ true → MapsFit None (get_or need i no_need) (map_at old.kept i) (map_at new.kept i)
chain_fit plan K tables len need old new h chain =
    let t = selected_table plan in
    fits_at plan (tables_before tables t len) (tables_behind tables t len) None t need old.kept new.kept (ap (λ (r : Run). r.kept) h.old_is) (ap (λ (r : Run). r.kept) h.new_is) (chain_fits plan tables len h.part chain)

chain_run_is : (plan : Expr) (K : List (List Kind)) (tables : List (List Row)) (len : ℕ) (need : List Needed) (old new : Run) → AreRuns plan K tables len need old new → is_chain plan ≡ true
    → chain_run (selected_table plan) tables need old new ≡ run_over plan K tables need
chain_run_is plan K tables len need old new h chain =
    let t = selected_table plan in
    let before = tables_before tables t len in
    let behind = tables_behind tables t len in
    let rows = chain_rows plan tables len h.part chain in
    ap (λ (r : Run). chain_run t tables need r new) h.old_is ∙ ap (chain_run t tables need (run_over plan K before need)) h.new_is
    ∙ run_same rows (all_maps plan tables before behind None (length (rows_over plan before ++ rows_over plan behind)) need (map (kept_at plan before) need) (map (kept_at plan behind) need) h.part.growing refl refl (ap length rows) (chain_map plan tables len h.part chain))

-- a chain that ends in a grouping

module _ (keys : List ℕ) (aggs : List Agg) (input : Expr) (K : List (List Kind)) (tables : List (List Row)) (len : ℕ) (need : List Needed) (old new : Run) (h : AreRuns (Apply (Grouping keys aggs) input) K tables len need old new) where
  abbrev plan : Expr
  plan = Apply (Grouping keys aggs) input

  abbrev t : ℕ
  t = selected_table input

  abbrev before : List (List Row)
  before = tables_before tables t len

  abbrev behind : List (List Row)
  behind = tables_behind tables t len

  both_is : old.rel.rows ++ new.rel.rows ≡ rows_over plan before ++ rows_over plan behind
  both_is = ap (λ (r : Run). r.rel.rows ++ new.rel.rows) h.old_is ∙ ap (λ (r : Run). rows_over plan before ++ r.rel.rows) h.new_is

  kinds_is : old.rel.kinds ≡ plan_kinds plan (leaf_kinds plan K)
  kinds_is = ap (λ (r : Run). r.rel.kinds) h.old_is

  group_each : PlanFits plan (leaf_kinds plan K) → All IsBase (get_or K t []) → All (AggFits old.rel.kinds) (all_over_parts (length keys) aggs)
  group_each fits base =
      let ks = plan_kinds input (leaf_kinds input K) in
      subst (λ (z : List Kind). All (AggFits z) (all_over_parts (length keys) aggs)) (sym kinds_is) (over_fits ks keys aggs (chain_kinds input K h.part.growing base) fits.1.each)

  group_columns : length keys + length aggs ≡ length old.rel.kinds
  group_columns =
      let ks = plan_kinds input (leaf_kinds input K) in
      omega (arith, ap length kinds_is, length-append (map (kind_in ks) keys) (map (kind_of_agg ks) aggs), length-map keys (kind_in ks), length-map aggs (kind_of_agg ks))

  group_rows_fit : PlanFits plan (leaf_kinds plan K) → All (RowFits (get_or K t [])) (table_at tables t) → All (RowFits old.rel.kinds) (joint_groups (length keys) aggs (old.rel.rows ++ new.rel.rows))
  group_rows_fit fits rows =
      subst (λ (z : List Kind). All (RowFits z) (joint_groups (length keys) aggs (old.rel.rows ++ new.rel.rows))) (sym kinds_is)
      (subst (λ (z : List Row). All (RowFits (plan_kinds plan (leaf_kinds plan K))) (joint_groups (length keys) aggs z)) (sym both_is)
      (subst (All (RowFits (plan_kinds plan (leaf_kinds plan K)))) (sym (group_rows keys aggs input tables len h.part)) (growing_fits plan K tables h.part.growing fits rows h.part.few)))

  group_fit : (i : ℕ) → i < length need → nat_eq (get_or need i no_need).table t ≡ true → MapsFit (Some (joint_classes (length keys) (old.rel.rows ++ new.rel.rows))) (get_or need i no_need) (map_at old.kept i) (map_at new.kept i)
  group_fit i low here =
      subst (λ (z : List Row). MapsFit (Some (joint_classes (length keys) z)) (get_or need i no_need) (map_at old.kept i) (map_at new.kept i)) (sym both_is)
      (fits_at plan before behind (Some (joint_classes (length keys) (rows_over plan before ++ rows_over plan behind))) t need old.kept new.kept (ap (λ (r : Run). r.kept) h.old_is) (ap (λ (r : Run). r.kept) h.new_is) (group_fits keys aggs input tables len h.part) i low here)

  group_run_is : group_run (length keys) aggs t tables need old new ≡ run_over plan K tables need
  group_run_is =
      let rows = group_rows keys aggs input tables len h.part in
      let both = rows_over plan before ++ rows_over plan behind in
      ap (λ (r : Run). group_run (length keys) aggs t tables need r new) h.old_is ∙ ap (group_run (length keys) aggs t tables need (run_over plan K before need)) h.new_is
      ∙ run_same rows (all_maps plan tables before behind (Some (joint_classes (length keys) both)) (length (joint_groups (length keys) aggs both)) need (map (kept_at plan before) need) (map (kept_at plan behind) need) h.part.growing refl refl (ap length rows) (group_map keys aggs input tables len h.part))

-- what a caller has of its tables

pub runs_of : (plan : Expr) (T : List Relation) (table : ℕ) (rel : Relation) (len : ℕ) (need : List Needed) (old new : Run) → table ≡ selected_table plan → rel ≡ get_or T table rel → is_growing plan ≡ true → ScansFit (length T) plan
    → len ≤ length (table_at (each_rows T) (selected_table plan)) → length rel.rows ≤ ROW_LIMIT
    → old ≡ run_over plan (each_kinds T) (tables_before (each_rows T) (selected_table plan) len) need → new ≡ run_over plan (each_kinds T) (tables_behind (each_rows T) (selected_table plan) len) need
    → AreRuns plan (each_kinds T) (each_rows T) len need old new
runs_of plan T table rel len need old new e is growing scans within few o w =
    let low : table < length T = rw e (scans_below plan (length T) scans) in
    let rows : rel.rows ≡ table_at (each_rows T) (selected_table plan) = rows_there T table rel low is ∙ ap (table_at (each_rows T)) e in
    record {
      part = record {
        growing = growing;
        there = omega (arith, scans_below plan (length T) scans, length-map T (λ (r : Relation). r.rows));
        within = within;
        few = omega (arith, few, ap length rows);
      };
      old_is = o;
      new_is = w;
    }

-- both runs can be put together, by other names of the needs and of the table
joins_of : (groups : Option ClassesImage) (plan : Expr) (K : List (List Kind)) (tables : List (List Row)) (len count : ℕ) (need : List Needed) (old new : Run) {other : List Needed} {table : ℕ} → other ≡ need → table ≡ selected_table plan → NeedFits count need → AreRuns plan K tables len need old new
    → ((i : ℕ) → i < length need → nat_eq (get_or need i no_need).table (selected_table plan) ≡ true → MapsFit groups (get_or need i no_need) (map_at old.kept i) (map_at new.kept i))
    → CanJoin groups table count other old new
joins_of groups plan K tables len count need old new {other} {table} p q known h fit =
    let t = selected_table plan in
    let olds = kept_at plan (tables_before tables t len) in
    let news = kept_at plan (tables_behind tables t len) in
    let are : AreMaps groups t count need old.kept new.kept = record {
      known = known;
      old_long = ap (λ (r : Run). length r.kept) h.old_is ∙ length-map need olds;
      new_long = ap (λ (r : Run). length r.kept) h.new_is ∙ length-map need news;
      fit = fit;
    } in
    record {
      kinds = ap (λ (r : Run). r.rel.kinds) h.new_is ∙ sym (ap (λ (r : Run). r.rel.kinds) h.old_is);
      few = few_of plan K tables len need old new h;
      maps = subst (λ n. AreMaps groups n count other old.kept new.kept) (sym q) (subst (λ (z : List Needed). AreMaps groups t count z old.kept new.kept) (sym p) are);
    }

-- what a chain without a grouping asks and gives
pub chain_joins : (plan : Expr) (T : List Relation) (len : ℕ) (need : List Needed) (old new : Run) {other : List Needed} {table : ℕ} → other ≡ need → table ≡ selected_table plan → NeedFits (length T) need → AreRuns plan (each_kinds T) (each_rows T) len need old new → is_chain plan ≡ true
    → CanJoin None table (length T) other old new
chain_joins plan T len need old new p q known h chain = joins_of None plan (each_kinds T) (each_rows T) len (length T) need old new p q known h (chain_fit plan (each_kinds T) (each_rows T) len need old new h chain)

pub chain_gives : (plan : Expr) (T : List Relation) (len : ℕ) (need : List Needed) (old new : Run) {other : List Needed} {table : ℕ} → other ≡ need → table ≡ selected_table plan → AreRuns plan (each_kinds T) (each_rows T) len need old new → is_chain plan ≡ true
    → chain_run table (each_rows T) other old new ≡ run_over plan (each_kinds T) (each_rows T) need
chain_gives plan T len need old new {other} {table} p q h chain =
    ap (λ n. chain_run n (each_rows T) other old new) q ∙ ap (λ (z : List Needed). chain_run (selected_table plan) (each_rows T) z old new) p ∙ chain_run_is plan (each_kinds T) (each_rows T) len need old new h chain

-- what a chain that ends in a grouping asks and gives, by other names of the needs and of the table
pub record GroupGoals (plan : Expr) (keys : List ℕ) (aggs : List Agg) (table : ℕ) (T : List Relation) (need other : List Needed) (old new : Run) : Type 0 where
  pub asks : CanRegroup (length keys) aggs table (length T) other old new
  pub run : group_run (length keys) aggs table (each_rows T) other old new ≡ run_over plan (each_kinds T) (each_rows T) need

module _ (keys : List ℕ) (aggs : List Agg) (input : Expr) (T : List Relation) (len : ℕ) (need other : List Needed) (table : ℕ) (old new : Run) where
  goals_at : other ≡ need → table ≡ selected_table input → NeedFits (length T) need → PlanFits (Apply (Grouping keys aggs) input) (leaf_kinds (Apply (Grouping keys aggs) input) (each_kinds T))
      → All IsBase (get_or (each_kinds T) (selected_table input) []) → All (RowFits (get_or (each_kinds T) (selected_table input) [])) (table_at (each_rows T) (selected_table input)) → AreRuns (Apply (Grouping keys aggs) input) (each_kinds T) (each_rows T) len need old new
      → GroupGoals (Apply (Grouping keys aggs) input) keys aggs table T need other old new
  goals_at p q known fits base rows h =
      let K = each_kinds T in
      let tables = each_rows T in
      record {
        asks = record {
          joins = joins_of (Some (joint_classes (length keys) (old.rel.rows ++ new.rel.rows))) (Apply (Grouping keys aggs) input) K tables len (length T) need old new p q known h (group_fit keys aggs input K tables len need old new h);
          some = fits.1.some;
          columns = group_columns keys aggs input K tables len need old new h;
          each = group_each keys aggs input K tables len need old new h fits base;
          fits = group_rows_fit keys aggs input K tables len need old new h fits rows;
        };
        run = ap (λ n. group_run (length keys) aggs n tables other old new) q ∙ ap (λ (z : List Needed). group_run (length keys) aggs (selected_table input) tables z old new) p ∙ group_run_is keys aggs input K tables len need old new h;
      }

pub group_goals : (plan : Expr) (keys : List ℕ) (aggs : List Agg) (input : Expr) (T : List Relation) (table : ℕ) (rel : Relation) (len : ℕ) (need other : List Needed) (old new : Run) → plan ≡ Apply (Grouping keys aggs) input → other ≡ need → table ≡ selected_table plan → rel ≡ get_or T table rel
    → NeedFits (length T) need → ScansFit (length T) plan → PlanFits plan (leaf_kinds plan (each_kinds T)) → All IsBase rel.kinds → All (RowFits rel.kinds) rel.rows → AreRuns plan (each_kinds T) (each_rows T) len need old new
    → GroupGoals plan keys aggs table T need other old new
group_goals plan keys aggs input T table rel len need other old new e p at is known scans fits base rows h =
    let K = each_kinds T in
    let tables = each_rows T in
    let low : table < length T = rw at (scans_below plan (length T) scans) in
    let kinds : rel.kinds ≡ get_or K (selected_table plan) [] = kinds_there T table rel low is ∙ ap (λ n. get_or K n []) at in
    let all : rel.rows ≡ table_at tables (selected_table plan) = rows_there T table rel low is ∙ ap (table_at tables) at in
    let fit : All (RowFits (get_or K (selected_table plan) [])) (table_at tables (selected_table plan)) = subst (λ (z : List Kind). All (RowFits z) (table_at tables (selected_table plan))) kinds (subst (All (RowFits rel.kinds)) all rows) in
    subst (λ (z : Expr). table ≡ selected_table z → PlanFits z (leaf_kinds z K) → All IsBase (get_or K (selected_table z) []) → All (RowFits (get_or K (selected_table z) [])) (table_at tables (selected_table z)) → AreRuns z K tables len need old new → GroupGoals z keys aggs table T need other old new) (sym e)
    (λ q. goals_at keys aggs input T len need other table old new p q known) at fits (subst (All IsBase) kinds base) fit h
