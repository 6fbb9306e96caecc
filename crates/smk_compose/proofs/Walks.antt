-- What a walk has made of a plan, from what it has made of its inputs.
use Rattle.std.proofs.{Common.{◌≡◌, ◌∙◌, ◌+◌, ◌<◌, ◌≤◌, ℕ, cond, nat_lt, List, [], ◌∷◌, length, map, drop, get_or, Option, Some, None, option_map, refl, sym, ap, ap₂, subst, arith, All, IfOk, IfErr, OnOk, Result, Ok, Err}, lemmas.List.{length-map, get_or-map}}
use Rattle.std.specs.{List.find, Option.option_or}
use Rattle.smk_base.specs.{PlanImage.{binary_of, unary_of}, Places.{Lists, upto}, Plans.{Unary, Binary, Expr, Leaf, Apply, Combine}, Rels.{Relation, kind_in, picked}, declared.book.need.Needed.Needed, declared.list.table_rids.Pick.Pick, declared.value.Kind.Kind}
use Rattle.smk_base.specs.declared.value.Kind.TheVariants as kinds
use Rattle.smk_base.proofs.Places.{map_upto, upto_below}
use Rattle.smk_model.specs.{Values.Row, Plain.{step1, step2, leaves, width, eval, whole, table_at}, Kinds.{Fits2, kinds1, kinds2}, Selection.{each_kinds, each_rows, plan_kinds, over, PlanFits, nodes, row_limit, first_full}, NodeFaults.{NodeFault, FullRows, FullPairs, asked_of, last_node_fault, first_fault_from}}
use Rattle.smk_model.proofs.{Bulk.bulk, NodeFaults.nothing_is_asked}
use Rattle.smk_body.specs.declared.keep.local.Side.{Side}
use Rattle.smk_table.specs.Wanted as wanted
use Rattle.smk_table.specs.{Wanted.{AreWide, among1, after1, among2, after2, below_left, below_right}, declared.wanted.NarrowedOne.NarrowedOne, declared.wanted.NarrowedTwo.NarrowedTwo}
use Rattle.smk_table.proofs.StepNarrows.{Narrows1, Narrows2, one_narrows, two_narrows}
use Rattle.smk_compose.specs.{KeptMaps.held_at, Through.{through, together_all, side1, side_left, side_right, Passes, Meets, map_at, has_heavy, pairs_fault, node_fault, scan_at, IsFirst}, Walk.{AreDirected, WholeWhereNeeded, IsWalked, IsWidth}, declared.fault.RunFault.RunFault, declared.fault.RunFault.TheVariants.{NoMemory, Rows, Pairs}, declared.kept_maps.KeptMap.KeptMap, declared.passing.Walked.Walked}
use Rattle.smk_compose.proofs.{Bridge.{whole_left, whole_right, rows_same, fault_same}, Finds.pairs_none, Lists.{rows_behind, kinds_behind}, Ones.{RowsWhereNeeded, node_same, one_held, one_all_pass}, Scans.{scan_held, light_scan}, Twos.{two_held, two_all_meet}, Wants.few_fault, Wide.eval_two}

-- a leaf

leaf_first : (table : ℕ) (L rest : List Relation) (leaf : Relation) → L ≡ leaf ∷ rest → leaf.rows ≡ eval (Leaf table) (each_rows L)
leaf_first table L rest leaf is = sym (ap (λ (l : List Relation). eval (Leaf table) (each_rows l)) is)

kinds_first : (table : ℕ) (L rest : List Relation) (leaf : Relation) → L ≡ leaf ∷ rest → leaf.kinds ≡ plan_kinds (Leaf table) (each_kinds L)
kinds_first table L rest leaf is = sym (ap (λ (l : List Relation). plan_kinds (Leaf table) (each_kinds l)) is)

leaf_none : (table : ℕ) (E tables : List (List Row)) (need : List Needed) (node : ℕ) (leaf : List Row) → AreDirected need → WholeWhereNeeded (Leaf table) E tables need → leaf ≡ eval (Leaf table) E → length leaf ≤ 1048576
    → map (scan_at table (length leaf)) need ≡ map (held_at (Leaf table) tables) need → first_fault_from (Leaf table) E (asked_of tables need) node ≡ None
leaf_none table E tables need node leaf all whole rows few held =
    fault_same (Leaf table) E tables need node all whole
    ∙ few_fault node (eval (Leaf table) E) (map (held_at (Leaf table) tables) need) (subst (λ (l : List Row). length l ≤ 1048576) rows few)
    ∙ pairs_none node (map (held_at (Leaf table) tables) need) (subst (λ (l : List KeptMap). find has_heavy l ≡ None) held (light_scan table (length leaf) need few))

pub leaf_walked : (plan : Expr) (cols : List ℕ) (table : ℕ) (L rest : List Relation) (tables : List (List Row)) (need : List Needed) (node : ℕ) (leaf : Relation) (made : Walked) → plan ≡ Leaf table
    → AreDirected need → WholeWhereNeeded plan (each_rows L) tables need → L ≡ leaf ∷ rest → made.rel ≡ record { kinds = map (kind_in leaf.kinds) cols; rows = map (picked cols) leaf.rows } → length leaf.rows ≤ 1048576 → made.kept ≡ map (scan_at table (length leaf.rows)) need
    → IsWalked plan cols L tables need node made
leaf_walked plan cols table L rest tables need node leaf made e all whole is rel few kept =
    let scanned : WholeWhereNeeded (Leaf table) (each_rows L) tables need = subst (λ (p : Expr). WholeWhereNeeded p (each_rows L) tables need) e whole in
    let rows : leaf.rows ≡ eval (Leaf table) (each_rows L) = leaf_first table L rest leaf is in
    let held : map (scan_at table (length leaf.rows)) need ≡ map (held_at (Leaf table) tables) need = scan_held table tables need leaf.rows (λ some. rows ∙ scanned some 0 (omega arith)) in
    let here : IsWalked (Leaf table) cols L tables need node made = record {
      rows = ap (λ (r : Relation). r.rows) rel ∙ ap (map (picked cols)) rows;
      kinds = ap (λ (r : Relation). r.kinds) rel ∙ ap (λ (ks : List Kind). map (kind_in ks) cols) (kinds_first table L rest leaf is);
      kept = kept ∙ held;
      none = leaf_none table (each_rows L) tables need node leaf.rows all scanned rows few held;
    } in
    subst (λ (p : Expr). IsWalked p cols L tables need node made) (sym e) here

-- what a node's fault is of its rows is their number
node_long : (node : ℕ) (R S : List Row) (maps : List KeptMap) → length R ≡ length S → node_fault node R maps ≡ node_fault node S maps
node_long node R S maps long = ap (λ n. cond (nat_lt row_limit n) (Some (FullRows node)) (pairs_fault node maps)) long

-- a step with one input

-- a step over the columns that it reads, and what is walked of its input
pub record IsOne (plan : Expr) (op : Unary) (input : Expr) (cols : List ℕ) (L : List Relation) (tables : List (List Row)) (need : List Needed) (n m : ℕ) (step : NarrowedOne) (below : Walked) : Type 0 where
  pub is : plan ≡ Apply op input
  pub directed : AreDirected need
  pub whole : WholeWhereNeeded input (each_rows L) tables need
  pub walked : IsWalked input step.read L tables need n below
  pub counted : m ≡ n + nodes input
  pub narrows : Narrows1 op (unary_of step.op) (plan_kinds input (each_kinds L)) below.rel.kinds (eval input (each_rows L)) below.rel.rows step.after cols

pub is_one : {plan : Expr} {op : Unary} {input : Expr} {cols : List ℕ} {L : List Relation} {tables : List (List Row)} {need : List Needed} {n m w : ℕ} {step : NarrowedOne} {read : List ℕ} {below : Walked} → plan ≡ Apply op input
    → AreDirected need → WholeWhereNeeded plan (each_rows L) tables need → PlanFits plan (each_kinds L) → All (λ c. c < length (plan_kinds plan (each_kinds L))) cols → IsWidth input (each_kinds L) (each_rows L) w
    → unary_of step.op ≡ among1 op step.read → step.read ≡ wanted.below op cols w → step.after ≡ after1 op step.read cols → read ≡ step.read → IsWalked input read L tables need n below → m ≡ n + nodes input
    → IsOne plan op input cols L tables need n m step below
is_one {plan} {op} {input} {cols} {L} {tables} {need} {n} {m} {w} {step} {read} {below} e all whole fits inside wide made reads after same is counted =
    let ks = plan_kinds input (each_kinds L) in
    let fit : PlanFits (Apply op input) (each_kinds L) = subst (λ (p : Expr). PlanFits p (each_kinds L)) e fits in
    let low : All (λ c. c < length (kinds1 op ks)) cols = subst (λ (p : Expr). All (λ c. c < length (plan_kinds p (each_kinds L))) cols) e inside in
    let walked : IsWalked input step.read L tables need n below = subst (λ (c : List ℕ). IsWalked input c L tables need n below) same is in
    let those : step.read ≡ wanted.below op cols (length ks) = reads ∙ ap (wanted.below op cols) wide.count in
    record {
      is = e;
      directed = all;
      whole = subst (λ (p : Expr). WholeWhereNeeded p (each_rows L) tables need) e whole;
      walked = walked;
      counted = counted;
      narrows = rw (walked.kinds, walked.rows, made, after, those) (one_narrows op ks (eval input (each_rows L)) cols fit.1 low);
    }

module _ {plan : Expr} {op : Unary} {input : Expr} {cols : List ℕ} {L : List Relation} {tables : List (List Row)} {need : List Needed} {n m : ℕ} {step : NarrowedOne} {below : Walked} (one : IsOne plan op input cols L tables need n m step below) where
  one_rows : RowsWhereNeeded input tables need (eval input (each_rows L))
  one_rows some = rows_same input (each_rows L) tables (one.whole some)

  one_side : side1 (unary_of step.op) below.rel.rows ≡ side1 op (eval input (each_rows L))
  one_side = ap₂ (λ (a b : Lists). let side : Side = record { back = Some a; fwd = Some b } in side) one.narrows.back one.narrows.fwd

  one_maps : map (through (side1 (unary_of step.op) below.rel.rows)) below.kept ≡ map (held_at (Apply op input) tables) need
  one_maps = ap (λ (s : Side). map (through s) below.kept) one_side ∙ one_held op input tables need (eval input (each_rows L)) below.kept one_rows one.walked.kept

  pub one_passes : All (Passes (side1 (unary_of step.op) below.rel.rows)) below.kept
  one_passes = subst (λ (s : Side). All (Passes s) below.kept) (sym one_side) (one_all_pass op input tables need (eval input (each_rows L)) below.kept one_rows one.walked.kept)

  one_node : node_fault m (step1 (unary_of step.op) below.rel.rows) (map (through (side1 (unary_of step.op) below.rel.rows)) below.kept) ≡ first_fault_from plan (each_rows L) (asked_of tables need) n
  one_node =
      node_long m _ _ (map (through (side1 (unary_of step.op) below.rel.rows)) below.kept) one.narrows.long
      ∙ node_same one.counted (let e : step1 op (eval input (each_rows L)) ≡ eval (Apply op input) (each_rows L) = refl in e) one_maps
      ∙ sym (fault_same (Apply op input) (each_rows L) tables need (n + nodes input) one.directed one.whole)
      ∙ ap (λ (o : Option NodeFault). option_or o (last_node_fault (Apply op input) (each_rows L) (asked_of tables need) (n + nodes input))) (sym one.walked.none)
      ∙ ap (λ (p : Expr). first_fault_from p (each_rows L) (asked_of tables need) n) (sym one.is)

  pub one_walked : (r : Result Walked RunFault) → IfOk r (λ made. made.rel.rows ≡ map (picked step.after) (step1 (unary_of step.op) below.rel.rows)) → IfOk r (λ made. made.rel.kinds ≡ map (kind_in (kinds1 (unary_of step.op) below.rel.kinds)) step.after)
      → IfOk r (λ made. made.kept ≡ map (through (side1 (unary_of step.op) below.rel.rows)) below.kept)
      → OnOk r (node_fault m (step1 (unary_of step.op) below.rel.rows) (map (through (side1 (unary_of step.op) below.rel.rows)) below.kept) ≡ None)
      → IfOk r (IsWalked plan cols L tables need n)
  one_walked (Err e) rows kinds kept none = tt
  one_walked (Ok made) rows kinds kept none = record {
    rows = rows ∙ one.narrows.rows ∙ ap (λ (p : Expr). map (picked cols) (eval p (each_rows L))) (sym one.is);
    kinds = kinds ∙ one.narrows.kinds ∙ ap (λ (p : Expr). map (kind_in (plan_kinds p (each_kinds L))) cols) (sym one.is);
    kept = kept ∙ one_maps ∙ ap (λ (p : Expr). map (held_at p tables) need) (sym one.is);
    none = sym one_node ∙ none;
  }

  pub one_fault : (r : Result Walked RunFault) → IfErr r (λ e. IsFirst e (node_fault m (step1 (unary_of step.op) below.rel.rows) (map (through (side1 (unary_of step.op) below.rel.rows)) below.kept)))
      → IfErr r (λ e. IsFirst e (first_fault_from plan (each_rows L) (asked_of tables need) n))
  one_fault r fault = subst (λ (f : Option NodeFault). IfErr r (λ e. IsFirst e f)) one_node fault

-- the leaves of the right input

rows_right : (a : Expr) (L M : List Relation) → M ≡ drop (width a) L → drop (width a) (each_rows L) ≡ each_rows M
rows_right a L M rest = sym (ap each_rows rest ∙ rows_behind (width a) L)

kinds_right : (a : Expr) (L M : List Relation) → M ≡ drop (width a) L → drop (width a) (each_kinds L) ≡ each_kinds M
kinds_right a L M rest = sym (ap each_kinds rest ∙ kinds_behind (width a) L)

pub fits_right : (op : Binary) (a b : Expr) (L M : List Relation) → PlanFits (Combine op a b) (each_kinds L) → M ≡ drop (width a) L → PlanFits b (each_kinds M)
fits_right op a b L M fits rest = subst (PlanFits b) (kinds_right a L M rest) fits.1

pub needed_right : (op : Binary) (a b : Expr) (L M : List Relation) (tables : List (List Row)) (need : List Needed) → WholeWhereNeeded (Combine op a b) (each_rows L) tables need → M ≡ drop (width a) L → WholeWhereNeeded b (each_rows M) tables need
needed_right op a b L M tables need whole rest = subst (λ (F : List (List Row)). WholeWhereNeeded b F tables need) (rows_right a L M rest) (λ some. whole_right op a b (each_rows L) tables (whole some))

pub width_right : (a b : Expr) (L M : List Relation) (middle v : ℕ) → middle ≡ width a → M ≡ drop (width a) L → IsWidth b (drop middle (each_kinds L)) (drop middle (each_rows L)) v → IsWidth b (each_kinds M) (each_rows M) v
width_right a b L M middle v next rest is =
    let kinds : drop middle (each_kinds L) ≡ each_kinds M = ap (λ n. drop n (each_kinds L)) next ∙ kinds_right a L M rest in
    let rows : drop middle (each_rows L) ≡ each_rows M = ap (λ n. drop n (each_rows L)) next ∙ rows_right a L M rest in
    subst (λ (E : List (List Row)). IsWidth b (each_kinds M) E v) rows (subst (λ (K : List (List Kind)). IsWidth b K (drop middle (each_rows L)) v) kinds is)

pub combine_same : (op : Binary) {a c b d : Expr} → a ≡ c → b ≡ d → Combine op a b ≡ Combine op c d
combine_same op e f = rw (e, f) refl

-- a step with two inputs, of which the right one is over the leaves behind those of the left one

-- a step over the columns that it reads, and what is walked of its inputs
pub record IsTwo (plan : Expr) (op : Binary) (a b : Expr) (cols : List ℕ) (L M : List Relation) (tables : List (List Row)) (need : List Needed) (n m k : ℕ) (step : NarrowedTwo) (l r : Walked) : Type 0 where
  pub is : plan ≡ Combine op a b
  pub directed : AreDirected need
  pub whole : WholeWhereNeeded (Combine op a b) (each_rows L) tables need
  pub rest : M ≡ drop (width a) L
  pub counted : m ≡ n + nodes a
  pub number : k ≡ m + nodes b
  pub left : IsWalked a step.left L tables need n l
  pub right : IsWalked b step.right M tables need m r
  pub narrows : Narrows2 op (binary_of step.op) (plan_kinds a (each_kinds L)) (plan_kinds b (each_kinds M)) l.rel.kinds r.rel.kinds (eval a (each_rows L)) (eval b (each_rows M)) l.rel.rows r.rel.rows step.after cols

pub is_two : {plan : Expr} {op : Binary} {a b : Expr} {cols : List ℕ} {L M : List Relation} {tables : List (List Row)} {need : List Needed} {n m k w v middle : ℕ} {step : NarrowedTwo} {lefts rights : List ℕ} {l r : Walked} → plan ≡ Combine op a b
    → AreDirected need → WholeWhereNeeded plan (each_rows L) tables need → PlanFits plan (each_kinds L) → All (λ c. c < length (plan_kinds plan (each_kinds L))) cols
    → IsWidth a (each_kinds L) (each_rows L) w → middle ≡ width a → IsWidth b (drop middle (each_kinds L)) (drop middle (each_rows L)) v
    → binary_of step.op ≡ among2 op w step.left step.right → step.left ≡ below_left op cols w → step.right ≡ below_right op cols w v → step.after ≡ after2 op w step.left step.right cols
    → M ≡ drop (width a) L → m ≡ n + nodes a → lefts ≡ step.left → IsWalked a lefts L tables need n l → rights ≡ step.right → IsWalked b rights M tables need m r → k ≡ m + nodes b
    → IsTwo plan op a b cols L M tables need n m k step l r
is_two {plan} {op} {a} {b} {cols} {L} {M} {tables} {need} {n} {m} {k} {w} {v} {middle} {step} {lefts} {rights} {l} {r} e all whole fits inside wide next wide_r made left right after rest counted same is same_of_r is_r number =
    let ls = plan_kinds a (each_kinds L) in
    let rs = plan_kinds b (each_kinds M) in
    let same_k : drop (width a) (each_kinds L) ≡ each_kinds M = kinds_right a L M rest in
    let walked : IsWalked a step.left L tables need n l = subst (λ (c : List ℕ). IsWalked a c L tables need n l) same is in
    let walked_r : IsWalked b step.right M tables need m r = subst (λ (c : List ℕ). IsWalked b c M tables need m r) same_of_r is_r in
    let behind : IsWidth b (each_kinds M) (each_rows M) v = width_right a b L M middle v next rest wide_r in
    let fit : PlanFits (Combine op a b) (each_kinds L) = subst (λ (p : Expr). PlanFits p (each_kinds L)) e fits in
    let fit2 : Fits2 op ls rs = subst (λ (K : List (List Kind)). Fits2 op ls (plan_kinds b K)) same_k fit.2 in
    let low : All (λ c. c < length (kinds2 op ls rs)) cols =
    subst (λ (K : List (List Kind)). All (λ c. c < length (kinds2 op ls (plan_kinds b K))) cols) same_k (subst (λ (p : Expr). All (λ c. c < length (plan_kinds p (each_kinds L))) cols) e inside) in
    let wide_a : AreWide (length ls) (eval a (each_rows L)) = subst (λ n. AreWide n (eval a (each_rows L))) wide.count wide.wide in
    let wide_b : AreWide (length rs) (eval b (each_rows M)) = subst (λ n. AreWide n (eval b (each_rows M))) behind.count behind.wide in
    let those : step.left ≡ below_left op cols (length ls) = left ∙ ap (below_left op cols) wide.count in
    let those_r : step.right ≡ below_right op cols (length ls) (length rs) = right ∙ ap₂ (below_right op cols) wide.count behind.count in
    record {
      is = e;
      directed = all;
      whole = subst (λ (p : Expr). WholeWhereNeeded p (each_rows L) tables need) e whole;
      rest = rest;
      counted = counted;
      number = number;
      left = walked;
      right = walked_r;
      narrows = rw (walked.kinds, walked.rows, walked_r.kinds, walked_r.rows, made, after, those, those_r, wide.count) (two_narrows op ls rs (eval a (each_rows L)) (eval b (each_rows M)) cols fit2 wide_a wide_b low);
    }

-- the first fault behind that of the left input, which has none
pub fault_right : (op : Binary) (a b : Expr) (cols : List ℕ) (L M : List Relation) (tables : List (List Row)) (need : List Needed) (n m : ℕ) (l : Walked) → M ≡ drop (width a) L → m ≡ n + nodes a → IsWalked a cols L tables need n l
    → first_fault_from (Combine op a b) (each_rows L) (asked_of tables need) n ≡ option_or (first_fault_from b (each_rows M) (asked_of tables need) m) (last_node_fault (Combine op a b) (each_rows L) (asked_of tables need) (n + nodes a + nodes b))
fault_right op a b cols L M tables need n m l rest counted is =
    let A = asked_of tables need in
    let last = last_node_fault (Combine op a b) (each_rows L) A (n + nodes a + nodes b) in
    ap (λ (o : Option NodeFault). option_or o (option_or (first_fault_from b (drop (width a) (each_rows L)) A (n + nodes a)) last)) is.none
    ∙ ap (λ (F : List (List Row)). option_or (first_fault_from b F A (n + nodes a)) last) (rows_right a L M rest)
    ∙ ap (λ k. option_or (first_fault_from b (each_rows M) A k) last) (sym counted)

module _ {plan : Expr} {op : Binary} {a b : Expr} {cols : List ℕ} {L M : List Relation} {tables : List (List Row)} {need : List Needed} {n m k : ℕ} {step : NarrowedTwo} {l r : Walked} (two : IsTwo plan op a b cols L M tables need n m k step l r) where
  left_rows : RowsWhereNeeded a tables need (eval a (each_rows L))
  left_rows some = rows_same a (each_rows L) tables (whole_left op a b (each_rows L) tables (two.whole some))

  right_rows : RowsWhereNeeded b tables need (eval b (each_rows M))
  right_rows some = rows_same b (each_rows M) tables (needed_right op a b L M tables need two.whole two.rest some)

  pub left_side : side_left (binary_of step.op) l.rel.rows r.rel.rows ≡ side_left op (eval a (each_rows L)) (eval b (each_rows M))
  left_side = ap₂ (λ (x y : Lists). let side : Side = record { back = Some x; fwd = Some y } in side) two.narrows.left_back two.narrows.left_fwd

  pub right_side : side_right (binary_of step.op) l.rel.rows r.rel.rows ≡ side_right op (eval a (each_rows L)) (eval b (each_rows M))
  right_side = ap₂ (λ (x y : Lists). let side : Side = record { back = Some x; fwd = Some y } in side) two.narrows.right_back two.narrows.right_fwd

  two_maps : together_all (side_left (binary_of step.op) l.rel.rows r.rel.rows) (side_right (binary_of step.op) l.rel.rows r.rel.rows) l.kept r.kept ≡ map (held_at (Combine op a b) tables) need
  two_maps = ap₂ (λ (x y : Side). together_all x y l.kept r.kept) left_side right_side ∙ two_held op a b tables need (eval a (each_rows L)) (eval b (each_rows M)) l.kept r.kept left_rows right_rows two.left.kept two.right.kept

  pub two_meet : (i : ℕ) → i < length l.kept → Meets (side_left (binary_of step.op) l.rel.rows r.rel.rows) (side_right (binary_of step.op) l.rel.rows r.rel.rows) (map_at l.kept i) (map_at r.kept i)
  two_meet i low =
      let there = two_all_meet op a b tables need (eval a (each_rows L)) (eval b (each_rows M)) l.kept r.kept left_rows right_rows two.left.kept two.right.kept i low in
      subst (λ (s : Side). Meets s (side_right (binary_of step.op) l.rel.rows r.rel.rows) (map_at l.kept i) (map_at r.kept i)) (sym left_side)
      (subst (λ (s : Side). Meets (side_left op (eval a (each_rows L)) (eval b (each_rows M))) s (map_at l.kept i) (map_at r.kept i)) (sym right_side) there)

  two_rows : step2 op (eval a (each_rows L)) (eval b (each_rows M)) ≡ eval (Combine op a b) (each_rows L)
  two_rows = ap (λ (E : List (List Row)). step2 op (eval a (each_rows L)) (eval b E)) (sym (rows_right a L M two.rest)) ∙ sym (eval_two op a b (each_rows L))

  two_node : node_fault k (step2 (binary_of step.op) l.rel.rows r.rel.rows) (together_all (side_left (binary_of step.op) l.rel.rows r.rel.rows) (side_right (binary_of step.op) l.rel.rows r.rel.rows) l.kept r.kept)
      ≡ first_fault_from plan (each_rows L) (asked_of tables need) n
  two_node =
      let last = last_node_fault (Combine op a b) (each_rows L) (asked_of tables need) (n + nodes a + nodes b) in
      let counted = two.counted in
      let number = two.number in
      node_long k _ _ (together_all (side_left (binary_of step.op) l.rel.rows r.rel.rows) (side_right (binary_of step.op) l.rel.rows r.rel.rows) l.kept r.kept) two.narrows.long
      ∙ node_same (let e : k ≡ n + nodes a + nodes b = omega (arith, counted, number) in e) two_rows two_maps
      ∙ sym (fault_same (Combine op a b) (each_rows L) tables need (n + nodes a + nodes b) two.directed two.whole)
      ∙ ap (λ (o : Option NodeFault). option_or o last) (sym two.right.none)
      ∙ sym (fault_right op a b step.left L M tables need n m l two.rest two.counted two.left)
      ∙ ap (λ (p : Expr). first_fault_from p (each_rows L) (asked_of tables need) n) (sym two.is)

  pub two_walked : (w : Result Walked RunFault) → IfOk w (λ made. made.rel.rows ≡ map (picked step.after) (step2 (binary_of step.op) l.rel.rows r.rel.rows))
      → IfOk w (λ made. made.rel.kinds ≡ map (kind_in (kinds2 (binary_of step.op) l.rel.kinds r.rel.kinds)) step.after)
      → IfOk w (λ made. made.kept ≡ together_all (side_left (binary_of step.op) l.rel.rows r.rel.rows) (side_right (binary_of step.op) l.rel.rows r.rel.rows) l.kept r.kept)
      → OnOk w (node_fault k (step2 (binary_of step.op) l.rel.rows r.rel.rows) (together_all (side_left (binary_of step.op) l.rel.rows r.rel.rows) (side_right (binary_of step.op) l.rel.rows r.rel.rows) l.kept r.kept) ≡ None)
      → IfOk w (IsWalked plan cols L tables need n)
  two_walked (Err e) rows kinds kept none = tt
  two_walked (Ok made) rows kinds kept none = record {
    rows = rows ∙ two.narrows.rows ∙ ap (map (picked cols)) two_rows ∙ ap (λ (p : Expr). map (picked cols) (eval p (each_rows L))) (sym two.is);
    kinds = kinds ∙ two.narrows.kinds ∙ ap (λ (K : List (List Kind)). map (kind_in (kinds2 op (plan_kinds a (each_kinds L)) (plan_kinds b K))) cols) (sym (kinds_right a L M two.rest))
        ∙ ap (λ (p : Expr). map (kind_in (plan_kinds p (each_kinds L))) cols) (sym two.is);
    kept = kept ∙ two_maps ∙ ap (λ (p : Expr). map (held_at p tables) need) (sym two.is);
    none = sym two_node ∙ none;
  }

  pub two_fault : (w : Result Walked RunFault)
      → IfErr w (λ e. IsFirst e (node_fault k (step2 (binary_of step.op) l.rel.rows r.rel.rows) (together_all (side_left (binary_of step.op) l.rel.rows r.rel.rows) (side_right (binary_of step.op) l.rel.rows r.rel.rows) l.kept r.kept)))
      → IfErr w (λ e. IsFirst e (first_fault_from plan (each_rows L) (asked_of tables need) n))
  two_fault w fault = subst (λ (f : Option NodeFault). IfErr w (λ e. IsFirst e f)) two_node fault

-- the first fault of an input is that of the plan, where there is none before it
pub first_of_right : (e : RunFault) (o last : Option NodeFault) → IsFirst e o → IsFirst e (option_or o last)
first_of_right e (Some x) last first = first
first_of_right (Rows node) None last first = absurd (cc first)
first_of_right (Pairs node table) None last first = absurd (cc first)
first_of_right NoMemory None last first = tt

-- a whole plan, all its columns

pub all_within : (w n : ℕ) (cols : List ℕ) → cols ≡ upto w → w ≡ n → All (λ c. c < n) cols
all_within w n cols all count = subst (λ (c : List ℕ). All (λ i. i < n) c) (sym (all ∙ ap upto count)) (upto_below n)

pub all_rows : (plan : Expr) (cols : List ℕ) (L : List Relation) (tables : List (List Row)) (need : List Needed) (w : ℕ) (r : Result Walked RunFault) → cols ≡ upto w → IsWidth plan (each_kinds L) (each_rows L) w → IfOk r (IsWalked plan cols L tables need 0)
    → IfOk r (λ run. run.rel.rows ≡ eval plan (each_rows L))
all_rows plan cols L tables need w (Err e) all wide is = tt
all_rows plan cols L tables need w (Ok run) all wide is = is.rows ∙ ap (λ (c : List ℕ). map (picked c) (eval plan (each_rows L))) all ∙ bulk.whole w (eval plan (each_rows L)) wide.wide

pub all_kinds : (plan : Expr) (cols : List ℕ) (L : List Relation) (tables : List (List Row)) (need : List Needed) (w : ℕ) (r : Result Walked RunFault) → cols ≡ upto w → IsWidth plan (each_kinds L) (each_rows L) w → IfOk r (IsWalked plan cols L tables need 0)
    → IfOk r (λ run. run.rel.kinds ≡ plan_kinds plan (each_kinds L))
all_kinds plan cols L tables need w (Err e) all wide is = tt
all_kinds plan cols L tables need w (Ok run) all wide is =
    let ks = plan_kinds plan (each_kinds L) in
    is.kinds ∙ ap (λ (c : List ℕ). map (kind_in ks) c) (all ∙ ap upto wide.count) ∙ map_upto ks kinds.Text

pub whole_leaves : (plan : Expr) (E tables : List (List Row)) (need : List Needed) → E ≡ whole plan tables → WholeWhereNeeded plan E tables need
whole_leaves plan E tables need is some j l = ap (λ (F : List (List Row)). get_or F j []) is ∙ get_or-map (table_at tables) (leaves plan) j 0 [] l

pub whole_long : (plan : Expr) (L : List Relation) (tables : List (List Row)) → each_rows L ≡ whole plan tables → length L ≡ width plan
whole_long plan L tables is = sym (length-map L (λ rel. rel.rows)) ∙ ap (length {A = List Row}) is ∙ length-map (leaves plan) (table_at tables)

pub over_whole : (plan : Expr) (tables : List (List Row)) (picks : List Pick) → picks ≡ [] → over plan tables picks ≡ whole plan tables
over_whole plan tables picks none = ap (over plan tables) none

-- where nothing is needed

full_only : (o : Option ℕ) (f : NodeFault) (node : ℕ) → option_map FullRows o ≡ Some f → f ≡ FullRows node → o ≡ Some node
full_only None f node e is = absurd (cc)
full_only (Some x) f node e is = cc

full_never : (o : Option ℕ) (node table : ℕ) → option_map FullRows o ≡ Some (FullPairs node table) → ⊥
full_never None node table e = absurd (cc)
full_never (Some x) node table e = absurd (cc)

full_none : (o : Option ℕ) → option_map FullRows o ≡ None → o ≡ None
full_none None e = refl
full_none (Some x) e = absurd (cc)

pub unasked_few : (plan : Expr) (E : List (List Row)) → first_fault_from plan E [] 0 ≡ None → first_full plan E ≡ None
unasked_few plan E none = full_none (first_full plan E) (sym (nothing_is_asked plan E) ∙ none)

pub unasked_many : (plan : Expr) (E : List (List Row)) (node : ℕ) → first_fault_from plan E [] 0 ≡ Some (FullRows node) → first_full plan E ≡ Some node
unasked_many plan E node fault = full_only (first_full plan E) (FullRows node) node (sym (nothing_is_asked plan E) ∙ fault) refl

pub unasked_pairs : (plan : Expr) (E : List (List Row)) (node table : ℕ) → first_fault_from plan E [] 0 ≡ Some (FullPairs node table) → ⊥
unasked_pairs plan E node table fault = full_never (first_full plan E) node table (sym (nothing_is_asked plan E) ∙ fault)
