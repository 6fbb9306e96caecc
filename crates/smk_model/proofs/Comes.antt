-- Lineage over whole tables by the plan's cases, without the numbers of leaves, and that it is the annotated meaning.
use Rattle.std.proofs.{Common.{◌≡◌, ℕ, ◌+◌, ◌<◌, Bool, List, [], ◌++◌, length, refl, ap, sym, ◌∙◌, arith, get_or, ◌&&◌, ◌||◌, nat_eq, inl, inr}, lemmas.List.{length-append, get_or_append_left, get_or-append-add, get_or-map}, lemmas.Bool.{cases_Bool, eqb-true}}
use Rattle.std.specs.List.{list_any}
use Rattle.smk_base.specs.Plans.{Binary, Expr, Leaf, Apply, Combine}
use Rattle.smk_model.specs.{Values.Row, Plain.{step1, step2, leaves, width, eval_from, whole}, Lineage.{upto, row_at, from1, from_left, from_right}, Annotated.{Marked, no_mark, mark_at, ann_from, reaches, relates}, Composed.{table_at, rows_over}, LineageLaws.united}
use Rattle.smk_base.proofs.Places.{get_or_map_upto, has_upto, has_below}
use Rattle.smk_model.proofs.{Anys.{and_false, any_same, any_agree, any_and, any_or_and, any_swap}, Annotated.step_by_step, CuiWidom.{from1_below, left_below, right_below}}

-- the rows over whole tables
abbrev pub rows_in : Expr → List (List Row) → List Row
rows_in (Leaf table) tables = table_at tables table
rows_in (Apply op input) tables = step1 op (rows_in input tables)
rows_in (Combine op left right) tables = step2 op (rows_in left tables) (rows_in right tables)

-- row o of a plan comes from row rid of a table
abbrev pub comes : Expr → List (List Row) → ℕ → ℕ → ℕ → Bool
comes (Leaf scanned) tables table o rid = nat_eq scanned table && nat_eq o rid
comes (Apply op input) tables table o rid = list_any (λ i. comes input tables table i rid) (from1 op (rows_in input tables) o)
comes (Combine op left right) tables table o rid =
    list_any (λ i. comes left tables table i rid) (from_left op (rows_in left tables) (rows_in right tables) o)
    || list_any (λ i. comes right tables table i rid) (from_right op (rows_in left tables) (rows_in right tables) o)

-- the leaves of a part of a plan are those of the plan from the k-th on, and have whole tables
abbrev pub IsPart : List ℕ → List (List Row) → List (List Row) → Expr → ℕ → Type 0
IsPart scans E tables plan k = (j : ℕ) → j < width plan → (k + j < length scans) × (get_or scans (k + j) 0 ≡ get_or (leaves plan) j 0) × (get_or E (k + j) [] ≡ table_at tables (get_or (leaves plan) j 0))

part_left : (scans : List ℕ) (E tables : List (List Row)) (op : Binary) (a b : Expr) (k : ℕ) → IsPart scans E tables (Combine op a b) k → IsPart scans E tables a k
part_left scans E tables op a b k part j l =
    let all = part j (omega (arith, l, length-append (leaves a) (leaves b))) in
    let same : get_or (leaves a ++ leaves b) j 0 ≡ get_or (leaves a) j 0 = get_or_append_left (leaves a) (leaves b) 0 j l in
    (all.0, all.1 ∙ same, all.2 ∙ ap (table_at tables) same)

part_right : (scans : List ℕ) (E tables : List (List Row)) (op : Binary) (a b : Expr) (k : ℕ) → IsPart scans E tables (Combine op a b) k → IsPart scans E tables b (k + width a)
part_right scans E tables op a b k part j l =
    let all = part (width a + j) (omega (arith, l, length-append (leaves a) (leaves b))) in
    let e : (k + width a) + j ≡ k + (width a + j) = omega arith in
    let same : get_or (leaves a ++ leaves b) (width a + j) 0 ≡ get_or (leaves b) j 0 = get_or-append-add (leaves a) (leaves b) j 0 in
    (omega (arith, all.0), ap (λ i. get_or scans i 0) e ∙ all.1 ∙ same, ap (λ i. get_or E i []) e ∙ all.2 ∙ ap (table_at tables) same)

pub part_whole : (plan : Expr) (tables : List (List Row)) → IsPart (leaves plan) (whole plan tables) tables plan 0
part_whole plan tables j l =
    let e : 0 + j ≡ j = omega arith in
    (omega arith, ap (λ i. get_or (leaves plan) i 0) e, ap (λ i. get_or (whole plan tables) i []) e ∙ get_or-map (table_at tables) (leaves plan) j 0 [] l)

-- rows

pub rows_part : (plan : Expr) (scans : List ℕ) (E tables : List (List Row)) (k : ℕ) → IsPart scans E tables plan k → eval_from plan E k ≡ rows_in plan tables
rows_part (Leaf table) scans E tables k part =
    let zero_more : k + 0 ≡ k = omega arith in
    ap (λ i. get_or E i []) (sym zero_more) ∙ (part 0 (omega arith)).2
rows_part (Apply op input) scans E tables k part = ap (step1 op) (rows_part input scans E tables k part)
rows_part (Combine op a b) scans E tables k part =
    rw (rows_part a scans E tables k (part_left scans E tables op a b k part), rows_part b scans E tables (k + width a) (part_right scans E tables op a b k part)) refl

pub rows_whole : (plan : Expr) (tables : List (List Row)) → rows_over plan tables ≡ rows_in plan tables
rows_whole plan tables = rows_part plan (leaves plan) (whole plan tables) tables 0 (part_whole plan tables)

-- sets

reach_scan : (scans : List ℕ) (scanned table k o rid : ℕ) → k < length scans → get_or scans k 0 ≡ scanned
    → list_any (λ j. nat_eq (get_or scans j 0) table && (nat_eq k j && nat_eq o rid)) (upto (length scans)) ≡ (nat_eq scanned table && nat_eq o rid)
reach_scan scans scanned table k o rid low is =
    let each : (j : ℕ) → (nat_eq (get_or scans j 0) table && (nat_eq k j && nat_eq o rid)) ≡ (nat_eq k j && (nat_eq scanned table && nat_eq o rid)) = λ j. elim (cases_Bool (nat_eq k j)) [
      | inl p ↦ (let e : get_or scans j 0 ≡ scanned = ap (λ i. get_or scans i 0) (sym (eqb-true k j p)) ∙ is in rw (p, e) refl)
      | inr p ↦ rw p (and_false (nat_eq (get_or scans j 0) table))
    ] in
    any_same _ (λ j. nat_eq k j && (nat_eq scanned table && nat_eq o rid)) (upto (length scans)) each
    ∙ any_and (nat_eq k) (nat_eq scanned table && nat_eq o rid) (upto (length scans))
    ∙ ap (λ b. b && (nat_eq scanned table && nat_eq o rid)) (has_upto (length scans) k low)

-- the set of a row reaches what the row comes from
pub reaches_part : (plan : Expr) (scans : List ℕ) (E tables : List (List Row)) (k table : ℕ) → IsPart scans E tables plan k → (o rid : ℕ) → o < length (eval_from plan E k)
    → reaches scans table (mark_at (ann_from plan E k) o).1 rid ≡ comes plan tables table o rid
reaches_part (Leaf scanned) scans E tables k table part o rid h =
    let here = part 0 (omega arith) in
    let zero_more : k + 0 ≡ k = omega arith in
    ap (λ (m : Marked). reaches scans table m.1 rid) (get_or_map_upto (λ i. (row_at (get_or E k []) i, λ leaf r. nat_eq k leaf && nat_eq i r)) (length (get_or E k [])) o no_mark h)
    ∙ reach_scan scans scanned table k o rid (omega (arith, here.0)) (ap (λ i. get_or scans i 0) (sym zero_more) ∙ here.1)
reaches_part (Apply op input) scans E tables k table part o rid h =
    let L = eval_from input E k in
    let A = from1 op L o in
    let is : L ≡ rows_in input tables = rows_part input scans E tables k part in
    any_same _ (λ j. nat_eq (get_or scans j 0) table && united (ann_from input E k) A j rid) (upto (length scans)) (λ j. ap (λ b. nat_eq (get_or scans j 0) table && b) (step_by_step.one op input E k o j rid h))
    ∙ any_swap (λ j. nat_eq (get_or scans j 0) table) (λ i j. (mark_at (ann_from input E k) i).1 j rid) (upto (length scans)) A
    ∙ any_agree (λ i. reaches scans table (mark_at (ann_from input E k) i).1 rid) (λ i. comes input tables table i rid) A
    (λ i q. reaches_part input scans E tables k table part i rid (has_below (length L) A (from1_below op L o h) i q))
    ∙ ap (λ z. list_any (λ i. comes input tables table i rid) (from1 op z o)) is
reaches_part (Combine op a b) scans E tables k table part o rid h =
    let L = eval_from a E k in
    let R = eval_from b E (k + width a) in
    let ls = ann_from a E k in
    let rs = ann_from b E (k + width a) in
    let A = from_left op L R o in
    let B = from_right op L R o in
    let c = λ (j : ℕ). nat_eq (get_or scans j 0) table in
    let part_a = part_left scans E tables op a b k part in
    let part_b = part_right scans E tables op a b k part in
    let is_a : L ≡ rows_in a tables = rows_part a scans E tables k part_a in
    let is_b : R ≡ rows_in b tables = rows_part b scans E tables (k + width a) part_b in
    let left : list_any (λ i. reaches scans table (mark_at ls i).1 rid) A ≡ list_any (λ i. comes a tables table i rid) (from_left op (rows_in a tables) (rows_in b tables) o) =
    any_agree (λ i. reaches scans table (mark_at ls i).1 rid) (λ i. comes a tables table i rid) A
    (λ i q. reaches_part a scans E tables k table part_a i rid (has_below (length L) A (left_below op L R o h) i q))
    ∙ ap (λ z. list_any (λ i. comes a tables table i rid) (from_left op z R o)) is_a
    ∙ ap (λ z. list_any (λ i. comes a tables table i rid) (from_left op (rows_in a tables) z o)) is_b in
    let right : list_any (λ i. reaches scans table (mark_at rs i).1 rid) B ≡ list_any (λ i. comes b tables table i rid) (from_right op (rows_in a tables) (rows_in b tables) o) =
    any_agree (λ i. reaches scans table (mark_at rs i).1 rid) (λ i. comes b tables table i rid) B
    (λ i q. reaches_part b scans E tables (k + width a) table part_b i rid (has_below (length R) B (right_below op L R o h) i q))
    ∙ ap (λ z. list_any (λ i. comes b tables table i rid) (from_right op z R o)) is_a
    ∙ ap (λ z. list_any (λ i. comes b tables table i rid) (from_right op (rows_in a tables) z o)) is_b in
    any_same _ (λ j. c j && (united ls A j rid || united rs B j rid)) (upto (length scans)) (λ j. ap (λ z. c j && z) (step_by_step.two op a b E k o j rid h))
    ∙ any_or_and c (λ j. united ls A j rid) (λ j. united rs B j rid) (upto (length scans))
    ∙ rw (any_swap c (λ i j. (mark_at ls i).1 j rid) (upto (length scans)) A, any_swap c (λ i j. (mark_at rs i).1 j rid) (upto (length scans)) B, left, right) refl

-- row o of a plan over whole tables comes from what the annotated meaning relates it to
pub relates_comes : (plan : Expr) (tables : List (List Row)) (table o rid : ℕ) → o < length (rows_over plan tables) → relates plan (whole plan tables) table o rid ≡ comes plan tables table o rid
relates_comes plan tables table o rid h = reaches_part plan (leaves plan) (whole plan tables) tables 0 table (part_whole plan tables) o rid h
