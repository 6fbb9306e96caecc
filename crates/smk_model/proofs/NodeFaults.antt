-- The first fault of a plan's nodes: the first of all, and what it is where no table is asked for.
use Rattle.std.proofs.{Common.{◌≡◌, ◌∙◌, ◌+◌, ℕ, suc, Bool, true, false, cond, List, [], ◌∷◌, ◌++◌, length, map, drop, Option, Some, None, option_map, refl, sym, ap, arith, inl, inr}, lemmas.Bool.cases_Bool, lemmas.List.length-append, lemmas.Iterator.Adapters.position_from-zero}
use Rattle.std.specs.{List.{position_from, find, filter}, Option.option_or}
use Rattle.smk_base.specs.Plans.{Expr, Leaf, Apply, Combine}
use Rattle.smk_model.specs.{Values.Row, Plain.{width, eval}, Selection.{nodes, node_rows, is_full}, NodeFaults.{NodeFault, FullRows, FullPairs, AskedTable, is_crowded, last_node_fault, first_fault_from, faults_at, all_faults, first_of, FirstOfAll, NothingAsked}}

pub position_from-append : (t : List Row → Bool) (n : ℕ) (xs ys : List (List Row)) → position_from t n (xs ++ ys) ≡ option_or (position_from t n xs) (position_from t (n + length xs) ys)
position_from-append t n [] ys = let e : n + 0 ≡ n = omega arith in rw e refl
position_from-append t n (x ∷ xs) ys = elim (cases_Bool (t x)) [
  | inl e ↦ rw e refl
  | inr e ↦ let f : n + suc (length xs) ≡ (n + 1) + length xs = omega arith in rw (e, f) (position_from-append t (n + 1) xs ys)
]

pub nodes_long : (plan : Expr) (E : List (List Row)) → length (node_rows plan E) ≡ nodes plan
nodes_long (Leaf table) E = refl
nodes_long (Apply op input) E = omega (arith, nodes_long input E, length-append (node_rows input E) (eval (Apply op input) E ∷ []))
nodes_long (Combine op a b) E =
    let all = node_rows b (drop (width a) E) ++ eval (Combine op a b) E ∷ [] in
    omega (arith, nodes_long a E, nodes_long b (drop (width a) E), length-append (node_rows a E) all, length-append (node_rows b (drop (width a) E)) (eval (Combine op a b) E ∷ []))

pub either : {a b c d : Option NodeFault} → a ≡ c → b ≡ d → option_or a b ≡ option_or c d
either p q = rw (p, q) refl

cond_mapped : (b : Bool) (node : ℕ) → cond b (Some (FullRows node)) None ≡ option_map FullRows (cond b (Some node) None)
cond_mapped true node = refl
cond_mapped false node = refl

or_mapped : (a b : Option ℕ) → option_or (option_map FullRows a) (option_map FullRows b) ≡ option_map FullRows (option_or a b)
or_mapped None b = refl
or_mapped (Some x) b = refl

-- the first list that is too long, from a number on
abbrev full_from : ℕ → List (List Row) → Option NodeFault
full_from n lists = option_map FullRows (position_from is_full n lists)

full_from-append : (n m : ℕ) (xs ys : List (List Row)) → length xs ≡ m → full_from n (xs ++ ys) ≡ option_or (full_from n xs) (full_from (n + m) ys)
full_from-append n m xs ys long =
    ap (option_map FullRows) (position_from-append is_full n xs ys) ∙ sym (or_mapped (position_from is_full n xs) (position_from is_full (n + length xs) ys))
    ∙ ap (λ k. option_or (full_from n xs) (full_from (n + k) ys)) long

unasked : (plan : Expr) (E : List (List Row)) (node : ℕ) → first_fault_from plan E [] node ≡ full_from node (node_rows plan E)
unasked (Leaf table) E node = cond_mapped (is_full (eval (Leaf table) E)) node
unasked (Apply op input) E node =
    let rows = eval (Apply op input) E in
    rw (unasked input E node, cond_mapped (is_full rows) (node + nodes input)) (sym (full_from-append node (nodes input) (node_rows input E) (rows ∷ []) (nodes_long input E)))
unasked (Combine op a b) E node =
    let rows = eval (Combine op a b) E in
    let F = drop (width a) E in
    rw (unasked a E node, unasked b F (node + nodes a), cond_mapped (is_full rows) (node + nodes a + nodes b))
    (sym (full_from-append node (nodes a) (node_rows a E) (node_rows b F ++ rows ∷ []) (nodes_long a E)
    ∙ ap (option_or (full_from node (node_rows a E))) (full_from-append (node + nodes a) (nodes b) (node_rows b F) (rows ∷ []) (nodes_long b F))))

-- the first of all faults

first_of-append : {X : Type 0} (xs ys : List X) → first_of (xs ++ ys) ≡ option_or (first_of xs) (first_of ys)
first_of-append [] ys = refl
first_of-append (x ∷ xs) ys = refl

first_found : (f : AskedTable → Bool) (g : AskedTable → NodeFault) (xs : List AskedTable) → option_map g (find f xs) ≡ first_of (map g (filter f xs))
first_found f g [] = refl
first_found f g (x ∷ xs) = elim (cases_Bool (f x)) [ inl p ↦ rw p refl | inr p ↦ rw p (first_found f g xs) ]

rows_then : (b : Bool) (fault : NodeFault) (xs : List NodeFault) → cond b (Some fault) (first_of xs) ≡ first_of (cond b (fault ∷ []) [] ++ xs)
rows_then true fault xs = refl
rows_then false fault xs = refl

first_at : (plan : Expr) (E : List (List Row)) (asked : List AskedTable) (node : ℕ) → last_node_fault plan E asked node ≡ first_of (faults_at plan E asked node)
first_at plan E asked node =
    ap (cond (is_full (eval plan E)) (Some (FullRows node))) (first_found (is_crowded plan E) (λ a. FullPairs node a.0) asked)
    ∙ rows_then (is_full (eval plan E)) (FullRows node) (map (λ a. FullPairs node a.0) (filter (is_crowded plan E) asked))

first_from : (plan : Expr) (E : List (List Row)) (asked : List AskedTable) (node : ℕ) → first_fault_from plan E asked node ≡ first_of (all_faults plan E asked node)
first_from (Leaf table) E asked node = first_at (Leaf table) E asked node
first_from (Apply op input) E asked node =
    let last = faults_at (Apply op input) E asked (node + nodes input) in
    either (first_from input E asked node) (first_at (Apply op input) E asked (node + nodes input)) ∙ sym (first_of-append (all_faults input E asked node) last)
first_from (Combine op a b) E asked node =
    let F = drop (width a) E in
    let right = all_faults b F asked (node + nodes a) in
    let last = faults_at (Combine op a b) E asked (node + nodes a + nodes b) in
    either (first_from a E asked node) (either (first_from b F asked (node + nodes a)) (first_at (Combine op a b) E asked (node + nodes a + nodes b)) ∙ sym (first_of-append right last))
    ∙ sym (first_of-append (all_faults a E asked node) (right ++ last))

pub first_of_all : FirstOfAll
first_of_all plan E asked = first_from plan E asked 0

pub nothing_is_asked : NothingAsked
nothing_is_asked plan E = unasked plan E 0 ∙ ap (option_map FullRows) (sym (position_from-zero is_full (node_rows plan E)))
