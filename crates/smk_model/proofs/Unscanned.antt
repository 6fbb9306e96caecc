-- A plan over tables and over others that are the same at its leaves.
use Rattle.std.proofs.{Common.{◌≡◌, ℕ, ◌+◌, true, false, cond, List, [], ◌∷◌, length, map, drop, refl, ap, sym, ◌∙◌, subst, nat_eq, nat_lt, Some, option_map, inl, inr}, lemmas.List.Folds.list_any-append, lemmas.Bool.{cases_Bool, or_left, or_right, eq-eqb, eqb-true, false≢true, false_from_ne_true}}
use Rattle.std.specs.List.{find}
use Rattle.smk_base.specs.{Places.{Lists, upto, places, has}, declared.book.need.Needed.Needed, Plans.{Expr, Leaf, Apply, Combine}}
use Rattle.smk_model.specs.{Values.Row, Plain.{leaves, width, eval, whole}, Annotated.{relates, back, fwd, pairs}, Composed.table_at, Selection.{is_full, nodes}, NodeFaults.{FullRows, FullPairs, pair_limit, AskedTable, asked_of, is_crowded, last_node_fault, first_fault_from}, GrowthLaws.{AgreeAtLeaves, UnscannedStays}}
use Rattle.smk_base.proofs.Places.{same_below, places_false}
use Rattle.smk_model.proofs.{Composed.{sum_by_agree, unscanned_relates}, Counts.sum_zero, NodeFaults.either}

same_tables : (A B : List (List Row)) (scans : List ℕ) → ((t : ℕ) → has scans t ≡ true → table_at A t ≡ table_at B t) → map (table_at A) scans ≡ map (table_at B) scans
same_tables A B [] same = refl
same_tables A B (t ∷ ts) same = rw (same t (or_left (nat_eq t t) _ (eq-eqb t t refl)), same_tables A B ts (λ u q. same u (or_right (nat_eq u t) _ q))) refl

same_leaves : (plan : Expr) (A B : List (List Row)) → AgreeAtLeaves plan A B → whole plan A ≡ whole plan B
same_leaves plan A B same = same_tables A B (leaves plan) same

-- one list for each of k numbers, of members below n
abbrev lists_to : (ℕ → List ℕ) → ℕ → ℕ → Lists
lists_to f k n = record { lists = map f (upto k); bound = n }

-- a table that no leaf scans has no pairs, whatever its length
pub no_pairs : (plan : Expr) (E : List (List Row)) (table n : ℕ) → has (leaves plan) table ≡ false → pairs plan E table n ≡ 0
no_pairs plan E table n none =
    sum_by_agree (λ o. length (places (relates plan E table o) n)) (λ o. 0)
    (λ o. ap length (same_below (relates plan E table o) (λ r. false) n (λ r l. unscanned_relates plan E table o r none) ∙ places_false n)) (upto (length (eval plan E)))
    ∙ sum_zero (length (eval plan E))

same_pairs : (plan : Expr) (E : List (List Row)) (table m n : ℕ) → (has (leaves plan) table ≡ true → m ≡ n) → pairs plan E table m ≡ pairs plan E table n
same_pairs plan E table m n same = elim (cases_Bool (has (leaves plan) table)) [
  | inl p ↦ ap (pairs plan E table) (same p)
  | inr p ↦ no_pairs plan E table m p ∙ sym (no_pairs plan E table n p)
]

-- faults, where the tables that are needed have other lengths, but the same at the leaves

abbrev asked_by : (ℕ → ℕ) → List Needed → List AskedTable
asked_by size need = map (λ n. (n.table, size n.table)) need

abbrev AgreeOn : Expr → (ℕ → ℕ) → (ℕ → ℕ) → Type 0
AgreeOn plan f g = (table : ℕ) → has (leaves plan) table ≡ true → f table ≡ g table

same_crowd : (plan : Expr) (E : List (List Row)) (f g : ℕ → ℕ) → AgreeOn plan f g → (node : ℕ) (need : List Needed)
    → option_map (λ a. FullPairs node a.0) (find (is_crowded plan E) (asked_by f need)) ≡ option_map (λ a. FullPairs node a.0) (find (is_crowded plan E) (asked_by g need))
same_crowd plan E f g same node [] = refl
same_crowd plan E f g same node (n ∷ need) =
    let t = n.table in
    let here : is_crowded plan E (t, f t) ≡ is_crowded plan E (t, g t) = ap (nat_lt pair_limit) (same_pairs plan E t (f t) (g t) (same t)) in
    elim (cases_Bool (is_crowded plan E (t, g t))) [
      | inl p ↦ rw (here ∙ p, p) refl
      | inr p ↦ rw (here ∙ p, p) (same_crowd plan E f g same node need)
    ]

same_at : (plan : Expr) (E : List (List Row)) (f g : ℕ → ℕ) → AgreeOn plan f g → (need : List Needed) (node : ℕ) → last_node_fault plan E (asked_by f need) node ≡ last_node_fault plan E (asked_by g need) node
same_at plan E f g same need node = ap (cond (is_full (eval plan E)) (Some (FullRows node))) (same_crowd plan E f g same node need)

same_first : (plan : Expr) (E : List (List Row)) (f g : ℕ → ℕ) → AgreeOn plan f g → (need : List Needed) (node : ℕ) → first_fault_from plan E (asked_by f need) node ≡ first_fault_from plan E (asked_by g need) node
same_first (Leaf table) E f g same need node = same_at (Leaf table) E f g same need node
same_first (Apply op input) E f g same need node = either (same_first input E f g same need node) (same_at (Apply op input) E f g same need (node + nodes input))
same_first (Combine op left right) E f g same need node =
    either (same_first left E f g (λ t q. same t (list_any-append (nat_eq t) (leaves left) (leaves right) ∙ or_left (has (leaves left) t) _ q)) need node)
    (either (same_first right (drop (width left) E) f g (λ t q. same t (list_any-append (nat_eq t) (leaves left) (leaves right) ∙ or_right (has (leaves left) t) _ q)) need (node + nodes left))
    (same_at (Combine op left right) E f g same need (node + nodes left + nodes right)))

pub unscanned_stays : UnscannedStays
unscanned_stays = record {
  other = λ plan table A B none same u there. same u (false_from_ne_true (nat_eq u table) (λ e. false≢true (sym none ∙ subst (λ (z : ℕ). has (leaves plan) z ≡ true) (eqb-true u table e) there)));
  tables = same_leaves;
  rows = λ plan A B same. ap (eval plan) (same_leaves plan A B same);
  backs = λ plan A B table same long.
      ap (λ E. lists_to (λ o. back plan E (o ∷ []) table (length (table_at A table))) (length (eval plan E)) (length (table_at A table))) (same_leaves plan A B same)
      ∙ ap (λ n. lists_to (λ o. back plan (whole plan B) (o ∷ []) table n) (length (eval plan (whole plan B))) n) long;
  forwards = λ plan A B table same long.
      ap (λ E. lists_to (λ rid. fwd plan E (rid ∷ []) table) (length (table_at A table)) (length (eval plan E))) (same_leaves plan A B same)
      ∙ ap (λ n. lists_to (λ rid. fwd plan (whole plan B) (rid ∷ []) table) n (length (eval plan (whole plan B)))) long;
  pairs = λ plan A B table same.
      same_pairs plan (whole plan A) table (length (table_at A table)) (length (table_at B table)) (λ p. ap length (same table p))
      ∙ ap (λ E. pairs plan E table (length (table_at B table))) (same_leaves plan A B same);
  fault = λ plan A B need same.
      same_first plan (whole plan A) (λ t. length (table_at A t)) (λ t. length (table_at B t)) (λ t p. ap length (same t p)) need 0
      ∙ ap (λ E. first_fault_from plan E (asked_of B need) 0) (same_leaves plan A B same);
}
