-- Lists of Rels and of rids.
use Rattle.std.proofs.{Common.{◌≡◌, ◌∙◌, ◌+◌, ◌<◌, ◌≤◌, ℕ, zero, suc, List, [], ◌∷◌, ◌++◌, length, map, drop, get_or, All, Bool, true, Some, None, refl, sym, ap, subst, arith, inl, inr, nat_eq}, Math.ListN.get_or-map, lemmas.Bool.cases_Bool, lemmas.List.{map-append, drop-map, length-map, get_or_default}, lemmas.List.Sums.sum_by-append}
use Rattle.std.specs.List.{find}
use Rattle.smk_base.specs.{Rels.Relation, Picks.IsAscending, declared.list.table_rids.Pick.Pick}
use Rattle.smk_model.specs.{Values.Row, Lineage.sub, Selection.{each_rows, each_kinds, rows_in, picked, kept_rows, selected, PickFits}}
use Rattle.smk_compose.specs.Fetched.{table_of, leaf_over}

pub map_two : (f : ℕ → Relation) (a b : List ℕ) → map f (a ++ b) ≡ map f a ++ map f b
map_two f a b = map-append f a b

pub rows_two : (f : ℕ → List Row) (a b : List ℕ) → rows_in (map f (a ++ b)) ≡ rows_in (map f a) + rows_in (map f b)
rows_two f a b = ap rows_in (map-append f a b) ∙ sum_by-append length (map f a) (map f b)

-- the Rels behind the first n
pub rows_behind : (n : ℕ) (rels : List Relation) → each_rows (drop n rels) ≡ drop n (each_rows rels)
rows_behind n rels = sym (drop-map (λ rel. rel.rows) n rels)

pub kinds_behind : (n : ℕ) (rels : List Relation) → each_kinds (drop n rels) ≡ drop n (each_kinds rels)
kinds_behind n rels = sym (drop-map (λ rel. rel.kinds) n rels)

-- the i-th of ascending numbers is at least i, so there are at most n below n
at_least : (A : List ℕ) → IsAscending A → (i : ℕ) → i < length A → i ≤ get_or A i 0
at_least A up zero p = omega arith
at_least A up (suc i) p =
    let before = at_least A up i (omega arith) in
    let more = up i (suc i) (omega arith) p in
    omega arith

ascending_short : (A : List ℕ) (n : ℕ) → IsAscending A → All (λ i. i < n) A → length A ≤ n
ascending_short [] n up low = omega arith
ascending_short (x ∷ xs) n up low =
    let last = at_least (x ∷ xs) up (length xs) (omega arith) in
    let below = low (length xs) 0 (omega arith) in
    omega arith

pub few_rids : (rids : List ℕ) (n : ℕ) → IsAscending rids → All (λ rid. rid < n) rids → n ≤ 1048576 → length rids ≤ 1048576
few_rids rids n up low few = omega (arith, ascending_short rids n up low)

-- what is found in a list is one of its members, and passes the test
pub found : (P : Pick → Type 0) (test : Pick → Bool) (picks : List Pick) (x : Pick) → Some x ≡ find test picks → All P picks → P x
found P test [] x e all = absurd (cc e)
found P test (y ∷ ys) x e all = elim (cases_Bool (test y)) [
  | inl t ↦ let same : Some x ≡ Some y = rw t at e in let is : y ≡ x = cc same in subst P is (all 0 y (omega arith))
  | inr t ↦ let rest : Some x ≡ find test ys = rw t at e in found P test ys x rest (λ k d p. all (suc k) d (omega arith))
]

pub found_passes : (test : Pick → Bool) (picks : List Pick) (x : Pick) → Some x ≡ find test picks → test x ≡ true
found_passes test [] x e = absurd (cc e)
found_passes test (y ∷ ys) x e = elim (cases_Bool (test y)) [
  | inl t ↦ let same : Some x ≡ Some y = rw t at e in let is : y ≡ x = cc same in subst (λ (z : Pick). test z ≡ true) is t
  | inr t ↦ let rest : Some x ≡ find test ys = rw t at e in found_passes test ys x rest
]

-- the rids of a pick are places of its table
pub rids_inside : (T : List Relation) (pick : Pick) (table : ℕ) (rel : Relation) → PickFits (each_rows T) pick → pick.table ≡ table → table < length T → rel ≡ get_or T table rel → All (λ rid. rid < length rel.rows) pick.rids
rids_inside T pick table rel fits same low is k d p =
    let e : get_or (each_rows T) pick.table [] ≡ get_or (each_rows T) table [] = ap (λ i. get_or (each_rows T) i []) same in
    let f : get_or (each_rows T) table [] ≡ (get_or T table (record { kinds = []; rows = [] })).rows = get_or-map (λ (r : Relation). r.rows) T table (record { kinds = []; rows = [] }) in
    let g : get_or T table (record { kinds = []; rows = [] }) ≡ rel = get_or_default T table (record { kinds = []; rows = [] }) rel low ∙ sym is in
    let all : get_or (each_rows T) pick.table [] ≡ rel.rows = e ∙ f ∙ ap (λ (r : Relation). r.rows) g in
    subst (λ (rows : List Row). get_or pick.rids k d < length rows) all (fits.rows k d p)

-- the Rel of a leaf whose table is picked, and of one whose table is whole
pub leaf_found : (T : List Relation) (picks : List Pick) (table : ℕ) (pick : Pick) (rel : Relation) → Some pick ≡ find (λ pick. nat_eq pick.table table) picks → table < length T → rel ≡ get_or T table rel
    → leaf_over T picks table ≡ record { kinds = rel.kinds; rows = sub rel.rows pick.rids }
leaf_found T picks table pick rel e low is =
    let g : table_of T table ≡ rel = get_or_default T table (record { kinds = []; rows = [] }) rel low ∙ sym is in
    rw (sym e, g) refl

pub leaf_whole : (T : List Relation) (picks : List Pick) (table : ℕ) (rel : Relation) → None ≡ find (λ pick. nat_eq pick.table table) picks → table < length T → rel ≡ get_or T table rel
    → leaf_over T picks table ≡ rel
leaf_whole T picks table rel e low is =
    let g : table_of T table ≡ rel = get_or_default T table (record { kinds = []; rows = [] }) rel low ∙ sym is in
    rw (sym e, g) refl

pub leaf_rows : (T : List Relation) (picks : List Pick) (table : ℕ) → selected (each_rows T) picks table ≡ (leaf_over T picks table).rows
leaf_rows T picks table = ap (kept_rows (picked picks table)) (get_or-map (λ (r : Relation). r.rows) T table (record { kinds = []; rows = [] }))

cons_same : {X : Type 0} {a b : X} {l m : List X} → a ≡ b → l ≡ m → a ∷ l ≡ b ∷ m
cons_same e f = rw (e, f) refl

-- the rows and the kinds of all leaves
pub over_rows : (T : List Relation) (picks : List Pick) (ls : List ℕ) → each_rows (map (leaf_over T picks) ls) ≡ map (selected (each_rows T) picks) ls
over_rows T picks [] = refl
over_rows T picks (x ∷ xs) = cons_same (sym (leaf_rows T picks x)) (over_rows T picks xs)

pub over_kinds : (T : List Relation) (picks : List Pick) (ls : List ℕ) → each_kinds (map (leaf_over T picks) ls) ≡ map (λ table. get_or (each_kinds T) table []) ls
over_kinds T picks [] = refl
over_kinds T picks (x ∷ xs) = cons_same (sym (get_or-map (λ (r : Relation). r.kinds) T x (record { kinds = []; rows = [] }))) (over_kinds T picks xs)

pub over_long : (T : List Relation) (picks : List Pick) (ls : List ℕ) → length (map (leaf_over T picks) ls) ≡ length ls
over_long T picks ls = length-map ls (leaf_over T picks)
