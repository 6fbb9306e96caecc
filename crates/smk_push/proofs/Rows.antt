-- Groupings of the rows at places, list by list, from their keys and the columns that aggregates read.
use Rattle.std.proofs.{Common.{◌≡◌, ◌∙◌, ◌<◌, ◌≤◌, ◌+◌, ◌++◌, ◌∷◌, [], ℕ, suc, Bool, List, All, length, map, take, get_or, slice_index_or, nat_eq, refl, sym, ap, subst, arith}, lemmas.List.{append-nil, get_or-map, length-map, map-append, take_more}, lemmas.List.Elements.{All-map, All-filter}}
use Rattle.std.specs.List.{filter}
use Rattle.smk_base.specs.{Places.{IsPlaces, has, upto, places}, Rels.{Relation, kind_in, picked, row_in, rows_at, value_in}, declared.book.plan.Agg.Agg}
use Rattle.smk_keys.specs.{Classes.{ClassesImage, classes_of, classing_of}, Numbers.AreNumbers}
use Rattle.smk_keys.proofs.{Firsts.AreNumbers-classes, Placed.AreClasses-keys, Rowed.classes-numbers}
use Rattle.smk_model.specs.{Kinds.kind_of_agg, Plain.{aggregate, firsts, grouped, key_of, row_eq}, Values.Row, Lineage.row_at}
use Rattle.smk_model.proofs.{Classes.{classes_are, first_below}, Bulk.bulk}
use Rattle.smk_base.proofs.Places.{at_places, filter_map, map_map, map_upto, map_upto_agree, places_below, same_below, few_places}
use Rattle.smk_body.specs.Halves.{AreNumbered, class_places}
use Rattle.smk_body.proofs.{Aggregating.map_where, Besides.{map_same, related, relation}, Classing.{are_numbered, first_at, length_firsts}}
use Rattle.smk_push.specs.{Cubes.cube_of, Inputs.{AreRead, IsInput, cube_from, grouped_at, rids_of}}
use Rattle.smk_push.proofs.Read.{rows_picked}

-- a set of places below n has at most n
pub few_in_set : (n : ℕ) (A : List ℕ) → IsPlaces n A → length A ≤ n
few_in_set n A set = omega (arith, ap length set, few_places (has A) n)

-- one list more
pub one_more : (f : List ℕ → Relation) (lists : List (List ℕ)) (m : ℕ) (groups : List Relation) (made : Relation) → m < length lists
    → groups ≡ map f (take m lists) → made ≡ f (slice_index_or lists m []) → groups ++ made ∷ [] ≡ map f (take (m + 1) lists)
one_more f lists m groups made inside so_far is =
    rw (so_far, is, take_more lists m [] inside, map-append f (take m lists) (slice_index_or lists m [] ∷ [])) refl

-- no column beside the keys of n classes
pub no_column : (keys : Relation) (n : ℕ) → length keys.rows ≡ n → keys ≡ relation (keys.kinds ++ []) (map (λ p. row_in keys.rows p ++ []) (upto n))
no_column keys n long = related (sym (append-nil keys.kinds)) (sym (ap (λ m. map (λ p. row_in keys.rows p ++ []) (upto m)) (sym long) ∙ map_same (λ p. row_in keys.rows p ++ []) (row_in keys.rows) (upto (length keys.rows)) (λ p. append-nil (row_in keys.rows p)) ∙ map_upto keys.rows []))

-- numbers of items are, at places, numbers of the items there
AreNumbers-at : {X : Type 0} (none : X) (items : List X) (count : ℕ) (of A : List ℕ) → AreNumbers none items count of → All (λ r. r < length items) A
    → AreNumbers none (map (λ r. get_or items r none) A) count (map (λ r. get_or of r 0) A)
AreNumbers-at none items count of A are inside =
    let item = λ (r : ℕ). get_or items r none in
    let number = λ (r : ℕ). get_or of r 0 in
    let long = length-map A item in
    let there : (i : ℕ) → i < length (map item A) → i < length A = λ i h. omega (arith, h, long) in
    let item_at : (i : ℕ) → i < length A → get_or (map item A) i none ≡ item (get_or A i 0) = λ i h. get_or-map item A i 0 none h in
    let number_at : (i : ℕ) → i < length A → get_or (map number A) i 0 ≡ number (get_or A i 0) = λ i h. get_or-map number A i 0 0 h in
    record {
      long = length-map A number ∙ sym long;
      below = All-map (λ n. n < count) number A (λ i d h. are.below (get_or A i d) 0 (omega (arith, inside i d h, are.long)));
      same = λ i j p q e. item_at i (there i p) ∙ are.same (get_or A i 0) (get_or A j 0) (inside i 0 (there i p)) (inside j 0 (there j q)) (sym (number_at i (there i p)) ∙ e ∙ number_at j (there j q)) ∙ sym (item_at j (there j q));
      alike = λ i j p q e. number_at i (there i p) ∙ are.alike (get_or A i 0) (get_or A j 0) (inside i 0 (there i p)) (inside j 0 (there j q)) (sym (item_at i (there i p)) ∙ e ∙ item_at j (there j q)) ∙ sym (number_at j (there j q));
    }

-- the classes of keys are, at places, numbers of the keys there
pub numbers_are : (keys : List Row) (made : ClassesImage) (A : List ℕ) → made ≡ classes_of keys → All (λ r. r < length keys) A → AreNumbers [] (rows_at keys A) (length made.firsts) (map (λ r. get_or made.of r 0) A)
numbers_are keys made A e inside = rw e (AreNumbers-at [] keys (length (classes_of keys).firsts) (classes_of keys).of A (AreNumbers-classes [] keys (classes_of keys).of (classes_of keys).firsts (AreClasses-keys keys)) inside)

-- they have the classes of the keys there
pub classes_there : (keys : List Row) (made : ClassesImage) (A : List ℕ) → made ≡ classes_of keys → All (λ r. r < length keys) A → classing_of nat_eq (map (λ r. get_or made.of r 0) A) ≡ classes_of (rows_at keys A)
classes_there keys made A e inside = classes-numbers (rows_at keys A) (length made.firsts) (map (λ r. get_or made.of r 0) A) _ refl (numbers_are keys made A e inside)

-- classes of the keys at places number the places
pub numbered_at : (keys : List Row) (made : ClassesImage) (A : List ℕ) → made ≡ classes_of (rows_at keys A) → AreNumbered (length A) made
numbered_at keys made A e = subst (λ (n : ℕ). AreNumbered n made) (length-map A (row_in keys)) (subst (AreNumbered (length (rows_at keys A))) (sym e) (are_numbered (rows_at keys A)))

-- the places where classes come first, among places
pub firsts_inside : (n : ℕ) (made : ClassesImage) (A : List ℕ) → AreNumbered (length A) made → All (λ r. r < n) A → All (λ r. r < n) (map (λ i. get_or A i 0) made.firsts)
firsts_inside n made A are inside = All-map (λ r. r < n) (λ i. get_or A i 0) made.firsts (λ i d l. inside (get_or made.firsts i d) 0 (are.within i d l))

-- rows at places among rows at places
pub rows_twice : (V : List Row) (A B : List ℕ) → All (λ i. i < length A) B → rows_at (rows_at V A) B ≡ rows_at V (map (λ i. get_or A i 0) B)
rows_twice V A B low = map_where (row_in (rows_at V A)) (λ i. row_in V (get_or A i 0)) (λ i. i < length A) B (λ i h. get_or-map (row_in V) A i 0 [] h) low ∙ sym (map_map (row_in V) (λ i. get_or A i 0) B)

-- the groups of classes of the rows at these rids
abbrev pub parts : List Row → List Row → List Agg → List ℕ → ClassesImage → List Row
parts K V aggs A made = map (λ p. row_in K (get_or A (get_or made.firsts p 0) 0) ++ map (aggregate (rows_at V (map (λ i. get_or A i 0) (class_places made.of (length A) p)))) aggs) (upto (length made.firsts))

-- groups of rows that are gathered
pub parts_gathered : (K V : List Row) (aggs : List Agg) (A B : List ℕ) (made : ClassesImage) → B ≡ map (λ i. get_or A i 0) made.firsts
    → map (λ p. row_in (rows_at K B) p ++ map (aggregate (rows_at (rows_at V A) (class_places made.of (length (rows_at V A)) p))) aggs) (upto (length made.firsts)) ≡ parts K V aggs A made
parts_gathered K V aggs A B made e =
    let n = length made.firsts in
    map_upto_agree (λ p. row_in (rows_at K B) p ++ map (aggregate (rows_at (rows_at V A) (class_places made.of (length (rows_at V A)) p))) aggs)
    (λ p. row_in K (get_or A (get_or made.firsts p 0) 0) ++ map (aggregate (rows_at V (map (λ i. get_or A i 0) (class_places made.of (length A) p)))) aggs) n (λ p h.
    let key : row_in (rows_at K B) p ≡ row_in K (get_or A (get_or made.firsts p 0) 0) =
    get_or-map (row_in K) B p 0 [] (omega (arith, h, ap length e, length-map made.firsts (λ i. get_or A i 0)))
    ∙ ap (row_in K) (ap (λ (z : List ℕ). get_or z p 0) e ∙ get_or-map (λ i. get_or A i 0) made.firsts p 0 0 h) in
    let values : rows_at (rows_at V A) (class_places made.of (length (rows_at V A)) p) ≡ rows_at V (map (λ i. get_or A i 0) (class_places made.of (length A) p)) =
    ap (λ m. rows_at (rows_at V A) (class_places made.of m p)) (length-map A (row_in V)) ∙ rows_twice V A (class_places made.of (length A) p) (places_below (λ i. nat_eq (get_or made.of i 0) p) (length A)) in
    rw (key, values) refl)

-- the classes of the keys at rids make the groups there
pub parts_are : (K V : List Row) (aggs : List Agg) (A : List ℕ) → parts K V aggs A (classes_of (rows_at K A)) ≡ grouped_at K V aggs A
parts_are K V aggs A =
    let keys = rows_at K A in
    let F = firsts keys in
    let made = classes_of keys in
    let at = λ (i : ℕ). get_or A i 0 in
    let long : length keys ≡ length A = length-map A (row_in K) in
    let group = λ (key : Row). key ++ map (aggregate (rows_at V (rids_of K A key))) aggs in
    ap (λ n. map (λ p. row_in K (at (get_or made.firsts p 0)) ++ map (aggregate (rows_at V (map at (class_places made.of (length A) p)))) aggs) (upto n)) (length_firsts keys)
    ∙ map_upto_agree (λ p. row_in K (at (get_or made.firsts p 0)) ++ map (aggregate (rows_at V (map at (class_places made.of (length A) p)))) aggs) (λ p. group (row_at F p)) (length F) (λ p h.
    let k = row_at F p in
    let low : get_or made.firsts p 0 < length A = omega (arith, long, first_below keys p 0 (omega (arith, h, length_firsts keys))) in
    let key : row_in K (at (get_or made.firsts p 0)) ≡ k = sym (get_or-map (row_in K) A (get_or made.firsts p 0) 0 [] low) ∙ first_at keys p h in
    let members : map at (class_places made.of (length A) p) ≡ rids_of K A k =
    ap (λ n. map at (class_places made.of n p)) (sym long)
    ∙ ap (map at) (sym (classes_are.members keys p h))
    ∙ ap (λ n. map at (places (λ i. row_eq k (row_at keys i)) n)) long
    ∙ ap (map at) (same_below (λ i. row_eq k (row_at keys i)) (λ i. row_eq k (row_in K (at i))) (length A) (λ i l. ap (row_eq k) (get_or-map (row_in K) A i 0 [] l)))
    ∙ at_places (λ rid. row_eq k (row_in K rid)) A 0 in
    rw (key, members) refl)
    ∙ sym (map_map group (row_at F) (upto (length F))) ∙ ap (map group) (map_upto F [])

-- the keys where classes come first, beside the aggregates over the rows of each class
pub cube_made : (K V keys rows : Relation) (aggs over : List Agg) (A B : List ℕ) (made : ClassesImage) → keys ≡ relation K.kinds (rows_at K.rows B) → rows ≡ relation V.kinds (rows_at V.rows A) → over ≡ aggs
    → B ≡ map (λ i. get_or A i 0) made.firsts → made ≡ classes_of (rows_at K.rows A)
    → relation (keys.kinds ++ map (kind_of_agg rows.kinds) over) (map (λ p. row_in keys.rows p ++ map (aggregate (rows_at rows.rows (class_places made.of (length rows.rows) p))) over) (upto (length made.firsts))) ≡ cube_from K V aggs A
cube_made K V keys rows aggs over A B made of_keys of_rows same at is =
    rw (of_keys, of_rows, same) (related refl (parts_gathered K.rows V.rows aggs A B made at ∙ ap (parts K.rows V.rows aggs A) is ∙ parts_are K.rows V.rows aggs A))

-- tests that agree on the members
filter_where : (s t : ℕ → Bool) (P : ℕ → Type 0) (xs : List ℕ) → ((x : ℕ) → P x → s x ≡ t x) → All P xs → filter s xs ≡ filter t xs
filter_where s t P [] h all = refl
filter_where s t P (x ∷ xs) h all = rw (h x (all 0 0 (omega arith)), filter_where s t P xs h (λ k d l. all (suc k) d (omega arith))) refl

-- the rows at rids that have a key are the rows with the key among those at the rids
rows_of_key : (keys : List ℕ) (rows : List Row) (A : List ℕ) (key : Row) → All (λ r. r < length rows) A
    → rows_at rows (rids_of (map (picked keys) rows) A key) ≡ filter (λ row. row_eq key (key_of keys row)) (rows_at rows A)
rows_of_key keys rows A key low =
    ap (rows_at rows) (filter_where (λ rid. row_eq key (row_in (map (picked keys) rows) rid)) (λ rid. row_eq key (key_of keys (row_in rows rid))) (λ r. r < length rows) A (λ r l. ap (row_eq key) (get_or-map (picked keys) rows r [] [] l)) low)
    ∙ sym (filter_map (λ row. row_eq key (key_of keys row)) (row_in rows) A)

-- groups of keys and of what aggregates read are the groups of the rows
pub cube_same : (all K V : Relation) (keys : List ℕ) (aggs over : List Agg) (A : List ℕ) → K ≡ relation (map (kind_in all.kinds) keys) (map (picked keys) all.rows) → AreRead all aggs V over → All (λ r. r < length all.rows) A
    → cube_from K V over A ≡ cube_of all keys aggs A
cube_same all K V keys aggs over A is read low =
    let L = rows_at all.rows A in
    let KK = map (picked keys) all.rows in
    let inside : (key : Row) → All (λ r. r < length all.rows) (rids_of KK A key) = λ key. All-filter (λ rid. row_eq key (row_in KK rid)) (λ r. r < length all.rows) A low in
    let group : (key : Row) → key ++ map (aggregate (rows_at V.rows (rids_of KK A key))) over ≡ grouped keys aggs L key = λ key.
    ap (λ z. key ++ z) (read.values (rids_of KK A key) (inside key) ∙ ap (λ z. map (aggregate z) aggs) (rows_of_key keys all.rows A key low)) in
    rw is (related (ap (λ z. map (kind_in all.kinds) keys ++ z) read.kinds)
    (map_same (λ key. key ++ map (aggregate (rows_at V.rows (rids_of KK A key))) over) (grouped keys aggs L) (firsts (rows_at KK A)) group
    ∙ ap (λ z. map (grouped keys aggs L) (firsts z)) (rows_picked keys all.rows A low)))

-- keys in their classes, and what aggregates read
pub is_input : (all K V : Relation) (keys : List ℕ) (aggs over : List Agg) (made : ClassesImage) (cols : List ℕ) → K ≡ relation (map (kind_in all.kinds) keys) (map (picked keys) all.rows) → AreRead all aggs V over → length keys + length aggs ≤ 16
    → made ≡ classes_of (map (picked cols) K.rows) → cols ≡ upto (length keys) → IsInput K made V over
is_input all K V keys aggs over made cols is read few classed columns =
    let rows = map (picked keys) all.rows in
    let wide : All (λ row. length row ≡ length keys) K.rows = rw is (All-map (λ row. length row ≡ length keys) (picked keys) all.rows (λ i d l. length-map keys (value_in (get_or all.rows i d)))) in
    record {
      classed = classed ∙ ap (λ z. classes_of (map (picked z) K.rows)) columns ∙ ap classes_of (bulk.whole (length keys) K.rows wide);
      long = read.long ∙ sym (ap (λ (r : Relation). length r.rows) is ∙ length-map all.rows (picked keys));
      fits = read.fits;
      few = omega (arith, ap (λ (r : Relation). length r.kinds) is, length-map keys (kind_in all.kinds), ap length read.kinds, length-map over (kind_of_agg V.kinds), length-map aggs (kind_of_agg all.kinds), few);
    }
