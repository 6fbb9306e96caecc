-- The lineage of each side of each step is that of its way.
use Rattle.std.proofs.{Common.{◌≡◌, ◌∙◌, ◌<◌, ◌+◌, ◌-◌, ℕ, true, cond, List, [], ◌∷◌, ◌++◌, length, map, refl, sym, ap, arith, All, get_or, nat_eq, nat_lt, inl, inr}, lemmas.List.{length-map, length-append, get_or_default, get_or-map}, lemmas.Bool.{cases_eq, cases_lt, cases_Bool, eq-eqb, ne_eqb, lt-ltb, le-ltb}}
use Rattle.smk_base.specs.{Places.{Lists, upto, places, has, own_lists, inverted}, declared.book.plan.Item.Item, declared.book.plan.Agg.Agg, Plans.{Formula, Unary, Selection, Projection, Distinction, Grouping, Binary, Equijoin, BagUnion, SetUnion}}
use Rattle.smk_model.specs.{Values.Row, Plain.{row_eq, image, key_of, firsts, grouped, is_join, joins}, Lineage.{row_at, meeting, matching, lefts_of, rights_of, from_left, from_right}, Locals.{singles, fwd_lists, back1, fwd1, back_left, fwd_left, back_right, fwd_right}, Classes.{places_in, classes}, Ways.{Sources, Targets, way, left_way, right_way, IsOf, LineageOfWays}}
use Rattle.smk_base.proofs.Places.{length_upto, get_or_upto, get_or_map_upto, map_upto, map_upto_agree, map_map, same_below, has_places, places_own}
use Rattle.smk_model.proofs.{Firsts.{holds, holds_at, holds_left, holds_right, firsts_holds}, Locals.{IsApart, firsts_apart, locals_are}, Composed.bounded, Directions.{length_each, turned, inverses}, Classes.{key_test, found_below, known_key, class_at}}

-- tests of one place

own_test : (o i : ℕ) → has (o ∷ []) i ≡ nat_eq i o
own_test o i = elim (cases_Bool (nat_eq i o)) [ inl e ↦ rw e refl | inr e ↦ rw e refl ]

-- lists of one place each

each_of : (of : List ℕ) → map (λ i. get_or of i 0 ∷ []) (upto (length of)) ≡ map (λ r. r ∷ []) of
each_of of = sym (map_map (λ r. r ∷ []) (λ i. get_or of i 0) (upto (length of))) ∙ ap (map (λ r. r ∷ [])) (map_upto of 0)

-- where each input row reaches just one output row, the forward lists are these
reached : (from : ℕ → List ℕ) (outputs : ℕ) (of : List ℕ) → All (λ r. r < outputs) of
    → ((o i : ℕ) → o < outputs → i < length of → has (from o) i ≡ nat_eq (get_or of i 0) o) → fwd_lists from outputs (length of) ≡ singles of outputs
reached from outputs of low tests =
    let each : map (λ i. places (λ o. has (from o) i) outputs) (upto (length of)) ≡ map (λ i. get_or of i 0 ∷ []) (upto (length of)) =
    map_upto_agree (λ i. places (λ o. has (from o) i) outputs) (λ i. get_or of i 0 ∷ []) (length of) (λ i h.
    same_below (λ o. has (from o) i) (nat_eq (get_or of i 0)) outputs (λ o l. tests o i l h) ∙ places_own (get_or of i 0) outputs (low i 0 h)) in
    ap (bounded outputs) (each ∙ each_of of)

-- steps whose output rows each come from one row

sources : (of : List ℕ) (n : ℕ) {back fwd : Lists} → back ≡ singles of n → fwd ≡ inverted back → IsOf (Sources of n) back fwd
sources of n p q = record { backward = p; forward = q ∙ ap inverted p }

targets : (of : List ℕ) (n : ℕ) {back fwd : Lists} → fwd ≡ singles of n → back ≡ inverted fwd → IsOf (Targets of n) back fwd
targets of n p q = record { backward = q ∙ ap inverted p; forward = p }

selection : (formula : Formula) (L : List Row) → IsOf (way (Selection formula) L) (back1 (Selection formula) L) (fwd1 (Selection formula) L)
selection formula L = sources (meeting formula L) (length L) (ap (bounded (length L)) (locals_are.selection formula L)) (inverses.forward_one (Selection formula) L)

-- where each row is its own, it is so both ways
own : (n : ℕ) → inverted (own_lists n) ≡ own_lists n
own n = turned (λ i. i ∷ []) n n ∙ ap (bounded n) (map_upto_agree (λ r. places (λ i. has (i ∷ []) r) n) (λ r. r ∷ []) n (λ r h. same_below (λ i. has (i ∷ []) r) (nat_eq r) n (λ i l. own_test i r) ∙ places_own r n h))

projection : (items : List Item) (L : List Row) → IsOf (way (Projection items) L) (back1 (Projection items) L) (fwd1 (Projection items) L)
projection items L =
    let back : back1 (Projection items) L ≡ own_lists (length L) = ap (bounded (length L)) (locals_are.projection items L) in
    record { backward = back; forward = inverses.forward_one (Projection items) L ∙ ap inverted back ∙ own (length L) }

join_left : (op : Binary) (L R : List Row) → is_join op ≡ true → IsOf (Sources (lefts_of (matching (joins op) L R)) (length L)) (back_left op L R) (fwd_left op L R)
join_left op L R e =
    sources (lefts_of (matching (joins op) L R)) (length L)
    (ap (bounded (length L)) (locals_are.join_left op L R e ∙ sym (map_map (λ r. r ∷ []) (λ (p : ℕ × ℕ). p.0) (matching (joins op) L R)))) (inverses.forward_left op L R)

join_right : (op : Binary) (L R : List Row) → is_join op ≡ true → IsOf (Sources (rights_of (matching (joins op) L R)) (length R)) (back_right op L R) (fwd_right op L R)
join_right op L R e =
    sources (rights_of (matching (joins op) L R)) (length R)
    (ap (bounded (length R)) (locals_are.join_right op L R e ∙ sym (map_map (λ r. r ∷ []) (λ (p : ℕ × ℕ). p.1) (matching (joins op) L R)))) (inverses.forward_right op L R)

-- steps whose input rows each reach the row of their key

abbrev keyed : List Row → List Row → ℕ → List ℕ
keyed found rows o = places (λ i. row_eq (row_at found o) (row_at rows i)) (length rows)

keyed_fwd : (found rows : List Row) → IsApart found → ((i : ℕ) → i < length rows → holds found (row_at rows i) ≡ true) → fwd_lists (keyed found rows) (length found) (length rows) ≡ singles (places_in found rows) (length found)
keyed_fwd found rows apart known =
    let of = places_in found rows in
    let long : length of ≡ length rows = length-map rows _ in
    ap (fwd_lists (keyed found rows) (length found)) (sym long)
    ∙ reached (keyed found rows) (length found) of
    (λ k d h.
    let low : k < length rows = omega (arith, h, long) in
    rw (get_or_default of k d 0 h, class_at found rows k low) (found_below found (row_at rows k) (known k low)))
    (λ o i h l.
    let low : i < length rows = omega (arith, l, long) in
    has_places (λ i. row_eq (row_at found o) (row_at rows i)) (length rows) i low ∙ key_test found (row_at rows i) o apart (known i low) h ∙ ap (λ z. nat_eq z o) (sym (class_at found rows i low)))

-- the same of rows by a key of theirs
by_key_fwd : (f : Row → Row) (L : List Row) → fwd_lists (λ o. places (λ i. row_eq (row_at (firsts (map f L)) o) (f (row_at L i))) (length L)) (length (firsts (map f L))) (length L) ≡ singles (classes (map f L)) (length (firsts (map f L)))
by_key_fwd f L =
    let keys = map f L in
    let n = length (firsts keys) in
    let mine = λ (o : ℕ). places (λ i. row_eq (row_at (firsts keys) o) (f (row_at L i))) (length L) in
    let same : (o : ℕ) → mine o ≡ keyed (firsts keys) keys o = λ o.
    same_below (λ i. row_eq (row_at (firsts keys) o) (f (row_at L i))) (λ i. row_eq (row_at (firsts keys) o) (row_at keys i)) (length L) (λ i h. ap (row_eq (row_at (firsts keys) o)) (sym (get_or-map f L i [] [] h)))
    ∙ ap (places (λ i. row_eq (row_at (firsts keys) o) (row_at keys i))) (sym (length-map L f)) in
    ap (bounded n) (map_upto_agree (λ i. places (λ o. has (mine o) i) n) (λ i. places (λ o. has (keyed (firsts keys) keys o) i) n) (length L) (λ i h.
    same_below (λ o. has (mine o) i) (λ o. has (keyed (firsts keys) keys o) i) n (λ o l. ap (λ z. has z i) (same o))))
    ∙ ap (fwd_lists (keyed (firsts keys) keys) n) (sym (length-map L f))
    ∙ keyed_fwd (firsts keys) keys (firsts_apart keys) (known_key keys)

distinction : (items : List Item) (L : List Row) → IsOf (way (Distinction items) L) (back1 (Distinction items) L) (fwd1 (Distinction items) L)
distinction items L = targets (classes (map (image items) L)) (length (firsts (map (image items) L))) (by_key_fwd (image items) L) (inverses.backward_one (Distinction items) L)

grouping : (keys : List ℕ) (aggs : List Agg) (L : List Row) → IsOf (way (Grouping keys aggs) L) (back1 (Grouping keys aggs) L) (fwd1 (Grouping keys aggs) L)
grouping keys aggs L =
    let found = firsts (map (key_of keys) L) in
    targets (classes (map (key_of keys) L)) (length found)
    (ap (λ n. fwd_lists (λ o. places (λ i. row_eq (row_at found o) (key_of keys (row_at L i))) (length L)) n (length L)) (length-map found (grouped keys aggs L)) ∙ by_key_fwd (key_of keys) L) (inverses.backward_one (Grouping keys aggs) L)

union_left : (L R : List Row) → IsOf (left_way SetUnion L R) (back_left SetUnion L R) (fwd_left SetUnion L R)
union_left L R =
    let found = firsts (L ++ R) in
    targets (places_in found L) (length found) (keyed_fwd found L (firsts_apart (L ++ R)) (λ i h. firsts_holds (L ++ R) (row_at L i) (holds_left L R (row_at L i) (holds_at L i h)))) (inverses.backward_left SetUnion L R)

union_right : (L R : List Row) → IsOf (right_way SetUnion L R) (back_right SetUnion L R) (fwd_right SetUnion L R)
union_right L R =
    let found = firsts (L ++ R) in
    targets (places_in found R) (length found) (keyed_fwd found R (firsts_apart (L ++ R)) (λ i h. firsts_holds (L ++ R) (row_at R i) (holds_right L R (row_at R i) (holds_at R i h)))) (inverses.backward_right SetUnion L R)

-- the rows of a union of all rows

left_test : (o i m : ℕ) → i < m → has (cond (nat_lt o m) (o ∷ []) []) i ≡ nat_eq i o
left_test o i m low = elim (cases_lt o m) [
  | inl l ↦ rw (lt-ltb o m l) (own_test o i)
  | inr g ↦ rw (le-ltb o m g) (sym (ne_eqb i o (λ e. absurd (omega arith))))
]

union_all_left_fwd : (L R : List Row) → fwd_left BagUnion L R ≡ singles (upto (length L)) (length (L ++ R))
union_all_left_fwd L R =
    let m = length L in
    let of = upto m in
    ap (fwd_lists (from_left BagUnion L R) (length (L ++ R))) (sym (length_upto m))
    ∙ reached (from_left BagUnion L R) (length (L ++ R)) of
    (λ k d h. let low : k < m = omega (arith, h, length_upto m) in rw (get_or_upto m k d low) (omega (arith, low, length-append L R)))
    (λ o i l h.
    let low : i < m = omega (arith, h, length_upto m) in
    left_test o i m low ∙ ap (λ z. nat_eq z o) (sym (get_or_upto m i 0 low)))

right_test : (o j m : ℕ) → has (cond (nat_lt o m) [] ((o - m) ∷ [])) j ≡ nat_eq (m + j) o
right_test o j m = elim (cases_lt o m) [
  | inl l ↦ rw (lt-ltb o m l) (sym (ne_eqb (m + j) o (λ e. absurd (omega arith))))
  | inr g ↦ rw (le-ltb o m g) (own_test (o - m) j ∙ elim (cases_eq j (o - m)) [
    | inl e ↦ eq-eqb j (o - m) e ∙ sym (eq-eqb (m + j) o (omega arith))
    | inr ne ↦ ne_eqb j (o - m) ne ∙ sym (ne_eqb (m + j) o (λ e. ne (omega arith)))
  ])
]

union_all_right_fwd : (L R : List Row) → fwd_right BagUnion L R ≡ singles (map (λ j. length L + j) (upto (length R))) (length (L ++ R))
union_all_right_fwd L R =
    let m = length L in
    let n = length R in
    let of = map (λ j. m + j) (upto n) in
    let long : length of ≡ n = length_each (λ j. m + j) n in
    ap (fwd_lists (from_right BagUnion L R) (length (L ++ R))) (sym long)
    ∙ reached (from_right BagUnion L R) (length (L ++ R)) of
    (λ k d h. let low : k < n = omega (arith, h, long) in rw (get_or_map_upto (λ j. m + j) n k d low) (omega (arith, low, length-append L R)))
    (λ o j l h.
    let low : j < n = omega (arith, h, long) in
    right_test o j m ∙ ap (λ z. nat_eq z o) (sym (get_or_map_upto (λ j. m + j) n j 0 low)))

-- each step

one : (op : Unary) (L : List Row) → IsOf (way op L) (back1 op L) (fwd1 op L)
one (Selection formula) L = selection formula L
one (Projection items) L = projection items L
one (Distinction items) L = distinction items L
one (Grouping keys aggs) L = grouping keys aggs L

left : (op : Binary) (L R : List Row) → IsOf (left_way op L R) (back_left op L R) (fwd_left op L R)
left BagUnion L R = targets (upto (length L)) (length L + length R) (union_all_left_fwd L R ∙ ap (singles (upto (length L))) (length-append L R)) (inverses.backward_left BagUnion L R)
left SetUnion L R = union_left L R
left (Equijoin pairs) L R = join_left (Equijoin pairs) L R refl
left join L R = join_left join L R refl

right : (op : Binary) (L R : List Row) → IsOf (right_way op L R) (back_right op L R) (fwd_right op L R)
right BagUnion L R =
    let of = map (λ j. length L + j) (upto (length R)) in
    targets of (length L + length R) (union_all_right_fwd L R ∙ ap (singles of) (length-append L R)) (inverses.backward_right BagUnion L R)
right SetUnion L R = union_right L R
right (Equijoin pairs) L R = join_right (Equijoin pairs) L R refl
right join L R = join_right join L R refl

pub lineage_of_ways : LineageOfWays
lineage_of_ways = record { one = one; left = left; right = right; own = own }
