-- The view of a dependency shows what violates it.
use Rattle.std.proofs.{Common.{◌≡◌, ℕ, ◌+◌, ◌<◌, Bool, true, List, [], ◌∷◌, ◌++◌, length, map, refl, ap, sym, ◌∙◌, ◌&&◌, nat_eq, get_or, arith, inl, inr}, lemmas.List.{length-map, get_or-map, get_or-append-add}, lemmas.Bool.{cases_Bool, or_right, eq-eqb, false≢true}, lemmas.Cmp.nat_eq_equiv}
use Rattle.std.specs.List.{list_any, filter}
use Rattle.smk_base.specs.{Places.{places, upto}, Plans.Leaf, declared.value.Value.Value}
use Rattle.smk_model.specs.{Values.{Row, value_at, meets}, Plain.{row_eq, key_of, firsts, grouped, eval, lesser, greater, combined}, Lineage.row_at, Annotated.{Marked, no_mark, mark_at, rows_of, gathered, scanned, ann, relates, back}, Dependencies.{Violation, rids_with, values_with, differ, violated, violations, violation_at, violation_row, no_violation, extremes, extremes_differ, dependency_plan}, DependencyLaws.DependenciesShown}
use Rattle.smk_base.proofs.{Places.{filter_map, map_map, same_below, has_places}, Texts.list_any-map}
use Rattle.smk_model.proofs.{Anys.{or_false, any_same}, Annotated.rows_from, Firsts.{holds, holds_here, row_is, firsts_from}, Spread.extremes_apart}

-- tests that agree on the members keep the same ones
filter_members : (f g : Row → Bool) (xs : List Row) → ((x : Row) → holds xs x ≡ true → f x ≡ g x) → filter f xs ≡ filter g xs
filter_members f g [] h = refl
filter_members f g (x ∷ xs) h = rw (h x (holds_here x xs), filter_members f g xs (λ y q. h y (or_right (row_eq y x) _ q))) refl

-- a key of some rows is the key of the first of those with it
some_with : (f : Row → Row) (L : List Row) (k : Row) → holds (map f L) k ≡ true → (row : Row) × (rest : List Row) × (filter (λ row. row_eq k (f row)) L ≡ row ∷ rest) × (k ≡ f row)
some_with f [] k h = absurd (false≢true h)
some_with f (x ∷ xs) k h = elim (cases_Bool (row_eq k (f x))) [
  | inl p ↦ (x, filter (λ row. row_eq k (f row)) xs, rw p refl, row_is k (f x) p)
  | inr p ↦ (let h2 : holds (map f xs) k ≡ true = rw p at h in let s = some_with f xs k h2 in (s.0, s.1, rw p s.2, s.3))
]

-- the two values behind a key
behind : (k : Row) (a b : Value) (n : ℕ) → length k ≡ n → (value_at (k ++ a ∷ b ∷ []) n ≡ a) × (value_at (k ++ a ∷ b ∷ []) (n + 1) ≡ b)
behind k a b n e =
    let zero_more : n ≡ length k + 0 = omega (arith, e) in
    let one_more : n + 1 ≡ length k + 1 = omega (arith, e) in
    (ap (value_at (k ++ a ∷ b ∷ [])) zero_more ∙ get_or-append-add k (a ∷ b ∷ []) 0 _, ap (value_at (k ++ a ∷ b ∷ [])) one_more ∙ get_or-append-add k (a ∷ b ∷ []) 1 _)

-- a group is selected where its rows differ
selected_is : (rows : List Row) (keys : List ℕ) (c : ℕ) (key : Row) → holds (map (key_of keys) rows) key ≡ true
    → meets (extremes_differ (length keys)) (grouped keys (extremes c) rows key) ≡ differ (values_with rows keys c key)
selected_is rows keys c key h =
    let s = some_with (key_of keys) rows key h in
    let values : values_with rows keys c key ≡ value_at s.0 c ∷ map (λ row. value_at row c) s.1 = ap (map (λ (row : Row). value_at row c)) s.2 in
    let long : length key ≡ length keys = ap length s.3 ∙ length-map keys (value_at s.0) in
    let least = combined lesser (values_with rows keys c key) in
    let most = combined greater (values_with rows keys c key) in
    let both = behind key least most (length keys) long in
    rw (both.0, both.1) (rw values (extremes_apart (value_at s.0 c) (map (λ row. value_at row c) s.1)))

-- the keys that are selected are those that are violated
selected_keys : (rows : List Row) (keys : List ℕ) (c : ℕ) → filter (λ key. meets (extremes_differ (length keys)) (grouped keys (extremes c) rows key)) (firsts (map (key_of keys) rows)) ≡ violated rows keys c
selected_keys rows keys c = filter_members _ (λ key. differ (values_with rows keys c key)) (firsts (map (key_of keys) rows)) (λ key q. selected_is rows keys c key (firsts_from (map (key_of keys) rows) key q))

one_each : (table : ℕ) (rows : List Row) (keys : List ℕ) (c : ℕ) → eval (dependency_plan table keys c) (rows ∷ []) ≡ map (violation_row rows keys c) (violations rows keys c)
one_each table rows keys c =
    filter_map (meets (extremes_differ (length keys))) (grouped keys (extremes c) rows) (firsts (map (key_of keys) rows))
    ∙ ap (map (grouped keys (extremes c) rows)) (selected_keys rows keys c)
    ∙ sym (map_map (violation_row rows keys c) (λ key. record { key = key; rids = rids_with rows keys key }) (violated rows keys c))

-- each violated key with the set of its rows
abbrev marked_key : List Row → List ℕ → ℕ → Row → Marked
marked_key rows keys c key = (grouped keys (extremes c) rows key, gathered (λ row. row_eq key (key_of keys row)) (scanned 0 rows))

marks_are : (table : ℕ) (rows : List Row) (keys : List ℕ) (c : ℕ) → ann (dependency_plan table keys c) (rows ∷ []) ≡ map (marked_key rows keys c) (violated rows keys c)
marks_are table rows keys c =
    let test = meets (extremes_differ (length keys)) in
    let set = λ (key : Row). gathered (λ row. row_eq key (key_of keys row)) (scanned 0 rows) in
    let each : List Row → Row → Marked = λ R key. (grouped keys (extremes c) R key, set key) in
    filter_map (λ (m : Marked). test m.0) (each (rows_of (scanned 0 rows))) (firsts (map (key_of keys) (rows_of (scanned 0 rows))))
    ∙ ap (λ (R : List Row). map (each R) (filter (λ key. test (grouped keys (extremes c) R key)) (firsts (map (key_of keys) R)))) (rows_from (Leaf table) (rows ∷ []) 0)
    ∙ ap (map (each rows)) (selected_keys rows keys c)

-- the rows of a scan that pass a test have the pairs of their places
gathered_scan : (test : Row → Bool) (rows : List Row) (rid : ℕ) → rid < length rows → gathered test (scanned 0 rows) 0 rid ≡ test (row_at rows rid)
gathered_scan test rows rid low =
    let P = places (λ i. test (row_at rows i)) (length rows) in
    let own : ℕ → Marked = λ i. (row_at rows i, λ leaf r. nat_eq 0 leaf && nat_eq i r) in
    ap (list_any (λ (m : Marked). m.1 0 rid)) (filter_map (λ (m : Marked). test m.0) own (upto (length rows)))
    ∙ list_any-map (λ (m : Marked). m.1 0 rid) own P
    ∙ any_same (λ i. nat_eq i rid) (nat_eq rid) P (λ i. nat_eq_equiv.symm i rid)
    ∙ has_places (λ i. test (row_at rows i)) (length rows) rid low

comes_from : (table : ℕ) (rows : List Row) (keys : List ℕ) (c o : ℕ) → o < length (violations rows keys c)
    → back (dependency_plan table keys c) (rows ∷ []) (o ∷ []) table (length rows) ≡ (violation_at (violations rows keys c) o).rids
comes_from table rows keys c o h =
    let found = violated rows keys c in
    let violation : Row → Violation = λ key. record { key = key; rids = rids_with rows keys key } in
    let low : o < length found = omega (arith, h, length-map found violation) in
    let key = get_or found o [] in
    let here : mark_at (ann (dependency_plan table keys c) (rows ∷ [])) o ≡ marked_key rows keys c key = ap (λ m. mark_at m o) (marks_are table rows keys c) ∙ get_or-map (marked_key rows keys c) found o [] no_mark low in
    let each : (rid : ℕ) → rid < length rows → list_any (λ p. relates (dependency_plan table keys c) (rows ∷ []) table p rid) (o ∷ []) ≡ row_eq key (key_of keys (row_at rows rid)) = λ rid l.
    rw (here, eq-eqb table table refl, gathered_scan (λ row. row_eq key (key_of keys row)) rows rid l, or_false (row_eq key (key_of keys (row_at rows rid)))) (or_false _) in
    same_below _ (λ rid. row_eq key (key_of keys (row_at rows rid))) (length rows) each
    ∙ sym (ap (λ (v : Violation). v.rids) (get_or-map violation found o [] no_violation low))

pub dependencies_shown : DependenciesShown
dependencies_shown table rows keys c = record { one_each = one_each table rows keys c; comes_from = comes_from table rows keys c }
