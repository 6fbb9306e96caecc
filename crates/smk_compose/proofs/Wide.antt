-- The number of columns of a plan: each of its rows has as many values, where the rows of its leaves do.
use Rattle.std.proofs.{Common.{◌≡◌, ◌∙◌, ◌+◌, ◌<◌, ◌≤◌, ℕ, suc, Bool, List, [], ◌∷◌, ◌++◌, length, map, drop, filter, get_or, All, refl, sym, ap, ap₂, subst, arith}, lemmas.List.{get_or-drop, get_or-map, length-map, length-append}, lemmas.List.Elements.{All-map, All-filter, All-append}, lemmas.Slice.Zip.AllZip-long}
use Rattle.std.specs.List.{flat_map, AllZip}
use Rattle.smk_base.specs.{Plans.{Unary, Selection, Projection, Distinction, Grouping, Binary, Equijoin, ThetaJoin, CrossProduct, BagUnion, SetUnion, Expr, Leaf, Apply, Combine}, Rels.{Relation, IsRelation, Fits, kind_in, value_in, row_in, rows_at}, declared.rel.TheConstants.COLUMN_LIMIT, declared.value.Kind.Kind, declared.book.plan.Item.Item}
use Rattle.smk_model.specs.{Values.{Row, meets}, Plain.{agree, meets_together, always, nested, item_at, image, key_of, aggregate, grouped, row_eq, step1, step2, leaves, width, eval}, Kinds.{AreAlike, Fits1, Fits2, kind_of_item, kind_of_agg, wider_kinds, kinds1, kinds2}, Classes.first_places, Selection.{each_kinds, each_rows, plan_kinds, PlanFits}}
use Rattle.smk_base.proofs.Places.{map_map}
use Rattle.smk_model.proofs.{Classes.first_below, Bulk.bulk, Leaves.{IsSame, eval_same}}
use Rattle.smk_table.specs.Wanted.{AreWide}
use Rattle.smk_compose.specs.Walk.{IsWidth, width1, width2}

at_wide : (rows : List Row) (A : List ℕ) (n : ℕ) → All (λ i. i < length rows) A → AreWide n rows → AreWide n (rows_at rows A)
at_wide rows A n low wide = All-map (λ row. length row ≡ n) (row_in rows) A (λ k d h. wide (get_or A k d) [] (low k d h))

images_wide : (items : List Item) (ks : List Kind) (L : List Row) → AreWide (length (map (kind_of_item ks) items)) (map (image items) L)
images_wide items ks L = All-map (λ row. length row ≡ length (map (kind_of_item ks) items)) (image items) L (λ k d h. length-map items (item_at (get_or L k d)) ∙ sym (length-map items (kind_of_item ks)))

wide1 : (op : Unary) (ks : List Kind) (L : List Row) → AreWide (length ks) L → AreWide (length (kinds1 op ks)) (step1 op L)
wide1 (Selection formula) ks L wide = All-filter (meets formula) (λ row. length row ≡ length ks) L wide
wide1 (Projection items) ks L wide = images_wide items ks L
wide1 (Distinction items) ks L wide =
    let n = length (map (kind_of_item ks) items) in
    let images = map (image items) L in
    rw (bulk.distinction items L) (at_wide images (first_places images) n (first_below images) (images_wide items ks L))
wide1 (Grouping keys aggs) ks L wide =
    let A = rows_at L (first_places (map (key_of keys) L)) in
    let n = length (map (kind_in ks) keys ++ map (kind_of_agg ks) aggs) in
    rw (bulk.keys keys L, map_map (grouped keys aggs L) (key_of keys) A) (All-map (λ row. length row ≡ n) (λ row. grouped keys aggs L (key_of keys row)) A (λ k d h.
    let row = get_or A k d in
    let members = filter (λ r. row_eq (key_of keys row) (key_of keys r)) L in
    omega (arith, length-append (key_of keys row) (map (aggregate members) aggs), length-map aggs (aggregate members), length-map keys (value_in row), length-append (map (kind_in ks) keys) (map (kind_of_agg ks) aggs), length-map keys (kind_in ks), length-map aggs (kind_of_agg ks))))

flat_wide : (f : Row → List Row) (L : List Row) (m n : ℕ) → AreWide m L → ((l : Row) → length l ≡ m → AreWide n (f l)) → AreWide n (flat_map f L)
flat_wide f [] m n wide h = λ k d low. absurd (omega (arith, low))
flat_wide f (l ∷ L) m n wide h = All-append (λ row. length row ≡ n) (f l) (flat_map f L) (h l (wide 0 l (omega arith))) (flat_wide f L m n (λ k d low. wide (suc k) d (omega arith)) h)

nested_wide : (test : Row → Row → Bool) (ls rs : List Kind) (L R : List Row) → AreWide (length ls) L → AreWide (length rs) R → AreWide (length (ls ++ rs)) (nested test L R)
nested_wide test ls rs L R left right =
    flat_wide (λ l. map (λ r. l ++ r) (filter (test l) R)) L (length ls) (length (ls ++ rs)) left
    (λ l long. All-map (λ row. length row ≡ length (ls ++ rs)) (λ r. l ++ r) (filter (test l) R) (λ k d h.
    let r = get_or (filter (test l) R) k d in
    omega (arith, length-append l r, length-append ls rs, long, All-filter (test l) (λ row. length row ≡ length rs) R right k d h)))

wider_long : (ls rs : List Kind) → AllZip AreAlike ls rs → length (wider_kinds ls rs) ≡ length ls
wider_long [] rs h = refl
wider_long (l ∷ ls) [] h = absurd h
wider_long (l ∷ ls) (r ∷ rs) h = omega (arith, wider_long ls rs h.1)

both_wide : (ls rs : List Kind) (L R : List Row) → AllZip AreAlike ls rs → AreWide (length ls) L → AreWide (length rs) R → AreWide (length (wider_kinds ls rs)) (L ++ R)
both_wide ls rs L R fits left right = rw (wider_long ls rs fits) (All-append (λ row. length row ≡ length ls) L R left (λ k d h. right k d h ∙ AllZip-long AreAlike ls rs fits))

wide2 : (op : Binary) (ls rs : List Kind) (L R : List Row) → Fits2 op ls rs → AreWide (length ls) L → AreWide (length rs) R → AreWide (length (kinds2 op ls rs)) (step2 op L R)
wide2 (Equijoin pairs) ls rs L R fits left right = nested_wide (agree pairs) ls rs L R left right
wide2 (ThetaJoin formula) ls rs L R fits left right = nested_wide (meets_together formula) ls rs L R left right
wide2 CrossProduct ls rs L R fits left right = nested_wide always ls rs L R left right
wide2 BagUnion ls rs L R fits left right = both_wide ls rs L R fits left right
wide2 SetUnion ls rs L R fits left right =
    rw (bulk.union L R) (at_wide (L ++ R) (first_places (L ++ R)) (length (wider_kinds ls rs)) (first_below (L ++ R)) (both_wide ls rs L R fits left right))

-- the number of columns of a step, and of a plan

long1 : (op : Unary) (ks : List Kind) → length (kinds1 op ks) ≡ width1 op (length ks)
long1 (Selection formula) ks = refl
long1 (Projection items) ks = length-map items (kind_of_item ks)
long1 (Distinction items) ks = length-map items (kind_of_item ks)
long1 (Grouping keys aggs) ks = length-append (map (kind_in ks) keys) (map (kind_of_agg ks) aggs) ∙ ap₂ (λ a b. a + b) (length-map keys (kind_in ks)) (length-map aggs (kind_of_agg ks))

few1 : (op : Unary) (ks : List Kind) → Fits1 op ks → length ks ≤ COLUMN_LIMIT → width1 op (length ks) ≤ COLUMN_LIMIT
few1 (Selection formula) ks fits few = few
few1 (Projection items) ks fits few = fits.few
few1 (Distinction items) ks fits few = fits.few
few1 (Grouping keys aggs) ks fits few = fits.few

long2 : (op : Binary) (ls rs : List Kind) → Fits2 op ls rs → length (kinds2 op ls rs) ≡ width2 op (length ls) (length rs)
long2 (Equijoin pairs) ls rs fits = length-append ls rs
long2 (ThetaJoin formula) ls rs fits = length-append ls rs
long2 CrossProduct ls rs fits = length-append ls rs
long2 BagUnion ls rs fits = wider_long ls rs fits
long2 SetUnion ls rs fits = wider_long ls rs fits

few2 : (op : Binary) (ls rs : List Kind) → Fits2 op ls rs → length ls ≤ COLUMN_LIMIT → width2 op (length ls) (length rs) ≤ COLUMN_LIMIT
few2 (Equijoin pairs) ls rs fits few = fits.few
few2 (ThetaJoin formula) ls rs fits few = fits.few
few2 CrossProduct ls rs fits few = fits
few2 BagUnion ls rs fits few = few
few2 SetUnion ls rs fits few = few

pub leaf_width : (table : ℕ) (L : List Relation) (k : ℕ) (leaf : Relation) → get_or L k leaf ≡ leaf → k < length L → IsRelation leaf → IsWidth (Leaf table) (drop k (each_kinds L)) (drop k (each_rows L)) (length leaf.kinds)
leaf_width table L k leaf at low is =
    let e : k + 0 ≡ k = omega arith in
    let kinds : get_or (drop k (each_kinds L)) 0 [] ≡ leaf.kinds =
    get_or-drop k (each_kinds L) 0 [] ∙ ap (λ n. get_or (each_kinds L) n []) e ∙ get_or-map (λ (r : Relation). r.kinds) L k leaf [] low ∙ ap (λ (r : Relation). r.kinds) at in
    let rows : get_or (drop k (each_rows L)) 0 [] ≡ leaf.rows =
    get_or-drop k (each_rows L) 0 [] ∙ ap (λ n. get_or (each_rows L) n []) e ∙ get_or-map (λ (r : Relation). r.rows) L k leaf [] low ∙ ap (λ (r : Relation). r.rows) at in
    record {
      count = sym (ap (length {A = Kind}) kinds);
      few = is.few_columns;
      wide = subst (AreWide (length leaf.kinds)) (sym rows) (λ i d h. AllZip-long Fits leaf.kinds (get_or leaf.rows i d) (is.fit i d h));
    }

pub one_width : {plan : Expr} {op : Unary} {input : Expr} {K : List (List Kind)} {E : List (List Row)} {w : ℕ} → plan ≡ Apply op input → PlanFits plan K → IsWidth input K E w → IsWidth plan K E (width1 op w)
one_width {plan} {op} {input} {K} {E} {w} e fits is =
    let ks = plan_kinds input K in
    let fit : PlanFits (Apply op input) K = subst (λ (p : Expr). PlanFits p K) e fits in
    let count : width1 op w ≡ length (kinds1 op ks) = ap (width1 op) is.count ∙ sym (long1 op ks) in
    let here : IsWidth (Apply op input) K E (width1 op w) = record {
      count = count;
      few = subst (λ n. width1 op n ≤ COLUMN_LIMIT) (sym is.count) (few1 op ks fit.1 (subst (λ n. n ≤ COLUMN_LIMIT) is.count is.few));
      wide = subst (λ n. AreWide n (step1 op (eval input E))) (sym count) (wide1 op ks (eval input E) (subst (λ n. AreWide n (eval input E)) is.count is.wide));
    } in
    subst (λ (p : Expr). IsWidth p K E (width1 op w)) (sym e) here

pub eval_two : (op : Binary) (a b : Expr) (E : List (List Row)) → eval (Combine op a b) E ≡ step2 op (eval a E) (eval b (drop (width a) E))
eval_two op a b E =
    let right : IsSame b E (0 + width a) (drop (width a) E) 0 = λ j l.
    let e : (0 + width a) + j ≡ width a + j = omega arith in
    let f : 0 + j ≡ j = omega arith in
    ap (λ i. get_or E i []) e ∙ sym (get_or-drop (width a) E j []) ∙ ap (λ i. get_or (drop (width a) E) i []) (sym f) in
    ap (step2 op (eval a E)) (eval_same b E (0 + width a) (drop (width a) E) 0 right)

pub two_width : {plan : Expr} {op : Binary} {a b : Expr} {K : List (List Kind)} {E : List (List Row)} {w v : ℕ} → plan ≡ Combine op a b → PlanFits plan K → IsWidth a K E w → IsWidth b (drop (width a) K) (drop (width a) E) v → IsWidth plan K E (width2 op w v)
two_width {plan} {op} {a} {b} {K} {E} {w} {v} e fits left right =
    let ls = plan_kinds a K in
    let rs = plan_kinds b (drop (width a) K) in
    let L = eval a E in
    let R = eval b (drop (width a) E) in
    let fit : PlanFits (Combine op a b) K = subst (λ (p : Expr). PlanFits p K) e fits in
    let counts : width2 op w v ≡ width2 op (length ls) (length rs) = ap₂ (width2 op) left.count right.count in
    let count : width2 op w v ≡ length (kinds2 op ls rs) = counts ∙ sym (long2 op ls rs fit.2) in
    let made : AreWide (length (kinds2 op ls rs)) (step2 op L R) =
    wide2 op ls rs L R fit.2 (subst (λ n. AreWide n L) left.count left.wide) (subst (λ n. AreWide n R) right.count right.wide) in
    let here : IsWidth (Combine op a b) K E (width2 op w v) = record {
      count = count;
      few = subst (λ n. n ≤ COLUMN_LIMIT) (sym counts) (few2 op ls rs fit.2 (subst (λ n. n ≤ COLUMN_LIMIT) left.count left.few));
      wide = subst (AreWide (width2 op w v)) (sym (eval_two op a b E)) (subst (λ n. AreWide n (step2 op L R)) (sym count) made);
    } in
    subst (λ (p : Expr). IsWidth p K E (width2 op w v)) (sym e) here
