-- The places that a selection keeps.
use Rattle.std.proofs.{Common.{◌≡◌, ◌∙◌, ◌+◌, ◌<◌, ℕ, ℤ, pos, Bool, List, [], ◌∷◌, ◌++◌, true, false, All, length, map, take, drop, filter, slice_set, get_or, ap, sym, refl, subst, arith, cond, ◌≤◌, ◌-◌, zero, suc}, lemmas.List.{append_assoc, append-nil, get_or_append_left, get_or-append_right, get_or_default, get_or-map, length-map, take-set-le, drop_more}, lemmas.List.Elements.{All-filter, All-from_get_or, All-get_or, All-head, All-tail, filter-append}, lemmas.List.FromFn.{get_or-range_with_len, length-range_with_len}, lemmas.List.Filters.{FiltersInPlace, FiltersInPlace-more_set, FiltersInPlace-more_no}}
use Rattle.std.specs.{List.range_with_len, Ordering.{int_cmp, ordering_reverse}, declared.cmp.Ordering.Ordering, declared.cmp.Ordering.TheVariants.{Less, Equal, Greater}}
use Rattle.smk_base.specs.{Places.{places, upto}, Plans.Comparison, Widths.AreAlike, Rels.{Fits, RowFits, column_texts, column_values, kind_in, text_of}, TextColumns.text_in, declared.book.plan.CmpOp.CmpOp, declared.book.plan.Operand.TheVariants.{Col, Lit}, declared.value.Kind.Kind, declared.value.Value.Value}
use Rattle.smk_base.proofs.Places.{upto_more}
use Rattle.smk_base.specs.declared.value.Kind.TheVariants as kinds
use Rattle.smk_base.specs.declared.value.Value.TheVariants as values
use Rattle.smk_model.proofs.Spread.{value_order}
use Rattle.smk_model.specs.{Values.{Row, holds, meets, value_at, value_cmp}, Lineage.row_at}
use Rattle.smk_body.proofs.{Aggregating.value_is, Fitting.value_fits}

-- what is read next is still that of the list that was given, and so is the rest
module _ (xs ys : List ℕ) (i : ℕ) (low : i < length ys) (lower : i < length xs) (rest : drop i ys ≡ drop i xs) where
  both : get_or ys i 0 ∷ drop (i + 1) ys ≡ get_or xs i 0 ∷ drop (i + 1) xs
  both = sym (drop_more ys i 0 low) ∙ rest ∙ drop_more xs i 0 lower

  pub next_same : get_or ys i 0 ≡ get_or xs i 0
  next_same = ap (λ z. get_or z 0 0) both

  pub rest_same : drop (i + 1) ys ≡ drop (i + 1) xs
  rest_same = ap (drop 1) both

module _ (f : ℕ → Bool) (xs ys : List ℕ) (k i : ℕ) (h : FiltersInPlace f xs ys k i) (low : i < length ys) where
  read : get_or ys i 0 ≡ get_or ys i (get_or ys i 0)
  read = get_or_default ys i 0 (get_or ys i 0) low

  pub front_kept : f (get_or ys i 0) ≡ true → take (k + 1) (slice_set ys k (get_or ys i 0)) ≡ filter f (take (i + 1) xs)
  front_kept passes = (FiltersInPlace-more_set h low passes read).front

  pub front_left : f (get_or ys i 0) ≡ false → take k (slice_set ys k (get_or ys i 0)) ≡ filter f (take (i + 1) xs)
  front_left fails = take-set-le k ys k (get_or ys i 0) (omega arith) ∙ (FiltersInPlace-more_no h low fails read).front

-- two tests that tell the same of each place below n keep the same of such places
pub kept_alike : (f g : ℕ → Bool) (n : ℕ) → ((i : ℕ) → i < n → f i ≡ g i) → (A : List ℕ) → All (λ i. i < n) A → filter f A ≡ filter g A
kept_alike f g n same [] below = refl
kept_alike f g n same (a ∷ A) below =
    let one = same a (All-head (λ i. i < n) a A below) in
    let rest = kept_alike f g n same A (All-tail (λ i. i < n) a A below) in
    λ t. cond (one t) (a ∷ rest t) (rest t)

-- the ints of a column that stand so to an int are those of the rows that meet the comparison
pub ints_kept : (rows : List Row) (c : ℕ) (op : CmpOp) (n : ℤ) (ints : List ℤ) (A : List ℕ) → map values.Int ints ≡ column_values c rows → All (λ i. i < length rows) A
    → filter (λ i. holds op (int_cmp (get_or ints i (pos 0)) n)) A ≡ filter (λ i. meets (Comparison c op (Lit (values.Int n))) (row_at rows i)) A
ints_kept rows c op n ints A same below =
    kept_alike (λ i. holds op (int_cmp (get_or ints i (pos 0)) n)) (λ i. meets (Comparison c op (Lit (values.Int n))) (row_at rows i)) (length rows)
    (λ i low. ap (λ (v : Value). holds op (value_cmp v (values.Int n))) (value_is rows c ints i same low)) A below

text_is : (v : Value) → Fits kinds.Text v → values.Text (text_of v) ≡ v
text_is (values.Int n) fits = absurd fits
text_is (values.Text t) fits = refl

-- and so are the codes of texts that stand so to a value
module _ (kinds_of : List Kind) (rows : List Row) (c : ℕ) (op : CmpOp) (v : Value) (texts : List (List ℕ)) (codes : List ℕ)
    (fits : All (RowFits kinds_of) rows) (low : c < length kinds_of) (is : kind_in kinds_of c ≡ kinds.Text)
    (within : All (λ code. code < length texts) codes) (same : map (text_in texts) codes ≡ column_texts c rows) where
  abbrev stands : List ℕ → Bool
  stands text = holds op (value_cmp (values.Text text) v)

  pub codes_long : length codes ≡ length rows
  codes_long = sym (length-map codes (text_in texts)) ∙ ap length same ∙ length-map rows (λ row. text_of (value_at row c))

  text_at : (i : ℕ) → i < length rows → get_or texts (get_or codes i 0) [] ≡ text_of (value_at (row_at rows i) c)
  text_at i below =
      sym (get_or-map (text_in texts) codes i 0 [] (omega (arith, codes_long))) ∙ ap (λ z. get_or z i []) same ∙ get_or-map (λ (row : Row). text_of (value_at row c)) rows i [] [] below

  code_tells : (i : ℕ) → i < length rows → get_or (map stands texts) (get_or codes i 0) false ≡ meets (Comparison c op (Lit v)) (row_at rows i)
  code_tells i below =
      let fit = subst (λ (k : Kind). Fits k (value_at (row_at rows i) c)) is (value_fits kinds_of (row_at rows i) c (All-get_or (RowFits kinds_of) rows i [] below fits) low) in
      get_or-map stands texts (get_or codes i 0) [] false (All-get_or (λ code. code < length texts) codes i 0 (omega (arith, codes_long)) within)
      ∙ ap stands (text_at i below) ∙ ap (λ (x : Value). holds op (value_cmp x v)) (text_is (value_at (row_at rows i) c) fit)

  pub codes_kept : (A : List ℕ) → All (λ i. i < length rows) A → filter (λ i. get_or (map stands texts) (get_or codes i 0) false) A ≡ filter (λ i. meets (Comparison c op (Lit v)) (row_at rows i)) A
  codes_kept A below = kept_alike (λ i. get_or (map stands texts) (get_or codes i 0) false) (λ i. meets (Comparison c op (Lit v)) (row_at rows i)) (length rows) code_tells A below

pub kind_is : (k : Kind) → AreAlike k kinds.Text → k ≡ kinds.Text
kind_is (kinds.Int level) alike = absurd alike
kind_is kinds.Text alike = refl

-- what is kept of places below a bound is below it
pub kept_within : (f : ℕ → Bool) (n : ℕ) (A B : List ℕ) → B ≡ filter f A → All (λ i. i < n) A → All (λ i. i < n) B
kept_within f n A B is below = subst (All (λ i. i < n)) (sym is) (All-filter f (λ i. i < n) A below)

upto_on : (k m : ℕ) → upto m ++ range_with_len m k ≡ upto (m + k)
upto_on zero m = let e : m ≡ m + 0 = omega arith in append-nil (upto m) ∙ ap upto e
upto_on (suc k) m = let e : (m + 1) + k ≡ m + suc k = omega arith in sym (append_assoc (upto m) (m ∷ []) (range_with_len (m + 1) k)) ∙ ap (λ z. z ++ range_with_len (m + 1) k) (sym (upto_more m)) ∙ upto_on k (m + 1) ∙ ap upto e

-- what is kept of the places from one up to another stands behind what is kept of those below the first
pub kept_behind : (f : ℕ → Bool) (m n : ℕ) (A : List ℕ) → m ≤ n → A ≡ filter f (range_with_len m (n - m)) → places f m ++ A ≡ places f n
kept_behind f m n A le is = let e : m + (n - m) ≡ n = omega arith in ap (λ z. places f m ++ z) is ∙ sym (filter-append f (upto m) (range_with_len m (n - m))) ∙ ap (filter f) (upto_on (n - m) m ∙ ap upto e)

pub range_within : (m n k : ℕ) → n ≤ k → All (λ i. i < k) (range_with_len m (n - m))
range_within m n k le = All-from_get_or (λ i. i < k) (range_with_len m (n - m)) 0 (λ i low.
    let below : i < n - m = omega (arith, low, length-range_with_len m (n - m)) in
    omega (arith, get_or-range_with_len m (n - m) i 0 below, below))

-- what a comparison says of two values the other says of the second and the first
pub turned_says : (op t : CmpOp) → holds t Greater ≡ holds op Less → holds t Equal ≡ holds op Equal → holds t Less ≡ holds op Greater → (o : Ordering) → holds t (ordering_reverse o) ≡ holds op o
turned_says op t less equal greater Less = less
turned_says op t less equal greater Equal = equal
turned_says op t less equal greater Greater = greater

-- a comparison of a column of a left row with one of a right row is one of the right column with the left value
module _ (L R : Row) (w c d : ℕ) (op : CmpOp) (v : Value) (long : length L ≡ w) where
  left_of : (k : ℕ) → k < w → value_at (L ++ R) k ≡ value_at L k
  left_of k low = get_or_append_left L R (values.Int (pos 0)) k (omega (arith, long))

  right_of : (k : ℕ) → w ≤ k → value_at (L ++ R) k ≡ value_at R (k - w)
  right_of k high = get_or-append_right L R w k (values.Int (pos 0)) long high

  pub turned_across : (t : CmpOp) → ((o : Ordering) → holds t (ordering_reverse o) ≡ holds op o) → c < w → w ≤ d → v ≡ value_at L c
      → meets (Comparison c op (Col d)) (L ++ R) ≡ meets (Comparison (d - w) t (Lit v)) R
  turned_across t says low high is =
      let l = value_at L c in
      let r = value_at R (d - w) in
      (λ j. holds op (value_cmp (left_of c low j) (right_of d high j))) ∙ sym (says (value_cmp l r)) ∙ ap (holds t) (sym (value_order.antisymm r l)) ∙ ap (λ (x : Value). holds t (value_cmp r x)) (sym is)

  pub across : d < w → w ≤ c → v ≡ value_at L d → meets (Comparison c op (Col d)) (L ++ R) ≡ meets (Comparison (c - w) op (Lit v)) R
  across low high is = λ j. holds op (value_cmp (right_of c high j) ((left_of d low ∙ sym is) j))
