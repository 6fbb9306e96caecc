-- Numbers of rows, column by column.
use Rattle.std.proofs.{Common.{◌≡◌, ℕ, suc, ◌+◌, ◌-◌, ◌<◌, ◌≤◌, ℤ, pos, List, [], ◌∷◌, ◌++◌, length, map, take, drop, get_or, nat_eq, refl, ap, sym, subst, ◌∙◌, arith, All, inl, inr, replicate, length-append, Decides}, lemmas.Bool.cases_lt, lemmas.List.{get_or_append_left, get_or-append_right, get_or_default, get_or-map, get_or-replicate, get_or-take, get_or-drop, length-drop, length-take-le, take-map, drop-map, take_more, length-map, length-replicate, map-append, map_push, same_from_push, same_lists}, lemmas.Slice.Eq.slice_eq-Decides, lemmas.Slice.Zip.{length-zip, get_or-zip}}
use Rattle.std.specs.List.{zip, slice_range}
use Rattle.smk_base.specs.{declared.value.Kind.Kind, declared.value.Value.Value, Rels.{AreCodesOf, Fits, RowFits, kind_in, row_in, value_in, picked, column_values, column_texts, text_of}, Values.value_same, Widths.AreAlike}
use Rattle.smk_base.specs.declared.value.Kind.TheVariants as kinds
use Rattle.smk_base.specs.declared.value.Value.TheVariants as values
use Rattle.smk_base.proofs.RelRows.{Fits-value_in}
use Rattle.smk_keys.specs.{Classes.{ClassesImage, classing_of, classes_of}, Keys.key_eq, Numbers.AreNumbers}
use Rattle.smk_keys.proofs.Classing.{classing-numbers}

pub key_same : (a b : List Value) → Decides (key_eq a b) (a ≡ b)
key_same a b = slice_eq-Decides value_same a b (key_eq a b) refl

-- numbers of keys have their classes
pub classes-numbers : (keys : List (List Value)) (count : ℕ) (numbers : List ℕ) (made : ClassesImage) → made ≡ classing_of nat_eq numbers → AreNumbers [] keys count numbers → made ≡ classes_of keys
classes-numbers keys count numbers made e are = e ∙ classing-numbers key_eq key_same [] keys count numbers are

-- keys of no column are all the same
empty_key : (rows : List (List Value)) (i : ℕ) → get_or (map (picked []) rows) i [] ≡ []
empty_key (row ∷ rows) (suc i) = empty_key rows i
empty_key _ _ = refl

pub AreNumbers-zeros : (rows : List (List Value)) (n : ℕ) (of : List ℕ) (count : ℕ) → length rows ≡ n → of ≡ replicate n 0 → count ≡ 1 → AreNumbers [] (map (picked []) rows) count of
AreNumbers-zeros rows n of count long e one =
    let keys : length (map (picked []) rows) ≡ n = length-map rows (picked []) ∙ long in
    let zero_at : (i : ℕ) → i < n → get_or of i 0 ≡ 0 = (λ i h. ap (λ (list : List ℕ). get_or list i 0) e ∙ get_or-replicate {A = ℕ} n i 0 0 h) in
    let wide : length of ≡ n = ap length e ∙ length-replicate {A = ℕ} n 0 in
    record {
      long = omega arith;
      below = λ i d h. rw (get_or_default of i d 0 h) (omega (arith, zero_at i (omega arith)));
      same = λ i j p q f. empty_key rows i ∙ sym (empty_key rows j);
      alike = λ i j p q f. zero_at i (omega arith) ∙ sym (zero_at j (omega arith));
    }

pub AreNumbers-both_zeros : (lefts rights : List (List Value)) (n : ℕ) (of : List ℕ) (count : ℕ) → length lefts + length rights ≡ n → of ≡ replicate n 0 → count ≡ 1 → AreNumbers [] (map (picked []) lefts ++ map (picked []) rights) count of
AreNumbers-both_zeros lefts rights n of count long e one =
    rw (← map-append (picked []) lefts rights) (AreNumbers-zeros (lefts ++ rights) n of count (length-append lefts rights ∙ long) e one)

-- pairs of numbers of keys and of values are numbers of the longer keys
pub AreNumbers-pairs : (keys longer : List (List Value)) (of_values : List Value) (a b count : ℕ) (lefts rights of : List ℕ) → length of_values ≡ length keys → length longer ≡ length keys
    → ((i : ℕ) → i < length keys → get_or longer i [] ≡ get_or keys i [] ++ get_or of_values i (values.Int (pos 0)) ∷ [])
    → AreNumbers [] keys a lefts → AreNumbers (values.Int (pos 0)) of_values b rights → AreNumbers (0, 0) (zip lefts rights) count of → AreNumbers [] longer count of
AreNumbers-pairs keys longer of_values a b count lefts rights of e f key left right pairs =
    let long : length (zip lefts rights) ≡ length keys = omega (arith, length-zip lefts rights, left.long, right.long) in
    let pair : (i : ℕ) → i < length keys → get_or (zip lefts rights) i (0, 0) ≡ (get_or lefts i 0, get_or rights i 0) = (λ i h. get_or-zip lefts rights i (0, 0) (omega (arith, left.long)) (omega (arith, right.long))) in
    record {
      long = pairs.long ∙ long ∙ sym f;
      below = pairs.below;
      same = λ i j p q g.
          let one = sym (pair i (omega arith)) ∙ pairs.same i j (omega arith) (omega arith) g ∙ pair j (omega arith) in
          let front = left.same i j (omega arith) (omega arith) (ap (λ (p : ℕ × ℕ). p.0) one) in
          let back = right.same i j (omega arith) (omega arith) (ap (λ (p : ℕ × ℕ). p.1) one) in
          key i (omega arith) ∙ (λ t. front t ++ back t ∷ []) ∙ sym (key j (omega arith));
      alike = λ i j p q g.
          let parts = same_from_push (get_or keys i []) (get_or keys j []) (get_or of_values i (values.Int (pos 0))) (get_or of_values j (values.Int (pos 0))) (sym (key i (omega arith)) ∙ g ∙ key j (omega arith)) in
          let front = left.alike i j (omega arith) (omega arith) parts.0 in
          let back = right.alike i j (omega arith) (omega arith) parts.1 in
          pairs.alike i j (omega arith) (omega arith) (pair i (omega arith) ∙ (λ t. (front t, back t)) ∙ sym (pair j (omega arith)));
    }

-- a key with one more column
longer_key : (rows : List (List Value)) (cols : List ℕ) (c i : ℕ) → i < length rows
    → get_or (map (picked (cols ++ c ∷ [])) rows) i [] ≡ get_or (map (picked cols) rows) i [] ++ get_or (column_values c rows) i (values.Int (pos 0)) ∷ []
longer_key rows cols c i h =
    let front = get_or-map (picked cols) rows i [] [] h in
    let back : get_or (column_values c rows) i (values.Int (pos 0)) ≡ value_in (row_in rows i) c = get_or-map (λ (row : List Value). value_in row c) rows i [] (values.Int (pos 0)) h in
    get_or-map (picked (cols ++ c ∷ [])) rows i [] [] h ∙ map_push (value_in (row_in rows i)) cols c ∙ (λ t. sym front t ++ sym back t ∷ [])

pub AreNumbers-more : (rows : List (List Value)) (cols : List ℕ) (c a b count : ℕ) (lefts rights of : List ℕ) → AreNumbers [] (map (picked cols) rows) a lefts → AreNumbers (values.Int (pos 0)) (column_values c rows) b rights
    → AreNumbers (0, 0) (zip lefts rights) count of → AreNumbers [] (map (picked (cols ++ c ∷ [])) rows) count of
AreNumbers-more rows cols c a b count lefts rights of =
    let keys = length-map rows (picked cols) in
    let longer = length-map rows (picked (cols ++ c ∷ [])) in
    let of_values : length (column_values c rows) ≡ length rows = length-map rows (λ (row : List Value). value_in row c) in
    AreNumbers-pairs (map (picked cols) rows) (map (picked (cols ++ c ∷ [])) rows) (column_values c rows) a b count lefts rights of (omega arith) (omega arith) (λ i h. longer_key rows cols c i (omega arith))

-- numbers of values are numbers of the keys of one value each
AreNumbers-ones : (keys : List (List Value)) (of_values : List Value) (count : ℕ) (of : List ℕ) → length keys ≡ length of_values
    → ((i : ℕ) → i < length keys → get_or keys i [] ≡ get_or of_values i (values.Int (pos 0)) ∷ [])
    → AreNumbers (values.Int (pos 0)) of_values count of → AreNumbers [] keys count of
AreNumbers-ones keys of_values count of e key are = record {
  long = are.long ∙ sym e;
  below = are.below;
  same = λ i j p q f. (let one = are.same i j (omega arith) (omega arith) f in key i p ∙ ap (λ (v : Value). v ∷ []) one ∙ sym (key j q));
  alike = λ i j p q f. are.alike i j (omega arith) (omega arith) (same_from_push [] [] (get_or of_values i (values.Int (pos 0))) (get_or of_values j (values.Int (pos 0))) (sym (key i p) ∙ f ∙ key j q)).1;
}

pub AreNumbers-one : (rows : List (List Value)) (c count : ℕ) (of : List ℕ) → AreNumbers (values.Int (pos 0)) (column_values c rows) count of → AreNumbers [] (map (picked (c ∷ [])) rows) count of
AreNumbers-one rows c count of are =
    let keys = length-map rows (picked (c ∷ [])) in
    let of_values : length (column_values c rows) ≡ length rows = length-map rows (λ (row : List Value). value_in row c) in
    AreNumbers-ones (map (picked (c ∷ [])) rows) (column_values c rows) count of (keys ∙ sym of_values)
    (λ i h. longer_key rows [] c i (omega arith) ∙ ap (λ (front : List Value). front ++ get_or (column_values c rows) i (values.Int (pos 0)) ∷ []) (empty_key rows i)) are

-- a key of both sides with one more column
both_longer_key : (ls rs : List (List Value)) (cols others : List ℕ) (c d i : ℕ) → i < length ls + length rs
    → get_or (map (picked (cols ++ c ∷ [])) ls ++ map (picked (others ++ d ∷ [])) rs) i []
    ≡ get_or (map (picked cols) ls ++ map (picked others) rs) i [] ++ get_or (column_values c ls ++ column_values d rs) i (values.Int (pos 0)) ∷ []
both_longer_key ls rs cols others c d i h =
    let keys = length-map ls (picked cols) in
    let longer = length-map ls (picked (cols ++ c ∷ [])) in
    let of_values : length (column_values c ls) ≡ length ls = length-map ls (λ (row : List Value). value_in row c) in
    elim (cases_lt i (length ls)) [
      | inl less ↦ (
          let front = get_or_append_left (map (picked cols) ls) (map (picked others) rs) [] i (omega arith) in
          let back = get_or_append_left (column_values c ls) (column_values d rs) (values.Int (pos 0)) i (omega arith) in
          get_or_append_left (map (picked (cols ++ c ∷ [])) ls) (map (picked (others ++ d ∷ [])) rs) [] i (omega arith) ∙ longer_key ls cols c i less ∙ (λ t. sym front t ++ sym back t ∷ []))
      | inr more ↦ (
          let k = i - length ls in
          let front = get_or-append_right (map (picked cols) ls) (map (picked others) rs) (length ls) i [] keys more in
          let back = get_or-append_right (column_values c ls) (column_values d rs) (length ls) i (values.Int (pos 0)) of_values more in
          get_or-append_right (map (picked (cols ++ c ∷ [])) ls) (map (picked (others ++ d ∷ [])) rs) (length ls) i [] longer more ∙ longer_key rs others d k (omega arith) ∙ (λ t. sym front t ++ sym back t ∷ []))
    ]

pub both_long : {A B : Type 0} (ls rs : List A) (f g : A → B) → length (map f ls ++ map g rs) ≡ length ls + length rs
both_long ls rs f g = length-append (map f ls) (map g rs) ∙ (λ t. length-map ls f t + length-map rs g t)

pub AreNumbers-both_more : (ls rs : List (List Value)) (cols others : List ℕ) (c d a b count : ℕ) (lefts rights of : List ℕ) → AreNumbers [] (map (picked cols) ls ++ map (picked others) rs) a lefts
    → AreNumbers (values.Int (pos 0)) (column_values c ls ++ column_values d rs) b rights → AreNumbers (0, 0) (zip lefts rights) count of
    → AreNumbers [] (map (picked (cols ++ c ∷ [])) ls ++ map (picked (others ++ d ∷ [])) rs) count of
AreNumbers-both_more ls rs cols others c d a b count lefts rights of =
    let keys : length (map (picked cols) ls ++ map (picked others) rs) ≡ length ls + length rs = both_long ls rs (picked cols) (picked others) in
    let longer : length (map (picked (cols ++ c ∷ [])) ls ++ map (picked (others ++ d ∷ [])) rs) ≡ length ls + length rs = both_long ls rs (picked (cols ++ c ∷ [])) (picked (others ++ d ∷ [])) in
    let of_values : length (column_values c ls ++ column_values d rs) ≡ length ls + length rs = both_long ls rs (λ (row : List Value). value_in row c) (λ (row : List Value). value_in row d) in
    AreNumbers-pairs _ _ (column_values c ls ++ column_values d rs) a b count lefts rights of (omega arith) (omega arith) (λ i h. both_longer_key ls rs cols others c d i (omega arith))

-- numbers of what values have are numbers of the values
pub AreNumbers-map : {A : Type 0} (f : A → Value) (inner : (a b : A) → f a ≡ f b → a ≡ b) (none : A) (items : List A) (count : ℕ) (of : List ℕ) → AreNumbers none items count of → AreNumbers (values.Int (pos 0)) (map f items) count of
AreNumbers-map f inner none items count of are =
    let long = length-map items f in
    let at : (i : ℕ) → i < length items → get_or (map f items) i (values.Int (pos 0)) ≡ f (get_or items i none) = (λ i h. get_or-map f items i none (values.Int (pos 0)) h) in
    record {
      long = are.long ∙ sym long;
      below = are.below;
      same = λ i j p q g. at i (omega arith) ∙ ap f (are.same i j (omega arith) (omega arith) g) ∙ sym (at j (omega arith));
      alike = λ i j p q g. are.alike i j (omega arith) (omega arith) (inner (get_or items i none) (get_or items j none) (sym (at i (omega arith)) ∙ g ∙ at j (omega arith)));
    }

pub AreNumbers-ints : (ls rs : List ℤ) (lefts rights : List Value) (count : ℕ) (of : List ℕ) → map values.Int ls ≡ lefts → map values.Int rs ≡ rights → AreNumbers (pos 0) (ls ++ rs) count of → AreNumbers (values.Int (pos 0)) (lefts ++ rights) count of
AreNumbers-ints ls rs lefts rights count of e f are =
    let all : map values.Int (ls ++ rs) ≡ lefts ++ rights = map-append values.Int ls rs ∙ (λ t. e t ++ f t) in
    subst (λ items. AreNumbers (values.Int (pos 0)) items count of) all (AreNumbers-map values.Int (λ a b g. cc) (pos 0) (ls ++ rs) count of are)

-- a column beside one of texts is of texts
pub alike-text : (a b : Kind) → AreAlike a b → a ≡ kinds.Text → b ≡ kinds.Text
alike-text (kinds.Int m) b h e = absurd (cc)
alike-text kinds.Text (kinds.Int n) h e = absurd h
alike-text kinds.Text kinds.Text h e = refl

text_is : (v : Value) → Fits kinds.Text v → values.Text (text_of v) ≡ v
text_is (values.Int n) h = absurd h
text_is (values.Text t) h = refl

-- the values in a column of texts are its texts
texts-are : (of_kinds : List Kind) (rows : List (List Value)) (c : ℕ) → All (RowFits of_kinds) rows → c < length of_kinds → kind_in of_kinds c ≡ kinds.Text → map values.Text (column_texts c rows) ≡ column_values c rows
texts-are of_kinds rows c fit h text =
    let f = λ (row : List Value). text_of (value_in row c) in
    let g = λ (row : List Value). value_in row c in
    let long : length (map values.Text (map f rows)) ≡ length rows = length-map (map f rows) values.Text ∙ length-map rows f in
    same_lists (map values.Text (map f rows)) (map g rows) (long ∙ sym (length-map rows g))
    (λ k d q.
    let inside : k < length rows = omega arith in
    let fits : Fits kinds.Text (value_in (row_in rows k) c) = subst (λ (kind : Kind). Fits kind (value_in (row_in rows k) c)) text (Fits-value_in of_kinds rows k c fit inside h) in
    get_or-map values.Text (map f rows) k [] d (omega (arith, length-map rows f)) ∙ ap values.Text (get_or-map f rows k [] [] inside) ∙ text_is (value_in (row_in rows k) c) fits ∙ sym (get_or-map g rows k [] d inside))

pub AreNumbers-texts : (lks rks : List Kind) (ls rs : List (List Value)) (c d count : ℕ) (of : List ℕ) → All (RowFits lks) ls → All (RowFits rks) rs → c < length lks → d < length rks → kind_in lks c ≡ kinds.Text → kind_in rks d ≡ kinds.Text
    → AreNumbers [] (column_texts c ls ++ column_texts d rs) count of → AreNumbers (values.Int (pos 0)) (column_values c ls ++ column_values d rs) count of
AreNumbers-texts lks rks ls rs c d count of fit fits h k e f are =
    let all : map values.Text (column_texts c ls ++ column_texts d rs) ≡ column_values c ls ++ column_values d rs = map-append values.Text (column_texts c ls) (column_texts d rs) ∙ (λ t. texts-are lks ls c fit h e t ++ texts-are rks rs d fits k f t) in
    subst (λ items. AreNumbers (values.Int (pos 0)) items count of) all (AreNumbers-map values.Text (λ a b g. cc) [] (column_texts c ls ++ column_texts d rs) count of are)

-- how many items there are from one place up to another
pub length-range : {X : Type 0} (items : List X) (from to : ℕ) → from ≤ to → to ≤ length items → length (slice_range items from to) ≡ to - from
length-range items from to order within = length-take-le (to - from) (drop from items) (omega (arith, length-drop from items))

-- those from one place up to another, and one more
pub range-more : {X : Type 0} (items : List X) (from i : ℕ) (d : X) → from ≤ i → i < length items → slice_range items from i ++ get_or items i d ∷ [] ≡ slice_range items from (i + 1)
range-more items from i d order within =
    let e : (i + 1) - from ≡ (i - from) + 1 = omega arith in
    let at : from + (i - from) ≡ i = omega arith in
    ap (λ x. slice_range items from i ++ x ∷ []) (sym (get_or-drop from items (i - from) d ∙ ap (λ k. get_or items k d) at)) ∙ sym (take_more (drop from items) (i - from) d (omega (arith, length-drop from items)))
    ∙ ap (λ k. take k (drop from items)) (sym e)

-- numbers of items are, of those from one place up to another, their numbers
pub AreNumbers-range : {X : Type 0} (none : X) (items : List X) (count : ℕ) (of : List ℕ) (from to : ℕ) → AreNumbers none items count of → from ≤ to → to ≤ length items → AreNumbers none (slice_range items from to) count (slice_range of from to)
AreNumbers-range {X} none items count of from to are order within =
    let long_items : length (slice_range items from to) ≡ to - from = length-range items from to order within in
    let long_of : length (slice_range of from to) ≡ to - from = length-range of from to order (omega (arith, are.long)) in
    let item_at : (i : ℕ) → i < to - from → get_or (slice_range items from to) i none ≡ get_or items (from + i) none = (λ i h. get_or-take (to - from) (drop from items) i none h ∙ get_or-drop from items i none) in
    let number_at : (i : ℕ) → i < to - from → get_or (slice_range of from to) i 0 ≡ get_or of (from + i) 0 = (λ i h. get_or-take (to - from) (drop from of) i 0 h ∙ get_or-drop from of i 0) in
    record {
      long = long_of ∙ sym long_items;
      below = λ i d h. rw (get_or_default (slice_range of from to) i d 0 h, number_at i (omega arith)) (are.below (from + i) 0 (omega (arith, are.long)));
      same = λ i j h l e. item_at i (omega arith) ∙ are.same (from + i) (from + j) (omega arith) (omega arith) (sym (number_at i (omega arith)) ∙ e ∙ number_at j (omega arith)) ∙ sym (item_at j (omega arith));
      alike = λ i j h l e. number_at i (omega arith) ∙ are.alike (from + i) (from + j) (omega arith) (omega arith) (sym (item_at i (omega arith)) ∙ e ∙ item_at j (omega arith)) ∙ sym (number_at j (omega arith));
    }

-- the values in a column of the rows from one place up to another
pub column-range : (c : ℕ) (rows : List (List Value)) (from to : ℕ) → column_values c (slice_range rows from to) ≡ slice_range (column_values c rows) from to
column-range c rows from to =
    let g = λ (row : List Value). value_in row c in
    sym (take-map g (to - from) (drop from rows)) ∙ ap (take (to - from)) (sym (drop-map g from rows))

-- numbers of the ints of a column
pub AreNumbers-ints_range : (c : ℕ) (rows : List (List Value)) (ns : List ℤ) (from to count : ℕ) (of : List ℕ) → map values.Int ns ≡ column_values c rows → AreNumbers (pos 0) (slice_range ns from to) count of → AreNumbers (values.Int (pos 0)) (column_values c (slice_range rows from to)) count of
AreNumbers-ints_range c rows ns from to count of e are =
    let all : map values.Int (slice_range ns from to) ≡ column_values c (slice_range rows from to) =
    sym (take-map values.Int (to - from) (drop from ns)) ∙ ap (take (to - from)) (sym (drop-map values.Int from ns)) ∙ ap (λ (vs : List Value). slice_range vs from to) e ∙ sym (column-range c rows from to) in
    subst (λ items. AreNumbers (values.Int (pos 0)) items count of) all (AreNumbers-map values.Int (λ a b g. cc) (pos 0) (slice_range ns from to) count of are)

-- the codes of the texts of a column are numbers
pub AreNumbers-codes_range : (c : ℕ) (rows : List (List Value)) (codes : List ℕ) (from to count : ℕ) → AreCodesOf (column_values c rows) codes → All (λ code. code < count) codes → from ≤ to → to ≤ length rows → AreNumbers (values.Int (pos 0)) (column_values c (slice_range rows from to)) count (slice_range codes from to)
AreNumbers-codes_range c rows codes from to count are below order within =
    let long : length (column_values c rows) ≡ length rows = length-map rows (λ (row : List Value). value_in row c) in
    rw (column-range c rows from to) (AreNumbers-range (values.Int (pos 0)) (column_values c rows) count codes from to (record { long = are.long; below = below; same = are.same; alike = are.alike }) order (omega arith))
