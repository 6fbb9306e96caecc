-- Numbers of rows that are numbered part by part.
use Rattle.std.proofs.{Common.{◌≡◌, ◌∙◌, ◌<◌, ◌≤◌, ◌+◌, ◌-◌, ℕ, List, [], ◌++◌, length, map, get_or, take, drop, ap, sym, refl, arith, inl, inr, length-append, All, subst}, lemmas.Bool.cases_lt, lemmas.List.{get_or_append_left, get_or-append_right, get_or-map, get_or-take, get_or-drop, get_or_default, length-map, length-drop, take-map, drop-map, length-take-le}}
use Rattle.std.specs.Prelude.{slice_range}
use Rattle.smk_base.specs.Rels.{Relation, row_in, rows_at}
use Rattle.smk_model.specs.{Values.Row, Plain.key_of, Lineage.row_at}
use Rattle.smk_keys.specs.{Classes.{ClassesImage, classes_of}, Joined.{key_total, numbers_from}, Keys.key_eq}
use Rattle.smk_keys.proofs.{Firsts.AreClasses, Classing.classing-classes, PartNumbers.{keys_more, numbers_more}, Placed.AreClasses-keys, Rowed.key_same}
use Rattle.smk_body.specs.{Halves.AreNumbered, Renumbered.{HasKeys, StandFor}}
use Rattle.smk_body.proofs.Classing.{are_numbered, few_firsts}
use Rattle.smk_jobs.specs.Cuts.{AreParts, cut_at}
use Rattle.smk_jobs.proofs.Cutting.{cut_grows, cut_within}

pub length_range : (rows : List Row) (n m : ℕ) → n ≤ m → m ≤ length rows → length (slice_range rows n m) ≡ m - n
length_range rows n m h l = length-take-le (m - n) (drop n rows) (omega (arith, length-drop n rows))

range_at : (rows : List Row) (n m i : ℕ) → n + i < m → row_at (slice_range rows n m) i ≡ row_at rows (n + i)
range_at rows n m i h = get_or-take (m - n) (drop n rows) i [] (omega arith) ∙ get_or-drop n rows i []

-- the number of place i, a moved one
moved_at : (n : ℕ) (xs : List ℕ) (i : ℕ) → i < length xs → get_or (map (λ x. n + x) xs) i 0 ≡ n + get_or xs i 0
moved_at n xs i h = get_or-map (λ x. n + x) xs i 0 0 h

module _ (keys : List Row) (n m : ℕ) (firsts of : List ℕ) (so : StandFor keys n firsts of) (order : n ≤ m) (within : m ≤ length keys) where
  abbrev range : List Row
  range = slice_range keys n m

  abbrev made : ClassesImage
  made = classes_of range

  are : AreClasses [] range made.of made.firsts
  are = AreClasses-keys range

  long_range_keys : length range ≡ m - n
  long_range_keys = length_range keys n m order within

  abbrev F : List ℕ
  F = firsts ++ map (λ x. n + x) made.firsts

  abbrev N : List ℕ
  N = of ++ map (λ x. length firsts + x) made.of

  long_F : length F ≡ length firsts + length made.firsts
  long_F = length-append firsts (map (λ x. n + x) made.firsts) ∙ ap (λ k. length firsts + k) (length-map made.firsts (λ x. n + x))

  old_first : (k : ℕ) → k < length firsts → get_or F k 0 ≡ get_or firsts k 0
  old_first k h = get_or_append_left firsts (map (λ x. n + x) made.firsts) 0 k h

  new_first : (k : ℕ) → length firsts ≤ k → k < length F → get_or F k 0 ≡ n + get_or made.firsts (k - length firsts) 0
  new_first k h l = get_or-append_right firsts (map (λ x. n + x) made.firsts) (length firsts) k 0 refl h ∙ moved_at n made.firsts (k - length firsts) (omega (arith, long_F))

  old_number : (i : ℕ) → i < n → get_or N i 0 ≡ get_or of i 0
  old_number i h = get_or_append_left of (map (λ x. length firsts + x) made.of) 0 i (omega (arith, so.long))

  new_number : (i : ℕ) → n ≤ i → i < m → get_or N i 0 ≡ length firsts + get_or made.of (i - n) 0
  new_number i h l = get_or-append_right of (map (λ x. length firsts + x) made.of) n i 0 so.long h ∙ moved_at (length firsts) made.of (i - n) (omega (arith, are.long, long_range_keys))

  -- with the keys of one part more
  pub stand_more : StandFor keys m F N
  stand_more = record {
    long = omega (arith, length-append of (map (λ x. length firsts + x) made.of), length-map made.of (λ x. length firsts + x), so.long, are.long, long_range_keys);
    few = omega (arith, long_F, so.few, few_firsts range, long_range_keys);
    within = λ i h. elim (cases_lt i n) [
      | inl old ↦ omega (arith, old_number i old, so.within i old, long_F)
      | inr new ↦ omega (arith, new_number i new h, are.within (i - n) (omega (arith, long_range_keys)), long_F)
    ];
    place = λ k h. elim (cases_lt k (length firsts)) [
      | inl old ↦ omega (arith, old_first k old, so.place k old)
      | inr new ↦ omega (arith, new_first k new h, are.place (k - length firsts) (omega (arith, long_F)), long_range_keys)
    ];
    at = λ k h. elim (cases_lt k (length firsts)) [
      | inl old ↦ ap (λ i. get_or N i 0) (old_first k old) ∙ old_number (get_or firsts k 0) (so.place k old) ∙ so.at k old
      | inr new ↦ (
          let j = k - length firsts in
          let low : j < length made.firsts = omega (arith, long_F) in
          let there = are.place j low in
          let back : n + get_or made.firsts j 0 - n ≡ get_or made.firsts j 0 = omega arith in
          ap (λ i. get_or N i 0) (new_first k new h) ∙ new_number (n + get_or made.firsts j 0) (omega arith) (omega (arith, there, long_range_keys))
          ∙ ap (λ i. length firsts + get_or made.of i 0) back ∙ ap (λ i. length firsts + i) (are.at j low) ∙ omega arith)
    ];
    first = λ k i h l. elim (cases_lt k (length firsts)) [
      | inl old ↦ (
          let before : i < get_or firsts k 0 = omega (arith, old_first k old, l) in
          omega (arith, old_number i (omega (arith, so.place k old)), so.first k i old before))
      | inr new ↦ elim (cases_lt i n) [
        | inl before ↦ omega (arith, old_number i before, so.within i before)
        | inr behind ↦ (
            let j = k - length firsts in
            let low : j < length made.firsts = omega (arith, long_F) in
            let there = are.place j low in
            let is = new_first k new h in
            omega (arith, new_number i behind (omega (arith, is, l, there, long_range_keys)), are.first j (i - n) low (omega (arith, is, l))))
      ]
    ];
    same = λ i h. elim (cases_lt i n) [
      | inl old ↦ ap (λ k. row_at keys (get_or F k 0)) (old_number i old) ∙ ap (row_at keys) (old_first (get_or of i 0) (so.within i old)) ∙ so.same i old
      | inr new ↦ (
          let j = i - n in
          let low : j < length range = omega (arith, long_range_keys) in
          let c = get_or made.of j 0 in
          let inside : c < length made.firsts = are.within j low in
          let there = are.place c inside in
          let back : length firsts + c - length firsts ≡ c = omega arith in
          let here : n + j ≡ i = omega arith in
          ap (λ k. row_at keys (get_or F k 0)) (new_number i new h) ∙ ap (row_at keys) (new_first (length firsts + c) (omega arith) (omega (arith, long_F)) ∙ ap (λ k. n + get_or made.firsts k 0) back)
          ∙ sym (range_at keys n m (get_or made.firsts c 0) (omega (arith, there, long_range_keys)))
          ∙ are.same (get_or made.firsts c 0) j there low (are.at c inside)
          ∙ range_at keys n m j (omega arith) ∙ ap (row_at keys) here)
    ];
  }

-- the classes of the keys that stand for all are, taken at the numbers, those of all
module _ (keys : List Row) (firsts of : List ℕ) (so : StandFor keys (length keys) firsts of) where
  abbrev first_keys : List Row
  first_keys = map (row_in keys) firsts

  abbrev again : ClassesImage
  again = classes_of first_keys

  fewer : AreClasses [] first_keys again.of again.firsts
  fewer = AreClasses-keys first_keys

  long_first : length first_keys ≡ length firsts
  long_first = length-map firsts (row_in keys)

  key_at : (k : ℕ) → k < length firsts → row_at first_keys k ≡ row_at keys (get_or firsts k 0)
  key_at k h = get_or-map (row_in keys) firsts k 0 [] h

  abbrev of_all : List ℕ
  of_all = map (λ k. get_or again.of k 0) of

  abbrev firsts_all : List ℕ
  firsts_all = map (λ k. get_or firsts k 0) again.firsts

  number_at : (i : ℕ) → i < length keys → get_or of_all i 0 ≡ get_or again.of (get_or of i 0) 0
  number_at i h = get_or-map (λ k. get_or again.of k 0) of i 0 0 (omega (arith, so.long))

  place_at : (k : ℕ) → k < length again.firsts → get_or firsts_all k 0 ≡ get_or firsts (get_or again.firsts k 0) 0
  place_at k h = get_or-map (λ k. get_or firsts k 0) again.firsts k 0 0 h

  long_all : length firsts_all ≡ length again.firsts
  long_all = length-map again.firsts (λ k. get_or firsts k 0)

  key_of_number : (i : ℕ) → i < length keys → row_at first_keys (get_or of i 0) ≡ row_at keys i
  key_of_number i h = key_at (get_or of i 0) (so.within i h) ∙ so.same i h

  low : (k : ℕ) → k < length again.firsts → get_or again.firsts k 0 < length firsts
  low k h = omega (arith, fewer.place k h, long_first)

  are_classes : AreClasses [] keys of_all firsts_all
  are_classes = record {
    long = length-map of (λ k. get_or again.of k 0) ∙ so.long;
    within = λ i h. omega (arith, number_at i h, fewer.within (get_or of i 0) (omega (arith, so.within i h, long_first)), long_all);
    same = λ i j h l e. sym (key_of_number i h) ∙ fewer.same (get_or of i 0) (get_or of j 0) (omega (arith, so.within i h, long_first)) (omega (arith, so.within j l, long_first)) (sym (number_at i h) ∙ e ∙ number_at j l) ∙ key_of_number j l;
    alike = λ i j h l e. number_at i h ∙ fewer.alike (get_or of i 0) (get_or of j 0) (omega (arith, so.within i h, long_first)) (omega (arith, so.within j l, long_first)) (key_of_number i h ∙ e ∙ sym (key_of_number j l)) ∙ sym (number_at j l);
    place = λ k h. (let inside : k < length again.firsts = omega (arith, long_all) in omega (arith, place_at k inside, so.place (get_or again.firsts k 0) (low k inside)));
    at = λ k h. (
        let inside : k < length again.firsts = omega (arith, long_all) in
        let p = get_or again.firsts k 0 in
        ap (λ i. get_or of_all i 0) (place_at k inside) ∙ number_at (get_or firsts p 0) (so.place p (low k inside)) ∙ ap (λ i. get_or again.of i 0) (so.at p (low k inside)) ∙ fewer.at k inside);
    first = λ k i h l. (
        let inside : k < length again.firsts = omega (arith, long_all) in
        let p = get_or again.firsts k 0 in
        let before : i < get_or firsts p 0 = omega (arith, place_at k inside) in
        let small : i < length keys = omega (arith, so.place p (low k inside)) in
        omega (arith, number_at i small, fewer.first k (get_or of i 0) inside (so.first p i (low k inside) before)));
  }

  pub stand_classes : (made : ClassesImage) → made.of ≡ of_all → made.firsts ≡ firsts_all → made ≡ classes_of keys
  stand_classes = classing-classes key_eq key_same [] keys of_all firsts_all are_classes

-- the keys of the rows from one place up to another
range-keys : (f : Row → Row) (rows : List Row) (n m : ℕ) → map f (slice_range rows n m) ≡ slice_range (map f rows) n m
range-keys f rows n m = sym (take-map f (m - n) (drop n rows)) ∙ ap (take (m - n)) (sym (drop-map f n rows))

-- one part more, whose classes stand in it
module _ (f : Row → Row) (rows : List Row) (n m : ℕ) (part : ClassesImage) (is : part ≡ classes_of (map f (slice_range rows n m))) (order : n ≤ m) (within : m ≤ length rows) where
  long_keys : length (map f rows) ≡ length rows
  long_keys = length-map rows f

  is_part : part ≡ classes_of (slice_range (map f rows) n m)
  is_part = is ∙ ap classes_of (range-keys f rows n m)

  numbered_part : AreNumbered (length (slice_range (map f rows) n m)) part
  numbered_part = subst (AreNumbered (length (slice_range (map f rows) n m))) (sym is_part) (are_numbered (slice_range (map f rows) n m))

  long_range : length (slice_range (map f rows) n m) ≡ m - n
  long_range = length_range (map f rows) n m order (omega (arith, long_keys))

  pub stand_next : (firsts of : List ℕ) → StandFor (map f rows) n firsts of → StandFor (map f rows) m (firsts ++ map (λ x. n + x) part.firsts) (of ++ map (λ x. length firsts + x) part.of)
  stand_next firsts of so =
      subst (λ (made : ClassesImage). StandFor (map f rows) m (firsts ++ map (λ x. n + x) made.firsts) (of ++ map (λ x. length firsts + x) made.of)) (sym is_part)
      (stand_more (map f rows) n m firsts of so order (omega (arith, long_keys)))

  -- the moved places stay small
  pub places_small : (bound : ℕ) → length rows < bound → All (λ x. n + x < bound) part.firsts
  places_small bound small = λ k d h. (let at = numbered_part.within k d h in omega (arith, at, long_range))

-- the keys of part p behind those of the parts before it
module _ (keys : List ℕ) (rows : List Row) (workers p : ℕ) (made : List ClassesImage) (part : ClassesImage) (below : p < workers)
    (are : AreParts (λ q. HasKeys keys rows (cut_at workers (length rows) q) (cut_at workers (length rows) (q + 1))) workers made) (read : part ≡ get_or made p part) where
  abbrev from : ℕ
  from = cut_at workers (length rows) p

  abbrev to : ℕ
  to = cut_at workers (length rows) (p + 1)

  has : HasKeys keys rows from to part
  has = subst (HasKeys keys rows from to) (sym read) (are.1 p part below)

  order : from ≤ to
  order = cut_grows workers (length rows) p below

  within : to ≤ length rows
  within = cut_within workers (length rows) (p + 1) (omega arith)

  pub next_keys : (firsts : List ℕ) → length firsts ≡ key_total (take p made) → length (firsts ++ map (λ x. from + x) part.firsts) ≡ key_total (take (p + 1) made)
  next_keys firsts long =
      length-append firsts (map (λ x. from + x) part.firsts) ∙ ap (λ k. length firsts + k) (length-map part.firsts (λ x. from + x))
      ∙ keys_more made p part (omega (arith, are.0)) read (length firsts) long

  pub next_numbers : (firsts : List ℕ) → length firsts ≡ key_total (take p made) → StandFor (map (key_of keys) rows) from firsts (numbers_from 0 (take p made))
      → StandFor (map (key_of keys) rows) to (firsts ++ map (λ x. from + x) part.firsts) (numbers_from 0 (take (p + 1) made))
  next_numbers firsts long so =
      subst (StandFor (map (key_of keys) rows) to (firsts ++ map (λ x. from + x) part.firsts)) (sym (numbers_more made p part (omega (arith, are.0)) read (length firsts) long))
      (stand_next (key_of keys) rows from to (part) has order within firsts (numbers_from 0 (take p made)) so)

  pub places_fit : (bound : ℕ) → length rows < bound → All (λ x. from + x < bound) part.firsts
  places_fit = places_small (key_of keys) rows from to (part) has order within

-- the classes of the first keys
pub first_classes : (keys : List Row) (places taken : List ℕ) (picked first : Relation) (made : ClassesImage) → picked.rows ≡ keys → taken ≡ places → first.rows ≡ rows_at picked.rows taken → made ≡ classes_of first.rows → made ≡ classes_of (map (row_in keys) places)
first_classes keys places taken picked first _ e t is so = so ∙ ap classes_of (is ∙ ap (λ L. rows_at L taken) e ∙ ap (rows_at keys) t)

-- their first places are places of first keys
pub firsts_within : (keys : List Row) (places : List ℕ) (made : ClassesImage) → made ≡ classes_of (map (row_in keys) places) → All (λ i. i < length places) made.firsts
firsts_within keys places made e =
    let first = map (row_in keys) places in
    subst (λ (classes : ClassesImage). All (λ i. i < length places) classes.firsts) (sym e)
    (λ k d h. (let at = (are_numbered first).within k d h in omega (arith, at, length-map places (row_in keys))))

-- the numbers are of first keys
pub stand_numbers : (keys : List Row) (n : ℕ) (firsts of : List ℕ) → StandFor keys n firsts of → All (λ number. number < length firsts) of
stand_numbers keys n firsts of so = λ i d h. rw (get_or_default of i d 0 h) (so.within i (omega (arith, so.long)))

-- the first keys have as many classes as places
pub classes_long : (keys : List Row) (places : List ℕ) (classes : ClassesImage) → classes ≡ classes_of (map (row_in keys) places) → length classes.of ≡ length places
classes_long keys places classes e = ap (λ (m : ClassesImage). length m.of) e ∙ (AreClasses-keys (map (row_in keys) places)).long ∙ length-map places (row_in keys)
