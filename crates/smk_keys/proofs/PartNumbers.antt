-- The numbers of rows that are numbered part by part.
use Rattle.std.proofs.{Common.{◌≡◌, ◌∙◌, ◌<◌, ◌+◌, ℕ, List, [], ◌∷◌, ◌++◌, length, map, get_or, take, drop, ap, ap₂, sym, arith, length-append, All, subst}, lemmas.Simd.map-map, lemmas.List.{get_or_append_left, get_or-append-add, get_or-map, length-map, take_more, take-append-drop, append-nil, append_assoc, map-append}, lemmas.List.Sums.{sum_by-cons, sum_by_push}}
use Rattle.smk_keys.specs.{Classes.ClassesImage, Joined.{key_total, numbers_from}}

-- of parts and further ones, the numbers of the further ones begin behind the keys of the others
numbers_append : (base : ℕ) (low high : List ClassesImage) → numbers_from base (low ++ high) ≡ numbers_from base low ++ numbers_from (base + key_total low) high
numbers_append base [] high = ap (λ b. numbers_from b high) (let none : base ≡ base + 0 = omega arith in none)
numbers_append base (part ∷ low) high =
    let keys : base + length part.firsts + key_total low ≡ base + key_total (part ∷ low) = omega (arith, sum_by-cons (λ q. length q.firsts) part low) in
    ap (λ rest. map (λ x. base + x) part.of ++ rest) (numbers_append (base + length part.firsts) low high ∙ ap (λ b. numbers_from (base + length part.firsts) low ++ numbers_from b high) keys)
    ∙ sym (append_assoc (map (λ x. base + x) part.of) (numbers_from (base + length part.firsts) low) (numbers_from (base + key_total (part ∷ low)) high))

-- those of one part
numbers_one : (base : ℕ) (part : ClassesImage) → numbers_from base (part ∷ []) ≡ map (λ x. base + x) part.of
numbers_one base part = append-nil (map (λ x. base + x) part.of)

numbers_push : (base : ℕ) (parts : List ClassesImage) (part : ClassesImage) → numbers_from base (parts ++ part ∷ []) ≡ numbers_from base parts ++ map (λ x. base + key_total parts + x) part.of
numbers_push base parts part = numbers_append base parts (part ∷ []) ∙ ap (λ rest. numbers_from base parts ++ rest) (numbers_one (base + key_total parts) part)

-- one part more, whose numbers begin behind the keys of the parts before it
module _ (parts : List ClassesImage) (i : ℕ) (part : ClassesImage) (below : i < length parts) (read : part ≡ get_or parts i part) (from : ℕ) (count : from ≡ key_total (take i parts)) where
  abbrev before : List ℕ
  before = numbers_from 0 (take i parts)

  abbrev moved : List ℕ
  moved = map (λ x. from + x) part.of

  so_far : take (i + 1) parts ≡ take i parts ++ part ∷ []
  so_far = take_more parts i part below ∙ ap (λ x. take i parts ++ x ∷ []) (sym read)

  pub keys_more : from + length part.firsts ≡ key_total (take (i + 1) parts)
  keys_more = ap (λ k. k + length part.firsts) count ∙ sym (ap key_total so_far ∙ sum_by_push (λ q. length q.firsts) (take i parts) part)

  pub numbers_more : numbers_from 0 (take (i + 1) parts) ≡ before ++ moved
  numbers_more =
      ap (numbers_from 0) so_far ∙ numbers_push 0 (take i parts) part
      ∙ ap (λ b. before ++ map (λ x. b + x) part.of) (let same : 0 + key_total (take i parts) ≡ from = omega (arith, count) in same)

  -- what a table has for them
  pub entries_more : (table of : List ℕ) → of ≡ map (λ k. get_or table k 0) before → of ++ map (λ class. get_or table (from + class) 0) part.of ≡ map (λ k. get_or table k 0) (numbers_from 0 (take (i + 1) parts))
  entries_more table of is =
      let entry = λ (k : ℕ). get_or table k 0 in
      ap₂ ◌++◌ is (sym (map-map entry (λ x. from + x) part.of)) ∙ sym (map-append entry before moved) ∙ ap (map entry) (sym numbers_more)

  -- they are among the numbers of all parts
  pub moved_within : (n : ℕ) → All (λ number. number < n) (numbers_from 0 parts) → All (λ class. from + class < n) part.of
  moved_within n all = λ k d h. (
      let rest = numbers_from (0 + key_total (take (i + 1) parts)) (drop (i + 1) parts) in
      let split : numbers_from 0 parts ≡ (before ++ moved) ++ rest =
      ap (numbers_from 0) (sym (take-append-drop (i + 1) parts)) ∙ numbers_append 0 (take (i + 1) parts) (drop (i + 1) parts) ∙ ap (λ numbers. numbers ++ rest) numbers_more in
      let long = length-map part.of (λ x. from + x) in
      let inside : length before + k < length (before ++ moved) = omega (arith, h, length-append before moved, long) in
      let at : get_or ((before ++ moved) ++ rest) (length before + k) (from + d) ≡ from + get_or part.of k d =
      get_or_append_left (before ++ moved) rest (from + d) (length before + k) inside ∙ get_or-append-add before moved k (from + d) ∙ get_or-map (λ x. from + x) part.of k d (from + d) h in
      subst (λ x. x < n) at (subst (All (λ number. number < n)) split all (length before + k) (from + d) (omega (arith, inside, length-append (before ++ moved) rest))))
