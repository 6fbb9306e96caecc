-- The first value that some of the first numbers have.
use Rattle.std.proofs.{Common.{◌≡◌, ℕ, zero, suc, ◌+◌, ◌<◌, ◌≤◌, List, [], ◌∷◌, ◌++◌, length, map, take, get_or, refl, ap, sym, ◌∙◌, arith, Option, Some, None, inl, inr}, lemmas.Bool.cases_lt, lemmas.List.map-append, lemmas.List.Sums.{sum_by_more, sum_by-take-le}}
use Rattle.std.specs.{List.sum_by, Option.option_or}
use Rattle.smk_base.specs.{CatalogImage.ViewImage, Places.upto, Rels.Relation, declared.book.catalog.Catalog.Catalog}
use Rattle.smk_model.specs.{Opening.{ViewFault, first_some}, Looks.{looks_of_view, looks_of_back, start_looks}, Session.{Workbook, no_view}}
use Rattle.smk_session.specs.{Opened.{IsStartFault, workbook_image}, declared.start.fault.StartFault.StartFault, declared.start.fault.StartFault.TheVariants.NoMemory}

or_or : {X : Type 0} (a b c : Option X) → option_or a (option_or b c) ≡ option_or (option_or a b) c
or_or (Some x) b c = refl
or_or None b c = refl

or_none : {X : Type 0} (o : Option X) → option_or o None ≡ o
or_none (Some x) = refl
or_none None = refl

pub first_append : {A B : Type 0} (value : A → Option B) (xs ys : List A) → first_some value (xs ++ ys) ≡ option_or (first_some value xs) (first_some value ys)
first_append value [] ys = refl
first_append value (x ∷ xs) ys = ap (option_or (value x)) (first_append value xs ys) ∙ or_or (value x) (first_some value xs) (first_some value ys)

-- one number more
pub first_more : {B : Type 0} (value : ℕ → Option B) (n : ℕ) → first_some value (upto (suc n)) ≡ option_or (first_some value (upto n)) (value n)
first_more value n = first_append value (upto n) (n ∷ []) ∙ ap (option_or (first_some value (upto n))) (or_none (value n))

pub none_more : {B : Type 0} (value : ℕ → Option B) (n : ℕ) → first_some value (upto n) ≡ None → value n ≡ None → first_some value (upto (n + 1)) ≡ None
none_more value n before here = let e : n + 1 ≡ suc n = omega arith in rw e (first_more value n ∙ rw (before, here) refl)

-- the value of the first number that has one, of any more
pub first_is : {B : Type 0} (value : ℕ → Option B) (n i : ℕ) (b : B) → i < n → first_some value (upto i) ≡ None → value i ≡ Some b → first_some value (upto n) ≡ Some b
first_is value zero i b low before here = absurd (omega arith)
first_is value (suc n) i b low before here = first_more value n ∙ elim (cases_lt i n) [
  | inl l ↦ rw (first_is value n i b l before here) refl
  | inr g ↦ (let e : n ≡ i = omega arith in rw (e, before, here) refl)
]

-- the fault of the first view that has one is the first fault
pub fault_first : (fault : StartFault) (value : ℕ → Option ViewFault) (n i : ℕ) → i < n → first_some value (upto i) ≡ None → IsStartFault fault (value i) → IsStartFault fault (first_some value (upto n))
fault_first NoMemory value n i low before here = tt
fault_first _ value n i low before here = first_is value n i _ low before here

-- the looks of the views so far, and of one view more

pub looks_more : (f : ViewImage → ℕ) (views : List ViewImage) (i start before after : ℕ) → i < length views → before ≤ start + sum_by f (take i views) → after ≤ before + f (get_or views i no_view)
    → after ≤ start + sum_by f (take (i + 1) views)
looks_more f views i start before after low so_far here = omega (arith, so_far, here, sum_by_more f views i no_view low)

pub looks_within : (f : ViewImage → ℕ) (views : List ViewImage) (i start after : ℕ) → after ≤ start + sum_by f (take i views) → after ≤ start + sum_by f views
looks_within f views i start after h = omega (arith, h, sum_by-take-le f views i)

pub start_within : (book : Workbook) (start after : ℕ) → after ≤ start + sum_by (looks_of_view book) book.catalog.views → after ≤ start + start_looks book
start_within book start after h =
    let all : start_looks book ≡ sum_by (looks_of_view book) book.catalog.views + sum_by (looks_of_back book) book.catalog.backs = refl in
    omega (arith, h, all)

pub start_whole : (catalog held : Catalog) (tables near far : List Relation) (start between after : ℕ) → near ≡ tables → held ≡ catalog → far ≡ tables
    → between ≤ start + sum_by (looks_of_view (workbook_image catalog near)) (workbook_image catalog near).catalog.views → after ≤ between + sum_by (looks_of_back (workbook_image held far)) held.backs
    → after ≤ start + start_looks (workbook_image catalog tables)
start_whole catalog held tables near far start between after near_is held_is far_is first second =
    let book : Workbook = workbook_image catalog tables in
    let views : sum_by (looks_of_view (workbook_image catalog near)) book.catalog.views ≡ sum_by (looks_of_view book) book.catalog.views =
    ap (λ (T : List Relation). sum_by (looks_of_view (workbook_image catalog T)) book.catalog.views) near_is in
    let backs : sum_by (looks_of_back (workbook_image held far)) held.backs ≡ sum_by (looks_of_back book) book.catalog.backs =
    ap (λ (c : Catalog). sum_by (looks_of_back (workbook_image c far)) c.backs) held_is ∙ ap (λ (T : List Relation). sum_by (looks_of_back (workbook_image catalog T)) catalog.backs) far_is in
    let all : start_looks book ≡ sum_by (looks_of_view book) book.catalog.views + sum_by (looks_of_back book) book.catalog.backs = refl in
    omega (arith, first, second, views, backs, all)

-- one value more
pub views_more : {X : Type 0} (value : ℕ → X) (n : ℕ) (before after : List X) (x : X) → after ≡ before ++ x ∷ [] → before ≡ map value (upto n) → x ≡ value n → after ≡ map value (upto (n + 1))
views_more value n before after x pushed are is =
    let e : n + 1 ≡ suc n = omega arith in
    rw (e, pushed, are, is) (sym (map-append value (upto n) (n ∷ [])))
