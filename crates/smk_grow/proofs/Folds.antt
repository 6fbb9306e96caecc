-- Faults and looks of the views that scan a table, as those of all views.
use Rattle.std.proofs.{Common.{◌≡◌, ℕ, zero, suc, zero-add, ◌+◌, ◌≤◌, subst, Bool, true, false, ◌&&◌, cond, List, [], ◌∷◌, length, refl, ap, sym, ◌∙◌, arith, Option, None, inl, inr}, lemmas.Bool.cases_lt, lemmas.List.Sums.{sum_by-cons, sum_by_push}}
use Rattle.std.specs.{List.{filter, sum_by}, Option.option_or}
use Rattle.smk_base.specs.{Places.upto, declared.book.catalog.Back.Back}
use Rattle.smk_model.specs.{Appends.{depends_on, scans, scanning}, Looks.looks_of_back, Growth.is_growing, Opening.{first_some, view_fault}, Plain.whole, Selection.rows_in, Session.{Workbook, view_at}}
use Rattle.smk_grow.specs.Renewed.{scan_fault, looks_apart, looks_again, looks_of_declared}

first_cond : {A B : Type 0} (value : A → Option B) (x : A) (xs : List A) (b : Bool) → first_some value (cond b (x ∷ xs) xs) ≡ option_or (cond b (value x) None) (first_some value xs)
first_cond value x xs true = refl
first_cond value x xs false = refl

first_filter : {A B : Type 0} (value : A → Option B) (p : A → Bool) (xs : List A) → first_some value (filter p xs) ≡ first_some (λ x. cond (p x) (value x) None) xs
first_filter value p [] = refl
first_filter value p (x ∷ xs) = first_cond value x (filter p xs) (p x) ∙ ap (option_or (cond (p x) (value x) None)) (first_filter value p xs)

pub faults_scanning : (t : ℕ) (book : Workbook) → first_some (scan_fault t book) (upto (length book.catalog.views)) ≡ first_some (view_fault book) (scanning book.catalog t)
faults_scanning t book = sym (first_filter (view_fault book) (scans book.catalog t) (upto (length book.catalog.views)))

sum_cond : {A : Type 0} (f : A → ℕ) (x : A) (xs : List A) (b : Bool) → sum_by f (cond b (x ∷ xs) xs) ≡ cond b (f x) 0 + sum_by f xs
sum_cond f x xs true = sum_by-cons f x xs
sum_cond f x xs false = sym (zero-add (sum_by f xs))

sum_filter : {A : Type 0} (f : A → ℕ) (p : A → Bool) (xs : List A) → sum_by f (filter p xs) ≡ sum_by (λ x. cond (p x) (f x) 0) xs
sum_filter f p [] = refl
sum_filter f p (x ∷ xs) =
    sum_cond f x (filter p xs) (p x)
    ∙ ap (λ n. cond (p x) (f x) 0 + n) (sum_filter f p xs)
    ∙ sym (sum_by-cons (λ y. cond (p y) (f y) 0) x xs)

sum_two : {A : Type 0} (f g h : A → ℕ) → ((x : A) → f x + g x ≡ h x) → (xs : List A) → sum_by f xs + sum_by g xs ≡ sum_by h xs
sum_two f g h each [] = omega arith
sum_two f g h each (x ∷ xs) = omega (arith, each x, sum_two f g h each xs, sum_by-cons f x xs, sum_by-cons g x xs, sum_by-cons h x xs)

two_looks : (scans growing : Bool) (more all : ℕ) → cond (scans && growing) more 0 + cond (scans && growing) 0 (cond scans all 0) ≡ cond scans (cond growing more all) 0
two_looks true true more all = omega arith
two_looks true false more all = omega arith
two_looks false growing more all = refl

pub looks_scanning : (t more : ℕ) (book : Workbook) (n : ℕ)
    → sum_by (looks_apart t book.catalog more) (upto n) + sum_by (looks_again t book) (upto n)
    ≡ sum_by (λ v. cond (is_growing (view_at book.catalog v).plan) more (rows_in (whole (view_at book.catalog v).plan book.tables))) (filter (scans book.catalog t) (upto n))
looks_scanning t more book n =
    let all = λ (v : ℕ). rows_in (whole (view_at book.catalog v).plan book.tables) in
    let one = λ (v : ℕ). cond (is_growing (view_at book.catalog v).plan) more (all v) in
    sum_two (looks_apart t book.catalog more) (looks_again t book) (λ v. cond (scans book.catalog t v) (one v) 0)
    (λ v. two_looks (scans book.catalog t v) (is_growing (view_at book.catalog v).plan) more (all v)) (upto n)
    ∙ sym (sum_filter one (scans book.catalog t) (upto n))

pub looks_depending : (t : ℕ) (book : Workbook) (backs : List Back) → sum_by (looks_of_declared t book) backs ≡ sum_by (looks_of_back book) (filter (depends_on book.catalog t) backs)
looks_depending t book backs = sym (sum_filter (looks_of_back book) (depends_on book.catalog t) backs)

-- one view more

pub looks_upto : (f : ℕ → ℕ) (v start before after : ℕ) → before ≤ start + sum_by f (upto v) → after ≤ before + f v → after ≤ start + sum_by f (upto (v + 1))
looks_upto f v start before after so_far here =
    let e : v + 1 ≡ suc v = omega arith in
    let all : sum_by f (upto (v + 1)) ≡ sum_by f (upto v) + f v = ap (λ (n : ℕ). sum_by f (upto n)) e ∙ sum_by_push f (upto v) v in
    omega (arith, so_far, here, all)

pub looks_below : (f : ℕ → ℕ) (v n start after : ℕ) → v ≤ n → after ≤ start + sum_by f (upto v) → after ≤ start + sum_by f (upto n)
looks_below f v zero start after low so_far = let e : v ≡ 0 = omega arith in subst (λ (k : ℕ). after ≤ start + sum_by f (upto k)) e so_far
looks_below f v (suc n) start after low so_far = elim (cases_lt v (suc n)) [
  | inl less ↦
      (let before = looks_below f v n start after (omega arith) so_far in
      let all : sum_by f (upto (suc n)) ≡ sum_by f (upto n) + f n = sum_by_push f (upto n) n in
      omega (arith, before, all))
  | inr more ↦ (let e : v ≡ suc n = omega arith in subst (λ (k : ℕ). after ≤ start + sum_by f (upto k)) e so_far)
]
