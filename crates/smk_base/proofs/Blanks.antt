-- Spaces and tabs at the ends of bytes.
use Rattle.std.proofs.{Common.{◌≡◌, ◌∙◌, ◌<◌, ◌≤◌, ◌+◌, ◌-◌, ℕ, Bool, true, false, cond, not, ◌&&◌, List, [], ◌∷◌, ◌++◌, length, take, get_or, refl, sym, ap, arith}, lemmas.List.{take_all, take_more}, lemmas.List.Folds.list_all-append}
use Rattle.std.specs.List.{list_all}
use Rattle.smk_base.specs.Ints.{is_blank, after_blanks, before_blanks}

pub cases_on : (b : Bool) (P : Bool → Type 0) → (b ≡ true → P true) → (b ≡ false → P false) → P b
cases_on true P h k = h refl
cases_on false P h k = k refl

and_true : (a b : Bool) → b ≡ true → (a && (b && true)) ≡ a
and_true true b h = rw h refl
and_true false b h = refl

and_false : (a b : Bool) → b ≡ false → (a && (b && true)) ≡ false
and_false true b h = rw h refl
and_false false b h = refl

and_all : (a b : Bool) → b ≡ true → (a && b) ≡ a
and_all true b h = h
and_all false b h = refl

-- a blank at the end is dropped
pub before_blanks-push_blank : (xs : List ℕ) (c : ℕ) → is_blank c ≡ true → before_blanks (xs ++ c ∷ []) ≡ before_blanks xs
before_blanks-push_blank [] c h = rw h refl
before_blanks-push_blank (x ∷ xs) c h =
    let whole : (is_blank x && list_all is_blank (xs ++ c ∷ [])) ≡ (is_blank x && list_all is_blank xs) = list_all-append is_blank (x ∷ xs) (c ∷ []) ∙ and_true _ _ h in
    rw (whole, before_blanks-push_blank xs c h) refl

-- another byte at the end stays
pub before_blanks-push_other : (xs : List ℕ) (c : ℕ) → is_blank c ≡ false → before_blanks (xs ++ c ∷ []) ≡ xs ++ c ∷ []
before_blanks-push_other [] c h = rw h refl
before_blanks-push_other (x ∷ xs) c h =
    let whole : (is_blank x && list_all is_blank (xs ++ c ∷ [])) ≡ false = list_all-append is_blank (x ∷ xs) (c ∷ []) ∙ and_false _ _ h in
    rw (whole, before_blanks-push_other xs c h) refl

-- the last byte and those before it
pub front_last : (xs : List ℕ) → 1 ≤ length xs → xs ≡ take (length xs - 1) xs ++ get_or xs (length xs - 1) 0 ∷ []
front_last xs h =
    let all : take (length xs - 1 + 1) xs ≡ xs = take_all (length xs - 1 + 1) xs (omega arith) in
    sym all ∙ take_more xs (length xs - 1) 0 (omega arith)

pub drops_blank : (xs : List ℕ) → 1 ≤ length xs → true ≡ is_blank (get_or xs (length xs - 1) 0) → before_blanks (take (length xs - 1) xs) ≡ before_blanks xs
drops_blank xs long h = sym (ap before_blanks (front_last xs long) ∙ before_blanks-push_blank (take (length xs - 1) xs) _ (sym h))

pub keeps_other : (xs : List ℕ) → 1 ≤ length xs → false ≡ is_blank (get_or xs (length xs - 1) 0) → before_blanks xs ≡ xs
keeps_other xs long h = ap before_blanks (front_last xs long) ∙ before_blanks-push_other (take (length xs - 1) xs) _ (sym h) ∙ sym (front_last xs long)

-- where the blanks at the front are
pub blanks_before : (xs : List ℕ) → (before : List ℕ) × (xs ≡ before ++ after_blanks xs) × (list_all is_blank before ≡ true)
blanks_before [] = ([], refl, refl)
blanks_before (x ∷ xs) = cases_on (is_blank x) (λ b. (before : List ℕ) × (x ∷ xs ≡ before ++ cond b (after_blanks xs) (x ∷ xs)) × (list_all is_blank before ≡ true))
    (λ h. let more = blanks_before xs in (x ∷ more.0, ap (λ l. x ∷ l) more.1, rw (h, more.2) refl))
    (λ h. ([], refl, refl))

-- where the blanks at the end are
pub blanks_behind : (xs : List ℕ) → (after : List ℕ) × (xs ≡ before_blanks xs ++ after) × (list_all is_blank after ≡ true)
blanks_behind [] = ([], refl, refl)
blanks_behind (x ∷ xs) = cases_on (list_all is_blank (x ∷ xs)) (λ b. (after : List ℕ) × (x ∷ xs ≡ cond b [] (x ∷ before_blanks xs) ++ after) × (list_all is_blank after ≡ true))
    (λ h. (x ∷ xs, refl, h))
    (λ h. let more = blanks_behind xs in (more.0, ap (λ l. x ∷ l) more.1, more.2))

-- blanks at the front are dropped
pub after_blanks-append : (before xs : List ℕ) → list_all is_blank before ≡ true → after_blanks (before ++ xs) ≡ after_blanks xs
after_blanks-append [] xs h = refl
after_blanks-append (b ∷ before) xs h =
    let first : is_blank b ≡ true = grind arith in
    let rest : list_all is_blank before ≡ true = grind arith in
    rw first (after_blanks-append before xs rest)

-- blanks at the end are dropped
before_blanks-all : (after : List ℕ) → list_all is_blank after ≡ true → before_blanks after ≡ []
before_blanks-all [] h = refl
before_blanks-all (b ∷ after) h = rw h refl

pub before_blanks-append : (xs after : List ℕ) → list_all is_blank after ≡ true → before_blanks (xs ++ after) ≡ before_blanks xs
before_blanks-append [] after h = before_blanks-all after h
before_blanks-append (x ∷ xs) after h =
    let whole : (is_blank x && list_all is_blank (xs ++ after)) ≡ (is_blank x && list_all is_blank xs) = list_all-append is_blank (x ∷ xs) after ∙ and_all _ _ h in
    rw (whole, before_blanks-append xs after h) refl

-- bytes without a blank
abbrev pub is_solid : ℕ → Bool
is_solid c = not (is_blank c)

pub before_blanks-solid : (xs : List ℕ) → list_all is_solid xs ≡ true → before_blanks xs ≡ xs
before_blanks-solid [] h = refl
before_blanks-solid (x ∷ xs) h =
    let first : is_blank x ≡ false = grind arith in
    let rest : list_all is_solid xs ≡ true = grind arith in
    rw (first, before_blanks-solid xs rest) refl

pub after_blanks-solid : (xs after : List ℕ) → 0 < length xs → list_all is_solid xs ≡ true → after_blanks (xs ++ after) ≡ xs ++ after
after_blanks-solid [] after long h = absurd (omega arith)
after_blanks-solid (x ∷ xs) after long h =
    let first : is_blank x ≡ false = grind arith in
    rw first refl
