-- What is asked of the lists of a view, for marks that are rows.
use Rattle.std.proofs.{Common.{◌≡◌, ℕ, ◌<◌, List, [], ◌∷◌, length, refl, ap, ◌∙◌, nat_le, Option, Some, None, Ok, inl, inr}, lemmas.Bool.{cases_Bool, leb-false}, lemmas.List.Elements.{All-nil, All-cons}}
use Rattle.std.specs.List.{All}
use Rattle.smk_base.specs.{Places.members_at, Plans.Expr, declared.book.tree.Marks.Marks}
use Rattle.smk_base.specs.declared.book.tree.Marks.TheVariants as markings
use Rattle.smk_model.specs.{Values.Row, Plain.{table_at, rows_over, whole}, Annotated.{back, fwd}, Composed.{backs, forwards}, Replies.{Asked, first_outside, unless_row, unless_outside, marked}}
use Rattle.smk_model.proofs.Composed.{lists_stand}
use Rattle.smk_base.proofs.Places.{upto_below}
use Rattle.smk_session.specs.Answers.{members_asked, within_asked}

-- no number is outside
pub none_outside : (marks : List ℕ) (n : ℕ) → first_outside marks n ≡ None → All (λ o. o < n) marks
none_outside [] n h = All-nil (λ o. o < n)
none_outside (m ∷ ms) n h = elim (cases_Bool (nat_le n m)) [
  | inl t ↦ (let no : Some m ≡ None = rw t at h in absurd (cc no))
  | inr f ↦ (let rest : first_outside ms n ≡ None = rw f at h in All-cons (λ o. o < n) m ms (leb-false n m f) (none_outside ms n rest))
]

-- what is asked for is the same where it is the same for marks that are rows
pub same_row : {A : Type 0} (outside : Option ℕ) (n : ℕ) (a b : Asked A) → (outside ≡ None → a ≡ b) → unless_row outside n a ≡ unless_row outside n b
same_row (Some row) n a b h = refl
same_row None n a b h = h refl

same_inside : {A : Type 0} (marks : Marks) (n : ℕ) (a b : Asked A) → (All (λ o. o < n) (marked marks n) → a ≡ b) → unless_outside marks n a ≡ unless_outside marks n b
same_inside markings.All n a b h = h (upto_below n)
same_inside (markings.Listed marks) n a b h = same_row (first_outside marks n) n a b (λ none. h (none_outside marks n none))

pub backs_asked : (plan : Expr) (tables : List (List Row)) (t : ℕ) (marks : Marks)
    → members_asked (backs plan tables t) marks ≡ unless_outside marks (length (rows_over plan tables)) (Ok (back plan (whole plan tables) (marked marks (length (rows_over plan tables))) t (length (table_at tables t))))
backs_asked plan tables t marks =
    let n : ℕ = length (rows_over plan tables) in
    ap (λ k. unless_outside marks k (Ok (members_at (backs plan tables t) (marked marks k)))) (lists_stand.backs_long plan tables t)
    ∙ same_inside marks n (Ok (members_at (backs plan tables t) (marked marks n))) (Ok (back plan (whole plan tables) (marked marks n) t (length (table_at tables t))))
    (λ inside. ap (λ l. Ok l) (lists_stand.back_of plan tables (marked marks n) t inside))

pub forwards_asked : (plan : Expr) (tables : List (List Row)) (t : ℕ) (rows : Marks)
    → members_asked (forwards plan tables t) rows ≡ unless_outside rows (length (table_at tables t)) (Ok (fwd plan (whole plan tables) (marked rows (length (table_at tables t))) t))
forwards_asked plan tables t rows =
    let n : ℕ = length (table_at tables t) in
    ap (λ k. unless_outside rows k (Ok (members_at (forwards plan tables t) (marked rows k)))) (lists_stand.forwards_long plan tables t)
    ∙ same_inside rows n (Ok (members_at (forwards plan tables t) (marked rows n))) (Ok (fwd plan (whole plan tables) (marked rows n) t))
    (λ inside. ap (λ l. Ok l) (lists_stand.forward_of plan tables (marked rows n) t inside))

-- where a check of the marks passes, each is a row

abbrev pub passed : Asked (Unit {0})
passed = Ok tt

none_row : (outside : Option ℕ) (n : ℕ) → unless_row outside n passed ≡ passed → outside ≡ None
none_row (Some row) n h = absurd (cc)
none_row None n h = refl

pub listed_low : (marks : List ℕ) (n : ℕ) → within_asked (markings.Listed marks) n ≡ passed → All (λ o. o < n) marks
listed_low marks n h = none_outside marks n (none_row (first_outside marks n) n h)
