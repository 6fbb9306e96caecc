-- Values one after the other, up to the first fault.
use Rattle.std.proofs.Common.{◌≡◌, ◌∙◌, List, [], ◌∷◌, ◌++◌, refl, sym, ap, Result, Ok, Err}
use Rattle.smk_model.specs.{Names.◌>>=◌, Tables.all_or_first}

-- the values of which there are all
first_then : {A E : Type 0} (r : Result A E) (rest : Result (List A) E) (all : List A) → ◌>>=◌ r (λ x. ◌>>=◌ rest (λ xs. Ok (x ∷ xs))) ≡ Ok all
    → (y : A) × (ys : List A) × (r ≡ Ok y) × (rest ≡ Ok ys) × (all ≡ y ∷ ys)
first_then (Ok y) (Ok ys) all h = (y, ys, refl, refl, cc)
first_then (Ok y) (Err e) all h = cc
first_then (Err e) rest all h = cc

-- all values up to one, and that one, or the fault in its place
pub then_value : {A E : Type 0} (rs : List (Result A E)) (r : Result A E) (xs : List A) (x : A) → all_or_first rs ≡ Ok xs → r ≡ Ok x → all_or_first (rs ++ r ∷ []) ≡ Ok (xs ++ x ∷ [])
then_value [] r xs x e f = let none : [] ≡ xs = cc e in rw f (rw (sym none) refl)
then_value (q ∷ rs) r xs x e f = let at = first_then q (all_or_first rs) xs e in
    ap (λ t. ◌>>=◌ t (λ z. ◌>>=◌ (all_or_first (rs ++ r ∷ [])) (λ zs. Ok (z ∷ zs)))) at.2 ∙ ap (λ t. ◌>>=◌ t (λ zs. Ok (at.0 ∷ zs))) (then_value rs r at.1 x at.3 f) ∙ ap (λ l. Ok (l ++ x ∷ [])) (sym at.4)

pub then_fault : {A E : Type 0} (rs : List (Result A E)) (r : Result A E) (more : List (Result A E)) (xs : List A) (fault : E) → all_or_first rs ≡ Ok xs → r ≡ Err fault → all_or_first (rs ++ r ∷ more) ≡ Err fault
then_fault [] r more xs fault e f = rw f refl
then_fault (q ∷ rs) r more xs fault e f = let at = first_then q (all_or_first rs) xs e in
    ap (λ t. ◌>>=◌ t (λ z. ◌>>=◌ (all_or_first (rs ++ r ∷ more)) (λ zs. Ok (z ∷ zs)))) at.2 ∙ ap (λ t. ◌>>=◌ t (λ zs. Ok (at.0 ∷ zs))) (then_fault rs r more at.1 fault at.3 f)
