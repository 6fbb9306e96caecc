-- Whether any member passes: tests that agree, and tests put together.
use Rattle.std.proofs.{Common.{◌≡◌, ℕ, suc, ◌<◌, Bool, true, false, List, [], ◌∷◌, refl, ap, ◌∙◌, arith, ◌&&◌, ◌||◌, nat_eq}, lemmas.Bool.{eq-eqb, or_left, or_right}}
use Rattle.std.specs.List.{list_any, All}
use Rattle.smk_model.specs.Lineage.{has}

pub any_same : {X : Type 0} (f g : X → Bool) (A : List X) → ((x : X) → f x ≡ g x) → list_any f A ≡ list_any g A
any_same f g [] h = refl
any_same f g (x ∷ xs) h = rw (h x, any_same f g xs h) refl

-- tests that agree on the members
pub any_agree : (f g : ℕ → Bool) (A : List ℕ) → ((i : ℕ) → has A i ≡ true → f i ≡ g i) → list_any f A ≡ list_any g A
any_agree f g [] h = refl
any_agree f g (x ∷ xs) h = rw (h x (or_left (nat_eq x x) _ (eq-eqb x x refl)), any_agree f g xs (λ i q. h i (or_right (nat_eq i x) _ q))) refl

pub any_below : (f g : ℕ → Bool) (n : ℕ) (A : List ℕ) → All (λ o. o < n) A → ((o : ℕ) → o < n → f o ≡ g o) → list_any f A ≡ list_any g A
any_below f g n [] low h = refl
any_below f g n (o ∷ os) low h = rw (h o (low 0 0 (omega arith)), any_below f g n os (λ k d l. low (suc k) d (omega arith)) h) refl

pub any_false : {X : Type 0} (A : List X) → list_any (λ x. false) A ≡ false
any_false [] = refl
any_false (x ∷ xs) = any_false xs

pub or_false : (b : Bool) → (b || false) ≡ b
or_false true = refl
or_false false = refl

pub and_false : (c : Bool) → (c && false) ≡ false
and_false true = refl
and_false false = refl

and_after : (a b c : Bool) → ((a && c) || (b && c)) ≡ ((a || b) && c)
and_after true true true = refl
and_after true true false = refl
and_after true false true = refl
and_after true false false = refl
and_after false b c = refl

pub any_and : {X : Type 0} (f : X → Bool) (c : Bool) (A : List X) → list_any (λ x. f x && c) A ≡ (list_any f A && c)
any_and f c [] = refl
any_and f c (x ∷ xs) = rw (any_and f c xs) (and_after (f x) (list_any f xs) c)

or_four : (a b c d : Bool) → ((a || b) || (c || d)) ≡ ((a || c) || (b || d))
or_four true b c d = refl
or_four false true true d = refl
or_four false true false d = refl
or_four false false true d = refl
or_four false false false d = refl

any_or : {X : Type 0} (f g : X → Bool) (A : List X) → list_any (λ x. f x || g x) A ≡ (list_any f A || list_any g A)
any_or f g [] = refl
any_or f g (x ∷ xs) = rw (any_or f g xs) (or_four (f x) (g x) (list_any f xs) (list_any g xs))

and_or : (c a b : Bool) → (c && (a || b)) ≡ ((c && a) || (c && b))
and_or true a b = refl
and_or false a b = refl

pub any_or_and : {X : Type 0} (c f g : X → Bool) (A : List X) → list_any (λ x. c x && (f x || g x)) A ≡ (list_any (λ x. c x && f x) A || list_any (λ x. c x && g x) A)
any_or_and c f g A = any_same _ (λ x. (c x && f x) || (c x && g x)) A (λ x. and_or (c x) (f x) (g x)) ∙ any_or (λ x. c x && f x) (λ x. c x && g x) A

-- the two orders of going over two lists
pub any_swap : (c : ℕ → Bool) (S : ℕ → ℕ → Bool) (X A : List ℕ) → list_any (λ j. c j && list_any (λ i. S i j) A) X ≡ list_any (λ i. list_any (λ j. c j && S i j) X) A
any_swap c S X [] = any_same _ (λ j. false) X (λ j. and_false (c j)) ∙ any_false X
any_swap c S X (x ∷ xs) = any_or_and c (S x) (λ j. list_any (λ i. S i j) xs) X ∙ ap (λ b. list_any (λ j. c j && S x j) X || b) (any_swap c S X xs)
