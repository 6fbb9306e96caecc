-- What a rule that gave a result was made of.
use Rattle.std.proofs.Common.{◌≡◌, ◌+◌, ℕ, suc, List, [], ◌∷◌, length, Ok, Err, refl, ap, subst, arith, All}
use Rattle.smk_base.specs.declared.book.type_fault.TypeFault.{TypeFault}
use Rattle.smk_model.specs.Names.{Typed, ◌>>=◌, in_turn}
pub use Rattle.smk_model.proofs.Rules.{made_of, ok_same, unless_ok}

-- what a result keeps, the same result keeps
pub ok_keeps : {A : Type 0} (P : A → Type 0) (a b : A) → (let found : Typed A = Ok a in found) ≡ Ok b → P a → P b
ok_keeps P a b e held = let same : a ≡ b = cc e in subst P same held

-- what each member of a list keeps, the whole list keeps
pub in_turn_keeps : {A X : Type 0} (P : A → Type 0) (Q : X → Type 0) (rule : A → X → Typed A) → ((a b : A) (x : X) → P a → Q x → rule a x ≡ Ok b → P b)
    → (a b : A) (xs : List X) → P a → All Q xs → in_turn rule a xs ≡ Ok b → P b
in_turn_keeps P Q rule step a b [] held all e = ok_keeps P a b e held
in_turn_keeps P Q rule step a b (x ∷ xs) held all e =
    let first = made_of (rule a x) (λ more. in_turn rule more xs) b e in
    in_turn_keeps P Q rule step first.0 b xs (step a first.0 x held (all 0 x (omega arith)) first.1) (λ k d p. all (suc k) d (omega arith)) first.2

-- a list of which each member adds one
pub in_turn_long : {A X : Type 0} (size : A → ℕ) (rule : A → X → Typed A) → ((a b : A) (x : X) → rule a x ≡ Ok b → size b ≡ size a + 1)
    → (a b : A) (xs : List X) → in_turn rule a xs ≡ Ok b → size b ≡ size a + length xs
in_turn_long size rule step a b [] e = let same : a ≡ b = cc e in omega (arith, ap size same)
in_turn_long size rule step a b (x ∷ xs) e =
    let first = made_of (rule a x) (λ more. in_turn rule more xs) b e in
    omega (arith, step a first.0 x first.1, in_turn_long size rule step first.0 b xs first.2)

-- a rule whose result was made by one that can't fail has the fault of the first, whatever is made of it
pub first_fails : {A B C : Type 0} (first : Typed A) (f : A → B) (g : A → C) (fault : TypeFault) → (let found : Typed B = first >>= (λ a. Ok (f a)) in found) ≡ Err fault → (let found : Typed C = first >>= (λ a. Ok (g a)) in found) ≡ Err fault
first_fails (Ok a) f g fault e = absurd (cc e)
first_fails (Err other) f g fault e = let same : other ≡ fault = cc e in rw same refl
