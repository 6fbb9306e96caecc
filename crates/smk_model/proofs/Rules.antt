-- A rule of typing that goes on from the result of another.
use Rattle.std.proofs.Common.{◌≡◌, Bool, true, false, Ok, Err, refl}
use Rattle.smk_base.specs.declared.book.type_fault.TypeFault.{TypeFault}
use Rattle.smk_model.specs.Names.{Typed, ◌>>=◌, unless}

-- the first of two rules gave a result, from which the second made this one
pub made_of : {A B : Type 0} (first : Typed A) (next : A → Typed B) (b : B) → (first >>= next) ≡ Ok b → (a : A) × (first ≡ Ok a) × (next a ≡ Ok b)
made_of (Ok a) next b e = (a, refl, e)
made_of (Err fault) next b e = absurd (cc e)

-- the fault does not hold where there is a result
pub unless_ok : {A : Type 0} (wrong : Bool) (fault : TypeFault) (found : Typed A) (a : A) → unless wrong fault found ≡ Ok a → (wrong ≡ false) × (found ≡ Ok a)
unless_ok true fault found a e = absurd (cc e)
unless_ok false fault found a e = (refl, e)

pub ok_same : {A : Type 0} (a b : A) → (let found : Typed A = Ok a in found) ≡ Ok b → a ≡ b
ok_same a b e = cc e

-- what follows a rule, where it comes to the same
pub then_same : {A B : Type 0} (first : Typed A) {f g : A → Typed B} → ((a : A) → f a ≡ g a) → (first >>= f) ≡ (first >>= g)
then_same (Ok a) h = h a
then_same (Err fault) h = refl
