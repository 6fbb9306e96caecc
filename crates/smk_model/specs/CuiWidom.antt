-- The conditions of Cui and Widom on the places that an output row of a step comes from, once for a step with one input and once for two. A step is any function of its inputs' rows.
use Rattle.std.specs.Prelude.{◌≡◌, ◌≢◌, ℕ, true, List, [], ◌∷◌, length}
use Rattle.smk_base.specs.Places.{IsPlaces}
use Rattle.smk_model.specs.{Values.Row, Lineage.{has, row_at, sub}}

-- the first list has every place of the second
abbrev pub Holds : List ℕ → List ℕ → Type 0
Holds A B = (i : ℕ) → has B i ≡ true → has A i ≡ true

-- the rows at A give exactly the output row at o, and each of them alone gives something
pub record Gives1 (step : List Row → List Row) (L : List Row) (o : ℕ) (A : List ℕ) : Type 0 where
  pub exact : step (sub L A) ≡ row_at (step L) o ∷ []
  pub each : (a : ℕ) → has A a ≡ true → step (sub L (a ∷ [])) ≢ []

-- and no other places that hold A do so
pub record CuiWidom1 (step : List Row → List Row) (L : List Row) (o : ℕ) (A : List ℕ) : Type 0 where
  pub places : IsPlaces (length L) A
  pub gives : Gives1 step L o A
  pub maximal : (A' : List ℕ) → IsPlaces (length L) A' → Holds A' A → Gives1 step L o A' → A' ≡ A

-- the rows at A and B give exactly the output row at o; one row of A with all of B gives something, and so does one row of B with all of A
pub record Gives2 (step : List Row → List Row → List Row) (L R : List Row) (o : ℕ) (A B : List ℕ) : Type 0 where
  pub exact : step (sub L A) (sub R B) ≡ row_at (step L R) o ∷ []
  pub each_left : (a : ℕ) → has A a ≡ true → step (sub L (a ∷ [])) (sub R B) ≢ []
  pub each_right : (b : ℕ) → has B b ≡ true → step (sub L A) (sub R (b ∷ [])) ≢ []

-- and no other pair of places that holds A and B does so
pub record CuiWidom2 (step : List Row → List Row → List Row) (L R : List Row) (o : ℕ) (A B : List ℕ) : Type 0 where
  pub places_left : IsPlaces (length L) A
  pub places_right : IsPlaces (length R) B
  pub gives : Gives2 step L R o A B
  pub maximal : (A' B' : List ℕ) → IsPlaces (length L) A' → IsPlaces (length R) B' → Holds A' A → Holds B' B → Gives2 step L R o A' B' → (A' ≡ A) × (B' ≡ B)
