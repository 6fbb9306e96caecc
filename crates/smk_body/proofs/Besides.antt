-- Rows column by column.
use Rattle.std.proofs.{Common.{◌≡◌, ◌∙◌, ◌<◌, ◌+◌, ℕ, List, [], ◌∷◌, ◌++◌, length, map, take, refl, sym, ap, get_or, append_assoc}, lemmas.List.map_more}
use Rattle.smk_base.specs.{declared.value.Value.Value, declared.value.Kind.Kind, Rels.{Relation, beside_rows}}
use Rattle.smk_model.specs.Values.{Row}

abbrev pub relation : List Kind → List Row → Relation
relation ks rows = record { kinds = ks; rows = rows }

-- rows made of each member beside rows made of each member
pub beside_each : {X : Type 0} (F G : X → Row) (xs : List X) → beside_rows (map F xs) (map G xs) ≡ map (λ x. F x ++ G x) xs
beside_each F G [] = refl
beside_each F G (x ∷ xs) = ap (λ (z : List Row). (F x ++ G x) ∷ z) (beside_each F G xs)

pub map_same : {X Y : Type 0} (F G : X → Y) (xs : List X) → ((x : X) → F x ≡ G x) → map F xs ≡ map G xs
map_same F G [] h = refl
map_same F G (x ∷ xs) h = rw (h x, map_same F G xs h) refl

-- one more column
pub column_more : {X Y : Type 0} (F : X → Row) (G : X → Y → Value) (ys : List Y) (k : ℕ) (d : Y) (xs : List X) → k < length ys
    → beside_rows (map (λ x. F x ++ map (G x) (take k ys)) xs) (map (λ x. G x (get_or ys k d) ∷ []) xs) ≡ map (λ x. F x ++ map (G x) (take (k + 1) ys)) xs
column_more F G ys k d xs h =
    beside_each (λ x. F x ++ map (G x) (take k ys)) (λ x. G x (get_or ys k d) ∷ []) xs
    ∙ map_same (λ x. (F x ++ map (G x) (take k ys)) ++ G x (get_or ys k d) ∷ []) (λ x. F x ++ map (G x) (take (k + 1) ys)) xs (λ x. append_assoc (F x) (map (G x) (take k ys)) (G x (get_or ys k d) ∷ []) ∙ ap (λ z. F x ++ z) (sym (map_more (G x) ys k d h)))

-- relations of equal kinds and rows
pub related : {ks js : List Kind} {xs ys : List Row} → ks ≡ js → xs ≡ ys → relation ks xs ≡ relation js ys
related p q = rw (p, q) refl
