-- Columns, tables and views by their names.
use Rattle.std.proofs.{Common.{◌≡◌, ◌<◌, ℕ, List, [], ◌∷◌, length, Bool, Option, Some, None, Ok, Err, position, get_or, map, ap, refl, arith}, lemmas.List.{get_or_default, length-map}, lemmas.List.Quantifiers.position-Some}
use Rattle.std.specs.Prelude.{ok_or}
use Rattle.smk_base.specs.{declared.book.tree.Word.Word, declared.book.catalog.Column.Column, declared.book.type_fault.TypeFault.TypeFault, declared.book.type_fault.TypeFault.TheVariants.UnknownColumn}
use Rattle.smk_model.specs.Names.{Typed, column_named, has_name, same_name, place_of}

pub column_found : (columns : List Column) (word : Word) (c : ℕ) (any : Column) → position (has_name word.name) columns ≡ Some c → column_named columns word ≡ Ok (c, (get_or columns c any).kind)
column_found columns word c any e =
    let below : c < length columns = (position-Some (has_name word.name) columns c any e).0 in
    rw e (ap (λ column. Ok (c, column.kind)) (get_or_default columns c _ any below))

pub column_missing : (columns : List Column) (word : Word) → position (has_name word.name) columns ≡ None → column_named columns word ≡ Err (UnknownColumn word.at)
column_missing columns word e = rw e refl

-- a place that a test finds is one of the list
pub place_within : {X : Type 0} (p : X → Bool) (xs : List X) (i : ℕ) → position p xs ≡ Some i → i < length xs
place_within p [] i e = absurd (cc)
place_within p (x ∷ xs) i e = (position-Some p (x ∷ xs) i x e).0

named_of : {X : Type 0} (f : X → List ℕ) (xs : List X) (name : List ℕ) (fault : TypeFault) (place : Option ℕ) (n : ℕ) → place_of name (map f xs) ≡ place → (let found : Typed ℕ = ok_or place fault in found) ≡ Ok n → n < length xs
named_of f xs name fault None n e found = absurd (cc found)
named_of f xs name fault (Some c) n e found = let same : c ≡ n = cc found in omega (arith, place_within (same_name name) (map f xs) c e, length-map xs f)

-- a number that a name has among names is one of the list
pub named_within : {X : Type 0} (f : X → List ℕ) (xs : List X) (name : List ℕ) (fault : TypeFault) (n : ℕ) → (let found : Typed ℕ = ok_or (place_of name (map f xs)) fault in found) ≡ Ok n → n < length xs
named_within f xs name fault n e = named_of f xs name fault (place_of name (map f xs)) n refl e
