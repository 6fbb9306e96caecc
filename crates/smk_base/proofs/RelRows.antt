-- Rows that fit.
use Rattle.std.proofs.Common.{◌<◌, ℕ, zero, suc, List, [], ◌∷◌, length, get_or, arith, All}
use Rattle.std.specs.List.{AllZip}
use Rattle.smk_base.specs.{declared.value.Value.Value, declared.value.Kind.Kind, Rels.{Fits, RowFits, kind_in, row_in, value_in}}

pub AllZip-at : {A B : Type 0} (R : A → B → Type 0) (xs : List A) (ys : List B) (i : ℕ) (d : A) (e : B) → AllZip R xs ys → i < length xs → R (get_or xs i d) (get_or ys i e)
AllZip-at R [] ys i d e all p = absurd (omega arith)
AllZip-at R (x ∷ xs) [] i d e all p = absurd all
AllZip-at R (x ∷ xs) (y ∷ ys) zero d e all p = all.0
AllZip-at R (x ∷ xs) (y ∷ ys) (suc i) d e all p = AllZip-at R xs ys i d e all.1 (omega arith)

-- a value of rows that fit fits
pub Fits-value_in : (columns : List Kind) (rows : List (List Value)) (i c : ℕ) → All (RowFits columns) rows → i < length rows → c < length columns → Fits (kind_in columns c) (value_in (row_in rows i) c)
Fits-value_in columns rows i c all p q = AllZip-at Fits columns (row_in rows i) c _ _ (all i [] p) q
