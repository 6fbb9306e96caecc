-- What the calls that group by marks have and give.
use Rattle.std.proofs.{Common.{◌≡◌, ℕ, ◌<◌, ◌≤◌, pos, Bool, List, [], ◌∷◌, length, map, take, ◌∙◌, arith, inl, inr}, lemmas.List.get_or-map, lemmas.Slice.Zip.AllZip-long, lemmas.Bool.cases_Bool}
use Rattle.std.specs.List.{filter, All}
use Rattle.smk_base.specs.{Rels.{Fits, RowFits, picked}, declared.value.Kind.Kind}
use Rattle.smk_base.specs.declared.value.Value.TheVariants as values
use Rattle.smk_model.specs.{Values.Row, Lineage.{upto, row_at, sub}}
use Rattle.smk_base.proofs.Places.{map_upto_take, upto_below}
use Rattle.smk_marks.proofs.Classed.{map_below}

-- the first columns
pub upto_within : (n m : ℕ) → n ≤ m → All (λ c. c < m) (upto n)
upto_within n m h = λ i d l. omega (arith, h, upto_below n i d l)

-- the keys of the rows at marks
pub keys_at_marks : (ks : List Kind) (rows : List Row) (k : ℕ) (A : List ℕ) → All (RowFits ks) rows → k ≤ length ks → All (λ m. m < length rows) A → sub (map (picked (upto k)) rows) A ≡ map (λ m. take k (row_at rows m)) A
keys_at_marks ks rows k A fit h low =
    map_below (row_at (map (picked (upto k)) rows)) (λ m. take k (row_at rows m)) (length rows) A low
    (λ m l.
    get_or-map (picked (upto k)) rows m [] [] l
    ∙ map_upto_take (row_at rows m) (values.Int (pos 0)) k (omega (arith, h, AllZip-long Fits ks (row_at rows m) (fit m [] l))))

-- what rids keep and reach

pub few_kept : (f : ℕ → Bool) (S : List ℕ) → length (filter f S) ≤ length S
few_kept f [] = omega arith
few_kept f (s ∷ S) = elim (cases_Bool (f s)) [ inl p ↦ rw p (omega (arith, few_kept f S)) | inr p ↦ rw p (omega (arith, few_kept f S)) ]
