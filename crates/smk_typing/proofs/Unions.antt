-- The columns of a union, place by place.
use Rattle.std.proofs.{Common.{◌≡◌, ◌<◌, ◌≤◌, ◌+◌, ◌∙◌, ℕ, List, [], ◌∷◌, ◌++◌, map, length, take, get_or, ap, arith}, lemmas.List.{take_more, take_all, map-append}, lemmas.Slice.Zip.{get_or-zip, length-zip}}
use Rattle.std.specs.List.{zip}
use Rattle.smk_base.specs.declared.book.catalog.Column.{Column}
use Rattle.smk_model.specs.TypedSteps.{united_column}

-- one more place of both sides
pub take_more_zip : (lefts rights : List Column) (i : ℕ) (d e : Column) → length lefts ≡ length rights → i < length lefts → map united_column (take (i + 1) (zip lefts rights)) ≡ map united_column (take i (zip lefts rights)) ++ united_column (get_or lefts i d, get_or rights i e) ∷ []
take_more_zip lefts rights i d e even below =
    let long : i < length (zip lefts rights) = omega (arith, length-zip lefts rights) in
    ap (map united_column) (take_more (zip lefts rights) i (d, e) long)
    ∙ map-append united_column (take i (zip lefts rights)) _
    ∙ ap (λ p. map united_column (take i (zip lefts rights)) ++ united_column p ∷ []) (get_or-zip lefts rights i (d, e) below (omega arith))

-- all places of both sides
pub take_all_zip : (lefts rights : List Column) (i : ℕ) → length lefts ≡ length rights → length lefts ≤ i → take i (zip lefts rights) ≡ zip lefts rights
take_all_zip lefts rights i even all = take_all i (zip lefts rights) (omega (arith, length-zip lefts rights))
