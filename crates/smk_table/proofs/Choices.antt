-- Rows at places, and their columns.
use Rattle.std.proofs.{Common.{◌≡◌, ◌∙◌, ◌<◌, ◌≤◌, ℕ, suc, List, [], ◌∷◌, length, map, All, Option, None, Some, refl, ap, subst, sym, arith}, lemmas.List.{get_or-map, length-map}, lemmas.List.Elements.{All-cons, All-nil}}
use Rattle.smk_base.specs.{declared.value.Kind.Kind, declared.value.Value.Value, Rels.{IsRelation, Relation, RowFits, kind_in, picked, row_in, rows_at}}
use Rattle.smk_table.specs.Choosing.{chosen_of, AreInside}

pub rows_at_long : (rows : List (List Value)) (rids : List ℕ) → length (rows_at rows rids) ≡ length rids
rows_at_long rows rids = length-map rids (row_in rows)

-- rows at places of a relation are one
fits_at : (kinds : List Kind) (rows : List (List Value)) (rids : List ℕ) → All (RowFits kinds) rows → All (λ rid. rid < length rows) rids → All (RowFits kinds) (rows_at rows rids)
fits_at kinds rows [] fit inside = All-nil (RowFits kinds)
fits_at kinds rows (r ∷ rids) fit inside = All-cons (RowFits kinds) (row_in rows r) (rows_at rows rids) (fit r [] (inside 0 r (omega arith))) (fits_at kinds rows rids fit (λ k d p. inside (suc k) d (omega arith)))

pub chosen_keeps : (rel : Relation) (kept : Option (List ℕ)) → IsRelation rel → AreInside rel kept → IsRelation (chosen_of rel kept)
chosen_keeps rel None is inside = is
chosen_keeps rel (Some rids) is inside = record {
  few_columns = is.few_columns;
  low_levels = is.low_levels;
  few_rows = subst (λ (n : ℕ). n ≤ 1048576) (sym (rows_at_long rel.rows rids)) inside.1;
  fit = fits_at rel.kinds rel.rows rids is.fit inside.0;
}

-- a row's columns are those of the row at its place
pub rows_at_picked : (cols : List ℕ) (rows : List (List Value)) (rids : List ℕ) → All (λ rid. rid < length rows) rids → rows_at (map (picked cols) rows) rids ≡ map (picked cols) (rows_at rows rids)
rows_at_picked cols rows [] inside = refl
rows_at_picked cols rows (r ∷ rids) inside =
    let one : row_in (map (picked cols) rows) r ≡ picked cols (row_in rows r) = get_or-map (picked cols) rows r [] [] (inside 0 r (omega arith)) in
    let rest : rows_at (map (picked cols) rows) rids ≡ map (picked cols) (rows_at rows rids) = rows_at_picked cols rows rids (λ k d p. inside (suc k) d (omega arith)) in
    rw (one, rest) refl

abbrev with_rows : Relation → List ℕ → Relation
with_rows rel rids = record { kinds = rel.kinds; rows = rows_at rel.rows rids }

abbrev with_columns : Relation → List ℕ → Relation
with_columns rel cols = record { kinds = map (kind_in rel.kinds) cols; rows = map (picked cols) rel.rows }

-- the columns of the rows at rids are the rows at rids of the columns
pub columns_chosen : (rel seen whole made : Relation) (kept : Option (List ℕ)) (rids cols : List ℕ) → chosen_of rel kept ≡ seen → kept ≡ Some rids → AreInside rel kept → whole ≡ with_columns rel cols → made ≡ with_rows whole rids → made ≡ with_columns seen cols
columns_chosen rel seen whole made kept rids cols view some inside w m =
    let there : with_rows rel rids ≡ seen = subst (λ (o : Option (List ℕ)). chosen_of rel o ≡ seen) some view in
    let below : AreInside rel (Some rids) = subst (λ (o : Option (List ℕ)). AreInside rel o) some inside in
    let swap : with_rows (with_columns rel cols) rids ≡ with_columns (with_rows rel rids) cols = rw (rows_at_picked cols rel.rows rids below.0) refl in
    m ∙ ap (λ (z : Relation). with_rows z rids) w ∙ swap ∙ ap (λ (z : Relation). with_columns z cols) there
