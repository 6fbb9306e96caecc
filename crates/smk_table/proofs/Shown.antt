-- The first rows of a relation.
use Rattle.std.proofs.{Common.{◌≡◌, ◌∙◌, ℕ, ◌<◌, ◌≤◌, List, [], ◌∷◌, length, take, refl, sym, ap, arith, All}, lemmas.List.{length-take, length-take-le, length-map, get_or-map, ext_get_or, get_or-take}, lemmas.List.Elements.All-tail}
use Rattle.std.specs.List.{AllZip}
use Rattle.smk_base.specs.{declared.value.Kind.Kind, declared.value.Value.Value, Rels.{IsWider, row_in, rows_at}, Places.upto}
use Rattle.smk_base.specs.declared.value.Kind.TheVariants as kinds
use Rattle.smk_base.proofs.Places.{length_upto, get_or_upto}

-- rows among the first
row_in-first : (n : ℕ) (rows : List (List Value)) (i : ℕ) → i < length (take n rows) → row_in (take n rows) i ≡ row_in rows i
row_in-first n rows i h = get_or-take n rows i [] (omega (arith, length-take n rows))

pub rows_at-first : (n : ℕ) (rows : List (List Value)) (places : List ℕ) → All (λ place. place < length (take n rows)) places → rows_at rows places ≡ rows_at (take n rows) places
rows_at-first n rows [] h = refl
rows_at-first n rows (p ∷ ps) h =
    let here = row_in-first n rows p (h 0 0 (omega arith)) in
    let rest = rows_at-first n rows ps (All-tail (λ place. place < length (take n rows)) p ps h) in
    rw (here, rest) refl

-- the rows at the first places
pub rows_at-upto : (n : ℕ) (rows : List (List Value)) → n ≤ length rows → rows_at rows (upto n) ≡ take n rows
rows_at-upto n rows h =
    let long : length (rows_at rows (upto n)) ≡ n = length-map (upto n) (row_in rows) ∙ length_upto n in
    ext_get_or [] (rows_at rows (upto n)) (take n rows) (long ∙ sym (length-take-le n rows h))
    (λ i p. let low : i < n = omega (arith, long) in
    get_or-map (row_in rows) (upto n) i 0 [] (omega (arith, length_upto n)) ∙ ap (row_in rows) (get_or_upto n i 0 low) ∙ sym (get_or-take n rows i [] low))

-- the same kinds are no narrower ones
pub IsWider-same : (kind : Kind) → IsWider kind kind
IsWider-same (kinds.Int level) = omega arith
IsWider-same kinds.Text = tt

pub wider_same : (ks : List Kind) → AllZip IsWider ks ks
wider_same [] = tt
wider_same (k ∷ ks) = (IsWider-same k, wider_same ks)
