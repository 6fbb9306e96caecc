-- The rows of both sides of a union.
use Rattle.std.proofs.{Common.{◌≡◌, ◌∙◌, ◌<◌, ◌≤◌, ◌+◌, ◌-◌, ℕ, List, [], ◌∷◌, ◌++◌, length, map, take, drop, not, refl, sym, ap, subst, arith, All, get_or, inl, inr}, lemmas.List.{map-append, length-append, get_or-append_right, get_or_default, get_or-drop, length-drop, take-append-drop}, lemmas.Bool.cases_eq, lemmas.List.Elements.{All-weaker, All-map, All-drop}, lemmas.Slice.Zip.AllZip-long}
use Rattle.std.specs.List.{AllZip, AllPairs, list_any}
use Rattle.smk_base.specs.{Places.upto, declared.value.Kind.Kind, Rels.{IsWider, Fits, RowFits, picked}}
use Rattle.smk_base.specs.declared.value.Kind.TheVariants as kinds
use Rattle.smk_model.specs.{Values.Row, Kinds.{AreAlike, wider_kinds}, Plain.row_eq, Lineage.{places, row_at, sub}, Classes.first_places}
use Rattle.smk_base.proofs.{Places.places_are, Kept.Fits-wider}
use Rattle.smk_model.proofs.{Bulk.{bulk, sub_left}, Classes.classes_are}
use Rattle.smk_rid.proofs.Sets.{set_rises}
use Rattle.smk_body.proofs.Fitting.{All-head, All-rest}

pub left_wider : (ls rs : List Kind) → AllZip AreAlike ls rs → AllZip IsWider (wider_kinds ls rs) ls
left_wider [] rs h = tt
left_wider (k ∷ ls) [] h = absurd h
left_wider (kinds.Int a ∷ ls) (kinds.Int b ∷ rs) h = (omega arith, left_wider ls rs h.1)
left_wider (kinds.Text ∷ ls) (kinds.Text ∷ rs) h = (tt, left_wider ls rs h.1)
left_wider _ _ h = absurd h.0

pub right_wider : (ls rs : List Kind) → AllZip AreAlike ls rs → AllZip IsWider (wider_kinds ls rs) rs
right_wider [] [] h = tt
right_wider (kinds.Int a ∷ ls) (kinds.Int b ∷ rs) h = (omega arith, right_wider ls rs h.1)
right_wider (kinds.Text ∷ ls) (kinds.Text ∷ rs) h = (tt, right_wider ls rs h.1)
right_wider (k ∷ ls) (j ∷ rs) h = absurd h.0
right_wider _ _ h = absurd h

-- a row fits wider kinds
pub row_wider : (ks js : List Kind) (row : Row) → AllZip IsWider ks js → RowFits js row → RowFits ks row
row_wider [] [] row wider fits = fits
row_wider (k ∷ ks) (j ∷ js) [] wider fits = absurd fits
row_wider (k ∷ ks) (j ∷ js) (v ∷ row) wider fits = (Fits-wider k j v wider.0 fits.0, row_wider ks js row wider.1 fits.1)
row_wider _ _ row wider fits = absurd wider

sub_right : (L R : List Row) (A : List ℕ) → All (λ i. length L ≤ i) A → sub (L ++ R) A ≡ sub R (map (λ i. i - length L) A)
sub_right L R [] high = refl
sub_right L R (i ∷ A) high = rw (get_or-append_right L R (length L) i [] refl (All-head (λ i. length L ≤ i) i A high), sub_right L R A (All-rest (λ i. length L ≤ i) i A high)) refl

pub sub_split : (L R : List Row) (A : List ℕ) (k : ℕ) → All (λ i. i < length L) (take k A) → All (λ i. length L ≤ i) (drop k A) → sub (L ++ R) A ≡ sub L (take k A) ++ sub R (map (λ i. i - length L) (drop k A))
sub_split L R A k low high =
    ap (sub (L ++ R)) (sym (take-append-drop k A)) ∙ map-append (row_at (L ++ R)) (take k A) (drop k A)
    ∙ ap (λ z. z ++ sub (L ++ R) (drop k A)) (sub_left L R (take k A) low) ∙ ap (λ z. sub L (take k A) ++ z) (sub_right L R (drop k A) high)

-- first places rise
first_rise : (keys : List Row) → AllPairs (λ x y. x < y) (first_places keys)
first_rise keys =
    let t = λ (i : ℕ). not (list_any (row_eq (row_at keys i)) (take i keys)) in
    subst (AllPairs (λ x y. x < y)) (sym (classes_are.first_of_all keys)) (set_rises (length keys) (places t (length keys)) (places_are t (length keys)))

-- behind a first place that is at least a bound all are
pub first_high : (keys : List Row) (bound k : ℕ) → (k < length (first_places keys) → bound ≤ get_or (first_places keys) k 0) → All (λ i. bound ≤ i) (drop k (first_places keys))
first_high keys bound k next j d h =
    let F = first_places keys in
    let long : k + j < length F = omega (arith, h, length-drop k F) in
    let here : bound ≤ get_or F k 0 = next (omega arith) in
    rw (get_or_default (drop k F) j d 0 h, get_or-drop k F j 0) (elim (cases_eq j 0) [
      | inl e ↦ (let z : k + j ≡ k = omega arith in rw z here)
      | inr ne ↦ (let up : get_or F k 0 < get_or F (k + j) 0 = first_rise keys k (k + j) 0 (omega arith) long in omega arith)
    ])

-- the rows of both sides are their own keys by all columns
pub all_columns_of : (ls rs : List Kind) (L R : List Row) → AllZip AreAlike ls rs → All (RowFits ls) L → All (RowFits rs) R → map (picked (upto (length ls))) L ++ map (picked (upto (length ls))) R ≡ L ++ R
all_columns_of ls rs L R alike left right =
    let long : length rs ≡ length ls = AllZip-long AreAlike ls rs alike in
    let lefts : All (λ (row : Row). length row ≡ length ls) L = All-weaker (RowFits ls) (λ row. length row ≡ length ls) (λ row fits. AllZip-long Fits ls row fits) L left in
    let rights : All (λ (row : Row). length row ≡ length ls) R = All-weaker (RowFits rs) (λ row. length row ≡ length ls) (λ row fits. AllZip-long Fits rs row fits ∙ long) R right in
    ap (λ (z : List Row). z ++ map (picked (upto (length ls))) R) (bulk.whole (length ls) L lefts) ∙ ap (λ (z : List Row). L ++ z) (bulk.whole (length ls) R rights)

-- places of the right rows
pub right_within : (L R : List Row) (A : List ℕ) (k : ℕ) → All (λ i. i < length (L ++ R)) A → All (λ i. length L ≤ i) (drop k A) → All (λ j. j < length R) (map (λ i. i - length L) (drop k A))
right_within L R A k low high =
    All-map (λ j. j < length R) (λ i. i - length L) (drop k A) (λ j d h. omega (arith, All-drop (λ i. i < length (L ++ R)) k A low j d h, high j d h, length-append L R))
