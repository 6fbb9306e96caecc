-- A loop over maps that stops at the first with too many pairs.
use Rattle.std.proofs.{Common.{◌≡◌, ◌∙◌, ◌<◌, ◌≤◌, ℕ, zero, suc, ◌+◌, Bool, true, false, List, [], ◌∷◌, ◌++◌, length, take, get_or, Some, None, refl, sym, ap, subst, arith, inl, inr, slice_set}, lemmas.Bool.cases_Bool, lemmas.List.{take_more, take_more_set, take_all}}
use Rattle.std.specs.List.{find}
use Rattle.smk_model.specs.NodeFaults.{FullPairs}
use Rattle.smk_compose.specs.{Through.{has_heavy, map_at, no_map, pairs_fault}, declared.kept_maps.KeptMap.KeptMap}

find_here : {X : Type 0} (t : X → Bool) (xs : List X) (i : ℕ) (d : X) → find t (take i xs) ≡ None → i < length xs → t (get_or xs i d) ≡ true → find t xs ≡ Some (get_or xs i d)
find_here t [] i d none low is = absurd (omega arith)
find_here t (x ∷ xs) zero d none low is = rw is refl
find_here t (x ∷ xs) (suc i) d none low is = elim (cases_Bool (t x)) [
  | inl e ↦ (let h = rw e at none in absurd (cc))
  | inr e ↦ (let h = rw e at none in rw e (find_here t xs i d h (omega arith) is))
]

find_more : {X : Type 0} (t : X → Bool) (xs : List X) (x : X) → find t xs ≡ None → t x ≡ false → find t (xs ++ x ∷ []) ≡ None
find_more t [] x none is = rw is refl
find_more t (y ∷ ys) x none is = elim (cases_Bool (t y)) [
  | inl e ↦ (let h = rw e at none in absurd (cc))
  | inr e ↦ (let h = rw e at none in rw e (find_more t ys x h is))
]

-- none of the first i maps is heavy, and the next one is
pub heavy_here : (node table : ℕ) (whole : List KeptMap) (i : ℕ) → i < length whole → find has_heavy (take i whole) ≡ None → has_heavy (map_at whole i) ≡ true → (map_at whole i).table ≡ table → pairs_fault node whole ≡ Some (FullPairs node table)
heavy_here node table whole i low none heavy named = let e = find_here has_heavy whole i no_map none low heavy in rw (e, named) refl

-- nor the next one
pub light_next : (whole : List KeptMap) (i : ℕ) → i < length whole → find has_heavy (take i whole) ≡ None → has_heavy (map_at whole i) ≡ false → find has_heavy (take (i + 1) whole) ≡ None
light_next whole i low none light = subst (λ (t : List KeptMap). find has_heavy t ≡ None) (sym (take_more whole i no_map low)) (find_more has_heavy (take i whole) (map_at whole i) none light)

pub pairs_none : (node : ℕ) (maps : List KeptMap) → find has_heavy maps ≡ None → pairs_fault node maps ≡ None
pairs_none node maps e = rw e refl

pub none_heavy : (node : ℕ) (whole : List KeptMap) (i : ℕ) → length whole ≤ i → find has_heavy (take i whole) ≡ None → pairs_fault node whole ≡ None
none_heavy node whole i past none = pairs_none node whole (subst (λ (t : List KeptMap). find has_heavy t ≡ None) (take_all i whole past) none)

-- the first maps are made, and the next one is put in its place
pub made_next : (whole maps made : List KeptMap) (i : ℕ) → i < length whole → length maps ≡ length whole → take i maps ≡ take i whole → made ≡ slice_set maps i (map_at whole i) → take (i + 1) made ≡ take (i + 1) whole
made_next whole maps made i low long before e =
    let inside : i < length maps = omega arith in
    ap (take (i + 1)) e ∙ take_more_set maps i (map_at whole i) inside ∙ ap (λ (t : List KeptMap). t ++ map_at whole i ∷ []) before ∙ sym (take_more whole i no_map low)

pub all_made : (whole maps : List KeptMap) (i : ℕ) → length whole ≤ i → length maps ≡ length whole → take i maps ≡ take i whole → maps ≡ whole
all_made whole maps i past long e = sym (take_all i maps (omega arith)) ∙ e ∙ take_all i whole past
