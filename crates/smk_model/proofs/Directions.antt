-- Lists in one direction from those in the other.
use Rattle.std.proofs.{Common.{◌≡◌, ◌∙◌, ◌<◌, ℕ, List, [], length, map, refl, sym, ap, get_or}, lemmas.List.length-map}
use Rattle.smk_base.specs.Places.{IsPlaces, upto, places, has, inverted}
use Rattle.smk_model.specs.{Plain.{step1, step2}, Lineage.{from1, from_left, from_right}, Locals.{back_lists, fwd_lists}, DirectionLaws.Inverses}
use Rattle.smk_base.proofs.Places.{length_upto, get_or_map_upto, map_upto_agree, same_below, has_places}
use Rattle.smk_model.proofs.{CuiWidom.cui_widom, Composed.bounded}

pub length_each : {X : Type 0} (f : ℕ → X) (n : ℕ) → length (map f (upto n)) ≡ n
length_each f n = length-map (upto n) f ∙ length_upto n

-- lists that a function makes, inverted
pub turned : (f : ℕ → List ℕ) (m n : ℕ) → inverted (record { lists = map f (upto m); bound = n }) ≡ record { lists = map (λ r. places (λ i. has (f i) r) m) (upto n); bound = m }
turned f m n =
    let lists = map f (upto m) in
    let each : map (λ r. places (λ i. has (get_or lists i []) r) (length lists)) (upto n) ≡ map (λ r. places (λ i. has (f i) r) m) (upto n) =
    map_upto_agree (λ r. places (λ i. has (get_or lists i []) r) (length lists)) (λ r. places (λ i. has (f i) r) m) n (λ r h.
    ap (places (λ i. has (get_or lists i []) r)) (length_each f m) ∙ same_below (λ i. has (get_or lists i []) r) (λ i. has (f i) r) m (λ i l. ap (λ z. has z r) (get_or_map_upto f m i [] l))) in
    rw (each, length_each f m) refl

forward : (from : ℕ → List ℕ) (m n : ℕ) → fwd_lists from m n ≡ inverted (back_lists from m n)
forward from m n = sym (turned from m n)

pub backward : (from : ℕ → List ℕ) (m n : ℕ) → ((o : ℕ) → o < m → IsPlaces n (from o)) → back_lists from m n ≡ inverted (fwd_lists from m n)
backward from m n sets =
    let f = λ (i : ℕ). places (λ o. has (from o) i) m in
    let each : map from (upto m) ≡ map (λ r. places (λ i. has (f i) r) n) (upto m) =
    map_upto_agree from (λ r. places (λ i. has (f i) r) n) m (λ r h. sym (same_below (λ i. has (f i) r) (has (from r)) n (λ i l. has_places (λ o. has (from o) i) m r h) ∙ sets r h)) in
    ap (bounded n) each ∙ sym (turned f n m)

pub inverses : Inverses
inverses = record {
  forward = forward;
  backward = backward;
  forward_one = λ op L. forward (from1 op L) (length (step1 op L)) (length L);
  forward_left = λ op L R. forward (from_left op L R) (length (step2 op L R)) (length L);
  forward_right = λ op L R. forward (from_right op L R) (length (step2 op L R)) (length R);
  backward_one = λ op L. backward _ _ _ (λ o h. (cui_widom.one op L o h).places);
  backward_left = λ op L R. backward _ _ _ (λ o h. (cui_widom.two op L R o h).places_left);
  backward_right = λ op L R. backward _ _ _ (λ o h. (cui_widom.two op L R o h).places_right);
}
