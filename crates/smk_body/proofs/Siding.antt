-- The lineage of a side from what the first half of a step found.
use Rattle.std.proofs.{Common.{◌≡◌, ◌∙◌, ◌<◌, ◌≤◌, ◌+◌, ◌-◌, ℕ, List, ◌++◌, length, map, take, drop, refl, sym, ap, arith, All, subst, zero-add, Option, None, Some}, lemmas.List.{map-append, map-id, length-map, get_or_default}, lemmas.List.Elements.{All-take, All-drop}, Math.Seq.{take-append_seam, drop-append_seam}}
use Rattle.smk_base.specs.{Places.{Lists, upto, own_lists, inverted, IsPlaces}, declared.book.plan.Dir.Dir}
use Rattle.smk_rid.proofs.Rising.{rising_is}
use Rattle.smk_model.specs.{Values.Row, Plain.firsts, Locals.singles, Classes.{places_in, classes}, Ways.{Way, Targets, IsOf, back_of, fwd_of}}
use Rattle.smk_base.proofs.Places.{get_or_map_upto}
use Rattle.smk_model.proofs.{Ways.lineage_of_ways, Directions.length_each, Parts.map_agree, Classes.{place_in, classes_are}}
use Rattle.smk_body.specs.{Locals.{side_of, wanted}, declared.keep.local.Side.Side, declared.keep.local.Local.Local}
use Rattle.smk_body.proofs.Classing.{length_of, rest_of}

-- a side by its way
pub by_way : {w v : Way} {back fwd : Lists} (want : Dir) → w ≡ v → IsOf v back fwd → side_of want (back_of w) (fwd_of w) ≡ side_of want back fwd
by_way want e is = rw (e, is.backward, is.forward) refl

-- the lists of a side whose rows each reach one row
abbrev side : Option Lists → Option Lists → Side
side back fwd = record { back = back; fwd = fwd }

pub by_targets : (want : Dir) (way : Way) (of slice : List ℕ) (n : ℕ) (back fwd : Option Lists) → way ≡ Targets of n → slice ≡ of → back ≡ wanted want.back (inverted (singles slice n)) → fwd ≡ wanted want.fwd (singles of n)
    → side back fwd ≡ side_of want (back_of way) (fwd_of way)
by_targets want way of slice n back fwd e f b t = rw (e, b, t, f) refl

-- the lineage of a step from that of its sides
abbrev pub one_side : Side → Local
one_side left = record { left = left; right = None }

abbrev pub two_sides : Side → Side → Local
two_sides left right = record { left = left; right = Some right }

pub both_sides : {a b c d : Side} → a ≡ c → b ≡ d → two_sides a b ≡ two_sides c d
both_sides p q = rw (p, q) refl

-- the classes of keys are below their number
pub classes_below : (keys : List Row) → All (λ r. r < length (firsts keys)) (classes keys)
classes_below keys = λ k d h.
    rw (get_or_default (classes keys) k d 0 h) ((classes_are.stand keys).below k (omega (arith, h, length_of keys)))

-- the classes of the rows of two sides, on the left and on the right
pub left_classes : (L R : List Row) → take (length L) (classes (L ++ R)) ≡ places_in (firsts (L ++ R)) L
left_classes L R =
    let place = place_in (firsts (L ++ R)) in
    ap (take (length L)) (map-append place L R) ∙ ap (λ n. take n (map place L ++ map place R)) (sym (length-map L place)) ∙ take-append_seam (map place L) (map place R)

pub right_classes : (L R : List Row) → drop (length L) (classes (L ++ R)) ≡ places_in (firsts (L ++ R)) R
right_classes L R =
    let place = place_in (firsts (L ++ R)) in
    ap (drop (length L)) (map-append place L R) ∙ ap (λ n. drop n (map place L ++ map place R)) (sym (length-map L place)) ∙ drop-append_seam (map place L) (map place R)

-- the same as slices
pub left_slice : (L R : List Row) (of : List ℕ) (n : ℕ) → of ≡ classes (L ++ R) → n ≡ length L → take n of ≡ places_in (firsts (L ++ R)) L
left_slice L R of n e f = rw (e, f) (left_classes L R)

pub right_slice : (L R : List Row) (of : List ℕ) (n : ℕ) → of ≡ classes (L ++ R) → n ≡ length L → take (length of - n) (drop n of) ≡ places_in (firsts (L ++ R)) R
right_slice L R of n e f = rest_of of n ∙ rw (e, f) (right_classes L R)

pub left_below : (L R : List Row) → All (λ r. r < length (firsts (L ++ R))) (places_in (firsts (L ++ R)) L)
left_below L R = let below = λ (r : ℕ). r < length (firsts (L ++ R)) in subst (All below) (left_classes L R) (All-take below (length L) (classes (L ++ R)) (classes_below (L ++ R)))

pub right_below : (L R : List Row) → All (λ r. r < length (firsts (L ++ R))) (places_in (firsts (L ++ R)) R)
right_below L R = let below = λ (r : ℕ). r < length (firsts (L ++ R)) in subst (All below) (right_classes L R) (All-drop below (length L) (classes (L ++ R)) (classes_below (L ++ R)))

-- a stretch of numbers from none on
pub from_none : (n : ℕ) → map (λ i. 0 + i) (upto n) ≡ upto n
from_none n = map_agree (λ i. 0 + i) (λ i. i) zero-add (upto n) ∙ map-id (upto n)

-- a stretch of numbers is below the one behind it
pub stretch_below : (from len n : ℕ) → from + len ≤ n → All (λ r. r < n) (map (λ i. from + i) (upto len))
stretch_below from len n h = λ k d l.
    let low : k < len = omega (arith, l, length_each (λ i. from + i) len) in
    rw (get_or_map_upto (λ i. from + i) len k d low) (omega arith)

-- a stretch of numbers is a set
pub stretch_set : (from len n : ℕ) → from + len ≤ n → IsPlaces n (map (λ i. from + i) (upto len))
stretch_set from len n h = rising_is n (map (λ i. from + i) (upto len)) (λ i j d lt low.
    let long = length_each (λ i. from + i) len in
    omega (arith, get_or_map_upto (λ i. from + i) len i d (omega (arith, low, long)), get_or_map_upto (λ i. from + i) len j d (omega (arith, low, long)))) (stretch_below from len n h)

-- all places in order are the same both ways
pub all_turned : (of : List ℕ) (n : ℕ) → of ≡ upto n → inverted (singles of n) ≡ own_lists n
all_turned of n e = rw e (lineage_of_ways.own n)
