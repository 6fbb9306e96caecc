-- Maps that are composed and merged.
use Rattle.std.proofs.{Common.{◌≡◌, ◌∙◌, ◌<◌, ◌≤◌, ℕ, true, List, length, get_or, get_or-set_same, slice_set, Option, Some, None, sym, ap, arith, nat_lt, All, inl, inr}, lemmas.Bool.{or_cases, or_left, or_right}, lemmas.List.set-set, lemmas.List.Elements.All-map}
use Rattle.smk_base.specs.Places.{Lists, IsPlaces, pairs_of, members_at, composed, merged}
use Rattle.smk_rid.proofs.Joins.{members_set}
use Rattle.smk_model.proofs.Pairs.{merged_has_both}
use Rattle.smk_model.specs.NodeFaults.{pair_limit}
use Rattle.smk_body.specs.declared.keep.local.Side.{Side}
use Rattle.smk_compose.specs.{Through.{chained, merged_if_both, CanMerge, is_heavy, has_heavy, through, merged_maps, together, map_at, Matches}, declared.kept_maps.KeptMap.KeptMap}

pub composed_sets : (a b : Lists) → All (IsPlaces b.bound) (composed a b).lists
composed_sets a b = All-map (IsPlaces b.bound) (members_at b) a.lists (λ k d l. members_set b (get_or a.lists k d))

more_heavy : (m n : ℕ) → m ≤ n → nat_lt pair_limit m ≡ true → nat_lt pair_limit n ≡ true
more_heavy m n le h = grind (arith, le, h)

-- a chain that has too many pairs has too many merged with others
pub left_heavy : (a b y : Option Lists) → is_heavy (chained a b) ≡ true → is_heavy (merged_if_both (chained a b) y) ≡ true
left_heavy None b y h = absurd (cc)
left_heavy (Some a) None y h = absurd (cc)
left_heavy (Some a) (Some b) None h = h
left_heavy (Some a) (Some b) (Some y) h = more_heavy (pairs_of (composed a b).lists) (pairs_of (merged (composed a b) y).lists) (merged_has_both.left (composed a b) y (composed_sets a b)) h

pub right_heavy : (x a b : Option Lists) → CanMerge x (chained a b) → is_heavy (chained a b) ≡ true → is_heavy (merged_if_both x (chained a b)) ≡ true
right_heavy x None b joins h = absurd (cc)
right_heavy x (Some a) None joins h = absurd (cc)
right_heavy None (Some a) (Some b) joins h = h
right_heavy (Some x) (Some a) (Some b) joins h = more_heavy (pairs_of (composed a b).lists) (pairs_of (merged x (composed a b)).lists) (merged_has_both.right x (composed a b) (sym joins.0) (sym joins.1) (composed_sets a b)) h

-- the maps of a table that have too many pairs by one input have too many by both
pub left_heavy_maps : (ls : Side) (l r : KeptMap) → has_heavy (through ls l) ≡ true → has_heavy (merged_maps (through ls l) r) ≡ true
left_heavy_maps ls l r h = elim (or_cases (is_heavy (chained ls.back l.back)) (is_heavy (chained l.fwd ls.fwd)) h) [
  | inl b ↦ or_left (is_heavy (merged_if_both (chained ls.back l.back) r.back)) (is_heavy (merged_if_both (chained l.fwd ls.fwd) r.fwd)) (left_heavy ls.back l.back r.back b)
  | inr f ↦ or_right (is_heavy (merged_if_both (chained ls.back l.back) r.back)) (is_heavy (merged_if_both (chained l.fwd ls.fwd) r.fwd)) (left_heavy l.fwd ls.fwd r.fwd f)
]

pub right_heavy_maps : (l : KeptMap) (rs : Side) (r : KeptMap) → Matches l (through rs r) → has_heavy (through rs r) ≡ true → has_heavy (merged_maps l (through rs r)) ≡ true
right_heavy_maps l rs r m h = elim (or_cases (is_heavy (chained rs.back r.back)) (is_heavy (chained r.fwd rs.fwd)) h) [
  | inl b ↦ or_left (is_heavy (merged_if_both l.back (chained rs.back r.back))) (is_heavy (merged_if_both l.fwd (chained r.fwd rs.fwd))) (right_heavy l.back rs.back r.back m.back b)
  | inr f ↦ or_right (is_heavy (merged_if_both l.back (chained rs.back r.back))) (is_heavy (merged_if_both l.fwd (chained r.fwd rs.fwd))) (right_heavy l.fwd r.fwd rs.fwd m.fwd f)
]

-- the map of both inputs in its place
pub met_at : (ls rs : Side) (xs ys us vs : List KeptMap) (i : ℕ) (a b m : KeptMap) → i < length xs → i < length ys → us ≡ slice_set xs i (through ls (map_at xs i)) → vs ≡ slice_set ys i (through rs (map_at ys i))
    → m ≡ merged_maps (get_or us i a) (get_or vs i b) → slice_set us i m ≡ slice_set xs i (together ls rs (map_at xs i) (map_at ys i))
met_at ls rs xs ys us vs i a b m low inside made other is =
    let left : get_or us i a ≡ through ls (map_at xs i) = ap (λ (l : List KeptMap). get_or l i a) made ∙ get_or-set_same xs i (through ls (map_at xs i)) a low in
    let right : get_or vs i b ≡ through rs (map_at ys i) = ap (λ (l : List KeptMap). get_or l i b) other ∙ get_or-set_same ys i (through rs (map_at ys i)) b inside in
    ap (λ (l : List KeptMap). slice_set l i m) made ∙ set-set xs i (through ls (map_at xs i)) m
    ∙ ap (slice_set xs i) (is ∙ ap (λ (k : KeptMap). merged_maps k (get_or vs i b)) left ∙ ap (merged_maps (through ls (map_at xs i))) right)
