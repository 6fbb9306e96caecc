-- Rids that are places are ascending, and those of rows that are there.
use Rattle.std.proofs.{Common.{◌≡◌, ℕ, ◌<◌, Bool, List, subst, arith, All}, lemmas.List.get_or_default, lemmas.List.Kept.AllPairs-filter}
use Rattle.std.specs.List.{AllPairs, filter}
use Rattle.smk_base.specs.{Places.{IsPlaces, upto, places, has}, Picks.IsAscending}
use Rattle.smk_model.proofs.QueryAnswers.{answers_are_places}
use Rattle.smk_rid.proofs.Sets.{upto_rises}

pub places_ascend : (test : ℕ → Bool) (n : ℕ) → IsAscending (places test n)
places_ascend test n i j h l = AllPairs-filter (λ x y. x < y) test (upto n) (upto_rises n) i j 0 h l

pub rids_ascend : (n : ℕ) (rids : List ℕ) → IsPlaces n rids → IsAscending rids
rids_ascend n rids are = subst (λ (l : List ℕ). IsAscending l) are (places_ascend (has rids) n)

pub rids_low : (bound n : ℕ) (rids : List ℕ) → IsPlaces bound rids → bound ≡ n → All (λ rid. rid < n) rids
rids_low bound n rids are same = subst (λ (k : ℕ). All (λ rid. rid < k) rids) same (answers_are_places.below bound rids are)

-- those that pass of ascending rids are ascending
pub filter_ascends : (test : ℕ → Bool) (rids : List ℕ) → IsAscending rids → IsAscending (filter test rids)
filter_ascends test rids rises i j h l =
    let pairs : AllPairs (λ x y. x < y) rids = λ m n d less low. rw (get_or_default rids m d 0 (omega (arith, less, low)), get_or_default rids n d 0 low) (rises m n less low) in
    AllPairs-filter (λ x y. x < y) test rids pairs i j 0 h l
