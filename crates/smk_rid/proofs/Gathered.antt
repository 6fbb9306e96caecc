-- Numbers put one behind the other, none where it stands last already.
use Rattle.std.proofs.{Common.{◌≡◌, ◌∙◌, ◌<◌, ◌-◌, ℕ, Bool, true, length, List, sym, get_or}, lemmas.List.Elements.{All-contains, Contains-get_or}}
use Rattle.std.specs.{Prelude.IsTrue, List.{All, AllPairs, flat_map, list_any}}
use Rattle.smk_base.specs.Places.{Lists, IsPlaces, has, list_at, members_at}
use Rattle.smk_rid.proofs.{Rising.{has_from, member_from, rising_is}, Joins.has-flat_map, Through.flat_below}
use Rattle.smk_base.proofs.Places.{same_below}

-- the rids so far are those that a test finds, none is above the number but where they don't rise, and the last one is one below it
pub record IsGathered (found : ℕ → Bool) (rids : List ℕ) (above : ℕ) (rises : Bool) : Type 0 where
  pub same : (r : ℕ) → has rids r ≡ found r
  pub last : 0 < above → has rids (above - 1) ≡ true
  pub rising : IsTrue rises → AllPairs (λ x y. x < y) rids
  pub below : IsTrue rises → All (λ r. r < above) rids

-- rids that are found in lists below a bound are below it
pub gathered_below : (m : Lists) (ps rids : List ℕ) → All (IsPlaces m.bound) m.lists → All (λ p. p < length m.lists) ps → ((r : ℕ) → has rids r ≡ list_any (λ p. has (list_at m p) r) ps) → All (λ r. r < m.bound) rids
gathered_below m ps rids sets within same k d low =
    let x = get_or rids k d in
    let flat = flat_map (list_at m) ps in
    let found : has flat x ≡ true = has-flat_map (list_at m) ps x ∙ sym (same x) ∙ has_from rids x (Contains-get_or rids k d low) in
    All-contains (λ r. r < m.bound) flat x (flat_below m ps sets within) (member_from flat x found)

-- and where they rise they are the members of these lists
pub gathered_set : (m : Lists) (ps rids : List ℕ) → All (λ r. r < m.bound) rids → ((r : ℕ) → has rids r ≡ list_any (λ p. has (list_at m p) r) ps) → AllPairs (λ x y. x < y) rids → rids ≡ members_at m ps
gathered_set m ps rids low same up =
    sym (rising_is m.bound rids up low) ∙ same_below (has rids) (λ r. list_any (λ p. has (list_at m p) r) ps) m.bound (λ r _. same r)
