use Rattle.std.proofs.Common.{arith, ◌≡◌, ◌∙◌, ◌++◌, List, ℕ, ap}
use Rattle.std.specs.List.{flat_map}
use Rattle.smk_base.specs.Places.{has, places, list_at}
use Rattle.smk_rid.proofs.{Joins.members_is, Through.{flat_below, members_single}}
use Rattle.smk_rid.proofs.derive.compose.gather_lists.Goals as goal

pub make_set-requires : goal.make_set-requires
make_set-requires c =
    let m = c.args.map.now in
    let ps = c.args.places.now in
    let rids : c.put_at.new.rids.items ≡ flat_map (list_at m) ps = c.in_ok-put_at.ensures ∙ ap (λ (z : List ℕ). z ++ flat_map (list_at m) ps) c.clear.ensures.items in
    rw (rids, c.bound.ensures) (flat_below m ps c.pairs-pairs.ensures.keeps.sets c.requires)

pub returns-in_ok-make_set : goal.returns-in_ok-make_set
returns-in_ok-make_set c =
    let m = c.args.map.now in
    let ps = c.args.places.now in
    let rids : c.put_at.new.rids.items ≡ flat_map (list_at m) ps = c.in_ok-put_at.ensures ∙ ap (λ (z : List ℕ). z ++ flat_map (list_at m) ps) c.clear.ensures.items in
    c.in_ok-make_set.ensures ∙ rw c.bound.ensures (ap (λ (z : List ℕ). places (has z) m.bound) rids ∙ members_is m ps)

pub returns-else-several : goal.returns-else-several
returns-else-several c =
    let m = c.args.map.now in
    let ps = c.args.places.now in
    let rids : c.put_at.new.rids.items ≡ flat_map (list_at m) ps = c.in_ok-put_at.ensures ∙ ap (λ (z : List ℕ). z ++ flat_map (list_at m) ps) c.clear.ensures.items in
    rids ∙ members_single m ps c.pairs-pairs.ensures.keeps.sets c.requires (omega arith)
