use Rattle.std.proofs.Common.{arith, ◌∙◌, ◌≡◌, ◌<◌, ℕ, List, ap, length, subst, sym}
use Rattle.std.specs.List.{All, flat_map}
use Rattle.smk_base.specs.Places.{Lists, has, list_at, places, upto}
use Rattle.smk_rid.proofs.{Joins.members_is, Through.all_below}
use Rattle.smk_rid.proofs.derive.compose.set_of_numbers.Goals as goal

pub make_set-requires : goal.make_set-requires
make_set-requires c =
    let m : Lists = record { lists = c.args.lists.now; bound = c.args.bound } in
    let end : c.loop-i.i ≡ length m.lists = omega (arith, c.loop-i-test.false, c.loop-i.auto.i-end, c.len-i-end.ensures) in
    let rids : c.loop-i.rids.items ≡ flat_map (list_at m) (upto (length m.lists)) = c.loop-i.invariant.rids ∙ ap (λ (n : ℕ). flat_map (list_at m) (upto n)) end in
    subst (λ (z : List ℕ). All (λ r. r < m.bound) z) (sym rids) (all_below m c.requires.sets)

pub returns : goal.returns
returns c =
    let m : Lists = record { lists = c.args.lists.now; bound = c.args.bound } in
    let end : c.loop-i.i ≡ length m.lists = omega (arith, c.loop-i-test.false, c.loop-i.auto.i-end, c.len-i-end.ensures) in
    let rids : c.loop-i.rids.items ≡ flat_map (list_at m) (upto (length m.lists)) = c.loop-i.invariant.rids ∙ ap (λ (n : ℕ). flat_map (list_at m) (upto n)) end in
    c.in_ok-make_set.ensures ∙ ap (λ (z : List ℕ). places (has z) m.bound) rids ∙ members_is m (upto (length m.lists))
